use Rattle.std.proofs.Common.{ℕ, List, [], ◌∷◌, arith, subst, sym}
use Rattle.regalloc2_names.specs.Place.{Place}
use Rattle.regalloc2_function.specs.declared.listing.Edit.{Edit}
use Rattle.regalloc2_function.specs.Views.{move_of}
use Rattle.regalloc2_checker.specs.NamedBits.{ArePlacesAdded}
use Rattle.regalloc2_checker.proofs.NamedPlaces.{added-none, edit-more, edits-all}
use Rattle.regalloc2_checker.proofs.names.list_moves.Goals as goal

pub loop-k-init : goal.loop-k-init
loop-k-init g c = added-none c.args.bits.now

pub loop-k-preserved : goal.loop-k-preserved
loop-k-preserved g c =
    let old : List ℕ = c.loop-k.bits in
    let mid : List ℕ = c.list.new.self in
    let new : List ℕ = c.list-in-loop-k.new.self in
    let from = subst (λ (p : Place). ArePlacesAdded old mid (p ∷ [])) c.places-from.ensures.from c.in_ok-list.ensures in
    let to = subst (λ (p : Place). ArePlacesAdded mid new (p ∷ [])) c.places-from.ensures.to c.in_ok-list-2.ensures in
    edit-more c.args.bits.now old mid new c.args.moves.now c.loop-k.k c.index-moves-k.result (omega (arith, c.loop-k-test.true))
    c.index-moves-k.is c.loop-k.invariant
    (subst (λ (e : ℕ × Edit). ArePlacesAdded old mid ((move_of e.1).from ∷ [])) (sym c.index-moves-k.is) from)
    (subst (λ (e : ℕ × Edit). ArePlacesAdded mid new ((move_of e.1).to ∷ [])) (sym c.index-moves-k.is) to)

pub returns : goal.returns
returns g c = edits-all c.args.bits.now c.loop-k.bits c.args.moves.now c.loop-k.k (omega (arith, c.loop-k-test.false)) c.loop-k.invariant
