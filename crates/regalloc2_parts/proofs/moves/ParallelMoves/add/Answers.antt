use Rattle.std.proofs.Common.{◌≡◌, ◌≤◌, ◌++◌, ◌∷◌, [], List, length, arith, sym, subst, ap, ◌∙◌}
use Rattle.std.proofs.lemmas.List.Elements.{All-push}
use Rattle.regalloc2_names.specs.Place.{Place}
use Rattle.regalloc2_names.specs.PlaceBits.{place_of_bits}
use Rattle.regalloc2_parts.specs.AtOnce.{AreReal, IsRealMove}
use Rattle.smallvec.specs.SmallVec.{SmallVec}
use Rattle.std.proofs.lemmas.Bool.{false≢true}
use Rattle.regalloc2_parts.proofs.moves.ParallelMoves.add.Goals as goal

pub invariant_of-self : goal.invariant_of-self
invariant_of-self g c = subst (λ (v : SmallVec (Place × Place × g.row.T.Denot)). AreReal v.items × (16 ≤ v.capacity)) (sym c.in_err-push.ensures.err)
    c.self.invariant

pub returns-in_err-push-clause-inline : goal.returns-in_err-push-clause-inline
returns-in_err-push-clause-inline g c low =
    let room : 16 ≤ c.self.inside.parallel_moves.capacity = c.self.invariant.1 in
    let size : length c.self.inside.parallel_moves.items ≡ length c.args.self.now = ap length c.self.view_is in
    absurd (false≢true (c.in_err-push.ensures.succeeds (omega arith)))

pub invariant_of-self-2 : goal.invariant_of-self-2
invariant_of-self-2 g c =
    let room : 16 ≤ c.self.inside.parallel_moves.capacity = c.self.invariant.1 in
    let more : c.self.inside.parallel_moves.capacity ≤ c.push.new.self.capacity = c.in_ok-push.ensures.capacity in (
      subst (λ (ms : List (Place × Place × g.row.T.Denot)). AreReal ms) (sym c.in_ok-push.ensures.ok)
          (All-push IsRealMove c.self.inside.parallel_moves.items (c.args.from, c.args.to, c.args.t) c.self.invariant.0 (
            subst (λ w. place_of_bits w ≡ c.args.from) c.bits.ensures.bits c.bits.ensures.place,
            subst (λ w. place_of_bits w ≡ c.args.to) c.bits-2.ensures.bits c.bits-2.ensures.place,
            c.requires.from,
            c.requires.to,
          )),
      omega arith,
    )

pub returns-clause-ok : goal.returns-clause-ok
returns-clause-ok g c = c.in_ok-push.ensures.ok ∙ ap (λ xs. xs ++ (c.args.from, c.args.to, c.args.t) ∷ []) c.self.view_is
