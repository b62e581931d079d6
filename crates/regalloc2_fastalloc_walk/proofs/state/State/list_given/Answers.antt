use Rattle.std.proofs.Common.{Bool, ℕ, ◌≡◌, List, true, false, eqb, refl, sym, ap, ◌∙◌, ◌++◌, ◌∷◌, []}
use Rattle.std.specs.Prelude.{Some, not, if◌then◌else◌}
use Rattle.std.proofs.lemmas.Bool.{eqb-true, not-false}
use Rattle.std.proofs.lemmas.Result.{on_ok_weaker}
use Rattle.regalloc2_names.specs.Register.{VirtualRegister}
use Rattle.regalloc2_names.specs.Place.{Place, NoPlace, InRegister, InSlot, is_no_place}
use Rattle.regalloc2_analysis.specs.BranchDefs.Tables.{site_of}
use Rattle.regalloc2_analysis.specs.declared.branch_defs.BranchDefs.{BranchDefs}
use Rattle.regalloc2_fastalloc_state.specs.StateParts.{SpillSlotsValue, slot_name}
use Rattle.regalloc2_fastalloc_walk.specs.BranchStores.{ListsGiven, listed, not_given}
use Rattle.regalloc2_fastalloc_walk.specs.declared.store.StoredDef.{StoredDef}
use Rattle.regalloc2_fastalloc_walk.proofs.state.State.list_given.Goals as goal

no_place_is : (p : Place) → is_no_place p ≡ true → p ≡ NoPlace
no_place_is NoPlace e = refl
no_place_is (InRegister r) e = absurd cc
no_place_is (InSlot n) e = absurd cc

-- a parameter without a slot is given nothing
pub returns-then-is_none-clause-ok : goal.returns-then-is_none-clause-ok
returns-then-is_none-clause-ok g c =
    not_given (λ k has. has.1 (sym c.find_spillslot.ensures.slot ∙ no_place_is c.find_spillslot.result (sym c.is_none.ensures ∙ c.if-is_none.true))) refl

-- an argument that the branch defines is listed, if its parameter has a slot
pub returns-clause-ok : goal.returns-clause-ok
returns-clause-ok g c =
    let j : ℕ = c.in-Some.site.index in
    let same : c.in-Some.site.branch ≡ c.args.edge.now.branch = eqb-true c.in-Some.site.branch c.args.edge.now.branch
    (not-false (eqb c.in-Some.site.branch c.args.edge.now.branch) (sym c.ne.ensures ∙ c.if-ne.false)) in
    listed j (
      sym c.site.ensures ∙ c.in-Some.is ∙ ap (λ (n : ℕ). Some (record { branch = n; index = j })) same,
      λ none. (let x : true ≡ false = sym (ap is_no_place (c.find_spillslot.ensures.slot ∙ none)) ∙ sym c.is_none.ensures ∙ c.if-is_none.false in cc),
    ) c.in_ok-push.ensures.items
