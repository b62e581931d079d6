-- One block of the walk: its listing carries each vreg that is used somewhere, as the lemma on paths requires.
use Rattle.std.proofs.Common.{ℕ, suc, ◌≡◌, ◌≢◌, ◌+◌, ◌-◌, ◌<◌, ◌≤◌, ◌⊎◌, inl, inr, Bool, true, false, List, [], length, refl, sym, ap, ◌∙◌, subst, arith}
use Rattle.std.specs.Prelude.{Option, None, Some, slice_index_or}
use Rattle.regalloc2_names.specs.Register.{Register, VirtualRegister, no_vreg}
use Rattle.regalloc2_names.specs.Place.{Place, NoPlace, InRegister, InSlot, before}
use Rattle.regalloc2_function.specs.FunctionValue.{FunctionValue, InstValue, block_at, inst_at, no_inst, op_at, last_of}
use Rattle.regalloc2_function.specs.OutputValue.{place_at}
use Rattle.regalloc2_carry.specs.Carry.{Carries}
use Rattle.regalloc2_carry.specs.BlockByPoints.{at_point, walked, listed}
use Rattle.regalloc2_semantics.specs.Sound.{target_at}
use Rattle.regalloc2_analysis.specs.BranchDefs.BranchDefs.{IsEdgeInto, IsUsedElsewhere}
use Rattle.regalloc2_carry.specs.Blocks.{IsUsed, IsUsedIn, IsUnwritten, IsExcused, ExcusedAreSilent, StandsBefore, ComesIn, GoesOut}
use Rattle.regalloc2_carry.proofs.BlockBackward.{Relied}
use Rattle.regalloc2_carry.proofs.SingleDef.{Made, ReadsDefined, reads_defined, one_made, not_both}
use Rattle.regalloc2_carry.proofs.SingleDef.Made.{by_operand}
use Rattle.regalloc2_carry.proofs.CarryRules.{carries_weaken, carries_moves}
use Rattle.regalloc2_carry.proofs.NotRead.{ReadsOthersOnly, silent_walked, carries_silent}
use Rattle.regalloc2_carry.specs.Listing.{Item}
use Rattle.regalloc2_carry.specs.Stores.{store_moves}
use Rattle.regalloc2_semantics.specs.Debug.{UsesAt}
use Rattle.regalloc2_semantics.specs.Runs.{arguments_at}
use Rattle.regalloc2_names.specs.declared.OperandPos.{OperandPos}
use Rattle.regalloc2_names.specs.declared.OperandPos.TheVariants.{Early, Late}
use Rattle.std.proofs.lemmas.List.{get_or_default, get_or_past, nil_from_length}
use Rattle.std.proofs.lemmas.Bool.{cases_Bool, cases_lt}
use Rattle.regalloc2_carry.proofs.Order.{ends_within}
use Rattle.regalloc2_fastalloc_proofs.specs.InstSteps.{StateValue}
use Rattle.regalloc2_fastalloc_proofs.specs.BranchSteps.{IsOwnDef}
use Rattle.regalloc2_fastalloc_proofs.specs.StoreSteps.{branch_operands, IsConcerned, StoresBranchDefs, none_stored, all_stored}
use Rattle.regalloc2_fastalloc_proofs.specs.BlockSteps.{AllocsInstInBlock, AllocsBlockInsts, AllocsBlocks}
use Rattle.regalloc2_fastalloc_proofs.specs.Safety.{IsWhole}
use Rattle.regalloc2_fastalloc_proofs.proofs.Safety.StepsKeepState.{place_in, slot_in, slot_no_register}
use Rattle.regalloc2_fastalloc_proofs.proofs.Operands.RecordOverState.{location_at, slots_at, opt_from, opt_real, grown_slots}
use Rattle.regalloc2_fastalloc_proofs.proofs.Walk.InstsCarry.{AreListed}
use Rattle.regalloc2_fastalloc_proofs.proofs.Slots.StepsKeepSlots.{Grown, grown_then, changes_grow, AnyPlace}
use Rattle.regalloc2_fastalloc_proofs.proofs.Moves.StepsAppendEdits.{pushed_walked}
use Rattle.regalloc2_fastalloc_proofs.proofs.BlockEnd.NoMoveForOperand.{IsEmpty, IsOutside}
use Rattle.regalloc2_fastalloc_proofs.proofs.Inst.OneInstCarries.{IsBetweenInsts, CarriesByItself, carries_by_itself}
use Rattle.regalloc2_fastalloc_proofs.proofs.Walk.InstForOneVReg.{LeavesOwnSlot}
use Rattle.regalloc2_fastalloc_proofs.proofs.Walk.InstsBeforeLastCarry.{defined_from}
use Rattle.regalloc2_fastalloc_proofs.proofs.Walk.BlockObligations.{Walked, block_owes}
use Rattle.regalloc2_fastalloc_proofs.proofs.BlockEnd.LastInst.{return_owes}
use Rattle.regalloc2_fastalloc_proofs.proofs.Operands.DefinedNumbers.{defined_by, defined_by-number, number_defined}
use Rattle.regalloc2_fastalloc_proofs.proofs.BlockBegin.StoresOfDefs.{stores_branch_defs_grown, walked_stores}
use Rattle.regalloc2_fastalloc_proofs.proofs.BlockBegin.BranchDefsCarried.{stores_branch_defs_carried}
use Rattle.regalloc2_fastalloc_proofs.proofs.Branches.Arrivals.{IsUsedBeyondBranch, Arrive, DefsPlaced}
use Rattle.regalloc2_fastalloc_proofs.proofs.Branches.EdgeArgsGathered.{params_on, passes_at}
use Rattle.regalloc2_fastalloc_proofs.proofs.Slots.LiveInHasSlot.{used_at_begin}
use Rattle.regalloc2_fastalloc_proofs.proofs.Walk.InstBoundaries.{IsEdge, grown_weaken, grown_fresh, grown_pushes, kept_code_of, in_between, edge_next}
use Rattle.regalloc2_fastalloc_proofs.proofs.Walk.InstBoundaries.{allocs_blocks_between, in_own_slot_or_nowhere, allocs_blocks_outside}
use Rattle.regalloc2_fastalloc_proofs.proofs.Walk.DefsBeforeUses.{used_made, used_in_some_block, param_before, written_there, stands_behind}
use Rattle.regalloc2_fastalloc_proofs.proofs.Walk.LastInstAndRest.{Split, split, KeepsSlots, leaves_at}
use Rattle.regalloc2_fastalloc_proofs.proofs.Walk.FunctionLaws.{FunctionLaws, BlockInWalk, PlacedCode, code_of}
use Rattle.regalloc2_fastalloc_proofs.proofs.Inst.ProperInsts.{proper_of}
use Rattle.regalloc2_fastalloc_proofs.proofs.Changes.WalkChanges.{begins_block_changes, any_begin}

-- whether a block writes a number
abbrev pub writes_in : FunctionValue → ℕ → ℕ → ℕ → Bool
writes_in f b last x = defined_from f x (block_at f b).range.first (suc (last - (block_at f b).range.first))

-- What holds at a block's end, with the tables after and before its last instruction; F: the slots at the walk's end.
pub record BlockEnd (f : FunctionValue) (placesf : ℕ → List Place) (F : ℕ → Option Place) (b last : ℕ) (old new : StateValue) : Type 0 where
  pub end : last + 1 ≡ (block_at f b).range.end
  pub blank : List Place
  pub places : List Place
  pub allocates : AllocsInstInBlock f b last blank places old new
  pub at : (k : ℕ) → k < length (inst_at f last).operands → place_at (placesf last) k ≡ slice_index_or allocates.allocates.here k NoPlace
  pub between : IsBetweenInsts (last + 1) old
  pub in_slot_or_nowhere : (x : ℕ) → (place_in old x ≡ NoPlace) ⊎ ((k : ℕ) × (place_in old x ≡ InSlot k) × (slot_in old x ≡ InSlot k))
  pub stays : (x : ℕ) (p : Place) → slots_at new x ≡ Some p → F x ≡ Some p
  pub fresh : (x k : ℕ) → slots_at new x ≡ None → F x ≡ Some (InSlot k) → new.slots.count ≤ k
  pub own : (x y n : ℕ) → F x ≡ Some (InSlot n) → F y ≡ Some (InSlot n) → x ≡ y
  pub only_slots : (x : ℕ) (r : Register) → F x ≡ Some (InRegister r) → ⊥
  pub bare : IsOutside old
  pub writes : (v : VirtualRegister) → Made f v → writes_in f b last v.number ≡ true → IsUnwritten f b v → ⊥
  pub lives : (v : VirtualRegister) → writes_in f b last v.number ≡ true → (c : ℕ) → c < length f.blocks → c ≢ b → IsUsedIn f c v →
      place_in old v.number ≢ NoPlace

-- What the last instruction of a block carries: each vreg that is used somewhere, except for parameters of which
-- nothing is required.
abbrev pub EndCarries : FunctionValue → (ℕ → List Place) → (ℕ → Option Place) → (ℕ → VirtualRegister → Option Place) → ℕ → ℕ → StateValue → Type 0
EndCarries f placesf F stand b last new = ExcusedAreSilent f b → (v : VirtualRegister) → IsUsed f v → (IsExcused f b v → ⊥) →
    Carries v (walked (inst_at f) (at_point (listed new.edits)) placesf last 1)
    (Relied (defined_from f v.number last 1) (writes_in f b last v.number) (location_at new v.number) (slots_at new v.number) (F v.number))
    (GoesOut f stand b v)

-- a branch carries it
abbrev pub BranchCarries : FunctionValue → (ℕ → List Place) → (ℕ → Option Place) → (ℕ → VirtualRegister → Option Place) → Type 0
BranchCarries f placesf F stand = (b last : ℕ) (old new : StateValue) → b < length f.blocks → BlockEnd f placesf F b last old new →
    (inst_at f last).is_branch ≡ true → EndCarries f placesf F stand b last new

-- no vreg is needed after a block without successors
pub no_vreg_out_of_last_block : (f : FunctionValue) (stand : ℕ → VirtualRegister → Option Place) (b : ℕ) (v : VirtualRegister) (p : Place) → (block_at f b).succs ≡ [] →
    GoesOut f stand b v p → ⊥
no_vreg_out_of_last_block f stand b v p none (inl own) = (let edge = own.1 in let n : length (block_at f b).succs ≡ 0 = ap length none in omega (arith, edge, n))
no_vreg_out_of_last_block f stand b v p none (inr passed) = (let edge = passed.2 in let n : length (block_at f b).succs ≡ 0 = ap length none in omega (arith, edge, n))

-- a vreg that a branch defines and only its own edges pass on
abbrev pub IsPassedOnly : FunctionValue → VirtualRegister → Type 0
IsPassedOnly f v = (b e k : ℕ) × IsEdgeInto f b e k × IsOwnDef f e v × (IsUsedElsewhere f v → ⊥)

-- points before an instruction
abbrev pub ComesBefore : ℕ → ℕ → Type 0
ComesBefore i p = p < before i

-- The context for blocks to carry each vreg: the function's properties; the places of operands and the final tables,
-- whose slots all instructions keep if the tables are safe (SafeIn); where vregs are at block starts, and what edges
-- bring there; branches that carry; and the fresh tables from which the walk, safe throughout, begins.
pub record CarryingContext : Type 1 where
  pub laws : FunctionLaws
  open laws use {f, follow, ends, proper, kept}
  pub placesf : ℕ → List Place
  pub final : StateValue
  pub whole : IsWhole final
  pub SafeIn : ℕ → StateValue → Type 0
  pub keeps : KeepsSlots (code_of (Made f) f proper kept follow ends placesf) final SafeIn
  pub stand : ℕ → VirtualRegister → Option Place
  pub arrive : Arrive f placesf (slots_at final) stand
  pub placed : (b e k : ℕ) → IsEdgeInto f b e k → DefsPlaced f placesf (slots_at final) e
  pub one_edge_into : (b e k d l : ℕ) → IsEdgeInto f b e k → IsEdgeInto f b d l → (d ≡ e) × (l ≡ k)
  pub concerned : (b e k : ℕ) (v : VirtualRegister) → IsEdgeInto f b e k → IsConcerned f e k v → Made f v
  pub decide : (v : VirtualRegister) → IsUsed f v → IsUsedBeyondBranch f v ⊎ IsPassedOnly f v
  pub branches : BranchCarries f placesf (slots_at final) stand
  pub blank : List Place
  pub begin : StateValue
  pub start : IsBetweenInsts (length f.insts) begin
  pub empty : IsEmpty begin
  pub safe : (b : ℕ) → b < length f.blocks → (p : List Place) (s : StateValue) → AllocsBlocks f blank begin (b + 1) p s → (i : ℕ) (q : List Place)
      (u : StateValue) → AllocsBlockInsts f b p s i q u → AreListed f placesf i q → SafeIn b u

module _ (carrying : CarryingContext) where
  open carrying.laws use {f, once, follow, ends, uses, counted, proper, kept}
  open carrying use {placesf, final, whole, SafeIn, keeps, stand, arrive, placed, one_edge_into, concerned, decide, branches, blank, begin, start, empty, safe}

  -- the function, with the places of its operands
  abbrev code : PlacedCode
  code = code_of (Made f) f proper kept follow ends placesf

  -- a slot at the walk's end is no register
  slot_only : (x : ℕ) (r : Register) → slots_at final x ≡ Some (InRegister r) → ⊥
  slot_only x r e = slot_no_register final.slots.count (slot_in final x) r (whole.below x) (opt_from (slot_in final x) (InRegister r) e)

  slot_own : (x y n : ℕ) → slots_at final x ≡ Some (InSlot n) → slots_at final y ≡ Some (InSlot n) → x ≡ y
  slot_own x y n a b = whole.own x y n (opt_from (slot_in final x) (InSlot n) a) (opt_from (slot_in final y) (InSlot n) b)

  abbrev each_leaves : ℕ → StateValue → StateValue → Type 0
  each_leaves i s u = (v : VirtualRegister) → Made f v → LeavesOwnSlot f placesf (slots_at final) v i s u

  module _ (at : BlockInWalk f blank begin) (are_listed : AreListed f placesf (block_at f at.b).range.first at.q)
      (rest : Grown (ComesBefore (block_at f at.b).range.first) at.w final) where
    open at use {b, lb, p, q, s, u, w, prev, walk, begins}

    abbrev last : ℕ
    last = last_of (block_at f b)

    reads : (i : ℕ) → i < length f.insts → ReadsDefined f i
    reads = reads_defined f (omega (arith, lb)) follow uses

    some : (block_at f b).range.first < (block_at f b).range.end
    some = (follow b lb).0

    count : (block_at f b).range.first + suc (last - (block_at f b).range.first) ≡ (block_at f b).range.end
    count = (let h : (block_at f b).range.first < (block_at f b).range.end = (follow b lb).0 in omega (arith, h))

    ended : last + 1 ≡ (block_at f b).range.end
    ended = (let h : (block_at f b).range.first < (block_at f b).range.end = (follow b lb).0 in omega (arith, h))

    within : last < length f.insts
    within = (let h = ends_within f follow b lb in let e = ended in omega (arith, h, e))

    -- the tables after its last instruction
    behind : IsBetweenInsts (last + 1) s
    behind = allocs_blocks_between (kept_code_of (Made f) f proper kept) follow blank begin start (b + 1) p s prev (last + 1)
        (subst (IsEdge f (b + 1)) (sym ended) (edge_next f follow b lb))

    -- from the block's first instruction to the walk's end
    onward : Grown AnyPlace u final
    onward = grown_then AnyPlace u w final (changes_grow AnyPlace (begins_block_changes (any_begin (λ e. AnyPlace e.0) f b (λ n r. tt)) begins))
        (grown_weaken (ComesBefore (block_at f b).range.first) AnyPlace w final (λ n x. tt) rest)

    parts : Split f placesf each_leaves final b last s (block_at f b).range.first u
    parts = split code final b lb p s each_leaves
        (λ i q x y ge sooner walked_to listed_to g h. leaves_at code final SafeIn keeps b i x y lb ge sooner
        (safe b lb p s prev i q y walked_to listed_to) g h)
        (block_at f b).range.first q u walk some are_listed onward

    before_last : IsBetweenInsts last parts.begin
    before_last = in_between (kept_code_of (Made f) f proper kept) b last parts.blank parts.places s parts.begin within parts.ends behind

    in_slot_or_nowhere : (x : ℕ) → (place_in s x ≡ NoPlace) ⊎ ((k : ℕ) × (place_in s x ≡ InSlot k) × (slot_in s x ≡ InSlot k))
    in_slot_or_nowhere = in_own_slot_or_nowhere (kept_code_of (Made f) f proper kept) follow blank begin start empty.nowhere (b + 1) p s prev

    at_block_end : BlockEnd f placesf (slots_at final) b last s parts.begin
    at_block_end = record {
      end = ended;
      blank = parts.blank;
      places = parts.places;
      allocates = parts.ends;
      at = parts.at;
      between = behind;
      in_slot_or_nowhere = in_slot_or_nowhere;
      stays = grown_slots AnyPlace parts.begin final parts.rest;
      fresh = λ x k none is. grown_fresh AnyPlace parts.begin final parts.rest before_last.whole x k none is;
      own = slot_own;
      only_slots = slot_only;
      bare = allocs_blocks_outside (kept_code_of (Made f) f proper kept) follow blank begin start empty (b + 1) p s prev;
      writes = λ v made is. written_there carrying.laws b lb v (suc (last - (block_at f b).range.first)) count is made;
      lives = λ v is c lc ne used. stands_behind carrying.laws b lb v (suc (last - (block_at f b).range.first)) count is c
          lc ne used start prev;
    }

    -- the block's last instruction carries what the block needs at its end
    end_carries : EndCarries f placesf (slots_at final) stand b last parts.begin
    end_carries = elim (ends b lb).0 [
      | inl branch ↦ branches b last s parts.begin lb at_block_end branch.0
      | inr ret ↦ λ silent v used excused. (
          let a : CarriesByItself (proper_of (Made f) f placesf proper) last s parts.ends.middle =
          carries_by_itself (proper_of (Made f) f placesf proper) last parts.ends.allocates.blank parts.ends.allocates.here s parts.ends.middle within parts.at behind
          parts.ends.allocates.allocates in
          let there = used_in_some_block f v used in
          return_owes (proper_of (Made f) f placesf proper) (slots_at final) last s parts.begin v (used_made f once follow uses v there.0 there.1 there.2)
          (writes_in f b last v.number)
          (GoesOut f stand b v) (subst (CarriesByItself (proper_of (Made f) f placesf proper) last s) (sym (parts.ends.no_branch ret.0)) a)
          (rw (ret.0, ret.1) refl)
          (λ x e. no_vreg_out_of_last_block f stand b v x (nil_from_length (block_at f b).succs ret.2) e))
    ]

    -- from the reloads at its start to the walk's end
    from_middle : Grown AnyPlace begins.middle final
    from_middle = grown_then AnyPlace begins.middle w final (stores_branch_defs_grown AnyPlace f b begins.middle w tt begins.stores)
        (grown_weaken (ComesBefore (block_at f b).range.first) AnyPlace w final (λ n x. tt) rest)

    all_walked : Walked (proper_of (Made f) f placesf proper) once reads (slots_at final) slot_only b last parts.begin u begins.middle
    all_walked = record {
      end = ended;
      some = (let h = some in omega (arith, h));
      within = within;
      start = before_last;
      goes = parts.goes;
      begins = begins.reloads;
      returns = λ i ge less. (let flat = (ends b lb).1 i ge (let e = ended in omega (arith, less, e)) less in rw (flat.0, flat.1) refl);
      stays = grown_slots AnyPlace begins.middle final from_middle;
    }

    abbrev first : ℕ
    first = (block_at f b).range.first

    -- the listing of the block, with the moves of the tables t
    abbrev Listing : StateValue → List Item
    Listing t = walked (inst_at f) (at_point (listed t.edits)) placesf first (suc (last - first))

    -- the block carries with the reloads at its start
    reloaded : ExcusedAreSilent f b → (v : VirtualRegister) → IsUsed f v → (IsExcused f b v → ⊥) →
        Carries v (Listing begins.middle) (StandsBefore f (λ x. slots_at final x.number) b v) (GoesOut f stand b v)
    reloaded silent v used excused =
        let there = used_in_some_block f v used in
        block_owes (proper_of (Made f) f placesf proper) once reads (slots_at final) slot_only b last parts.begin u begins.middle all_walked v
        (used_made f once follow uses v there.0 there.1 there.2) (GoesOut f stand b v) (end_carries silent v used excused)

    -- stores in front do nothing to what is carried from nowhere
    from_nowhere : (v : VirtualRegister) (E : Place → Type 0) → Carries v (Listing begins.middle) (λ p. ⊥) E → StoresBranchDefs f b begins.middle w →
        Carries v (Listing w) (λ p. ⊥) E
    from_nowhere v E c (none_stored none same) = subst (λ (t : StateValue). Carries v (Listing t) (λ p. ⊥) E) (sym same) c
    from_nowhere v E c (all_stored e k edge st) =
        subst (λ l. Carries v l (λ p. ⊥) E)
        (sym (ap (λ es. walked (inst_at f) (at_point (listed es)) placesf first (suc (last - first))) st.edits
        ∙ walked_stores (inst_at f) placesf first (last - first) (store_moves st.stores) begins.middle.edits))
        (carries_moves v (store_moves st.stores) (Listing begins.middle) (λ p. ⊥) (λ p. ⊥) E (λ src c2 holds p h. absurd h) c)

    -- a vreg that is passed only by the branch that defines it
    unused_carries : ExcusedAreSilent f b → (v : VirtualRegister) → IsUsed f v → (IsExcused f b v → ⊥) → IsPassedOnly f v →
        Carries v (Listing w) (ComesIn f stand b v) (GoesOut f stand b v)
    unused_carries silent v used excused un =
        carries_weaken v (Listing w) (λ p. ⊥) (ComesIn f stand b v) (GoesOut f stand b v) (GoesOut f stand b v) (λ p h. absurd h) (λ p h. h)
        (from_nowhere v (GoesOut f stand b v) (elim (cases_Bool (defined_by (branch_operands f b) v.number)) [
          | inl is ↦ carries_weaken v (Listing begins.middle) (StandsBefore f (λ x. slots_at final x.number) b v) (λ p. ⊥) (GoesOut f stand b v)
              (GoesOut f stand b v) (λ p h. written is h.0) (λ p h. h) (reloaded silent v used excused)
          | inr none ↦ carries_weaken v (Listing begins.middle) (λ p. ⊥) (λ p. ⊥) (λ p. ⊥) (GoesOut f stand b v) (λ p h. h) (λ p h. no_way none h)
              (carries_silent v (Listing begins.middle) (λ p. ⊥) (silent_walked v (inst_at f) (at_point (listed begins.middle.edits)) placesf first
              (suc (last - first)) (λ i ge lt. unread i (let e = ended in omega (arith, ge, lt, e, some, within)))))
        ]) begins.stores)
      where
        made : Made f v
        made = (let there = used_in_some_block f v used in used_made f once follow uses v there.0 there.1 there.2)

        written : defined_by (branch_operands f b) v.number ≡ true → IsUnwritten f b v → ⊥
        written is unwritten =
            let d = number_defined (branch_operands f b) v.number is in
            unwritten last (let e = ended in omega (arith, e, some)) (let e = ended in omega (arith, e)) d.0 d.1.operand d.1.definition
            (one_made f once (op_at (branch_operands f b) d.0).vreg v (by_operand last d.0 (record {
              inst = within;
              operand = d.1.operand;
              definition = d.1.definition;
              number = refl;
            }) refl) made d.1.number)

        unread : (i : ℕ) → i < length f.insts → ReadsOthersOnly (inst_at f i).operands v
        unread i lt j less reads is = un.5 (i, by_position (op_at (inst_at f i).operands j).position refl)
          where
            by_position : (q : OperandPos) → (op_at (inst_at f i).operands j).position ≡ q → UsesAt f v i
            by_position Early e = inl (j, (lt, less, is), reads, e)
            by_position Late e = inr (inl (j, (lt, less, is), reads, e))

        no_way : {p : Place} → defined_by (branch_operands f b) v.number ≡ false → GoesOut f stand b v p → ⊥
        no_way {p} none (inl h) = (let x : None ≡ Some p = sym (arrive.unused (target_at f b h.0) un.0 un.1 un.2 v un.3 un.4 un.5) ∙ h.4 in cc)
        no_way {p} none (inr h) =
            let j = passes_at (params_on f b h.0) (arguments_at f b h.0) h.1 v h.3 in
            let long = counted b lb h.0 h.2 in
            let inside : j.0 < length (arguments_at f b h.0) = (let less = j.1 in omega (arith, long, less)) in
            un.5 (
              last,
              inr (inr (
                b,
                (
                  h.0,
                  (ended, h.2),
                  (j.0, inside, get_or_default (arguments_at f b h.0) j.0 v no_vreg inside ∙ j.3),
                  λ d.
                      let o : (op_at (branch_operands f b) d.0).vreg.number ≡ v.number = ap (λ (x : VirtualRegister). x.number) d.1.2 in
                      let is : defined_by (branch_operands f b) v.number ≡ true = defined_by-number (branch_operands f b) v.number d.0
                      (record { operand = d.1.1; definition = d.2; number = o }) in cc,
                ),
              )),
            )

    -- the block, with the moves that the whole walk lists
    pub block_carries : ExcusedAreSilent f b → (v : VirtualRegister) → IsUsed f v → (IsExcused f b v → ⊥) →
        Carries v (walked (inst_at f) (at_point (listed final.edits)) placesf (block_at f b).range.first
        ((block_at f b).range.end - (block_at f b).range.first)) (ComesIn f stand b v) (GoesOut f stand b v)
    block_carries silent v used excused =
        let n : ℕ = suc (last - first) in
        let there = used_in_some_block f v used in
        let made : Made f v = used_made f once follow uses v there.0 there.1 there.2 in
        let c : Carries v (Listing w) (ComesIn f stand b v) (GoesOut f stand b v) = elim (decide v used) [
          | inl needed ↦ stores_branch_defs_carried (record {
            f = f;
            once = once;
            placesf = placesf;
            F = slots_at final;
            stand = stand;
            arrive = arrive;
            own = slot_own;
            only = λ x q is. slot_there x q is;
            lasts = λ e le. (let h = ends_within f follow e le in let h2 = (follow e le).0 in omega (arith, h, h2));
            concerned = concerned;
            b = b;
            lb = lb;
            middle = begins.middle;
            new = w;
            stays = grown_slots (ComesBefore first) w final rest;
            placed = λ e k edge. placed b e k edge;
            v = v;
            made = made;
            needed = needed;
            has_slot = λ m lt is. used_at_begin carrying.laws blank begin start there.0 there.1 v
                (param_unwritten m lt is there.0) there.2 at (before_use m lt is there.0 there.1 there.2);
          })
              (λ e k d l x y. one_edge_into b e k d l x y) begins.stores (last - first) (GoesOut f stand b v) (reloaded silent v used excused)
          | inr un ↦ unused_carries silent v used excused un
        ] in
        let same : walked (inst_at f) (at_point (listed final.edits)) placesf first n ≡ walked (inst_at f) (at_point (listed w.edits)) placesf first n =
        pushed_walked (λ e. ComesBefore first e.0) (inst_at f) placesf first n w.edits final.edits (λ e h. h) (grown_pushes (ComesBefore first) w final rest) in
        let many : n ≡ (block_at f b).range.end - first = (let h = count in omega (arith, h)) in
        subst (λ m. Carries v (walked (inst_at f) (at_point (listed final.edits)) placesf first m) (ComesIn f stand b v) (GoesOut f stand b v)) many
        (subst (λ l. Carries v l (ComesIn f stand b v) (GoesOut f stand b v)) (sym same) c)
      where
        slot_there : (x : ℕ) (q : Place) → slots_at final x ≡ Some q → (n : ℕ) × (q ≡ InSlot n)
        slot_there x NoPlace is = absurd (opt_real (slot_in final x) NoPlace is refl)
        slot_there x (InRegister r) is = absurd (slot_only x r is)
        slot_there x (InSlot n) is = (n, refl)

        param_unwritten : (m : ℕ) → m < length (block_at f b).params → slice_index_or (block_at f b).params m no_vreg ≡ v → (c : ℕ) → IsUnwritten f c v
        param_unwritten m lt is c i ge less j lj def at = elim (cases_lt i (length f.insts)) [
          | inl inside ↦ not_both f once v.number i j b m
              (record { inst = inside; operand = lj; definition = def; number = ap (λ (x : VirtualRegister). x.number) at })
              (record { block = lb; param = lt; number = ap (λ (x : VirtualRegister). x.number) is })
          | inr past ↦ (let none : (inst_at f i).operands ≡ [] = ap (λ (x : InstValue). x.operands) (get_or_past f.insts i no_inst past) in
              let few : length (inst_at f i).operands ≡ 0 = ap length none in omega (arith, few, lj))
        ]

        before_use : (m : ℕ) → m < length (block_at f b).params → slice_index_or (block_at f b).params m no_vreg ≡ v → (c : ℕ) → c < length f.blocks →
            IsUsedIn f c v → b ≤ c
        before_use m lt is c lc used_in = param_before f once follow uses b m v (record {
          block = lb;
          param = lt;
          number = ap (λ (x : VirtualRegister). x.number) is;
        }) lb c lc used_in
