-- Where the branches of a whole walk leave what they define: in fixed registers, one for each, or else in slots.
use Rattle.std.specs.Prelude.{Some, ◌||◌, ◌&&◌, slice_index_or}
use Rattle.std.proofs.Common.{ℕ, ◌≡◌, ◌+◌, ◌<◌, ◌≤◌, ◌⊎◌, true, List, length, inl, inr, refl, sym, ap, ◌∙◌, subst, arith}
use Rattle.std.proofs.lemmas.Bool.{cases_eq, or_right, or_left, and_from}
use Rattle.regalloc2_names.specs.declared.OperandConstraint.{OperandConstraint}
use Rattle.regalloc2_names.specs.declared.OperandConstraint.TheVariants.{Any, Reg, Stack, FixedReg, Reuse, Limit}
use Rattle.regalloc2_names.specs.Register.{Register}
use Rattle.regalloc2_names.specs.Operand.{OperandValue, is_def, is_late}
use Rattle.regalloc2_names.specs.Place.{Place, NoPlace, InRegister, InSlot}
use Rattle.regalloc2_function.specs.FunctionValue.{FunctionValue, IsLimited, block_at, inst_at, op_at, last_of}
use Rattle.regalloc2_function.specs.Machine.{MachineValue}
use Rattle.regalloc2_function.specs.OutputValue.{place_at}
use Rattle.regalloc2_function.specs.WellFormed.{IsWellFormed, BranchDefinesInPlace, IsInPlace}
use Rattle.regalloc2_carry.proofs.Order.{ends_within}
use Rattle.regalloc2_carry.proofs.SingleDef.{Made}
use Rattle.regalloc2_fastalloc_state.specs.Validate.NoLimits.{AreTaken}
use Rattle.regalloc2_fastalloc_state.specs.Positions.{positions_of}
use Rattle.regalloc2_fastalloc_proofs.specs.InstSteps.{StateValue, AllocsInst, NeedsFixedReg, ends_block}
use Rattle.regalloc2_fastalloc_proofs.specs.StoreSteps.{branch_operands}
use Rattle.regalloc2_fastalloc_proofs.specs.BlockSteps.{AllocsBlockInsts, at_end, one_in, AllocsBlocks, all_left, one_block}
use Rattle.regalloc2_fastalloc_proofs.specs.Safety.{MayBeLocatedAt}
use Rattle.regalloc2_fastalloc_proofs.proofs.Operands.AllocsSoFar.{AreSoundOperands, IsGood, MeetsByItself}
use Rattle.regalloc2_fastalloc_proofs.proofs.Operands.RecordOverState.{opt, slots_at}
use Rattle.regalloc2_fastalloc_proofs.proofs.BlockEnd.NoMoveForOperand.{IsOutside}
use Rattle.regalloc2_fastalloc_proofs.proofs.BlockEnd.DefsInSlots.{IsAnyOrStack, defs_in_slots}
use Rattle.regalloc2_fastalloc_proofs.proofs.Branches.Arrivals.{DefsPlaced, left_at}
use Rattle.regalloc2_fastalloc_proofs.proofs.Safety.StoredDefs.{last_within}
use Rattle.regalloc2_fastalloc_proofs.proofs.Safety.WellFormedKeepsSafe.{sound_ops_at}
use Rattle.regalloc2_fastalloc_proofs.proofs.Walk.InstsCarry.{AreListed}
use Rattle.regalloc2_fastalloc_proofs.proofs.Walk.InstBoundaries.{IsEdge, edge_next}
use Rattle.regalloc2_fastalloc_proofs.proofs.Walk.LastInstAndRest.{listed_behind, walk_listed}
use Rattle.regalloc2_fastalloc_proofs.proofs.Walk.FunctionLaws.{PlacedCode}
use Rattle.regalloc2_fastalloc_proofs.proofs.Safety.BlocksKeepSafe.{block_start}

-- the last instruction of a block was allocated from tables in which no vreg is in a register
pub record LastAllocated (f : FunctionValue) (placesf : ℕ → List Place) (e : ℕ) : Type 0 where
  pub blank : List Place
  pub here : List Place
  pub old : StateValue
  pub new : StateValue
  pub allocates : AllocsInst (last_of (block_at f e)) (inst_at f (last_of (block_at f e))) blank here old new
  pub bare : IsOutside old
  pub at : (k : ℕ) → k < length (branch_operands f e) → left_at f placesf e k ≡ slice_index_or here k NoPlace

module _ (code : PlacedCode) where
  open code use {Known, f, proper, kept, follow, ends, placesf}

  -- in the walk over the block
  last_in : (b : ℕ) (lb : b < length f.blocks) (blank : List Place) (old : StateValue) → IsOutside old → (i : ℕ) (places : List Place) (t : StateValue) →
      AllocsBlockInsts f b blank old i places t → i < (block_at f b).range.end → AreListed f placesf i places → LastAllocated f placesf b
  last_in b lb blank old bare i places t at_end = λ less are. absurd (omega (arith, less))
  last_in b lb blank old bare i places t (one_in j p q s u ge less prev a) = λ lt are.
      let within : j < length f.insts = (let h = ends_within f follow b lb in omega (arith, h, less)) in
      elim (cases_eq j (last_of (block_at f b))) [
        | inl e ↦ subst (λ n. ((k : ℕ) → k < length (inst_at f n).operands → place_at (placesf n) k ≡ slice_index_or a.allocates.here k NoPlace) →
            AllocsInst n (inst_at f n) a.allocates.blank a.allocates.here s a.middle → LastAllocated f placesf b) (sym e) (λ at al. record {
              blank = a.allocates.blank;
              here = a.allocates.here;
              old = s;
              new = a.middle;
              allocates = al;
              bare = subst IsOutside (sym (block_start f b blank old (j + 1) p s prev (omega (arith, e, less)))) bare;
              at = at;
            }) (λ k few. are j (omega arith) within k few ∙ a.allocates.inside k few) a.allocates.allocates
        | inr ne ↦ last_in b lb blank old bare (j + 1) p s prev (omega (arith, less, ne))
            (listed_behind code s b j p q s u within a are)
      ]

  -- in the walk over all blocks
  pub last_allocated : (start : List Place) (begin : StateValue) →
      ((c : ℕ) (ps : List Place) (u : StateValue) → AllocsBlocks f start begin c ps u → IsOutside u)
      → (b : ℕ) (places : List Place) (t : StateValue) → AllocsBlocks f start begin b places t → (n : ℕ) → IsEdge f b n → AreListed f placesf n places →
      (e : ℕ) → b ≤ e → e < length f.blocks → LastAllocated f placesf e
  last_allocated start begin outside b places t all_left = λ n edge are e le less. absurd (omega (arith, le, less))
  last_allocated start begin outside b places t (one_block d p q s u w lt prev walk begins) = λ n edge are e le less.
      let first : ℕ = (block_at f d).range.first in
      let some : first < (block_at f d).range.end = (follow d lt).0 in
      let here : AreListed f placesf first q = subst (λ m. AreListed f placesf m q) (edge.0 lt) are in
      elim (cases_eq d e) [
        | inl same ↦ subst (LastAllocated f placesf) same (last_in d lt p s (outside (d + 1) p s prev) first q u walk some here)
        | inr ne ↦ last_allocated start begin outside (d + 1) p s prev (block_at f d).range.end (edge_next f follow d lt)
            (walk_listed code s d lt p s first q u walk here) e (omega (arith, le, ne)) less
      ]

-- two definitions claim their registers at the same time
defs_share_position : (a b : OperandValue) → is_def a.kind ≡ true → is_def b.kind ≡ true →
    (((positions_of a).early && (positions_of b).early) || ((positions_of a).late && (positions_of b).late)) ≡ true
defs_share_position a b x y = or_right ((positions_of a).early && (positions_of b).early) ((positions_of a).late && (positions_of b).late)
    (and_from (positions_of a).late (positions_of b).late
    (or_left (is_def a.kind) (is_late a.position) x) (or_left (is_def b.kind) (is_late b.position) y))

-- a definition whose place is known before registers are chosen: under `FixedReg`, `Any` or `Stack`
in_place : (c : OperandConstraint) → IsInPlace c → ((n : ℕ) → c ≡ Limit n → ⊥) → ((r : Register) × (c ≡ FixedReg r)) ⊎ IsAnyOrStack c
in_place Any h nay = inr (inl refl)
in_place Reg h nay = absurd h
in_place Stack h nay = inr (inr refl)
in_place (FixedReg r) h nay = inl (r, refl)
in_place (Reuse n) h nay = absurd h
in_place (Limit n) h nay = absurd (nay n refl)

-- Each branch leaves its definitions in known places, if it defines in known places and each operand has a good place
-- at the walk's end.
pub defs_placed : (env : MachineValue) (f : FunctionValue) → IsLimited f → IsWellFormed env f → AreTaken f → (placesf : ℕ → List Place) (final : StateValue) →
    ((i k : ℕ) → i < length f.insts → k < length (inst_at f i).operands → IsGood env final.slots (op_at (inst_at f i).operands k) (place_at (placesf i) k)) →
    ((i : ℕ) → i < length f.insts → BranchDefinesInPlace (inst_at f i)) → (e : ℕ) → e < length f.blocks →
    (inst_at f (last_of (block_at f e))).is_branch ≡ true → LastAllocated f placesf e → DefsPlaced f placesf (slots_at final) e
defs_placed env f limited ok taken placesf final good places e le branch m = record {
  kinds = λ j lt def. in_place (op_at (branch_operands f e) j).constraint (places last within branch j lt def) (λ n. sound_ops.unlimited j n lt);
  fixed = λ j r lt def at. subst (λ c. MeetsByItself env c (left_at f placesf e j)) at (good last j within lt).meets;
  slotted = λ j lt def kind. in_slot j lt def kind (left_at f placesf e j) refl ((good last j within lt).place (sound_ops.allocated j lt def));
  apart = λ j k r lj lk dj dk at_j at_k. m.allocates.prepares.reserves.apart j k r (positions_of (op_at (branch_operands f e) j))
      (positions_of (op_at (branch_operands f e) k)) lj lk (NeedsFixedReg.own (sound_ops.allocated j lj dj) at_j refl)
      (NeedsFixedReg.own (sound_ops.allocated k lk dk) at_k refl) (defs_share_position (op_at (branch_operands f e) j) (op_at (branch_operands f e) k) dj dk);
}
  where
    last : ℕ
    last = last_of (block_at f e)

    within : last < length f.insts
    within = last_within f ok.follow e le

    sound_ops : AreSoundOperands (Made f) (inst_at f last).operands
    sound_ops = sound_ops_at env f limited ok taken last within

    ends : ends_block (inst_at f last) ≡ true
    ends = rw branch refl

    in_slot : (j : ℕ) → j < length (branch_operands f e) → is_def (op_at (branch_operands f e) j).kind ≡ true →
        IsAnyOrStack (op_at (branch_operands f e) j).constraint → (p : Place) → left_at f placesf e j ≡ p →
        MayBeLocatedAt env final.slots (op_at (branch_operands f e) j).vreg (left_at f placesf e j) →
        (n : ℕ) × (left_at f placesf e j ≡ InSlot n) × (slots_at final (op_at (branch_operands f e) j).vreg.number ≡ Some (InSlot n))
    in_slot j lt def kind NoPlace is may = absurd (subst (MayBeLocatedAt env final.slots (op_at (branch_operands f e) j).vreg) is may)
    in_slot j lt def kind (InRegister r) is may = absurd (defs_in_slots (inst_at f last) sound_ops ends m.allocates m.bare j
        lt def kind r (sym (m.at j lt) ∙ is))
    in_slot j lt def kind (InSlot n) is may = (n, is, ap opt (subst (MayBeLocatedAt env final.slots (op_at (branch_operands f e) j).vreg) is may))
