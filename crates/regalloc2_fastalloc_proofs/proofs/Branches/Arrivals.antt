-- The places that hold vregs at a block's start, and where branches leave what they define.
use Rattle.std.proofs.Common.{ℕ, ◌≡◌, ◌≢◌, ◌<◌, ◌⊎◌, inl, inr, true, List, length, refl, sym, ap, ◌∙◌}
use Rattle.std.specs.Prelude.{Option, None, Some, slice_index_or}
use Rattle.regalloc2_names.specs.declared.OperandConstraint.TheVariants.{FixedReg}
use Rattle.regalloc2_names.specs.Register.{Register, VirtualRegister, no_vreg}
use Rattle.regalloc2_names.specs.Operand.{is_def}
use Rattle.regalloc2_names.specs.Place.{Place, NoPlace, InRegister, InSlot}
use Rattle.regalloc2_function.specs.FunctionValue.{FunctionValue, block_at, op_at, last_of}
use Rattle.regalloc2_function.specs.OutputValue.{place_at}
use Rattle.regalloc2_semantics.specs.Runs.{arguments_at}
use Rattle.regalloc2_function.specs.WellFormed.{DefinedOnce}
use Rattle.regalloc2_carry.proofs.SingleDef.{IsDefOperand, one_operand}
use Rattle.regalloc2_analysis.specs.BranchDefs.BranchDefs.{DefinesNumber, IsEdgeInto, IsUsedElsewhere}
use Rattle.regalloc2_fastalloc_proofs.specs.BranchSteps.{IsOwnDef}
use Rattle.regalloc2_fastalloc_proofs.specs.StoreSteps.{branch_operands}
use Rattle.regalloc2_fastalloc_proofs.proofs.BlockEnd.DefsInSlots.{IsAnyOrStack}

-- the place of an operand of the branch at the end of the block e
abbrev pub left_at : FunctionValue → (ℕ → List Place) → ℕ → ℕ → Place
left_at f placesf e j = place_at (placesf (last_of (block_at f e))) j

-- a vreg that a branch defines is used by some other instruction
abbrev pub IsUsedBeyondBranch : FunctionValue → VirtualRegister → Type 0
IsUsedBeyondBranch f v = (b e k : ℕ) → IsEdgeInto f b e k → IsOwnDef f e v → IsUsedElsewhere f v

-- The places that hold vregs at a block's start: what the branch into it defines is in the places of its operands,
-- the parameters to which it is passed are there too, and all others are in their slots. A vreg that only its own branch
-- passes is nowhere.
pub record Arrive (f : FunctionValue) (placesf : ℕ → List Place) (F : ℕ → Option Place) (stand : ℕ → VirtualRegister → Option Place) : Type 0 where
  pub own : (b e k j : ℕ) (v : VirtualRegister) → IsEdgeInto f b e k → DefinesNumber (branch_operands f e) v.number j → IsUsedElsewhere f v →
      stand b v ≡ Some (left_at f placesf e j)
  pub given : (b e k n j : ℕ) → IsEdgeInto f b e k → n < length (block_at f b).params →
      DefinesNumber (branch_operands f e) (slice_index_or (arguments_at f e k) n no_vreg).number j →
      stand b (slice_index_or (block_at f b).params n no_vreg) ≡ Some (left_at f placesf e j)
  pub other : (b : ℕ) (v : VirtualRegister) → IsUsedBeyondBranch f v → ((e k : ℕ) → IsEdgeInto f b e k → IsOwnDef f e v → ⊥) →
      ((e k n : ℕ) → IsEdgeInto f b e k → n < length (block_at f b).params → slice_index_or (block_at f b).params n no_vreg ≡ v →
      IsOwnDef f e (slice_index_or (arguments_at f e k) n no_vreg) → ⊥) → stand b v ≡ F v.number
  pub unused : (b d e k : ℕ) (v : VirtualRegister) → IsEdgeInto f d e k → IsOwnDef f e v → (IsUsedElsewhere f v → ⊥) → stand b v ≡ None

-- where the branch at the end of the block e leaves what it defines: in the fixed register, one for each, or in the
-- vreg's slot
pub record DefsPlaced (f : FunctionValue) (placesf : ℕ → List Place) (F : ℕ → Option Place) (e : ℕ) : Type 0 where
  pub kinds : (j : ℕ) → j < length (branch_operands f e) → is_def (op_at (branch_operands f e) j).kind ≡ true →
      ((r : Register) × ((op_at (branch_operands f e) j).constraint ≡ FixedReg r)) ⊎ IsAnyOrStack (op_at (branch_operands f e) j).constraint
  pub fixed : (j : ℕ) (r : Register) → j < length (branch_operands f e) → is_def (op_at (branch_operands f e) j).kind ≡ true →
      (op_at (branch_operands f e) j).constraint ≡ FixedReg r → left_at f placesf e j ≡ InRegister r
  pub slotted : (j : ℕ) → j < length (branch_operands f e) → is_def (op_at (branch_operands f e) j).kind ≡ true →
      IsAnyOrStack (op_at (branch_operands f e) j).constraint →
      (n : ℕ) × (left_at f placesf e j ≡ InSlot n) × (F (op_at (branch_operands f e) j).vreg.number ≡ Some (InSlot n))
  pub apart : (j k : ℕ) (r : Register) → j < length (branch_operands f e) → k < length (branch_operands f e) →
      is_def (op_at (branch_operands f e) j).kind ≡ true → is_def (op_at (branch_operands f e) k).kind ≡ true →
      (op_at (branch_operands f e) j).constraint ≡ FixedReg r → (op_at (branch_operands f e) k).constraint ≡ FixedReg r → j ≡ k

module _ (f : FunctionValue) (once : DefinedOnce f) (placesf : ℕ → List Place) (F : ℕ → Option Place)
    (own : (x y n : ℕ) → F x ≡ Some (InSlot n) → F y ≡ Some (InSlot n) → x ≡ y) (e : ℕ) (within : last_of (block_at f e) < length f.insts)
    (p : DefsPlaced f placesf F e) where
  -- a definition in a slot is in its own vreg's
  pub own_slot_of : (k : ℕ) → k < length (branch_operands f e) → is_def (op_at (branch_operands f e) k).kind ≡ true → (n : ℕ) →
      left_at f placesf e k ≡ InSlot n → F (op_at (branch_operands f e) k).vreg.number ≡ Some (InSlot n)
  own_slot_of k lt def n at = elim (p.kinds k lt def) [
    | inl r ↦ (let x : InRegister r.0 ≡ InSlot n = sym (p.fixed k r.0 lt def r.1) ∙ at in cc)
    | inr slot ↦ (let s = p.slotted k lt def slot in s.2 ∙ ap Some (sym s.1 ∙ at))
  ]

  -- each definition has a place, and no two have one place
  pub left_there : (k : ℕ) → k < length (branch_operands f e) → is_def (op_at (branch_operands f e) k).kind ≡ true → left_at f placesf e k ≢ NoPlace
  left_there k lt def none = elim (p.kinds k lt def) [
    | inl r ↦ (let x : InRegister r.0 ≡ NoPlace = sym (p.fixed k r.0 lt def r.1) ∙ none in cc)
    | inr slot ↦ (let s = p.slotted k lt def slot in let x : InSlot s.0 ≡ NoPlace = sym s.1 ∙ none in cc)
  ]

  pub left_apart : (j k : ℕ) → j < length (branch_operands f e) → k < length (branch_operands f e) → is_def (op_at (branch_operands f e) j).kind ≡ true →
      is_def (op_at (branch_operands f e) k).kind ≡ true → left_at f placesf e j ≡ left_at f placesf e k → j ≡ k
  left_apart j k lj lk dj dk same = elim (p.kinds j lj dj) [
    | inl r ↦ elim (p.kinds k lk dk) [
      | inl q ↦ (
          let x : InRegister r.0 ≡ InRegister q.0 = sym (p.fixed j r.0 lj dj r.1) ∙ same ∙ p.fixed k q.0 lk dk q.1 in
          let one : r.0 ≡ q.0 = cc in
          p.apart j k r.0 lj lk dj dk r.1 (q.1 ∙ ap FixedReg (sym one)))
      | inr slot ↦ (let s = p.slotted k lk dk slot in let x : InRegister r.0 ≡ InSlot s.0 = sym (p.fixed j r.0 lj dj r.1) ∙ same ∙ s.1 in cc)
    ]
    | inr slot ↦ (
        let s = p.slotted j lj dj slot in
        let n : ℕ = (op_at (branch_operands f e) j).vreg.number in
        let t : F (op_at (branch_operands f e) k).vreg.number ≡ Some (InSlot s.0) = own_slot_of k lk dk s.0 (sym same ∙ s.1) in
        let number : (op_at (branch_operands f e) k).vreg.number ≡ n = own (op_at (branch_operands f e) k).vreg.number n s.0 t s.2 in
        let x : IsDefOperand f n (last_of (block_at f e)) j = record { inst = within; operand = lj; definition = dj; number = refl } in
        let y : IsDefOperand f n (last_of (block_at f e)) k = record { inst = within; operand = lk; definition = dk; number = number } in
        (one_operand f once n (last_of (block_at f e)) (last_of (block_at f e)) j k x y).1)
  ]
