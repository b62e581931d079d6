-- The operands of one instruction, placed one after another.
use Rattle.std.proofs.Common.{ℕ, ◌≡◌, ◌≢◌, Bool, true, false, refl, sym, ap, ◌∙◌, inl, inr}
use Rattle.std.specs.Prelude.{not}
use Rattle.std.proofs.lemmas.Bool.{and_parts, cases_eq}
use Rattle.regalloc2_names.specs.Register.{Register}
use Rattle.regalloc2_names.specs.Operand.{OperandValue, is_def, is_reading, is_fixed_nonallocatable}
use Rattle.regalloc2_names.specs.Place.{Place, NoPlace, InRegister, InSlot}
use Rattle.regalloc2_carry.specs.Instruction.{IsTidy}

-- a reading operand is a use
pub reads_use : (o : OperandValue) → is_reading o ≡ true → is_def o.kind ≡ false
reads_use o h = by_test (is_def o.kind) (and_parts (not (is_def o.kind)) (not (is_fixed_nonallocatable o)) h).0
  where
    by_test : (b : Bool) → not b ≡ true → b ≡ false
    by_test true x = absurd cc
    by_test false x = refl

-- the number w, which is in the register r, is evicted to its slot s
pub record Evicted (T S T' S' : ℕ → Place) (w : ℕ) (r : Register) (s : Place) : Type 0 where
  pub stood_there : T w ≡ InRegister r
  pub is_slot : (k : ℕ) × (s ≡ InSlot k)
  pub stands_now : T' w ≡ s
  pub slot_now : S' w ≡ s
  pub slot_before : S w ≢ NoPlace → S w ≡ s
  pub others : (n : ℕ) → n ≢ w → T' n ≡ T n
  pub other_slots : (n : ℕ) → n ≢ w → S' n ≡ S n
  pub own : (n : ℕ) → S' n ≡ s → n ≡ w

module _ (T S T' S' : ℕ → Place) (w : ℕ) (r : Register) (s : Place) (e : Evicted T S T' S' w r s) (tidy : IsTidy T S) where
  -- a number that had a location still has one
  found : (n : ℕ) → T n ≢ NoPlace → T' n ≢ NoPlace
  found n h = elim (cases_eq n w) [
    | inl same ↦ (λ z. let x : InSlot e.is_slot.0 ≡ NoPlace = sym e.is_slot.1 ∙ sym e.stands_now ∙ ap T' (sym same) ∙ z in cc)
    | inr ne ↦ (λ z. h (sym (e.others n ne) ∙ z))
  ]
