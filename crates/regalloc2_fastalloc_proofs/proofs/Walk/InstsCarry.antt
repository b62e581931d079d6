-- What the listing carries, along the walk over all instructions.
use Rattle.std.proofs.Common.{ℕ, ◌≡◌, ◌+◌, ◌<◌, ◌≤◌, false, List, [], length, sym, ◌∙◌, subst}
use Rattle.std.specs.Prelude.{None, Some, slice_index_or}
use Rattle.regalloc2_names.specs.declared.RegClass.{RegClass}
use Rattle.regalloc2_names.specs.Register.{Register, VirtualRegister}
use Rattle.regalloc2_names.specs.Place.{Place, NoPlace, InRegister, InSlot, before}
use Rattle.regalloc2_function.specs.FunctionValue.{FunctionValue, InstValue, inst_at}
use Rattle.regalloc2_function.specs.OutputValue.{place_at}
use Rattle.regalloc2_carry.specs.Carry.{Carries}
use Rattle.regalloc2_carry.specs.BlockByPoints.{at_point, AllFrom, listed}
use Rattle.regalloc2_carry.specs.OperandsPlaced.{Need}
use Rattle.regalloc2_carry.proofs.CarryRules.{carries_nil}
use Rattle.regalloc2_carry.proofs.MoveInFront.{walked-none}
use Rattle.regalloc2_fastalloc_proofs.specs.InstSteps.{StateValue}
use Rattle.regalloc2_fastalloc_proofs.specs.BlockSteps.{offset_of}
use Rattle.regalloc2_fastalloc_state.specs.StateParts.{alloc_of, vreg_of_preg, slot_name, units_of, IsSlotOrNone}
use Rattle.regalloc2_fastalloc_proofs.specs.Safety.{IsWhole}
use Rattle.regalloc2_fastalloc_proofs.proofs.Operands.RecordOverState.{location_at, slots_at}
use Rattle.regalloc2_fastalloc_proofs.proofs.Moves.ScratchRegTaken.{Fit}
use Rattle.regalloc2_fastalloc_proofs.proofs.Inst.AcrossInst.{lives_in}
use Rattle.regalloc2_fastalloc_proofs.proofs.Inst.BoundaryToFirstOperand.{Carried}

-- no vreg has a location, no vreg has a slot, and no move is pushed
pub record Blank (t : StateValue) : Type 0 where
  pub nowhere : (n : ℕ) → alloc_of t.places n ≡ NoPlace
  pub none_held : (r : Register) → r.number < 64 → vreg_of_preg t.places r ≡ None
  pub no_slot : (n : ℕ) → slot_name t.slots n ≡ NoPlace
  pub units : (c : RegClass) → 0 < units_of t.slots c
  pub no_move : t.edits ≡ []

pub blank_whole : (t : StateValue) → Blank t → IsWhole t
blank_whole t b = record {
  holds = λ r v lt h. let x : None ≡ Some v = sym (b.none_held r lt) ∙ h in absurd cc;
  stands_in = λ n r h. let x : NoPlace ≡ InRegister r = sym (b.nowhere n) ∙ h in absurd cc;
  own_slot = λ n k h. let x : NoPlace ≡ InSlot k = sym (b.nowhere n) ∙ h in absurd cc;
  below = λ n. subst (IsSlotOrNone t.slots.count) (sym (b.no_slot n)) tt;
  own = λ m n k h g. let x : NoPlace ≡ InSlot k = sym (b.no_slot m) ∙ h in absurd cc;
  units = b.units;
}

-- before the walk there is nothing to carry
pub at_start : (Known : VirtualRegister → Type 0) (insts : ℕ → InstValue) (placesf : ℕ → List Place) (i : ℕ) (t : StateValue) → Blank t → Fit t →
    Carried Known insts placesf (λ v p. ⊥) i 0 t
unfolding AllFrom
at_start Known insts placesf i t b fit = record {
  whole = blank_whole t b;
  later = subst (λ es. AllFrom (before i) (listed es)) (sym b.no_move) tt;
  claims = λ v known. subst (λ l. Carries v l (Need (lives_in t) (λ x. false) (λ p x. false) (location_at t) (slots_at t) v.number) (λ p. ⊥))
      (sym (walked-none insts (at_point (listed t.edits)) placesf i))
      (carries_nil v (Need (lives_in t) (λ x. false) (λ p x. false) (location_at t) (slots_at t) v.number) (λ p. ⊥) (λ p h. absurd h));
  fit = fit;
  apart = λ c q e x h. let y : NoPlace ≡ InRegister q = sym (b.nowhere x) ∙ h in cc;
}

-- the places of the operands from the instruction i on, in the list of all places
abbrev pub AreListed : FunctionValue → (ℕ → List Place) → ℕ → List Place → Type 0
AreListed f placesf i places = (j : ℕ) → i ≤ j → j < length f.insts → (k : ℕ) → k < length (inst_at f j).operands →
    place_at (placesf j) k ≡ slice_index_or places (offset_of f j + k) NoPlace
