-- An operand claims its place, which is held from then on: the record is kept.
use Rattle.std.proofs.Common.{ℕ, ◌≡◌, ◌≢◌, ◌<◌, Bool, true, false, List, refl, sym, ap, ◌∙◌, subst, inl, inr}
use Rattle.std.specs.Prelude.{None, Some, not, ◌&&◌, slice_index_or}
use Rattle.std.proofs.lemmas.Bool.{cases_eq}
use Rattle.regalloc2_names.specs.declared.RegClass.{RegClass}
use Rattle.regalloc2_names.specs.Register.{Register, class_code, is_register, has_register}
use Rattle.regalloc2_names.specs.Operand.{OperandValue}
use Rattle.regalloc2_names.specs.Place.{Place, NoPlace, InRegister, InSlot}
use Rattle.regalloc2_carry.specs.OperandsPlaced.{what_of, Counts, Progress, Puts}
use Rattle.regalloc2_carry.proofs.BoundaryToBoundary.{Covers, IsHeldAsAsked as Keeps, held_more}
use Rattle.regalloc2_semantics.proofs.Cells.{is_register-same}
use Rattle.regalloc2_fastalloc_state.specs.declared.inst_regs.InstRegs.{InstRegs}
use Rattle.regalloc2_fastalloc_state.specs.declared.positions.Positions.{Positions}
use Rattle.regalloc2_fastalloc_state.specs.InstRegs.{RemovesAvailable, SameAvailable}
use Rattle.regalloc2_fastalloc_proofs.specs.InstSteps.{StateValue}
use Rattle.regalloc2_fastalloc_proofs.proofs.Operands.RecordOverState.{Located}
use Rattle.regalloc2_fastalloc_proofs.proofs.Evictions.EvictVReg.{held_early, held_late}
use Rattle.regalloc2_fastalloc_proofs.proofs.Moves.ScratchRegTaken.{IsIdle, IsScratch, of_machine, taken, Less}
use Rattle.regalloc2_fastalloc_proofs.proofs.Operands.RecordOfInst.{Ready}
use Rattle.regalloc2_fastalloc_proofs.proofs.Operands.BlockTail.{BlockTail}

-- what is held from now on
pub record Grips (t u : InstRegs) (p : Place) (pos : Positions) : Type 0 where
  pub early : Keeps (held_early t) (held_early u) pos.early p
  pub late : Keeps (held_late t) (held_late u) pos.late p
  pub less : Less t u
  pub scratch : u.scratch ≡ t.scratch

kept_set : (a b c s : Bool) → c ≡ (not (a && s) && b) → b ≡ false → c ≡ false
kept_set true false c true e h = e
kept_set true false c false e h = e
kept_set false false c s e h = e
kept_set a true c s e h = absurd cc

held_set : (a b c s : Bool) → c ≡ (not (a && s) && b) → not b ≡ true → not c ≡ true
held_set a false c s e h = ap not (kept_set a false c s e refl)
held_set a true c s e h = absurd cc

taken_set : (a b c s : Bool) → c ≡ (not (a && s) && b) → a ≡ true → s ≡ true → not c ≡ true
taken_set true b c true e h g = ap not e
taken_set false b c s e h g = absurd cc
taken_set a b c false e h g = absurd cc

-- a register that was removed from the available ones at some positions is held there from then on
pub grips_register : (t u : InstRegs) (r : Register) (pos : Positions) → RemovesAvailable t u r pos → Grips t u (InRegister r) pos
grips_register t u r pos h = record {
  early = record {
    keeps = early_keeps;
    holds = λ a. taken_set pos.early (has_register t.early r) (has_register u.early r) (is_register r r) (h.early r) a
        (is_register-same r);
  };
  late = record {
    keeps = late_keeps;
    holds = λ a. taken_set pos.late (has_register t.late r) (has_register u.late r) (is_register r r) (h.late r) a
        (is_register-same r);
  };
  less = record {
    early = λ q e. kept_set pos.early (has_register t.early q) (has_register u.early q) (is_register r q) (h.early q) e;
    late = λ q e. kept_set pos.late (has_register t.late q) (has_register u.late q) (is_register r q) (h.late q) e;
  };
  scratch = h.scratch;
}
  where
    early_keeps : (q : Place) → held_early t q ≡ true → held_early u q ≡ true
    early_keeps NoPlace e = refl
    early_keeps (InRegister q) e = held_set pos.early (has_register t.early q) (has_register u.early q) (is_register r q) (h.early q) e
    early_keeps (InSlot m) e = refl

    late_keeps : (q : Place) → held_late t q ≡ true → held_late u q ≡ true
    late_keeps NoPlace e = refl
    late_keeps (InRegister q) e = held_set pos.late (has_register t.late q) (has_register u.late q) (is_register r q) (h.late q) e
    late_keeps (InSlot m) e = refl

-- a claimed spill slot counts as held at all positions, and no register is taken for it
pub grips_slot : (t u : InstRegs) (m : ℕ) (pos : Positions) → SameAvailable t u → Grips t u (InSlot m) pos
grips_slot t u m pos s = record {
  early = record { keeps = early_keeps; holds = λ a. refl };
  late = record { keeps = late_keeps; holds = λ a. refl };
  less = record { early = λ q e. ap (λ l. has_register l q) s.early ∙ e; late = λ q e. ap (λ l. has_register l q) s.late ∙ e };
  scratch = s.scratch;
}
  where
    early_keeps : (q : Place) → held_early t q ≡ true → held_early u q ≡ true
    early_keeps NoPlace e = refl
    early_keeps (InRegister q) e = ap (λ l. not (has_register l q)) s.early ∙ e
    early_keeps (InSlot m) e = refl

    late_keeps : (q : Place) → held_late t q ≡ true → held_late u q ≡ true
    late_keeps NoPlace e = refl
    late_keeps (InRegister q) e = ap (λ l. not (has_register l q)) s.late ∙ e
    late_keeps (InSlot m) e = refl

module _ (tail : BlockTail) (ops : List OperandValue) (far : Progress) (there : ℕ → Place) (claimed2 : ℕ → Bool) (ends_block : Bool) where
  open tail use {Known, insts, placesf, i, n, E}

  idle_claim : (k : ℕ) (p : Place) (b : Register) (t : StateValue) → Puts far.here there far.claimed claimed2 k p → p ≢ InRegister b → IsIdle far.here
      far.claimed far.made_at b t →
      IsIdle there claimed2 far.made_at b t
  idle_claim k p b t u away s = record {
    no_allocs = s.no_allocs;
    clear = s.clear;
    unclaimed = λ j c e. elim (cases_eq j k) [
      | inl a ↦ away (sym u.at_k ∙ ap there (sym a) ∙ e)
      | inr a ↦ elim (u.grows j c) [ inl x ↦ a x | inr x ↦ s.unclaimed j x (sym (u.at_j j a) ∙ e) ]
    ];
  }

  -- where an operand claims a place that it may have, and which is held from then on, the record of the operands is
  -- kept
  pub ready_claim : {k : ℕ} {p : Place} {pos : Positions} {t u : InstRegs} {m : StateValue} → Puts far.here there far.claimed claimed2 k p → Counts ops k →
      Covers (what_of ops k) pos.early pos.late → Grips t u p pos →
      ((r : Register) → p ≡ InRegister r → r.number < 64) → ((c : RegClass) (b : Register) → IsScratch c t m b → p ≢ InRegister b) →
      Located (what_of ops) (record far { here = there; claimed = claimed2 }) m →
      Ready tail ops far ends_block t m →
      Ready tail ops (record far { here = there; claimed = claimed2 }) ends_block u m
  ready_claim {k} {p} {pos} {t} {u} {m} puts counts covers g small away st s =
      let back : (c : RegClass) (b : Register) → slice_index_or u.scratch (class_code c) None ≡ Some b →
      slice_index_or t.scratch (class_code c) None ≡ Some b = λ c b e. ap (λ l. slice_index_or l (class_code c) None) (sym g.scratch) ∙ e in
      let was : (c : RegClass) (b : Register) → IsScratch c u m b → IsScratch c t m b = λ c b is. elim is
      [ of_machine e ↦ of_machine e | taken e ↦ taken (back c b e) ] in
      record {
        located = st;
        owes = s.owes;
        nowhere_needed = s.nowhere_needed;
        held = held_more (what_of ops) far.here there far.claimed claimed2 (held_early t) (held_late t) (held_early u) (held_late u) k p puts
            (record { at_early = pos.early; at_late = pos.late; covers = covers; in_early = g.early; in_late = g.late }) s.held;
        scratch_reserve = record {
          idle = λ c b is. idle_claim k p b m puts (away c b (was c b is)) (s.scratch_reserve.idle c b (was c b is));
          own = λ c b e. s.scratch_reserve.own c b (back c b e);
          early = λ c b e. g.less.early b (s.scratch_reserve.early c b (back c b e));
          late = λ c b e. g.less.late b (s.scratch_reserve.late c b (back c b e));
        };
        fit = s.fit;
        clobbers = λ r e. g.less.late r (s.clobbers r e);
        within = λ j c. elim (puts.grows j c) [ inl a ↦ subst (Counts ops) (sym a) counts | inr a ↦ s.within j a ];
        small = λ j r c e. elim (cases_eq j k) [
          | inl a ↦ small r (sym puts.at_k ∙ ap there (sym a) ∙ e)
          | inr a ↦ elim (puts.grows j c) [ inl x ↦ absurd (a x) | inr x ↦ s.small j r x (sym (puts.at_j j a) ∙ e) ]
        ];
      }
