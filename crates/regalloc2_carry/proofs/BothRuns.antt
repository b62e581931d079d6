-- What the two runs of an instruction leave as it was, and what they write.
use Rattle.std.proofs.Common.{ℕ, ◌≡◌, ◌+◌, ◌<◌, true, false, List, length, refl, arith, sym, ◌∙◌, None}
use Rattle.regalloc2_names.specs.declared.sets.PRegSet.{PRegSet}
use Rattle.regalloc2_names.specs.Register.{VirtualRegister}
use Rattle.regalloc2_names.specs.Operand.{OperandValue, is_def, is_late}
use Rattle.regalloc2_names.specs.Place.{Place, NoPlace, InRegister, InSlot}
use Rattle.regalloc2_function.specs.OutputValue.{place_at}
use Rattle.regalloc2_semantics.specs.Runs.{after_defs, after_clobbers, write_at}
use Rattle.regalloc2_function.specs.FunctionValue.{op_at}
use Rattle.regalloc2_carry.specs.Carry.{early_cells, late_cells, is_clobbered, Spares, DefinesVRegAt}
use Rattle.regalloc2_semantics.proofs.AfterWrites.{after_defs-at, after_early_defs-other, after_writes-other, after_writes-at}
use Rattle.regalloc2_semantics.specs.Laws.{Cells, Source}

-- a place that is no clobber
pub after_clobbers-other : (clobbers : PRegSet) (c : Cells) (p : Place) → is_clobbered clobbers p ≡ false → after_clobbers clobbers (λ p. None) c p ≡ c p
unfolding after_clobbers
after_clobbers-other clobbers c NoPlace h = refl
after_clobbers-other clobbers c (InRegister r) h = rw h refl
after_clobbers-other clobbers c (InSlot n) h = refl

-- the instruction as a whole
from_start : (places : List Place) (j : ℕ) → place_at places (j + 0) ≡ place_at places j
from_start places j = let i : j + 0 ≡ j = omega arith in rw i refl

-- a place that no early def has keeps its content until the early uses read it
pub early-other : (ops : List OperandValue) (places : List Place) (c : Cells) (p : Place) →
    ((j : ℕ) → j < length ops → is_def (op_at ops j).kind ≡ true → is_late (op_at ops j).position ≡ false → place_at places j ≡ p → ⊥) →
    early_cells ops places c p ≡ c p
early-other ops places c p h = after_early_defs-other ops places 0 c p (λ j lt d l e. h j lt d l (sym (from_start places j) ∙ e))

-- a place that an instruction neither defines nor clobbers has after it what it had before
pub late-spared : (t : ℕ) (ops : List OperandValue) (places : List Place) (clobbers : PRegSet) (c : Cells) (p : Place) → Spares ops places clobbers p →
    late_cells t ops places clobbers c p ≡ c p
late-spared t ops places clobbers c p h =
    after_clobbers-other clobbers _ p h.no_clobber
    ∙ after_writes-other ops places t 0 _ p (λ j lt d e. h.no_definition j lt d (sym (from_start places j) ∙ e))
    ∙ early-other ops places c p (λ j lt d l e. h.no_definition j lt d e)

-- after an instruction the place of v's last def holds v's new value, unless a later def or a clobber takes it
pub late-made : (t : ℕ) (ops : List OperandValue) (places : List Place) (clobbers : PRegSet) (s : Source) (c : Cells) (p : Place) (v : VirtualRegister) →
    DefinesVRegAt ops places clobbers p v →
    late_cells t ops places clobbers c p ≡ after_defs (write_at t) 0 ops s v
late-made t ops places clobbers s c p v h =
    after_clobbers-other clobbers _ p h.no_clobber
    ∙ after_writes-at ops places t 0 _ p h.by h.is_there h.within h.defines (from_start places h.by ∙ h.place_is)
    (λ i lt over d e. h.last_at_place i lt over d (sym (from_start places i) ∙ e))
    ∙ sym (after_defs-at ops t 0 s v h.by h.within h.defines h.vreg_is h.last_of_vreg)
