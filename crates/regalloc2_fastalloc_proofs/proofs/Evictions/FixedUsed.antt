-- The registers to which operands are fixed count as used before they are emptied.
use Rattle.std.proofs.Common.{ℕ, ◌≡◌, List, refl, sym, ◌∙◌, subst}
use Rattle.regalloc2_names.specs.Register.{Register}
use Rattle.regalloc2_names.specs.Operand.{OperandValue}
use Rattle.regalloc2_fastalloc_state.specs.declared.inst_regs.InstRegs.{InstRegs}
use Rattle.regalloc2_fastalloc_proofs.specs.InstSteps.{StateValue, SameMachine, NoneUsed, EvictsFixed, none_cleared, not_fixed, of_fixed, of_reuse}
use Rattle.regalloc2_fastalloc_proofs.specs.InstSteps.{EvictFixed, no_register}

-- the order in which registers were used doesn't change the machine
pub same_used : (a b : StateValue) (order : List (List Register)) → b ≡ record a { lrus = order } → SameMachine a b
same_used a b order e = subst (SameMachine a) (sym e)
    (record { allocatable = refl; fixed_stack = refl; dedicated_scratch = refl; sizes = refl; vregs = refl; num_temp_slots = refl })

-- the order of use changes, and then fixed registers are emptied
pub evicts_fixed_from : {point : ℕ} {operands : List OperandValue} {t : InstRegs} {old : StateValue} {order : List (List Register)} {k : ℕ} {u : InstRegs}
    {new : StateValue} → NoneUsed operands old.lrus order → EvictsFixed point operands t (record old { lrus = order }) k u new →
    EvictsFixed point operands t old k u new
evicts_fixed_from first (none_cleared more used) = none_cleared more (λ none. used none ∙ first none)
evicts_fixed_from first (not_fixed j w m prev a b) = not_fixed j w m (evicts_fixed_from first prev) a b
evicts_fixed_from first (of_fixed j r w x m n prev is clears) = of_fixed j r w x m n (evicts_fixed_from first prev) is clears
evicts_fixed_from first (of_reuse j l r w x m n prev a b c clears) = of_reuse j l r w x m n (evicts_fixed_from first prev) a b c clears

-- emptying the fixed registers fails if it fails once they are the most recently used
pub fails_from : {point : ℕ} {operands : List OperandValue} {t : InstRegs} {old : StateValue} {order : List (List Register)} →
    NoneUsed operands old.lrus order → EvictFixed point operands t (record old { lrus = order }) no_register → EvictFixed point operands t old no_register
fails_from first s = record {
  index = s.index;
  given = s.given;
  middle = s.middle;
  inside = s.inside;
  done = evicts_fixed_from first s.done;
  stops = s.stops;
}
