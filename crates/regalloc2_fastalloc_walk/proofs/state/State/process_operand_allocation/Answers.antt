use Rattle.std.proofs.Common.{◌≡◌, List, refl, sym, ap, ◌∙◌, arith, rules, slice_index_or}
use Rattle.std.proofs.lemmas.List.{get_or_read}
use Rattle.regalloc2_names.specs.Operand.{OperandValue}
use Rattle.regalloc2_names.specs.Place.{NoPlace}
use Rattle.regalloc2_function.specs.FunctionValue.{op_at}
use Rattle.regalloc2_fastalloc_state.proofs.ValidateLemmas.OperandReads.{read_operand}
use Rattle.regalloc2_fastalloc_walk.proofs.SlotUses.{slot_use}
use Rattle.regalloc2_fastalloc_walk.proofs.StepsFail.{step_none}
use Rattle.regalloc2_fastalloc_walk.proofs.state.State.process_operand_allocation.Goals as goal

pub process_reg_operand-requires : goal.process_reg_operand-requires
process_reg_operand-requires g c =
    let ops : List OperandValue = c.args.cx.now.operands.now in
    let o : c.index-operands-k.result ≡ op_at ops c.args.k = read_operand ops c.args.k c.index-operands-k.result c.requires.inside c.index-operands-k.is in
    let h : c.index-allocs-k.result ≡ slice_index_or c.args.allocs.now c.args.k NoPlace = get_or_read c.args.allocs.now c.args.k c.index-allocs-k.result
    (omega (arith, c.requires.inside, c.requires.allocs_long)) c.index-allocs-k.is NoPlace in
    let asks = c.if-needs_any_reg.ensures.0 refl in (
      search rules,
      (
        c.requires.inside,
        (
          c.requires.inst,
          (
            c.requires.later,
            (c.requires.in_tables, (c.requires.allocs_long, (ap (λ (x : OperandValue). x.constraint) (sym o) ∙ asks.0, sym h ∙ asks.1))),
          ),
        ),
      ),
    )

-- a use under `Any` is read from its vreg's slot
pub returns-in-Some-slot_of_any_use-clause-outcome : goal.returns-in-Some-slot_of_any_use-clause-outcome
returns-in-Some-slot_of_any_use-clause-outcome g c =
    let ops : List OperandValue = c.args.cx.now.operands.now in
    let o : c.index-operands-k.result ≡ op_at ops c.args.k = read_operand ops c.args.k c.index-operands-k.result c.requires.inside c.index-operands-k.is in
    let h : c.index-allocs-k.result ≡ slice_index_or c.args.allocs.now c.args.k NoPlace = get_or_read c.args.allocs.now c.args.k c.index-allocs-k.result
    (omega (arith, c.requires.inside, c.requires.allocs_long)) c.index-allocs-k.is NoPlace in
    let s = c.in-Some-slot_of_any_use.ensures.some in
    slot_use c.index-operands-k.result c.index-allocs-k.result c.in-Some-slot_of_any_use.slot o h s.0 s.1 c.in_default.ensures.none s.2 s.3

pub returns-then-needs_any_reg-clause-outcome : goal.returns-then-needs_any_reg-clause-outcome
returns-then-needs_any_reg-clause-outcome g c = c.process_reg_operand.ensures.outcome

pub returns-then-needs_any_reg-clause-step : goal.returns-then-needs_any_reg-clause-step
returns-then-needs_any_reg-clause-step g c = c.process_reg_operand.ensures.step

pub returns-in-Some-clause-outcome : goal.returns-in-Some-clause-outcome
returns-in-Some-clause-outcome g c = c.process_placed_use.ensures.outcome

pub returns-in-Some-clause-step : goal.returns-in-Some-clause-step
returns-in-Some-clause-step g c = c.process_placed_use.ensures.step

pub returns-in-Some-slot_of_any_use-clause-step : goal.returns-in-Some-slot_of_any_use-clause-step
returns-in-Some-slot_of_any_use-clause-step g c = step_none c.args.self.now c.requires.later

pub process_operand-requires : goal.process_operand-requires
process_operand-requires g c = (
  search rules,
  (c.requires.inside, (c.requires.inst, (c.requires.later, (c.requires.in_tables, c.requires.allocs_long)))),
)

pub returns-clause-outcome : goal.returns-clause-outcome
returns-clause-outcome g c = c.process_operand.ensures.outcome

pub returns-clause-step : goal.returns-clause-step
returns-clause-step g c = c.process_operand.ensures.step
