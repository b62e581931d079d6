use Rattle.std.proofs.Common.{◌≡◌, ℕ, ◌<◌}
use Rattle.regalloc2_names.specs.declared.OperandConstraint.TheVariants.{FixedReg}
use Rattle.regalloc2_names.specs.Register.{Register}
use Rattle.regalloc2_function.specs.FunctionValue.{op_at}
use Rattle.regalloc2_fastalloc_proofs.specs.InstSteps.{SameButOrder}
use Rattle.regalloc2_fastalloc_walk.specs.StateView.{tables_of}
use Rattle.regalloc2_fastalloc_walk.proofs.RegsReserved.{Reserving}
use Rattle.regalloc2_fastalloc_walk.proofs.state.State.reserve_each.Given as goal

abbrev pub invariant-loop-k : goal.invariant-loop-k
invariant-loop-k g l = record {
  reserving : Reserving l.operands l.k l.fn.inst_regs l.inst_regs l.claims (tables_of l.fn.self);
  awaited : l.inst_regs.awaited ≡ l.fn.inst_regs.awaited;
  same : SameButOrder (tables_of l.fn.self) (tables_of l.self);
  unused : ((k : ℕ) (r : Register) → k < l.k → (op_at l.operands k).constraint ≡ FixedReg r → ⊥) → l.self.registers.lrus ≡ l.fn.self.registers.lrus;
}
