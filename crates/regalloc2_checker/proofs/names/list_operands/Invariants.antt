use Rattle.std.proofs.Common.{ℕ, ◌<◌, get_or}
use Rattle.regalloc2_names.specs.Operand.{OperandValue}
use Rattle.regalloc2_checker.specs.NamedBits.{IsMore}
use Rattle.regalloc2_checker.specs.TableFacts.{IsListedVReg}
use Rattle.regalloc2_checker.proofs.names.list_operands.Given as goal

-- the vregs of the first k operands are listed
abbrev pub invariant-loop-k : goal.invariant-loop-k
invariant-loop-k g l = record {
  more : IsMore l.initial.bits l.bits;
  listed : (j : ℕ) (d : OperandValue) → j < l.k → IsListedVReg l.bits (get_or l.operands j d).vreg;
}
