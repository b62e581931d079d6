use Rattle.std.proofs.Common.{ℕ, ◌≡◌, ◌<◌, length}
use Rattle.std.specs.Prelude.{All}
use Rattle.regalloc2_function.specs.FunctionValue.{inst_at}
use Rattle.regalloc2_checker.specs.NamedBits.{IsMore}
use Rattle.regalloc2_checker.specs.TableFacts.{IsListedVReg}
use Rattle.regalloc2_checker.proofs.names.list_inst_vregs.Given as goal

-- the vregs of the first i instructions are listed
abbrev pub invariant-loop-i : goal.invariant-loop-i
invariant-loop-i g l = record {
  end : l.i-end ≡ length (g.F.Function.function l.f).insts;
  more : IsMore l.initial.bits l.bits;
  listed : (i : ℕ) → i < l.i → All (λ op. IsListedVReg l.bits op.vreg) (inst_at (g.F.Function.function l.f) i).operands;
}
