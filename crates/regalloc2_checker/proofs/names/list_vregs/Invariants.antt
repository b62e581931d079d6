use Rattle.std.proofs.Common.{ℕ, ◌<◌, get_or}
use Rattle.regalloc2_names.specs.Register.{VirtualRegister}
use Rattle.regalloc2_checker.specs.NamedBits.{IsMore}
use Rattle.regalloc2_checker.specs.TableFacts.{IsListedVReg}
use Rattle.regalloc2_checker.proofs.names.list_vregs.Given as goal

-- the first k vregs are listed
abbrev pub invariant-loop-k : goal.invariant-loop-k
invariant-loop-k g l = record {
  more : IsMore l.initial.bits l.bits;
  listed : (j : ℕ) (d : VirtualRegister) → j < l.k → IsListedVReg l.bits (get_or l.vregs j d);
}
