use Rattle.std.proofs.Common.{◌≡◌, ℕ, ◌<◌, map, take, true, get_or}
use Rattle.regalloc2_names.specs.Register.{VirtualRegister}
use Rattle.regalloc2_names.specs.RegisterBits.{bits_of_vreg}
use Rattle.regalloc2_checker.specs.TableFacts.{is_packed_vreg}
use Rattle.regalloc2_checker.proofs.transfer.bits_of_all.Given as goal

-- the vregs before `k` are listed
abbrev pub invariant-loop-k : goal.invariant-loop-k
invariant-loop-k g l = record {
  bits : l.bits.items ≡ map bits_of_vreg (take l.k l.vregs);
  packed : (j : ℕ) (d : VirtualRegister) → j < l.k → is_packed_vreg (get_or l.vregs j d) ≡ true;
}
