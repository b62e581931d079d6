use Rattle.std.proofs.Common.{◌≡◌, ◌-◌, length}
use Rattle.regalloc2_c.specs.Faults.{first_index, is_placed}
use Rattle.regalloc2_c.proofs.faults.index_of.Given as goal

abbrev pub invariant-loop-k : goal.invariant-loop-k
invariant-loop-k l = first_index (is_placed l.operands l.places l.op l.place) 0 (length l.operands)
    ≡ first_index (is_placed l.operands l.places l.op l.place) l.k (length l.operands - l.k)
