use Rattle.regalloc2_names.proofs.EqualNames.{is_place-by_bits}
use Rattle.regalloc2_names.proofs.places.AllocationPartialEq.eq.Goals as goal

pub returns-clause-test : goal.returns-clause-test
returns-clause-test c = is_place-by_bits c.self.inside.bits c.other.inside.bits c.args.self.now c.args.other.now
    c.self.invariant c.other.invariant c.self.view_is c.other.view_is
