use Rattle.std.proofs.Common.{rules}
use Rattle.regalloc2_fastalloc_state.proofs.GreatestOfClass.{greatest_in, none_above, none_of_class}
use Rattle.regalloc2_fastalloc_state.proofs.allocatable.AllocatableRegs.preferred_victim.Goals as goal

pub returns-clause-found : goal.returns-clause-found
returns-clause-found g c = greatest_in c.of_class.result c.args.self.now.allocatable c.args.class c.max_preg.result (λ i. search rules) c.of_class.ensures
    c.max_preg.ensures.member

pub returns-clause-greatest : goal.returns-clause-greatest
returns-clause-greatest g c = none_above c.of_class.result c.args.self.now.allocatable c.args.class c.max_preg.result c.of_class.ensures
    c.max_preg.ensures.member c.max_preg.ensures.greatest

pub returns-clause-none : goal.returns-clause-none
returns-clause-none g c = none_of_class c.of_class.result c.args.self.now.allocatable c.args.class c.max_preg.result c.of_class.ensures
    c.max_preg.ensures.none
