use Rattle.regalloc2_parts.proofs.OldestFirst.{first_passes, first_there, none_there, popped}
use Rattle.regalloc2_parts.proofs.lru.Lru.oldest.Goals as goal

pub returns-clause-oldest : goal.returns-clause-oldest
returns-clause-oldest g c = popped c.args.self.now c.oldest_first.result c.next.new.self c.next.result c.oldest_first.ensures.walk c.next.ensures.steps

pub returns-clause-first : goal.returns-clause-first
returns-clause-first g c = first_passes c.args.self.now c.oldest_first.result c.next.new.self c.next.result c.oldest_first.ensures.walk c.next.ensures.steps

pub returns-clause-member : goal.returns-clause-member
returns-clause-member g c = first_there c.args.self.now c.oldest_first.result c.next.new.self c.next.result c.oldest_first.ensures.walk c.next.ensures.steps

pub returns-clause-none : goal.returns-clause-none
returns-clause-none g c = none_there c.args.self.now c.oldest_first.result c.next.new.self c.next.result c.oldest_first.ensures.walk c.next.ensures.steps
