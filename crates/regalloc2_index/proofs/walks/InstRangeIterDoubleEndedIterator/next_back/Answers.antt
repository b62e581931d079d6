use Rattle.std.proofs.Common.{◌<◌, rules}
use Rattle.std.proofs.lemmas.Grind.{common_steps}
use Rattle.regalloc2_index.specs.Range.{numbers_of-last}
use Rattle.regalloc2_index.proofs.walks.InstRangeIterDoubleEndedIterator.next_back.Goals as goal

pub returns-clause-steps : goal.returns-clause-steps
returns-clause-steps c =
    let some : c.self.inside.from < c.self.inside.to = search rules in
    rw (← c.self.view_is) (numbers_of-last c.self.inside.from c.self.inside.to c.prev-self-inside.result some c.prev-self-inside.ensures)

pub returns-clause-goes : goal.returns-clause-goes
returns-clause-goes c = let e = returns-clause-steps c in rw e (search (rules, common_steps))
