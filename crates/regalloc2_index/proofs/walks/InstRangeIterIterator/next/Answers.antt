use Rattle.std.proofs.Common.{◌<◌, rules}
use Rattle.std.proofs.lemmas.Grind.{common_steps}
use Rattle.regalloc2_index.specs.Range.{numbers_of-first}
use Rattle.regalloc2_index.proofs.walks.InstRangeIterIterator.next.Goals as goal

pub returns-clause-steps : goal.returns-clause-steps
returns-clause-steps c =
    let some : c.self.inside.from < c.self.inside.to = search rules in
    rw (← c.self.view_is) (numbers_of-first c.self.inside.from c.self.inside.to c.next-self-inside.result some c.next-self-inside.ensures)

pub returns-clause-goes : goal.returns-clause-goes
returns-clause-goes c = let e = returns-clause-steps c in rw e (search (rules, common_steps))
