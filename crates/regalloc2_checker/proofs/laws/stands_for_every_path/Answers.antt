use Rattle.regalloc2_checker.proofs.FactsFollowMaps.{true_facts-way}
use Rattle.regalloc2_checker.proofs.FactsTraced.{facts_are_traced}
use Rattle.regalloc2_checker.proofs.FixpointDecides.{facts_hold_before, facts_are_held, accepted_is_faithful}
use Rattle.regalloc2_checker.proofs.laws.stands_for_every_path.Goals as goal

pub returns-clause-traced : goal.returns-clause-traced
returns-clause-traced c = facts_are_traced

pub returns-clause-exact : goal.returns-clause-exact
returns-clause-exact c = true_facts-way (record { source = c.finds_earlier_writes.ensures.source; cells = c.finds_earlier_writes.ensures.cells })

pub returns-clause-before : goal.returns-clause-before
returns-clause-before c = facts_hold_before (record { source = c.finds_earlier_writes.ensures.source; cells = c.finds_earlier_writes.ensures.cells })

pub returns-clause-held : goal.returns-clause-held
returns-clause-held c = facts_are_held (record { source = c.finds_earlier_writes.ensures.source; cells = c.finds_earlier_writes.ensures.cells })

pub returns-clause-accepted : goal.returns-clause-accepted
returns-clause-accepted c = accepted_is_faithful (record { source = c.finds_earlier_writes.ensures.source; cells = c.finds_earlier_writes.ensures.cells })
