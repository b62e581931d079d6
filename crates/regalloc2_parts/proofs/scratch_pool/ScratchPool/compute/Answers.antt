use Rattle.regalloc2_parts.proofs.scratch_pool.ScratchPool.compute.Goals as goal

pub returns-clause-made : goal.returns-clause-made
returns-clause-made g c = c.compute_with_resolver.ensures.made

pub returns-clause-there : goal.returns-clause-there
returns-clause-there g c = c.compute_with_resolver.ensures.there

pub returns-clause-err : goal.returns-clause-err
returns-clause-err g c = c.compute_with_resolver.ensures.err

pub returns-clause-plain : goal.returns-clause-plain
returns-clause-plain g c = c.compute_with_resolver.ensures.plain
