use Rattle.regalloc2.proofs.tested.run_tested.Goals as goal

pub reads_written-requires : goal.reads_written-requires
reads_written-requires g c =
    let ok = c.in-Ok.ensures.tested in
    record { successors = ok.successors; follow = ok.follow; end = ok.end; counted = ok.counted }

-- no path reads or passes a vreg before writing it, so no guarantee has a premise left
pub returns-clause-runs : goal.returns-clause-runs
returns-clause-runs g c = c.in-Ok.ensures.allocation.faithful (c.in-Ok-reads_written.ensures.ok.0 c.if-not-written.false)

pub returns-clause-live : goal.returns-clause-live
returns-clause-live g c = (c.in-Ok.ensures.allocation, c.in-Ok.ensures.allocation.live (c.in-Ok-reads_written.ensures.ok.0 c.if-not-written.false))

-- where one does, nothing is returned
pub returns-then-not-written-clause-runs : goal.returns-then-not-written-clause-runs
returns-then-not-written-clause-runs g c = tt

pub returns-then-not-written-clause-live : goal.returns-then-not-written-clause-live
returns-then-not-written-clause-live g c = tt

pub returns-then-not-written-clause-written : goal.returns-then-not-written-clause-written
returns-then-not-written-clause-written g c = tt
