use Rattle.regalloc2_parts.proofs.callmoves.fault.find_fault.Goals as goal

pub returns-in-Some : goal.returns-in-Some
returns-in-Some g c = c.in-Some.ensures

pub returns-in-None : goal.returns-in-None
returns-in-None g c = record { named = c.in_default.ensures; one_source = c.in_default-find_two_sources.ensures; free = c.in-None.ensures }

pub returns-in-Some-find_two_sources : goal.returns-in-Some-find_two_sources
returns-in-Some-find_two_sources g c = (c.in_default.ensures, (c.in-Some-find_two_sources.at, c.in-Some-find_two_sources.ensures, c.target_at.ensures))

pub returns-in-Some-find_in_use : goal.returns-in-Some-find_in_use
returns-in-Some-find_in_use g c = (c.in_default.ensures, c.in_default-find_two_sources.ensures, c.in-Some-find_in_use.ensures)
