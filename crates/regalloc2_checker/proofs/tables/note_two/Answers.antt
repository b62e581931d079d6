use Rattle.regalloc2_checker.proofs.Holders.{homes-then, home-kept}
use Rattle.regalloc2_checker_sets.proofs.Results.{on_ok_as}
use Rattle.regalloc2_checker.proofs.tables.note_two.Goals as goal

pub returns-clause-more : goal.returns-clause-more
returns-clause-more g c = homes-then c.args.homes.now c.note.new.homes c.note-2.new.homes c.in_ok-note.ensures.more c.note-2.ensures.more

pub returns-clause-first : goal.returns-clause-first
returns-clause-first g c = on_ok_as _ _ c.note-2.result
    (λ h. home-kept c.args.vregs.now c.note.new.homes c.note-2.new.homes c.args.place c.args.pair.0 c.note-2.ensures.more
    c.in_ok-note.ensures.noted) c.note-2.ensures.noted

pub returns-clause-second : goal.returns-clause-second
returns-clause-second g c = c.note-2.ensures.noted
