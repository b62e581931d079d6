use Rattle.std.proofs.Common.{true, false}
use Rattle.std.specs.Io.Buffered.{writer_contents, writer_inner, writer_buffer}
use Rattle.regalloc2_tool.proofs.Ra2Lemmas.Outcomes.{flushed_outcome}
use Rattle.regalloc2_tool.proofs.ra2.program.perform.Goals as goal

pub returns-then-accepted-clause-done : goal.returns-then-accepted-clause-done
returns-then-accepted-clause-done g c = λ e. flushed_outcome _ (g.R.Read.remaining c.args.input) c.args.command
    (writer_contents g.O.Write.contents c.args.out.now) (writer_contents g.O.Write.contents c.obey.new.out)
    (g.O.Write.contents (writer_inner c.flush.new.self)) (writer_buffer c.flush.new.self)
    c.in-Some.accepted true c.if-accepted.true c.flush.ensures.bytes c.in-Ok.ensures.ok c.in-Some.ensures

pub returns-else-accepted-clause-turned_down : goal.returns-else-accepted-clause-turned_down
returns-else-accepted-clause-turned_down g c = λ e. flushed_outcome _ (g.R.Read.remaining c.args.input) c.args.command
    (writer_contents g.O.Write.contents c.args.out.now) (writer_contents g.O.Write.contents c.obey.new.out)
    (g.O.Write.contents (writer_inner c.flush.new.self)) (writer_buffer c.flush.new.self)
    c.in-Some.accepted false c.if-accepted.false c.flush.ensures.bytes c.in-Ok.ensures.ok c.in-Some.ensures
