use Rattle.std.proofs.Common.{◌≡◌, Some}
use Rattle.regalloc2_tool.specs.Ra2.Words.{command_of}
use Rattle.regalloc2_tool.proofs.ra2.program.run_program.Goals as goal

pub returns-clause-done : goal.returns-clause-done
returns-clause-done g c = λ e.
    let named : command_of c.args.words.now ≡ Some c.in-Some.command = cc in
    (c.in-Some.command, named, rw c.into_parts-written.ensures.inner (c.perform-status.ensures.done e))

pub returns-clause-turned_down : goal.returns-clause-turned_down
returns-clause-turned_down g c = λ e.
    let named : command_of c.args.words.now ≡ Some c.in-Some.command = cc in
    (c.in-Some.command, named, rw c.into_parts-written.ensures.inner (c.perform-status.ensures.turned_down e))
