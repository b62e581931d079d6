use Rattle.std.proofs.Common.{◌∙◌, ap, sym}
use Rattle.std.specs.Option.{option_map}
use Rattle.regalloc2_function.specs.Views.{machine_of}
use Rattle.regalloc2_tool.specs.Calls.{output_given}
use Rattle.regalloc2_tool.proofs.Accepting.{accepted_more, shown_anyway, shown_unless_given}
use Rattle.regalloc2_tool.proofs.calls.call.perform.Goals as goal
use Rattle.regalloc2_tool.proofs.calls.call.perform.Goals.{in_default-via-in-Check+in_default, in_default-via-in-Stats+in_default, in_default-via-in_default}

pub returns-in_default : goal.returns-in_default
returns-in_default g c =
    let given = output_given c.args.given.now in
    let f = g.F.Function.function c.args.f.now in
    let env = machine_of c.args.env.now in
    elim c.in_default.branch [
      | in_default-via-in-Check+in_default w ↦ accepted_more c.allocate.result
          (shown_unless_given c.args.call given f env (λ e. cc (sym w.in_default.is-0 ∙ e)) w.in_default.not-Reads-0 (ap (option_map (λ o. o.now)) w.in_default.is-1))
          c.allocate.ensures
      | in_default-via-in-Stats+in_default w ↦ accepted_more c.allocate.result
          (shown_unless_given c.args.call given f env w.in_default.not-Replay-0 w.in_default.not-Reads-0 (ap (option_map (λ o. o.now)) w.in_default.is-1))
          c.allocate.ensures
      | in_default-via-in_default w ↦ accepted_more c.allocate.result
          (shown_anyway c.args.call given f env w.in_default.not-Check-0 w.in_default.not-Replay-0 w.in_default.not-Reads-0 w.in_default.not-Stats-0
          w.in_default.not-StatsJson-0 w.in_default.not-Dump-0)
          c.allocate.ensures
    ]
