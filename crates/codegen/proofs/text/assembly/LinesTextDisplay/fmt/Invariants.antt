use Rattle.std.proofs.Common.{length, take}
use Rattle.std.specs.Fmt.{HasWritten, IsPlainFormatter}
use Rattle.codegen.specs.Text.Assembly.{lines_text}
use Rattle.codegen.proofs.text.assembly.LinesTextDisplay.fmt.Given as goal

abbrev pub invariant-loop-at : goal.invariant-loop-at
invariant-loop-at g l =
    IsPlainFormatter l.initial.f → HasWritten g.W.Write.write_str_gives l.initial.f (lines_text l.function l.frame (length l.instructions) 0 (take l.at l.instructions)) l.f
