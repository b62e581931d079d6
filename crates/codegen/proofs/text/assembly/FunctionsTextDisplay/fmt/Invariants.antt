use Rattle.std.proofs.Common.{take}
use Rattle.std.specs.Fmt.{HasWritten, IsPlainFormatter}
use Rattle.codegen.specs.Text.Assembly.{functions_text}
use Rattle.codegen.proofs.text.assembly.FunctionsTextDisplay.fmt.Given as goal

abbrev pub invariant-loop-at : goal.invariant-loop-at
invariant-loop-at g l =
    IsPlainFormatter l.initial.f → HasWritten g.W.Write.write_str_gives l.initial.f (functions_text 0 (take l.at l.functions)) l.f
