use Rattle.std.specs.Prelude.{take}
use Rattle.std.specs.Fmt.{HasWritten, IsPlainFormatter}
use Rattle.std.specs.List.{flat_map}
use Rattle.regalloc2_checker.specs.Text.{next_vreg_text}
use Rattle.regalloc2_checker.proofs.texts.NextVRegsDisplay.fmt.Given as goal

abbrev pub invariant-loop-vreg : goal.invariant-loop-vreg
invariant-loop-vreg g l =
    IsPlainFormatter l.initial.f → HasWritten g.W.Write.write_str_gives l.initial.f (flat_map next_vreg_text (take l.vreg-index l.vregs)) l.f
