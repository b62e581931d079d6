use Rattle.std.proofs.Common.{◌≡◌, ◌++◌}
use Rattle.std.specs.Fmt.{HasWritten, IsPlainFormatter}
use Rattle.regalloc2_names.specs.Register.{registers_of}
use Rattle.regalloc2_names.specs.Text.{members_text}
use Rattle.regalloc2_names.proofs.texts.PRegSetDisplay.fmt.Given as goal

abbrev pub invariant-loop-preg : goal.invariant-loop-preg
invariant-loop-preg g l = record {
  left : l.yielded ++ l.preg-iterator ≡ registers_of l.self;
  written : IsPlainFormatter l.initial.f → HasWritten g.W.Write.write_str_gives l.initial.f (members_text l.yielded) l.f;
}
