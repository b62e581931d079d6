use denote.Text.{Utf8}
use denote.Shadow.{shadow}
use Rattle.regalloc2_tests.proofs.fuzz.show_all.Given as goal

-- the text that others are made from is text
abbrev pub invariant-loop-line : goal.invariant-loop-line
invariant-loop-line g l =
    (goal.iterator-loop-line g).can_next l.line-iterator ×
    (goal.iterator-loop-line g).is_finite l.line-iterator ×
    shadow (Utf8 l.whole)
