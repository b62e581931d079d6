use Rattle.std.proofs.Common.{◌+◌, ◌≤◌, length}
use denote.Text.{Utf8}
use denote.Shadow.{shadow}
use Rattle.regalloc2_text.proofs.reading.read_lines.Given as goal

abbrev pub invariant-loop-error : goal.invariant-loop-error
invariant-loop-error g l = shadow (Utf8 l.rest) × (l.fn.first_line ≤ l.move_line) × (l.move_line ≤ l.line)
    × (l.line + length l.rest ≤ l.fn.first_line + length l.fn.text)

abbrev pub decreases-loop-error : goal.decreases-loop-error
decreases-loop-error g l = length l.rest
