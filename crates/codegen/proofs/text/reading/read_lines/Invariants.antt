use Rattle.std.proofs.Common.{◌+◌, ◌≤◌, length}
use denote.Text.{Utf8}
use denote.Shadow.{shadow}
use Rattle.codegen.proofs.text.reading.read_lines.Given as goal

abbrev pub invariant-lines : goal.invariant-lines
invariant-lines l = shadow (Utf8 l.rest) × (l.fn.first_line ≤ l.line) × (l.line + length l.rest ≤ l.fn.first_line + length l.fn.text)

abbrev pub decreases-lines : goal.decreases-lines
decreases-lines l = length l.rest
