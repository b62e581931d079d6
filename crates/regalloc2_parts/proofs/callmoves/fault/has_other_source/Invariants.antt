use Rattle.std.proofs.Common.{◌≡◌, ℕ, ◌<◌}
use Rattle.regalloc2_parts.specs.Callmoves.CallMoves.{source, target}
use Rattle.regalloc2_parts.proofs.callmoves.fault.has_other_source.Given as goal

abbrev pub invariant-loop-j : goal.invariant-loop-j
invariant-loop-j l = (i : ℕ) → i < l.j → target l.moves i ≡ target l.moves l.at → source l.moves i ≡ source l.moves l.at
