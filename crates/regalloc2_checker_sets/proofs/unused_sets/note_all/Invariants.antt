use Rattle.std.proofs.Common.{◌≡◌, ℕ, ◌<◌, ◌+◌, true, length, get_or}
use Rattle.std.specs.Prelude.{◌⊎◌, Contains}
use Rattle.regalloc2_checker_sets.specs.Renumbering.{IsMarked}
use Rattle.regalloc2_checker_sets.proofs.unused_sets.note_all.Given as goal

abbrev pub invariant-loop-i : goal.invariant-loop-i
invariant-loop-i l = record {
  long : length l.used ≡ length l.fn.used;
  more : (j : ℕ) → get_or l.fn.used j true ≡ true → get_or l.used j true ≡ true;
  only : (j : ℕ) → get_or l.used j true ≡ true → (get_or l.fn.used j true ≡ true) ⊎ Contains l.numbers (2147483648 + j);
  noted : (i : ℕ) → i < l.i → IsMarked l.used (get_or l.numbers i 0);
}
