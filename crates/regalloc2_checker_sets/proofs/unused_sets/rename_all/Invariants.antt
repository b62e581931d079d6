use Rattle.std.proofs.Common.{◌≡◌, ℕ, ◌<◌, ◌≤◌, length, get_or}
use Rattle.regalloc2_checker_sets.specs.Renumbering.{renamed}
use Rattle.regalloc2_checker_sets.proofs.unused_sets.rename_all.Given as goal

abbrev pub invariant-loop-i : goal.invariant-loop-i
invariant-loop-i l = record {
  long : length l.list ≡ length l.fn.list;
  done : (i : ℕ) → i < l.i → get_or l.list i 0 ≡ renamed l.numbers (get_or l.fn.list i 0);
  rest : (i : ℕ) → l.i ≤ i → get_or l.list i 0 ≡ get_or l.fn.list i 0;
}
