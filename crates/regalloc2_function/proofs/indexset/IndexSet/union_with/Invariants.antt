use Rattle.std.proofs.Common.{ℕ, ◌≡◌, ◌++◌, ◌||◌, true, false}
use Rattle.regalloc2_function.specs.Numbers.{has_number, in_some_word}
use Rattle.regalloc2_function.proofs.indexset.IndexSet.union_with.Given as goal

abbrev pub invariant-loop-key : goal.invariant-loop-key
invariant-loop-key g l = record {
  all : l.other ≡ l.yielded ++ l.key-iterator;
  joined : (i : ℕ) → has_number l.self i ≡ has_number l.initial.self i || in_some_word l.yielded i;
  added : l.added ≡ true → (i : ℕ) × (has_number l.initial.self i ≡ false) × (in_some_word l.yielded i ≡ true);
  none_added : l.added ≡ false → (i : ℕ) → has_number l.self i ≡ has_number l.initial.self i;
}
