-- Numbers that are marked for one item of a list after another.
use Rattle.std.proofs.Common.{ℕ, ◌≡◌, ◌<◌, ◌⊎◌, inl, inr, Bool, List, length, ◌∙◌, subst, arith}
use Rattle.std.specs.Prelude.{slice_index_or, ◌↔◌}
use Rattle.std.proofs.lemmas.List.{get_or_default}
use Rattle.regalloc2_function.specs.Inside.MarkedNumbers.{Marks}

-- one kind after another
pub marks_then : (P Q R : ℕ → Type 0) (old mid new : List Bool) → length mid ≡ length old → Marks P old mid → Marks Q mid new →
    ((n : ℕ) → R n ↔ (P n ⊎ Q n)) → Marks R old new
marks_then P Q R old mid new long a b either = record {
  marked = λ n e. elim (b.marked n e) [
    | inr now ↦ (let lt = now.0 in inr (omega (arith, lt, long), (either n).1 (inr now.1)))
    | inl was ↦ elim (a.marked n was) [ inl first ↦ inl first | inr mine ↦ inr (mine.0, (either n).1 (inl mine.1)) ]
  ];
  kept = λ n e. b.kept n (a.kept n e);
  marks = λ n lt r. elim ((either n).0 r) [ inl p ↦ b.kept n (a.marks n lt p) | inr q ↦ b.marks n (omega (arith, lt, long)) q ];
}

-- no number is marked, where no number is of the kind
pub marks_nothing : (P : ℕ → Type 0) (old : List Bool) → ((n : ℕ) → P n → ⊥) → Marks P old old
marks_nothing P old none = record {
  marked = λ n e. inl e;
  kept = λ n e. e;
  marks = λ n lt p. absurd (none n p);
}

-- marks of one kind are marks of another kind of the same numbers
pub marks_same : (P Q : ℕ → Type 0) (old new : List Bool) → ((n : ℕ) → P n ↔ Q n) → Marks P old new → Marks Q old new
marks_same P Q old new same m = record {
  marked = λ n e. elim (m.marked n e) [ inl was ↦ inl was | inr now ↦ inr (now.0, (same n).0 now.1) ];
  kept = m.kept;
  marks = λ n lt q. m.marks n lt ((same n).1 q);
}

-- the item of an index, read twice
pub same_item : {X : Type 0} (xs : List X) (j k : ℕ) (x y : X) → j < length xs → x ≡ slice_index_or xs j x → slice_index_or xs k y ≡ y → k ≡ j → x ≡ y
same_item xs j k x y lt is at same = is ∙ get_or_default xs j x y lt ∙ subst (λ (i : ℕ). slice_index_or xs i y ≡ y) same at
