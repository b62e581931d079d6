-- Lemmas on the list of the instructions that name a requested number.
use Rattle.std.proofs.Common.{ℕ, ◌≡◌, ◌+◌, ◌<◌, inl, inr, List, [], ◌∷◌, ◌++◌, length, sym, ap, ◌∙◌, subst, refl, arith}
use Rattle.std.specs.Prelude.{slice_index_or}
use Rattle.std.proofs.lemmas.List.{get_or_append_left, length-append}
use Rattle.std.proofs.Math.Seq.{get_or-append_seam}
use Rattle.regalloc2_index.proofs.Numbers.{below_or_last}
use Rattle.regalloc2_function.specs.FunctionValue.{FunctionValue}
use Rattle.regalloc2_analysis.specs.LiveRanges.WalkInvariant.{AddsNothing, AreNamers, ListsAdding, NamesNoAsked}
use Rattle.regalloc2_analysis.proofs.LiveRangesLemmas.UsesInSSA.{IsDefOperand-from_DefinesAt}

module _ (f : FunctionValue) (Asked : ℕ → Type 0) (named : List ℕ) where
  -- no instruction is below the first
  pub named_none : AreNamers f Asked named 0 0
  named_none = record {
    within = omega arith;
    rising = λ j k l r. absurd (omega (arith, r));
    below = λ j l. absurd (omega (arith, l));
    names = λ j l. absurd (omega (arith, l));
    all = λ k l. absurd (omega (arith, l));
  }

  -- an instruction more that names none
  pub named_same : (i : ℕ) → NamesNoAsked f Asked i → AreNamers f Asked named (length named) i → AreNamers f Asked named (length named) (i + 1)
  named_same i none h = record {
    within = h.within;
    rising = h.rising;
    below = λ j l. let b = h.below j l in omega (arith, b);
    names = h.names;
    all = λ k l. elim (below_or_last k i l) [
      | inl less ↦ h.all k less
      | inr same ↦ inl (subst (NamesNoAsked f Asked) (sym same) none)
    ];
  }

  before_it : (i n : ℕ) → n < length named → slice_index_or (named ++ i ∷ []) n 0 ≡ slice_index_or named n 0
  before_it i n lt = get_or_append_left named (i ∷ []) 0 n lt

  at_it : (i n : ℕ) → n ≡ length named → slice_index_or (named ++ i ∷ []) n 0 ≡ i
  at_it i n same = ap (λ (m : ℕ). slice_index_or (named ++ i ∷ []) m 0) same ∙ get_or-append_seam named i [] 0

  -- an instruction more that names a requested number
  pub named_more : (i : ℕ) → (NamesNoAsked f Asked i → ⊥) → AreNamers f Asked named (length named) i →
      AreNamers f Asked (named ++ i ∷ []) (length (named ++ i ∷ [])) (i + 1)
  named_more i some h =
      let long : length (named ++ i ∷ []) ≡ length named + 1 = length-append named (i ∷ []) in
      record {
        within = omega arith;
        rising = λ j k l r. elim (below_or_last k (length named) (omega (arith, r, long))) [
          | inl less ↦ (let b = before_it i j (omega (arith, l, less)) in let c = before_it i k less in let up = h.rising j k l less in omega (arith, b, c, up))
          | inr same ↦ (let b = before_it i j (omega (arith, l, same)) in let c = at_it i k same in let low = h.below j (omega (arith, l, same)) in
              omega (arith, b, c, low))
        ];
        below = λ j l. elim (below_or_last j (length named) (omega (arith, l, long))) [
          | inl less ↦ (let b = before_it i j less in let low = h.below j less in omega (arith, b, low))
          | inr same ↦ (let b = at_it i j same in omega (arith, b))
        ];
        names = λ j l none. elim (below_or_last j (length named) (omega (arith, l, long))) [
          | inl less ↦ h.names j less (subst (NamesNoAsked f Asked) (before_it i j less) none)
          | inr same ↦ some (subst (NamesNoAsked f Asked) (at_it i j same) none)
        ];
        all = λ k l. elim (below_or_last k i l) [
          | inl less ↦ elim (h.all k less) [
            | inl none ↦ inl none
            | inr s ↦ (let lt = s.1 in inr (s.0, omega (arith, lt, long), before_it i s.0 s.1 ∙ s.2))
          ]
          | inr same ↦ inr (length named, omega (arith, long), at_it i (length named) refl ∙ sym same)
        ];
      }

  -- an instruction that names none adds nothing
  pub adds_nothing : (i : ℕ) → NamesNoAsked f Asked i → AddsNothing f Asked i
  adds_nothing i none = record {
    defines = λ v asked d. let n = IsDefOperand-from_DefinesAt f v i d in none d.0 n.operand (subst Asked (sym n.number) asked);
    reads = λ n at k asked r later. none k r.within (subst Asked (sym r.number) asked);
  }

  -- a list of the instructions that name a requested number has all that may add something
  pub lists_adding : (many i : ℕ) → AreNamers f Asked named many i → ListsAdding f Asked named many i
  lists_adding many i h = record {
    within = h.within;
    rising = h.rising;
    below = h.below;
    all = λ k lt. elim (h.all k lt) [ inl none ↦ inl (adds_nothing k none) | inr s ↦ inr s ];
  }
