-- The text of lines, one after another.
use Rattle.std.proofs.Common.{ℕ, zero, suc, ◌≡◌, ◌+◌, ◌<◌, ◌≤◌, List, [], ◌∷◌, ◌++◌, length, get_or, take, refl, sym, ap, ◌∙◌, arith, append_assoc, append-nil}
use Rattle.codegen_machine.specs.declared.Instruction.{Instruction}
use Rattle.codegen.specs.declared.text.frame.FrameWords.{FrameWords}
use Rattle.codegen.specs.Text.Assembly.{line_text, lines_text}

-- no instructions have an empty text
pub lines_none : (g : ℕ) (f : FrameWords) (count k : ℕ) → lines_text g f count k [] ≡ []
unfolding lines_text
lines_none g f count k = refl

module _ (g : ℕ) (f : FrameWords) (count : ℕ) where
  -- k instructions, and one more
  lines_more : (all : List Instruction) (n k : ℕ) (d : Instruction) → k < length all →
      lines_text g f count n (take k all) ++ line_text g f count (n + k) (get_or all k d) ≡ lines_text g f count n (take (k + 1) all)
  unfolding lines_text
  lines_more [] n k d less = absurd (omega arith)
  lines_more (x ∷ all) n zero d less = let at : n + 0 ≡ n = omega arith in rw at (sym (append-nil (line_text g f count n x)))
  lines_more (x ∷ all) n (suc k) d less =
      let one : suc k + 1 ≡ suc (k + 1) = omega arith in
      let at : n + 1 + k ≡ n + suc k = omega arith in
      let i : Instruction = get_or all k d in
      rw one (append_assoc (line_text g f count n x) (lines_text g f count (n + 1) (take k all)) (line_text g f count (n + suc k) i)
      ∙ ap (λ t. line_text g f count n x ++ t) (ap (λ (m : ℕ). lines_text g f count (n + 1) (take k all) ++ line_text g f count m i) (sym at)
      ∙ lines_more all (n + 1) k d (omega arith)))

  pub lines_next : (all : List Instruction) (k : ℕ) (d : Instruction) → k < length all →
      lines_text g f count 0 (take k all) ++ line_text g f count k (get_or all k d) ≡ lines_text g f count 0 (take (k + 1) all)
  lines_next all k d less =
      let at : 0 + k ≡ k = omega arith in
      ap (λ (m : ℕ). lines_text g f count 0 (take k all) ++ line_text g f count m (get_or all k d)) (sym at) ∙ lines_more all 0 k d less

  -- all of them
  pub lines_all : (all : List Instruction) (k : ℕ) → length all ≤ k → lines_text g f count 0 (take k all) ≡ lines_text g f count 0 all
  lines_all all k most = ap (lines_text g f count 0) (take_all all k most)
    where
      take_all : (xs : List Instruction) (k : ℕ) → length xs ≤ k → take k xs ≡ xs
      take_all [] zero most = refl
      take_all [] (suc k) most = refl
      take_all (x ∷ xs) zero most = absurd (omega arith)
      take_all (x ∷ xs) (suc k) most = ap (λ ys. x ∷ ys) (take_all xs k (omega arith))
