-- An order is a permutation of the blocks, so that it keeps the number of instructions.
use Rattle.std.proofs.Common.{◌≡◌, ◌∙◌, ℕ, zero, suc, ◌+◌, ◌-◌, ◌<◌, ◌≤◌, List, [], ◌∷◌, length, map, refl, sym, ap, arith}
use Rattle.std.specs.Prelude.{Contains, remove, sum_by}
use Rattle.std.specs.List.{range_with_len}
use Rattle.std.specs.List.Sorted.{IsPermutation}
use Rattle.std.proofs.lemmas.List.{length-append}
use Rattle.std.proofs.lemmas.List.Edits.{length-remove}
use Rattle.std.proofs.lemmas.List.Sorted.{Contains-permutation, IsPermutation-cons, IsPermutation-refl, IsPermutation-remove, IsPermutation-sym}
use Rattle.std.proofs.lemmas.List.Sorted.{IsPermutation-trans, sum_by-IsPermutation}
use Rattle.std.proofs.lemmas.List.FromFn.{length-map-range_with_len}
use Rattle.std.proofs.lemmas.List.Sums.{sum_by-cons}
use Rattle.regalloc2_function.specs.FunctionValue.{FunctionValue, block_at, inst_at}
use Rattle.regalloc2_function.specs.WellFormed.{BlocksFollow}
use Rattle.regalloc2_serialize.specs.TableFunction.Built.{insts_of}
use Rattle.regalloc2_serialize.specs.Rewrite.Renumbered.{ListsEachOnce, renamed}

behind : (x z : ℕ) (xs : List ℕ) → x < z → Contains (x ∷ xs) z → Contains xs z
behind x z xs less (zero, within, is) = absurd (omega (arith, is, less))
behind x z xs less (suc k, within, is) = (k, omega (arith, within), is)

-- a list of `n` numbers that has each of the `n` numbers from `a` on is a permutation of them
pub permuted : (a n : ℕ) (xs : List ℕ) → length xs ≡ n → ((z : ℕ) → a ≤ z → z < a + n → Contains xs z) → IsPermutation (range_with_len a n) xs
permuted a zero [] e has = IsPermutation-refl []
permuted a zero (x ∷ xs) e has = absurd (omega (arith, e))
permuted a (suc n) xs e has =
    let w = has a (omega arith) (omega arith) in
    let front : IsPermutation xs (a ∷ remove xs w.0) = IsPermutation-remove xs w.0 a w.1 (sym w.2) in
    let long : length (remove xs w.0) ≡ n = omega (arith, length-remove xs w.0 w.1, e) in
    let rest : IsPermutation (range_with_len (a + 1) n) (remove xs w.0) = permuted (a + 1) n (remove xs w.0) long (λ z from below.
    behind a z (remove xs w.0) (omega (arith, from))
    (Contains-permutation xs (a ∷ remove xs w.0) z front (has z (omega (arith, from)) (omega (arith, below))))) in
    IsPermutation-trans (a ∷ range_with_len (a + 1) n) (a ∷ remove xs w.0) xs
    (IsPermutation-cons a (range_with_len (a + 1) n) (remove xs w.0) rest) (IsPermutation-sym xs (a ∷ remove xs w.0) front)

abbrev size : FunctionValue → ℕ → ℕ
size f b = (block_at f b).range.end - (block_at f b).range.first

total-renamed : (number : ℕ → ℕ) (f : FunctionValue) (order : List ℕ) →
    length (insts_of (map (renamed number f) order)) ≡ sum_by (size f) order
total-renamed number f [] = refl
total-renamed number f (b ∷ bs) =
    length-append (renamed number f b).insts (insts_of (map (renamed number f) bs))
    ∙ omega (arith, long, total-renamed number f bs, sum_by-cons (size f) b bs)
  where
    long : length (renamed number f b).insts ≡ size f b
    long = length-map-range_with_len (inst_at f) (block_at f b).range.first (size f b)

-- the blocks from one on have the instructions up to the last
total-from : (f : FunctionValue) (a n : ℕ) → BlocksFollow f → a + suc n ≡ length f.blocks →
    sum_by (size f) (range_with_len a (suc n)) + (block_at f a).range.first ≡ length f.insts
total-from f a zero follow e =
    let here = follow a (omega (arith, e)) in
    omega (arith, sum_by-cons (size f) a [], here.0, here.3 (omega (arith, e)))
total-from f a (suc n) follow e =
    let here = follow a (omega (arith, e)) in
    let next = follow (a + 1) (omega (arith, e)) in
    let back : a + 1 - 1 ≡ a = omega arith in
    let joined : (block_at f (a + 1)).range.first ≡ (block_at f a).range.end = next.2 (omega arith) ∙ ap (λ n. (block_at f n).range.end) back in
    omega (arith, sum_by-cons (size f) a (range_with_len (a + 1) (suc n)), here.0, joined, total-from f (a + 1) n follow (omega (arith, e)))

-- the blocks in an order have the function's instructions
pub order-keeps-insts : (number : ℕ → ℕ) (f : FunctionValue) (order : List ℕ) → BlocksFollow f → f.entry < length f.blocks →
    ListsEachOnce (length f.blocks) order → length (insts_of (map (renamed number f) order)) ≡ length f.insts
order-keeps-insts number f order follow some is =
    let same : sum_by (size f) order ≡ sum_by (size f) (range_with_len 0 (length f.blocks)) =
    sum_by-IsPermutation (size f) (range_with_len 0 (length f.blocks)) order
    (permuted 0 (length f.blocks) order is.long (λ z from below. is.each z (omega (arith, below)))) in
    let many : length f.blocks ≡ suc (length f.blocks - 1) = omega (arith, some) in
    let all : sum_by (size f) (range_with_len 0 (suc (length f.blocks - 1))) + (block_at f 0).range.first ≡ length f.insts =
    total-from f 0 (length f.blocks - 1) follow (omega (arith, some)) in
    let begin : (block_at f 0).range.first ≡ 0 = (follow 0 (omega (arith, some))).1 refl in
    total-renamed number f order ∙ same ∙ ap (λ (n : ℕ). sum_by (size f) (range_with_len 0 n)) many ∙ omega (arith, all, begin)
