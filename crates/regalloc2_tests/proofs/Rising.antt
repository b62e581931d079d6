-- Lemmas on moves whose destinations rise.
use Rattle.std.proofs.Common.{◌≡◌, ℕ, ◌+◌, ◌-◌, ◌<◌, ◌≤◌, List, length, get_or, refl, sym, ap, ◌∙◌, subst, inl, inr, ⊎_elim, arith}
use Rattle.std.proofs.lemmas.Bool.{cases_lt, cases_eq}
use Rattle.std.proofs.lemmas.List.{get_or_default, get_or-map}
use Rattle.std.proofs.lemmas.List.Sorted.{Contains-permutation, IsPermutation-map}
use Rattle.std.specs.List.Sorted.{IsPermutation}
use Rattle.regalloc2_names.specs.Place.{Place}
use Rattle.regalloc2_names.specs.PlaceBits.{bits_of_place}
use Rattle.regalloc2_parts.specs.AtOnce.{Ends, ends, ends_of, no_move, HasOneSourceEach}
use Rattle.regalloc2_parts.specs.Cycles.{move_at}
use Rattle.regalloc2_parts.specs.Giving.{IsBefore}

-- of the first moves each comes before the later ones
abbrev pub RisesTo : List Ends → ℕ → Type 0
RisesTo ms n = (i j : ℕ) → i ≤ j → j < n → IsBefore (move_at ms i) (move_at ms j)

before_trans : (a b c : Ends) → IsBefore a b → IsBefore b c → IsBefore a c
before_trans a b c p q = ⊎_elim
    (λ l. ⊎_elim
    (λ m. inl (omega arith))
    (λ e. let f : bits_of_place b.to ≡ bits_of_place c.to = ap bits_of_place e.1 in inl (omega arith))
    q)
    (λ e. let f : bits_of_place a.to ≡ bits_of_place b.to = ap bits_of_place e.1 in ⊎_elim
    (λ m. inl (omega arith))
    (λ h. inr (e.0 ∙ h.0, e.1 ∙ h.1))
    q)
    p

-- where the first n + 1 moves are in order and the next comes after the last of them, the first n + 2 are in order
pub rises_more : (ms : List Ends) (n : ℕ) → RisesTo ms (n + 1) → IsBefore (move_at ms n) (move_at ms (n + 1)) → RisesTo ms (n + 1 + 1)
rises_more ms n had step i j le r = ⊎_elim
    (λ l. had i j le l)
    (λ h. let e : j ≡ n + 1 = omega arith in ⊎_elim
    (λ same. subst (λ k. IsBefore (move_at ms i) (move_at ms k)) same (inr (refl, refl)))
    (λ other. subst (λ k. IsBefore (move_at ms i) (move_at ms k)) (sym e)
    (before_trans (move_at ms i) (move_at ms n) (move_at ms (n + 1)) (had i n (omega arith) (omega arith)) step))
    (cases_eq i j))
    (cases_lt j (n + 1))

-- where later moves have greater destinations or are equal moves, two with one destination have one source
pub rises_all : (ms : List Ends) (n : ℕ) → RisesTo ms n → length ms ≤ n → HasOneSourceEach ms
rises_all ms n had long a b ha hb e =
    let ra : ha.0 < length ms = ha.1 in
    let rb : hb.0 < length ms = hb.1 in
    let is_a : move_at ms ha.0 ≡ a = get_or_default ms ha.0 no_move a ha.1 ∙ ha.2 in
    let is_b : move_at ms hb.0 ≡ b = get_or_default ms hb.0 no_move b hb.1 ∙ hb.2 in
    ⊎_elim
    (λ l. sources b a (subst (λ x. IsBefore b x) is_a (subst (λ x. IsBefore x (move_at ms ha.0)) is_b (had hb.0 ha.0 (omega arith) (omega arith)))) (sym e)
    ∙ refl)
    (λ g. sym (sources a b (subst (λ x. IsBefore a x) is_b (subst (λ x. IsBefore x (move_at ms hb.0)) is_a (had ha.0 hb.0 (omega arith) (omega arith)))) e))
    (cases_lt hb.0 ha.0)
  where
    sources : (x y : Ends) → IsBefore x y → x.to ≡ y.to → y.from ≡ x.from
    sources x y p e = ⊎_elim
        (λ l. let f : bits_of_place x.to ≡ bits_of_place y.to = ap bits_of_place e in absurd (omega arith))
        (λ h. sym h.0)
        p

-- one more move that comes after the one before it
pub rises_step : {T : Type 0} (xs : List (Place × Place × T)) (at : ℕ) (x y : Place × Place × T) → 1 ≤ at → at < length xs → RisesTo (ends_of xs) at →
    x ≡ get_or xs (at - 1) x → y ≡ get_or xs at y → IsBefore (ends x) (ends y) → RisesTo (ends_of xs) (at + 1)
rises_step xs at x y least low had read_x read_y step =
    let back : at - 1 + 1 ≡ at = omega arith in
    let before : get_or (ends_of xs) (at - 1) no_move ≡ ends x = get_or-map ends xs (at - 1) x no_move (omega arith) ∙ ap ends (sym read_x) in
    let here : get_or (ends_of xs) at no_move ≡ ends y = get_or-map ends xs at y no_move low ∙ ap ends (sym read_y) in
    subst (λ k. RisesTo (ends_of xs) (k + 1)) back
    (rises_more (ends_of xs) (at - 1) (subst (λ k. RisesTo (ends_of xs) k) (sym back) had)
    (subst (λ k. IsBefore (move_at (ends_of xs) (at - 1)) (move_at (ends_of xs) k)) (sym back)
    (subst (λ z. IsBefore z (move_at (ends_of xs) at)) (sym before) (subst (λ z. IsBefore (ends x) z) (sym here) step))))

-- moves that change places keep their sources
pub sources_permuted : {T : Type 0} (xs ys : List (Place × Place × T)) → IsPermutation xs ys → HasOneSourceEach (ends_of ys) → HasOneSourceEach (ends_of xs)
sources_permuted xs ys p had a b ha hb e =
    had a b (Contains-permutation (ends_of xs) (ends_of ys) a (IsPermutation-map ends xs ys p) ha)
    (Contains-permutation (ends_of xs) (ends_of ys) b (IsPermutation-map ends xs ys p) hb) e
