-- A table of the numbers of blocks, filled member by member of an order.
use Rattle.std.proofs.Common.{◌≡◌, ◌∙◌, ℕ, ◌+◌, ◌<◌, ◌≤◌, Bool, true, false, List, [], ◌∷◌, ◌++◌, length, get_or, set, subst, take, nat_eq, refl, sym, ap, arith}
use Rattle.std.specs.Prelude.{◌≢◌, Contains, All, if◌then◌else◌, nat_lt, slice_index}
use Rattle.std.proofs.lemmas.Bool.Decides.{nat_tests}
use Rattle.std.proofs.lemmas.List.{get_or-set_other, get_or-set_same, get_or_default, take_all, take_more}
use Rattle.std.proofs.lemmas.List.Elements.{All-append, All-cons, All-nil}
use Rattle.std.proofs.lemmas.List.Sums.{passes_at_first}
use Rattle.regalloc2_serialize.specs.Rewrite.Renumbered.{ListsEachOnce, new_number}
use Rattle.regalloc2_serialize.proofs.RewriteLemmas.SamePaths.{low, number-at}

-- a block's number in an order, if it is below `n`; else the number of none
abbrev pub marked : List ℕ → ℕ → ℕ → ℕ
marked order n b = if nat_lt (new_number order b) n then new_number order b else 4294967295

-- no number is below 0
pub marked-none : (order : List ℕ) (b : ℕ) → marked order 0 b ≡ 4294967295
marked-none order b = let e : nat_lt (new_number order b) 0 ≡ false = grind (arith, nat_tests) in rw e refl

-- a block that isn't the next member keeps its mark
marked-same : (order : List ℕ) (n b : ℕ) → new_number order b ≢ n → marked order (n + 1) b ≡ marked order n b
marked-same order n b apart = by (nat_lt (new_number order b) n) refl
  where
    by : (c : Bool) → nat_lt (new_number order b) n ≡ c → marked order (n + 1) b ≡ marked order n b
    by true e = let f : nat_lt (new_number order b) (n + 1) ≡ true = grind (arith, nat_tests) in rw (e, f) refl
    by false e = let f : nat_lt (new_number order b) (n + 1) ≡ false = grind (arith, nat_tests) in rw (e, f) refl

-- the block that an order has at a number is the one of that number
there : (order : List ℕ) (n b x : ℕ) → n < length order → x ≡ get_or order n x → new_number order b ≡ n → x ≡ b
there order n b x less is e =
    let passes : nat_eq (get_or order (new_number order b) 0) b ≡ true = passes_at_first (λ y. nat_eq y b) order 0 (omega (arith, e, less)) in
    let at : get_or order (new_number order b) 0 ≡ b = grind (arith, nat_tests) in
    is ∙ get_or_default order n x 0 less ∙ ap (λ (k : ℕ). get_or order k 0) (sym e) ∙ at

-- a block without a mark gets the next member's number
pub mark-new : (order numbers : List ℕ) (n x count : ℕ) → n < length order → x ≡ get_or order n x → n < 4294967295 → x < length numbers →
    slice_index numbers x ≡ 4294967295 → ((b : ℕ) → b < count → slice_index numbers b ≡ marked order n b) → x < count →
    (b : ℕ) → b < count → slice_index (set numbers x n) b ≡ marked order (n + 1) b
mark-new order numbers n x count less is small within unset marks in-count b below = by (nat_eq b x) refl
  where
    least : new_number order x ≤ n
    least = low order x n (sym is)

    not-yet : nat_lt (new_number order x) n ≡ false
    not-yet = cases (nat_lt (new_number order x) n) refl
      where
        cases : (c : Bool) → nat_lt (new_number order x) n ≡ c → nat_lt (new_number order x) n ≡ false
        cases false e = e
        cases true e =
            let lower : new_number order x < n = grind (arith, nat_tests) in
            let mark : marked order n x ≡ new_number order x = rw e refl in
            absurd (omega (arith, marks x in-count, unset, mark, lower, small))

    now : new_number order x ≡ n
    now = let up : n ≤ new_number order x = grind (arith, nat_tests) in omega (arith, least, up)

    by : (c : Bool) → nat_eq b x ≡ c → slice_index (set numbers x n) b ≡ marked order (n + 1) b
    by true e =
        let same : b ≡ x = grind (arith, nat_tests) in
        let yes : nat_lt n (n + 1) ≡ true = grind (arith, nat_tests) in
        let mark : marked order (n + 1) x ≡ n = rw (now, yes) refl in
        rw same (get_or-set_same numbers x n 0 within ∙ sym mark)
    by false e =
        let apart : b ≢ x = grind (arith, nat_tests) in
        get_or-set_other numbers x b n 0 apart ∙ marks b below
        ∙ sym (marked-same order n b (λ at. apart (sym (there order n b x less is at))))

-- where the next member has a mark, all marks stay
pub mark-old : (order numbers : List ℕ) (n x count : ℕ) → n < length order → x ≡ get_or order n x → x < count → slice_index numbers x ≢ 4294967295 →
    ((b : ℕ) → b < count → slice_index numbers b ≡ marked order n b) →
    (b : ℕ) → b < count → slice_index numbers b ≡ marked order (n + 1) b
mark-old order numbers n x count less is in-count set-before marks b below = marks b below ∙ sym (marked-same order n b apart)
  where
    earlier : new_number order x < n
    earlier = cases (nat_lt (new_number order x) n) refl
      where
        cases : (c : Bool) → nat_lt (new_number order x) n ≡ c → new_number order x < n
        cases true e = grind (arith, nat_tests)
        cases false e = let mark : marked order n x ≡ 4294967295 = rw e refl in absurd (set-before (marks x in-count ∙ mark))

    apart : new_number order b ≢ n
    apart at =
        let same : x ≡ b = there order n b x less is at in
        let later : new_number order x ≡ n = ap (new_number order) same ∙ at in
        omega (arith, earlier, later)

-- the members so far and the next one are blocks
pub within-more : (order : List ℕ) (n x count : ℕ) → n < length order → x ≡ get_or order n x → x < count → All (λ b. b < count) (take n order) →
    All (λ b. b < count) (take (n + 1) order)
within-more order n x count less is below all =
    let split : take (n + 1) order ≡ take n order ++ x ∷ [] = take_more order n x less ∙ ap (λ (b : ℕ). take n order ++ b ∷ []) (sym is) in
    rw split (All-append (λ b. b < count) (take n order) (x ∷ []) all (All-cons (λ b. b < count) x [] below (All-nil _)))

-- after all members, a marked block is in the order, by its number
pub marked-all : (order : List ℕ) (n b : ℕ) → n ≡ length order → n < 4294967295 → marked order n b ≢ 4294967295 →
    (marked order n b ≡ new_number order b) × Contains order b
marked-all order n b long small some = by (nat_lt (new_number order b) n) refl
  where
    by : (c : Bool) → nat_lt (new_number order b) n ≡ c → (marked order n b ≡ new_number order b) × Contains order b
    by false e = let none : marked order n b ≡ 4294967295 = rw e refl in absurd (some none)
    by true e =
        let less : new_number order b < length order = grind (arith, nat_tests) in
        let passes : nat_eq (get_or order (new_number order b) 0) b ≡ true = passes_at_first (λ y. nat_eq y b) order 0 less in
        let at : get_or order (new_number order b) 0 ≡ b = grind (arith, nat_tests) in
        (rw e refl, (new_number order b, less, get_or_default order (new_number order b) b 0 less ∙ at))

-- an unmarked block isn't listed
pub unmarked : (order : List ℕ) (n b : ℕ) → n ≡ length order → n < 4294967295 → marked order n b ≡ 4294967295 → Contains order b → ⊥
unmarked order n b long small none has =
    let less : new_number order b < length order = (number-at order b has).0 in
    let yes : nat_lt (new_number order b) n ≡ true = grind (arith, nat_tests) in
    let mark : marked order n b ≡ new_number order b = rw yes refl in
    omega (arith, mark, none, less, long, small)

-- if each block has its mark after all members, the list is an order
pub all-marked : (order numbers : List ℕ) (count : ℕ) → length order ≡ count → count < 4294967295 → All (λ b. b < count) (take count order) →
    ((b : ℕ) → b < count → slice_index numbers b ≡ marked order count b) → ((b : ℕ) → b < count → slice_index numbers b ≢ 4294967295) → ListsEachOnce count order
all-marked order numbers count long small within marks some =
    let whole : take count order ≡ order = take_all count order (omega (arith, long)) in
    record {
      long = long;
      within = subst (All (λ b. b < count)) whole within;
      each = λ b less. (marked-all order count b (sym long) small (λ none. some b less (marks b less ∙ none))).1;
    }

-- after all members of an order, each block has its mark
pub order-marked : (order numbers : List ℕ) (count : ℕ) → length numbers ≡ count → count < 4294967295 → ListsEachOnce count order →
    ((b : ℕ) → b < count → slice_index numbers b ≡ marked order count b) → All (λ n. n ≢ 4294967295) numbers
order-marked order numbers count long small is marks k d less at =
    let below : k < count = omega (arith, long, less) in
    unmarked order count k (sym is.long) small (sym (marks k below) ∙ get_or_default numbers k 0 d less ∙ at) (is.each k below)

-- if each block is marked, its mark is its number
pub marked-number : (order numbers : List ℕ) (count : ℕ) → length order ≡ count → count < 4294967295 →
    ((b : ℕ) → b < count → slice_index numbers b ≡ marked order count b) → ((b : ℕ) → b < count → slice_index numbers b ≢ 4294967295) →
    (b : ℕ) → b < count → slice_index numbers b ≡ new_number order b
marked-number order numbers count long small marks some b less =
    marks b less ∙ (marked-all order count b (sym long) small (λ none. some b less (marks b less ∙ none))).0
