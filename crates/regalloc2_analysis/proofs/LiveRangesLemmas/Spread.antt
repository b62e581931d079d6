-- Tables of entries, spread out to tables by number.
use Rattle.std.proofs.Common.{ℕ, ◌≡◌, ◌≢◌, ◌+◌, ◌<◌, ◌≤◌, ◌⊎◌, inl, inr, Bool, List, [], ◌∷◌, ◌++◌, length, set, sym, ◌∙◌, subst}
use Rattle.std.proofs.Common.{arith, get_or-set_same, get_or-set_other}
use Rattle.std.specs.Prelude.{Option, None, Some, slice_index_or, replicate}
use Rattle.std.proofs.lemmas.Bool.{cases_eq, cases_lt}
use Rattle.std.proofs.lemmas.List.{get_or-map, get_or_past, get_or-replicate, length-map, length-replicate, ext_get_or, length-set}
use Rattle.std.proofs.lemmas.List.{get_or_append_left, length-append}
use Rattle.std.proofs.Math.Seq.{get_or-append_seam}
use Rattle.regalloc2_index.proofs.Numbers.{below_or_last}
use Rattle.regalloc2_analysis.specs.LiveRanges.LiveRanges.{IsWanted}
use Rattle.regalloc2_analysis.specs.LiveRanges.Entries.{AreEntryIndexes, HasEntry, IsApart, spread}

-- spread out, a table is as long as its list of indexes
pub spread_length : {X : Type 0} (indexes : List ℕ) (t : List (Option X)) → length (spread indexes t) ≡ length indexes
spread_length indexes t = length-map indexes (λ s. slice_index_or t s None)

-- a number's entry
pub spread_at : {X : Type 0} (indexes : List ℕ) (t : List (Option X)) (n : ℕ) → n < length indexes →
    slice_index_or (spread indexes t) n None ≡ slice_index_or t (slice_index_or indexes n 0) None
spread_at indexes t n lt = get_or-map (λ s. slice_index_or t s None) indexes n 0 None lt

-- no entry past the end
pub spread_past : {X : Type 0} (indexes : List ℕ) (t : List (Option X)) (n : ℕ) → length indexes ≤ n → slice_index_or (spread indexes t) n None ≡ None
spread_past indexes t n le = get_or_past (spread indexes t) n None (let long = spread_length indexes t in omega (arith, long, le))

-- an entry that was set is there
pub set_here : {X : Type 0} (indexes : List ℕ) (t : List (Option X)) (n : ℕ) (x : X) → HasEntry indexes n (length t) →
    slice_index_or (spread indexes (set t (slice_index_or indexes n 0) (Some x))) n None ≡ Some x
set_here indexes t n x has = spread_at indexes (set t (slice_index_or indexes n 0) (Some x)) n has.0 ∙ get_or-set_same t (slice_index_or indexes n 0) (Some x) None
    has.1

-- the entries of other numbers stay
pub set_there : {X : Type 0} (indexes : List ℕ) (t : List (Option X)) (n m : ℕ) (x : X) → IsApart indexes (length t) → HasEntry indexes n (length t) → m ≢ n →
    slice_index_or (spread indexes (set t (slice_index_or indexes n 0) (Some x))) m None ≡ slice_index_or (spread indexes t) m None
set_there indexes t n m x apart has ne = elim (cases_lt m (length indexes)) [
  | inl lt ↦ spread_at indexes (set t (slice_index_or indexes n 0) (Some x)) m lt
      ∙ get_or-set_other t (slice_index_or indexes n 0) (slice_index_or indexes m 0) (Some x) None (λ same. ne (sym (apart n m has lt (sym same))))
      ∙ sym (spread_at indexes t m lt)
  | inr past ↦ spread_past indexes (set t (slice_index_or indexes n 0) (Some x)) m past ∙ sym (spread_past indexes t m past)
]

-- to set an entry is to set it in the table by number
pub set_spread : {X : Type 0} (indexes : List ℕ) (t : List (Option X)) (n : ℕ) (x : X) → IsApart indexes (length t) → HasEntry indexes n (length t) →
    spread indexes (set t (slice_index_or indexes n 0) (Some x)) ≡ set (spread indexes t) n (Some x)
set_spread indexes t n x apart has =
    let old = spread_length indexes t in
    let new = spread_length indexes (set t (slice_index_or indexes n 0) (Some x)) in
    let less : n < length (spread indexes t) = let lt = has.0 in omega (arith, lt, old) in
    ext_get_or None (spread indexes (set t (slice_index_or indexes n 0) (Some x))) (set (spread indexes t) n (Some x))
    (new ∙ sym old ∙ sym (length-set (spread indexes t) n (Some x)))
    (λ m lt. elim (cases_eq m n) [
      | inl same ↦ (rw same (set_here indexes t n x has ∙ sym (get_or-set_same (spread indexes t) n (Some x) None less)))
      | inr ne ↦ set_there indexes t n m x apart has ne ∙ sym (get_or-set_other (spread indexes t) n m (Some x) None ne)
    ])

-- without any entry nothing is spread out
pub spread_nothing : {X : Type 0} (indexes : List ℕ) (m n : ℕ) → slice_index_or (spread {X = X} indexes (replicate m None)) n None ≡ None
spread_nothing indexes m n = elim (cases_lt n (length indexes)) [
  | inr past ↦ spread_past indexes (replicate m None) n past
  | inl lt ↦ (spread_at indexes (replicate m None) n lt ∙ elim (cases_lt (slice_index_or indexes n 0) m) [
    | inl less ↦ get_or-replicate m (slice_index_or indexes n 0) None None less
    | inr le ↦ get_or_past (replicate m None) (slice_index_or indexes n 0) None (rw length-replicate le)
  ])
]

-- the numbers so far have their indexes
pub record IndexesSoFar (wanted : List Bool) (indexes : List ℕ) (count num : ℕ) : Type 0 where
  pub few : count ≤ length indexes
  pub within : (n : ℕ) → n < length indexes → (slice_index_or indexes n 0 < count) ⊎ (slice_index_or indexes n 0 ≡ num)
  pub apart : IsApart indexes count
  pub theirs : (n : ℕ) → n < length indexes → IsWanted wanted n → HasEntry indexes n count
  pub only : (n : ℕ) → HasEntry indexes n count → IsWanted wanted n
  pub used : (s : ℕ) → s < count → (n : ℕ) × (n < length indexes) × (slice_index_or indexes n 0 ≡ s)

module _ (indexes : List ℕ) (s : ℕ) where
  -- an index more leaves the indexes before it
  before_it : (n : ℕ) → n < length indexes → slice_index_or (indexes ++ s ∷ []) n 0 ≡ slice_index_or indexes n 0
  before_it n lt = get_or_append_left indexes (s ∷ []) 0 n lt

  at_it : slice_index_or (indexes ++ s ∷ []) (length indexes) 0 ≡ s
  at_it = get_or-append_seam indexes s [] 0

  one_longer : length (indexes ++ s ∷ []) ≡ length indexes + 1
  one_longer = length-append indexes (s ∷ [])

-- one requested number more has the next index
pub index_more : (wanted : List Bool) (indexes : List ℕ) (count num : ℕ) → length indexes < num → IsWanted wanted (length indexes) →
    IndexesSoFar wanted indexes count num → IndexesSoFar wanted (indexes ++ count ∷ []) (count + 1) num
index_more wanted indexes count num room is h = record {
  few = let few = h.few in omega (arith, few, long);
  within = λ n lt. elim (below_or_last n (length indexes) (omega (arith, lt, long))) [
    | inl less ↦ elim (h.within n less) [
      | inl x ↦ inl (let b = before_it indexes count n less in omega (arith, x, b))
      | inr y ↦ inr (before_it indexes count n less ∙ y)
    ]
    | inr same ↦ inl (let here = at n same in omega (arith, here))
  ];
  apart = λ n k has lt same. elim (below_or_last n (length indexes) (let l = has.0 in omega (arith, l, long))) [
    | inl less ↦ elim (below_or_last k (length indexes) (omega (arith, lt, long))) [
      | inl fewer ↦ (let b = before_it indexes count n less in let c = before_it indexes count k fewer in
          elim (h.within n less) [
            | inl x ↦ h.apart n k (less, x) fewer (sym b ∙ same ∙ c)
            | inr y ↦ absurd (let l = has.1 in let few = h.few in omega (arith, l, b, y, few, room))
          ])
      | inr last ↦ absurd (let b = before_it indexes count n less in let here = at k last in
          elim (h.within n less) [
            | inl x ↦ omega (arith, x, b, same, here)
            | inr y ↦ (let few = h.few in omega (arith, y, b, same, here, few, room))
          ])
    ]
    | inr last ↦ elim (below_or_last k (length indexes) (omega (arith, lt, long))) [
      | inl fewer ↦ absurd (let b = before_it indexes count k fewer in let here = at n last in
          elim (h.within k fewer) [
            | inl x ↦ omega (arith, x, b, same, here)
            | inr y ↦ (let few = h.few in omega (arith, y, b, same, here, few, room))
          ])
      | inr end ↦ last ∙ sym end
    ]
  ];
  theirs = λ n lt w. (
    lt,
    elim (below_or_last n (length indexes) (omega (arith, lt, long))) [
      | inl less ↦ (let x = (h.theirs n less w).1 in let b = before_it indexes count n less in omega (arith, x, b))
      | inr same ↦ (let here = at n same in omega (arith, here))
    ],
  );
  only = λ n has. elim (below_or_last n (length indexes) (let l = has.0 in omega (arith, l, long))) [
    | inl less ↦ (let b = before_it indexes count n less in let x = has.1 in elim (h.within n less) [
      | inl y ↦ h.only n (less, y)
      | inr y ↦ absurd (let few = h.few in omega (arith, x, b, y, few, room))
    ])
    | inr same ↦ subst (IsWanted wanted) (sym same) is
  ];
  used = λ s lt. elim (below_or_last s count lt) [
    | inl less ↦ (let u = h.used s less in (u.0, let l = u.1 in omega (arith, l, long), before_it indexes count u.0 u.1 ∙ u.2))
    | inr same ↦ (length indexes, omega (arith, long), at_it indexes count ∙ sym same)
  ];
}
  where
    long : length (indexes ++ count ∷ []) ≡ length indexes + 1
    long = one_longer indexes count

    at : (n : ℕ) → n ≡ length indexes → slice_index_or (indexes ++ count ∷ []) n 0 ≡ count
    at n same = subst (λ (k : ℕ). slice_index_or (indexes ++ count ∷ []) k 0 ≡ count) (sym same) (at_it indexes count)

-- a number that isn't requested has an index past all entries
pub index_past : (wanted : List Bool) (indexes : List ℕ) (count num : ℕ) → length indexes < num → (IsWanted wanted (length indexes) → ⊥) →
    IndexesSoFar wanted indexes count num → IndexesSoFar wanted (indexes ++ num ∷ []) count num
index_past wanted indexes count num room never h = record {
  few = let few = h.few in omega (arith, few, long);
  within = λ n lt. elim (below_or_last n (length indexes) (omega (arith, lt, long))) [
    | inl less ↦ subst (λ (s : ℕ). (s < count) ⊎ (s ≡ num)) (sym (before_it indexes num n less)) (h.within n less)
    | inr same ↦ inr (at n same)
  ];
  apart = λ n k has lt same. elim (below_or_last n (length indexes) (let l = has.0 in omega (arith, l, long))) [
    | inl less ↦ (let b = before_it indexes num n less in let x = has.1 in elim (below_or_last k (length indexes) (omega (arith, lt, long))) [
      | inl fewer ↦ h.apart n k (less, omega (arith, b, x)) fewer (sym b ∙ same ∙ before_it indexes num k fewer)
      | inr last ↦ absurd (let here = at k last in let few = h.few in omega (arith, x, same, here, few, room))
    ])
    | inr last ↦ absurd (let here = at n last in let x = has.1 in let few = h.few in omega (arith, x, here, few, room))
  ];
  theirs = λ n lt w. (
    lt,
    elim (below_or_last n (length indexes) (omega (arith, lt, long))) [
      | inl less ↦ (let x = (h.theirs n less w).1 in let b = before_it indexes num n less in omega (arith, x, b))
      | inr same ↦ absurd (never (subst (IsWanted wanted) same w))
    ],
  );
  only = λ n has. elim (below_or_last n (length indexes) (let l = has.0 in omega (arith, l, long))) [
    | inl less ↦ (let b = before_it indexes num n less in let x = has.1 in h.only n (less, omega (arith, x, b)))
    | inr same ↦ absurd (let here = at n same in let x = has.1 in let few = h.few in omega (arith, here, x, few, room))
  ];
  used = λ s lt. (let u = h.used s lt in (u.0, let l = u.1 in omega (arith, l, long), before_it indexes num u.0 u.1 ∙ u.2));
}
  where
    long : length (indexes ++ num ∷ []) ≡ length indexes + 1
    long = one_longer indexes num

    at : (n : ℕ) → n ≡ length indexes → slice_index_or (indexes ++ num ∷ []) n 0 ≡ num
    at n same = subst (λ (k : ℕ). slice_index_or (indexes ++ num ∷ []) k 0 ≡ num) (sym same) (at_it indexes num)

-- all numbers have theirs
pub indexes_all : (wanted : List Bool) (indexes : List ℕ) (count num : ℕ) → IndexesSoFar wanted indexes count num → AreEntryIndexes wanted indexes count
indexes_all wanted indexes count num h = record { apart = h.apart; theirs = h.theirs; only = h.only; used = h.used }
