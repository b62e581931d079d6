-- Lists of blocks that are filled one position at a time.
use Rattle.std.proofs.Common.{ℕ, ◌≡◌, ◌≢◌, ◌+◌, ◌<◌, ◌≤◌, Bool, true, false, List, [], ◌∷◌, ◌++◌, length, get_or, set, take, sym, ap, ◌∙◌, subst, eq-eqb}
use Rattle.std.proofs.Common.{add-zero, zero-add, inl, inr, ◌⊎◌, arith}
use Rattle.std.specs.Prelude.{All, cond, map, nat_eq}
use Rattle.std.proofs.lemmas.Bool.{cases_eq, ne_eqb}
use Rattle.std.proofs.lemmas.List.{get_or-map, get_or-set_other, get_or-set_same, get_or_past, length-map, map-set}
use Rattle.std.proofs.lemmas.List.Sums.{count_by_more_yes, sum_by_more, sum_by_push}
use Rattle.std.specs.declared.vec.Vec.{Vec}
use Rattle.regalloc2_function.specs.FunctionValue.{FunctionValue, block_at, no_block}
use Rattle.regalloc2_function.specs.WellFormed.{times_in}
use Rattle.regalloc2_function.specs.Inside.Ways.{listed_of}
use Rattle.regalloc2_function.proofs.ListMembers.{all_members}
use Rattle.regalloc2_function.proofs.TimesInList.{times-take}

-- the list at a place that is there
pub listed_here : {A : Type 0} (ws : List (Vec ℕ A)) (n : ℕ) (d : Vec ℕ A) → n < length ws → listed_of ws n ≡ (get_or ws n d).items
listed_here ws n d less = get_or-map (λ w. w.items) ws n d [] less

-- the lists with one of them longer by one
listed_set : {A : Type 0} (ws : List (Vec ℕ A)) (s : ℕ) (w : Vec ℕ A) → s < length ws → listed_of (set ws s w) s ≡ w.items
listed_set ws s w less = ap (λ l. get_or l s []) (map-set (λ w. w.items) ws s w) ∙ get_or-set_same (map (λ w. w.items) ws) s w.items [] (simp length-map less)

listed_kept : {A : Type 0} (ws : List (Vec ℕ A)) (s n : ℕ) (w : Vec ℕ A) → n ≢ s → listed_of (set ws s w) n ≡ listed_of ws n
listed_kept ws s n w ne = ap (λ l. get_or l n []) (map-set (λ w. w.items) ws s w) ∙ get_or-set_other (map (λ w. w.items) ws) s n w.items [] ne

-- one position more
pub ways_more : {A : Type 0} (before old : List (Vec ℕ A)) (s b i : ℕ) (d w : Vec ℕ A) (succs : List ℕ) → s < length old → i < length succs →
    s ≡ get_or succs i s → w.items ≡ (get_or old s d).items ++ b ∷ [] →
    ((n p : ℕ) → times_in p (listed_of old n) ≡ times_in p (listed_of before n) + cond (nat_eq b p) (times_in n (take i succs)) 0) →
    (n p : ℕ) → times_in p (listed_of (set old s w) n) ≡ times_in p (listed_of before n) + cond (nat_eq b p) (times_in n (take (i + 1) succs)) 0
ways_more before old s b i d w succs there short is grown so_far n p =
    let h = so_far n p in
    let more : times_in n (take (i + 1) succs) ≡ times_in n (take i succs) + cond (nat_eq s n) 1 0 = sum_by_more (λ x. cond (nat_eq x n) 1 0) succs i s short
    ∙ ap (λ z. times_in n (take i succs) + cond (nat_eq z n) 1 0) (sym is) in
    elim (cases_eq s n) [
      | inl e ↦ (let pushed : listed_of (set old s w) n ≡ listed_of old n
          ++ b ∷ [] = subst (λ m. listed_of (set old s w) m ≡ listed_of old m ++ b ∷ []) e
          (listed_set old s w there ∙ grown ∙ ap (λ l. l ++ b ∷ []) (sym (listed_here old s d there))) in
          let one : times_in p (listed_of (set old s w) n) ≡ times_in p (listed_of old n) + cond (nat_eq b p) 1 0 = ap (times_in p) pushed
          ∙ sum_by_push (λ x. cond (nat_eq x p) 1 0) (listed_of old n) b in
          let here : nat_eq s n ≡ true = eq-eqb s n e in
          let now : times_in n (take (i + 1) succs) ≡ times_in n (take i succs) + 1 = more ∙ ap (λ t. times_in n (take i succs) + cond t 1 0) here in
          add_one (nat_eq b p) (times_in p (listed_of (set old s w) n)) (times_in p (listed_of old n)) (times_in p (listed_of before n))
          (times_in n (take i succs)) (times_in n (take (i + 1) succs)) h one now)
      | inr ne ↦ (let kept : listed_of (set old s w) n ≡ listed_of old n = listed_kept old s n w (λ q. ne (sym q)) in
          let none_here : times_in n (take (i + 1) succs) ≡ times_in n (take i succs) = more ∙ ap (λ t. times_in n (take i succs) + cond t 1 0) (ne_eqb s n ne)
          ∙ add-zero (times_in n (take i succs)) in
          ap (times_in p) kept ∙ h ∙ ap (λ m. times_in p (listed_of before n) + cond (nat_eq b p) m 0) (sym none_here))
    ]
  where
    add_one : (t : Bool) (new old before now next : ℕ) → old ≡ before + cond t now 0 → new ≡ old + cond t 1 0 → next ≡ now + 1 → new ≡ before + cond t next 0
    add_one true new old before now next h one more = omega arith
    add_one false new old before now next h one more = omega arith

-- a number that is no block has no successors
no_succs : (f : FunctionValue) (p : ℕ) → length f.blocks ≤ p → (block_at f p).succs ≡ []
no_succs f p past = ap (λ b. b.succs) (get_or_past f.blocks p no_block past)

-- the positions of one block more
pub all_ways_more : (f : FunctionValue) (b n p old new : ℕ) → new ≡ old + cond (nat_eq b p) (times_in n (block_at f b).succs) 0 →
    (p < b → old ≡ times_in n (block_at f p).succs) → (b ≤ p → old ≡ 0) →
    (p < b + 1 → new ≡ times_in n (block_at f p).succs) × (b + 1 ≤ p → new ≡ 0)
all_ways_more f b n p old new e before after =
    elim (cases_eq b p) [
      | inl same ↦ (let now : new ≡ old + times_in n (block_at f b).succs = e ∙ ap (λ t. old + cond t (times_in n (block_at f b).succs) 0) (eq-eqb b p same) in
          let none : old ≡ 0 = after (omega arith) in (
            λ less. now ∙ ap (λ m. m + times_in n (block_at f b).succs) none ∙ zero-add (times_in n (block_at f b).succs)
                ∙ ap (λ m. times_in n (block_at f m).succs) same,
            λ past. absurd (omega arith),
          ))
      | inr ne ↦ (let now : new ≡ old = e ∙ ap (λ t. old + cond t (times_in n (block_at f b).succs) 0) (ne_eqb b p ne) ∙ add-zero old in
          (λ less. now ∙ before (omega arith), λ past. now ∙ after (omega arith)))
    ]

-- once all blocks are counted, a block counts as often as it lists n among its successors, and a number past the last never
pub all_ways_end : (f : FunctionValue) (b n p all : ℕ) → length f.blocks ≤ b → (p < b → all ≡ times_in n (block_at f p).succs) → (b ≤ p → all ≡ 0) →
    all ≡ times_in n (block_at f p).succs
all_ways_end f b n p all end before after =
    elim (lt_or_le p b) [
      | inl l ↦ before l
      | inr past ↦ after past ∙ sym (ap (times_in n) (no_succs f p (omega arith)))
    ]
  where
    lt_or_le : (m n : ℕ) → (m < n) ⊎ (n ≤ m)
    lt_or_le m n = grind arith

-- what is listed somewhere is a block
pub are_blocks : (f : FunctionValue) (n : ℕ) (xs : List ℕ) → ((p : ℕ) → times_in p xs ≡ times_in n (block_at f p).succs) → All (λ b. b < length f.blocks) xs
are_blocks f n xs same = all_members (λ b. b < length f.blocks) xs (λ p m.
    elim (lt_or_le p (length f.blocks)) [
      | inl l ↦ l
      | inr past ↦ absurd (let e : times_in p xs ≡ 0 = same p ∙ ap (times_in n) (no_succs f p past) in
          let one : times_in p (take (m.0 + 1) xs) ≡ times_in p (take m.0 xs) + 1 = count_by_more_yes (λ x. nat_eq x p) xs m.0 p m.1
          (eq-eqb (get_or xs m.0 p) p m.2) in
          let le = times-take p (m.0 + 1) xs in omega arith)
    ])
  where
    lt_or_le : (m n : ℕ) → (m < n) ⊎ (n ≤ m)
    lt_or_le m n = grind arith
