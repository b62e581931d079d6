-- A word is written at an index for its key.
use Rattle.std.proofs.Common.{ℕ, zero, suc, ◌≡◌, ◌≢◌, ◌<◌, ◌≤◌, ◌+◌, inl, inr, refl, sym, ap, ◌∙◌, arith, false, cond, nat_eq, eq-eqb, List, [], ◌∷◌, ◌++◌}
use Rattle.std.proofs.Common.{length, slice_index_or, slice_set, take, length-take}
use Rattle.std.proofs.Math.Seq.{take-set-lt}
use Rattle.std.proofs.lemmas.List.{take_more_set}
use Rattle.std.proofs.lemmas.Bool.Decides.{nat_tests}
use Rattle.std.proofs.lemmas.Bool.{ne_eqb}
use Rattle.regalloc2_function.specs.Numbers.{word_of}
use Rattle.regalloc2_function.specs.Inside.NumberWords.{LacksKey, KeysApart, IsIndexFor}

apart-flip : (a b : ℕ) → nat_eq a b ≡ false → nat_eq b a ≡ false
apart-flip a b e = grind (arith, nat_tests)

-- if the word at each index has another key, then no word of the list has this key
pub Lacks-from_each : (key : ℕ) (es : List (ℕ × ℕ)) → ((k : ℕ) → k < length es → (slice_index_or es k (0, 0)).0 ≢ key) → LacksKey key es
unfolding LacksKey
Lacks-from_each key [] h = tt
Lacks-from_each key (e ∷ es) h =
    (ne_eqb key e.0 (λ q. h 0 (omega arith) (sym q)), Lacks-from_each key es (λ k less. h (suc k) (omega arith)))

Lacks-at : (key : ℕ) (es : List (ℕ × ℕ)) (p : ℕ) → LacksKey key es → p < length es → nat_eq key (slice_index_or es p (0, 0)).0 ≡ false
unfolding LacksKey
Lacks-at key [] p h less = absurd (omega arith)
Lacks-at key (e ∷ es) zero h less = h.0
Lacks-at key (e ∷ es) (suc p) h less = Lacks-at key es p h.1 (omega arith)

Lacks-set : (k key w : ℕ) (es : List (ℕ × ℕ)) (p : ℕ) → LacksKey k es → nat_eq k key ≡ false → LacksKey k (slice_set es p (key, w))
unfolding LacksKey
Lacks-set k key w [] p h ne = tt
Lacks-set k key w (e ∷ es) zero h ne = (ne, h.1)
Lacks-set k key w (e ∷ es) (suc p) h ne = (h.0, Lacks-set k key w es p h.1 ne)

Lacks-append : (k key w : ℕ) (es : List (ℕ × ℕ)) → LacksKey k es → nat_eq k key ≡ false → LacksKey k (es ++ (key, w) ∷ [])
unfolding LacksKey
Lacks-append k key w [] h ne = (ne, tt)
Lacks-append k key w (e ∷ es) h ne = (h.0, Lacks-append k key w es h.1 ne)

-- the word of a key is 0 where no word of the list has that key
pub word_of-lacks : (key : ℕ) (es : List (ℕ × ℕ)) → LacksKey key es → word_of es key ≡ 0
unfolding LacksKey word_of
word_of-lacks key [] h = refl
word_of-lacks key (e ∷ es) h = rw (h.0) (omega (arith, word_of-lacks key es h.1))

-- arithmetic of one step
own_here : (k key e0 e1 w r : ℕ) → e0 ≡ key → (k ≡ key → r ≡ 0) → cond (nat_eq k key) w 0 + r ≡ cond (nat_eq k key) w (cond (nat_eq k e0) e1 0 + r)
own_here k key e0 e1 w r e h = grind (arith, nat_tests)

zero_here : (k key e0 e1 w r : ℕ) → e1 ≡ 0 → (k ≡ key → r ≡ 0) → cond (nat_eq k key) w 0 + r ≡ cond (nat_eq k key) w (cond (nat_eq k e0) e1 0 + r)
zero_here k key e0 e1 w r e h = grind (arith, nat_tests)

further : (k key e0 e1 w r s : ℕ) → nat_eq key e0 ≡ false → s ≡ cond (nat_eq k key) w r →
    cond (nat_eq k e0) e1 0 + s ≡ cond (nat_eq k key) w (cond (nat_eq k e0) e1 0 + r)
further k key e0 e1 w r s ne e = grind (arith, nat_tests)

-- where keys differ, the word stored under a key is the key's word
pub word_of-own : (key : ℕ) (es : List (ℕ × ℕ)) (p : ℕ) → KeysApart es → p < length es → (slice_index_or es p (0, 0)).0 ≡ key →
    word_of es key ≡ (slice_index_or es p (0, 0)).1
unfolding KeysApart word_of
word_of-own key [] p h less at = absurd (omega arith)
word_of-own key (e ∷ es) zero h less at =
    rw (eq-eqb key e.0 (sym at)) (let z = word_of-lacks e.0 es h.0 in let y : word_of es key ≡ 0 = rw at at z in omega arith)
word_of-own key (e ∷ es) (suc p) h less at =
    let ne : nat_eq key e.0 ≡ false = apart-flip e.0 key (rw at at (Lacks-at e.0 es p h.0 (omega arith))) in
    rw ne (let i = word_of-own key es p h.1 (omega arith) at in omega arith)

set_own : (key w k : ℕ) (es : List (ℕ × ℕ)) (p : ℕ) → KeysApart es → p < length es → (slice_index_or es p (0, 0)).0 ≡ key →
    word_of (slice_set es p (key, w)) k ≡ cond (nat_eq k key) w (word_of es k)
unfolding KeysApart word_of
set_own key w k [] p h less at = absurd (omega arith)
set_own key w k (e ∷ es) zero h less at =
    own_here k key e.0 e.1 w (word_of es k) at (λ q. let z = word_of-lacks e.0 es h.0 in rw (at, ← q) at z)
set_own key w k (e ∷ es) (suc p) h less at =
    let ne : nat_eq key e.0 ≡ false = apart-flip e.0 key (rw at at (Lacks-at e.0 es p h.0 (omega arith))) in
    further k key e.0 e.1 w (word_of es k) _ ne (set_own key w k es p h.1 (omega arith) at)

set_zero : (key w k : ℕ) (es : List (ℕ × ℕ)) (p : ℕ) → LacksKey key es → p < length es → (slice_index_or es p (0, 0)).1 ≡ 0 →
    word_of (slice_set es p (key, w)) k ≡ cond (nat_eq k key) w (word_of es k)
unfolding LacksKey word_of
set_zero key w k [] p h less at = absurd (omega arith)
set_zero key w k (e ∷ es) zero h less at =
    zero_here k key e.0 e.1 w (word_of es k) at (λ q. rw (← q) at (word_of-lacks key es h.1))
set_zero key w k (e ∷ es) (suc p) h less at =
    further k key e.0 e.1 w (word_of es k) _ h.0 (set_zero key w k es p h.1 (omega arith) at)

append_word : (key w k : ℕ) (es : List (ℕ × ℕ)) → LacksKey key es → word_of (es ++ (key, w) ∷ []) k ≡ cond (nat_eq k key) w (word_of es k)
unfolding LacksKey word_of
append_word key w k [] h = omega arith
append_word key w k (e ∷ es) h = further k key e.0 e.1 w (word_of es k) _ h.0 (append_word key w k es h.1)

KeysApart-set_own : (key w : ℕ) (es : List (ℕ × ℕ)) (p : ℕ) → KeysApart es → p < length es → (slice_index_or es p (0, 0)).0 ≡ key →
    KeysApart (slice_set es p (key, w))
unfolding KeysApart
KeysApart-set_own key w [] p h less at = absurd (omega arith)
KeysApart-set_own key w (e ∷ es) zero h less at = (rw (← at) h.0, h.1)
KeysApart-set_own key w (e ∷ es) (suc p) h less at =
    let ne : nat_eq e.0 key ≡ false = rw at at (Lacks-at e.0 es p h.0 (omega arith)) in
    (Lacks-set e.0 key w es p h.0 ne, KeysApart-set_own key w es p h.1 (omega arith) at)

KeysApart-set_new : (key w : ℕ) (es : List (ℕ × ℕ)) (p : ℕ) → KeysApart es → LacksKey key es → KeysApart (slice_set es p (key, w))
unfolding KeysApart LacksKey
KeysApart-set_new key w [] p h l = tt
KeysApart-set_new key w (e ∷ es) zero h l = (l.1, h.1)
KeysApart-set_new key w (e ∷ es) (suc p) h l =
    (Lacks-set e.0 key w es p h.0 (apart-flip key e.0 l.0), KeysApart-set_new key w es p h.1 l.1)

KeysApart-append : (key w : ℕ) (es : List (ℕ × ℕ)) → KeysApart es → LacksKey key es → KeysApart (es ++ (key, w) ∷ [])
unfolding KeysApart LacksKey
KeysApart-append key w [] h l = (tt, tt)
KeysApart-append key w (e ∷ es) h l = (Lacks-append e.0 key w es h.0 (apart-flip key e.0 l.0), KeysApart-append key w es h.1 l.1)

-- a word over another one
pub set_word : (es : List (ℕ × ℕ)) (key w p : ℕ) → KeysApart es → IsIndexFor es key p → p < length es → (k : ℕ) →
    word_of (slice_set es p (key, w)) k ≡ cond (nat_eq k key) w (word_of es k)
set_word es key w p apart place less k = elim (place.replaces less) [
  | inl own ↦ set_own key w k es p apart less own
  | inr free ↦ set_zero key w k es p free.1 less free.0
]

-- no two words share a key after one is written over another, at an index for its key
pub KeysApart-set : (es : List (ℕ × ℕ)) (key w p : ℕ) → KeysApart es → IsIndexFor es key p → p < length es → KeysApart (slice_set es p (key, w))
KeysApart-set es key w p apart place less = elim (place.replaces less) [
  | inl own ↦ KeysApart-set_own key w es p apart less own
  | inr free ↦ KeysApart-set_new key w es p apart free.1
]

-- a word past the others
pub add_word : (es : List (ℕ × ℕ)) (key w p : ℕ) → IsIndexFor es key p → p ≡ length es → (k : ℕ) →
    word_of (es ++ (key, w) ∷ []) k ≡ cond (nat_eq k key) w (word_of es k)
add_word es key w p place at k = append_word key w k es (place.past at)

-- no two words share a key after one is added past the last, where no word had its key
pub KeysApart-add : (es : List (ℕ × ℕ)) (key w p : ℕ) → KeysApart es → IsIndexFor es key p → p ≡ length es → KeysApart (es ++ (key, w) ∷ [])
KeysApart-add es key w p apart place at = KeysApart-append key w es apart (place.past at)

length_take_min : (ws : List (ℕ × ℕ)) (n : ℕ) → n ≤ length ws → length (take n ws) ≡ n
length_take_min ws n h = omega (arith, length-take n ws)

-- the word of `key` is written in a list of words, whose keys stay apart
pub record IsWritten (old new : List (ℕ × ℕ)) (key w : ℕ) : Type 0 where
  pub apart : KeysApart new
  pub words : (k : ℕ) → word_of new k ≡ cond (nat_eq k key) w (word_of old k)

-- a word is written for its key if it replaces, at an index for it, one of the words that count
pub written_within : (ws es : List (ℕ × ℕ)) (len key w p : ℕ) → take len ws ≡ es → len ≤ length ws → KeysApart es → IsIndexFor es key p → p ≢ len →
    IsWritten es (take len (slice_set ws p (key, w))) key w
written_within ws es len key w p front room apart place ne =
    let l : length es ≡ len = rw (← front) (length_take_min ws len room) in
    let b = place.within in
    let less : p < length es = omega arith in
    let e : take len (slice_set ws p (key, w)) ≡ slice_set es p (key, w) = take-set-lt len ws p (key, w) (omega arith)
    ∙ ap (λ z. slice_set z p (key, w)) front in
    rw e (record { apart = KeysApart-set es key w p apart place less; words = set_word es key w p apart place less })

-- a word is written for its key if it goes right past the words that count, and one more counts from then on
pub written_past : (ws es : List (ℕ × ℕ)) (len key w p : ℕ) → take len ws ≡ es → len < length ws → KeysApart es → IsIndexFor es key p → p ≡ len →
    IsWritten es (take (len + 1) (slice_set ws p (key, w))) key w
written_past ws es len key w p front room apart place at =
    let l : length es ≡ len = rw (← front) (length_take_min ws len (omega arith)) in
    let e : take (len + 1) (slice_set ws len (key, w)) ≡ es ++ (key, w) ∷ [] = take_more_set ws len (key, w) room ∙ ap (λ z. z ++ (key, w) ∷ []) front in
    rw (at, e) (record { apart = KeysApart-add es key w p apart place (at ∙ sym l); words = add_word es key w p place (at ∙ sym l) })
