-- A walk leaves each block that can be reached, once, and no other.
use Rattle.std.proofs.Common.{ℕ, ◌≡◌, Bool, true, false, List, [], ◌∷◌, ◌++◌, ◌⊎◌, inl, inr, refl, sym, ◌∙◌, subst, eq-eqb}
use Rattle.std.specs.Prelude.{nat_eq}
use Rattle.std.proofs.lemmas.Bool.{cases_Bool, false_from_ne_true, or_cases}
use Rattle.std.proofs.lemmas.Bool.Decides.{Decides-eqb}
use Rattle.regalloc2_function.specs.Leaves.{met, Leaves, ListsOnce, Reaches}
use Rattle.regalloc2_function.specs.Leaves.Leaves.{done, again, enter}
use Rattle.regalloc2_function.specs.Leaves.Reaches.{here, onward}
use Rattle.regalloc2_function.proofs.DepthFirstWalk.{same_mix}

met-here : (x : ℕ) (xs : List ℕ) → met (x ∷ xs) x ≡ true
unfolding met
met-here x xs = rw (eq-eqb x x refl) refl

met-there : (y : ℕ) (xs : List ℕ) (x : ℕ) → met xs x ≡ true → met (y ∷ xs) x ≡ true
unfolding met
met-there y xs x h = elim (cases_Bool (nat_eq y x)) [ inl e ↦ rw e refl | inr e ↦ rw e h ]

met-cases : (y : ℕ) (xs : List ℕ) (x : ℕ) → met (y ∷ xs) x ≡ true → (y ≡ x) ⊎ (met xs x ≡ true)
unfolding met
met-cases y xs x h = elim (or_cases (nat_eq y x) (met xs x) h) [ inl e ↦ inl ((Decides-eqb y x).0 e) | inr e ↦ inr e ]

met-left : (xs ys : List ℕ) (x : ℕ) → met xs x ≡ true → met (xs ++ ys) x ≡ true
unfolding met
met-left [] ys x h = absurd cc
met-left (y ∷ xs) ys x h = elim (met-cases y xs x h) [
  | inl e ↦ subst (λ z. met (z ∷ (xs ++ ys)) x ≡ true) (sym e) (met-here x (xs ++ ys))
  | inr m ↦
      met-there y (xs ++ ys) x (met-left xs ys x m)
]

met-right : (xs ys : List ℕ) (x : ℕ) → met ys x ≡ true → met (xs ++ ys) x ≡ true
met-right [] ys x h = h
met-right (y ∷ xs) ys x h = met-there y (xs ++ ys) x (met-right xs ys x h)

met-append_cases : (xs ys : List ℕ) (x : ℕ) → met (xs ++ ys) x ≡ true → (met xs x ≡ true) ⊎ (met ys x ≡ true)
met-append_cases [] ys x h = inr h
met-append_cases (y ∷ xs) ys x h =
    elim (met-cases y (xs ++ ys) x h) [
      | inl e ↦ inl (subst (λ z. met (z ∷ xs) x ≡ true) (sym e) (met-here x xs))
      | inr m ↦ elim (met-append_cases xs ys x m) [ inl l ↦ inl (met-there y xs x l) | inr r ↦ inr r ]
    ]

met-none : (x : ℕ) → met [] x ≡ true → ⊥
unfolding met
met-none x h = cc

clash : {b : Bool} → b ≡ true → b ≡ false → ⊥
clash h k = cc

-- each block of the list was met or is left
covered : (succs : ℕ → List ℕ) {seen bs order : List ℕ} → Leaves succs seen bs order → (x : ℕ) → met bs x ≡ true → met (order ++ seen) x ≡ true
covered succs done x h = absurd (met-none x h)
covered succs {seen = seen} {order = order} (again {b = b} {bs = bs} m l) x h =
    elim (met-cases b bs x h) [
      | inl e ↦ met-right order seen x (subst (λ z. met seen z ≡ true) e m)
      | inr r ↦ covered succs l x r
    ]
covered succs {seen = seen} (enter {b = b} {bs = bs} {inner = inner} {rest = rest} m i r) x h =
    elim (met-cases b bs x h) [
      | inl e ↦ met-left (inner ++ b ∷ rest) seen x (met-right inner (b ∷ rest) x (subst (λ z. met (b ∷ rest) z ≡ true) e (met-here b rest)))
      | inr k ↦ sym (same_mix inner rest seen b x) ∙ covered succs r x k
    ]

-- each successor of a block that is left is left or met before
closed : (succs : ℕ → List ℕ) {seen bs order : List ℕ} → Leaves succs seen bs order → (x s : ℕ) → met order x ≡ true → met (succs x) s ≡ true →
    met (order ++ seen) s ≡ true
closed succs done x s h k = absurd (met-none x h)
closed succs (again m l) x s h k = closed succs l x s h k
closed succs {seen = seen} (enter {b = b} {inner = inner} {rest = rest} m i r) x s h k =
    sym (same_mix inner rest seen b s)
    ∙ elim (met-append_cases inner (b ∷ rest) x h) [
      | inl in_inner ↦ met-right rest (inner ++ b ∷ seen) s (closed succs i x s in_inner k)
      | inr later ↦ elim (met-cases b rest x later) [
        | inl e ↦ met-right rest (inner ++ b ∷ seen) s (covered succs i s (subst (λ z. met (succs z) s ≡ true) (sym e) k))
        | inr in_rest ↦ closed succs r x s in_rest k
      ]
    ]

-- no block that was met is left
apart : (succs : ℕ → List ℕ) {seen bs order : List ℕ} → Leaves succs seen bs order → (x : ℕ) → met order x ≡ true → met seen x ≡ true → ⊥
apart succs done x h k = met-none x h
apart succs (again m l) x h k = apart succs l x h k
apart succs {seen = seen} (enter {b = b} {inner = inner} {rest = rest} m i r) x h k =
    elim (met-append_cases inner (b ∷ rest) x h) [
      | inl in_inner ↦ apart succs i x in_inner (met-there b seen x k)
      | inr later ↦ elim (met-cases b rest x later) [
        | inl e ↦ clash (subst (λ z. met seen z ≡ true) (sym e) k) m
        | inr in_rest ↦ apart succs r x in_rest (met-right inner (b ∷ seen) x (met-there b seen x k))
      ]
    ]

once-append : (xs ys : List ℕ) → ListsOnce xs → ListsOnce ys → ((x : ℕ) → met xs x ≡ true → met ys x ≡ true → ⊥) → ListsOnce (xs ++ ys)
once-append [] ys a b c = b
once-append (x ∷ xs) ys a b c = (
  false_from_ne_true (met (xs ++ ys) x) (λ h. elim (met-append_cases xs ys x h) [ inl l ↦ clash l a.0 | inr r ↦ c x (met-here x xs) r ]),
  once-append xs ys a.1 b (λ y p q. c y (met-there x xs y p) q),
)

-- no block is left twice
pub leaves_once : (succs : ℕ → List ℕ) {seen bs order : List ℕ} → Leaves succs seen bs order → ListsOnce order
leaves_once succs done = tt
leaves_once succs (again m l) = leaves_once succs l
leaves_once succs {seen = seen} (enter {b = b} {inner = inner} {rest = rest} m i r) =
    once-append inner (b ∷ rest) (leaves_once succs i)
    (false_from_ne_true (met rest b) (λ h. apart succs r b h (met-right inner (b ∷ seen) b (met-here b seen))), leaves_once succs r)
    (λ x p q. elim (met-cases b rest x q) [
      | inl e ↦ apart succs i x p (subst (λ z. met (b ∷ seen) z ≡ true) e (met-here b seen))
      | inr in_rest ↦ apart succs r x in_rest (met-left inner (b ∷ seen) x p)
    ])

-- only reached blocks are left
sound : (succs : ℕ → List ℕ) (entry : ℕ) {seen bs order : List ℕ} → Leaves succs seen bs order → ((b : ℕ) → met bs b ≡ true → Reaches succs entry b) → (x : ℕ) →
    met order x ≡ true → Reaches succs entry x
sound succs entry done reached x h = absurd (met-none x h)
sound succs entry (again {b = b} {bs = bs} m l) reached x h = sound succs entry l (λ c k. reached c (met-there b bs c k)) x h
sound succs entry (enter {b = b} {bs = bs} {inner = inner} {rest = rest} m i r) reached x h =
    elim (met-append_cases inner (b ∷ rest) x h) [
      | inl in_inner ↦ sound succs entry i (λ s k. onward s (reached b (met-here b bs)) k) x in_inner
      | inr later ↦ elim (met-cases b rest x later) [
        | inl e ↦ subst (λ z. Reaches succs entry z) e (reached b (met-here b bs))
        | inr in_rest ↦ sound succs entry r (λ c k. reached c (met-there b bs c k)) x in_rest
      ]
    ]

no_more : (xs : List ℕ) (x : ℕ) → met (xs ++ []) x ≡ true → met xs x ≡ true
no_more xs x h = elim (met-append_cases xs [] x h) [ inl l ↦ l | inr r ↦ absurd (met-none x r) ]

complete : (succs : ℕ → List ℕ) (entry : ℕ) (order : List ℕ) → Leaves succs [] (entry ∷ []) order → (x : ℕ) → Reaches succs entry x → met order x ≡ true
complete succs entry order l x here = no_more order x (covered succs l x (met-here x []))
complete succs entry order l x (onward {b = b} s r k) = no_more order s (closed succs l b s (complete succs entry order l b r) k)

-- a walk leaves exactly the blocks that the entry reaches
pub leaves_reached : (succs : ℕ → List ℕ) (entry : ℕ) (order : List ℕ) → Leaves succs [] (entry ∷ []) order → (x : ℕ) →
    (met order x ≡ true → Reaches succs entry x) × (Reaches succs entry x → met order x ≡ true)
leaves_reached succs entry order l x = (
  sound succs entry l (λ b h. elim (met-cases entry [] b h) [ inl e ↦ subst (λ z. Reaches succs entry z) e here | inr n ↦ absurd (met-none b n) ]) x,
  complete succs entry order l x,
)
