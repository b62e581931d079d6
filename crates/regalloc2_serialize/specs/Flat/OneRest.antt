-- Where a value's words end is known from the words: what begins with the words of two values goes on alike after both.
use Rattle.std.proofs.Common.{ℕ, ◌≡◌, List, [], ◌∷◌, ◌++◌, length, sym, ◌∙◌, append_assoc}
use Rattle.std.specs.List.{flat_map}
use Rattle.regalloc2_serialize.specs.Flat.Flat.{one_word, words_of_long, words_of_list}

abbrev pub HasOneRest : {A : Type 0} → (A → List ℕ) → Type 0
HasOneRest {A} words = (x y : A) (r s : List ℕ) → words x ++ r ≡ words y ++ s → r ≡ s

-- of single words
pub one_rest-word : {A : Type 0} (f : A → ℕ) → HasOneRest (λ x. one_word (f x))
one_rest-word f x y r s h = cc

-- of two words
pub one_rest-long : HasOneRest words_of_long
one_rest-long x y r s h = cc

-- of two values after one another
pub one_rest-pair : {A B : Type 0} (u : A → List ℕ) (v : B → List ℕ) → HasOneRest u → HasOneRest v → HasOneRest {A = A × B} (λ p. u p.0 ++ v p.1)
one_rest-pair u v one two x y r s h =
    let joined : u x.0 ++ (v x.1 ++ r) ≡ u y.0 ++ (v y.1 ++ s) =
    sym (append_assoc (u x.0) (v x.1) r) ∙ h ∙ append_assoc (u y.0) (v y.1) s in
    two x.1 y.1 r s (one x.0 y.0 (v x.1 ++ r) (v y.1 ++ s) joined)

-- of three
pub one_rest-triple : {A B C : Type 0} (u : A → List ℕ) (v : B → List ℕ) (w : C → List ℕ) → HasOneRest u → HasOneRest v → HasOneRest w →
    HasOneRest {A = A × B × C} (λ p. u p.0 ++ (v p.1 ++ w p.2))
one_rest-triple {A} {B} {C} u v w one two three x y =
    one_rest-pair {A = A} {B = B × C} u (λ q. v q.0 ++ w q.1) one (one_rest-pair v w two three) (x.0, (x.1, x.2)) (y.0, (y.1, y.2))

-- of four
pub one_rest-quadruple : {A B C D : Type 0} (u : A → List ℕ) (v : B → List ℕ) (w : C → List ℕ) (z : D → List ℕ) → HasOneRest u → HasOneRest v →
    HasOneRest w → HasOneRest z → HasOneRest {A = A × B × C × D} (λ p. u p.0 ++ (v p.1 ++ (w p.2 ++ z p.3)))
one_rest-quadruple {A} {B} {C} {D} u v w z one two three four x y =
    one_rest-pair {A = A} {B = B × C × D} u (λ q. v q.0 ++ (w q.1 ++ z q.2)) one (one_rest-triple v w z two three four) (x.0, (x.1, x.2, x.3))
    (y.0, (y.1, y.2, y.3))

-- of as many values
one_rest-members : {A : Type 0} (u : A → List ℕ) → HasOneRest u → (xs ys : List A) (r s : List ℕ) → length xs ≡ length ys →
    flat_map u xs ++ r ≡ flat_map u ys ++ s → r ≡ s
one_rest-members u one [] [] r s e h = h
one_rest-members u one [] (y ∷ ys) r s e h = absurd cc
one_rest-members u one (x ∷ xs) [] r s e h = absurd cc
one_rest-members u one (x ∷ xs) (y ∷ ys) r s e h =
    let joined : u x ++ (flat_map u xs ++ r) ≡ u y ++ (flat_map u ys ++ s) =
    sym (append_assoc (u x) (flat_map u xs) r) ∙ h ∙ append_assoc (u y) (flat_map u ys) s in
    let same : length xs ≡ length ys = cc in
    one_rest-members u one xs ys r s same (one x y (flat_map u xs ++ r) (flat_map u ys ++ s) joined)

-- of lists
pub one_rest-list : {A : Type 0} (u : A → List ℕ) → HasOneRest u → HasOneRest (λ xs. words_of_list u xs)
one_rest-list u one xs ys r s h =
    let same : length xs ≡ length ys = cc in
    let members : flat_map u xs ++ r ≡ flat_map u ys ++ s = cc in
    one_rest-members u one xs ys r s same members
