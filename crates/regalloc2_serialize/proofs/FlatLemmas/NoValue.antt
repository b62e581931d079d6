-- Words that begin with the words of no value.
use Rattle.std.proofs.Common.{ℕ, ◌≡◌, ◌≢◌, ◌<◌, List, [], ◌∷◌, ◌++◌, ◌==◌, Bool, false, length, arith}
use Rattle.std.proofs.Common.{sym, ◌∙◌, append_assoc}
use Rattle.std.proofs.lemmas.List.{append-nil}
use Rattle.std.specs.List.{flat_map}
use Rattle.regalloc2_serialize.specs.Flat.Flat.{BeginsNone, IsNone, words_of_list}
use Rattle.regalloc2_serialize.specs.Flat.OneRest.{HasOneRest}

-- fewer members than a list has, after which no further one comes
no_member : {A : Type 0} (u : A → List ℕ) → HasOneRest u → (items xs : List A) (after rest : List ℕ) → length items < length xs → BeginsNone u after →
    flat_map u items ++ after ≡ flat_map u xs ++ rest → ⊥
no_member u one [] [] after rest less none h = absurd (omega arith)
no_member u one [] (x ∷ xs) after rest less none h = none x (flat_map u xs ++ rest) (h ∙ append_assoc (u x) (flat_map u xs) rest)
no_member u one (i ∷ items) [] after rest less none h = absurd (omega arith)
no_member u one (i ∷ items) (x ∷ xs) after rest less none h =
    let joined : u i ++ (flat_map u items ++ after) ≡ u x ++ (flat_map u xs ++ rest) =
    sym (append_assoc (u i) (flat_map u items) after) ∙ h ∙ append_assoc (u x) (flat_map u xs) rest in
    let fewer : length items < length xs = omega arith in
    no_member u one items xs after rest fewer none (one i x (flat_map u items ++ after) (flat_map u xs ++ rest) joined)

-- the words begin with no list
pub no_list : {A : Type 0} (u : A → List ℕ) → HasOneRest u → (items : List A) (given after : List ℕ) (count : ℕ) →
    given ≡ count ∷ flat_map u items ++ after → length items < count → BeginsNone u after → BeginsNone (λ xs. words_of_list u xs) given
no_list u one items given after count e less none xs rest h =
    let same : count ≡ length xs = cc in
    let members : flat_map u items ++ after ≡ flat_map u xs ++ rest = cc in
    let fewer : length items < length xs = omega arith in
    no_member u one items xs after rest fewer none members

-- words that begin with the words of no value are the words of none
pub none_begun : {A : Type 0} (u : A → List ℕ) (given : List ℕ) → BeginsNone u given → IsNone u given
none_begun u given none x h = none x [] (h ∙ sym (append-nil (u x)))

-- the words of a value with more after them are the words of no value
pub none_left : {A : Type 0} (u : A → List ℕ) → HasOneRest u → (given after : List ℕ) (a : A) → given ≡ u a ++ after → after ≢ [] → IsNone u given
none_left u one given after a e more x h =
    let joined : u a ++ after ≡ u x ++ [] = sym e ∙ h ∙ sym (append-nil (u x)) in
    more (one a x after [] joined)

-- what isn't empty
pub left_over : (after : List ℕ) (b : Bool) → b ≡ false → b ≡ (length after == 0) → after ≢ []
left_over [] b t e h = absurd cc
left_over (x ∷ xs) b t e h = absurd cc
