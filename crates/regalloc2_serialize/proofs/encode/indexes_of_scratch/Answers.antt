use Rattle.std.proofs.Common.{◌≡◌, ◌∙◌, [], ◌∷◌, ℕ, List, Option, length, map, get_or, refl, sym, ap, subst, arith}
use Rattle.std.specs.Prelude.{All, IfSome}
use Rattle.std.proofs.lemmas.List.Elements.{All-nil, All-cons}
use Rattle.std.specs.Option.{option_map}
use Rattle.regalloc2_names.specs.Packing.{IsRegisterIndex, register_of_bits}
use Rattle.regalloc2_serialize.proofs.encode.indexes_of_scratch.Goals as goal

-- what a list of three is the image of
image-of : {X Y : Type 0} (f : Y → X) (xs : List X) (a b c : X) (p q r : Y) → length xs ≡ 3 → f p ≡ get_or xs 0 a → f q ≡ get_or xs 1 b →
    f r ≡ get_or xs 2 c → map f (p ∷ q ∷ r ∷ []) ≡ xs
image-of f [] a b c p q r three of_p of_q of_r = absurd (omega arith)
image-of f (x ∷ []) a b c p q r three of_p of_q of_r = absurd (omega arith)
image-of f (x ∷ y ∷ []) a b c p q r three of_p of_q of_r = absurd (omega arith)
image-of f (x ∷ y ∷ z ∷ []) a b c p q r three of_p of_q of_r = rw (of_p, of_q, of_r) refl
image-of f (x ∷ y ∷ z ∷ w ∷ xs) a b c p q r three of_p of_q of_r = absurd (omega arith)

pub returns-clause-registers : goal.returns-clause-registers
returns-clause-registers g c =
    ap (map (option_map register_of_bits)) c.in_ok-from_array.ensures.items
    ∙ image-of (option_map register_of_bits) c.args.scratch.now c.index-scratch-0.result c.index-scratch-1.result c.index-scratch-2.result
    c.index_of.result c.index_of-2.result c.index_of-3.result c.type_inv.scratch
    c.index_of.ensures.register c.index_of-2.ensures.register c.index_of-3.ensures.register

pub returns-clause-three : goal.returns-clause-three
returns-clause-three g c = ap length c.in_ok-from_array.ensures.items

pub returns-clause-names : goal.returns-clause-names
returns-clause-names g c =
    let P : Option ℕ → Type 0 = λ o. IfSome o IsRegisterIndex in
    let third = All-cons P c.index_of-3.result [] c.index_of-3.ensures.name (All-nil P) in
    let second = All-cons P c.index_of-2.result (c.index_of-3.result ∷ []) c.index_of-2.ensures.name third in
    subst (All P) (sym c.in_ok-from_array.ensures.items)
    (All-cons P c.index_of.result (c.index_of-2.result ∷ c.index_of-3.result ∷ []) c.index_of.ensures.name second)
