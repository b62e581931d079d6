use Rattle.std.proofs.Common.{◌≡◌, List, [], ◌∷◌, length, nat_eq, Bool, true, false, ap, sym, ◌∙◌, inl, inr, refl, arith}
use Rattle.regalloc2_names.specs.declared.RegAllocError.TheVariants.{BB}
use Rattle.std.proofs.Math.Dec.{eqb-suc-zero}
use Rattle.regalloc2_function.proofs.ssa.test_entry.Goals as goal

-- what a test for an empty list means
empty : {X : Type 0} (xs : List X) (b : Bool) → b ≡ nat_eq (length xs) 0 → b ≡ true → xs ≡ []
empty [] b e t = refl
empty (x ∷ xs) b e t = let f = eqb-suc-zero (length xs) in absurd cc

not_empty : {X : Type 0} (xs : List X) (b : Bool) → b ≡ nat_eq (length xs) 0 → b ≡ false → xs ≡ [] → ⊥
not_empty [] b e f n = absurd cc
not_empty (x ∷ xs) b e f n = cc

pub returns-then-index-ne0-clause-err : goal.returns-then-index-ne0-clause-err
returns-then-index-ne0-clause-err g c = inl (λ z. c.if-index-ne0.true (c.index.ensures ∙ c.entry_block-entry.ensures ∙ z), ap BB c.entry_block-entry.ensures)

pub block_params-requires : goal.block_params-requires
block_params-requires g c = omega (arith, c.requires, c.index.ensures, c.if-index-ne0.false)

pub returns-then-not-is_empty-clause-err : goal.returns-then-not-is_empty-clause-err
returns-then-not-is_empty-clause-err g c =
    let zero = sym c.index.ensures ∙ c.if-index-ne0.false in
    let params = rw zero at c.block_params.ensures in
    inr (sym c.entry_block-entry.ensures ∙ zero, λ none. not_empty _ _ c.is_empty.ensures c.if-not-is_empty.true (params ∙ none), refl)

pub returns-clause-ok : goal.returns-clause-ok
returns-clause-ok g c =
    let zero = sym c.index.ensures ∙ c.if-index-ne0.false in
    let params = rw zero at c.block_params.ensures in
    (sym c.entry_block-entry.ensures ∙ zero, sym params ∙ empty _ _ c.is_empty.ensures c.if-not-is_empty.false)
