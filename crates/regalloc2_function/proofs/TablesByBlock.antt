-- Tables that are filled block by block.
use Rattle.std.proofs.Common.{ℕ, zero, suc, ◌≡◌, ◌+◌, ◌<◌, ◌≤◌, ◌⊎◌, List, [], ◌∷◌, ◌++◌, length, get_or, take, refl, sym, ap, ◌∙◌, subst, inl, inr, arith}
use Rattle.std.specs.Prelude.{map}
use Rattle.regalloc2_function.specs.FunctionValue.{FunctionValue, block_at}
use Rattle.regalloc2_function.specs.WellFormed.{BlocksFollow}
use Rattle.regalloc2_function.specs.Tables.{HaveBlocks}
use Rattle.regalloc2_function.proofs.DefsCounted.{first_is_start, start_of}
use Rattle.regalloc2_function.proofs.ListsInParts.{map_more}

-- where the next block begins
pub start_more : (f : FunctionValue) (b : ℕ) → start_of f (b + 1) ≡ (block_at f b).range.end
start_more f b = let e : b + 1 ≡ suc b = omega arith in rw e refl

last_or_before : (n b : ℕ) → n < suc b → (n ≡ b) ⊎ (n < b)
last_or_before n b less = grind arith

-- no block ends past where a later one begins
pub ends_before : (f : FunctionValue) → BlocksFollow f → (n b : ℕ) → n < b → b ≤ length f.blocks → (block_at f n).range.end ≤ start_of f b
ends_before f follow n zero less within = absurd (omega arith)
ends_before f follow n (suc b) less within =
    elim (last_or_before n b less) [
      | inl e ↦ subst (λ m. (block_at f n).range.end ≤ (block_at f m).range.end) e (omega arith)
      | inr before ↦ (let so_far = ends_before f follow n b before (omega arith) in
          let first = first_is_start f follow b (omega arith) in
          let some = (follow b (omega arith)).0 in
          omega (arith, so_far, first, some))
    ]

-- the instructions of one block more
pub blocks_more : (f : FunctionValue) → BlocksFollow f → (b : ℕ) → b < length f.blocks → (xs ys : List ℕ) → length xs ≡ start_of f b → HaveBlocks f b xs →
    ((k d : ℕ) → k < (block_at f b).range.end → k < length xs → get_or ys k d ≡ get_or xs k d) →
    ((k d : ℕ) → length xs ≤ k → k < (block_at f b).range.end → get_or ys k d ≡ b) → HaveBlocks f (b + 1) ys
blocks_more f follow b less xs ys long so_far kept filled n i short low high =
    let first = first_is_start f follow b less in
    let some = (follow b less).0 in
    elim (last_or_before n b (omega arith)) [
      | inl e ↦ (let from : (block_at f b).range.first ≤ i = subst (λ m. (block_at f m).range.first ≤ i) e low in
          let to : i < (block_at f b).range.end = subst (λ m. i < (block_at f m).range.end) e high in
          filled i 0 (omega (arith, first, long, from)) to ∙ sym e)
      | inr before ↦ (let end = ends_before f follow n b before (omega arith) in
          kept i 0 (omega (arith, end, first, some)) (omega (arith, end, long)) ∙ so_far n i before low high)
    ]

-- the point of one block more
pub points_more : {X : Type 0} (h : X → ℕ) (xs : List X) (i : ℕ) (x : X) (points new : List ℕ) (p : ℕ) → i < length xs → x ≡ get_or xs i x →
    points ≡ map h (take i xs) → p ≡ h x → new ≡ points ++ p ∷ [] → new ≡ map h (take (i + 1) xs)
points_more h xs i x points new p less is so_far here pushed = pushed ∙ ap (λ l. l ++ p ∷ []) so_far ∙ ap (λ q. map h (take i xs) ++ q ∷ []) here
    ∙ sym (map_more h xs i x less is)
