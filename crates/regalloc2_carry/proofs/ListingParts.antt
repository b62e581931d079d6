-- A listing by points in parts, and moves that are pushed in front of it.
use Rattle.std.proofs.Common.{ℕ, suc, ◌≡◌, ◌+◌, List, [], ◌∷◌, ◌++◌, refl, ap, ◌∙◌}
use Rattle.regalloc2_names.specs.Place.{Place, before, after}
use Rattle.regalloc2_function.specs.FunctionValue.{InstValue}
use Rattle.regalloc2_function.specs.OutputValue.{MoveValue}
use Rattle.regalloc2_carry.specs.Listing.{Item, exec_item, with_moves}
use Rattle.regalloc2_carry.specs.Listing.Item.{Move}
use Rattle.regalloc2_carry.specs.BlockByPoints.{walked}

-- moves in front of two listings joined are the moves in front of the first, joined to the second
pub with_moves-join : (ms : List MoveValue) (K L : List Item) → with_moves ms (K ++ L) ≡ with_moves ms K ++ L
unfolding with_moves
with_moves-join [] K L = refl
with_moves-join (m ∷ ms) K L = ap (λ l. Move m ∷ l) (with_moves-join ms K L)

-- the first instruction with its moves
pub walked-one : (insts : ℕ → InstValue) (at : ℕ → List MoveValue) (places : ℕ → List Place) (i : ℕ) →
    walked insts at places i 1 ≡ with_moves (at (before i)) (exec_item (insts i) (places i) ∷ with_moves (at (after i)) [])
unfolding walked
walked-one insts at places i = refl

-- a walked listing is its first instruction, and then the rest
pub walked_split : (insts : ℕ → InstValue) (at : ℕ → List MoveValue) (places : ℕ → List Place) (i n : ℕ) →
    walked insts at places i (suc n) ≡ walked insts at places i 1 ++ walked insts at places (i + 1) n
unfolding walked
walked_split insts at places i n =
    let L : List Item = walked insts at places (i + 1) n in
    let e : Item = exec_item (insts i) (places i) in
    ap (λ l. with_moves (at (before i)) (e ∷ l)) (with_moves-join (at (after i)) [] L)
    ∙ with_moves-join (at (before i)) (e ∷ with_moves (at (after i)) []) L
