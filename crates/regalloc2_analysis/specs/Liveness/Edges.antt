-- Lists of blocks, one for each block.
use Rattle.std.specs.Prelude.{ℕ, Bool, nat_eq, List, [], map, slice_index_or}
use Rattle.std.specs.List.{list_any}
use Rattle.std.specs.declared.vec.Vec.{Vec}

-- the list of that number; none past the end
abbrev pub blocks_of : {A : Type 0} → List (Vec ℕ A) → ℕ → List ℕ
blocks_of edges n = slice_index_or (map (λ w. w.items) edges) n []

-- whether a list names a block
unfoldable pub names_block : List ℕ → ℕ → Bool
names_block xs n = list_any (λ x. nat_eq x n) xs
