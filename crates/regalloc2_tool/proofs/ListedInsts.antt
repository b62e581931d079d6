-- The instructions of a block's listing are instructions of the function.
use Rattle.std.proofs.Common.{ℕ, zero, suc, ◌≡◌, ◌+◌, ◌-◌, ◌<◌, ◌≤◌, List, ◌∷◌, map, subst, arith}
use Rattle.std.specs.Prelude.{All}
use Rattle.std.proofs.lemmas.List.Elements.{All-nil, All-append, All-cons, All-map, All-head}
use Rattle.regalloc2_function.specs.OutputValue.{OutputValue}
use Rattle.regalloc2_function.specs.Listing.{Listed, ListedInst, ListedMove, listing_from, moves_before}
use Rattle.regalloc2_function.specs.Views.{item_of}
use Rattle.regalloc2_function.specs.declared.listing.InstOrEdit.{InstOrEdit}
use Rattle.regalloc2_function.specs.declared.listing.InstOrEdit.TheVariants.{Inst}

-- an item of a listing is a move, or an instruction below a bound
abbrev pub HasInstBelow : ℕ → Listed → Type 0
HasInstBelow n (ListedInst i) = i < n
HasInstBelow n (ListedMove m) = Unit {0}

listed_below : (o : OutputValue) (n first i k : ℕ) → i + k ≤ n → All (HasInstBelow n) (listing_from o first i k)
unfolding listing_from
listed_below o n first i zero h = All-nil _
listed_below o n first i (suc k) h =
    All-append (HasInstBelow n) (map (λ m. ListedMove m) (moves_before o first i)) _
    (All-map (HasInstBelow n) (λ m. ListedMove m) (moves_before o first i) (λ j d w. tt))
    (All-cons (HasInstBelow n) (ListedInst i) _ (omega arith) (listed_below o n first (i + 1) k (omega arith)))

-- the items of a block whose range is within the instructions
pub block_below : (o : OutputValue) (n first end : ℕ) → first < end → end ≤ n → All (HasInstBelow n) (listing_from o first first (end - first))
block_below o n first end h w = listed_below o n first first (end - first) (omega arith)

-- the first item of a listing whose instructions are below `n`, if it is an instruction
pub first_below : (n i : ℕ) (xs ys : List Listed) (x : InstOrEdit) → All (HasInstBelow n) xs → xs ≡ item_of x ∷ ys → x ≡ Inst i → i < n
first_below n i xs ys x h e f =
    let g : xs ≡ ListedInst i ∷ ys = subst (λ (v : InstOrEdit). xs ≡ item_of v ∷ ys) f e in
    All-head (HasInstBelow n) (ListedInst i) ys (subst (λ (l : List Listed). All (HasInstBelow n) l) g h)
