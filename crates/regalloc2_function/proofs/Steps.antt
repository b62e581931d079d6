-- How the rest of a listing goes on, by its first item.
use Rattle.std.proofs.Common.{◌≡◌, ℕ, suc, ◌+◌, ◌-◌, ◌<◌, ◌≤◌, List, [], ◌∷◌, length, true, false, refl, map, arith}
use Rattle.std.specs.Prelude.{nat_le}
use Rattle.std.proofs.lemmas.Bool.Decides.{nat_tests}
use Rattle.regalloc2_names.specs.Place.{before}
use Rattle.regalloc2_function.specs.declared.listing.Edit.{Edit}
use Rattle.regalloc2_function.specs.Listing.{ListedInst, ListedMove, listing_left}
use Rattle.regalloc2_function.specs.Views.{move_of, edit_of}

-- from the block's end on nothing is listed, whatever edits are left
pub listing_done : (es : List (ℕ × Edit)) (i j : ℕ) → j ≤ i → listing_left (map edit_of es) i (j - i) ≡ []
unfolding listing_left
listing_done [] i j h = let e : j - i ≡ 0 = omega arith in rw e refl
listing_done (e ∷ es) i j h = let e : j - i ≡ 0 = omega arith in rw e refl

-- where no edit is left, an instruction before the block's end is listed next
pub listing_last : (es : List (ℕ × Edit)) (i j : ℕ) → length es ≡ 0 → i < j →
    listing_left (map edit_of es) i (j - i) ≡ ListedInst i ∷ listing_left (map edit_of es) (i + 1) (j - (i + 1))
unfolding listing_left
listing_last [] i j e h = let f : j - i ≡ suc (j - (i + 1)) = omega arith in rw f refl
listing_last (x ∷ es) i j e h = absurd (omega arith)

-- where the next edit's point is after the one before an instruction, the instruction is listed next
pub listing_inst : (e : ℕ × Edit) (es : List (ℕ × Edit)) (i j : ℕ) → i < j → before i < e.0 →
    listing_left (map edit_of (e ∷ es)) i (j - i) ≡ ListedInst i ∷ listing_left (map edit_of (e ∷ es)) (i + 1) (j - (i + 1))
unfolding listing_left
listing_inst e es i j h t =
    let f : j - i ≡ suc (j - (i + 1)) = omega arith in
    let g : nat_le e.0 (before i) ≡ false = grind (arith, nat_tests) in
    rw (f, g) refl

-- where the next edit's point is at or below the one before an instruction, its move is listed next
pub listing_move : (e : ℕ × Edit) (es : List (ℕ × Edit)) (i j : ℕ) → i < j → e.0 ≤ before i →
    listing_left (map edit_of (e ∷ es)) i (j - i) ≡ ListedMove (move_of e.1) ∷ listing_left (map edit_of es) i (j - i)
unfolding listing_left
listing_move e es i j h t =
    let f : j - i ≡ suc (j - (i + 1)) = omega arith in
    let g : nat_le e.0 (before i) ≡ true = grind (arith, nat_tests) in
    rw (f, g) refl
