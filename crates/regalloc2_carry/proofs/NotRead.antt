-- Listings in which nothing reads a vreg.
use Rattle.std.proofs.Common.{ℕ, zero, suc, ◌≡◌, ◌+◌, ◌<◌, ◌≤◌, true, List, [], ◌∷◌, ◌++◌, length, arith}
use Rattle.regalloc2_names.specs.Register.{VirtualRegister}
use Rattle.regalloc2_names.specs.Operand.{OperandValue, is_reading}
use Rattle.regalloc2_names.specs.Place.{Place, before, after}
use Rattle.regalloc2_function.specs.FunctionValue.{InstValue, op_at}
use Rattle.regalloc2_function.specs.OutputValue.{MoveValue}
use Rattle.regalloc2_carry.specs.Listing.{Item, exec_item, with_moves}
use Rattle.regalloc2_carry.specs.Listing.Item.{Move, Exec}
use Rattle.regalloc2_carry.specs.BlockByPoints.{walked}
use Rattle.regalloc2_carry.specs.Carry.{CarriesFrom, Carries}
use Rattle.regalloc2_carry.proofs.CarryRules.{carries_append}
use Rattle.regalloc2_semantics.specs.Laws.{Cells, Source}

-- no operand reads v
abbrev pub ReadsOthersOnly : List OperandValue → VirtualRegister → Type 0
ReadsOthersOnly operands v = (j : ℕ) → j < length operands → is_reading (op_at operands j) ≡ true → (op_at operands j).vreg ≡ v → ⊥

-- no instruction of a listing does
unfoldable pub Silent : VirtualRegister → List Item → Type 0
Silent v [] = Unit {0}
Silent v (Move m ∷ items) = Silent v items
Silent v (Exec operands places clobbers ∷ items) = ReadsOthersOnly operands v × Silent v items

-- moves in front of a listing that doesn't read v make one that doesn't read it either
pub silent_moves : (v : VirtualRegister) (ms : List MoveValue) (L : List Item) → Silent v L → Silent v (with_moves ms L)
unfolding Silent with_moves
silent_moves v [] L h = h
silent_moves v (m ∷ ms) L h = silent_moves v ms L h

-- a stretch of a block none of whose instructions reads v
pub silent_walked : (v : VirtualRegister) (insts : ℕ → InstValue) (at : ℕ → List MoveValue) (places : ℕ → List Place) (i n : ℕ) →
    ((j : ℕ) → i ≤ j → j < i + n → ReadsOthersOnly (insts j).operands v) →
    Silent v (walked insts at places i n)
unfolding Silent walked
silent_walked v insts at places i zero h = tt
silent_walked v insts at places i (suc n) h =
    let rest : Silent v (walked insts at places (i + 1) n) = silent_walked v insts at places (i + 1) n (λ j le lt. h j (omega arith) (omega arith)) in
    silent_moves v (at (before i)) (exec_item (insts i) (places i) ∷ with_moves (at (after i)) (walked insts at places (i + 1) n))
    (h i (omega arith) (omega arith), silent_moves v (at (after i)) (walked insts at places (i + 1) n) rest)

from_silent : (v : VirtualRegister) (L : List Item) (s : Source) (c : Cells) (n : ℕ) → Silent v L → CarriesFrom v (λ p. ⊥) L s c n
unfolding CarriesFrom Silent
from_silent v [] s c n h = λ p x. absurd x
from_silent v (Move m ∷ L) s c n h = from_silent v L s _ n h
from_silent v (Exec ops places clobbers ∷ L) s c n h = (
  λ j lt r early is. absurd (h.0 j lt r is),
  λ j lt r late is. absurd (h.0 j lt r is),
  from_silent v L _ _ (suc n) h.1,
)

-- a listing that doesn't read v carries it, if no place has to hold it at the end
pub carries_silent : (v : VirtualRegister) (L : List Item) (P : Place → Type 0) → Silent v L → Carries v L P (λ p. ⊥)
unfolding Carries
carries_silent v L P h = λ s c n holds. from_silent v L s c n h

-- if what follows a listing without reads and writes of v carries v from no place, both together carry v
pub carries_behind : (v : VirtualRegister) (K L : List Item) (P E : Place → Type 0) → Silent v K → Carries v L (λ p. ⊥) E → Carries v (K ++ L) P E
carries_behind v K L P E h g = carries_append v K L P (λ p. ⊥) E (carries_silent v K P h) g
