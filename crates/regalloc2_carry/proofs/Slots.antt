-- Slots that are made later in the walk, and the moves to the parameters of successors.
use Rattle.std.proofs.Common.{ℕ, ◌≡◌, List, Option, Some, false, ◌∙◌, inl, inr, ◌⊎◌}
use Rattle.regalloc2_names.specs.Register.{VirtualRegister}
use Rattle.regalloc2_names.specs.Place.{Place}
use Rattle.regalloc2_function.specs.FunctionValue.{FunctionValue, block_at}
use Rattle.regalloc2_function.specs.OutputValue.{MoveValue}
use Rattle.regalloc2_semantics.specs.Runs.{arguments_at, after_moves}
use Rattle.regalloc2_carry.specs.Listing.{Item, with_moves, writes}
use Rattle.regalloc2_carry.specs.Carry.{Carries, Untouched}
use Rattle.regalloc2_semantics.specs.Sound.{names, HasEdge, target_at}
use Rattle.regalloc2_carry.specs.Blocks.{IsWantedBehind, Passes, StandsAfter}
use Rattle.regalloc2_carry.proofs.CarryRules.{carries_weaken, carries_fresh, carries_moves}
use Rattle.regalloc2_semantics.specs.Laws.{Cells}

-- the slots of the parameters that v is passed to
abbrev pub PassedTo : FunctionValue → (VirtualRegister → Option Place) → ℕ → VirtualRegister → Place → Type 0
PassedTo f slot b v p = (k : ℕ) × (u : VirtualRegister) × HasEdge f b k × Passes u v (block_at f (target_at f b k)).params (arguments_at f b k)
    × (slot u ≡ Some p)

-- the moves to the parameters, before a last instruction (with its own moves) that leaves their slots alone; where v's
-- value is relied on: P and R
pub pass_arguments : (f : FunctionValue) (slot : VirtualRegister → Option Place) (b : ℕ) (v : VirtualRegister) (ms : List MoveValue) (L : List Item)
    (P R E : Place → Type 0) →
    ((p : Place) → P p → (c : Cells) → after_moves ms c p ≡ c p) →
    ((q : Place) → PassedTo f slot b v q → (r : Place) × R r × ((c : Cells) → after_moves ms c q ≡ c r)) →
    ((q : Place) → PassedTo f slot b v q → Untouched q L) → writes v L ≡ false →
    ((q : Place) → ((k : ℕ) → HasEdge f b k → names v (block_at f (target_at f b k)).params ≡ false) × IsWantedBehind f b v × (slot v ≡ Some q) → E q) →
    Carries v L P E → Carries v (with_moves ms L) (λ p. P p ⊎ R p) (StandsAfter f slot b v)
pass_arguments f slot b v ms L P R E kept moved untouched unwritten own k =
    carries_weaken v (with_moves ms L) (λ p. P p ⊎ R p) (λ p. P p ⊎ R p) (λ q. E q ⊎ PassedTo f slot b v q) (StandsAfter f slot b v)
    (λ p h. h)
    (λ q h. elim h [ inl x ↦ inl (own q x) | inr x ↦ inr x ])
    (carries_moves v ms L (λ p. P p ⊎ PassedTo f slot b v p) (λ p. P p ⊎ R p) (λ q. E q ⊎ PassedTo f slot b v q)
    (λ src c holds p h. elim h [
      | inl x ↦ kept p x c ∙ holds p (inl x)
      | inr x ↦ (let r = moved p x in r.2 c ∙ holds r.0 (inr r.1))
    ])
    (carries_fresh v L P E (PassedTo f slot b v) untouched unwritten k))
