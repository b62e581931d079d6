-- The checker's marks before anything is passed on.
use Rattle.std.specs.Prelude.{ℕ, ◌≡◌, ◌<◌, ◌⊎◌, ◌∷◌, [], Bool, List, IsPermutation, length, get_or, nat_eq}
use Rattle.std.specs.declared.cmp.Reverse.{Reverse}
use Rattle.regalloc2_function.specs.FunctionValue.{FunctionValue}
use Rattle.regalloc2_checker.specs.Propagation.{IsQueue, queued_block}

-- the entry alone is marked as reached and as queued, and at most its entry is in the queue
pub record IsEntryQueued (f : FunctionValue) (reached marks : List Bool) (queued : List (Reverse (ℕ × ℕ))) : Type 0 where
  pub long : length reached ≡ length f.blocks
  pub one : (b : ℕ) (d : Bool) → b < length reached → get_or reached b d ≡ nat_eq b f.entry
  pub size : length marks ≡ length f.blocks
  pub marked : (b : ℕ) (d : Bool) → b < length marks → get_or marks b d ≡ nat_eq b f.entry
  pub queue : IsQueue marks queued
  pub entries : (queued ≡ []) ⊎ ((x : Reverse (ℕ × ℕ)) × (queued_block x ≡ f.entry) × IsPermutation (x ∷ []) queued)
