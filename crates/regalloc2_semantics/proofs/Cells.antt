-- Maps updated at one place or vreg; and lemmas on equal places and vregs, passed on.
use Rattle.std.proofs.Common.{◌≡◌, ◌≢◌, refl, sym}
use Rattle.std.specs.Prelude.{Option}
use Rattle.regalloc2_names.specs.Register.{VirtualRegister}
use Rattle.regalloc2_names.specs.Place.{Place, NoPlace, InRegister, InSlot}
use Rattle.regalloc2_semantics.specs.Runs.{Stamp, assigned, stored}
pub use Rattle.regalloc2_names.proofs.EqualNames.{is_register-true, is_register-same, is_place-true, is_place-same, is_place-other, cases_place, is_vreg-true}
pub use Rattle.regalloc2_names.proofs.EqualNames.{is_vreg-same, is_vreg-other, cases_vreg}
use Rattle.regalloc2_semantics.specs.Laws.{Cells, Source}

-- a place that is written has what was written
pub stored-same : (c : Cells) (p : Place) (s : Option Stamp) → p ≢ NoPlace → stored c p s p ≡ s
unfolding stored
stored-same c NoPlace s h = absurd (h refl)
stored-same c (InRegister r) s h = rw (is_place-same (InRegister r)) refl
stored-same c (InSlot n) s h = rw (is_place-same (InSlot n)) refl

-- storing leaves every other place what it had
pub stored-other : (c : Cells) (p q : Place) (s : Option Stamp) → q ≢ p → stored c p s q ≡ c q
unfolding stored
stored-other c NoPlace q s h = refl
stored-other c (InRegister r) q s h = rw (is_place-other (InRegister r) q (λ e. h (sym e))) refl
stored-other c (InSlot n) q s h = rw (is_place-other (InSlot n) q (λ e. h (sym e))) refl

-- after an assignment to v, the map gives v what was assigned
pub assigned-same : (m : Source) (v : VirtualRegister) (s : Option Stamp) → assigned m v s v ≡ s
assigned-same m v s = rw (is_vreg-same v) refl

-- an assignment to v leaves what the map gives every other vreg
pub assigned-other : (m : Source) (v w : VirtualRegister) (x : Option Stamp) → (v ≡ w → ⊥) → assigned m v x w ≡ m w
assigned-other m v w x h = rw (is_vreg-other v w h) refl
