-- The rules by which a listing carries what a vreg has: it grows at its front.
use Rattle.std.proofs.Common.{ℕ, zero, suc, ◌≡◌, ◌<◌, Bool, true, false, List, [], ◌∷◌, ◌++◌, length, refl, arith, sym, ◌∙◌, inl, inr, ◌⊎◌, subst}
use Rattle.std.specs.Prelude.{◌&&◌}
use Rattle.std.proofs.lemmas.Bool.{or_parts}
use Rattle.regalloc2_names.specs.declared.sets.PRegSet.{PRegSet}
use Rattle.regalloc2_names.specs.Register.{VirtualRegister, is_vreg}
use Rattle.regalloc2_names.specs.Operand.{OperandValue, is_def, is_late, is_reading}
use Rattle.regalloc2_names.specs.Place.{Place, NoPlace}
use Rattle.regalloc2_function.specs.OutputValue.{MoveValue, place_at}
use Rattle.regalloc2_semantics.specs.Runs.{after_defs, stored, after_moves, write_at}
use Rattle.regalloc2_function.specs.FunctionValue.{op_at}
use Rattle.regalloc2_semantics.proofs.Cells.{cases_place, stored-same, stored-other, is_vreg-same}
use Rattle.regalloc2_carry.specs.Listing.{Item, with_moves, defines, writes}
use Rattle.regalloc2_carry.specs.Listing.Item.{Move, Exec}
use Rattle.regalloc2_carry.specs.Carry.{CarriesFrom, Carries, late_cells, Spares, DefinesVRegAt, Untouched}
use Rattle.regalloc2_semantics.specs.Sound.{Undefined}
use Rattle.regalloc2_semantics.proofs.AfterWrites.{after_defs-other}
use Rattle.regalloc2_carry.proofs.BothRuns.{early-other, late-spared, late-made}
use Rattle.regalloc2_semantics.specs.Laws.{Cells, Source}

-- nothing runs
pub carries_nil : (v : VirtualRegister) (P E : Place → Type 0) → ((p : Place) → E p → P p) → Carries v [] P E
unfolding Carries CarriesFrom
carries_nil v P E h = λ s c n holds p e. holds p (h p e)

-- fewer places have to hold v at the end
from_weaken : (v : VirtualRegister) (L : List Item) (E F : Place → Type 0) (s : Source) (c : Cells) (n : ℕ) → ((p : Place) → F p → E p) →
    CarriesFrom v E L s c n → CarriesFrom v F L s c n
unfolding CarriesFrom
from_weaken v [] E F s c n h g = λ p f. g p (h p f)
from_weaken v (Move m ∷ L) E F s c n h g = from_weaken v L E F s _ n h g
from_weaken v (Exec ops places clobbers ∷ L) E F s c n h g = (g.0, g.1, from_weaken v L E F _ _ (suc n) h g.2)

-- the rule of consequence: a listing that carries v still does if more places are assumed to hold v before it and fewer
-- have to hold it after it
pub carries_weaken : (v : VirtualRegister) (L : List Item) (P R E F : Place → Type 0) → ((p : Place) → P p → R p) → ((p : Place) → F p → E p) →
    Carries v L P E → Carries v L R F
unfolding Carries
carries_weaken v L P R E F relied owed g = λ s c n holds. from_weaken v L E F s c n owed (g s c n (λ p w. holds p (relied p w)))

-- a move before
pub carries_move : (v : VirtualRegister) (m : MoveValue) (L : List Item) (P R E : Place → Type 0) → (m.to ≡ NoPlace → ⊥) →
    (P m.to → R m.from) → ((p : Place) → (p ≡ m.to → ⊥) → P p → R p) → Carries v L P E → Carries v (Move m ∷ L) R E
unfolding Carries CarriesFrom
carries_move v m L P R E there moved kept g = λ s c n holds.
    g s (stored c m.to (c m.from)) n
    (λ p w. elim (cases_place p m.to) [
      | inl e ↦ subst (λ q. stored c m.to (c m.from) q ≡ s v) (sym e) (stored-same c m.to (c m.from) there ∙ holds m.from (moved (subst P e w)))
      | inr ne ↦ stored-other c m.to p (c m.from) ne ∙ holds p (kept p ne w)
    ])

-- a move by way of a place that the vreg does not need
pub carries_by_two_moves : (v : VirtualRegister) (from by to : Place) (L : List Item) (P R E : Place → Type 0) → (by ≡ NoPlace → ⊥) → (to ≡ NoPlace → ⊥) →
    (P by → ⊥) → (P to → R from) → ((p : Place) → (p ≡ to → ⊥) → P p → R p) →
    Carries v L P E → Carries v (Move (record { from = from; to = by }) ∷ (Move (record { from = by; to = to }) ∷ L)) R E
carries_by_two_moves v from by to L P R E there_by there_to clear moved kept g =
    let M : Place → Type 0 = λ p. ((p ≡ by) × R from) ⊎ ((p ≡ by → ⊥) × R p) in
    carries_move v (record { from = from; to = by }) (Move (record { from = by; to = to }) ∷ L) M R E there_by
    (λ x. elim x [ inl y ↦ y.1 | inr y ↦ absurd (y.0 refl) ])
    (λ p ne x. elim x [ inl y ↦ absurd (ne y.0) | inr y ↦ y.1 ])
    (carries_move v (record { from = by; to = to }) L P M E there_to
    (λ w. inl (refl, moved w))
    (λ p ne w. elim (cases_place p by) [ inl e ↦ absurd (clear (subst P e w)) | inr nb ↦ inr (nb, kept p ne w) ])
    g)

-- moves, and then the rest
pub from_moves : (ms : List MoveValue) (v : VirtualRegister) (E : Place → Type 0) (L : List Item) (s : Source) (c : Cells) (n : ℕ) →
    CarriesFrom v E L s (after_moves ms c) n → CarriesFrom v E (with_moves ms L) s c n
unfolding CarriesFrom with_moves after_moves
from_moves [] v E L s c n g = g
from_moves (m ∷ ms) v E L s c n g = from_moves ms v E L s _ n g

-- if moves and the listing behind them carry v from a state, the listing carries v from the state after the moves
pub after_their_moves : (ms : List MoveValue) (v : VirtualRegister) (E : Place → Type 0) (L : List Item) (s : Source) (c : Cells) (n : ℕ) →
    CarriesFrom v E (with_moves ms L) s c n → CarriesFrom v E L s (after_moves ms c) n
unfolding CarriesFrom with_moves after_moves
after_their_moves [] v E L s c n g = g
after_their_moves (m ∷ ms) v E L s c n g = after_their_moves ms v E L s _ n g

-- a list of moves at once, by what it leaves in the places that are needed after it
pub carries_moves : (v : VirtualRegister) (ms : List MoveValue) (L : List Item) (P R E : Place → Type 0) →
    ((s : Source) (c : Cells) → ((p : Place) → R p → c p ≡ s v) → (p : Place) → P p → after_moves ms c p ≡ s v) →
    Carries v L P E → Carries v (with_moves ms L) R E
unfolding Carries
carries_moves v ms L P R E hold g = λ s c n holds. from_moves ms v E L s c n (g s (after_moves ms c) n (hold s c holds))

-- an instruction
pub carries_exec : (v : VirtualRegister) (ops : List OperandValue) (places : List Place) (clobbers : PRegSet) (L : List Item) (P R E : Place → Type 0) →
    ((j : ℕ) → j < length ops → is_reading (op_at ops j) ≡ true → is_late (op_at ops j).position ≡ false → (op_at ops j).vreg ≡ v →
    R (place_at places j) × ((i : ℕ) → i < length ops → is_def (op_at ops i).kind ≡ true → is_late (op_at ops i).position ≡ false →
    place_at places i ≡ place_at places j → ⊥)) →
    ((j : ℕ) → j < length ops → is_reading (op_at ops j) ≡ true → is_late (op_at ops j).position ≡ true → (op_at ops j).vreg ≡ v →
    DefinesVRegAt ops places clobbers (place_at places j) v ⊎ (R (place_at places j) × Spares ops places clobbers (place_at places j) × Undefined ops v)) →
    ((p : Place) → P p → DefinesVRegAt ops places clobbers p v ⊎ (R p × Spares ops places clobbers p × Undefined ops v)) →
    Carries v L P E → Carries v (Exec ops places clobbers ∷ L) R E
unfolding Carries CarriesFrom
carries_exec v ops places clobbers L P R E early late after g = λ s c n holds.
    let left : (p : Place) → (DefinesVRegAt ops places clobbers p v ⊎ (R p × Spares ops places clobbers p × Undefined ops v)) →
    late_cells n ops places clobbers c p ≡ after_defs (write_at n) 0 ops s v =
    λ p x. elim x [
      | inl m ↦ late-made n ops places clobbers s c p v m
      | inr u ↦ late-spared n ops places clobbers c p u.1 ∙ holds p u.0 ∙ sym (after_defs-other ops n 0 s v u.2)
    ] in (
      λ j lt r e i. let a = early j lt r e i in early-other ops places c (place_at places j) a.1 ∙ holds _ a.0,
      λ j lt r l i. left (place_at places j) (late j lt r l i),
      g (after_defs (write_at n) 0 ops s) (late_cells n ops places clobbers c) (suc n) (λ p w. left p (after p w)),
    )

-- one listing after another
from_append : (v : VirtualRegister) (K L : List Item) (E F : Place → Type 0) (s : Source) (c : Cells) (n : ℕ) → Carries v L E F → CarriesFrom v E K s c n →
    CarriesFrom v F (K ++ L) s c n
unfolding Carries CarriesFrom
from_append v [] L E F s c n h g = h s c n g
from_append v (Move m ∷ K) L E F s c n h g = from_append v K L E F s _ n h g
from_append v (Exec ops places clobbers ∷ K) L E F s c n h g = (g.0, g.1, from_append v K L E F _ _ (suc n) h g.2)

-- the rule of sequence: if K carries v from P to E, and L from E to F, then K followed by L carries v from P to F
pub carries_append : (v : VirtualRegister) (K L : List Item) (P E F : Place → Type 0) → Carries v K P E → Carries v L E F → Carries v (K ++ L) P F
unfolding Carries
carries_append v K L P E F g h = λ s c n holds. from_append v K L E F s c n h (g s c n holds)

first_not : (b : Bool) (o : OperandValue) (os : List OperandValue) (v : VirtualRegister) → is_def o.kind ≡ b → (b && is_vreg o.vreg v) ≡ false →
    Undefined os v → Undefined (o ∷ os) v
first_not true o os v k h rest zero lt d e =
    let y : is_vreg v v ≡ false = subst (λ u. is_vreg u v ≡ false) e h in let z : is_vreg v v ≡ true = is_vreg-same v in absurd cc
first_not false o os v k h rest zero lt d e = let y : is_def o.kind ≡ true = d in absurd cc
first_not b o os v k h rest (suc j) lt d e = rest j (omega arith) d e

-- if the test says that no operand defines v, then v is not the vreg of any def
pub defines_not : (ops : List OperandValue) (v : VirtualRegister) → defines v ops ≡ false → Undefined ops v
unfolding defines
defines_not [] v h = λ j lt d e. omega arith
defines_not (o ∷ os) v h =
    let parts = or_parts (is_def o.kind && is_vreg o.vreg v) (defines v os) h in
    first_not (is_def o.kind) o os v refl parts.0 (defines_not os v parts.1)

-- if no item writes v, a place that no item writes may be added: assumed before the listing, and required after it
pub from_fresh : (v : VirtualRegister) (L : List Item) (E R : Place → Type 0) (s : Source) (c : Cells) (n : ℕ) → ((p : Place) → R p → Untouched p L) →
    writes v L ≡ false → ((p : Place) → R p → c p ≡ s v) →
    CarriesFrom v E L s c n → CarriesFrom v (λ p. E p ⊎ R p) L s c n
unfolding CarriesFrom Untouched writes
from_fresh v [] E R s c n u w h g = λ p x. elim x [ inl y ↦ g p y | inr y ↦ h p y ]
from_fresh v (Move m ∷ L) E R s c n u w h g =
    from_fresh v L E R s (stored c m.to (c m.from)) n (λ p r. (u p r).1) w (λ p r. stored-other c m.to p (c m.from) (u p r).0 ∙ h p r) g
from_fresh v (Exec ops places clobbers ∷ L) E R s c n u w h g =
    let parts = or_parts (defines v ops) (writes v L) w in (
      g.0,
      g.1,
      from_fresh v L E R (after_defs (write_at n) 0 ops s) (late_cells n ops places clobbers c) (suc n) (λ p r. (u p r).1) parts.1
          (λ p r. late-spared n ops places clobbers c p (u p r).0 ∙ h p r ∙ sym (after_defs-other ops n 0 s v (defines_not ops v parts.0))) g.2,
    )

-- the frame rule: in a listing that doesn't write v, places that it leaves alone may be added on both sides of what it
-- carries
pub carries_fresh : (v : VirtualRegister) (L : List Item) (P E R : Place → Type 0) → ((p : Place) → R p → Untouched p L) → writes v L ≡ false →
    Carries v L P E → Carries v L (λ p. P p ⊎ R p) (λ p. E p ⊎ R p)
unfolding Carries
carries_fresh v L P E R u w g = λ s c n holds. from_fresh v L E R s c n u w (λ p r. holds p (inr r)) (g s c n (λ p x. holds p (inl x)))
