-- Stores at a block's beginning carry values from their places to where they are stored, and don't change other places.
use Rattle.std.proofs.Common.{◌≡◌, ◌≢◌, Bool, true, false, List, [], ◌∷◌, ◌++◌, Option, None, Some, refl, sym, ap, ◌∙◌, subst, inl, inr, ◌⊎◌}
use Rattle.regalloc2_names.specs.Register.{VirtualRegister}
use Rattle.regalloc2_names.specs.Place.{Place, NoPlace}
use Rattle.regalloc2_function.specs.OutputValue.{MoveValue}
use Rattle.regalloc2_semantics.specs.Runs.{after_moves, stored}
use Rattle.regalloc2_carry.specs.Listing.{Item, with_moves}
use Rattle.regalloc2_carry.specs.Carry.{Carries}
use Rattle.regalloc2_carry.specs.Stores.{Store, moves_by, store_moves, IsOneOf, Avoids, AreStores, AreInOrder}
use Rattle.regalloc2_carry.specs.Stores.IsOneOf.{first, later}
use Rattle.regalloc2_semantics.proofs.Cells.{stored-same, stored-other}
use Rattle.regalloc2_carry.proofs.CarryRules.{carries_moves}
use Rattle.regalloc2_semantics.specs.Laws.{Cells}

-- a list of moves, and then another
pub after_append : (ms ns : List MoveValue) (c : Cells) → after_moves (ms ++ ns) c ≡ after_moves ns (after_moves ms c)
unfolding after_moves
after_append [] ns c = refl
after_append (m ∷ ms) ns c = after_append ms ns (stored c m.to (c m.from))

-- one store brings its value
target_after_store : (from to : Place) (by : Option Place) (c : Cells) → to ≢ NoPlace → ((q : Place) → by ≡ Some q → q ≢ NoPlace) →
    after_moves (moves_by from by to) c to ≡ c from
unfolding after_moves
target_after_store from to None c there way = stored-same c to (c from) there
target_after_store from to (Some by) c there way =
    stored-same (stored c by (c from)) to (stored c by (c from) by) there ∙ stored-same c by (c from) (way by refl)

-- a store leaves the places that it avoids
others_after_store : (from to : Place) (by : Option Place) (c : Cells) (p : Place) → p ≢ to → ((q : Place) → by ≡ Some q → p ≢ q) →
    after_moves (moves_by from by to) c p ≡ c p
unfolding after_moves
others_after_store from to None c p other way = stored-other c to p (c from) other
others_after_store from to (Some by) c p other way =
    stored-other (stored c by (c from)) to p (stored c by (c from) by) other ∙ stored-other c by p (c from) (way by refl)

-- stores leave a place that all of them avoid
pub stores_else : (ss : List Store) (c : Cells) (p : Place) → ((t : Store) → IsOneOf t ss → Avoids t p) → after_moves (store_moves ss) c p ≡ c p
unfolding store_moves after_moves
stores_else [] c p avoid = refl
stores_else (s ∷ ss) c p avoid =
    let here = avoid s (first refl) in
    let then : Cells = after_moves (moves_by s.from s.by s.to) c in
    ap (λ (d : Cells). d p) (after_append (moves_by s.from s.by s.to) (store_moves ss) c)
    ∙ stores_else ss then p (λ t m. avoid t (later m))
    ∙ others_after_store s.from s.to s.by c p here.0 here.1

-- each store brings its value
pub targets_after_stores : (ss : List Store) → AreStores ss → (c : Cells) (x : Store) → IsOneOf x ss → after_moves (store_moves ss) c x.to ≡ c x.from
unfolding store_moves AreStores
targets_after_stores [] are c x none = elim none [ ]
targets_after_stores (s ∷ ss) are c x (first is) =
    let then : Cells = after_moves (moves_by s.from s.by s.to) c in
    subst (λ (y : Store). after_moves (moves_by s.from s.by s.to ++ store_moves ss) c y.to ≡ c y.from) is
    (ap (λ (d : Cells). d s.to) (after_append (moves_by s.from s.by s.to) (store_moves ss) c)
    ∙ stores_else ss then s.to (λ t m. (are.2 t m).0)
    ∙ target_after_store s.from s.to s.by c are.0 are.1)
targets_after_stores (s ∷ ss) are c x (later m) =
    let then : Cells = after_moves (moves_by s.from s.by s.to) c in
    let avoids = (are.2 x m).1 in
    ap (λ (d : Cells). d x.to) (after_append (moves_by s.from s.by s.to) (store_moves ss) c)
    ∙ targets_after_stores ss are.3 then x m
    ∙ others_after_store s.from s.to s.by c x.from avoids.0 avoids.1

-- A listing behind stores that carries v from the places of P does so with the stores in front from the places of R:
-- each place of P is one to which a store brings what is in a place of R, or a place of R that all stores avoid.
pub carries_stores : (v : VirtualRegister) (ss : List Store) (L : List Item) (P R E : Place → Type 0) → AreStores ss →
    ((p : Place) → P p → ((x : Store) × IsOneOf x ss × (x.to ≡ p) × R x.from) ⊎ (R p × ((t : Store) → IsOneOf t ss → Avoids t p))) →
    Carries v L P E → Carries v (with_moves (store_moves ss) L) R E
carries_stores v ss L P R E are brought carries = carries_moves v (store_moves ss) L P R E
    (λ s c holds p is. elim (brought p is) [
      | inl x ↦ subst (λ (q : Place). after_moves (store_moves ss) c q ≡ s v) x.2 (targets_after_stores ss are c x.0 x.1 ∙ holds x.0.from x.3)
      | inr x ↦ stores_else ss c p x.1 ∙ holds p x.0
    ]) carries

apart : (M : Place → Bool) (p q : Place) → M p ≡ true → M q ≡ false → p ≢ q
apart M p q is not same = (let x : true ≡ false = sym is ∙ ap M same ∙ not in cc)

-- the places by way of which stores go aren't on the stack
ways : (M : Place → Bool) (ss : List Store) → AreInOrder M ss → (t : Store) → IsOneOf t ss → (q : Place) → t.by ≡ Some q → M q ≡ false
unfolding AreInOrder
ways M [] h t m q by = elim m [ ]
ways M (s ∷ ss) h t (first is) q by = (h.1 q (ap (λ (x : Store). x.by) is ∙ by)).0
ways M (s ∷ ss) h t (later m) q by = ways M ss h.3 t m q by

-- Stores to stack places don't disturb one another if the stores that start in registers are before all stores that go
-- through a register, no place is the target of two, and no later store starts from an earlier one's target.
pub in_order : (M : Place → Bool) → M NoPlace ≡ false → (ss : List Store) → AreInOrder M ss → AreStores ss
unfolding AreInOrder AreStores
in_order M none [] h = tt
in_order M none (s ∷ ss) h = (
  apart M s.to NoPlace h.0 none,
  λ q by. (h.1 q by).1,
  λ t m. (
    ((h.2 t m).0, λ q by. apart M s.to q h.0 (ways M ss h.3 t m q by)),
    ((h.2 t m).1, λ q by. apart M t.from q ((h.2 t m).2 q by) (h.1 q by).0),
  ),
  in_order M none ss h.3,
)
