-- The moves of a branch's arguments, class by class: which value each place has after them.
use Rattle.std.proofs.Common.{ℕ, ◌≡◌, ◌≢◌, ◌<◌, ◌≤◌, inl, inr, List, ◌++◌, sym, ap, ◌∙◌, subst, arith}
use Rattle.std.specs.Prelude.{None, Contains, slice_index_or}
use Rattle.std.proofs.lemmas.List.{append_assoc}
use Rattle.regalloc2_names.specs.declared.sets.PRegSet.{PRegSet}
use Rattle.regalloc2_names.specs.declared.RegClass.{RegClass}
use Rattle.regalloc2_names.specs.declared.RegClass.TheVariants.{Int, Float, Vector}
use Rattle.regalloc2_names.specs.Register.{class_code, has_register}
use Rattle.regalloc2_names.specs.Place.{Place, NoPlace, InRegister, InSlot}
use Rattle.regalloc2_function.specs.OutputValue.{MoveValue}
use Rattle.regalloc2_semantics.specs.Runs.{after_moves}
use Rattle.regalloc2_carry.specs.BlockByPoints.{at_point, listed}
use Rattle.regalloc2_parts.specs.Resolved.{AreBetweenPlaces}
use Rattle.regalloc2_fastalloc_state.specs.declared.inst_regs.InstRegs.{InstRegs}
use Rattle.regalloc2_fastalloc_state.specs.ScratchPool.{Moves, pushed}
use Rattle.regalloc2_fastalloc_proofs.specs.InstSteps.{StateValue}
use Rattle.regalloc2_fastalloc_proofs.specs.BranchSteps.{IsScratchRegFor, OrdersMoves, Pushes, ClassMove, of_class}
use Rattle.regalloc2_fastalloc_proofs.proofs.Branches.ArgMovesPushed.{moves_of, at_pushed, other_pushed, after_append, came_from, after_made}
use Rattle.regalloc2_fastalloc_proofs.proofs.Branches.ArgMovesPushed.{came_own}
use Rattle.regalloc2_semantics.specs.Laws.{Cells}

-- a slot, if it is one, is below a count
abbrev pub IsLow : ℕ → Place → Type 0
IsLow count q = (k : ℕ) → q ≡ InSlot k → k < count

-- no move goes to the place
abbrev pub IsNoTarget : Moves → Place → Type 0
IsNoTarget given q = (m : Place × Place × Unit {0}) → Contains given m → m.1 ≢ q

-- what the moves of a class do
pub record Stepped (point : ℕ) (inst_regs : InstRegs) (class : RegClass) (given : Moves) (old new : StateValue) : Type 0 where
  pub made : Moves
  pub ends : AreBetweenPlaces made
  pub places : new.places ≡ old.places
  pub vreg_spillslots : new.slots.vreg_spillslots ≡ old.slots.vreg_spillslots
  pub sizes : new.slots.sizes ≡ old.slots.sizes
  pub allocatable : new.allocatable ≡ old.allocatable
  pub fixed_stack : new.fixed_stack ≡ old.fixed_stack
  pub dedicated_scratch : new.dedicated_scratch ≡ old.dedicated_scratch
  pub grows : old.slots.count ≤ new.slots.count
  pub edits : new.edits ≡ old.edits ++ pushed point made
  pub low : (q : Place) → q ≢ NoPlace → (IsScratchRegFor inst_regs old class q → ⊥) → IsLow old.slots.count q → IsNoTarget given q → came_from made q ≡ q
  pub high : (n : ℕ) → new.slots.count ≤ n → IsNoTarget given (InSlot n) → came_from made (InSlot n) ≡ InSlot n
  pub assigned : (m : Place × Place × Unit {0}) → Contains given m → came_from made m.1 ≡ m.0

-- the ordered moves of one class bring each target the value of its source, and leave all but scratch and temporary
-- places alone
pub class_moves_done : (point : ℕ) (inst_regs : InstRegs) (class : RegClass) (given : Moves) (old new : StateValue) → Pushes point inst_regs class given old new →
    Stepped point inst_regs class given old new
class_moves_done point inst_regs class given old new p =
    let o : OrdersMoves inst_regs class given p.made old p.middle = p.orders in
    let count : new.slots.count ≡ p.middle.slots.count = ap (λ (t : StateValue). t.slots.count) p.pushes in
    record {
      made = p.made;
      ends = λ k d lt. (o.each k d lt).between;
      places = ap (λ (t : StateValue). t.places) p.pushes ∙ o.places;
      vreg_spillslots = ap (λ (t : StateValue). t.slots.vreg_spillslots) p.pushes ∙ o.lends.2.vreg_spillslots;
      sizes = ap (λ (t : StateValue). t.slots.sizes) p.pushes ∙ o.lends.2.sizes;
      allocatable = ap (λ (t : StateValue). t.allocatable) p.pushes ∙ o.allocatable;
      fixed_stack = ap (λ (t : StateValue). t.fixed_stack) p.pushes ∙ o.fixed_stack;
      dedicated_scratch = ap (λ (t : StateValue). t.dedicated_scratch) p.pushes ∙ o.dedicated_scratch;
      grows = (let g : old.slots.count ≤ p.middle.slots.count = o.grows in omega (arith, g, count));
      edits = ap (λ (t : StateValue). t.edits) p.pushes ∙ ap (λ l. l ++ pushed point p.made) o.edits;
      low = λ q real scratch_reserve below other. o.kept q real (λ l. elim l [
        | inl s ↦ scratch_reserve s
        | inr x ↦ (let lt : x.0 < old.slots.count = below x.0 x.1 in let le : old.slots.count ≤ x.0 = x.2 in
            omega (arith, lt, le))
      ]) other;
      high = λ n le other. came_own p.made (InSlot n) (λ k d lt e. elim (o.each k d lt).target [
        | inl hand ↦ elim hand [
          | inl r ↦ (let x : InRegister r.0 ≡ InSlot n = sym r.1 ∙ e in cc)
          | inr s ↦ (let x : InSlot s.0 ≡ InSlot n = sym s.1 ∙ e in let same : s.0 ≡ n = cc in let less : s.0 < p.middle.slots.count = s.3 in
              omega (arith, same, less, count, le))
        ]
        | inr g ↦ other g.0 g.1 (sym g.2 ∙ e)
      ]);
      assigned = o.assigned;
    }

-- scratch places depend on the machine
spare_back : (inst_regs : InstRegs) (class : RegClass) (old new : StateValue) (q : Place) → new.allocatable ≡ old.allocatable →
    new.dedicated_scratch ≡ old.dedicated_scratch → IsScratchRegFor inst_regs new class q → IsScratchRegFor inst_regs old class q
spare_back inst_regs class old new q a d s = (
  s.0,
  s.1,
  elim s.2 [
    | inl own ↦ inl (ap (λ l. slice_index_or l (class_code class) None) (sym d) ∙ own)
    | inr may ↦ inr (
      record {
        of_class = may.0.of_class;
        small = may.0.small;
        allocatable = ap (λ (l : PRegSet). has_register l s.0) (sym a)
            ∙ may.0.allocatable;
      },
      may.1,
    )
  ],
)

-- The moves of a branch's arguments, class after class, at a point: the tables before them (g), and the tables once the
-- moves of each class are pushed.
pub record ClassSteps : Type 0 where
  pub point : ℕ
  pub inst_regs : InstRegs
  pub given : List ClassMove
  pub g : StateValue
  pub ints : StateValue
  pub floats : StateValue
  pub new : StateValue
  pub int : Stepped point inst_regs Int (of_class Int given) g ints
  pub float : Stepped point inst_regs Float (of_class Float given) ints floats
  pub vector : Stepped point inst_regs Vector (of_class Vector given) floats new

-- the record, built from its parts
abbrev pub steps_of : (point : ℕ) (inst_regs : InstRegs) (given : List ClassMove) (g ints floats new : StateValue) →
    Stepped point inst_regs Int (of_class Int given) g ints → Stepped point inst_regs Float (of_class Float given) ints floats →
    Stepped point inst_regs Vector (of_class Vector given) floats new → ClassSteps
steps_of point inst_regs given g ints floats new int float vector = record {
  point = point;
  inst_regs = inst_regs;
  given = given;
  g = g;
  ints = ints;
  floats = floats;
  new = new;
  int = int;
  float = float;
  vector = vector;
}

-- the moves of all classes
module _ (steps : ClassSteps) where
  open steps use {point, inst_regs, given, g, ints, floats, new, int, float, vector}

  -- the moves of all three classes as they are listed: the last pushed are first
  pub all_moves : List MoveValue
  all_moves = moves_of vector.made ++ (moves_of float.made ++ moves_of int.made)

  -- the source of what a place holds after all the moves
  came : Place → Place
  came q = came_from vector.made (came_from float.made (came_from int.made q))

  runs : (c : Cells) (q : Place) → after_moves all_moves c q ≡ c (came q)
  unfolding all_moves came
  runs c q =
      after_append (moves_of vector.made) (moves_of float.made ++ moves_of int.made) c q
      ∙ after_append (moves_of float.made) (moves_of int.made) (after_moves (moves_of vector.made) c) q
      ∙ after_made int.made int.ends (after_moves (moves_of float.made) (after_moves (moves_of vector.made) c)) q
      ∙ after_made float.made float.ends (after_moves (moves_of vector.made) c) (came_from int.made q)
      ∙ after_made vector.made vector.ends c (came_from float.made (came_from int.made q))

  -- the moves are in front of what was listed at the point, and nothing else was listed
  pub all_at : at_point (listed new.edits) point ≡ all_moves ++ at_point (listed g.edits) point
  unfolding all_moves
  all_at =
      ap (λ es. at_point (listed es) point) vector.edits ∙ at_pushed point vector.made floats.edits
      ∙ ap (λ l. moves_of vector.made ++ l)
      (ap (λ es. at_point (listed es) point) float.edits ∙ at_pushed point float.made ints.edits
      ∙ ap (λ l. moves_of float.made ++ l) (ap (λ es. at_point (listed es) point) int.edits ∙ at_pushed point int.made g.edits)
      ∙ sym (append_assoc (moves_of float.made) (moves_of int.made) (at_point (listed g.edits) point)))
      ∙ sym (append_assoc (moves_of vector.made) (moves_of float.made ++ moves_of int.made) (at_point (listed g.edits) point))

  -- at all other points the same moves are listed as before
  pub all_other : (q : ℕ) → (point ≡ q → ⊥) → at_point (listed new.edits) q ≡ at_point (listed g.edits) q
  all_other q ne =
      ap (λ es. at_point (listed es) q) vector.edits ∙ other_pushed point q vector.made floats.edits ne
      ∙ ap (λ es. at_point (listed es) q) float.edits ∙ other_pushed point q float.made ints.edits ne
      ∙ ap (λ es. at_point (listed es) q) int.edits ∙ other_pushed point q int.made g.edits ne

  -- no move of any class goes to the place
  abbrev pub IsNeverTarget : Place → Type 0
  IsNeverTarget q = (class : RegClass) → IsNoTarget (of_class class given) q

  -- the place is a scratch place of no class
  abbrev pub IsNeverSpare : Place → Type 0
  IsNeverSpare q = (class : RegClass) → IsScratchRegFor inst_regs g class q → ⊥

  -- the moves of one class leave a place
  low_int : (q : Place) → q ≢ NoPlace → (IsScratchRegFor inst_regs g Int q → ⊥) → IsLow g.slots.count q → IsNoTarget (of_class Int given) q
      → came_from int.made q ≡ q
  low_int q real scratch_reserve below other = int.low q real scratch_reserve below other

  low_float : (q : Place) → q ≢ NoPlace → (IsScratchRegFor inst_regs g Float q → ⊥) → IsLow g.slots.count q → IsNoTarget (of_class Float given) q →
      came_from float.made q ≡ q
  low_float q real scratch_reserve below other =
      let grows : g.slots.count ≤ ints.slots.count = int.grows in
      float.low q real (λ s. scratch_reserve (spare_back inst_regs Float g ints q int.allocatable int.dedicated_scratch s))
      (λ k e. let lt : k < g.slots.count = below k e in omega (arith, lt, grows)) other

  low_vector : (q : Place) → q ≢ NoPlace → (IsScratchRegFor inst_regs g Vector q → ⊥) → IsLow g.slots.count q → IsNoTarget (of_class Vector given) q →
      came_from vector.made q ≡ q
  low_vector q real scratch_reserve below other =
      let grows : g.slots.count ≤ ints.slots.count = int.grows in
      let more : ints.slots.count ≤ floats.slots.count = float.grows in
      vector.low q real (λ s. scratch_reserve (spare_back inst_regs Vector g floats q (float.allocatable ∙ int.allocatable)
      (float.dedicated_scratch ∙ int.dedicated_scratch) s)) (λ k e. let lt : k < g.slots.count = below k e in omega (arith, lt, grows, more)) other

  three : (q a b d : Place) → came_from int.made q ≡ a → came_from float.made a ≡ b → came_from vector.made b ≡ d → came q ≡ d
  unfolding came
  three q a b d x y z = ap (λ p. came_from vector.made (came_from float.made p)) x ∙ ap (came_from vector.made) y ∙ z

  -- a place that no move writes keeps its value
  pub all_kept : (q : Place) → q ≢ NoPlace → IsNeverSpare q → IsLow g.slots.count q → IsNeverTarget q → (c : Cells) → after_moves all_moves c q ≡ c q
  all_kept q real scratch_reserve below other c =
      runs c q ∙ ap c (three q q q q (low_int q real (scratch_reserve Int) below (other Int)) (low_float q real (scratch_reserve Float) below (other Float))
      (low_vector q real (scratch_reserve Vector) below (other Vector)))

  -- all moves leave a slot alone that is made later
  pub all_above : (n : ℕ) → new.slots.count ≤ n → IsNeverTarget (InSlot n) → (c : Cells) → after_moves all_moves c (InSlot n) ≡ c (InSlot n)
  all_above n le other c =
      let a : floats.slots.count ≤ new.slots.count = vector.grows in
      let b : ints.slots.count ≤ floats.slots.count = float.grows in
      runs c (InSlot n) ∙ ap c (three (InSlot n) (InSlot n) (InSlot n) (InSlot n) (int.high n (omega (arith, le, a, b)) (other Int))
      (float.high n (omega (arith, le, a)) (other Float)) (vector.high n le (other Vector)))

  no_spare_slot : (k : ℕ) (class : RegClass) → IsScratchRegFor inst_regs g class (InSlot k) → ⊥
  no_spare_slot k class s = (let x : InSlot k ≡ InRegister s.0 = s.1 in cc)

  -- a slot-to-slot move of a class, if moves of other classes go neither to its source nor to its target
  pub all_moved : (class : RegClass) (from to : ℕ) → Contains (of_class class given) (InSlot from, InSlot to, tt) → from < g.slots.count → to < g.slots.count →
      ((other : RegClass) → other ≢ class → IsNoTarget (of_class other given) (InSlot from)) →
      ((other : RegClass) → other ≢ class → IsNoTarget (of_class other given) (InSlot to)) →
      (c : Cells) → after_moves all_moves c (InSlot to) ≡ c (InSlot from)
  all_moved class from to is less within sources targets c = runs c (InSlot to) ∙ ap c (by_class class is sources targets)
    where
      real : (k : ℕ) → InSlot k ≢ NoPlace
      real k e = cc

      low : (k : ℕ) → k < g.slots.count → IsLow g.slots.count (InSlot k)
      low k lt j e = (let same : k ≡ j = cc in subst (λ x. x < g.slots.count) same lt)

      by_class : (c : RegClass) → Contains (of_class c given) (InSlot from, InSlot to, tt) →
          ((other : RegClass) → other ≢ c → IsNoTarget (of_class other given) (InSlot from)) →
          ((other : RegClass) → other ≢ c → IsNoTarget (of_class other given) (InSlot to))
          → came (InSlot to) ≡ InSlot from
      by_class Int has a b = three (InSlot to) (InSlot from) (InSlot from) (InSlot from) (int.assigned (InSlot from, InSlot to, tt) has)
          (low_float (InSlot from) (real from) (no_spare_slot from Float) (low from less) (a Float (λ e. cc)))
          (low_vector (InSlot from) (real from) (no_spare_slot from Vector) (low from less) (a Vector (λ e. cc)))
      by_class Float has a b = three (InSlot to) (InSlot to) (InSlot from) (InSlot from)
          (low_int (InSlot to) (real to) (no_spare_slot to Int) (low to within) (b Int (λ e. cc)))
          (float.assigned (InSlot from, InSlot to, tt) has) (low_vector (InSlot from) (real from) (no_spare_slot from Vector) (low from less)
          (a Vector (λ e. cc)))
      by_class Vector has a b = three (InSlot to) (InSlot to) (InSlot to) (InSlot from)
          (low_int (InSlot to) (real to) (no_spare_slot to Int) (low to within) (b Int (λ e. cc)))
          (low_float (InSlot to) (real to) (no_spare_slot to Float) (low to within) (b Float (λ e. cc))) (vector.assigned (InSlot from, InSlot to, tt) has)

  -- the tables, except for temporary slots
  pub all_places : new.places ≡ g.places
  all_places = vector.places ∙ float.places ∙ int.places

  -- the moves of all classes leave each vreg its own slot, or none
  pub all_slots : new.slots.vreg_spillslots ≡ g.slots.vreg_spillslots
  all_slots = vector.vreg_spillslots ∙ float.vreg_spillslots ∙ int.vreg_spillslots

  -- the moves of all classes only increase the count of units
  pub all_grow : g.slots.count ≤ new.slots.count
  all_grow =
      let a : g.slots.count ≤ ints.slots.count = int.grows in
      let b : ints.slots.count ≤ floats.slots.count = float.grows in
      let d : floats.slots.count ≤ new.slots.count = vector.grows in
      omega (arith, a, b, d)
