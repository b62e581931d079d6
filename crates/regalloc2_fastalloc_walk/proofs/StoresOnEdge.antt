-- What a block's beginning stores: the values that are listed, moved as they are found and pushed, the ones from the
-- stack first, are the stores on the edge.
use Rattle.std.proofs.Common.{ℕ, zero, suc, ◌≡◌, ◌≢◌, ◌+◌, ◌<◌, ◌≤◌, ◌⊎◌, Bool, true, false, List, [], ◌∷◌, ◌++◌, length, inl, inr, refl, sym, ap, ◌∙◌, subst}
use Rattle.std.proofs.Common.{arith, eq-eqb}
use Rattle.std.specs.Prelude.{Option, None, Some, IsSome, not, sum_by, slice_index_or, if◌then◌else◌}
use Rattle.std.proofs.lemmas.Bool.{cases_eq, cases_Bool}
use Rattle.std.proofs.lemmas.List.{append-nil, append_assoc}
use Rattle.std.proofs.lemmas.List.Sums.{sum_by-cons}
use Rattle.regalloc2_names.specs.declared.RegClass.TheVariants.{Int}
use Rattle.regalloc2_names.specs.Register.{Register, VirtualRegister}
use Rattle.regalloc2_names.specs.Operand.{OperandValue}
use Rattle.regalloc2_names.specs.Place.{Place, NoPlace, InRegister, InSlot, is_on_stack}
use Rattle.regalloc2_function.specs.FunctionValue.{FunctionValue, block_at, op_at, last_of}
use Rattle.regalloc2_function.specs.OutputValue.{MoveValue}
use Rattle.regalloc2_function.specs.WellFormed.{IsWellFormed}
use Rattle.regalloc2_carry.specs.Stores.{Store, moves_by, store_moves, IsOneOf, AreInOrder}
use Rattle.regalloc2_carry.specs.Stores.IsOneOf.{first, later}
use Rattle.regalloc2_carry.proofs.SingleDef.{IsDefOperand, not_both, one_operand}
use Rattle.regalloc2_semantics.proofs.Soundness.{well_formed_are_sound}
use Rattle.regalloc2_analysis.specs.BranchDefs.BranchDefs.{DefinesNumber, IsEdgeInto, fixed_definition}
use Rattle.regalloc2_fastalloc_state.specs.StateParts.{NoSlotIsShared, SpillSlotsValue, GetsSpillSlot, NoneIsFrom, slot_name}
use Rattle.regalloc2_fastalloc_proofs.specs.InstSteps.{StateValue, SameMachine, no_register}
use Rattle.regalloc2_fastalloc_proofs.specs.BlockSteps.{MayBeAllocated}
use Rattle.regalloc2_fastalloc_proofs.specs.BranchSteps.{RegsAvoidStack}
use Rattle.regalloc2_fastalloc_proofs.specs.StoreSteps.{StoreBranchDefs, no_slot, one_slot, IsByWay, StoresFor, StoresOn, pushed_moves, branch_operands}
use Rattle.regalloc2_fastalloc_proofs.specs.StoreSteps.{fixed_or_slot, defined_place, IsStoredFor, its_own, given, IsConcerned, GetsSlots}
use Rattle.regalloc2_fastalloc_proofs.proofs.Safety.StoredDefs.{last_within}
use Rattle.regalloc2_fastalloc_proofs.proofs.Safety.StoresKeepSafe.{stored_concerned, stored_defines}
use Rattle.regalloc2_fastalloc_proofs.proofs.Slots.SlotsGrow.{SlotsStay, gives_stay, same_stay}
use Rattle.regalloc2_fastalloc_proofs.proofs.Operands.DefRecord.{real_slot}
use Rattle.regalloc2_fastalloc_walk.specs.declared.store.StoreMove.{StoreMove}
use Rattle.regalloc2_fastalloc_walk.specs.declared.store.StoredDef.{StoredDef}
use Rattle.regalloc2_fastalloc_walk.specs.BranchStores.{ListsStores, is_for, FindsDefined, held, in_slot, FindsStore, no_store, FindsStores, none_found}
use Rattle.regalloc2_fastalloc_walk.specs.BranchStores.{one_found, IsMadeOf, AreMadeOf, none_made, passed_over, one_made, PushesStores, LacksStoreReg}
use Rattle.regalloc2_fastalloc_walk.proofs.StoresPushed.{pushed_append}

-- a move that no list has
abbrev no_store_move : StoreMove
no_store_move = record { class = Int; from = NoPlace; to = NoPlace }

abbrev store_at : List StoredDef → ℕ → StoredDef
store_at ds i = slice_index_or ds i no_store

abbrev store_move_at : List StoreMove → ℕ → StoreMove
store_move_at ms i = slice_index_or ms i no_store_move

-- a store for the vreg of a number is counted
counted_for : (n : ℕ) (ds : List StoredDef) (i : ℕ) → i < length ds → (store_at ds i).to.number ≡ n → 1 ≤ sum_by (is_for n) ds
counted_for n [] i lt e = absurd (omega (arith, lt))
counted_for n (d ∷ ds) zero lt e =
    let c = sum_by-cons (is_for n) d ds in
    let one : is_for n d ≡ 1 = ap (λ (b : Bool). if b then 1 else 0) (eq-eqb d.to.number n e) in omega (arith, c, one)
counted_for n (d ∷ ds) (suc i) lt e =
    let c = sum_by-cons (is_for n) d ds in let h = counted_for n ds i (omega (arith, lt)) e in omega (arith, c, h)

-- two stores for the vreg of one number count twice
two_for : (n : ℕ) (ds : List StoredDef) (i j : ℕ) → i ≢ j → i < length ds → j < length ds → (store_at ds i).to.number ≡ n → (store_at ds j).to.number ≡ n →
    2 ≤ sum_by (is_for n) ds
two_for n [] i j ne li lj a b = absurd (omega (arith, li))
two_for n (d ∷ ds) zero zero ne li lj a b = absurd (ne refl)
two_for n (d ∷ ds) zero (suc j) ne li lj a b =
    let c = sum_by-cons (is_for n) d ds in let h = counted_for n ds j (omega (arith, lj)) b in
    let one : is_for n d ≡ 1 = ap (λ (x : Bool). if x then 1 else 0) (eq-eqb d.to.number n a) in omega (arith, c, h, one)
two_for n (d ∷ ds) (suc i) zero ne li lj a b =
    let c = sum_by-cons (is_for n) d ds in let h = counted_for n ds i (omega (arith, li)) a in
    let one : is_for n d ≡ 1 = ap (λ (x : Bool). if x then 1 else 0) (eq-eqb d.to.number n b) in omega (arith, c, h, one)
two_for n (d ∷ ds) (suc i) (suc j) ne li lj a b =
    let c = sum_by-cons (is_for n) d ds in
    let h = two_for n ds i j (λ e. ne (ap suc e)) (omega (arith, li)) (omega (arith, lj)) a b in omega (arith, c, h)

-- a list with one more at its end
length_more : (ms : List StoreMove) (m : StoreMove) → length (ms ++ m ∷ []) ≡ length ms + 1
length_more [] m = refl
length_more (x ∷ ms) m = (let h = length_more ms m in omega (arith, h))

at_sooner : (ms : List StoreMove) (m : StoreMove) (i : ℕ) → i < length ms → store_move_at (ms ++ m ∷ []) i ≡ store_move_at ms i
at_sooner [] m i lt = absurd (omega (arith, lt))
at_sooner (x ∷ ms) m zero lt = refl
at_sooner (x ∷ ms) m (suc i) lt = at_sooner ms m i (omega (arith, lt))

at_last : (ms : List StoreMove) (m : StoreMove) (i : ℕ) → i ≡ length ms → store_move_at (ms ++ m ∷ []) i ≡ m
at_last [] m zero e = refl
at_last [] m (suc i) e = absurd (omega (arith, e))
at_last (x ∷ ms) m zero e = absurd (omega (arith, e))
at_last (x ∷ ms) m (suc i) e = at_last ms m i (omega (arith, e))

-- a store of two lists, one behind the other, is of one of the lists
one_of_append : (x : Store) (ss ts : List Store) → IsOneOf x (ss ++ ts) → IsOneOf x ss ⊎ IsOneOf x ts
one_of_append x [] ts is = inr is
one_of_append x (s ∷ ss) ts (first e) = inl (first e)
one_of_append x (s ∷ ss) ts (later m) = elim (one_of_append x ss ts m) [ inl a ↦ inl (later a) | inr b ↦ inr b ]

of_first : (x : Store) (ss ts : List Store) → IsOneOf x ss → IsOneOf x (ss ++ ts)
of_first x [] ts none = elim none [ ]
of_first x (s ∷ ss) ts (first e) = first e
of_first x (s ∷ ss) ts (later m) = later (of_first x ss ts m)

of_second : (x : Store) (ss ts : List Store) → IsOneOf x ts → IsOneOf x (ss ++ ts)
of_second x [] ts is = is
of_second x (s ∷ ss) ts is = later (of_second x ss ts is)

-- moves of two lists
store_moves_append : (ss ts : List Store) → store_moves (ss ++ ts) ≡ store_moves ss ++ store_moves ts
unfolding store_moves
store_moves_append [] ts = refl
store_moves_append (s ∷ ss) ts = ap (λ l. moves_by s.from s.by s.to ++ l) (store_moves_append ss ts)
    ∙ sym (append_assoc (moves_by s.from s.by s.to) (store_moves ss) (store_moves ts))

-- The move of the store i is from where the branch leaves the value, to the slot of the vreg, as the tables have them
-- at the end.
record MovesValue (operands : List OperandValue) (slots : SpillSlotsValue) (d : StoredDef) (m : StoreMove) : Type 0 where
  from : m.from ≡ defined_place slots (op_at operands d.index)
  there : m.from ≢ NoPlace
  to : slot_name slots d.to.number ≡ m.to
  slot : (n : ℕ) × (m.to ≡ InSlot n)
  class : m.class ≡ (op_at operands d.index).vreg.class

-- a vreg's slot stays its slot
gets_spillslot_stays : (old new final : SpillSlotsValue) (v : VirtualRegister) (p : Place) → GetsSpillSlot old new v p → SlotsStay new final → slot_name final
    v.number ≡ p
gets_spillslot_stays old new final v p g stay =
    let n = real_slot new.count p g.below g.there in stay v.number n.0 (g.gives ∙ n.1) ∙ sym n.1

module _ (operands : List OperandValue) (final : SpillSlotsValue) where
  place_found : (o : OperandValue) (p : Place) (old new : SpillSlotsValue) → FindsDefined o p old new → SlotsStay new final →
      (p ≡ defined_place final o) × (p ≢ NoPlace)
  place_found o p old new (held r fixed at same) stay = (
    at ∙ sym (ap (λ x. fixed_or_slot x (slot_name final o.vreg.number)) fixed),
    λ none. (let y : InRegister r ≡ NoPlace = sym at ∙ none in cc),
  )
  place_found o p old new (in_slot free gets temps) stay = (
    sym (gets_spillslot_stays old new final o.vreg p gets stay) ∙ sym (ap (λ x. fixed_or_slot x (slot_name final o.vreg.number)) free),
    gets.there,
  )

  found_stays : (o : OperandValue) (p : Place) (old new : SpillSlotsValue) → FindsDefined o p old new → SlotsStay old new
  found_stays o p old new (held r fixed at same) = same_stay old new same
  found_stays o p old new (in_slot free gets temps) = gives_stay old new o.vreg p gets

  store_stays : (o : OperandValue) (v : VirtualRegister) (m : StoreMove) (old new : SpillSlotsValue) → FindsStore o v m old new → SlotsStay old new
  store_stays o v m old new h n k is = gives_stay h.middle new v m.to h.slot n k (found_stays o m.from old h.middle h.from n k is)

  store_fits : (d : StoredDef) (m : StoreMove) (old new : SpillSlotsValue) → FindsStore (op_at operands d.index) d.to m old new → SlotsStay new final →
      MovesValue operands final d m
  store_fits d m old new h stay =
      let p = place_found (op_at operands d.index) m.from old h.middle h.from (λ n k is. stay n k (gives_stay h.middle new d.to m.to h.slot n k is)) in record {
        from = p.0;
        there = p.1;
        to = gets_spillslot_stays h.middle new final d.to m.to h.slot stay;
        slot = real_slot new.count m.to h.slot.below h.slot.there;
        class = h.class;
      }

  -- each move that is found fits
  stores_fit : (ds : List StoredDef) (old : SpillSlotsValue) (k : ℕ) (ms : List StoreMove) (s : SpillSlotsValue) → FindsStores operands ds old k ms s →
      SlotsStay s final → (length ms ≡ k) × ((i : ℕ) → i < k → MovesValue operands final (store_at ds i) (store_move_at ms i))
  stores_fit ds old k ms s none_found stay = (refl, λ i lt. absurd (omega (arith, lt)))
  stores_fit ds old k ms s (one_found j ns m r t lt prev one) stay =
      let here = stores_fit ds old j ns r prev (λ n x is. stay n x (store_stays (op_at operands (store_at ds j).index) (store_at ds j).to m r s one n x is)) in
      let long : length ns ≡ j = here.0 in
      let more = length_more ns m in (
        omega (arith, long, more),
        λ i less. elim (cases_eq i j) [
          | inl e ↦ subst (λ x. MovesValue operands final (store_at ds x) (store_move_at (ns ++ m ∷ []) x)) (sym e)
              (subst (MovesValue operands final (store_at ds j)) (sym (at_last ns m j (sym long))) (store_fits (store_at ds j) m r s one stay))
          | inr ne ↦ subst (MovesValue operands final (store_at ds i)) (sym (at_sooner ns m i (omega (arith, less, ne, long)))) (here.1 i (omega (arith, less, ne)))
        ],
      )

-- slots are made only for the vregs that are concerned
place_made : (P : VirtualRegister → Type 0) (operands : List OperandValue) (j : ℕ) (p : Place) (old m n : SpillSlotsValue) → P (op_at operands j).vreg →
    GetsSlots P old m → FindsDefined (op_at operands j) p m n → GetsSlots P old n
place_made P operands j p old m n concerned prev (held q fixed at same) = subst (GetsSlots P old) (sym same) prev
place_made P operands j p old m n concerned prev (in_slot free gets temps) = one_slot (op_at operands j).vreg p m n prev concerned gets temps

gets_slots_made : (P : VirtualRegister → Type 0) (operands : List OperandValue) (ds : List StoredDef) (old : SpillSlotsValue) →
    ((i : ℕ) → i < length ds → P (op_at operands (store_at ds i).index).vreg × P (store_at ds i).to) → (k : ℕ) (ms : List StoreMove) (s : SpillSlotsValue) →
    FindsStores operands ds old k ms s → GetsSlots P old s
gets_slots_made P operands ds old each k ms s none_found = no_slot
gets_slots_made P operands ds old each k ms s (one_found j ns m r t lt prev one) =
    one_slot (store_at ds j).to m.to one.middle s (place_made P operands (store_at ds j).index m.from old r one.middle (each j lt).0
    (gets_slots_made P operands ds old each j ns r prev) one.from) (each j lt).1 one.slot one.temps

-- no moves are found without making a slot
no_slots_made : (f : FunctionValue) (e : ℕ) (t : StateValue) (ds : List StoredDef) (n : ℕ) (ns : List StoreMove) (z : SpillSlotsValue) →
    FindsStores (branch_operands f e) ds t.slots n ns z → n ≡ 0 → z ≡ t.slots
no_slots_made f e t ds n ns z none_found few = refl
no_slots_made f e t ds n ns z (one_found j os m x y lt prev one) few = absurd (omega (arith, few))

-- What is made of moves doesn't depend on slots and edits.
made_on : (t : StateValue) (s : SpillSlotsValue) (es : List (ℕ × MoveValue)) (from_stack : Bool) (ms : List StoreMove) (ss : List Store) →
    AreMadeOf (record t { slots = s; edits = es }) from_stack ms ss → AreMadeOf t from_stack ms ss
made_on t s es from_stack ms ss none_made = none_made
made_on t s es from_stack ms ss (passed_over m ns ts is rest) = passed_over m ns ts is (made_on t s es from_stack ns ts rest)
made_on t s es from_stack ms ss (one_made m x ns ts is made rest) = one_made m x ns ts is (record {
  from = made.from;
  to = made.to;
  direct = made.direct;
  by_way = record {
    direct = made.by_way.direct;
    through = λ q e. (let r = made.by_way.through q e in (
      r.0,
      r.1,
      elim r.2 [
        | inl own ↦ inl own
        | inr may ↦ inr (record { of_class = may.of_class; small = may.small; allocatable = may.allocatable })
      ],
    ));
  };
}) (made_on t s es from_stack ns ts rest)

module _ (t : StateValue) (apart : RegsAvoidStack t) where
  abbrev Memory : Place → Bool
  Memory = is_on_stack t.fixed_stack

  -- each store is made of a move from a place of the kind
  made_of : (fm : Bool) (ms : List StoreMove) (ss : List Store) → AreMadeOf t fm ms ss → (x : Store) → IsOneOf x ss →
      (i : ℕ) × (i < length ms) × (Memory (store_move_at ms i).from ≡ fm) × IsMadeOf t (store_move_at ms i) x
  made_of fm ms ss none_made x none = elim none [ ]
  made_of fm ms ss (passed_over m ns ts is rest) x one = (let r = made_of fm ns ts rest x one in let lt = r.1 in (suc r.0, omega (arith, lt), r.2, r.3))
  made_of fm ms ss (one_made m s ns ts is made rest) x (first e) = (0, omega arith, is, subst (IsMadeOf t m) e made)
  made_of fm ms ss (one_made m s ns ts is made rest) x (later one) =
      (let r = made_of fm ns ts rest x one in let lt = r.1 in (suc r.0, omega (arith, lt), r.2, r.3))

  -- each move from a place of the kind makes a store
  makes_one : (fm : Bool) (ms : List StoreMove) (ss : List Store) → AreMadeOf t fm ms ss → (i : ℕ) → i < length ms → Memory (store_move_at ms i).from ≡ fm →
      (x : Store) × IsOneOf x ss × IsMadeOf t (store_move_at ms i) x
  makes_one fm ms ss none_made i lt from = absurd (omega (arith, lt))
  makes_one fm ms ss (passed_over m ns ts is rest) zero lt from = absurd (opposite fm (sym from ∙ is))
    where
      opposite : (b : Bool) → b ≡ not b → ⊥
      opposite true e = cc
      opposite false e = cc
  makes_one fm ms ss (passed_over m ns ts is rest) (suc i) lt from = makes_one fm ns ts rest i (omega (arith, lt)) from
  makes_one fm ms ss (one_made m s ns ts is made rest) zero lt from = (s, first refl, made)
  makes_one fm ms ss (one_made m s ns ts is made rest) (suc i) lt from =
      (let r = makes_one fm ns ts rest i (omega (arith, lt)) from in (r.0, later r.1, r.2))

  -- two moves that don't meet: they go to different places, and neither starts where the other goes
  abbrev Separate : StoreMove → StoreMove → Type 0
  Separate m n = (m.to ≢ n.to) × (n.from ≢ m.to)

  empty_order : AreInOrder Memory []
  unfolding AreInOrder
  empty_order = tt

  -- where moves go to the stack and don't meet, what is made of them is in order, with more behind it
  in_order : (fm : Bool) (ms : List StoreMove) (ss : List Store) → AreMadeOf t fm ms ss → ((i : ℕ) → i < length ms → Memory (store_move_at ms i).to ≡ true) →
      ((i j : ℕ) → i < length ms → j < length ms → i ≢ j → Separate (store_move_at ms i) (store_move_at ms j)) → (rest : List Store) → AreInOrder Memory rest →
      ((x : Store) → IsOneOf x rest → (fm ≡ false) × ((i : ℕ) → i < length ms → Memory (store_move_at ms i).from ≡ fm →
      ((store_move_at ms i).to ≢ x.to) × (x.from ≢ (store_move_at ms i).to))) → AreInOrder Memory (ss ++ rest)
  unfolding AreInOrder
  in_order fm ms ss none_made to separate rest order behind = order
  in_order fm ms ss (passed_over m ns ts is more) to separate rest order behind =
      in_order fm ns ts more (λ i lt. to (suc i) (omega (arith, lt)))
      (λ i j li lj ne. separate (suc i) (suc j) (omega (arith, li)) (omega (arith, lj)) (λ e. ne (omega (arith, e)))) rest order
      (λ x one. ((behind x one).0, λ i lt from. (behind x one).1 (suc i) (omega (arith, lt)) from))
  in_order fm ms ss (one_made m s ns ts is made more) to separate rest order behind = (
    ap Memory made.to ∙ to 0 (omega arith),
    λ q by. (let r = made.by_way.through q by in (
      ap Memory r.1 ∙ elim r.2 [ inl own ↦ apart.dedicated_scratch m.class r.0 own | inr may ↦ apart.allocatable r.0 may.allocatable ],
      λ none. (let y : InRegister r.0 ≡ NoPlace = sym r.1 ∙ none in cc),
    )),
    λ x one. elim (one_of_append x ts rest one) [
      | inl here ↦ (
          let o = made_of fm ns ts more x here in
          let lt = o.1 in
          let sep = separate 0 (suc o.0) (omega arith) (omega (arith, lt)) (λ e. (let z : 0 ≡ suc o.0 = e in omega (arith, z))) in (
            λ e. sep.0 (sym made.to ∙ e ∙ o.3.to),
            λ e. sep.1 (sym o.3.from ∙ e ∙ made.to),
            λ q by. ap Memory o.3.from ∙ o.2 ∙ by_memory q by,
          ))
      | inr there ↦ (
          let b = behind x there in
          let sep = b.1 0 (omega arith) is in (
            λ e. sep.0 (sym made.to ∙ e),
            λ e. sep.1 (e ∙ made.to),
            λ q by. (let y : true ≡ false = sym (by_memory q by) ∙ b.0 in absurd cc),
          ))
    ],
    in_order fm ns ts more (λ i lt. to (suc i) (omega (arith, lt)))
        (λ i j li lj ne. separate (suc i) (suc j) (omega (arith, li)) (omega (arith, lj)) (λ e. ne (omega (arith, e)))) rest order
        (λ x one. ((behind x one).0, λ i lt from. (behind x one).1 (suc i) (omega (arith, lt)) from)),
  )
    where
      -- a store that goes by way of a register is from the stack
      by_memory : (q : Place) → s.by ≡ Some q → fm ≡ true
      by_memory q by = elim (cases_Bool (Memory m.from)) [
        | inl yes_memory ↦ sym is ∙ yes_memory
        | inr none ↦ (let x : None ≡ Some q = sym (made.direct none) ∙ by in absurd cc)
      ]

-- The edge k of the block e into the block b, and what is stored on it: the definitions that are listed from the tables
-- t, the moves that are made of them, and the slots then, each of one number.
pub record EdgeStores : Type 0 where
  pub f : FunctionValue
  pub may : MayBeAllocated f
  pub b : ℕ
  pub e : ℕ
  pub k : ℕ
  pub edge : IsEdgeInto f b e k
  pub t : StateValue
  pub apart : RegsAvoidStack t
  pub ds : List StoredDef
  pub lists : ListsStores f e k t.slots ds
  pub ms : List StoreMove
  pub s : SpillSlotsValue
  pub finds : FindsStores (branch_operands f e) ds t.slots (length ds) ms s
  pub own : NoSlotIsShared s

abbrev pub edge_stores : (f : FunctionValue) → MayBeAllocated f → (b e k : ℕ) → IsEdgeInto f b e k → (t : StateValue) → RegsAvoidStack t →
    (ds : List StoredDef) →
    ListsStores f e k t.slots ds → (ms : List StoreMove) (s : SpillSlotsValue) → FindsStores (branch_operands f e) ds t.slots (length ds) ms s →
    NoSlotIsShared s → EdgeStores
edge_stores f may b e k edge t apart ds lists ms s finds own = record {
  f = f;
  may = may;
  b = b;
  e = e;
  k = k;
  edge = edge;
  t = t;
  apart = apart;
  ds = ds;
  lists = lists;
  ms = ms;
  s = s;
  finds = finds;
  own = own;
}

module _ (at_edge : EdgeStores) where
  open at_edge use {f, may, b, e, k, edge, t, apart, ds, lists, ms, s, finds, own}

  ok : IsWellFormed may.0 f
  ok = may.1

  fit : (length ms ≡ length ds) × ((i : ℕ) → i < length ds → MovesValue (branch_operands f e) s (store_at ds i) (store_move_at ms i))
  fit = stores_fit (branch_operands f e) s ds t.slots (length ds) ms s finds (λ n i is. is)

  long : length ms ≡ length ds
  long = fit.0

  fits : (i : ℕ) → i < length ms → MovesValue (branch_operands f e) s (store_at ds i) (store_move_at ms i)
  fits i lt = fit.1 i (let l = long in omega (arith, lt, l))

  is_stored : (i : ℕ) → i < length ms → IsStoredFor f e k t.slots (store_at ds i).index (store_at ds i).to
  is_stored i lt = lists.each i no_store (let l = long in omega (arith, lt, l))

  defines_at : (n j : ℕ) → DefinesNumber (branch_operands f e) n j → IsDefOperand f n (last_of (block_at f e)) j
  defines_at n j d = record { inst = last_within f ok.follow e edge.block; operand = d.operand; definition = d.definition; number = d.number }

  to_memory : (i : ℕ) → i < length ms → is_on_stack t.fixed_stack (store_move_at ms i).to ≡ true
  to_memory i lt = ap (is_on_stack t.fixed_stack) (fits i lt).slot.1

  -- what is in its own slot isn't stored for that vreg
  not_own : (i j : ℕ) (v : VirtualRegister) → IsStoredFor f e k t.slots i v → DefinesNumber (branch_operands f e) (op_at (branch_operands f e)
      j).vreg.number j →
      fixed_definition (op_at (branch_operands f e) j) ≡ None → (op_at (branch_operands f e) j).vreg.number ≡ v.number → ⊥
  not_own i j v (its_own stored is) d free same =
      let d2 = stored_defines f e k t.slots i v (its_own stored is) in
      let number : (op_at (branch_operands f e) i).vreg.number ≡ v.number = ap (λ (w : VirtualRegister). w.number) is in
      let one = (one_operand f ok.defined_once v.number (last_of (block_at f e)) (last_of (block_at f e)) i j
      (defines_at v.number i (record { operand = d2.operand; definition = d2.definition; number = number }))
      (defines_at v.number j (record { operand = d.operand; definition = d.definition; number = same }))).1 in
      let fixed : IsSome (fixed_definition (op_at (branch_operands f e) j)) = subst (λ x. IsSome (fixed_definition (op_at (branch_operands f e) x))) one
      stored.fixed in
      absurd (no_some (fixed_definition (op_at (branch_operands f e) j)) free fixed)
    where
      no_some : (o : Option Register) → o ≡ None → IsSome o → ⊥
      no_some None e h = cc
      no_some (Some r) e h = cc
  not_own i j v (given n lt is x has) d free same =
      not_both f ok.defined_once v.number (last_of (block_at f e)) j _ n
      (defines_at v.number j (record { operand = d.operand; definition = d.definition; number = same }))
      (record { block = (well_formed_are_sound may.0 f ok).targets e k edge.edge; param = lt; number = ap (λ (w : VirtualRegister). w.number) is })

  -- the moves don't meet
  separate : (i j : ℕ) → i < length ms → j < length ms → i ≢ j → Separate t apart (store_move_at ms i) (store_move_at ms j)
  separate i j li lj ne = (
    λ same. (
        let n = (fits i li).slot in
        let number = own (store_at ds i).to.number (store_at ds j).to.number n.0 ((fits i li).to ∙ n.1) ((fits j lj).to ∙ sym same ∙ n.1) in
        let two = two_for (store_at ds j).to.number ds i j ne (let l = long in omega (arith, li, l)) (let l = long in omega (arith, lj, l)) number refl in
        let once = lists.once (store_at ds j).to.number in omega (arith, two, once)),
    λ same. elim (by_fixed (fixed_definition (op_at (branch_operands f e) (store_at ds j).index)) refl) [
      | inl r ↦ (let n = (fits i li).slot in
          let x : InRegister r.0 ≡ InSlot n.0 = sym (from_by (Some r.0) r.1) ∙ sym (fits j lj).from ∙ same ∙ n.1 in cc)
      | inr free ↦ (
          let n = (fits i li).slot in
          let at : slot_name s (op_at (branch_operands f e) (store_at ds j).index).vreg.number ≡ InSlot n.0
          = sym (from_by None free) ∙ sym (fits j lj).from ∙ same ∙ n.1 in
          let number = own (op_at (branch_operands f e) (store_at ds j).index).vreg.number (store_at ds i).to.number n.0 at ((fits i li).to ∙ n.1) in
          not_own (store_at ds i).index (store_at ds j).index (store_at ds i).to (is_stored i li)
          (stored_defines f e k t.slots (store_at ds j).index (store_at ds j).to (is_stored j lj)) free number)
    ],
  )
    where
      by_fixed : (o : Option Register) → fixed_definition (op_at (branch_operands f e) (store_at ds j).index) ≡ o →
          ((r : Register) × (fixed_definition (op_at (branch_operands f e) (store_at ds j).index) ≡ Some r))
          ⊎ (fixed_definition (op_at (branch_operands f e) (store_at ds j).index) ≡ None)
      by_fixed (Some r) is = inl (r, is)
      by_fixed None is = inr is

      from_by : (o : Option Register) → fixed_definition (op_at (branch_operands f e) (store_at ds j).index) ≡ o →
          defined_place s (op_at (branch_operands f e) (store_at ds j).index)
          ≡ fixed_or_slot o (slot_name s (op_at (branch_operands f e) (store_at ds j).index).vreg.number)
      from_by o is = ap (λ x. fixed_or_slot x (slot_name s (op_at (branch_operands f e) (store_at ds j).index).vreg.number)) is

  -- the vregs that are concerned get slots
  gets_slots_got : GetsSlots (IsConcerned f e k) t.slots s
  gets_slots_got = gets_slots_made (IsConcerned f e k) (branch_operands f e) ds t.slots (λ i lt.
      let stored : IsStoredFor f e k t.slots (store_at ds i).index (store_at ds i).to = lists.each i no_store lt in (
        inl ((store_at ds i).index, stored_defines f e k t.slots (store_at ds i).index (store_at ds i).to stored, refl),
        stored_concerned f e k t.slots (store_at ds i).index (store_at ds i).to stored,
      )) (length ds) ms s finds

  -- a store that is made of a move is for the move's vreg
  is_for_vreg : (w : StateValue) → w.slots ≡ s → (i : ℕ) → i < length ms → (x : Store) → IsMadeOf t (store_move_at ms i) x →
      StoresFor f e k t w x (store_at ds i).index (store_at ds i).to
  is_for_vreg w same i lt x made =
      let h = fits i lt in record {
        stored = is_stored i lt;
        from = made.from ∙ h.from ∙ ap (λ z. defined_place z (op_at (branch_operands f e) (store_at ds i).index)) (sym same);
        there = λ none. h.there (sym made.from ∙ none);
        to = ap (λ z. slot_name z (store_at ds i).to.number) same ∙ h.to ∙ sym made.to;
        by_way = subst (λ c. IsByWay t c x) h.class made.by_way;
      }

  -- where nothing is stored, no slot is made
  slots_idle : ((j : ℕ) (v : VirtualRegister) → IsStoredFor f e k t.slots j v → ⊥) → s ≡ t.slots
  slots_idle none = by_list ds refl
    where
      by_list : (xs : List StoredDef) → ds ≡ xs → s ≡ t.slots
      by_list (x ∷ xs) is = absurd (none (store_at ds 0).index (store_at ds 0).to (lists.each 0 no_store (let l = ap length is in omega (arith, l))))
      by_list [] is = no_slots_made f e t ds (length ds) ms s finds (ap length is)

  -- The moves, pushed with the ones from the stack first, are the stores on the edge.
  pub stores_on : {point : ℕ} → SameMachine t (record t { slots = s }) → {u w : StateValue} → PushesStores point true ms (record t { slots = s }) u →
      PushesStores point false ms u w → StoresOn f e k point t w
  stores_on {point} machine {u} {w} p q = record {
    stores = q.stores ++ p.stores;
    in_order = in_order t apart false ms q.stores from_registers to_memory separate p.stores order_memory
        (λ x one. (
          refl,
          λ i lt from.
              let o = made_of t apart true ms p.stores from_stack x one in
              let sep = separate i o.0 lt o.1 (λ same. (
              let z : is_on_stack t.fixed_stack (store_move_at ms o.0).from ≡ false = subst (λ y. is_on_stack t.fixed_stack (store_move_at ms y).from ≡ false) same from in
              let zz : true ≡ false = sym o.2 ∙ z in cc)) in
              (λ e. sep.0 (e ∙ o.3.to), λ e. sep.1 (sym o.3.from ∙ e)),
        ));
    each = λ x one. elim (one_of_append x q.stores p.stores one) [
      | inl r ↦ (let o = made_of t apart false ms q.stores from_registers x r in
          ((store_at ds o.0).index, (store_at ds o.0).to, is_for_vreg w slots_are o.0 o.1 x o.3))
      | inr m ↦ (let o = made_of t apart true ms p.stores from_stack x m in
          ((store_at ds o.0).index, (store_at ds o.0).to, is_for_vreg w slots_are o.0 o.1 x o.3))
    ];
    all = λ j v stored. (
        let c = lists.all j v stored in
        let lt : c.0 < length ms = (let less = c.1 in let l = long in omega (arith, less, l)) in
        let is : store_at ds c.0 ≡ record { index = j; to = v } = listed_at ds c.0 (record { index = j; to = v }) c.1 c.2 in
        subst (λ (d : StoredDef). (x : Store) × IsOneOf x (q.stores ++ p.stores) × StoresFor f e k t w x d.index d.to) is
        (elim (cases_Bool (is_on_stack t.fixed_stack (store_move_at ms c.0).from)) [
          | inl memory ↦ (let o = makes_one t apart true ms p.stores from_stack c.0 lt memory in
              (o.0, of_second o.0 q.stores p.stores o.1, is_for_vreg w slots_are c.0 lt o.0 o.2))
          | inr none ↦ (let o = makes_one t apart false ms q.stores from_registers c.0 lt none in
              (o.0, of_first o.0 q.stores p.stores o.1, is_for_vreg w slots_are c.0 lt o.0 o.2))
        ]));
    slots = subst (GetsSlots (IsConcerned f e k) t.slots) (sym slots_are) gets_slots_got;
    idle = λ none. slots_are ∙ slots_idle none;
    places = ap (λ (z : StateValue). z.places) after_both;
    edits = ap (λ (z : StateValue). z.edits) after_both ∙ append_assoc t.edits (pushed_moves point (store_moves p.stores)) (pushed_moves point (store_moves
        q.stores))
        ∙ ap (λ l. t.edits ++ l) (sym (ap (pushed_moves point) (store_moves_append q.stores p.stores) ∙ pushed_append point (store_moves q.stores) (store_moves
        p.stores)));
    machine = subst (SameMachine t) (sym after_both) (record {
      allocatable = refl;
      fixed_stack = refl;
      dedicated_scratch = refl;
      sizes = machine.sizes;
      vregs = machine.vregs;
      num_temp_slots = machine.num_temp_slots;
    });
    lrus = ap (λ (z : StateValue). z.lrus) after_both;
  }
    where
      after_memory : u ≡ record t { slots = s; edits = t.edits ++ pushed_moves point (store_moves p.stores) }
      after_memory = p.pushed

      after_both : w ≡ record t { slots = s; edits = (t.edits ++ pushed_moves point (store_moves p.stores)) ++ pushed_moves point (store_moves q.stores) }
      after_both = q.pushed ∙ ap (λ (z : StateValue). record z { edits = z.edits ++ pushed_moves point (store_moves q.stores) }) after_memory

      slots_are : w.slots ≡ s
      slots_are = ap (λ (z : StateValue). z.slots) after_both

      from_stack : AreMadeOf t true ms p.stores
      from_stack = made_on t s t.edits true ms p.stores p.made

      from_registers : AreMadeOf t false ms q.stores
      from_registers = made_on t s (t.edits ++ pushed_moves point (store_moves p.stores)) false ms q.stores
          (subst (λ (z : StateValue). AreMadeOf z false ms q.stores) after_memory q.made)

      order_memory : AreInOrder (is_on_stack t.fixed_stack) p.stores
      order_memory = subst (AreInOrder (is_on_stack t.fixed_stack)) (append-nil p.stores)
          (in_order t apart true ms p.stores from_stack to_memory separate [] (empty_order t apart) (λ x none. elim none [ ]))

      listed_at : (xs : List StoredDef) (i : ℕ) (d : StoredDef) → i < length xs → slice_index_or xs i d ≡ d → store_at xs i ≡ d
      listed_at [] i d lt is = absurd (omega (arith, lt))
      listed_at (x ∷ xs) zero d lt is = is
      listed_at (x ∷ xs) (suc i) d lt is = listed_at xs i d (omega (arith, lt)) is

  -- Where a class lacks a register for one of the moves, the stores fail by that.
  pub stores_lack : LacksStoreReg t ms → StoreBranchDefs f b t no_register
  stores_lack h = (
      let lt : h.1.0 < length ms = h.1.1 in
      let is : store_move_at ms h.1.0 ≡ h.0 = move_is ms h.1.0 h.0 h.1.1 h.1.2 in record {
        from = e;
        position = k;
        index = (store_at ds h.1.0).index;
        vreg = (store_at ds h.1.0).to;
        edge = edge;
        stored = is_stored h.1.0 lt;
        none = subst (λ c. NoneIsFrom t.allocatable c 0) (sym (ap (λ (m : StoreMove). m.class) is) ∙ (fits h.1.0 lt).class) h.2;
      })
    where
      move_is : (xs : List StoreMove) (i : ℕ) (d : StoreMove) → i < length xs → slice_index_or xs i d ≡ d → store_move_at xs i ≡ d
      move_is [] i d lt is = absurd (omega (arith, lt))
      move_is (x ∷ xs) zero d lt is = is
      move_is (x ∷ xs) (suc i) d lt is = move_is xs i d (omega (arith, lt)) is
