-- What holds at the walk's end, for operands under every constraint but `Limit`.
use Rattle.regalloc2_parts.proofs.Resolving.{All-reversed}
use Rattle.std.proofs.Common.{ℕ, ◌≡◌, ◌≢◌, ◌+◌, ◌-◌, ◌<◌, ◌≤◌, ⊎_elim, inl, inr, true, false, cond, List, length, drop, reverse, refl, sym, ap, ◌∙◌}
use Rattle.std.proofs.Common.{subst, arith, nat_eq, eq-eqb, slice_index_or, slice_index}
use Rattle.std.specs.Prelude.{All, Any as SomeIn, Some, sum_by}
use Rattle.std.specs.List.Sorted.{IsNonDecreasingBy}
use Rattle.std.proofs.lemmas.Bool.{ne_eqb, cases_eq}
use Rattle.std.proofs.lemmas.List.{get_or-take, get_or-drop, take_all}
use Rattle.std.proofs.lemmas.List.Elements.{All-contains}
use Rattle.std.proofs.lemmas.List.Sums.{sum_by-take-le}
use Rattle.regalloc2_names.specs.declared.OperandConstraint.{OperandConstraint}
use Rattle.regalloc2_names.specs.declared.OperandConstraint.TheVariants.{Any, Reg, Stack, FixedReg, Reuse, Limit}
use Rattle.regalloc2_names.specs.declared.RegClass.{RegClass}
use Rattle.regalloc2_names.specs.Register.{Register, VirtualRegister, invalid_register}
use Rattle.regalloc2_names.specs.Place.{Place, NoPlace, InRegister, InSlot}
use Rattle.regalloc2_names.specs.Operand.{OperandValue}
use Rattle.regalloc2_function.specs.FunctionValue.{FunctionValue, inst_at, operand_count, op_at}
use Rattle.regalloc2_function.specs.Machine.{MachineValue, is_allocatable, scratch_of, IsFixedStackSlot}
use Rattle.regalloc2_function.specs.OutputValue.{OutputValue, DebugLocation, MoveValue, IsInOrder, alloc_end, allocs_of, place_at}
use Rattle.regalloc2_semantics.specs.Debug.{IsKept}
use Rattle.regalloc2_semantics.specs.Faithful.{ConstraintsMet, IsStackToStack, Meets}
use Rattle.regalloc2_function.specs.Fitting.{MachineFits}
use Rattle.regalloc2_semantics.specs.Places.{PlacesAreValid, IsValidPlace, IsMoveEnd}
use Rattle.regalloc2_fastalloc_proofs.specs.InstSteps.{StateValue}
use Rattle.regalloc2_fastalloc_proofs.specs.Safety.{MayBeLocatedAt, IsEndOfMove, IsEndOfArgMove, IsSafeEdit}
use Rattle.regalloc2_fastalloc_state.specs.StateParts.{SpillSlotsValue, IsSlotOrNone, slot_name, PointsDescend}
use Rattle.regalloc2_fastalloc_proofs.specs.BlockSteps.{offset_of}
use Rattle.regalloc2_fastalloc_state.proofs.PointsDescend.{rising_reverse}
use Rattle.regalloc2_fastalloc_proofs.proofs.Operands.AllocsSoFar.{MeetsByItself, IsGood}
use Rattle.regalloc2_fastalloc_proofs.proofs.Safety.StepsKeepSafe.{AreKindsApart}
use Rattle.regalloc2_fastalloc_proofs.proofs.Safety.InstsKeepSafe.{WalkKept, WritesFrom, offset_next, offset_rises}

-- the machine's kinds of registers are disjoint
pub machine_apart : (f : FunctionValue) (env : MachineValue) → MachineFits f env → AreKindsApart env
machine_apart f env fits = record {
  slots = λ r allowed is. (let apart = at_slot r.class r is in let nay : is_allocatable env r.class r ≡ false = apart.0 in cc);
  scratch = λ c r own is. (at_slot c r is).1 own;
}
  where
    at_slot : (c : RegClass) (r : Register) → IsFixedStackSlot env r → (is_allocatable env c r ≡ false) × (scratch_of env c ≡ Some r → ⊥)
        × (r ≡ invalid_register → ⊥)
    at_slot c r is = All-contains (λ (q : Register). (is_allocatable env c q ≡ false) × (scratch_of env c ≢ Some q) × (q ≢ invalid_register))
        env.fixed_stack_slots r (fits c).slots_apart is

-- a debug location is that of a kept label, and is a place where the label's vreg may be
abbrev pub IsOfLabel : FunctionValue → MachineValue → (VirtualRegister → Type 0) → SpillSlotsValue → DebugLocation → Type 0
IsOfLabel f env Known slots d = SomeIn (λ l. (l.label ≡ d.label) × IsKept f l d.start d.end × Known l.vreg × MayBeLocatedAt env slots l.vreg d.place) f.labels

-- an output that is made of the walk's tables
pub record IsOutputOfWalk (f : FunctionValue) (env : MachineValue) (Known : VirtualRegister → Type 0) (May : ℕ → Type 0) (t : StateValue)
    (o : OutputValue) : Type 0 where
  pub count : o.num_spillslots ≡ t.slots.count
  pub edits : o.edits ≡ reverse t.edits
  pub falling : PointsDescend t.edits
  pub long : length o.offsets ≡ length f.insts
  pub offsets : (i : ℕ) → i < length f.insts → slice_index o.offsets i ≡ offset_of f i
  pub allocs_long : length o.allocs ≡ operand_count f
  pub debug : All (IsOfLabel f env Known t.slots) o.debug_locations
  pub kept : WalkKept env Known f May o.allocs 0 0 o.allocs t

all_weaker : {X : Type 0} (P Q : X → Type 0) (xs : List X) → ((x : X) → P x → Q x) → All P xs → All Q xs
all_weaker P Q xs f h k d lt = f (slice_index_or xs k d) (h k d lt)

-- what holds of each move that was pushed holds of each that is listed
pub each_edit : (f : FunctionValue) (env : MachineValue) (Known : VirtualRegister → Type 0) (May : ℕ → Type 0) (t : StateValue) (o : OutputValue)
    (Q : ℕ × MoveValue → Type 0) → IsOutputOfWalk f env Known May t o
    → ((e : ℕ × MoveValue) → IsSafeEdit env Known (WritesFrom f o.allocs 0) t.slots May e → Q e) → All Q o.edits
each_edit f env Known May t o Q m g =
    subst (All Q) (sym m.edits) (All-reversed Q t.edits (all_weaker (IsSafeEdit env Known (WritesFrom f o.allocs 0) t.slots May) Q t.edits g m.kept.safe.edits))

-- the list of all operands' places ends behind the last instruction
last_offset : (f : FunctionValue) (n : ℕ) → n ≡ length f.insts → offset_of f n ≡ operand_count f
last_offset f n e = ap (sum_by (λ i. length i.operands)) (take_all n f.insts (omega arith))

offset_within : (f : FunctionValue) (i : ℕ) → offset_of f i ≤ operand_count f
offset_within f i = sum_by-take-le (λ n. length n.operands) f.insts i

-- where an instruction's places end, the next one's begin
end_is : (f : FunctionValue) (env : MachineValue) (Known : VirtualRegister → Type 0) (May : ℕ → Type 0) (t : StateValue) (o : OutputValue) →
    IsOutputOfWalk f env Known May t o → (i : ℕ) → i < length f.insts → alloc_end o i ≡ offset_of f (i + 1)
end_is f env Known May t o m i lt = ⊎_elim
    (λ (e : i + 1 ≡ length f.insts).
    let last : nat_eq (i + 1) (length o.offsets) ≡ true = eq-eqb (i + 1) (length o.offsets) (e ∙ sym m.long) in
    ap (λ b. cond b (length o.allocs) (slice_index o.offsets (i + 1))) last ∙ m.allocs_long ∙ sym (last_offset f (i + 1) e))
    (λ (d : i + 1 ≢ length f.insts).
    let other : nat_eq (i + 1) (length o.offsets) ≡ false = ne_eqb (i + 1) (length o.offsets) (λ e. d (e ∙ m.long)) in
    ap (λ b. cond b (length o.allocs) (slice_index o.offsets (i + 1))) other ∙ m.offsets (i + 1) (omega arith))
    (cases_eq (i + 1) (length f.insts))

end_is_no_place : (env : MachineValue) (s : SpillSlotsValue) (v : VirtualRegister) (p : Place) → IsEndOfMove env s v p → p ≢ NoPlace
end_is_no_place env s v NoPlace h = absurd h
end_is_no_place env s v (InRegister r) h = λ e. cc
end_is_no_place env s v (InSlot k) h = λ e. cc

pass_is_no_place : (env : MachineValue) (s : SpillSlotsValue) (class : RegClass) (p : Place) → IsEndOfArgMove env s class p → p ≢ NoPlace
pass_is_no_place env s class NoPlace h = absurd h
pass_is_no_place env s class (InRegister r) h = λ e. cc
pass_is_no_place env s class (InSlot k) h = λ e. cc

-- an output made of the final state is well-ordered: one offset for each instruction, edits by rising points, both ends
-- of each a place
pub made_in_order : (f : FunctionValue) (env : MachineValue) (Known : VirtualRegister → Type 0) (May : ℕ → Type 0) (t : StateValue) (o : OutputValue) →
    IsOutputOfWalk f env Known May t o → IsInOrder f o
made_in_order f env Known May t o m = record {
  one_offset_each = m.long;
  offsets = record {
    begins = λ some. m.offsets 0 (omega (arith, some, m.long));
    rises = λ i lt. let a = m.offsets i (omega (arith, lt, m.long)) in let b = end_is f env Known May t o m i (omega (arith, lt, m.long)) in let r =
        offset_rises f i 1 (omega (arith, lt, m.long)) in omega (arith, a, b, r);
    within = λ i lt. let a = m.offsets i (omega (arith, lt, m.long)) in let w = offset_within f i in omega (arith, a, w, m.allocs_long);
  };
  no_more_than_operands = λ i lt. let a = m.offsets i lt in let b = end_is f env Known May t o m i lt in let n = offset_next f i lt in omega (arith, a, b, n);
  points_never_fall = subst (IsNonDecreasingBy (λ e. e.0)) (sym m.edits) (rising_reverse t.edits m.falling);
  moves_name_places = each_edit f env Known May t o (λ e. (e.1.from ≢ NoPlace) × (e.1.to ≢ NoPlace)) m (λ e s. elim s.moves [
    | inl v ↦ (end_is_no_place env t.slots v.vreg e.1.from v.from, end_is_no_place env t.slots v.vreg e.1.to v.to)
    | inr a ↦ (pass_is_no_place env t.slots a.class e.1.from a.from, pass_is_no_place env t.slots a.class e.1.to a.to)
  ]);
}

-- the place of an operand
pub place_is : (f : FunctionValue) (env : MachineValue) (Known : VirtualRegister → Type 0) (May : ℕ → Type 0) (t : StateValue) (o : OutputValue) →
    IsOutputOfWalk f env Known May t o → (i : ℕ) → i < length f.insts → (k : ℕ) → k < length (inst_at f i).operands
    → place_at (allocs_of o i) k ≡ slice_index_or o.allocs (offset_of f i + k) NoPlace
place_is f env Known May t o m i lt k less =
    let a : slice_index o.offsets i ≡ offset_of f i = m.offsets i lt in
    let b = end_is f env Known May t o m i lt in
    let n = offset_next f i lt in
    get_or-take (alloc_end o i - slice_index o.offsets i) (drop (slice_index o.offsets i) o.allocs) k NoPlace (omega (arith, a, b, n, less))
    ∙ get_or-drop (slice_index o.offsets i) o.allocs k NoPlace ∙ ap (λ (j : ℕ). slice_index_or o.allocs (j + k) NoPlace) a

-- the place of an operand is good
pub operand_good : (f : FunctionValue) (env : MachineValue) (Known : VirtualRegister → Type 0) (May : ℕ → Type 0) (t : StateValue) (o : OutputValue) →
    IsOutputOfWalk f env Known May t o → (i : ℕ) → i < length f.insts → (k : ℕ) → k < length (inst_at f i).operands
    → IsGood env t.slots (op_at (inst_at f i).operands k) (place_at (allocs_of o i) k)
operand_good f env Known May t o m i lt k less = subst (IsGood env t.slots (op_at (inst_at f i).operands k)) (sym (place_is f env Known May t o m i lt k less))
    (m.kept.good i k (omega arith) lt less).good

-- what a constraint requires of the operand's own place, and of the place that a reuse shares
meets_all : (env : MachineValue) (count : ℕ) (places : List Place) (c : OperandConstraint) (p : Place) → MeetsByItself env c p →
    ((n : ℕ) → c ≡ Reuse n → (n < count) × (p ≡ place_at places n)) → Meets env count places c p
meets_all env count places Any p h s = λ e. h e
meets_all env count places Reg p h s = h
meets_all env count places Stack p h s = h
meets_all env count places (FixedReg r) p h s = h
meets_all env count places (Reuse n) NoPlace h s = absurd h
meets_all env count places (Reuse n) (InRegister r) h s = (tt, (s n refl).0, (s n refl).1)
meets_all env count places (Reuse n) (InSlot k) h s = absurd h
meets_all env count places (Limit n) p h s = absurd h

-- in an output made of the final state the place of every operand meets its constraint
pub made_constraints : (f : FunctionValue) (env : MachineValue) (Known : VirtualRegister → Type 0) (May : ℕ → Type 0) (t : StateValue) (o : OutputValue) →
    IsOutputOfWalk f env Known May t o → (i : ℕ) → i < length f.insts → ConstraintsMet f env o i
made_constraints f env Known May t o m i lt k less =
    let ops : List OperandValue = (inst_at f i).operands in
    let shared = (m.kept.good i k (omega arith) lt less).shared in
    meets_all env (length ops) (allocs_of o i) (op_at ops k).constraint (place_at (allocs_of o i) k) (operand_good f env Known May t o m i lt k less).meets
    (λ n is. let s = shared n is in (s.0, place_is f env Known May t o m i lt k less ∙ s.1 ∙ sym (place_is f env Known May t o m i lt n s.0)))

-- the slots below a count
abbrev pub AreBelow : SpillSlotsValue → ℕ → Type 0
AreBelow s count = (n : ℕ) → IsSlotOrNone count (slot_name s n)

own_below : (s : SpillSlotsValue) (count n k : ℕ) → AreBelow s count → slot_name s n ≡ InSlot k → k < count
own_below s count n k below e = subst (IsSlotOrNone count) e (below n)

-- each end of a move is valid
move_end : (env : MachineValue) (o : OutputValue) (s : SpillSlotsValue) (v : VirtualRegister) (p : Place) → AreBelow s o.num_spillslots →
    IsEndOfMove env s v p → IsMoveEnd env o p
move_end env o s v NoPlace below h = absurd h
move_end env o s v (InRegister r) below (inl (inl a, same)) = (r.class, inl (inl a))
move_end env o s v (InRegister r) below (inl (inr is, same)) = (r.class, inl (inr (is, refl)))
move_end env o s v (InRegister r) below (inr c) = (v.class, inr (r, c, refl))
move_end env o s v (InSlot k) below h = (v.class, inl (own_below s o.num_spillslots v.number k below h))

pass_end : (env : MachineValue) (o : OutputValue) (s : SpillSlotsValue) (class : RegClass) (p : Place) → s.count ≡ o.num_spillslots →
    IsEndOfArgMove env s class p → IsMoveEnd env o p
pass_end env o s class NoPlace count h = absurd h
pass_end env o s class (InRegister r) count (inl a) = (r.class, inl (inl a.0))
pass_end env o s class (InRegister r) count (inr own) = (class, inr (r, own, refl))
pass_end env o s class (InSlot k) count h = (class, inl (omega arith))

-- a place where a vreg may be is a valid place for its class, if slots are below the output's count
pub proper_place : (env : MachineValue) (o : OutputValue) (s : SpillSlotsValue) (v : VirtualRegister) (p : Place) → AreBelow s o.num_spillslots →
    MayBeLocatedAt env s v p → IsValidPlace env o v.class p
proper_place env o s v NoPlace below h = h
proper_place env o s v (InRegister r) below (inl a, same) = inl (subst (λ (c : RegClass). is_allocatable env c r ≡ true) same a)
proper_place env o s v (InRegister r) below (inr is, same) = inr (is, same)
proper_place env o s v (InSlot k) below h = own_below s o.num_spillslots v.number k below h

-- the slots of a made output
pub slots_below : (f : FunctionValue) (env : MachineValue) (Known : VirtualRegister → Type 0) (May : ℕ → Type 0) (t : StateValue) (o : OutputValue) →
    IsOutputOfWalk f env Known May t o → AreBelow t.slots o.num_spillslots
slots_below f env Known May t o m = subst (AreBelow t.slots) (sym m.count) m.kept.safe.slots

-- in an output made of the final state operands and moves have valid places
pub made_proper : (f : FunctionValue) (env : MachineValue) (Known : VirtualRegister → Type 0) (May : ℕ → Type 0) (t : StateValue) (o : OutputValue) →
    IsOutputOfWalk f env Known May t o → PlacesAreValid f env o
made_proper f env Known May t o m = record {
  operands = λ i lt k less named. proper_place env o t.slots (op_at (inst_at f i).operands k).vreg (place_at (allocs_of o i) k) (slots_below f env Known May t o m)
      ((operand_good f env Known May t o m i lt k less).place named);
  moves = each_edit f env Known May t o (λ e. IsMoveEnd env o e.1.from × IsMoveEnd env o e.1.to) m (λ e s. elim s.moves [
    | inl v ↦ (
      move_end env o t.slots v.vreg e.1.from (slots_below f env Known May t o m) v.from,
      move_end env o t.slots v.vreg e.1.to (slots_below f env Known May t o m) v.to,
    )
    | inr a ↦ (pass_end env o t.slots a.class e.1.from (sym m.count) a.from, pass_end env o t.slots a.class e.1.to (sym m.count) a.to)
  ]);
}

-- no move of an output made of the final state is stack-to-stack
pub made_in_registers : (f : FunctionValue) (env : MachineValue) (Known : VirtualRegister → Type 0) (May : ℕ → Type 0) (t : StateValue) (o : OutputValue) →
    IsOutputOfWalk f env Known May t o → All (λ e. IsStackToStack env e.1 → ⊥) o.edits
made_in_registers f env Known May t o m = each_edit f env Known May t o (λ e. IsStackToStack env e.1 → ⊥) m (λ e s. s.not_both)
