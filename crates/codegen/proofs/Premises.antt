-- The proofs' assumptions hold of the code emitted for an allocated procedure.
use Rattle.std.proofs.Common.{ℕ, zero, suc, ◌≡◌, ◌+◌, ◌-◌, ◌<◌, ◌≤◌, Bool, true, false, ◌&&◌, cond, List, [], ◌∷◌, length, Option, None, Some, refl, sym, ap}
use Rattle.std.proofs.Common.{◌∙◌, subst, arith, lt-ltb, ltb-true, eqb-true, nat_eq, ◌^◌, ◌++◌, length-append, ◌⊎◌, inl, inr}
use Rattle.std.proofs.Math.Seq.{get_or-append_seam}
use Rattle.std.specs.Prelude.{slice_index_or, nat_lt, Contains, All}
use Rattle.std.specs.List.{list_all}
use Rattle.std.proofs.lemmas.List.{length-map, get_or_default}
use Rattle.std.proofs.lemmas.List.Recursion.{max_bounds}
use Rattle.std.proofs.lemmas.Bool.{and_parts}
use Rattle.regalloc2_names.specs.Register.{Register, VirtualRegister}
use Rattle.regalloc2_names.specs.declared.RegClass.{RegClass}
use Rattle.regalloc2_names.specs.declared.OperandConstraint.TheVariants.{Any, Reg, Reuse}
use Rattle.regalloc2_names.specs.Operand.{OperandValue, is_fixed_nonallocatable}
use Rattle.regalloc2_names.specs.Place.{Place, NoPlace, InRegister, InSlot}
use Rattle.regalloc2_function.specs.FunctionValue.{FunctionValue, block_at, inst_at, no_operand}
use Rattle.regalloc2_function.specs.Machine.{MachineValue, IsPlainRegister, scratch_of}
use Rattle.regalloc2_function.specs.OutputValue.{OutputValue, allocs_of, place_at}
use Rattle.regalloc2_semantics.specs.Faithful.{Meets, IsStackToStack}
use Rattle.regalloc2_semantics.specs.Places.{IsValidPlace, IsMoveEnd}
use Rattle.regalloc2_function.proofs.Following.{end_within}
use Rattle.regalloc2_function.specs.WellFormed.{IsWellFormed, EndsBlock}
use Rattle.regalloc2.specs.Guarantee.{IsAllocation}
use Rattle.codegen_operation.specs.Operands.{argument_registers, arguments_in, call_operands, count_in, def_in, operands_of, part_register, passed_in}
use Rattle.codegen_operation.specs.Operands.{passed_on_stack, right_in, use_in, is_jump, is_return}
use Rattle.codegen_machine.specs.Successors.{wanted_by}
use Rattle.codegen_machine.specs.Seen.{function_of_procedure, inst_of_line, operations}
use Rattle.codegen_operation.specs.declared.operation.Operation.{Operation}
use Rattle.codegen_operation.specs.declared.operation.Operation.TheVariants.{Argument as TakeArgument, Constant as TakeConstant, Copy, Compute as Computation}
use Rattle.codegen_operation.specs.declared.operation.Operation.TheVariants.{Shift as Shifting, Divide as Dividing, Compare as Comparison, Select}
use Rattle.codegen_operation.specs.declared.operation.Operation.TheVariants.{Jump as GoTo, BranchIf, BranchIfHolds, Load as Loading, Store as Storing}
use Rattle.codegen_operation.specs.declared.operation.Operation.TheVariants.{Call as Calling, Return as GiveBack}
use Rattle.codegen_operation.specs.declared.operation.Count.{Count}
use Rattle.codegen_operation.specs.declared.operation.Count.TheVariants.{VReg as CountIn, Number as CountOf}
use Rattle.codegen_operation.specs.declared.operation.Right.{Right}
use Rattle.codegen_operation.specs.declared.operation.Right.TheVariants.{VReg, Number as Given}
use Rattle.codegen_machine.specs.declared.procedure.Procedure.{Procedure}
use Rattle.codegen_emit.specs.Pinned.{slot_place, frame_slots}
use Rattle.codegen_emit.specs.Emitted.{register_of, operation_at, stack_arguments, outgoing_words, emitted, block_label, block_start}
use Rattle.codegen.specs.Target.{IsTarget}
use Rattle.codegen.proofs.Premise.{IsGeneral, IsWithin, IsHere, IsRightHere, IsCountHere, IsCountRead, AreRead, IsRead, ArePassed, CanMove, IsPlaced, IsPlain}
use Rattle.codegen.proofs.Premise.{IsCall, IsEnd, IsEmitted}
use Rattle.codegen.proofs.Procedures.{insts_are, registers_known, blocks_have}

no_member : (rs : List Register) (r : Register) → rs ≡ [] → Contains rs r → ⊥
no_member [] r e h = let less : h.0 < 0 = h.1 in omega arith
no_member (q ∷ rs) r e h = absurd cc

-- the machine has a place for each slot
slot_within : (slots n : ℕ) → n < slots → IsWithin (frame_slots slots) (slot_place n)
slot_within slots zero less = refl
slot_within slots (suc zero) less = refl
slot_within slots (suc (suc zero)) less = refl
slot_within slots (suc (suc (suc zero))) less = refl
slot_within slots (suc (suc (suc (suc zero)))) less = refl
slot_within slots (suc (suc (suc (suc (suc n))))) less = omega arith

module _ (env : MachineValue) (out : OutputValue) (t : IsTarget env) where
  -- the number of slots in the frame
  abbrev slots : ℕ
  slots = frame_slots out.num_spillslots

  -- a place for a number of some class is a register that the allocator allocates, or a slot
  here : (c : RegClass) (p : Place) → IsValidPlace env out c p → IsHere slots p
  here c NoPlace h = absurd h
  here c (InRegister r) h = elim h [ inl own ↦ t.allocatable c r own | inr fixed ↦ absurd (no_member env.fixed_stack_slots r t.no_fixed_slots fixed.0) ]
  here c (InSlot n) h = slot_within out.num_spillslots n h

  -- a place for a number that is no stack place is a register that the allocator allocates
  general : (c : RegClass) (p : Place) → IsValidPlace env out c p → IsPlainRegister env p → IsGeneral p
  general c NoPlace h plain = absurd h
  general c (InRegister r) h plain = elim h [ inl own ↦ t.allocatable c r own | inr fixed ↦ absurd (plain fixed.0) ]
  general c (InSlot n) h plain = absurd plain

  not_some : (o : Option Register) (r : Register) → o ≡ None → o ≡ Some r → ⊥
  not_some None r e h = absurd cc
  not_some (Some q) r e h = absurd cc

  end_here : (p : Place) → IsMoveEnd env out p → IsHere slots p
  end_here p h = elim h.1 [
    | inl proper ↦ here h.0 p proper
    | inr scratch ↦ absurd (not_some (scratch_of env h.0) scratch.0 (t.no_scratch h.0) scratch.1)
  ]

  can_move : (from to : Place) → IsHere slots from → IsHere slots to → (IsStackToStack env (record { from = from; to = to }) → ⊥) →
      CanMove slots from to
  can_move from NoPlace h g never = absurd g
  can_move from (InRegister r) h g never = (g, h)
  can_move NoPlace (InSlot n) h g never = absurd h
  can_move (InRegister r) (InSlot n) h g never = (g, h)
  can_move (InSlot m) (InSlot n) h g never = absurd (never (tt, tt))

  -- places that are valid for operands and meet their constraints
  record AreFor (os : List OperandValue) (ps : List Place) : Type 0 where
    proper : (k : ℕ) (d : OperandValue) → k < length os → is_fixed_nonallocatable (slice_index_or os k d) ≡ false →
        IsValidPlace env out (slice_index_or os k d).vreg.class (place_at ps k)
    meets : (k : ℕ) (d : OperandValue) → k < length os → Meets env (length os) ps (slice_index_or os k d).constraint (place_at ps k)

  -- the place of an operand in a fixed register
  fixed_here : (c : RegClass) (n : ℕ) (p : Place) → IsValidPlace env out c p → p ≡ InRegister (record { number = n; class = c }) →
      IsGeneral p × (register_of p ≡ n)
  fixed_here c n p proper e = (subst IsGeneral (sym e) (subst (IsHere slots) e (here c p proper)), ap register_of e)

  count_here : (count : Count) (to left : VirtualRegister) (ps : List Place) → IsCountRead count →
      AreFor (def_in (Reuse 1) to ∷ use_in Reg left ∷ count_in count) ps → IsCountHere count (place_at ps 2)
  count_here (CountOf n) to left ps read h = tt
  count_here (CountIn v) to left ps read h =
      let d : OperandValue = use_in Any v in
      fixed_here v.class 1 (place_at ps 2) (h.proper 2 d (omega arith) read) (h.meets 2 d (omega arith))

  -- the place of an argument of a call, passed in a register or on the stack
  in_register : (os : List OperandValue) (ps : List Place) → AreFor os ps → (k r : ℕ) (v : VirtualRegister) → k < length os →
      slice_index_or os k (passed_in r v) ≡ passed_in r v →
      nat_eq v.number 1073741823 ≡ false → IsGeneral (place_at ps k) × (register_of (place_at ps k) ≡ r)
  in_register os ps h k r v within is read =
      let proper : IsValidPlace env out v.class (place_at ps k) = subst (λ (o : OperandValue). is_fixed_nonallocatable o ≡ false →
      IsValidPlace env out o.vreg.class (place_at ps k)) is (h.proper k (passed_in r v) within) read in
      let meets : place_at ps k ≡ InRegister (record { number = r; class = v.class }) = subst (λ (o : OperandValue). Meets env (length os) ps o.constraint
      (place_at ps k)) is (h.meets k (passed_in r v) within) in
      fixed_here v.class r (place_at ps k) proper meets

  on_stack : (os : List OperandValue) (ps : List Place) → AreFor os ps → (k : ℕ) (v : VirtualRegister) → k < length os →
      slice_index_or os k (passed_on_stack v) ≡ passed_on_stack v → IsHere slots (place_at ps k)
  on_stack os ps h k v within is =
      here v.class (place_at ps k) (subst (λ (o : OperandValue). is_fixed_nonallocatable o ≡ false → IsValidPlace env out o.vreg.class (place_at ps k)) is
      (h.proper k (passed_on_stack v) within) refl)

  -- the operands `us` are in `os` from index k on
  abbrev AreFrom : List OperandValue → ℕ → List OperandValue → Type 0
  AreFrom os k us = (i : ℕ) (d : OperandValue) → i < length us → (k + i < length os) × (slice_index_or os (k + i) d ≡ slice_index_or us i d)

  first_is : (os : List OperandValue) (k : ℕ) (u : OperandValue) (us : List OperandValue) → AreFrom os k (u ∷ us) →
      (k < length os) × (slice_index_or os k u ≡ u)
  first_is os k u us from =
      let e : k + 0 ≡ k = omega arith in
      let one : (k + 0 < length os) × (slice_index_or os (k + 0) u ≡ u) = from 0 u (omega arith) in
      (omega (arith, one.0), subst (λ (n : ℕ). slice_index_or os n u ≡ u) e one.1)

  others_are : (os : List OperandValue) (k : ℕ) (u : OperandValue) (us : List OperandValue) → AreFrom os k (u ∷ us) → AreFrom os (k + 1) us
  others_are os k u us from = λ i d less.
      let e : k + suc i ≡ k + 1 + i = omega arith in
      subst (λ (n : ℕ). (n < length os) × (slice_index_or os n d ≡ slice_index_or us i d)) e (from (suc i) d (omega arith))

  passed_from : (os : List OperandValue) (ps : List Place) → AreFor os ps → (k : ℕ) (rs : List ℕ) (vs : List VirtualRegister) → AreRead vs →
      AreFrom os k (arguments_in rs vs) → ArePassed slots ps k rs vs
  unfolding arguments_in
  passed_from os ps h k rs [] read from = tt
  passed_from os ps h k [] (v ∷ vs) read from =
      let one : (k < length os) × (slice_index_or os k (passed_on_stack v) ≡ passed_on_stack v) =
      first_is os k (passed_on_stack v) (arguments_in [] vs) from in
      (on_stack os ps h k v one.0 one.1, passed_from os ps h (k + 1) [] vs read.1 (others_are os k (passed_on_stack v) (arguments_in [] vs) from))
  passed_from os ps h k (r ∷ rs) (v ∷ vs) read from =
      let one : (k < length os) × (slice_index_or os k (passed_in r v) ≡ passed_in r v) = first_is os k (passed_in r v) (arguments_in rs vs) from in
      (in_register os ps h k r v one.0 one.1 read.0, passed_from os ps h (k + 1) rs vs read.1 (others_are os k (passed_in r v) (arguments_in rs vs) from))

  are_passed : (to : VirtualRegister) (vs : List VirtualRegister) (ps : List Place) → AreRead vs → AreFor (call_operands to vs) ps →
      ArePassed slots ps 1 argument_registers vs
  are_passed to vs ps read h =
      passed_from (call_operands to vs) ps h 1 argument_registers vs read
      (λ i d less. let e : 1 + i ≡ suc i = omega arith in (omega arith, ap (λ (n : ℕ). slice_index_or (call_operands to vs) n d) e))

  -- the last operand is that of a second number, unless it is a constant
  right_here : (right : Right) (os : List OperandValue) (ps : List Place) → AreFor (os ++ right_in right) ps →
      IsRightHere slots right (place_at ps (length os))
  right_here (Given n) os ps h = tt
  right_here (VReg v) os ps h =
      let d : OperandValue = use_in Any v in
      let within : length os < length (os ++ d ∷ []) = omega (arith, length-append os (d ∷ [])) in
      let last : slice_index_or (os ++ d ∷ []) (length os) d ≡ d = get_or-append_seam os d [] d in
      here v.class (place_at ps (length os)) (subst (λ (o : OperandValue). is_fixed_nonallocatable o ≡ false →
      IsValidPlace env out o.vreg.class (place_at ps (length os))) last (h.proper (length os) d within) refl)

  -- places with which the operation can be emitted
  is_placed : (o : Operation) (ps : List Place) → IsRead o → AreFor (operands_of o) ps → IsPlaced slots o ps
  is_placed (TakeArgument to k) ps read h =
      let d : OperandValue = def_in Reg to in general to.class (place_at ps 0) (h.proper 0 d (omega arith) refl) (h.meets 0 d (omega arith))
  is_placed (TakeConstant to n) ps read h =
      let d : OperandValue = def_in Reg to in general to.class (place_at ps 0) (h.proper 0 d (omega arith) refl) (h.meets 0 d (omega arith))
  is_placed (Copy to from) ps read h =
      let d : OperandValue = def_in Reg to in (
        general to.class (place_at ps 0) (h.proper 0 d (omega arith) refl) (h.meets 0 d (omega arith)),
        here from.class (place_at ps 1) (h.proper 1 d (omega arith) refl),
      )
  is_placed (Computation w o to left right) ps read h =
      let d : OperandValue = def_in Reg to in
      let same : place_at ps 0 ≡ place_at ps 1 = (h.meets 0 d (omega arith)).2 in
      let first : IsGeneral (place_at ps 1) = general left.class (place_at ps 1) (h.proper 1 d (omega arith) refl) (h.meets 1 d (omega arith)) in
      (subst IsGeneral (sym same) first, same, right_here right (def_in (Reuse 1) to ∷ use_in Reg left ∷ []) ps h)
  is_placed (Shifting w o to left count) ps read h =
      let d : OperandValue = def_in Reg to in
      let same : place_at ps 0 ≡ place_at ps 1 = (h.meets 0 d (omega arith)).2 in
      let first : IsGeneral (place_at ps 1) = general left.class (place_at ps 1) (h.proper 1 d (omega arith) refl) (h.meets 1 d (omega arith)) in
      (subst IsGeneral (sym same) first, same, count_here count to left ps read h)
  is_placed (Dividing w part signed to left right) ps read h =
      let d : OperandValue = def_in Reg to in (
        fixed_here to.class (part_register part) (place_at ps 0) (h.proper 0 d (omega arith) read.0) (h.meets 0 d (omega arith)),
        fixed_here left.class 0 (place_at ps 1) (h.proper 1 d (omega arith) read.1) (h.meets 1 d (omega arith)),
        here right.class (place_at ps 2) (h.proper 2 d (omega arith) refl),
      )
  is_placed (Comparison w c to left right) ps read h =
      let d : OperandValue = def_in Reg to in (
        general to.class (place_at ps 0) (h.proper 0 d (omega arith) refl) (h.meets 0 d (omega arith)),
        general left.class (place_at ps 1) (h.proper 1 d (omega arith) refl) (h.meets 1 d (omega arith)),
        right_here right (def_in Reg to ∷ use_in Reg left ∷ []) ps h,
      )
  is_placed (Select to c one other) ps read h =
      let d : OperandValue = def_in Reg to in
      let same : place_at ps 0 ≡ place_at ps 1 = (h.meets 0 d (omega arith)).2 in
      let first : IsGeneral (place_at ps 1) = general one.class (place_at ps 1) (h.proper 1 d (omega arith) refl) (h.meets 1 d (omega arith)) in (
        subst IsGeneral (sym same) first,
        same,
        here other.class (place_at ps 2) (h.proper 2 d (omega arith) refl),
        here c.class (place_at ps 3) (h.proper 3 d (omega arith) refl),
      )
  is_placed (Loading bytes to address) ps read h =
      let d : OperandValue = def_in Reg to in (
        general to.class (place_at ps 0) (h.proper 0 d (omega arith) refl) (h.meets 0 d (omega arith)),
        general address.class (place_at ps 1) (h.proper 1 d (omega arith) refl) (h.meets 1 d (omega arith)),
      )
  is_placed (Storing bytes address value) ps read h =
      let d : OperandValue = use_in Reg address in (
        general address.class (place_at ps 0) (h.proper 0 d (omega arith) refl) (h.meets 0 d (omega arith)),
        general value.class (place_at ps 1) (h.proper 1 d (omega arith) refl) (h.meets 1 d (omega arith)),
      )
  is_placed (Calling g to arguments) ps read h =
      let d : OperandValue = def_in Reg to in (
        fixed_here to.class 0 (place_at ps 0) (h.proper 0 d (omega arith) read.0) (h.meets 0 d (omega arith)),
        are_passed to arguments.items ps read.1 h,
      )
  is_placed GoTo ps read h = tt
  is_placed (BranchIf v) ps read h = let d : OperandValue = use_in Any v in here v.class (place_at ps 0) (h.proper 0 d (omega arith) refl)
  is_placed (BranchIfHolds w c left right) ps read h =
      let d : OperandValue = use_in Reg left in (
        general left.class (place_at ps 0) (h.proper 0 d (omega arith) refl) (h.meets 0 d (omega arith)),
        right_here right (use_in Reg left ∷ []) ps h,
      )
  is_placed (GiveBack v) ps read h = let d : OperandValue = use_in Any v in here v.class (place_at ps 0) (h.proper 0 d (omega arith) refl)

-- virtual registers with small numbers are read
not_same : (m n : ℕ) → m < n → nat_eq m n ≡ false
not_same m n less = pick (nat_eq m n) refl
  where
    pick : (b : Bool) → nat_eq m n ≡ b → b ≡ false
    pick false e = refl
    pick true e = let same : m ≡ n = eqb-true m n e in absurd (omega (arith, same))

read_small : (vregs : ℕ) (v : VirtualRegister) → vregs < 2 ^ 30 → nat_lt v.number vregs ≡ true → nat_eq v.number 1073741823 ≡ false
read_small vregs v few known = not_same v.number 1073741823 (let less : v.number < vregs = ltb-true _ _ known in omega arith)

arguments_read : (vregs : ℕ) (rs : List ℕ) (vs : List VirtualRegister) → vregs < 2 ^ 30 →
    list_all (λ x. nat_lt x.vreg.number vregs) (arguments_in rs vs) ≡ true → AreRead vs
unfolding arguments_in
arguments_read vregs rs [] few h = tt
arguments_read vregs [] (v ∷ vs) few h =
    (read_small vregs v few (and_parts _ _ h).0, arguments_read vregs [] vs few (and_parts _ _ h).1)
arguments_read vregs (r ∷ rs) (v ∷ vs) few h =
    (read_small vregs v few (and_parts _ _ h).0, arguments_read vregs rs vs few (and_parts _ _ h).1)

is_read : (vregs : ℕ) (o : Operation) → vregs < 2 ^ 30 → list_all (λ x. nat_lt x.vreg.number vregs) (operands_of o) ≡ true → IsRead o
is_read vregs (Shifting w o to left (CountIn v)) few h =
    let uses : (nat_lt left.number vregs && (nat_lt v.number vregs && true)) ≡ true = (and_parts _ _ h).1 in
    let last : (nat_lt v.number vregs && true) ≡ true = (and_parts _ _ uses).1 in
    let known : nat_lt v.number vregs ≡ true = (and_parts _ _ last).0 in
    not_same v.number 1073741823 (let less : v.number < vregs = ltb-true _ _ known in omega arith)
is_read vregs (Shifting w o to left (CountOf n)) few h = tt
is_read vregs (Dividing w part signed to left right) few h =
    let first : nat_lt to.number vregs ≡ true = (and_parts _ _ h).0 in
    let uses : (nat_lt left.number vregs && (nat_lt right.number vregs && true)) ≡ true = (and_parts _ _ h).1 in
    let second : nat_lt left.number vregs ≡ true = (and_parts _ _ uses).0 in (
      not_same to.number 1073741823 (let less : to.number < vregs = ltb-true _ _ first in omega arith),
      not_same left.number 1073741823 (let less : left.number < vregs = ltb-true _ _ second in omega arith),
    )
is_read vregs (Calling g to arguments) few h =
    let first : nat_lt to.number vregs ≡ true = (and_parts _ _ h).0 in (
      not_same to.number 1073741823 (let less : to.number < vregs = ltb-true _ _ first in omega arith),
      arguments_read vregs argument_registers arguments.items few (and_parts _ _ h).1,
    )
is_read vregs o few h = tt

-- an operation that neither branches nor returns continues at the next line, or is a call
is_plain : (o : Operation) → IsRead o → is_jump o ≡ false → is_return o ≡ false → IsPlain o ⊎ IsCall o
is_plain GoTo read j r = absurd cc
is_plain (BranchIf v) read j r = absurd cc
is_plain (BranchIfHolds w c left right) read j r = absurd cc
is_plain (GiveBack v) read j r = absurd cc
is_plain (Shifting w o to left count) read j r = inl read
is_plain (Dividing w part signed to left right) read j r = inl read
is_plain (Calling g to arguments) read j r = inr read
is_plain o read j r = inl tt

-- an operation that branches or returns ends its block
is_end : (o : Operation) (count : ℕ) → (is_jump o ≡ true) ⊎ (is_return o ≡ true) → wanted_by o ≤ count → IsEnd o count
is_end GoTo count e w = omega arith
is_end (BranchIf v) count e w = omega arith
is_end (BranchIfHolds width c left right) count e w = omega arith
is_end (GiveBack v) count e w = tt
is_end o count e w = absurd (elim e [ inl j ↦ cc | inr r ↦ cc ])

-- the frame has words for the arguments of each call
words_bound : (os : List Operation) (i : ℕ) → i < length os → stack_arguments (slice_index_or os i GoTo) ≤ outgoing_words os
unfolding outgoing_words
words_bound os i less = max_bounds outgoing_words stack_arguments refl (λ x xs. refl) os i GoTo less

module _ (p : Procedure) (env : MachineValue) (out : OutputValue) (t : IsTarget env) (w : IsWellFormed env (function_of_procedure p))
    (a : IsAllocation (function_of_procedure p) env out) where
  abbrev f : FunctionValue
  f = function_of_procedure p

  abbrev op : ℕ → Operation
  op i = operation_at (operations p) i

  within : (b : ℕ) → b < length f.blocks → (block_at f b).range.end ≤ length f.insts
  within = end_within f w.follow

  filled : (b : ℕ) → b < length f.blocks → (block_at f b).range.first < (block_at f b).range.end
  filled b less = (w.follow b less).0

  counted : length f.insts ≡ length (operations p).items
  counted = length-map p.lines.items inst_of_line ∙ sym (length-map p.lines.items (λ l. l.operation))

  placed : (i : ℕ) → i < length f.insts → IsPlaced (frame_slots out.num_spillslots) (op i) (allocs_of out i)
  placed i less =
      let os : List OperandValue = (inst_at f i).operands in
      let all : AreFor env out t os (allocs_of out i) = record {
        proper = λ k d within.
            subst (λ (o : OperandValue). is_fixed_nonallocatable o ≡ false → IsValidPlace env out o.vreg.class (place_at (allocs_of out i) k))
            (get_or_default os k no_operand d within) (a.proper.operands i less k within);
        meets = λ k d within. subst (λ (o : OperandValue). Meets env (length os) (allocs_of out i) o.constraint (place_at (allocs_of out i) k))
            (get_or_default os k no_operand d within) (a.constraints i less k within);
      } in
      is_placed env out t (op i) (allocs_of out i) (is_read p.num_vregs (op i) p.few_vregs (registers_known p i less))
      (subst (λ (os : List OperandValue). AreFor env out t os (allocs_of out i)) (insts_are p i less).operands all)

  moves : All (λ e. CanMove (frame_slots out.num_spillslots) e.1.from e.1.to) out.edits
  moves k d less =
      let ends = a.proper.moves k d less in
      can_move env out t _ _ (end_here env out t _ ends.0) (end_here env out t _ ends.1) (a.no_stack_to_stack k d less)

  plain : (b i : ℕ) → b < length f.blocks → (block_at f b).range.first ≤ i → i + 1 < (block_at f b).range.end →
      IsPlain (op i) ⊎ IsCall (op i)
  plain b i less from to =
      let in_all : i < length f.insts = (let long = within b less in omega arith) in
      let is = insts_are p i in_all in
      let none = (w.end b less).1 i from (omega arith) (omega arith) in
      is_plain (op i) (is_read p.num_vregs (op i) p.few_vregs (registers_known p i in_all)) (sym is.branches ∙ none.0) (sym is.returns ∙ none.1)

  ends : (b i : ℕ) → b < length f.blocks → (block_at f b).range.first ≤ i → i + 1 ≡ (block_at f b).range.end → IsEnd (op i) (length (block_at f b).succs)
  ends b i less from last =
      let in_all : i < length f.insts = (let long = within b less in omega arith) in
      let is = insts_are p i in_all in
      let here_last : (block_at f b).range.end - 1 ≡ i = omega arith in
      let enough : wanted_by (op i) ≤ length (block_at f b).succs = rw here_last at (blocks_have p b less (let n = counted in omega arith)) in
      let ending : EndsBlock (inst_at f i) (length (block_at f b).succs) = rw here_last at (w.end b less).0 in
      is_end (op i) (length (block_at f b).succs)
      (elim ending [ inl branch ↦ inl (sym is.branches ∙ branch.0) | inr ret ↦ inr (sym is.returns ∙ ret.1) ]) enough

  starts : (b : ℕ) → b < length f.blocks → block_label (operations p) out f b ≡ block_start (operations p) out f b
  starts b less = ap (λ (x : Bool). cond x (block_start (operations p) out f b) 0) (lt-ltb b (length f.blocks) less)

  -- all assumptions
  pub emitted_is : IsEmitted f (operations p) out (block_label (operations p) out f) (emitted (operations p) f out)
  emitted_is = record {
    operands = λ i less. (insts_are p i less).operands;
    clobbers = λ i less. (insts_are p i less).clobbers;
    counted = counted;
    entry = (w.entry.0, (let some = w.successors.0 in omega arith));
    filled = filled;
    within = within;
    plain = plain;
    ends = ends;
    succs = λ b k less at. w.successors.1 b less k 0 at;
    passes = λ i less. words_bound (operations p).items i (let n = counted in omega arith);
    placed = placed;
    moves = moves;
    starts = starts;
    instructions = refl;
  }
