-- One operation: its emitted code does to the machine what the operation does to places.
use Rattle.std.proofs.Common.{ℕ, ◌≡◌, ◌+◌, ◌-◌, ◌<◌, Bool, true, false, cond, not, List, [], ◌∷◌, ◌++◌, length, Option, Some, None, refl, sym, ap, ◌∙◌, subst}
use Rattle.std.proofs.Common.{arith, nat_eq, lt-ltb, le-ltb, eqb-true, length-set, ⊎_elim}
use Rattle.std.specs.Prelude.{nat_lt, nat_le, slice_get, slice_index}
use Rattle.std.proofs.Math.Bool.{not-not}
use Rattle.std.proofs.lemmas.Bool.Decides.{leb_tells}
use Rattle.regalloc2_names.specs.Operand.{is_reading}
use Rattle.regalloc2_names.specs.Register.{VirtualRegister}
use Rattle.regalloc2_names.specs.Place.{Place, NoPlace, InRegister, InSlot}
use Rattle.regalloc2_function.specs.OutputValue.{place_at}
use Rattle.regalloc2_semantics.specs.Runs.{Way, Onward, ToSuccessor, after_early_defs, after_writes, stored}
use Rattle.regalloc2_semantics.specs.Interpreters.{read_by, edge_to}
use Rattle.codegen_operation.specs.Numbers.{RunOutcome, Running, Returned, Trapped, Stuck, computed_at, shifted_at, divided_at, division_traps}
use Rattle.codegen_operation.specs.Numbers.{condition_holds, signed_rank, widened, truth, count_of, is_within, number_at, with_number}
use Rattle.codegen_operation.specs.declared.operation.Bytes.{Bytes}
use Rattle.codegen_operation.specs.declared.operation.Bytes.TheVariants.{One, Two, Four, Eight}
use Rattle.codegen_operation.specs.Operands.{argument_registers, arguments_in, operands_of}
use Rattle.codegen_operation.specs.declared.operation.Width.{Width}
use Rattle.codegen_operation.specs.declared.operation.Operator.{Operator}
use Rattle.codegen_operation.specs.declared.operation.ShiftOperator.{ShiftOperator}
use Rattle.codegen_operation.specs.declared.operation.Condition.{Condition}
use Rattle.codegen_operation.specs.declared.operation.Condition.TheVariants.{Equal, NotEqual, Less, LessOrEqual, Greater, GreaterOrEqual, SignedLess}
use Rattle.codegen_operation.specs.declared.operation.Condition.TheVariants.{SignedLessOrEqual, SignedGreater, SignedGreaterOrEqual}
use Rattle.codegen_operation.specs.declared.operation.Operation.{Operation}
use Rattle.codegen_operation.specs.declared.operation.Operation.TheVariants.{Argument as TakeArgument, Constant as TakeConstant, Copy, Compute as Computation}
use Rattle.codegen_operation.specs.declared.operation.Operation.TheVariants.{Shift as Shifting, Divide as Dividing, Compare as Comparison, Select}
use Rattle.codegen_operation.specs.declared.operation.Operation.TheVariants.{Jump as GoTo, BranchIf, BranchIfHolds, Load as Loading, Store as Storing}
use Rattle.codegen_operation.specs.declared.operation.Operation.TheVariants.{Call as Calling, Return as GiveBack}
use Rattle.codegen_operation.specs.declared.operation.DivisionPart.{DivisionPart}
use Rattle.codegen_operation.specs.declared.operation.DivisionPart.TheVariants.{Quotient, Remainder}
use Rattle.codegen_operation.specs.declared.operation.Count.{Count}
use Rattle.codegen_operation.specs.declared.operation.Count.TheVariants.{VReg as CountIn, Number as CountOf}
use Rattle.codegen_operation.specs.declared.operation.Right.{Right}
use Rattle.codegen_operation.specs.declared.operation.Right.TheVariants.{VReg, Number as Given}
use Rattle.codegen_machine.specs.declared.Instruction.{Instruction}
use Rattle.codegen_machine.specs.declared.Instruction.TheVariants.{Constant, Clear, Argument, Compute, Shift, ShiftBy, Compare, Set, MoveIf, Test, Jump}
use Rattle.codegen_machine.specs.declared.Instruction.TheVariants.{JumpIf, Return, Guard, Read, Write}
use Rattle.codegen_machine.specs.Machine.{CodeValue, MachineState, is_general, with_register, with_source, written, compared_to, jumped, executed}
use Rattle.codegen_machine.specs.Machine.{machine_run, guarded, memory_read, memory_written}
use Rattle.codegen_emit.specs.Emitted.{register_of, source_of, right_source, fetched, constant_code, branch_code, branch_if_code, compare_code, select_code}
use Rattle.codegen_emit.specs.Emitted.{address_count, load_code, store_code, opposite, shift_code, resolved, operation_code}
use Rattle.codegen.proofs.Premise.{IsGeneral, IsHere, IsRightHere, IsCountHere, IsPlaced, IsPlain, IsEnd}
use Rattle.codegen.proofs.Choices.{Choice}
use Rattle.codegen.proofs.Runs.{Comes, comes_by, comes_on, ends_by, ends_then}
use Rattle.codegen.proofs.Stands.{StandAt}
use Rattle.codegen.proofs.Places.{Agree, holds, wrote, reads_register, reads_source, writes_place, agree_register, fetches}

-- a second number: the number that was read last, or a constant
abbrev pub right_read : Right → ℕ → ℕ
right_read (VReg v) n = n
right_read (Given n) m = n

-- a shift count: the number that was read last, or a constant
abbrev pub count_read : Count → ℕ → ℕ
count_read (CountIn v) n = n
count_read (CountOf n) m = n

-- the number that an operation writes, from the numbers that it reads, and from memory
abbrev pub value_of : (ℕ → ℕ) → List ℕ → Operation → List ℕ → ℕ
value_of args memory (TakeArgument to k) xs = args k
value_of args memory (TakeConstant to n) xs = n
value_of args memory (Copy to from) xs = slice_index xs 0
value_of args memory (Computation w o to left right) xs = computed_at w o (slice_index xs 0) (right_read right (slice_index xs 1))
value_of args memory (Shifting w o to left count) xs = shifted_at w o (slice_index xs 0) (count_read count (slice_index xs 1))
value_of args memory (Dividing w part signed to left right) xs = divided_at w part signed (slice_index xs 0) (slice_index xs 1)
value_of args memory (Comparison w c to left right) xs =
    truth (condition_holds c (widened w (slice_index xs 0)) (widened w (right_read right (slice_index xs 1))))
value_of args memory (Select to c one other) xs = cond (nat_eq (slice_index xs 2) 0) (slice_index xs 1) (slice_index xs 0)
value_of args memory (Loading bytes to address) xs = number_at bytes memory (slice_index xs 0)
value_of args memory o xs = 0

-- the position of the successor that it follows
abbrev pub way_of : Operation → List ℕ → Option ℕ
way_of GoTo xs = Some 0
way_of (BranchIf v) xs = Some (cond (nat_eq (slice_index xs 0) 0) 1 0)
way_of (BranchIfHolds w c left right) xs = Some (cond (condition_holds c (widened w (slice_index xs 0)) (widened w (right_read right (slice_index xs 1)))) 0 1)
way_of o xs = None

-- the other result of a division
abbrev pub other_part : DivisionPart → DivisionPart
other_part Quotient = Remainder
other_part Remainder = Quotient

-- the number that an operation leaves in the registers that it clobbers
abbrev pub leaves_of : Operation → List ℕ → Place → ℕ
leaves_of (Dividing w part signed to left right) xs p = divided_at w (other_part part) signed (slice_index xs 0) (slice_index xs 1)
leaves_of o xs p = 0

-- the memory that it leaves
abbrev pub left_of : List ℕ → Operation → List ℕ → List ℕ
left_of memory (Storing bytes address value) xs = with_number bytes memory (slice_index xs 0) (slice_index xs 1)
left_of memory o xs = memory

-- whether it traps
abbrev pub traps_of : List ℕ → Operation → List ℕ → Bool
traps_of memory (Dividing w part signed to left right) xs = division_traps w signed (slice_index xs 0) (slice_index xs 1)
traps_of memory (Loading bytes to address) xs = not (is_within memory bytes (slice_index xs 0))
traps_of memory (Storing bytes address value) xs = not (is_within memory bytes (slice_index xs 0))
traps_of memory o xs = false

-- the effect of an operation, by what it reads
abbrev pub chosen : (ℕ → ℕ) → List ℕ → Operation → List ℕ → Choice
chosen args memory o xs = record { writes = λ k. value_of args memory o xs; takes = way_of o xs; leaves = leaves_of o xs }

-- an access lies in memory if it doesn't trap, and only then
pub inside : (b : Bool) → not b ≡ false → b ≡ true
inside true e = refl
inside false e = absurd cc

pub outside : (b : Bool) → not b ≡ true → b ≡ false
outside true e = absurd cc
outside false e = refl

-- a memory has as many bytes afterwards
bytes_long : (bytes : Bytes) (memory : List ℕ) (a n : ℕ) → length (with_number bytes memory a n) ≡ length memory
bytes_long One memory a n = length-set memory a _
bytes_long Two memory a n = length-set _ (a + 1) _ ∙ length-set memory a _
bytes_long Four memory a n = length-set _ (a + 2 + 1) _ ∙ length-set _ (a + 2) _ ∙ length-set _ (a + 1) _ ∙ length-set memory a _
bytes_long Eight memory a n =
    length-set _ (a + 4 + 2 + 1) _ ∙ length-set _ (a + 4 + 2) _ ∙ length-set _ (a + 4 + 1) _ ∙ length-set _ (a + 4) _
    ∙ length-set _ (a + 2 + 1) _ ∙ length-set _ (a + 2) _ ∙ length-set _ (a + 1) _ ∙ length-set memory a _

pub left_long : (memory : List ℕ) (o : Operation) (xs : List ℕ) → length (left_of memory o xs) ≡ length memory
left_long memory (Storing bytes address value) xs = bytes_long bytes memory (slice_index xs 0) (slice_index xs 1)
left_long memory o xs = refl

-- an access of `count` bytes at a lies in memory of `size` bytes exactly if a is below `size` + 1 - `count`
below_count : (size count a : ℕ) → 0 < count → nat_lt a (size + 1 - count) ≡ nat_le (a + count) size
below_count size count a some = ⊎_elim
    (λ t. lt-ltb a (size + 1 - count) (omega (arith, some, t.1)) ∙ sym t.0)
    (λ t. le-ltb a (size + 1 - count) (omega (arith, some, t.1)) ∙ sym t.0)
    (leb_tells (a + count) size)

count_some : (bytes : Bytes) → 0 < count_of bytes
count_some One = omega arith
count_some Two = omega arith
count_some Four = omega arith
count_some Eight = omega arith

guard_is : (memory : List ℕ) (size : ℕ) (bytes : Bytes) (a : ℕ) → length memory ≡ size → nat_lt a (address_count size bytes) ≡ is_within memory bytes a
guard_is memory size bytes a sized =
    below_count size (count_of bytes) a (count_some bytes) ∙ ap (λ (n : ℕ). nat_le (a + count_of bytes) n) (sym sized)

-- uses are no definitions
uses_undisturbed : (rs : List ℕ) (vs : List VirtualRegister) (noise : Place → ℕ) (ps : List Place) (k : ℕ) (numbers : Place → ℕ) →
    after_early_defs noise ps k (arguments_in rs vs) numbers ≡ numbers
unfolding after_early_defs arguments_in
uses_undisturbed rs [] noise ps k numbers = refl
uses_undisturbed [] (v ∷ vs) noise ps k numbers = uses_undisturbed [] vs noise ps (k + 1) numbers
uses_undisturbed (r ∷ rs) (v ∷ vs) noise ps k numbers = uses_undisturbed rs vs noise ps (k + 1) numbers

-- no definition is early, so none overwrites what the uses read
pub undisturbed : (o : Operation) (noise : Place → ℕ) (ps : List Place) (numbers : Place → ℕ) → after_early_defs noise ps 0 (operands_of o) numbers ≡ numbers
unfolding after_early_defs
undisturbed (TakeArgument to k) noise ps numbers = refl
undisturbed (TakeConstant to n) noise ps numbers = refl
undisturbed (Copy to from) noise ps numbers = refl
undisturbed (Computation w o to left (VReg v)) noise ps numbers = refl
undisturbed (Computation w o to left (Given n)) noise ps numbers = refl
undisturbed (Shifting w o to left (CountIn v)) noise ps numbers = refl
undisturbed (Shifting w o to left (CountOf n)) noise ps numbers = refl
undisturbed (Dividing w part signed to left right) noise ps numbers = refl
undisturbed (Comparison w c to left (VReg v)) noise ps numbers = refl
undisturbed (Comparison w c to left (Given n)) noise ps numbers = refl
undisturbed (Select to c one other) noise ps numbers = refl
undisturbed (Loading bytes to address) noise ps numbers = refl
undisturbed (Storing bytes address value) noise ps numbers = refl
undisturbed (Calling g to arguments) noise ps numbers = uses_undisturbed argument_registers arguments.items noise ps 1 numbers
undisturbed GoTo noise ps numbers = refl
undisturbed (BranchIf v) noise ps numbers = refl
undisturbed (BranchIfHolds w c left (VReg v)) noise ps numbers = refl
undisturbed (BranchIfHolds w c left (Given n)) noise ps numbers = refl
undisturbed (GiveBack v) noise ps numbers = refl

-- what an operation reads in its places
abbrev pub reads_at : Operation → List Place → (Place → ℕ) → List ℕ
reads_at o ps numbers = read_by is_reading (λ k u. numbers (place_at ps k)) 0 (operands_of o)

-- what it writes to them
abbrev pub writes_at : (ℕ → ℕ) → List ℕ → Operation → List Place → (Place → ℕ) → Place → ℕ
writes_at args memory o ps numbers = after_writes (λ k. value_of args memory o (reads_at o ps numbers)) ps 0 (operands_of o) numbers

-- an operation that continues at the next line and clobbers nothing
abbrev pub IsSimple : Operation → Type 0
IsSimple (Dividing w part signed to left right) = ⊥
IsSimple o = IsPlain o

-- the state after a guard, and after a write to memory
abbrev pub guarded_state : MachineState → MachineState
guarded_state s = record { pc = s.pc + 1; registers = s.registers; frame = s.frame; compared = None; memory = s.memory }

abbrev pub written_state : MachineState → List ℕ → MachineState
written_state s memory = record { pc = s.pc + 1; registers = s.registers; frame = s.frame; compared = s.compared; memory = memory }

-- the state after numbers have been compared
abbrev pub compared_state : MachineState → ℕ → ℕ → MachineState
compared_state s a b = record { pc = s.pc + 1; registers = s.registers; frame = s.frame; compared = Some (a, b); memory = s.memory }

-- the state after a jump
abbrev pub jump_state : MachineState → ℕ → MachineState
jump_state s target = record { pc = target; registers = s.registers; frame = s.frame; compared = s.compared; memory = s.memory }

at_least : (a b : ℕ) → nat_le b a ≡ not (nat_lt a b)
at_least a b = ⊎_elim (λ t. t.0 ∙ sym (ap not (le-ltb a b t.1))) (λ t. t.0 ∙ sym (ap not (lt-ltb a b t.1))) (leb_tells b a)

above : (a b : ℕ) → nat_lt b a ≡ not (nat_le a b)
above a b = ⊎_elim (λ t. le-ltb b a t.1 ∙ sym (ap not t.0)) (λ t. lt-ltb b a t.1 ∙ sym (ap not t.0)) (leb_tells a b)

-- the opposite condition holds exactly if the condition doesn't
opposite_holds : (c : Condition) (x y : ℕ) → condition_holds (opposite c) x y ≡ not (condition_holds c x y)
opposite_holds Equal x y = refl
opposite_holds NotEqual x y = sym (not-not (nat_eq x y))
opposite_holds Less x y = at_least x y
opposite_holds LessOrEqual x y = above x y
opposite_holds Greater x y = at_least y x
opposite_holds GreaterOrEqual x y = above y x
opposite_holds SignedLess x y = at_least (signed_rank x) (signed_rank y)
opposite_holds SignedLessOrEqual x y = above (signed_rank x) (signed_rank y)
opposite_holds SignedGreater x y = at_least (signed_rank y) (signed_rank x)
opposite_holds SignedGreaterOrEqual x y = above (signed_rank y) (signed_rank x)

module _ (args : ℕ → ℕ) (starts : ℕ → ℕ) (code : CodeValue) (succs : List ℕ) (rest : List Instruction) where
  -- the machine has executed an operation, up to the code after it, and has left a memory
  pub record Leaves (s : MachineState) (memory : List ℕ) (numbers : Place → ℕ) : Type 0 where
    pub to : MachineState
    pub comes : Comes code args 1 s to
    pub agree : Agree to.registers to.frame numbers
    pub stands : StandAt starts code.instructions to.pc rest
    pub same : to.memory ≡ memory

  -- the machine has executed an operation, and has left memory as it was
  abbrev pub Done : MachineState → (Place → ℕ) → Type 0
  Done s numbers = Leaves s s.memory numbers

  -- by one instruction that writes a register
  by_one : (i : Instruction) (s : MachineState) (compared : Option (ℕ × ℕ)) (numbers : Place → ℕ) (p : Place) (v : ℕ) → IsGeneral p →
      Agree s.registers s.frame numbers →
      executed args code.slots (Some (resolved starts i)) s ≡ Running (wrote s (register_of p) v compared) → StandAt starts code.instructions s.pc (i ∷ rest) →
      Done s (stored numbers p v)
  by_one i s compared numbers p v r a e h = record {
    to = wrote s (register_of p) v compared;
    comes = comes_by code args (resolved starts i) s (wrote s (register_of p) v compared) h.0 e;
    agree = agree_register s.registers s.frame numbers a p r v;
    stands = h.1;
    same = refl;
  }

  -- a second number read
  reads_right : (right : Right) (s : MachineState) (numbers : Place → ℕ) (r : Place) → IsRightHere code.slots right r → Agree s.registers s.frame numbers →
      (go : ℕ → RunOutcome MachineState) → with_source code.slots s (right_source right r) go ≡ go (right_read right (numbers r))
  reads_right (VReg v) s numbers r h a go = reads_source code.slots s numbers a r h go
  reads_right (Given n) s numbers r h a go = refl

  compute_done : (w : Width) (o : Operator) (right : Right) (s : MachineState) (numbers : Place → ℕ) (p q r : Place) → IsGeneral p → p ≡ q →
      IsRightHere code.slots right r →
      Agree s.registers s.frame numbers →
      StandAt starts code.instructions s.pc (Compute w o (register_of p) (right_source right r) ∷ rest) →
      Done s (stored numbers p (computed_at w o (numbers q) (right_read right (numbers r))))
  compute_done w o right s numbers p q r hp e hr a h =
      let y : ℕ = right_read right (numbers r) in
      by_one (Compute w o (register_of p) (right_source right r)) s None numbers p (computed_at w o (numbers q) y) hp a
      (reads_register s numbers a p hp (λ x. with_source code.slots s (right_source right r) (λ y. written s (register_of p) (computed_at w o x y) None))
      ∙ reads_right right s numbers r hr a (λ y. written s (register_of p) (computed_at w o (numbers p) y) None)
      ∙ writes_place s p (computed_at w o (numbers p) y) None hp
      ∙ ap (λ (x : Place). Running (wrote s (register_of p) (computed_at w o (numbers x) y) None)) e) h

  shift_done : (w : Width) (o : ShiftOperator) (count : Count) (s : MachineState) (numbers : Place → ℕ) (p q r : Place) →
      IsGeneral p → p ≡ q → IsCountHere count r →
      Agree s.registers s.frame numbers → StandAt starts code.instructions s.pc (shift_code w o count (register_of p) ∷ rest) →
      Done s (stored numbers p (shifted_at w o (numbers q) (count_read count (numbers r))))
  shift_done w o (CountIn v) s numbers p q r hp e hr a h =
      by_one (Shift w o (register_of p)) s None numbers p (shifted_at w o (numbers q) (numbers r)) hp a
      (reads_register s numbers a p hp (λ x. with_register s 1 (λ n. written s (register_of p) (shifted_at w o x n) None))
      ∙ ap (λ (k : ℕ). with_register s k (λ n. written s (register_of p) (shifted_at w o (numbers p) n) None)) (sym hr.1)
      ∙ reads_register s numbers a r hr.0 (λ n. written s (register_of p) (shifted_at w o (numbers p) n) None)
      ∙ writes_place s p (shifted_at w o (numbers p) (numbers r)) None hp
      ∙ ap (λ (x : Place). Running (wrote s (register_of p) (shifted_at w o (numbers x) (numbers r)) None)) e) h
  shift_done w o (CountOf n) s numbers p q r hp e hr a h =
      by_one (ShiftBy w o (register_of p) n) s None numbers p (shifted_at w o (numbers q) n) hp a
      (reads_register s numbers a p hp (λ x. written s (register_of p) (shifted_at w o x n) None)
      ∙ writes_place s p (shifted_at w o (numbers p) n) None hp
      ∙ ap (λ (x : Place). Running (wrote s (register_of p) (shifted_at w o (numbers x) n) None)) e) h

  -- numbers are compared
  compares : (w : Width) (right : Right) (s : MachineState) (numbers : Place → ℕ) (q r : Place) → IsGeneral q → IsRightHere code.slots right r →
      Agree s.registers s.frame numbers →
      slice_get code.instructions s.pc ≡ Some (Compare w (register_of q) (right_source right r)) →
      Comes code args 1 s (compared_state s (widened w (numbers q)) (widened w (right_read right (numbers r))))
  compares w right s numbers q r hq hr a h =
      comes_by code args (Compare w (register_of q) (right_source right r)) s
      (compared_state s (widened w (numbers q)) (widened w (right_read right (numbers r)))) h
      (reads_register s numbers a q hq (λ x. with_source code.slots s (right_source right r) (λ y. compared_to s (widened w x) (widened w y)))
      ∙ reads_right right s numbers r hr a (λ y. compared_to s (widened w (numbers q)) (widened w y)))

  -- a number is compared to 0
  tests : (s : MachineState) (numbers : Place → ℕ) (q : Place) → IsHere code.slots q → Agree s.registers s.frame numbers →
      slice_get code.instructions s.pc ≡ Some (Test (source_of q)) → Comes code args 1 s (compared_state s (numbers q) 0)
  tests s numbers q hq a h =
      comes_by code args (Test (source_of q)) s (compared_state s (numbers q) 0) h (reads_source code.slots s numbers a q hq (λ x. compared_to s x 0))

  -- the steps after an instruction
  done_later : (s t : MachineState) (memory : List ℕ) (numbers : Place → ℕ) → Comes code args 1 s t → Leaves t memory numbers → Leaves s memory numbers
  done_later s t memory numbers c done = record {
    to = done.to;
    comes = comes_on code args 1 1 1 s t done.to (omega arith) c done.comes;
    agree = done.agree;
    stands = done.stands;
    same = done.same;
  }

  compare_done : (w : Width) (c : Condition) (right : Right) (s : MachineState) (numbers : Place → ℕ) (ps : List Place) → IsGeneral (place_at ps 0) →
      IsGeneral (place_at ps 1) →
      IsRightHere code.slots right (place_at ps 2) → Agree s.registers s.frame numbers →
      StandAt starts code.instructions s.pc (compare_code w c right ps ++ rest) →
      Done s (stored numbers (place_at ps 0)
      (truth (condition_holds c (widened w (numbers (place_at ps 1))) (widened w (right_read right (numbers (place_at ps 2)))))))
  compare_done w c right s numbers ps hp hq hr a h =
      let x : ℕ = widened w (numbers (place_at ps 1)) in
      let y : ℕ = widened w (right_read right (numbers (place_at ps 2))) in
      let t : MachineState = compared_state s x y in
      done_later s t s.memory (stored numbers (place_at ps 0) (truth (condition_holds c x y)))
      (compares w right s numbers (place_at ps 1) (place_at ps 2) hq hr a h.0)
      (by_one (Set (register_of (place_at ps 0)) c) t t.compared numbers (place_at ps 0) (truth (condition_holds c x y)) hp a
      (writes_place t (place_at ps 0) (truth (condition_holds c x y)) t.compared hp) h.1)

  select_done : (s : MachineState) (numbers : Place → ℕ) (ps : List Place) → IsGeneral (place_at ps 0) → place_at ps 0 ≡ place_at ps 1 →
      IsHere code.slots (place_at ps 2) → IsHere code.slots (place_at ps 3) → Agree s.registers s.frame numbers →
      StandAt starts code.instructions s.pc (select_code ps ++ rest) →
      Done s (stored numbers (place_at ps 0) (cond (nat_eq (numbers (place_at ps 3)) 0) (numbers (place_at ps 2)) (numbers (place_at ps 1))))
  select_done s numbers ps hp e hn hc a h =
      let p : Place = place_at ps 0 in
      let c : ℕ = numbers (place_at ps 3) in
      let n : ℕ = numbers (place_at ps 2) in
      let t : MachineState = compared_state s c 0 in
      let v : ℕ = cond (nat_eq c 0) n (numbers (place_at ps 1)) in
      done_later s t s.memory (stored numbers p v) (tests s numbers (place_at ps 3) hc a h.0)
      (by_one (MoveIf Equal (register_of p) (source_of (place_at ps 2))) t t.compared numbers p v hp a
      (reads_register t numbers a p hp (λ x. with_source code.slots t (source_of (place_at ps 2))
      (λ y. written t (register_of p) (cond (nat_eq c 0) y x) t.compared))
      ∙ reads_source code.slots t numbers a (place_at ps 2) hn (λ y. written t (register_of p) (cond (nat_eq c 0) y (numbers p)) t.compared)
      ∙ writes_place t p (cond (nat_eq c 0) n (numbers p)) t.compared hp
      ∙ ap (λ (x : Place). Running (wrote t (register_of p) (cond (nat_eq c 0) n (numbers x)) t.compared)) e) h.1)

  constant_done : (n : ℕ) (s : MachineState) (numbers : Place → ℕ) (p : Place) → IsGeneral p → Agree s.registers s.frame numbers →
      StandAt starts code.instructions s.pc (constant_code (register_of p) n ∷ rest) → Done s (stored numbers p n)
  constant_done n s numbers p hp a h = pick (nat_eq n 0) refl h
    where
      pick : (b : Bool) → nat_eq n 0 ≡ b → StandAt starts code.instructions s.pc (cond b (Clear (register_of p)) (Constant (register_of p) n) ∷ rest) →
          Done s (stored numbers p n)
      pick false e h = by_one (Constant (register_of p) n) s s.compared numbers p n hp a (writes_place s p n s.compared hp) h
      pick true e h =
          let z : 0 ≡ n = sym (eqb-true n 0 e) in
          by_one (Clear (register_of p)) s None numbers p n hp a
          (writes_place s p 0 None hp ∙ ap (λ (k : ℕ). Running (wrote s (register_of p) k None)) z) h

  copy_done : (s : MachineState) (numbers : Place → ℕ) (p q : Place) → IsGeneral p → IsHere code.slots q → Agree s.registers s.frame numbers →
      StandAt starts code.instructions s.pc (fetched (register_of p) q ∷ rest) → Done s (stored numbers p (numbers q))
  copy_done s numbers p q hp hq a h =
      by_one (fetched (register_of p) q) s s.compared numbers p (numbers q) hp a
      (fetches args code.slots starts s numbers (register_of p) (general p hp) a q hq) h
    where
      general : (p : Place) → IsGeneral p → is_general (register_of p) ≡ true
      general NoPlace h = absurd h
      general (InRegister r) h = holds r.number h.1
      general (InSlot n) h = absurd h

  -- a guard lets an address pass, or traps
  guard_acts : (size : ℕ) (bytes : Bytes) (s : MachineState) (numbers : Place → ℕ) (q : Place) → IsGeneral q → length s.memory ≡ size →
      Agree s.registers s.frame numbers → (b : Bool) → is_within s.memory bytes (numbers q) ≡ b →
      executed args code.slots (Some (Guard (register_of q) (address_count size bytes))) s ≡ cond b (Running (guarded_state s)) (Trapped s.memory)
  guard_acts size bytes s numbers q hq sized a b e =
      reads_register s numbers a q hq (λ n. guarded s n (address_count size bytes))
      ∙ ap (λ (x : Bool). cond x (Running (guarded_state s)) (Trapped s.memory)) (guard_is s.memory size bytes (numbers q) sized ∙ e)

  guard_passes : (size : ℕ) (bytes : Bytes) (s : MachineState) (numbers : Place → ℕ) (q : Place) → IsGeneral q → length s.memory ≡ size →
      Agree s.registers s.frame numbers → is_within s.memory bytes (numbers q) ≡ true →
      slice_get code.instructions s.pc ≡ Some (Guard (register_of q) (address_count size bytes)) → Comes code args 1 s (guarded_state s)
  guard_passes size bytes s numbers q hq sized a within h =
      comes_by code args (Guard (register_of q) (address_count size bytes)) s (guarded_state s) h (guard_acts size bytes s numbers q hq sized a true within)

  pub guard_traps : (size : ℕ) (bytes : Bytes) (s : MachineState) (numbers : Place → ℕ) (q : Place) → IsGeneral q → length s.memory ≡ size →
      Agree s.registers s.frame numbers → is_within s.memory bytes (numbers q) ≡ false →
      slice_get code.instructions s.pc ≡ Some (Guard (register_of q) (address_count size bytes)) → (j : ℕ) × (machine_run code args j s ≡ Trapped s.memory)
  guard_traps size bytes s numbers q hq sized a within h = (
    1,
    ends_by code args (Guard (register_of q) (address_count size bytes)) s (Trapped s.memory) tt h (guard_acts size bytes s numbers q hq sized a false within),
  )

  load_done : (size : ℕ) (bytes : Bytes) (s : MachineState) (numbers : Place → ℕ) (ps : List Place) → IsGeneral (place_at ps 0) → IsGeneral (place_at ps 1) →
      length s.memory ≡ size → is_within s.memory bytes (numbers (place_at ps 1)) ≡ true → Agree s.registers s.frame numbers →
      StandAt starts code.instructions s.pc (load_code size bytes ps ++ rest) →
      Done s (stored numbers (place_at ps 0) (number_at bytes s.memory (numbers (place_at ps 1))))
  load_done size bytes s numbers ps hp hq sized within a h =
      let t : MachineState = guarded_state s in
      let n : ℕ = number_at bytes s.memory (numbers (place_at ps 1)) in
      done_later s t s.memory (stored numbers (place_at ps 0) n) (guard_passes size bytes s numbers (place_at ps 1) hq sized a within h.0)
      (by_one (Read bytes (register_of (place_at ps 0)) (register_of (place_at ps 1))) t None numbers (place_at ps 0) n hp a
      (reads_register t numbers a (place_at ps 1) hq (λ x. memory_read t bytes (register_of (place_at ps 0)) x)
      ∙ ap (λ (b : Bool). cond b (written t (register_of (place_at ps 0)) n None) Stuck) within
      ∙ writes_place t (place_at ps 0) n None hp) h.1)

  store_done : (size : ℕ) (bytes : Bytes) (s : MachineState) (numbers : Place → ℕ) (ps : List Place) → IsGeneral (place_at ps 0) → IsGeneral (place_at ps 1) →
      length s.memory ≡ size → is_within s.memory bytes (numbers (place_at ps 0)) ≡ true → Agree s.registers s.frame numbers →
      StandAt starts code.instructions s.pc (store_code size bytes ps ++ rest) →
      Leaves s (with_number bytes s.memory (numbers (place_at ps 0)) (numbers (place_at ps 1))) numbers
  store_done size bytes s numbers ps hp hq sized within a h =
      let t : MachineState = guarded_state s in
      let left : List ℕ = with_number bytes s.memory (numbers (place_at ps 0)) (numbers (place_at ps 1)) in
      let u : MachineState = written_state t left in
      let acts : executed args code.slots (Some (Write bytes (register_of (place_at ps 0)) (register_of (place_at ps 1)))) t ≡ Running u =
      reads_register t numbers a (place_at ps 0) hp (λ x. with_register t (register_of (place_at ps 1)) (λ n. memory_written t bytes x n))
      ∙ reads_register t numbers a (place_at ps 1) hq (λ n. memory_written t bytes (numbers (place_at ps 0)) n)
      ∙ ap (λ (b : Bool). cond b (Running u) Stuck) within in
      record {
        to = u;
        comes = comes_on code args 1 1 1 s t u (omega arith) (guard_passes size bytes s numbers (place_at ps 0) hp sized a within h.0)
            (comes_by code args (Write bytes (register_of (place_at ps 0)) (register_of (place_at ps 1))) t u h.1.0 acts);
        agree = a;
        stands = h.1.1;
        same = refl;
      }

  -- an operation that continues at the next line and clobbers nothing
  pub plain_done : (size next : ℕ) (o : Operation) (s : MachineState) (ps : List Place) (numbers : Place → ℕ) → IsSimple o → IsPlaced code.slots o ps →
      length s.memory ≡ size → traps_of s.memory o (reads_at o ps numbers) ≡ false → Agree s.registers s.frame numbers →
      StandAt starts code.instructions s.pc (operation_code size o ps succs next ++ rest) →
      Leaves s (left_of s.memory o (reads_at o ps numbers)) (writes_at args s.memory o ps numbers)
  unfolding after_writes read_by
  plain_done size next (TakeArgument to k) s ps numbers plain placed sized calm a h =
      by_one (Argument (register_of (place_at ps 0)) k) s s.compared numbers (place_at ps 0) (args k) placed a
      (writes_place s (place_at ps 0) (args k) s.compared placed) h
  plain_done size next (TakeConstant to n) s ps numbers plain placed sized calm a h = constant_done n s numbers (place_at ps 0) placed a h
  plain_done size next (Copy to from) s ps numbers plain placed sized calm a h = copy_done s numbers (place_at ps 0) (place_at ps 1) placed.0 placed.1 a h
  plain_done size next (Computation w o to left (VReg v)) s ps numbers plain placed sized calm a h =
      compute_done w o (VReg v) s numbers (place_at ps 0) (place_at ps 1) (place_at ps 2) placed.0 placed.1 placed.2 a h
  plain_done size next (Computation w o to left (Given n)) s ps numbers plain placed sized calm a h =
      compute_done w o (Given n) s numbers (place_at ps 0) (place_at ps 1) (place_at ps 2) placed.0 placed.1 placed.2 a h
  plain_done size next (Shifting w o to left (CountIn v)) s ps numbers plain placed sized calm a h =
      let p : Place = place_at ps 0 in
      let x : ℕ = numbers (place_at ps 1) in
      let n : ℕ = numbers (place_at ps 2) in
      subst (λ (b : Bool). Done s (stored numbers p (shifted_at w o x (slice_index (x ∷ cond (not b) (n ∷ []) []) 1)))) (sym plain)
      (shift_done w o (CountIn v) s numbers p (place_at ps 1) (place_at ps 2) placed.0 placed.1 placed.2 a h)
  plain_done size next (Shifting w o to left (CountOf n)) s ps numbers plain placed sized calm a h =
      shift_done w o (CountOf n) s numbers (place_at ps 0) (place_at ps 1) (place_at ps 2) placed.0 placed.1 placed.2 a h
  plain_done size next (Comparison w c to left (VReg v)) s ps numbers plain placed sized calm a h =
      compare_done w c (VReg v) s numbers ps placed.0 placed.1 placed.2 a h
  plain_done size next (Comparison w c to left (Given n)) s ps numbers plain placed sized calm a h =
      compare_done w c (Given n) s numbers ps placed.0 placed.1 placed.2 a h
  plain_done size next (Select to c one other) s ps numbers plain placed sized calm a h = select_done s numbers ps placed.0 placed.1 placed.2 placed.3 a h
  plain_done size next (Loading bytes to address) s ps numbers plain placed sized calm a h =
      load_done size bytes s numbers ps placed.0 placed.1 sized (inside (is_within s.memory bytes (numbers (place_at ps 1))) calm) a h
  plain_done size next (Storing bytes address value) s ps numbers plain placed sized calm a h =
      store_done size bytes s numbers ps placed.0 placed.1 sized (inside (is_within s.memory bytes (numbers (place_at ps 0))) calm) a h
  plain_done size next o s ps numbers plain placed sized calm a h = absurd plain

  -- the machine is at the start of a block
  pub record Entered (s : MachineState) (k : ℕ) (numbers : Place → ℕ) : Type 0 where
    pub to : MachineState
    pub comes : Comes code args 1 s to
    pub agree : Agree to.registers to.frame numbers
    pub at : to.pc ≡ starts (slice_index succs k)
    pub there : k < length succs
    pub same : to.memory ≡ s.memory

  -- the steps after a block's last line: at the block that it jumps to, or the return of a number
  abbrev pub Left : MachineState → List ℕ → (Place → ℕ) → Option Way → Type 0
  Left s read numbers None = (j : ℕ) × (machine_run code args j s ≡ Returned (slice_index read 0) s.memory)
  Left s read numbers (Some Onward) = ⊥
  Left s read numbers (Some (ToSuccessor k)) = Entered s k numbers

  -- by the instruction that jumps
  enters : (i : Instruction) (s : MachineState) (k : ℕ) (numbers : Place → ℕ) → k < length succs → Agree s.registers s.frame numbers →
      slice_get code.instructions s.pc ≡ Some i → executed args code.slots (Some i) s ≡ Running (jump_state s (starts (slice_index succs k))) →
      Entered s k numbers
  enters i s k numbers lt a h e = record {
    to = jump_state s (starts (slice_index succs k));
    comes = comes_by code args i s (jump_state s (starts (slice_index succs k))) h e;
    agree = a;
    at = refl;
    there = lt;
    same = refl;
  }

  -- after one more instruction
  later : (s t : MachineState) (k : ℕ) (numbers : Place → ℕ) → t.memory ≡ s.memory → Comes code args 1 s t → Entered t k numbers → Entered s k numbers
  later s t k numbers still c e = record {
    to = e.to;
    comes = comes_on code args 1 1 1 s t e.to (omega arith) c e.comes;
    agree = e.agree;
    at = e.at;
    there = e.there;
    same = e.same ∙ still;
  }

  over_edge : (s : MachineState) (read : List ℕ) (k : ℕ) (numbers : Place → ℕ) → Entered s k numbers → Left s read numbers (edge_to (length succs) (Some k))
  over_edge s read k numbers e = subst (λ (x : Bool). Left s read numbers (cond x (Some (ToSuccessor k)) None)) (sym (lt-ltb k (length succs) e.there)) e

  -- a branch, once numbers have been compared: the first successor's jump comes first
  straight : (c : Condition) (s : MachineState) (x y : ℕ) (numbers : Place → ℕ) → 1 < length succs → Agree s.registers s.frame numbers →
      StandAt starts code.instructions (s.pc + 1) (JumpIf c (slice_index succs 0) ∷ Jump (slice_index succs 1) ∷ rest) →
      (b : Bool) → condition_holds c x y ≡ b → Entered (compared_state s x y) (cond b 0 1) numbers
  straight c s x y numbers lt a h true e =
      enters (JumpIf c (starts (slice_index succs 0))) (compared_state s x y) 0 numbers (omega arith) a h.0
      (ap (λ (b : Bool). jumped (compared_state s x y) (cond b (starts (slice_index succs 0)) (s.pc + 1 + 1))) e)
  straight c s x y numbers lt a h false e =
      let u : MachineState = jump_state (compared_state s x y) (s.pc + 1 + 1) in
      let acts : executed args code.slots (Some (JumpIf c (starts (slice_index succs 0)))) (compared_state s x y) ≡ Running u =
      ap (λ (b : Bool). jumped (compared_state s x y) (cond b (starts (slice_index succs 0)) (s.pc + 1 + 1))) e in
      later (compared_state s x y) u 1 numbers refl (comes_by code args (JumpIf c (starts (slice_index succs 0))) (compared_state s x y) u h.0 acts)
      (enters (Jump (starts (slice_index succs 1))) u 1 numbers lt a h.1.0 refl)

  -- a branch, once numbers have been compared: the first successor's jump comes last
  inverted : (c : Condition) (s : MachineState) (x y : ℕ) (numbers : Place → ℕ) → 1 < length succs → Agree s.registers s.frame numbers →
      StandAt starts code.instructions (s.pc + 1) (JumpIf (opposite c) (slice_index succs 1) ∷ Jump (slice_index succs 0) ∷ rest) →
      (b : Bool) → condition_holds c x y ≡ b → Entered (compared_state s x y) (cond b 0 1) numbers
  inverted c s x y numbers lt a h true e =
      let u : MachineState = jump_state (compared_state s x y) (s.pc + 1 + 1) in
      let acts : executed args code.slots (Some (JumpIf (opposite c) (starts (slice_index succs 1)))) (compared_state s x y) ≡ Running u =
      ap (λ (b : Bool). jumped (compared_state s x y) (cond b (starts (slice_index succs 1)) (s.pc + 1 + 1))) (opposite_holds c x y ∙ ap not e) in
      later (compared_state s x y) u 0 numbers refl (comes_by code args (JumpIf (opposite c) (starts (slice_index succs 1))) (compared_state s x y) u h.0 acts)
      (enters (Jump (starts (slice_index succs 0))) u 0 numbers (omega arith) a h.1.0 refl)
  inverted c s x y numbers lt a h false e =
      enters (JumpIf (opposite c) (starts (slice_index succs 1))) (compared_state s x y) 1 numbers lt a h.0
      (ap (λ (b : Bool). jumped (compared_state s x y) (cond b (starts (slice_index succs 1)) (s.pc + 1 + 1))) (opposite_holds c x y ∙ ap not e))

  branches : (next : ℕ) (c : Condition) (s : MachineState) (x y : ℕ) (numbers : Place → ℕ) → 1 < length succs → Agree s.registers s.frame numbers →
      StandAt starts code.instructions (s.pc + 1) (branch_code c succs next ++ rest) →
      Entered (compared_state s x y) (cond (condition_holds c x y) 0 1) numbers
  branches next c s x y numbers lt a h = pick (nat_eq (slice_index succs 0) next) h
    where
      pick : (b : Bool) → StandAt starts code.instructions (s.pc + 1) (cond b (JumpIf (opposite c) (slice_index succs 1) ∷ Jump (slice_index succs 0) ∷ [])
          (JumpIf c (slice_index succs 0) ∷ Jump (slice_index succs 1) ∷ []) ++ rest) →
          Entered (compared_state s x y) (cond (condition_holds c x y) 0 1) numbers
      pick true h = inverted c s x y numbers lt a h (condition_holds c x y) refl
      pick false h = straight c s x y numbers lt a h (condition_holds c x y) refl

  -- from the comparison on
  forks : (next : ℕ) (c : Condition) (s : MachineState) (x y : ℕ) (read : List ℕ) (numbers : Place → ℕ) → 1 < length succs → Agree s.registers s.frame numbers →
      Comes code args 1 s (compared_state s x y) → StandAt starts code.instructions (s.pc + 1) (branch_code c succs next ++ rest) →
      Left s read numbers (edge_to (length succs) (Some (cond (condition_holds c x y) 0 1)))
  forks next c s x y read numbers lt a first h =
      over_edge s read (cond (condition_holds c x y) 0 1) numbers
      (later s (compared_state s x y) (cond (condition_holds c x y) 0 1) numbers refl first (branches next c s x y numbers lt a h))

  -- with the successors swapped
  turned : (b : Bool) → ◌≡◌ {A = ℕ} (cond (not b) 0 1) (cond b 1 0)
  turned true = refl
  turned false = refl

  forks_if : (next : ℕ) (s : MachineState) (p : Place) (numbers : Place → ℕ) → IsHere code.slots p → 1 < length succs → Agree s.registers s.frame numbers →
      StandAt starts code.instructions s.pc (branch_if_code p succs next ++ rest) →
      Left s (numbers p ∷ []) numbers (edge_to (length succs) (Some (cond (nat_eq (numbers p) 0) 1 0)))
  forks_if next s p numbers hp lt a h =
      subst (λ (k : ℕ). Left s (numbers p ∷ []) numbers (edge_to (length succs) (Some k))) (turned (nat_eq (numbers p) 0))
      (forks next NotEqual s (numbers p) 0 (numbers p ∷ []) numbers lt a (tests s numbers p hp a h.0) h.1)

  forks_so : (next : ℕ) (w : Width) (c : Condition) (right : Right) (s : MachineState) (p q : Place) (read : List ℕ) (numbers : Place → ℕ) → IsGeneral p →
      IsRightHere code.slots right q →
      1 < length succs → Agree s.registers s.frame numbers →
      StandAt starts code.instructions s.pc (Compare w (register_of p) (right_source right q) ∷ branch_code c succs next ++ rest) →
      Left s read numbers (edge_to (length succs) (Some (cond (condition_holds c (widened w (numbers p)) (widened w (right_read right (numbers q)))) 0 1)))
  forks_so next w c right s p q read numbers hp hq lt a h =
      forks next c s (widened w (numbers p)) (widened w (right_read right (numbers q))) read numbers lt a (compares w right s numbers p q hp hq a h.0) h.1

  returns : (s : MachineState) (p : Place) (numbers : Place → ℕ) → IsHere code.slots p → Agree s.registers s.frame numbers →
      StandAt starts code.instructions s.pc (fetched 0 p ∷ Return ∷ rest) → (j : ℕ) × (machine_run code args j s ≡ Returned (numbers p) s.memory)
  returns s p numbers hp a h =
      let t : MachineState = wrote s 0 (numbers p) s.compared in
      let first : Comes code args 1 s t = comes_by code args (resolved starts (fetched 0 p)) s t h.0 (fetches args code.slots starts s numbers 0 refl a p hp) in
      ends_then code args 1 1 s t (Returned (numbers p) s.memory) first (ends_by code args Return t (Returned (numbers p) s.memory) tt h.1.0 refl)

  -- a block's last line
  pub last_leaves : (size next : ℕ) (o : Operation) (s : MachineState) (ps : List Place) (numbers : Place → ℕ) → IsEnd o (length succs) →
      IsPlaced code.slots o ps →
      Agree s.registers s.frame numbers → StandAt starts code.instructions s.pc (operation_code size o ps succs next ++ rest) →
      Left s (reads_at o ps numbers) (writes_at args s.memory o ps numbers) (edge_to (length succs) (way_of o (reads_at o ps numbers)))
  unfolding after_writes read_by
  last_leaves size next GoTo s ps numbers ends placed a h =
      over_edge s [] 0 numbers (enters (Jump (starts (slice_index succs 0))) s 0 numbers ends a h.0 refl)
  last_leaves size next (BranchIf v) s ps numbers ends placed a h = forks_if next s (place_at ps 0) numbers placed ends a h
  last_leaves size next (BranchIfHolds w c left (VReg v)) s ps numbers ends placed a h =
      forks_so next w c (VReg v) s (place_at ps 0) (place_at ps 1) (numbers (place_at ps 0) ∷ numbers (place_at ps 1) ∷ []) numbers placed.0 placed.1 ends a h
  last_leaves size next (BranchIfHolds w c left (Given n)) s ps numbers ends placed a h =
      forks_so next w c (Given n) s (place_at ps 0) (place_at ps 1) (numbers (place_at ps 0) ∷ []) numbers placed.0 placed.1 ends a h
  last_leaves size next (GiveBack v) s ps numbers ends placed a h = returns s (place_at ps 0) numbers placed a h
  last_leaves size next o s ps numbers ends placed a h = absurd ends
