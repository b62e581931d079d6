-- A procedure's own run is that of the interpreter over virtual registers, under the operations' interpretation.
use Rattle.std.proofs.Common.{ℕ, zero, suc, ◌≡◌, ◌+◌, ◌<◌, ◌≤◌, Bool, true, false, cond, not, List, [], ◌∷◌, length, Option, Some, None, refl, sym, ap, ◌∙◌}
use Rattle.std.proofs.Common.{subst, arith, nat_eq, lt-ltb, le-ltb, eq-eqb}
use Rattle.std.specs.Prelude.{slice_get, slice_index, option_map}
use Rattle.std.proofs.lemmas.Option.{slice_get-get_or}
use Rattle.regalloc2_names.specs.Register.{VirtualRegister}
use Rattle.regalloc2_names.specs.Operand.{OperandValue, is_reading}
use Rattle.regalloc2_function.specs.FunctionValue.{FunctionValue, block_at}
use Rattle.regalloc2_function.specs.OutputValue.{OutputValue}
use Rattle.regalloc2_semantics.specs.Runs.{Way, Onward, ToSuccessor, next_of, after_defs, over_edge}
use Rattle.regalloc2_semantics.specs.Interpreters.{History, State, read_by, edge_to, way_on}
use Rattle.codegen_operation.specs.Numbers.{RunOutcome, Running, Returned, Trapped, Overflowed, Stuck, shifted_at, divided_at, division_traps}
use Rattle.codegen_operation.specs.Numbers.{condition_holds, widened, is_within, number_at, with_number}
use Rattle.codegen_operation.specs.Operands.{divide_operands, operands_of}
use Rattle.codegen_machine.specs.Meaning.{ProcedureState, onward, stored, entered, along, done, procedure_step}
use Rattle.codegen_machine.specs.Seen.{Operations}
use Rattle.codegen_operation.specs.declared.operation.Operation.{Operation}
use Rattle.codegen_operation.specs.declared.operation.Operation.TheVariants.{Argument as TakeArgument, Constant as TakeConstant, Copy, Compute as Computation}
use Rattle.codegen_operation.specs.declared.operation.Operation.TheVariants.{Shift as Shifting, Divide as Dividing, Compare as Comparison, Select}
use Rattle.codegen_operation.specs.declared.operation.Operation.TheVariants.{Jump as GoTo, BranchIf, BranchIfHolds, Load as Loading, Store as Storing}
use Rattle.codegen_operation.specs.declared.operation.Operation.TheVariants.{Return as GiveBack}
use Rattle.codegen_operation.specs.declared.operation.DivisionPart.{DivisionPart}
use Rattle.codegen_operation.specs.declared.operation.Count.TheVariants.{VReg as CountIn, Number as CountOf}
use Rattle.codegen_operation.specs.declared.operation.Right.TheVariants.{VReg, Number as Given}
use Rattle.codegen_machine.specs.Machine.{CodeValue}
use Rattle.codegen_emit.specs.Emitted.{operation_at}
use Rattle.codegen.proofs.Premise.{IsPlain, IsCall, IsEnd, IsEmitted}
use Rattle.codegen.proofs.Choices.{source_reads, source_next}
use Rattle.codegen.proofs.Simulation.{plain_unless}
use Rattle.codegen.proofs.Steps.{value_of, left_of, way_of, traps_of, chosen, inside, outside}

-- a state of the interpreter, with a memory, as one of the procedure
abbrev pub seen : List ℕ → State VirtualRegister → ProcedureState
seen memory c = record { at = c.at; numbers = c.numbers; memory = memory }

-- both continue alike, with that memory, or the interpreter ends and the procedure returns the number that was read
abbrev pub GoAlike : List ℕ → List ℕ → Option (State VirtualRegister) → RunOutcome ProcedureState → Type 0
GoAlike read left None (Running q) = ⊥
GoAlike read left None (Returned r memory) = (r ≡ slice_index read 0) × (memory ≡ left)
GoAlike read left None (Trapped memory) = ⊥
GoAlike read left None Overflowed = ⊥
GoAlike read left None Stuck = ⊥
GoAlike read left (Some c) (Running q) = q ≡ seen left c
GoAlike read left (Some c) (Returned r memory) = ⊥
GoAlike read left (Some c) (Trapped memory) = ⊥
GoAlike read left (Some c) Overflowed = ⊥
GoAlike read left (Some c) Stuck = ⊥

-- what operands read of vregs, and what definitions write to them
abbrev reads_of : List OperandValue → (VirtualRegister → ℕ) → List ℕ
reads_of os numbers = read_by is_reading (λ k o. numbers o.vreg) 0 os

module _ (f : FunctionValue) (args : ℕ → ℕ) (memory : List ℕ) where
  -- both continue alike, with the memory that an operation leaves
  abbrev pub AreAlike : Operation → List ℕ → Option (State VirtualRegister) → RunOutcome ProcedureState → Type 0
  AreAlike o read = GoAlike read (left_of memory o read)

  -- the numbers that an operation leaves
  abbrev left_by : Operation → List OperandValue → (VirtualRegister → ℕ) → VirtualRegister → ℕ
  left_by o os numbers = after_defs (λ k. value_of args memory o (reads_of os numbers)) 0 os numbers

  -- the next state of the interpreter, by the edge or fall-through that it follows
  abbrev state_on : State VirtualRegister → Operation → List OperandValue → Way → State VirtualRegister
  state_on c o os w = record {
    at = next_of f c.at w;
    history = (c.at.inst, reads_of os c.numbers) ∷ c.history;
    numbers = over_edge f c.at w (left_by o os c.numbers);
  }

  -- the interpreter's step, by the operands of its instruction
  abbrev step_by : State VirtualRegister → Operation → List OperandValue → Option (State VirtualRegister)
  step_by c o os = option_map (state_on c o os) (way_on f c.at (way_of o (reads_of os c.numbers)))

  -- what a division reads
  divide_reads : (part : DivisionPart) (to left right : VirtualRegister) (numbers : VirtualRegister → ℕ) → nat_eq left.number 1073741823 ≡ false →
      reads_of (divide_operands part to left right) numbers ≡ numbers left ∷ numbers right ∷ []
  unfolding read_by
  divide_reads part to left right numbers read = ap (λ (b : Bool). cond (not b) (numbers left ∷ numbers right ∷ []) (numbers right ∷ [])) read

  -- an operation inside a block
  plain_goes : (o : Operation) (c : State VirtualRegister) → IsPlain o → traps_of memory o (reads_of (operands_of o) c.numbers) ≡ false →
      done f args (Some o) (seen memory c) ≡ Running (seen (left_of memory o (reads_of (operands_of o) c.numbers)) (state_on c o (operands_of o) Onward))
  unfolding after_defs read_by over_edge
  plain_goes (TakeArgument to k) c plain calm = refl
  plain_goes (TakeConstant to n) c plain calm = refl
  plain_goes (Copy to from) c plain calm = refl
  plain_goes (Computation w o to left (VReg v)) c plain calm = refl
  plain_goes (Computation w o to left (Given n)) c plain calm = refl
  plain_goes (Shifting w o to left (CountIn v)) c plain calm =
      let x : ℕ = c.numbers left in
      let n : ℕ = c.numbers v in
      subst (λ (b : Bool). onward (seen memory c) to (shifted_at w o x n)
      ≡ onward (seen memory c) to (shifted_at w o x (slice_index (x ∷ cond (not b) (n ∷ []) []) 1))) (sym plain)
      refl
  plain_goes (Shifting w o to left (CountOf n)) c plain calm = refl
  plain_goes (Dividing w part signed to left right) c plain calm =
      let o : Operation = Dividing w part signed to left right in
      subst (λ (xs : List ℕ). division_traps w signed (slice_index xs 0) (slice_index xs 1) ≡ false →
      done f args (Some o) (seen memory c) ≡ onward (seen memory c) to (divided_at w part signed (slice_index xs 0) (slice_index xs 1)))
      (sym (divide_reads part to left right c.numbers plain.1))
      (λ so. ap (λ (b : Bool). cond b (Trapped memory) (onward (seen memory c) to (divided_at w part signed (c.numbers left) (c.numbers right)))) so) calm
  plain_goes (Comparison w o to left (VReg v)) c plain calm = refl
  plain_goes (Comparison w o to left (Given n)) c plain calm = refl
  plain_goes (Select to test one other) c plain calm = refl
  plain_goes (Loading bytes to address) c plain calm =
      ap (λ (b : Bool). cond b (onward (seen memory c) to (number_at bytes memory (c.numbers address))) (Trapped memory))
      (inside (is_within memory bytes (c.numbers address)) calm)
  plain_goes (Storing bytes address value) c plain calm =
      ap (λ (b : Bool). cond b (stored (seen memory c) (with_number bytes memory (c.numbers address) (c.numbers value))) (Trapped memory))
      (inside (is_within memory bytes (c.numbers address)) calm)
  plain_goes o c plain calm = absurd plain

  -- a plain operation that traps
  plain_traps : (o : Operation) (c : State VirtualRegister) → IsPlain o → traps_of memory o (reads_of (operands_of o) c.numbers) ≡ true →
      done f args (Some o) (seen memory c) ≡ Trapped memory
  unfolding read_by
  plain_traps (Dividing w part signed to left right) c plain traps =
      let o : Operation = Dividing w part signed to left right in
      subst (λ (xs : List ℕ). division_traps w signed (slice_index xs 0) (slice_index xs 1) ≡ true → done f args (Some o) (seen memory c) ≡ Trapped memory)
      (sym (divide_reads part to left right c.numbers plain.1))
      (λ so. ap (λ (b : Bool). cond b (Trapped memory) (onward (seen memory c) to (divided_at w part signed (c.numbers left) (c.numbers right)))) so) traps
  plain_traps (Loading bytes to address) c plain traps =
      ap (λ (b : Bool). cond b (onward (seen memory c) to (number_at bytes memory (c.numbers address))) (Trapped memory))
      (outside (is_within memory bytes (c.numbers address)) traps)
  plain_traps (Storing bytes address value) c plain traps =
      ap (λ (b : Bool). cond b (stored (seen memory c) (with_number bytes memory (c.numbers address) (c.numbers value))) (Trapped memory))
      (outside (is_within memory bytes (c.numbers address)) traps)
  plain_traps o c plain traps = absurd cc

  -- an edge
  edge_goes : (read : List ℕ) (c : State VirtualRegister) (h : History) (k : ℕ) → k < length (block_at f c.at.block).succs →
      GoAlike read memory (option_map (λ w. record { at = next_of f c.at w; history = h; numbers = over_edge f c.at w c.numbers })
      (edge_to (length (block_at f c.at.block).succs) (Some k))) (along f (seen memory c) k)
  unfolding over_edge
  edge_goes read c h k lt =
      subst (λ (b : Bool). GoAlike read memory (option_map (λ w. record { at = next_of f c.at w; history = h; numbers = over_edge f c.at w c.numbers })
      (cond b (Some (ToSuccessor k)) None)) (along f (seen memory c) k)) (sym (lt-ltb k (length (block_at f c.at.block).succs) lt))
      (subst (λ (x : Option ℕ). GoAlike read memory
      (Some (record { at = next_of f c.at (ToSuccessor k); history = h; numbers = over_edge f c.at (ToSuccessor k) c.numbers }))
      (entered f (seen memory c) k x)) (sym (slice_get-get_or (block_at f c.at.block).succs k 0 lt)) refl)

  which : (b : Bool) (k n count : ℕ) → k < count → n < count → cond b k n < count
  which true k n count lt also = lt
  which false k n count lt also = also

  -- a block's last operation
  last_goes : (o : Operation) (c : State VirtualRegister) → IsEnd o (length (block_at f c.at.block).succs) →
      AreAlike o (reads_of (operands_of o) c.numbers) (option_map (state_on c o (operands_of o))
      (edge_to (length (block_at f c.at.block).succs) (way_of o (reads_of (operands_of o) c.numbers)))) (done f args (Some o) (seen memory c))
  unfolding after_defs read_by
  last_goes GoTo c end = edge_goes [] c ((c.at.inst, []) ∷ c.history) 0 end
  last_goes (BranchIf v) c end =
      edge_goes (c.numbers v ∷ []) c ((c.at.inst, c.numbers v ∷ []) ∷ c.history) (cond (nat_eq (c.numbers v) 0) 1 0)
      (which (nat_eq (c.numbers v) 0) 1 0 (length (block_at f c.at.block).succs) end (omega arith))
  last_goes (BranchIfHolds w o left (VReg v)) c end =
      edge_goes (c.numbers left ∷ c.numbers v ∷ []) c ((c.at.inst, c.numbers left ∷ c.numbers v ∷ []) ∷ c.history)
      (cond (condition_holds o (widened w (c.numbers left)) (widened w (c.numbers v))) 0 1)
      (which (condition_holds o (widened w (c.numbers left)) (widened w (c.numbers v))) 0 1 (length (block_at f c.at.block).succs) (omega arith) end)
  last_goes (BranchIfHolds w o left (Given n)) c end =
      edge_goes (c.numbers left ∷ []) c ((c.at.inst, c.numbers left ∷ []) ∷ c.history) (cond (condition_holds o (widened w (c.numbers left)) (widened w n)) 0 1)
      (which (condition_holds o (widened w (c.numbers left)) (widened w n)) 0 1 (length (block_at f c.at.block).succs) (omega arith) end)
  last_goes (GiveBack v) c end = (refl, refl)
  last_goes o c end = absurd end

  -- each operation
  goes_on : (o : Operation) (c : State VirtualRegister) → IsPlain o → traps_of memory o (reads_of (operands_of o) c.numbers) ≡ false →
      c.at.inst + 1 < (block_at f c.at.block).range.end →
      AreAlike o (reads_of (operands_of o) c.numbers) (step_by c o (operands_of o)) (done f args (Some o) (seen memory c))
  goes_on o c plain calm lt =
      subst (λ (b : Bool). AreAlike o (reads_of (operands_of o) c.numbers) (option_map (state_on c o (operands_of o))
      (cond b (Some Onward) (cond (nat_eq (c.at.inst + 1) (block_at f c.at.block).range.end)
      (edge_to (length (block_at f c.at.block).succs) (way_of o (reads_of (operands_of o) c.numbers))) None))) (done f args (Some o) (seen memory c)))
      (sym (lt-ltb (c.at.inst + 1) (block_at f c.at.block).range.end lt))
      (subst (λ (x : RunOutcome ProcedureState). AreAlike o (reads_of (operands_of o) c.numbers) (Some (state_on c o (operands_of o) Onward)) x)
      (sym (plain_goes o c plain calm)) refl)

  goes_off : (o : Operation) (c : State VirtualRegister) → IsEnd o (length (block_at f c.at.block).succs) → c.at.inst + 1 ≡ (block_at f c.at.block).range.end →
      AreAlike o (reads_of (operands_of o) c.numbers) (step_by c o (operands_of o)) (done f args (Some o) (seen memory c))
  goes_off o c end e =
      subst (λ (b : Bool). AreAlike o (reads_of (operands_of o) c.numbers) (option_map (state_on c o (operands_of o))
      (cond b (Some Onward) (cond (nat_eq (c.at.inst + 1) (block_at f c.at.block).range.end)
      (edge_to (length (block_at f c.at.block).succs) (way_of o (reads_of (operands_of o) c.numbers))) None))) (done f args (Some o) (seen memory c)))
      (sym (le-ltb (c.at.inst + 1) (block_at f c.at.block).range.end (omega arith)))
      (subst (λ (b : Bool). AreAlike o (reads_of (operands_of o) c.numbers) (option_map (state_on c o (operands_of o))
      (cond b (edge_to (length (block_at f c.at.block).succs) (way_of o (reads_of (operands_of o) c.numbers))) None)) (done f args (Some o) (seen memory c)))
      (sym (eq-eqb (c.at.inst + 1) (block_at f c.at.block).range.end e)) (last_goes o c end))

  -- a step of both, from a location of the function
  pub steps_alike : (ops : Operations) (out : OutputValue) (start : ℕ → ℕ) (code : CodeValue) → IsEmitted f ops out start code →
      (c : State VirtualRegister) (left : ℕ) →
      c.at.block < length f.blocks → (block_at f c.at.block).range.first ≤ c.at.inst → c.at.inst + suc left ≡ (block_at f c.at.block).range.end →
      (IsCall (operation_at ops c.at.inst) → ⊥) → traps_of memory (operation_at ops c.at.inst) (source_reads f out c) ≡ false →
      AreAlike (operation_at ops c.at.inst) (source_reads f out c)
      (source_next f out (chosen args memory (operation_at ops c.at.inst) (source_reads f out c)) c) (procedure_step f ops args (seen memory c))
  steps_alike ops out start code ok c left block begins ends inner calm =
      let lt : c.at.inst < length f.insts = omega (arith, ok.within c.at.block block) in
      let o : Operation = operation_at ops c.at.inst in
      let here : slice_get ops.items c.at.inst ≡ Some o = slice_get-get_or ops.items c.at.inst GoTo (omega (arith, ok.counted)) in
      subst (λ (x : Option Operation). AreAlike (operation_at ops c.at.inst) (source_reads f out c)
      (source_next f out (chosen args memory (operation_at ops c.at.inst) (source_reads f out c)) c)
      (done f args x (seen memory c))) (sym here)
      (subst (λ (os : List OperandValue). traps_of memory o (reads_of os c.numbers) ≡ false → AreAlike o (reads_of os c.numbers) (step_by c o os)
      (done f args (Some o) (seen memory c))) (sym (ok.operands c.at.inst lt)) (pick left refl) calm)
    where
      pick : (n : ℕ) → left ≡ n → traps_of memory (operation_at ops c.at.inst) (reads_of (operands_of (operation_at ops c.at.inst)) c.numbers) ≡ false →
          AreAlike (operation_at ops c.at.inst) (reads_of (operands_of (operation_at ops c.at.inst)) c.numbers)
          (step_by c (operation_at ops c.at.inst) (operands_of (operation_at ops c.at.inst))) (done f args (Some (operation_at ops c.at.inst)) (seen memory c))
      pick zero e calm =
          let last : c.at.inst + 1 ≡ (block_at f c.at.block).range.end = omega arith in
          goes_off (operation_at ops c.at.inst) c (ok.ends c.at.block c.at.inst block begins last) last
      pick (suc n) e calm =
          let more : c.at.inst + 1 < (block_at f c.at.block).range.end = omega arith in
          goes_on (operation_at ops c.at.inst) c (plain_unless (operation_at ops c.at.inst) inner (ok.plain c.at.block c.at.inst block begins more)) calm more

  end_calm : (o : Operation) (count : ℕ) (xs : List ℕ) → IsEnd o count → traps_of memory o xs ≡ true → ⊥
  end_calm (Dividing w part signed to left right) count xs end traps = end
  end_calm (Loading bytes to address) count xs end traps = end
  end_calm (Storing bytes address value) count xs end traps = end
  end_calm o count xs end traps = cc

  -- a step of the procedure that traps
  pub steps_trap : (ops : Operations) (out : OutputValue) (start : ℕ → ℕ) (code : CodeValue) → IsEmitted f ops out start code →
      (c : State VirtualRegister) (left : ℕ) →
      c.at.block < length f.blocks → (block_at f c.at.block).range.first ≤ c.at.inst → c.at.inst + suc left ≡ (block_at f c.at.block).range.end →
      (IsCall (operation_at ops c.at.inst) → ⊥) → traps_of memory (operation_at ops c.at.inst) (source_reads f out c) ≡ true →
      procedure_step f ops args (seen memory c) ≡ Trapped memory
  steps_trap ops out start code ok c left block begins ends inner traps =
      let lt : c.at.inst < length f.insts = omega (arith, ok.within c.at.block block) in
      let o : Operation = operation_at ops c.at.inst in
      let here : slice_get ops.items c.at.inst ≡ Some o = slice_get-get_or ops.items c.at.inst GoTo (omega (arith, ok.counted)) in
      let is : traps_of memory o (reads_of (operands_of o) c.numbers) ≡ true =
      subst (λ (os : List OperandValue). traps_of memory o (reads_of os c.numbers) ≡ true) (ok.operands c.at.inst lt) traps in
      ap (λ (x : Option Operation). done f args x (seen memory c)) here ∙ pick left refl is
    where
      pick : (n : ℕ) → left ≡ n → traps_of memory (operation_at ops c.at.inst) (reads_of (operands_of (operation_at ops c.at.inst)) c.numbers) ≡ true →
          done f args (Some (operation_at ops c.at.inst)) (seen memory c) ≡ Trapped memory
      pick zero e is =
          let last : c.at.inst + 1 ≡ (block_at f c.at.block).range.end = omega arith in
          absurd (end_calm (operation_at ops c.at.inst) (length (block_at f c.at.block).succs)
          (reads_of (operands_of (operation_at ops c.at.inst)) c.numbers) (ok.ends c.at.block c.at.inst block begins last) is)
      pick (suc n) e is =
          let more : c.at.inst + 1 < (block_at f c.at.block).range.end = omega arith in
          plain_traps (operation_at ops c.at.inst) c (plain_unless (operation_at ops c.at.inst) inner (ok.plain c.at.block c.at.inst block begins more)) is
