-- The machine follows the interpreter over places, instruction by instruction.
use Rattle.std.proofs.Common.{ℕ, zero, suc, ◌≡◌, ◌+◌, ◌-◌, ◌<◌, ◌≤◌, Bool, true, false, cond, List, ◌∷◌, ◌++◌, map, length, Option, Some, None, refl, sym, ap}
use Rattle.std.proofs.Common.{◌∙◌, subst, arith, nat_eq, lt-ltb, le-ltb, eq-eqb, ◌⊎◌, inl, inr}
use Rattle.std.specs.Prelude.{slice_index, option_map, filter, All}
use Rattle.std.specs.List.{AllByRecursion}
use Rattle.std.proofs.lemmas.List.Elements.{All-map, All-filter, recursion_from_All}
use Rattle.regalloc2_names.specs.Register.{Register, VirtualRegister}
use Rattle.regalloc2_names.specs.Operand.{OperandValue, is_reading}
use Rattle.regalloc2_names.specs.Place.{Place}
use Rattle.regalloc2_function.specs.FunctionValue.{FunctionValue, block_at, inst_at}
use Rattle.regalloc2_function.specs.OutputValue.{OutputValue, MoveValue, allocs_of, place_at, is_listed_at}
use Rattle.regalloc2_semantics.specs.Runs.{Location, Way, Onward, ToSuccessor, first_of, next_of, moves_at, after_clobbers, after_early_defs, after_moves, after_writes}
use Rattle.regalloc2_function.specs.Listing.{ListedInst, listing_from}
use Rattle.regalloc2_semantics.specs.Interpreters.{History, State, read_by, is_late_use, edge_to}
use Rattle.codegen_operation.specs.Numbers.{Returned, Trapped}
use Rattle.codegen_operation.specs.Operands.{is_lost_in}
use Rattle.codegen_machine.specs.Seen.{Operations}
use Rattle.codegen_operation.specs.declared.operation.Operation.{Operation}
use Rattle.codegen_operation.specs.declared.operation.Operation.TheVariants.{Divide as Dividing, Load as Loading, Store as Storing, Call as Calling}
use Rattle.codegen_machine.specs.declared.Instruction.{Instruction}
use Rattle.codegen_machine.specs.Machine.{CodeValue, MachineState, machine_run}
use Rattle.codegen_emit.specs.Emitted.{operation_at, operation_code, items_code, block_code, block_start}
use Rattle.codegen.proofs.Premise.{CanMove, IsPlain, IsCall, IsEnd, IsEmitted}
use Rattle.codegen.proofs.Choices.{Choice, found_by, found_reads, place_after, place_next, ReadAlike}
use Rattle.codegen.proofs.Runs.{Comes, comes_on, ends_then}
use Rattle.codegen.proofs.Stands.{StandAt, block_stands}
use Rattle.codegen.proofs.Places.{Agree, Moved, moves_run}
use Rattle.codegen.proofs.Steps.{value_of, way_of, chosen, leaves_of, left_of, traps_of, undisturbed, reads_at, writes_at, Leaves, Left, last_leaves}
use Rattle.codegen.proofs.Divisions.{unclobbered, IsKept, is_kept, plain_leaves, plain_traps}

-- the moves before an instruction are among the edits
can_move_before : (slots first i : ℕ) (es : List (ℕ × MoveValue)) → All (λ e. CanMove slots e.1.from e.1.to) es →
    AllByRecursion (λ m. CanMove slots m.from m.to) (map (λ e. e.1) (filter (λ e. is_listed_at first i e.0) es))
can_move_before slots first i es h =
    let kept : List (ℕ × MoveValue) = filter (λ e. is_listed_at first i e.0) es in
    recursion_from_All (λ m. CanMove slots m.from m.to) (map (λ e. e.1) kept)
    (All-map (λ m. CanMove slots m.from m.to) (λ e. e.1) kept (All-filter (λ e. is_listed_at first i e.0) (λ e. CanMove slots e.1.from e.1.to) es h))

-- an operation inside a block that is no call
pub plain_unless : (o : Operation) → (IsCall o → ⊥) → IsPlain o ⊎ IsCall o → IsPlain o
plain_unless o inner h = elim h [ inl plain ↦ plain | inr call ↦ absurd (inner call) ]

module _ (f : FunctionValue) (ops : Operations) (out : OutputValue) (start : ℕ → ℕ) (code : CodeValue) where
  -- The machine is at a boundary of the interpreter: before the moves of its instruction, with its numbers.
  pub record At (d : State Place) (s : MachineState) : Type 0 where
    pub left : ℕ
    pub block : d.at.block < length f.blocks
    pub begins : (block_at f d.at.block).range.first ≤ d.at.inst
    pub ends : d.at.inst + suc left ≡ (block_at f d.at.block).range.end
    pub stands : StandAt start code.instructions s.pc
        (items_code ops out (block_at f d.at.block).succs (d.at.block + 1) (listing_from out (block_at f d.at.block).range.first d.at.inst (suc left)))
    pub agree : Agree s.registers s.frame d.numbers

  -- if the machine is at the start of a block with the interpreter's numbers, it is at the boundary of the block's first instruction
  pub at_start : IsEmitted f ops out start code → (b : ℕ) → b < length f.blocks → (h : History) (numbers : Place → ℕ) (s : MachineState) → s.pc ≡ start b →
      Agree s.registers s.frame numbers → At (record { at = first_of f b; history = h; numbers = numbers }) s
  at_start ok b lt h numbers s e a =
      let first : ℕ = (block_at f b).range.first in
      let end : ℕ = (block_at f b).range.end in
      let some : first < end = ok.filled b lt in
      let n : end - first ≡ suc (end - first - 1) = omega arith in
      let at : s.pc ≡ block_start ops out f b = e ∙ ok.starts b lt in
      let here : StandAt start code.instructions (block_start ops out f b) (block_code ops out f b) =
      block_stands f ops out start code.instructions (length f.blocks) ok.instructions b lt in
      let whole : StandAt start code.instructions (block_start ops out f b)
      (items_code ops out (block_at f b).succs (b + 1) (listing_from out first first (suc (end - first - 1)))) =
      subst (λ (k : ℕ). StandAt start code.instructions (block_start ops out f b)
      (items_code ops out (block_at f b).succs (b + 1) (listing_from out first first k)))
      n here in
      record {
        left = end - first - 1;
        block = lt;
        begins = omega arith;
        ends = omega arith;
        stands = subst (λ (p : ℕ). StandAt start code.instructions p
            (items_code ops out (block_at f b).succs (b + 1) (listing_from out first first (suc (end - first - 1))))) (sym at) whole;
        agree = a;
      }

module _ (f : FunctionValue) (ops : Operations) (out : OutputValue) (start : ℕ → ℕ) (code : CodeValue) (args : ℕ → ℕ) (memory : List ℕ) (stir : Place → ℕ) where
  -- the machine's steps from there while the interpreter makes a step, if this is the machine's memory
  abbrev pub Follows : State Place → MachineState → Option (State Place) → Type 0
  Follows d s None = (j : ℕ)
      × (machine_run code args j s ≡ Returned (slice_index (found_reads f out stir d) 0)
      (left_of memory (operation_at ops d.at.inst) (found_reads f out stir d)))
  Follows d s (Some e) = (t : MachineState) × Comes code args 1 s t × At f ops out start code e t
      × (t.memory ≡ left_of memory (operation_at ops d.at.inst) (found_reads f out stir d))

  -- the operation, its places, and the numbers after the moves
  abbrev pub op_of : State Place → Operation
  op_of d = operation_at ops d.at.inst

  abbrev pub places_of : State Place → List Place
  places_of d = allocs_of out d.at.inst

  abbrev pub numbers_after_moves : State Place → Place → ℕ
  numbers_after_moves d = after_moves (moves_at f out d.at) d.numbers

  abbrev pub succs_of : State Place → List ℕ
  succs_of d = (block_at f d.at.block).succs

  -- the choice for its step
  abbrev pub choice_of : State Place → Choice
  choice_of d = chosen args memory (op_of d) (found_reads f out stir d)

  -- the code after the instruction, if n others of its block are left
  abbrev pub behind : State Place → ℕ → List Instruction
  behind d n = items_code ops out (succs_of d) (d.at.block + 1) (listing_from out (block_at f d.at.block).range.first (d.at.inst + 1) n)

  -- the state after a step, by the edge or fall-through that it follows
  abbrev state_on : State Place → Way → State Place
  state_on d w = record {
    at = next_of f d.at w;
    history = (d.at.inst, found_reads f out stir d) ∷ d.history;
    numbers = place_after f out stir (choice_of d) d;
  }

  module _ (ok : IsEmitted f ops out start code) (sized : length memory ≡ ops.memory_size) where
    pub inside : (d : State Place) (s : MachineState) → At f ops out start code d s → d.at.inst < length f.insts
    inside d s at = omega (arith, ok.within d.at.block at.block, at.ends)

    -- the interpreter finds what the moves left
    pub found : (d : State Place) → d.at.inst < length f.insts → found_by f out stir d ≡ numbers_after_moves d
    found d lt =
        ap (λ (os : List OperandValue). after_early_defs stir (places_of d) 0 os (numbers_after_moves d)) (ok.operands d.at.inst lt)
        ∙ undisturbed (op_of d) stir (places_of d) (numbers_after_moves d)

    pub reads : (d : State Place) → d.at.inst < length f.insts → found_reads f out stir d ≡ reads_at (op_of d) (places_of d) (numbers_after_moves d)
    reads d lt =
        ap (λ (m : Place → ℕ). read_by is_reading (λ k u. m (place_at (places_of d) k)) 0 (inst_at f d.at.inst).operands) (found d lt)
        ∙ ap (λ (os : List OperandValue). read_by is_reading (λ k u. numbers_after_moves d (place_at (places_of d) k)) 0 os) (ok.operands d.at.inst lt)

    written : (d : State Place) → d.at.inst < length f.insts →
        after_writes (λ k. value_of args memory (op_of d) (found_reads f out stir d)) (places_of d) 0 (inst_at f d.at.inst).operands
        (found_by f out stir d) ≡ writes_at args memory (op_of d) (places_of d) (numbers_after_moves d)
    written d lt =
        ap (λ (xs : List ℕ). after_writes (λ k. value_of args memory (op_of d) xs) (places_of d) 0 (inst_at f d.at.inst).operands
        (found_by f out stir d)) (reads d lt)
        ∙ ap (λ (m : Place → ℕ). after_writes (λ k. value_of args memory (op_of d) (reads_at (op_of d) (places_of d) (numbers_after_moves d))) (places_of d) 0
        (inst_at f d.at.inst).operands m) (found d lt)
        ∙ ap (λ (os : List OperandValue). after_writes (λ k. value_of args memory (op_of d) (reads_at (op_of d) (places_of d) (numbers_after_moves d))) (places_of d) 0 os
        (numbers_after_moves d)) (ok.operands d.at.inst lt)

    -- what the operation leaves in places
    left_in : (d : State Place) → d.at.inst < length f.insts →
        after_clobbers (inst_at f d.at.inst).clobbers (leaves_of (op_of d) (reads_at (op_of d) (places_of d) (numbers_after_moves d)))
        (writes_at args memory (op_of d) (places_of d) (numbers_after_moves d)) ≡ place_after f out stir (choice_of d) d
    left_in d lt =
        ap (λ (xs : List ℕ). after_clobbers (inst_at f d.at.inst).clobbers (leaves_of (op_of d) xs)
        (writes_at args memory (op_of d) (places_of d) (numbers_after_moves d))) (sym (reads d lt))
        ∙ ap (λ (m : Place → ℕ). after_clobbers (inst_at f d.at.inst).clobbers (choice_of d).leaves m) (sym (written d lt))

    -- a block's last operation clobbers nothing
    end_clobbers : (o : Operation) (count : ℕ) → IsEnd o count → (r : Register) → is_lost_in o r ≡ false
    end_clobbers (Dividing w part signed to left right) count end r = absurd end
    end_clobbers (Calling g to arguments) count end r = absurd end
    end_clobbers o count end r = refl

    -- a block's last operation leaves memory as it is
    end_leaves : (o : Operation) (count : ℕ) (xs : List ℕ) → IsEnd o count → left_of memory o xs ≡ memory
    end_leaves (Storing bytes address value) count xs end = absurd end
    end_leaves o count xs end = refl

    agree_written : (d : State Place) → d.at.inst < length f.insts → IsEnd (op_of d) (length (succs_of d)) → (registers frame : ℕ → ℕ) →
        Agree registers frame (writes_at args memory (op_of d) (places_of d) (numbers_after_moves d)) →
        Agree registers frame (place_after f out stir (choice_of d) d)
    agree_written d lt end registers frame a =
        subst (λ (m : Place → ℕ). Agree registers frame m) (left_in d lt)
        (unclobbered (inst_at f d.at.inst).clobbers (leaves_of (op_of d) (reads_at (op_of d) (places_of d) (numbers_after_moves d)))
        (writes_at args memory (op_of d) (places_of d) (numbers_after_moves d)) registers frame
        (λ r. ok.clobbers d.at.inst lt r ∙ end_clobbers (op_of d) (length (succs_of d)) end r) a)

    -- if both interpreters read alike, the divisor of a division is kept
    kept : (c : State VirtualRegister) (d : State Place) → ReadAlike f out stir c d → (lt : d.at.inst < length f.insts) → IsPlain (op_of d) →
        IsKept args start code (succs_of d) (behind d 0) (op_of d) (inst_at f d.at.inst).clobbers (places_of d) (numbers_after_moves d)
    kept c d r lt plain =
        is_kept args start code (succs_of d) (behind d 0) (op_of d) (inst_at f d.at.inst).clobbers (places_of d) (numbers_after_moves d) c.numbers plain
        (sym (reads d lt) ∙ r.reads ∙ ap (λ (l : Location). read_by is_reading (λ k u. c.numbers u.vreg) 0 (inst_at f l.inst).operands) (sym r.at)
        ∙ ap (λ (os : List OperandValue). read_by is_reading (λ k u. c.numbers u.vreg) 0 os) (ok.operands d.at.inst lt))
        (λ x. subst (λ (os : List OperandValue). read_by is_late_use (λ k u. after_clobbers (inst_at f d.at.inst).clobbers x.leaves
        (after_writes x.writes (places_of d) 0 os (numbers_after_moves d)) (place_at (places_of d) k)) 0 os
        ≡ read_by is_late_use (λ k u. c.numbers u.vreg) 0 os) (ok.operands d.at.inst lt)
        (subst (λ (m : Place → ℕ). read_by is_late_use (λ k u. after_clobbers (inst_at f d.at.inst).clobbers x.leaves
        (after_writes x.writes (places_of d) 0 (inst_at f d.at.inst).operands m) (place_at (places_of d) k)) 0 (inst_at f d.at.inst).operands
        ≡ read_by is_late_use (λ k u. c.numbers u.vreg) 0 (inst_at f d.at.inst).operands) (found d lt)
        (r.late x ∙ ap (λ (l : Location). read_by is_late_use (λ k u. c.numbers u.vreg) 0 (inst_at f l.inst).operands) (sym r.at))))

    -- the machine after the moves
    pub through : (d : State Place) (s : MachineState) (at : At f ops out start code d s) →
        Moved ops out (succs_of d) (d.at.block + 1) args start code s (numbers_after_moves d)
        (ListedInst d.at.inst ∷ listing_from out (block_at f d.at.block).range.first (d.at.inst + 1) at.left)
    unfolding listing_from
    through d s at =
        moves_run ops out (succs_of d) (d.at.block + 1) args start code (moves_at f out d.at)
        (ListedInst d.at.inst ∷ listing_from out (block_at f d.at.block).range.first (d.at.inst + 1) at.left) s d.numbers
        (can_move_before code.slots (block_at f d.at.block).range.first d.at.inst out.edits ok.moves) at.agree at.stands

    -- the memory after the moves
    still : (d : State Place) (s : MachineState) (at : At f ops out start code d s) → s.memory ≡ memory → (through d s at).to.memory ≡ memory
    still d s at same = (through d s at).same ∙ same

    sized_there : (d : State Place) (s : MachineState) (at : At f ops out start code d s) → s.memory ≡ memory →
        length (through d s at).to.memory ≡ ops.memory_size
    sized_there d s at same = ap (λ (m : List ℕ). length m) (still d s at same) ∙ sized

    -- the code after the moves
    pub stands_there : (d : State Place) (s : MachineState) (at : At f ops out start code d s) (n : ℕ) → at.left ≡ n →
        StandAt start code.instructions (through d s at).to.pc
        (operation_code ops.memory_size (op_of d) (places_of d) (succs_of d) (d.at.block + 1) ++ behind d n)
    unfolding items_code
    stands_there d s at n e =
        subst (λ (k : ℕ). StandAt start code.instructions (through d s at).to.pc
        (operation_code ops.memory_size (op_of d) (places_of d) (succs_of d) (d.at.block + 1) ++ behind d k))
        e (through d s at).stands

    -- an operation inside a block
    plain_follows : (c : State VirtualRegister) (d : State Place) (s : MachineState) (at : At f ops out start code d s) → s.memory ≡ memory →
        ReadAlike f out stir c d → (IsCall (op_of d) → ⊥) → traps_of memory (op_of d) (found_reads f out stir d) ≡ false → (n : ℕ) → at.left ≡ suc n →
        Follows d s (place_next f out stir (choice_of d) d)
    plain_follows c d s at same r inner calm n e =
        let lt : d.at.inst < length f.insts = inside d s at in
        let more : d.at.inst + 1 < (block_at f d.at.block).range.end = omega (arith, at.ends, e) in
        let plain : IsPlain (op_of d) = plain_unless (op_of d) inner (ok.plain d.at.block d.at.inst at.block at.begins more) in
        let done : Leaves args start code (succs_of d) (behind d (suc n)) (through d s at).to
        (left_of memory (op_of d) (reads_at (op_of d) (places_of d) (numbers_after_moves d)))
        (after_clobbers (inst_at f d.at.inst).clobbers (leaves_of (op_of d) (reads_at (op_of d) (places_of d) (numbers_after_moves d)))
        (writes_at args memory (op_of d) (places_of d) (numbers_after_moves d))) =
        subst (λ (m : List ℕ). traps_of m (op_of d) (reads_at (op_of d) (places_of d) (numbers_after_moves d)) ≡ false →
        Leaves args start code (succs_of d) (behind d (suc n)) (through d s at).to
        (left_of m (op_of d) (reads_at (op_of d) (places_of d) (numbers_after_moves d)))
        (after_clobbers (inst_at f d.at.inst).clobbers (leaves_of (op_of d) (reads_at (op_of d) (places_of d) (numbers_after_moves d)))
        (writes_at args m (op_of d) (places_of d) (numbers_after_moves d)))) (still d s at same)
        (λ so. plain_leaves args start code (succs_of d) (behind d (suc n)) ops.memory_size (d.at.block + 1) (op_of d)
        (inst_at f d.at.inst).clobbers (through d s at).to
        (places_of d) (numbers_after_moves d)
        plain (ok.placed d.at.inst lt) (ok.clobbers d.at.inst lt) (kept c d r lt plain) (sized_there d s at same) so
        (through d s at).agree (stands_there d s at (suc n) e))
        (subst (λ (xs : List ℕ). traps_of memory (op_of d) xs ≡ false) (reads d lt) calm) in
        let comes : Comes code args 1 s done.to = comes_on code args 0 1 1 s (through d s at).to done.to (omega arith) (through d s at).comes done.comes in
        let next : At f ops out start code (state_on d Onward) done.to = record {
          left = n;
          block = at.block;
          begins = omega (arith, at.begins);
          ends = omega (arith, at.ends, e);
          stands = done.stands;
          agree = subst (λ (m : Place → ℕ). Agree done.to.registers done.to.frame m) (left_in d lt) done.agree;
        } in
        subst (λ (b : Bool). Follows d s (option_map (state_on d) (cond b (Some Onward) (cond (nat_eq (d.at.inst + 1) (block_at f d.at.block).range.end)
        (edge_to (length (succs_of d)) (way_of (op_of d) (found_reads f out stir d))) None))))
        (sym (lt-ltb (d.at.inst + 1) (block_at f d.at.block).range.end more))
        (done.to, comes, next, done.same ∙ ap (λ (xs : List ℕ). left_of memory (op_of d) xs) (sym (reads d lt)))

    -- the steps after a block's last operation
    left_follows : (d : State Place) (s t : MachineState) → At f ops out start code d s → t.memory ≡ memory → IsEnd (op_of d) (length (succs_of d)) →
        Comes code args 0 s t → (w : Option Way) →
        Left args start code (succs_of d) (behind d 0) t (found_reads f out stir d)
        (writes_at args memory (op_of d) (places_of d) (numbers_after_moves d)) w → Follows d s (option_map (state_on d) w)
    left_follows d s t at same end comes None l =
        ends_then code args 0 l.0 s t (Returned (slice_index (found_reads f out stir d) 0) (left_of memory (op_of d) (found_reads f out stir d))) comes
        (l.1 ∙ ap (λ (m : List ℕ). Returned (slice_index (found_reads f out stir d) 0) m)
        (same ∙ sym (end_leaves (op_of d) (length (succs_of d)) (found_reads f out stir d) end)))
    left_follows d s t at same end comes (Some Onward) l = absurd l
    left_follows d s t at same end comes (Some (ToSuccessor k)) l = (
      l.to,
      comes_on code args 0 1 1 s t l.to (omega arith) comes l.comes,
      at_start f ops out start code ok (slice_index (succs_of d) k) (ok.succs d.at.block k at.block l.there) ((d.at.inst, found_reads f out stir d) ∷ d.history)
          (place_after f out stir (choice_of d) d) l.to l.at (agree_written d (inside d s at) end l.to.registers l.to.frame l.agree),
      l.same ∙ same ∙ sym (end_leaves (op_of d) (length (succs_of d)) (found_reads f out stir d) end),
    )

    last_follows : (d : State Place) (s : MachineState) (at : At f ops out start code d s) → s.memory ≡ memory → at.left ≡ 0 →
        Follows d s (place_next f out stir (choice_of d) d)
    last_follows d s at same e =
        let lt : d.at.inst < length f.insts = inside d s at in
        let last : d.at.inst + 1 ≡ (block_at f d.at.block).range.end = omega (arith, at.ends, e) in
        let l : Left args start code (succs_of d) (behind d 0) (through d s at).to (reads_at (op_of d) (places_of d) (numbers_after_moves d))
        (writes_at args memory (op_of d) (places_of d) (numbers_after_moves d))
        (edge_to (length (succs_of d)) (way_of (op_of d) (reads_at (op_of d) (places_of d) (numbers_after_moves d)))) =
        subst (λ (m : List ℕ). Left args start code (succs_of d) (behind d 0) (through d s at).to (reads_at (op_of d) (places_of d) (numbers_after_moves d))
        (writes_at args m (op_of d) (places_of d) (numbers_after_moves d))
        (edge_to (length (succs_of d)) (way_of (op_of d) (reads_at (op_of d) (places_of d) (numbers_after_moves d))))) (still d s at same)
        (last_leaves args start code (succs_of d) (behind d 0) ops.memory_size (d.at.block + 1) (op_of d) (through d s at).to (places_of d) (numbers_after_moves d)
        (ok.ends d.at.block d.at.inst at.block at.begins last) (ok.placed d.at.inst lt) (through d s at).agree (stands_there d s at 0 e)) in
        let follows : Follows d s (option_map (state_on d)
        (edge_to (length (succs_of d)) (way_of (op_of d) (found_reads f out stir d)))) =
        left_follows d s (through d s at).to at (still d s at same) (ok.ends d.at.block d.at.inst at.block at.begins last) (through d s at).comes
        (edge_to (length (succs_of d)) (way_of (op_of d) (found_reads f out stir d)))
        (subst (λ (xs : List ℕ). Left args start code (succs_of d) (behind d 0) (through d s at).to xs
        (writes_at args memory (op_of d) (places_of d) (numbers_after_moves d)) (edge_to (length (succs_of d)) (way_of (op_of d) xs))) (sym (reads d lt)) l) in
        subst (λ (b : Bool). Follows d s (option_map (state_on d) (cond b (Some Onward) (cond (nat_eq (d.at.inst + 1) (block_at f d.at.block).range.end)
        (edge_to (length (succs_of d)) (way_of (op_of d) (found_reads f out stir d))) None))))
        (sym (le-ltb (d.at.inst + 1) (block_at f d.at.block).range.end (omega arith)))
        (subst (λ (b : Bool). Follows d s (option_map (state_on d) (cond b
        (edge_to (length (succs_of d)) (way_of (op_of d) (found_reads f out stir d))) None)))
        (sym (eq-eqb (d.at.inst + 1) (block_at f d.at.block).range.end last)) follows)

    -- a step of the interpreter is at least one step of the machine
    pub step_follows : (c : State VirtualRegister) (d : State Place) (s : MachineState) → At f ops out start code d s → s.memory ≡ memory →
        ReadAlike f out stir c d → (IsCall (op_of d) → ⊥) → traps_of memory (op_of d) (found_reads f out stir d) ≡ false →
        Follows d s (place_next f out stir (choice_of d) d)
    step_follows c d s at same r inner calm = pick at.left refl
      where
        pick : (n : ℕ) → at.left ≡ n → Follows d s (place_next f out stir (choice_of d) d)
        pick zero e = last_follows d s at same e
        pick (suc n) e = plain_follows c d s at same r inner calm n e

    end_calm : (o : Operation) (count : ℕ) (xs : List ℕ) → IsEnd o count → traps_of memory o xs ≡ true → ⊥
    end_calm (Dividing w part signed to left right) count xs end traps = end
    end_calm (Loading bytes to address) count xs end traps = end
    end_calm (Storing bytes address value) count xs end traps = end
    end_calm o count xs end traps = cc

    -- a step of the interpreter that traps is a trap of the machine
    pub step_traps : (c : State VirtualRegister) (d : State Place) (s : MachineState) → At f ops out start code d s → s.memory ≡ memory →
        ReadAlike f out stir c d → (IsCall (op_of d) → ⊥) → traps_of memory (op_of d) (found_reads f out stir d) ≡ true →
        (j : ℕ) × (machine_run code args j s ≡ Trapped memory)
    step_traps c d s at same r inner traps = pick at.left refl
      where
        pick : (n : ℕ) → at.left ≡ n → (j : ℕ) × (machine_run code args j s ≡ Trapped memory)
        pick zero e =
            let last : d.at.inst + 1 ≡ (block_at f d.at.block).range.end = omega (arith, at.ends, e) in
            absurd (end_calm (op_of d) (length (succs_of d)) (found_reads f out stir d) (ok.ends d.at.block d.at.inst at.block at.begins last) traps)
        pick (suc n) e =
            let lt : d.at.inst < length f.insts = inside d s at in
            let more : d.at.inst + 1 < (block_at f d.at.block).range.end = omega (arith, at.ends, e) in
            let plain : IsPlain (op_of d) = plain_unless (op_of d) inner (ok.plain d.at.block d.at.inst at.block at.begins more) in
            let t : (j : ℕ) × (machine_run code args j (through d s at).to ≡ Trapped memory) =
            subst (λ (m : List ℕ). traps_of m (op_of d) (reads_at (op_of d) (places_of d) (numbers_after_moves d)) ≡ true →
            (j : ℕ) × (machine_run code args j (through d s at).to ≡ Trapped m)) (still d s at same)
            (λ so. plain_traps args start code (succs_of d) (behind d (suc n)) ops.memory_size (d.at.block + 1) (op_of d)
            (inst_at f d.at.inst).clobbers (through d s at).to
            (places_of d) (numbers_after_moves d)
            plain (ok.placed d.at.inst lt) (ok.clobbers d.at.inst lt) (kept c d r lt plain) (sized_there d s at same) so
            (through d s at).agree (stands_there d s at (suc n) e))
            (subst (λ (xs : List ℕ). traps_of memory (op_of d) xs ≡ true) (reads d lt) traps) in
            ends_then code args 0 t.0 s (through d s at).to (Trapped memory) (through d s at).comes t.1
