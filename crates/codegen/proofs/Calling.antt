-- A call within a procedure. Up to it, the machine runs the call's moves: then the first arguments are in their registers, and the others in places that keep
-- their numbers whatever the call writes to register 0. Once the callee has returned, the numbers of registers and slots are as in the caller's places again,
-- by the choice that leaves what the callee left in caller-saved registers.
use Rattle.std.proofs.Common.{ℕ, zero, suc, ◌≡◌, ◌+◌, ◌<◌, ◌≤◌, ◌⊎◌, inl, inr, Bool, true, false, cond, not, List, [], ◌∷◌, ◌++◌, map, length, Option, Some}
use Rattle.std.proofs.Common.{None, refl, sym, ap, ◌∙◌, subst, arith, nat_eq, lt-ltb, ltb-true}
use Rattle.std.proofs.lemmas.Bool.{and_parts}
use Rattle.std.specs.Global.{Vec}
use Rattle.std.specs.Prelude.{◌-◌, ◌&&◌, ◌||◌, nat_lt, slice_index, slice_index_or, option_map}
use Rattle.regalloc2_names.specs.declared.RegClass.TheVariants.{Int}
use Rattle.regalloc2_names.specs.declared.sets.PRegSet.{PRegSet}
use Rattle.regalloc2_names.specs.Register.{Register, VirtualRegister, has_register}
use Rattle.regalloc2_names.specs.Operand.{OperandValue, is_reading}
use Rattle.regalloc2_names.specs.Place.{Place, NoPlace, InRegister, InSlot}
use Rattle.regalloc2_function.specs.FunctionValue.{FunctionValue, block_at, inst_at}
use Rattle.regalloc2_function.specs.OutputValue.{OutputValue, allocs_of, place_at}
use Rattle.regalloc2_semantics.specs.Runs.{Location, Way, Onward, next_of, moves_at, after_clobbers, after_defs, after_moves, after_writes, assigned, over_edge, stored}
use Rattle.regalloc2_function.specs.Listing.{ListedInst, listing_from}
use Rattle.regalloc2_semantics.specs.Interpreters.{State, edge_to, read_by, is_late_use, way_on}
use Rattle.codegen_operation.specs.Numbers.{put}
use Rattle.codegen_operation.specs.Operands.{argument_registers, arguments_in, call_operands, is_lost_in, is_lost_in_call, operands_of, passed_in, passed_on_stack}
use Rattle.codegen_machine.specs.Meaning.{ProcedureState}
use Rattle.codegen_machine.specs.Seen.{Operations}
use Rattle.codegen_operation.specs.declared.operation.Operation.{Operation}
use Rattle.codegen_operation.specs.declared.operation.Operation.TheVariants.{Call as Calling}
use Rattle.codegen_machine.specs.declared.Instruction.{Instruction}
use Rattle.codegen_machine.specs.Calls.{argument_register, is_caller_saved, registers_returned}
use Rattle.codegen_machine.specs.Machine.{CodeValue, MachineState, is_general}
use Rattle.codegen_emit.specs.Pinned.{is_allocated, slot_place}
use Rattle.codegen_emit.specs.Emitted.{call_code, items_code, operation_at, operation_code, stack_arguments}
use Rattle.codegen.proofs.Premise.{AreRead, ArePassed, IsHere, IsPlaced, IsPlain, IsCall, IsEnd, IsEmitted}
use Rattle.codegen.proofs.Choices.{Choice, leavings, source_reads, source_after, found_reads, place_after, place_next, ReadAlike, Together, StepsOn, AlikeByChoices}
use Rattle.codegen.proofs.Runs.{Comes}
use Rattle.codegen.proofs.Stands.{StandAt}
use Rattle.codegen.proofs.Places.{Agree, Moved, holds_number, number_in, register_place}
use Rattle.codegen.proofs.Divisions.{place_is}
use Rattle.codegen.proofs.Simulation.{numbers_after_moves, behind, found, inside, places_of, reads, stands_there, succs_of, through}
use Rattle.codegen.proofs.Source.{seen}
use Rattle.codegen.proofs.Steps.{reads_at}
use Rattle.codegen.proofs.Joined.{AreJoined}

-- the numbers that a callee leaves in registers, as numbers of places
abbrev left_in : (ℕ → ℕ) → Place → ℕ
left_in registers NoPlace = 0
left_in registers (InRegister r) = registers r.number
left_in registers (InSlot k) = 0

-- an allocated register has a small number
one_holds : (a b c : Bool) → (a || (b && c)) ≡ true → (a ≡ true) ⊎ (c ≡ true)
one_holds true b c e = inl refl
one_holds false true true e = inr refl
one_holds false true false e = absurd cc
one_holds false false c e = absurd cc

allocated_small : (n : ℕ) → is_allocated n ≡ true → n < 12
allocated_small n e = elim (one_holds (nat_lt n 3) (nat_lt 5 n) (nat_lt n 12) (and_parts (is_general n) _ e).1) [
  | inl first ↦ (let less : n < 3 = ltb-true n 3 first in omega arith)
  | inr last ↦ ltb-true n 12 last
]

-- of the allocated registers, a call clobbers the caller-saved ones, besides that of its result
lost_is : (n : ℕ) → n < 12 → is_lost_in_call (record { number = n; class = Int }) ≡ (is_caller_saved n && not (nat_eq 0 n))
lost_is zero less = refl
lost_is (suc zero) less = refl
lost_is (suc (suc zero)) less = refl
lost_is (suc (suc (suc zero))) less = refl
lost_is (suc (suc (suc (suc zero)))) less = refl
lost_is (suc (suc (suc (suc (suc zero))))) less = refl
lost_is (suc (suc (suc (suc (suc (suc zero)))))) less = refl
lost_is (suc (suc (suc (suc (suc (suc (suc zero))))))) less = refl
lost_is (suc (suc (suc (suc (suc (suc (suc (suc zero)))))))) less = refl
lost_is (suc (suc (suc (suc (suc (suc (suc (suc (suc zero))))))))) less = refl
lost_is (suc (suc (suc (suc (suc (suc (suc (suc (suc (suc zero)))))))))) less = refl
lost_is (suc (suc (suc (suc (suc (suc (suc (suc (suc (suc (suc zero))))))))))) less = refl
lost_is (suc (suc (suc (suc (suc (suc (suc (suc (suc (suc (suc (suc n)))))))))))) less = absurd (omega arith)

-- slots aren't in caller-saved registers
slots_saved : (saved last frame : ℕ → ℕ) (k : ℕ) → number_in (registers_returned saved last) frame (slot_place k) ≡ number_in saved frame (slot_place k)
slots_saved saved last frame zero = refl
slots_saved saved last frame (suc zero) = refl
slots_saved saved last frame (suc (suc zero)) = refl
slots_saved saved last frame (suc (suc (suc zero))) = refl
slots_saved saved last frame (suc (suc (suc (suc zero)))) = refl
slots_saved saved last frame (suc (suc (suc (suc (suc k))))) = refl

given_back : (saved is_result lost : Bool) (v l s f : ℕ) → saved ≡ true → lost ≡ (saved && not is_result) →
    cond saved (cond is_result v l) s ≡ cond lost (cond is_result v l) (cond is_result v f)
given_back true true lost v l s f allocated e = ap (λ (b : Bool). cond b v v) (sym e)
given_back true false lost v l s f allocated e = ap (λ (b : Bool). cond b l f) (sym e)
given_back false is_result lost v l s f allocated e = absurd cc

-- after a return, registers and slots agree with the caller's places, if slots kept their numbers up to the call
back_agrees : (set : PRegSet) → ((r : Register) → has_register set r ≡ is_lost_in_call r) → (saved left frame : ℕ → ℕ) (v : ℕ) (numbers : Place → ℕ) →
    ((k : ℕ) → number_in saved frame (slot_place k) ≡ numbers (InSlot k)) →
    Agree (registers_returned saved (put left 0 v)) frame (after_clobbers set (left_in (put left 0 v)) (stored numbers (register_place 0) v))
unfolding after_clobbers stored
back_agrees set has saved left frame v numbers slots = record {
  in_registers = λ n allocated.
      given_back (is_caller_saved n) (nat_eq 0 n) (has_register set (record { number = n; class = Int })) v (left n) (saved n) (numbers (register_place n))
      (and_parts (is_general n) (is_caller_saved n) allocated).1 (has (record { number = n; class = Int }) ∙ lost_is n (allocated_small n allocated));
  in_slots = λ k. slots_saved saved (put left 0 v) frame k ∙ slots k;
}

-- uses define nothing
none_defined : (w : ℕ → ℕ) (k : ℕ) (rs : List ℕ) (vs : List VirtualRegister) (m : VirtualRegister → ℕ) → after_defs w k (arguments_in rs vs) m ≡ m
unfolding after_defs arguments_in
none_defined w k rs [] m = refl
none_defined w k [] (v ∷ vs) m = none_defined w (k + 1) [] vs m
none_defined w k (r ∷ rs) (v ∷ vs) m = none_defined w (k + 1) rs vs m

none_written : (w : ℕ → ℕ) (ps : List Place) (k : ℕ) (rs : List ℕ) (vs : List VirtualRegister) (m : Place → ℕ) → after_writes w ps k (arguments_in rs vs) m ≡ m
unfolding after_writes arguments_in
none_written w ps k rs [] m = refl
none_written w ps k [] (v ∷ vs) m = none_written w ps (k + 1) [] vs m
none_written w ps k (r ∷ rs) (v ∷ vs) m = none_written w ps (k + 1) rs vs m

-- a call defines the vreg of its result, and writes register 0
result_defined : (n : ℕ) (to : VirtualRegister) (vs : List VirtualRegister) (m : VirtualRegister → ℕ) →
    after_defs (λ k. n) 0 (call_operands to vs) m ≡ assigned m to n
unfolding after_defs
result_defined n to vs m = none_defined (λ k. n) 1 argument_registers vs (assigned m to n)

result_written : (w : ℕ → ℕ) (to : VirtualRegister) (vs : List VirtualRegister) (ps : List Place) (m : Place → ℕ) →
    after_writes w ps 0 (call_operands to vs) m ≡ stored m (place_at ps 0) (w 0)
unfolding after_writes
result_written w to vs ps m = none_written w ps 1 argument_registers vs (stored m (place_at ps 0) (w 0))

-- what a call reads
abbrev passed : (ℕ → OperandValue → ℕ) → ℕ → List ℕ → List VirtualRegister → List ℕ
passed number k rs [] = []
passed number k [] (v ∷ vs) = number k (passed_on_stack v) ∷ passed number (k + 1) [] vs
passed number k (r ∷ rs) (v ∷ vs) = number k (passed_in r v) ∷ passed number (k + 1) rs vs

reads_passed : (number : ℕ → OperandValue → ℕ) (k : ℕ) (rs : List ℕ) (vs : List VirtualRegister) → AreRead vs →
    read_by is_reading number k (arguments_in rs vs) ≡ passed number k rs vs
unfolding read_by arguments_in
reads_passed number k rs [] h = refl
reads_passed number k [] (v ∷ vs) h = ap (λ (ns : List ℕ). number k (passed_on_stack v) ∷ ns) (reads_passed number (k + 1) [] vs h.1)
reads_passed number k (r ∷ rs) (v ∷ vs) h =
    ap (λ (b : Bool). cond (not b) (number k (passed_in r v) ∷ read_by is_reading number (k + 1) (arguments_in rs vs))
    (read_by is_reading number (k + 1) (arguments_in rs vs))) h.0
    ∙ ap (λ (ns : List ℕ). number k (passed_in r v) ∷ ns) (reads_passed number (k + 1) rs vs h.1)

call_reads : (number : ℕ → OperandValue → ℕ) (to : VirtualRegister) (vs : List VirtualRegister) → AreRead vs →
    read_by is_reading number 0 (call_operands to vs) ≡ passed number 1 argument_registers vs
unfolding read_by
call_reads number to vs h = reads_passed number 1 argument_registers vs h

abbrev tail : List ℕ → List ℕ
tail [] = []
tail (n ∷ ns) = ns

-- the registers of the first arguments hold them
passes : (registers frame : ℕ → ℕ) (m : Place → ℕ) (numbers : VirtualRegister → ℕ) → Agree registers frame m → (slots : ℕ) (ps : List Place) (k : ℕ)
    (rs : List ℕ) (vs : List VirtualRegister) → ArePassed slots ps k rs vs →
    passed (λ k u. m (place_at ps k)) k rs vs ≡ passed (λ k u. numbers u.vreg) k rs vs → (i : ℕ) → i < length vs → i < length rs →
    registers (slice_index_or rs i 16) ≡ slice_index (map (λ v. numbers v) vs) i
passes registers frame m numbers a slots ps k rs [] placed e i less few = absurd (omega arith)
passes registers frame m numbers a slots ps k [] (v ∷ vs) placed e i less few = absurd (omega arith)
passes registers frame m numbers a slots ps k (r ∷ rs) (v ∷ vs) placed e zero less few =
    ap registers (sym placed.0.1) ∙ holds_number registers frame m a (place_at ps k) placed.0.0 ∙ ap (λ (ns : List ℕ). slice_index ns 0) e
passes registers frame m numbers a slots ps k (r ∷ rs) (v ∷ vs) placed e (suc i) less few =
    passes registers frame m numbers a slots ps (k + 1) rs vs placed.1 (ap tail e) i (omega arith) (omega arith)

-- the places of the others
others_here : (slots : ℕ) (ps : List Place) (k : ℕ) (rs : List ℕ) (vs : List VirtualRegister) → ArePassed slots ps k rs vs →
    (i : ℕ) → length rs ≤ i → i < length vs → IsHere slots (place_at ps (k + i))
others_here slots ps k rs [] placed i large less = absurd (omega arith)
others_here slots ps k [] (v ∷ vs) placed zero large less =
    let e : k ≡ k + 0 = omega arith in subst (λ (j : ℕ). IsHere slots (place_at ps j)) e placed.0
others_here slots ps k [] (v ∷ vs) placed (suc i) large less =
    let e : k + 1 + i ≡ k + suc i = omega arith in
    subst (λ (j : ℕ). IsHere slots (place_at ps j)) e (others_here slots ps (k + 1) [] vs placed.1 i (omega arith) (omega arith))
others_here slots ps k (r ∷ rs) (v ∷ vs) placed zero large less = absurd (omega arith)
others_here slots ps k (r ∷ rs) (v ∷ vs) placed (suc i) large less =
    let e : k + 1 + i ≡ k + suc i = omega arith in
    subst (λ (j : ℕ). IsHere slots (place_at ps j)) e (others_here slots ps (k + 1) rs vs placed.1 i (omega arith) (omega arith))

-- a call's arguments past the sixth are late uses: if both interpreters read late uses alike, each place has its argument's number
never_late : (b : Bool) → (b && false) ≡ false
never_late true = refl
never_late false = refl

late_each : (m : Place → ℕ) (numbers : VirtualRegister → ℕ) (ps : List Place) (k : ℕ) (rs : List ℕ) (vs : List VirtualRegister) →
    read_by is_late_use (λ k u. m (place_at ps k)) k (arguments_in rs vs) ≡ read_by is_late_use (λ k u. numbers u.vreg) k (arguments_in rs vs) →
    (i : ℕ) → length rs ≤ i → i < length vs → m (place_at ps (k + i)) ≡ slice_index (map (λ v. numbers v) vs) i
unfolding read_by arguments_in
late_each m numbers ps k rs [] h i large less = absurd (omega arith)
late_each m numbers ps k [] (v ∷ vs) h zero large less =
    let e : k + 0 ≡ k = omega arith in ap (λ (j : ℕ). m (place_at ps j)) e ∙ ap (λ (ns : List ℕ). slice_index ns 0) h
late_each m numbers ps k [] (v ∷ vs) h (suc i) large less =
    let e : k + suc i ≡ k + 1 + i = omega arith in
    ap (λ (j : ℕ). m (place_at ps j)) e ∙ late_each m numbers ps (k + 1) [] vs (ap tail h) i (omega arith) (omega arith)
late_each m numbers ps k (r ∷ rs) (v ∷ vs) h zero large less = absurd (omega arith)
late_each m numbers ps k (r ∷ rs) (v ∷ vs) h (suc i) large less =
    let e : k + suc i ≡ k + 1 + i = omega arith in
    let rest : read_by is_late_use (λ k u. m (place_at ps k)) (k + 1) (arguments_in rs vs)
    ≡ read_by is_late_use (λ k u. numbers u.vreg) (k + 1) (arguments_in rs vs) =
    subst (λ (b : Bool). cond b (m (place_at ps k) ∷ read_by is_late_use (λ k u. m (place_at ps k)) (k + 1) (arguments_in rs vs))
    (read_by is_late_use (λ k u. m (place_at ps k)) (k + 1) (arguments_in rs vs))
    ≡ cond b (numbers v ∷ read_by is_late_use (λ k u. numbers u.vreg) (k + 1) (arguments_in rs vs))
    (read_by is_late_use (λ k u. numbers u.vreg) (k + 1) (arguments_in rs vs))) (never_late (is_reading (passed_in r v))) h in
    ap (λ (j : ℕ). m (place_at ps j)) e ∙ late_each m numbers ps (k + 1) rs vs rest i (omega arith) (omega arith)

call_late : (m : Place → ℕ) (numbers : VirtualRegister → ℕ) (ps : List Place) (to : VirtualRegister) (vs : List VirtualRegister) →
    read_by is_late_use (λ k u. m (place_at ps k)) 0 (call_operands to vs) ≡ read_by is_late_use (λ k u. numbers u.vreg) 0 (call_operands to vs) →
    read_by is_late_use (λ k u. m (place_at ps k)) 1 (arguments_in argument_registers vs)
    ≡ read_by is_late_use (λ k u. numbers u.vreg) 1 (arguments_in argument_registers vs)
unfolding read_by
call_late m numbers ps to vs h = h

-- clobbered registers may keep what they hold
left_alone : (set : PRegSet) (m : Place → ℕ) (p : Place) → after_clobbers set m m p ≡ m p
unfolding after_clobbers
left_alone set m NoPlace = refl
left_alone set m (InRegister r) = same (has_register set r)
  where
    same : (b : Bool) → cond b (m (InRegister r)) (m (InRegister r)) ≡ m (InRegister r)
    same true = refl
    same false = refl
left_alone set m (InSlot n) = refl

module _ (f : FunctionValue) (ops : Operations) (out : OutputValue) (start : ℕ → ℕ) (code : CodeValue) (virtual : VirtualRegister → ℕ) (places : Place → ℕ) where
  -- A procedure suspended at a call, and the machine before the instruction after it, related by states that the two interpreters reach together. Slots have
  -- the numbers of places after the call's moves; no allocated register has to, since the callee may change them all.
  pub record IsPaused (at : Location) (numbers : VirtualRegister → ℕ) (to : VirtualRegister) (pc : ℕ) (registers frame : ℕ → ℕ) : Type 0 where
    pub choices : List Choice
    pub c : State VirtualRegister
    pub d : State Place
    pub together : Together f out virtual places choices c d
    pub is_at : at ≡ c.at
    pub is_numbers : numbers ≡ c.numbers
    pub callee : ℕ
    pub arguments : Vec VirtualRegister
    pub is_call : operation_at ops d.at.inst ≡ Calling callee to arguments
    pub left : ℕ
    pub block : d.at.block < length f.blocks
    pub begins : (block_at f d.at.block).range.first ≤ d.at.inst
    pub ends : d.at.inst + suc (suc left) ≡ (block_at f d.at.block).range.end
    pub stands : StandAt start code.instructions pc
        (items_code ops out (block_at f d.at.block).succs (d.at.block + 1) (listing_from out (block_at f d.at.block).range.first (d.at.inst + 1) (suc left)))
    pub slots : (k : ℕ) → number_in registers frame (slot_place k) ≡ after_moves (moves_at f out d.at) d.numbers (InSlot k)

  -- inside a block, an interpreter goes on at the next instruction
  goes_onward : (l : Location) → l.inst + 1 < (block_at f l.block).range.end → way_on f l None ≡ Some Onward
  goes_onward l less =
      ap (λ (b : Bool). cond b (Some Onward) (cond (nat_eq (l.inst + 1) (block_at f l.block).range.end)
      (edge_to (length (block_at f l.block).succs) None) None)) (lt-ltb (l.inst + 1) (block_at f l.block).range.end less)

  module _ (ok : IsEmitted f ops out start code) (alike : AlikeByChoices f out virtual places) where
    module _ (at : Location) (numbers : VirtualRegister → ℕ) (to : VirtualRegister) (pc : ℕ) (registers frame : ℕ → ℕ)
        (p : IsPaused at numbers to pc registers frame) (n : ℕ) (memory : List ℕ) (left : ℕ → ℕ) (sized : length memory ≡ ops.memory_size) where
      abbrev c : State VirtualRegister
      c = p.c

      abbrev d : State Place
      d = p.d

      abbrev stir : Place → ℕ
      stir = leavings p.choices

      -- the call's choice: it writes the result, and leaves what the callee left
      abbrev x : Choice
      x = record { writes = λ k. n; takes = None; leaves = left_in (put left 0 n) }

      abbrev source_on : State VirtualRegister
      source_on = record {
        at = next_of f c.at Onward;
        history = (c.at.inst, source_reads f out c) ∷ c.history;
        numbers = over_edge f c.at Onward (source_after f out x c);
      }

      abbrev place_on : State Place
      place_on = record {
        at = next_of f d.at Onward;
        history = (d.at.inst, found_reads f out stir d) ∷ d.history;
        numbers = place_after f out stir x d;
      }

      same_at : d.at ≡ c.at
      same_at = (alike.alike p.choices c d p.together).at

      more : d.at.inst + 1 < (block_at f d.at.block).range.end
      more = omega (arith, p.ends)

      within : d.at.inst < length f.insts
      within = omega (arith, ok.within d.at.block p.block, p.ends)

      operands : (inst_at f d.at.inst).operands ≡ call_operands to p.arguments.items
      operands = ok.operands d.at.inst within ∙ ap operands_of p.is_call

      together_on : Together f out virtual places (x ∷ p.choices) source_on place_on
      together_on =
          subst (λ (w : Option Way). StepsOn f out virtual places (x ∷ p.choices) (Some source_on) (option_map (λ w. record {
            at = next_of f d.at w;
            history = (d.at.inst, found_reads f out stir d) ∷ d.history;
            numbers = place_after f out stir x d;
          }) w)) (goes_onward d.at more)
          (subst (λ (w : Option Way). StepsOn f out virtual places (x ∷ p.choices) (option_map (λ w. record {
            at = next_of f c.at w;
            history = (c.at.inst, source_reads f out c) ∷ c.history;
            numbers = over_edge f c.at w (source_after f out x c);
          }) w) (place_next f out stir x d))
          (goes_onward c.at (subst (λ (l : Location). l.inst + 1 < (block_at f l.block).range.end) same_at more))
          (alike.on p.choices c d p.together x))

      -- the result is defined
      numbers_on : source_on.numbers ≡ assigned numbers to n
      unfolding over_edge
      numbers_on =
          ap (λ (l : Location). after_defs (λ k. n) 0 (inst_at f l.inst).operands c.numbers) (sym same_at)
          ∙ ap (λ (os : List OperandValue). after_defs (λ k. n) 0 os c.numbers) operands
          ∙ result_defined n to p.arguments.items c.numbers
          ∙ ap (λ (m : VirtualRegister → ℕ). assigned m to n) (sym p.is_numbers)

      -- the result is written to its place
      placed : IsPlaced code.slots (Calling p.callee to p.arguments) (allocs_of out d.at.inst)
      placed = subst (λ (o : Operation). IsPlaced code.slots o (allocs_of out d.at.inst)) p.is_call (ok.placed d.at.inst within)

      has : (r : Register) → has_register (inst_at f d.at.inst).clobbers r ≡ is_lost_in_call r
      has r = ok.clobbers d.at.inst within r ∙ ap (λ (o : Operation). is_lost_in o r) p.is_call

      abbrev moved : Place → ℕ
      moved = after_moves (moves_at f out d.at) d.numbers

      places_on : after_clobbers (inst_at f d.at.inst).clobbers (left_in (put left 0 n)) (stored moved (register_place 0) n) ≡ place_on.numbers
      places_on = sym (
          ap (λ (m : Place → ℕ). after_clobbers (inst_at f d.at.inst).clobbers (left_in (put left 0 n))
          (after_writes (λ k. n) (allocs_of out d.at.inst) 0 (inst_at f d.at.inst).operands m))
          (found f ops out start code (λ k. 0) memory stir ok sized d within)
          ∙ ap (λ (os : List OperandValue). after_clobbers (inst_at f d.at.inst).clobbers (left_in (put left 0 n))
          (after_writes (λ k. n) (allocs_of out d.at.inst) 0 os moved)) operands
          ∙ ap (λ (m : Place → ℕ). after_clobbers (inst_at f d.at.inst).clobbers (left_in (put left 0 n)) m)
          (result_written (λ k. n) to p.arguments.items (allocs_of out d.at.inst) moved)
          ∙ ap (λ (q : Place). after_clobbers (inst_at f d.at.inst).clobbers (left_in (put left 0 n)) (stored moved q n))
          (place_is (place_at (allocs_of out d.at.inst) 0) 0 placed.0.0 placed.0.1))

      abbrev machine_on : MachineState
      machine_on = record { pc = pc; registers = registers_returned registers (put left 0 n); frame = frame; compared = None; memory = memory }

      -- after the return, procedure and machine are related
      pub resumes : AreJoined f ops out start code virtual places
          (record { at = record { block = at.block; inst = at.inst + 1 }; numbers = assigned numbers to n; memory = memory }) machine_on
      resumes = record {
        choices = x ∷ p.choices;
        c = source_on;
        d = place_on;
        together = together_on;
        is_seen =
            ap (λ (l : Location). record { at = record { block = l.block; inst = l.inst + 1 }; numbers = assigned numbers to n; memory = memory }) p.is_at
            ∙ ap (λ (m : VirtualRegister → ℕ). record { at = record { block = c.at.block; inst = c.at.inst + 1 }; numbers = m; memory = memory }) (sym numbers_on);
        sized = sized;
        at = record {
          left = p.left;
          block = p.block;
          begins = omega (arith, p.begins);
          ends = omega (arith, p.ends);
          stands = p.stands;
          agree = subst (λ (m : Place → ℕ). Agree machine_on.registers machine_on.frame m) places_on
              (back_agrees (inst_at f d.at.inst).clobbers has registers left frame n moved p.slots);
        };
      }

    -- Before a call, the machine gets to the code that passes arguments on the stack. Those that registers pass are in them, and the places of the others have
    -- their numbers, whatever register 0 holds. Behind the call instruction, the procedure is suspended.
    pub record Pauses (args : ℕ → ℕ) (q : ProcedureState) (s : MachineState) (callee : ℕ) (to : VirtualRegister) (vs : List VirtualRegister) : Type 0 where
      pub state : MachineState
      pub comes : Comes code args 0 s state
      pub same : state.memory ≡ q.memory
      pub ps : List Place
      pub found : Place → ℕ
      pub rest : List Instruction
      pub stands : StandAt start code.instructions state.pc (call_code callee (length vs) ps ++ rest)
      pub agree : Agree state.registers state.frame found
      pub fits : length vs - 6 ≤ code.outgoing
      pub here : (i : ℕ) → i < length vs - 6 → IsHere code.slots (place_at ps (i + 7))
      pub stays : (i first : ℕ) → i < length vs - 6 →
          stored found (register_place 0) first (place_at ps (i + 7)) ≡ slice_index (map (λ v. q.numbers v) vs) (i + 6)
      pub given : (k : ℕ) → k < length vs → k < 6 → state.registers (argument_register k) ≡ slice_index (map (λ v. q.numbers v) vs) k
      pub paused : (pc : ℕ) (registers frame : ℕ → ℕ) → StandAt start code.instructions pc rest →
          ((k : ℕ) → number_in registers frame (slot_place k) ≡ found (InSlot k)) → IsPaused q.at q.numbers to pc registers frame

    module _ (args : ℕ → ℕ) (q : ProcedureState) (s : MachineState) (j : AreJoined f ops out start code virtual places q s) (callee : ℕ) (to : VirtualRegister)
        (arguments : Vec VirtualRegister) (is_call : operation_at ops j.d.at.inst ≡ Calling callee to arguments) where
      abbrev v : State VirtualRegister
      v = j.c

      abbrev e : State Place
      e = j.d

      abbrev noise : Place → ℕ
      noise = leavings j.choices

      abbrev vs : List VirtualRegister
      vs = arguments.items

      abbrev ps : List Place
      ps = allocs_of out e.at.inst

      abbrev found_there : Place → ℕ
      found_there = numbers_after_moves f ops out start code args s.memory noise e

      read_alike : ReadAlike f out noise v e
      read_alike = alike.alike j.choices v e j.together

      inst_within : e.at.inst < length f.insts
      inst_within = inside f ops out start code args s.memory noise ok j.sized e s j.at

      abbrev go : Moved ops out (succs_of f ops out start code args s.memory noise e) (e.at.block + 1) args start code s found_there
          (ListedInst e.at.inst ∷ listing_from out (block_at f e.at.block).range.first (e.at.inst + 1) j.at.left)
      go = through f ops out start code args s.memory noise ok j.sized e s j.at

      call_operands_are : (inst_at f e.at.inst).operands ≡ call_operands to vs
      call_operands_are = ok.operands e.at.inst inst_within ∙ ap operands_of is_call

      call_placed : IsPlaced code.slots (Calling callee to arguments) ps
      call_placed = subst (λ (o : Operation). IsPlaced code.slots o ps) is_call (ok.placed e.at.inst inst_within)

      call_fits : length vs - 6 ≤ code.outgoing
      call_fits = subst (λ (o : Operation). stack_arguments o ≤ code.outgoing) is_call (ok.passes e.at.inst inst_within)

      only_call : IsPlain (Calling callee to arguments) ⊎ IsCall (Calling callee to arguments) → AreRead vs
      only_call h = elim h [ inl plain ↦ absurd plain | inr call ↦ call.1 ]

      -- what places hold is what virtual registers hold
      are_read : AreRead vs → passed (λ k u. found_there (place_at ps k)) 1 argument_registers vs ≡ passed (λ k u. v.numbers u.vreg) 1 argument_registers vs
      are_read read =
          sym (call_reads (λ k u. found_there (place_at ps k)) to vs read)
          ∙ ap (λ (o : Operation). reads_at o ps found_there) (sym is_call)
          ∙ sym (reads f ops out start code args s.memory noise ok j.sized e inst_within)
          ∙ read_alike.reads
          ∙ ap (λ (l : Location). read_by is_reading (λ k u. v.numbers u.vreg) 0 (inst_at f l.inst).operands) (sym read_alike.at)
          ∙ ap (λ (os : List OperandValue). read_by is_reading (λ k u. v.numbers u.vreg) 0 os) call_operands_are
          ∙ call_reads (λ k u. v.numbers u.vreg) to vs read

      -- what late uses of the call find once the call has written register 0
      module _ (first : ℕ) where
        abbrev with_first : Place → ℕ
        with_first = stored found_there (register_place 0) first

        -- the choice that writes this number, and leaves clobbered registers as they are
        abbrev writes_first : Choice
        writes_first = record { writes = λ k. first; takes = None; leaves = with_first }

        abbrev clobbered : (Place → ℕ) → Place → ℕ
        clobbered m = after_clobbers (inst_at f e.at.inst).clobbers with_first m

        after_is : place_after f out noise writes_first e ≡ clobbered with_first
        after_is =
            ap (λ (m : Place → ℕ). clobbered (after_writes (λ k. first) ps 0 (inst_at f e.at.inst).operands m))
            (found f ops out start code args s.memory noise ok j.sized e inst_within)
            ∙ ap (λ (os : List OperandValue). clobbered (after_writes (λ k. first) ps 0 os found_there)) call_operands_are
            ∙ ap (λ (m : Place → ℕ). clobbered m) (result_written (λ k. first) to vs ps found_there)
            ∙ ap (λ (p : Place). clobbered (stored found_there p first)) (place_is (place_at ps 0) 0 call_placed.0.0 call_placed.0.1)

        late_there : read_by is_late_use (λ k u. clobbered with_first (place_at ps k)) 0 (call_operands to vs)
            ≡ read_by is_late_use (λ k u. v.numbers u.vreg) 0 (call_operands to vs)
        late_there =
            subst (λ (os : List OperandValue). read_by is_late_use (λ k u. clobbered with_first (place_at ps k)) 0 os
            ≡ read_by is_late_use (λ k u. v.numbers u.vreg) 0 os) call_operands_are
            (ap (λ (m : Place → ℕ). read_by is_late_use (λ k u. m (place_at ps k)) 0 (inst_at f e.at.inst).operands) (sym after_is)
            ∙ read_alike.late writes_first
            ∙ ap (λ (l : Location). read_by is_late_use (λ k u. v.numbers u.vreg) 0 (inst_at f l.inst).operands) (sym read_alike.at))

        late_stays : (i : ℕ) → i < length vs - 6 → with_first (place_at ps (i + 7)) ≡ slice_index (map (λ u. v.numbers u) vs) (i + 6)
        late_stays i less =
            let n : i + 7 ≡ 1 + (i + 6) = omega arith in
            ap (λ (k : ℕ). with_first (place_at ps k)) n
            ∙ sym (left_alone (inst_at f e.at.inst).clobbers with_first (place_at ps (1 + (i + 6))))
            ∙ late_each (clobbered with_first) v.numbers ps 1 argument_registers vs (call_late (clobbered with_first) v.numbers ps to vs late_there) (i + 6)
            (omega arith) (omega arith)

      pauses_before : (n : ℕ) → j.at.left ≡ suc n → Pauses args q s callee to vs
      pauses_before n left_is =
          let inner : e.at.inst + 1 < (block_at f e.at.block).range.end = omega (arith, j.at.ends, left_is) in
          let read : AreRead vs = only_call (subst (λ (o : Operation). IsPlain o ⊎ IsCall o) is_call
          (ok.plain e.at.block e.at.inst j.at.block j.at.begins inner)) in
          let seen_is : q ≡ seen s.memory v = j.is_seen in
          let numbers_are : v.numbers ≡ q.numbers = sym (ap (λ (p : ProcedureState). p.numbers) seen_is) in
          record {
            state = go.to;
            comes = go.comes;
            same = go.same ∙ sym (ap (λ (p : ProcedureState). p.memory) seen_is);
            ps = ps;
            found = found_there;
            rest = behind f ops out start code args s.memory noise e (suc n);
            stands = subst (λ (o : Operation). StandAt start code.instructions go.to.pc
                (operation_code ops.memory_size o (places_of f ops out start code args s.memory noise e)
                (succs_of f ops out start code args s.memory noise e) (e.at.block + 1) ++ behind f ops out start code args s.memory noise e (suc n))) is_call
                (stands_there f ops out start code args s.memory noise ok j.sized e s j.at (suc n) left_is);
            agree = go.agree;
            fits = call_fits;
            here = λ i less.
                let n : 1 + (i + 6) ≡ i + 7 = omega arith in
                subst (λ (k : ℕ). IsHere code.slots (place_at ps k)) n
                (others_here code.slots ps 1 argument_registers vs call_placed.1 (i + 6) (omega arith) (omega arith));
            stays = λ i first less.
                late_stays first i less ∙ ap (λ (m : VirtualRegister → ℕ). slice_index (map (λ u. m u) vs) (i + 6)) numbers_are;
            given = λ k less few.
                passes go.to.registers go.to.frame found_there v.numbers go.agree code.slots ps 1 argument_registers vs call_placed.1 (are_read read) k less few
                ∙ ap (λ (m : VirtualRegister → ℕ). slice_index (map (λ u. m u) vs) k) numbers_are;
            paused = λ pc registers frame stands slots. record {
              choices = j.choices;
              c = v;
              d = e;
              together = j.together;
              is_at = ap (λ (p : ProcedureState). p.at) seen_is;
              is_numbers = ap (λ (p : ProcedureState). p.numbers) seen_is;
              callee = callee;
              arguments = arguments;
              is_call = is_call;
              left = n;
              block = j.at.block;
              begins = j.at.begins;
              ends = omega (arith, j.at.ends, left_is);
              stands = stands;
              slots = slots;
            };
          }

      pub pauses : Pauses args q s callee to vs
      pauses = pick j.at.left refl
        where
          pick : (n : ℕ) → j.at.left ≡ n → Pauses args q s callee to vs
          pick zero left_is =
              let last : e.at.inst + 1 ≡ (block_at f e.at.block).range.end = omega (arith, j.at.ends, left_is) in
              absurd (subst (λ (o : Operation). IsEnd o (length (block_at f e.at.block).succs)) is_call
              (ok.ends e.at.block e.at.inst j.at.block j.at.begins last))
          pick (suc n) left_is = pauses_before n left_is
