-- The machine's numbers agree with the places': reads, writes and moves have the same effect on both. No two places of the allocator have the same place of the
-- machine, so a write to one leaves the others' numbers.
use Rattle.std.proofs.Common.{ℕ, zero, suc, ◌≡◌, ◌+◌, Bool, true, false, cond, List, [], ◌∷◌, ◌++◌, map, Option, Some, refl, sym, ap, ◌∙◌, subst, arith}
use Rattle.std.proofs.Common.{nat_eq, lt-ltb, eqb-true, eq-eqb}
use Rattle.std.proofs.lemmas.Bool.{and_parts}
use Rattle.std.specs.Prelude.{◌&&◌}
use Rattle.std.specs.List.{AllByRecursion}
use Rattle.regalloc2_names.specs.declared.RegClass.{RegClass}
use Rattle.regalloc2_names.specs.declared.RegClass.TheVariants.{Int}
use Rattle.regalloc2_names.specs.Register.{Register, class_code}
use Rattle.regalloc2_names.specs.Place.{Place, NoPlace, InRegister, InSlot}
use Rattle.regalloc2_function.specs.OutputValue.{OutputValue, MoveValue}
use Rattle.regalloc2_function.specs.Listing.{Listed, ListedMove}
use Rattle.codegen_operation.specs.Numbers.{RunOutcome, Running, Stuck, put}
use Rattle.codegen_machine.specs.Seen.{Operations}
use Rattle.codegen_machine.specs.declared.Instruction.{Instruction}
use Rattle.codegen_machine.specs.Machine.{CodeValue, MachineState, is_general, with_register, with_source, written, frame_stored, executed}
use Rattle.codegen_emit.specs.declared.placement.MachinePlace.{MachinePlace}
use Rattle.codegen_emit.specs.declared.placement.MachinePlace.TheVariants.{Register as AtRegister, Slot as AtSlot}
use Rattle.codegen_emit.specs.Pinned.{is_allocated, slot_place, machine_place, source_at}
use Rattle.codegen_machine.specs.Calls.{is_caller_saved}
use Rattle.codegen_emit.specs.Emitted.{register_of, source_of, fetched_from, fetched, moved_to, move_code, resolved, items_code}
use Rattle.codegen.proofs.Premise.{IsGeneral, IsWithin, IsHere, CanMove}
use Rattle.codegen.proofs.Runs.{Comes, comes_here, comes_by, comes_on}
use Rattle.codegen.proofs.Stands.{StandAt}
use Rattle.regalloc2_semantics.specs.Runs.{after_moves, stored}

-- a register of the machine, as a place
abbrev pub register_place : ℕ → Place
register_place n = InRegister (record { number = n; class = Int })

-- the number in a place of the machine
abbrev pub number_in : (registers frame : ℕ → ℕ) → MachinePlace → ℕ
number_in registers frame (AtRegister r) = registers r
number_in registers frame (AtSlot k) = frame k

-- allocated registers and slots have the numbers of their places
pub record Agree (registers frame : ℕ → ℕ) (numbers : Place → ℕ) : Type 0 where
  pub in_registers : (n : ℕ) → is_allocated n ≡ true → registers n ≡ numbers (register_place n)
  pub in_slots : (k : ℕ) → number_in registers frame (slot_place k) ≡ numbers (InSlot k)

-- an allocated register holds numbers
pub holds : (n : ℕ) → is_allocated n ≡ true → is_general n ≡ true
holds n h = (and_parts (is_general n) (is_caller_saved n) h).0

-- a place that is no allocated register
abbrev IsApart : MachinePlace → Type 0
IsApart (AtRegister r) = is_allocated r ≡ false
IsApart (AtSlot k) = Unit {0}

slots_apart : (k : ℕ) → IsApart (slot_place k)
slots_apart zero = refl
slots_apart (suc zero) = refl
slots_apart (suc (suc zero)) = refl
slots_apart (suc (suc (suc zero))) = refl
slots_apart (suc (suc (suc (suc zero)))) = refl
slots_apart (suc (suc (suc (suc (suc k))))) = tt

never_both : (a b : ℕ) → is_allocated a ≡ true → is_allocated b ≡ false → a ≡ b → ⊥
never_both a b h none e = let both : true ≡ false = sym h ∙ ap (λ (n : ℕ). is_allocated n) e ∙ none in absurd cc

different : (a b : ℕ) → (a ≡ b → ⊥) → nat_eq a b ≡ false
different a b never = pick (nat_eq a b) refl
  where
    pick : (x : Bool) → nat_eq a b ≡ x → x ≡ false
    pick false e = refl
    pick true e = absurd (never (eqb-true a b e))

-- whether two places of the machine are the same
abbrev is_same : MachinePlace → MachinePlace → Bool
is_same (AtRegister a) (AtRegister b) = nat_eq a b
is_same (AtRegister a) (AtSlot b) = false
is_same (AtSlot a) (AtRegister b) = false
is_same (AtSlot a) (AtSlot b) = nat_eq a b

same_itself : (m : MachinePlace) → is_same m m ≡ true
same_itself (AtRegister r) = eq-eqb r r refl
same_itself (AtSlot k) = eq-eqb k k refl

same_true : (m n : MachinePlace) → is_same m n ≡ true → m ≡ n
same_true (AtRegister a) (AtRegister b) h = ap AtRegister (eqb-true a b h)
same_true (AtRegister a) (AtSlot b) h = absurd cc
same_true (AtSlot a) (AtRegister b) h = absurd cc
same_true (AtSlot a) (AtSlot b) h = ap AtSlot (eqb-true a b h)

-- the slot whose place it is
abbrev slot_of : MachinePlace → ℕ
slot_of (AtRegister r) = cond (nat_eq r 3) 0 (cond (nat_eq r 5) 1 (cond (nat_eq r 12) 2 (cond (nat_eq r 13) 3 4)))
slot_of (AtSlot k) = suc (suc (suc (suc (suc k))))

slot_of_place : (k : ℕ) → slot_of (slot_place k) ≡ k
slot_of_place zero = refl
slot_of_place (suc zero) = refl
slot_of_place (suc (suc zero)) = refl
slot_of_place (suc (suc (suc zero))) = refl
slot_of_place (suc (suc (suc (suc zero)))) = refl
slot_of_place (suc (suc (suc (suc (suc k))))) = refl

-- slots have different places
same_slots : (j k : ℕ) → is_same (slot_place j) (slot_place k) ≡ nat_eq j k
same_slots j k = pick (nat_eq j k) refl
  where
    never : nat_eq j k ≡ false → (x : Bool) → is_same (slot_place j) (slot_place k) ≡ x → x ≡ false
    never e false h = refl
    never e true h =
        let same : j ≡ k = sym (slot_of_place j) ∙ ap (λ (m : MachinePlace). slot_of m) (same_true (slot_place j) (slot_place k) h) ∙ slot_of_place k in
        let both : true ≡ false = sym (eq-eqb j k same) ∙ e in absurd cc

    pick : (x : Bool) → nat_eq j k ≡ x → is_same (slot_place j) (slot_place k) ≡ x
    pick true e =
        subst (λ (n : ℕ). is_same (slot_place j) (slot_place n) ≡ true) (eqb-true j k e) (same_itself (slot_place j))
    pick false e = never e (is_same (slot_place j) (slot_place k)) refl

-- the numbers of registers and of slots of the frame once a place is written
abbrev registers_with : (ℕ → ℕ) → MachinePlace → ℕ → ℕ → ℕ
registers_with registers (AtRegister r) v = put registers r v
registers_with registers (AtSlot k) v = registers

abbrev frame_with : (ℕ → ℕ) → MachinePlace → ℕ → ℕ → ℕ
frame_with frame (AtRegister r) v = frame
frame_with frame (AtSlot k) v = put frame k v

number_with : (registers frame : ℕ → ℕ) (m n : MachinePlace) (v : ℕ) →
    number_in (registers_with registers m v) (frame_with frame m v) n ≡ cond (is_same m n) v (number_in registers frame n)
number_with registers frame (AtRegister a) (AtRegister b) v = refl
number_with registers frame (AtRegister a) (AtSlot b) v = refl
number_with registers frame (AtSlot a) (AtRegister b) v = refl
number_with registers frame (AtSlot a) (AtSlot b) v = refl

-- a write to another place leaves allocated registers as they are, and a write to one of those leaves slots
register_stays : (registers : ℕ → ℕ) (m : MachinePlace) (v n : ℕ) → IsApart m → is_allocated n ≡ true → registers_with registers m v n ≡ registers n
register_stays registers (AtRegister r) v n apart h =
    ap (λ (b : Bool). cond b v (registers n)) (different r n (λ e. never_both n r h apart (sym e)))
register_stays registers (AtSlot k) v n apart h = refl

place_stays : (registers frame : ℕ → ℕ) (r v : ℕ) (m : MachinePlace) → IsApart m → is_allocated r ≡ true →
    number_in (put registers r v) frame m ≡ number_in registers frame m
place_stays registers frame r v (AtRegister q) apart h = ap (λ (b : Bool). cond b v (registers q)) (different r q (never_both r q h apart))
place_stays registers frame r v (AtSlot k) apart h = refl

pub slot_stays : (registers frame : ℕ → ℕ) (r v k : ℕ) → is_allocated r ≡ true →
    number_in (put registers r v) frame (slot_place k) ≡ number_in registers frame (slot_place k)
slot_stays registers frame r v k h = place_stays registers frame r v (slot_place k) (slots_apart k) h

-- the numbers of places, by the numbers of registers and slots
abbrev pub numbers_in : (registers frame : ℕ → ℕ) → Place → ℕ
numbers_in registers frame NoPlace = 0
numbers_in registers frame (InRegister r) = registers r.number
numbers_in registers frame (InSlot n) = number_in registers frame (slot_place n)

pub agree_at_first : (registers frame : ℕ → ℕ) → Agree registers frame (numbers_in registers frame)
agree_at_first registers frame = record { in_registers = λ n allocated. refl; in_slots = λ n. refl }

pub int_place : (r : Register) → r.class ≡ Int → register_place r.number ≡ InRegister r
int_place r h = λ i. InRegister (record { number = r.number; class = sym h i })

-- the next instruction, after a register is written
abbrev pub wrote : MachineState → ℕ → ℕ → Option (ℕ × ℕ) → MachineState
wrote s r n compared = record { pc = s.pc + 1; registers = put s.registers r n; frame = s.frame; compared = compared; memory = s.memory }

-- the next instruction, after a place is written
abbrev kept : MachineState → MachinePlace → ℕ → MachineState
kept s m n = record { pc = s.pc + 1; registers = registers_with s.registers m n; frame = frame_with s.frame m n; compared = s.compared; memory = s.memory }

-- a register read
pub reads_register : (s : MachineState) (numbers : Place → ℕ) → Agree s.registers s.frame numbers → (p : Place) → IsGeneral p →
    (go : ℕ → RunOutcome MachineState) →
    with_register s (register_of p) go ≡ go (numbers p)
reads_register s numbers a NoPlace h go = absurd h
reads_register s numbers a (InRegister r) h go =
    ap (λ (b : Bool). cond b (go (s.registers r.number)) Stuck) (holds r.number h.1)
    ∙ ap go (a.in_registers r.number h.1 ∙ ap numbers (int_place r h.0))
reads_register s numbers a (InSlot n) h go = absurd h

-- a place of the machine read
reads_place : (slots : ℕ) (s : MachineState) (m : MachinePlace) → IsWithin slots m → (go : ℕ → RunOutcome MachineState) →
    with_source slots s (source_at m) go ≡ go (number_in s.registers s.frame m)
reads_place slots s (AtRegister r) h go = ap (λ (b : Bool). cond b (go (s.registers r)) Stuck) h
reads_place slots s (AtSlot k) h go = ap (λ (b : Bool). cond b (go (s.frame k)) Stuck) (lt-ltb k slots h)

-- a register or a slot read
pub reads_source : (slots : ℕ) (s : MachineState) (numbers : Place → ℕ) → Agree s.registers s.frame numbers → (p : Place) → IsHere slots p →
    (go : ℕ → RunOutcome MachineState) →
    with_source slots s (source_of p) go ≡ go (numbers p)
reads_source slots s numbers a NoPlace h go = absurd h
reads_source slots s numbers a (InRegister r) h go = reads_register s numbers a (InRegister r) h go
reads_source slots s numbers a (InSlot n) h go = reads_place slots s (slot_place n) h go ∙ ap go (a.in_slots n)

-- the register of a place holds the place's number
pub holds_number : (registers frame : ℕ → ℕ) (numbers : Place → ℕ) → Agree registers frame numbers → (p : Place) → IsGeneral p →
    registers (register_of p) ≡ numbers p
holds_number registers frame numbers a NoPlace h = absurd h
holds_number registers frame numbers a (InRegister r) h = a.in_registers r.number h.1 ∙ ap numbers (int_place r h.0)
holds_number registers frame numbers a (InSlot n) h = absurd h

-- a register is written
pub writes : (s : MachineState) (r n : ℕ) (compared : Option (ℕ × ℕ)) → is_general r ≡ true → written s r n compared ≡ Running (wrote s r n compared)
writes s r n compared h = ap (λ (b : Bool). cond b (Running (wrote s r n compared)) Stuck) h

-- the place of a register is written
pub writes_place : (s : MachineState) (p : Place) (n : ℕ) (compared : Option (ℕ × ℕ)) → IsGeneral p →
    written s (register_of p) n compared ≡ Running (wrote s (register_of p) n compared)
writes_place s NoPlace n compared h = absurd h
writes_place s (InRegister r) n compared h = writes s r.number n compared (holds r.number h.1)
writes_place s (InSlot k) n compared h = absurd h

-- numbers still agree after a register is written
pub agree_register : (registers frame : ℕ → ℕ) (numbers : Place → ℕ) → Agree registers frame numbers → (p : Place) → IsGeneral p → (v : ℕ) →
    Agree (put registers (register_of p) v) frame (stored numbers p v)
unfolding stored
agree_register registers frame numbers a NoPlace h v = absurd h
agree_register registers frame numbers a (InRegister r) h v = record {
  in_registers = λ n allocated.
      ap (λ (k : ℕ). cond (nat_eq r.number n) v k) (a.in_registers n allocated)
      ∙ ap (λ (c : RegClass). cond (nat_eq (class_code c) 0 && nat_eq r.number n) v (numbers (register_place n))) (sym h.0);
  in_slots = λ k. slot_stays registers frame r.number v k h.1 ∙ a.in_slots k;
}
agree_register registers frame numbers a (InSlot n) h v = absurd h

-- numbers still agree after a slot is written
agree_slot : (registers frame : ℕ → ℕ) (numbers : Place → ℕ) → Agree registers frame numbers → (n v : ℕ) →
    Agree (registers_with registers (slot_place n) v) (frame_with frame (slot_place n) v) (stored numbers (InSlot n) v)
unfolding stored
agree_slot registers frame numbers a n v = record {
  in_registers = λ k allocated. register_stays registers (slot_place n) v k (slots_apart n) allocated ∙ a.in_registers k allocated;
  in_slots = λ k.
      number_with registers frame (slot_place n) (slot_place k) v
      ∙ ap (λ (b : Bool). cond b v (number_in registers frame (slot_place k))) (same_slots n k)
      ∙ ap (λ (x : ℕ). cond (nat_eq n k) v x) (a.in_slots k);
}

module _ (args : ℕ → ℕ) (slots : ℕ) (starts : ℕ → ℕ) where
  -- the number in a place of the machine is copied into a register
  pub fetches_place : (s : MachineState) (to : ℕ) → is_general to ≡ true → (m : MachinePlace) → IsWithin slots m →
      executed args slots (Some (resolved starts (fetched_from to m))) s ≡ Running (wrote s to (number_in s.registers s.frame m) s.compared)
  fetches_place s to g (AtRegister r) h =
      reads_place slots s (AtRegister r) h (λ n. written s to n s.compared) ∙ writes s to (s.registers r) s.compared g
  fetches_place s to g (AtSlot k) h = reads_place slots s (AtSlot k) h (λ n. written s to n s.compared) ∙ writes s to (s.frame k) s.compared g

  -- the number in a place is copied into a register
  pub fetches : (s : MachineState) (numbers : Place → ℕ) (to : ℕ) → is_general to ≡ true → Agree s.registers s.frame numbers → (p : Place) → IsHere slots p →
      executed args slots (Some (resolved starts (fetched to p))) s ≡ Running (wrote s to (numbers p) s.compared)
  fetches s numbers to g a NoPlace h = absurd h
  fetches s numbers to g a (InRegister r) h =
      reads_register s numbers a (InRegister r) h (λ n. written s to n s.compared) ∙ writes s to (numbers (InRegister r)) s.compared g
  fetches s numbers to g a (InSlot n) h =
      fetches_place s to g (slot_place n) h ∙ ap (λ (v : ℕ). Running (wrote s to v s.compared)) (a.in_slots n)

  -- the number in an allocated register is copied into a place of the machine
  stores : (s : MachineState) (numbers : Place → ℕ) → Agree s.registers s.frame numbers → (p : Place) → IsGeneral p → (m : MachinePlace) → IsWithin slots m →
      executed args slots (Some (resolved starts (moved_to (machine_place p) m))) s ≡ Running (kept s m (numbers p))
  stores s numbers a NoPlace g m h = absurd g
  stores s numbers a (InRegister r) g (AtRegister q) h =
      reads_register s numbers a (InRegister r) g (λ n. written s q n s.compared) ∙ writes s q (numbers (InRegister r)) s.compared h
  stores s numbers a (InRegister r) g (AtSlot k) h =
      reads_register s numbers a (InRegister r) g (λ v. frame_stored slots s k v)
      ∙ ap (λ (b : Bool). cond b (Running (kept s (AtSlot k) (numbers (InRegister r)))) Stuck) (lt-ltb k slots h)
  stores s numbers a (InSlot n) g m h = absurd g

  -- a state after a move
  record Moves (s : MachineState) (i : Instruction) (numbers : Place → ℕ) : Type 0 where
    to : MachineState
    acts : executed args slots (Some i) s ≡ Running to
    next : to.pc ≡ s.pc + 1
    agree : Agree to.registers to.frame numbers
    same : to.memory ≡ s.memory

  one_move : (s : MachineState) (numbers : Place → ℕ) (from to : Place) → Agree s.registers s.frame numbers → CanMove slots from to →
      Moves s (resolved starts (move_code from to)) (stored numbers to (numbers from))
  one_move s numbers from NoPlace a h = absurd h
  one_move s numbers from (InRegister r) a h = record {
    to = wrote s r.number (numbers from) s.compared;
    acts = fetches s numbers r.number (holds r.number h.0.1) a from h.1;
    next = refl;
    agree = agree_register s.registers s.frame numbers a (InRegister r) h.0 (numbers from);
    same = refl;
  }
  one_move s numbers from (InSlot n) a h = record {
    to = kept s (slot_place n) (numbers from);
    acts = stores s numbers a from h.1 (slot_place n) h.0;
    next = refl;
    agree = agree_slot s.registers s.frame numbers a n (numbers from);
    same = refl;
  }

module _ (operations : Operations) (out : OutputValue) (succs : List ℕ) (next : ℕ) (args : ℕ → ℕ) (starts : ℕ → ℕ) (code : CodeValue) where
  -- the machine has run the moves, up to the code after them
  pub record Moved (s : MachineState) (numbers : Place → ℕ) (rest : List Listed) : Type 0 where
    pub to : MachineState
    pub comes : Comes code args 0 s to
    pub agree : Agree to.registers to.frame numbers
    pub stands : StandAt starts code.instructions to.pc (items_code operations out succs next rest)
    pub same : to.memory ≡ s.memory

  -- moves run as the places' do
  pub moves_run : (ms : List MoveValue) (rest : List Listed) (s : MachineState) (numbers : Place → ℕ) →
      AllByRecursion (λ m. CanMove code.slots m.from m.to) ms →
      Agree s.registers s.frame numbers → StandAt starts code.instructions s.pc (items_code operations out succs next (map (λ m. ListedMove m) ms ++ rest)) →
      Moved s (after_moves ms numbers) rest
  unfolding after_moves items_code
  moves_run [] rest s numbers can a h = record { to = s; comes = comes_here code args s; agree = a; stands = h; same = refl }
  moves_run (m ∷ ms) rest s numbers can a h =
      let one : Moves args code.slots starts s (resolved starts (move_code m.from m.to)) (stored numbers m.to (numbers m.from)) =
      one_move args code.slots starts s numbers m.from m.to a can.0 in
      let others : StandAt starts code.instructions one.to.pc (items_code operations out succs next (map (λ m. ListedMove m) ms ++ rest)) =
      subst (λ (n : ℕ). StandAt starts code.instructions n (items_code operations out succs next (map (λ m. ListedMove m) ms ++ rest))) (sym one.next) h.1 in
      let all : Moved one.to (after_moves ms (stored numbers m.to (numbers m.from))) rest =
      moves_run ms rest one.to (stored numbers m.to (numbers m.from)) can.1 one.agree others in
      let first : Comes code args 1 s one.to = comes_by code args (resolved starts (move_code m.from m.to)) s one.to h.0 one.acts in
      record {
        to = all.to;
        comes = comes_on code args 1 0 0 s one.to all.to (omega arith) first all.comes;
        agree = all.agree;
        stands = all.stands;
        same = all.same ∙ one.same;
      }
