-- The arguments of a call that are passed on the stack: each is copied to its outgoing word. Registers and slots keep their numbers meanwhile, but for register 0.
-- Whatever register 0 holds, the places of these arguments have their numbers, since their uses are late, and the call writes its result there.
use Rattle.std.proofs.Common.{ℕ, zero, suc, ◌≡◌, ◌+◌, ◌-◌, ◌<◌, ◌≤◌, Bool, true, false, cond, List, [], ◌∷◌, ◌++◌, Some, refl, sym, ap, ◌∙◌, subst, arith}
use Rattle.std.proofs.Common.{nat_eq, eq-eqb, eqb-true, le-ltb, lt-ltb, append_assoc, ⊎_elim}
use Rattle.std.proofs.lemmas.Bool.{cases_lt}
use Rattle.std.specs.Prelude.{slice_get}
use Rattle.regalloc2_names.specs.Place.{Place, NoPlace, InRegister, InSlot}
use Rattle.regalloc2_function.specs.OutputValue.{place_at}
use Rattle.codegen_operation.specs.Numbers.{put}
use Rattle.codegen_machine.specs.declared.Instruction.{Instruction}
use Rattle.codegen_machine.specs.declared.Instruction.TheVariants.{Call, Load}
use Rattle.codegen_machine.specs.Calls.{FunctionCode, Stack, StackState, argument_register, arguments_passed}
use Rattle.codegen_machine.specs.Machine.{MachineState}
use Rattle.codegen_emit.specs.declared.placement.MachinePlace.{MachinePlace}
use Rattle.codegen_emit.specs.declared.placement.MachinePlace.TheVariants.{Register as AtRegister, Slot as AtSlot}
use Rattle.codegen_emit.specs.Pinned.{is_allocated, machine_place, slot_place}
use Rattle.codegen_emit.specs.Emitted.{call_code, pass_code, passed_from, passes_code}
use Rattle.codegen.proofs.Premise.{IsHere, IsWithin}
use Rattle.codegen.proofs.Runs.{comes_by}
use Rattle.codegen.proofs.Stands.{StandAt}
use Rattle.codegen.proofs.Places.{Agree, fetches_place, holds, int_place, number_in, register_place, slot_stays, wrote}
use Rattle.codegen.proofs.Activations.{StackComes, activation_with, comes_lifted, comes_passing, stack_here, stack_on}
use Rattle.regalloc2_semantics.specs.Runs.{stored}

-- a place of the machine for a number, and the number in it
place_within : (slots : ℕ) (p : Place) → IsHere slots p → IsWithin slots (machine_place p)
place_within slots NoPlace h = absurd h
place_within slots (InRegister r) h = holds r.number h.1
place_within slots (InSlot n) h = h

number_is : (registers frame : ℕ → ℕ) (m : Place → ℕ) → Agree registers frame m → (slots : ℕ) (p : Place) → IsHere slots p →
    number_in registers frame (machine_place p) ≡ m p
number_is registers frame m a slots NoPlace h = absurd h
number_is registers frame m a slots (InRegister r) h = a.in_registers r.number h.1 ∙ ap m (int_place r h.0)
number_is registers frame m a slots (InSlot n) h = a.in_slots n

-- registers and slots agree with the numbers of places, but for register 0, which holds another
abbrev pub AgreeBut : (registers frame : ℕ → ℕ) → (Place → ℕ) → ℕ → Type 0
AgreeBut registers frame m first = Agree registers frame (stored m (register_place 0) first)

-- at first, register 0 holds its own number
pub agree_but : (registers frame : ℕ → ℕ) (m : Place → ℕ) → Agree registers frame m → AgreeBut registers frame m (registers 0)
unfolding stored
agree_but registers frame m a = record {
  in_registers = λ n allocated. pick n allocated (nat_eq 0 n) refl;
  in_slots = a.in_slots;
}
  where
    pick : (n : ℕ) → is_allocated n ≡ true → (b : Bool) → nat_eq 0 n ≡ b → registers n ≡ cond b (registers 0) (m (register_place n))
    pick n allocated true e = let none : 0 ≡ n = eqb-true 0 n e in ap registers (sym none)
    pick n allocated false e = a.in_registers n allocated

-- after a write, register 0 holds the number written
agree_again : (registers frame : ℕ → ℕ) (m : Place → ℕ) (first n : ℕ) → AgreeBut registers frame m first → AgreeBut (put registers 0 n) frame m n
unfolding stored
agree_again registers frame m first n a = record {
  in_registers = λ k allocated. pick k (nat_eq 0 k) refl (a.in_registers k allocated);
  in_slots = λ k. slot_stays registers frame 0 n k refl ∙ a.in_slots k;
}
  where
    pick : (k : ℕ) (b : Bool) → nat_eq 0 k ≡ b → registers k ≡ cond (nat_eq 0 k) first (m (register_place k)) →
        cond b n (registers k) ≡ cond b n (m (register_place k))
    pick k true e h = refl
    pick k false e h = h ∙ ap (λ (b : Bool). cond b first (m (register_place k))) e

-- the words before the one that is written
other_word : (words : ℕ → ℕ) (k n i : ℕ) → i < k → put words k n i ≡ words i
other_word words k n i less = pick (nat_eq k i) refl
  where
    pick : (b : Bool) → nat_eq k i ≡ b → cond b n (words i) ≡ words i
    pick false e = refl
    pick true e = let same : k ≡ i = eqb-true k i e in absurd (omega (arith, same))

this_word : (words : ℕ → ℕ) (k n : ℕ) → put words k n k ≡ n
this_word words k n = ap (λ (b : Bool). cond b n (words k)) (eq-eqb k k refl)

other_register : (registers : ℕ → ℕ) (n r : ℕ) → nat_eq 0 r ≡ false → put registers 0 n r ≡ registers r
other_register registers n r e = ap (λ (b : Bool). cond b n (registers r)) e

-- no register that passes an argument is register 0
argument_apart : (k : ℕ) → nat_eq 0 (argument_register k) ≡ false
argument_apart zero = refl
argument_apart (suc zero) = refl
argument_apart (suc (suc zero)) = refl
argument_apart (suc (suc (suc zero))) = refl
argument_apart (suc (suc (suc (suc zero)))) = refl
argument_apart (suc (suc (suc (suc (suc zero))))) = refl
argument_apart (suc (suc (suc (suc (suc (suc k)))))) = refl

module _ (functions : List FunctionCode) (stack : Stack) (f : FunctionCode) (starts : ℕ → ℕ) (m : Place → ℕ) where
  -- the machine has passed arguments: its registers but register 0, and its slots, are as before
  pub record Passed (t : StackState) (rest : List Instruction) : Type 0 where
    pub state : MachineState
    pub words : ℕ → ℕ
    pub first : ℕ
    pub comes : StackComes functions stack 0 t (activation_with t state words)
    pub agree : AgreeBut state.registers state.frame m first
    pub stands : StandAt starts f.code.instructions state.pc rest
    pub same : state.memory ≡ t.state.memory
    pub others : (r : ℕ) → nat_eq 0 r ≡ false → state.registers r ≡ t.state.registers r

  -- one argument, in a place of the machine
  record PassedOne (t : StackState) (rest : List Instruction) (k n : ℕ) : Type 0 where
    all : Passed t rest
    this : all.words k ≡ n
    before : (i : ℕ) → i < k → all.words i ≡ t.outgoing i

  one_from : (t : StackState) → slice_get functions t.function ≡ Some f → (first : ℕ) → AgreeBut t.state.registers t.state.frame m first →
      (k : ℕ) → k < f.code.outgoing → (p : MachinePlace) → IsWithin f.code.slots p → (rest : List Instruction) →
      StandAt starts f.code.instructions t.state.pc (passed_from k p ++ rest) →
      PassedOne t rest k (number_in t.state.registers t.state.frame p)
  one_from t is first a k fits (AtRegister r) within rest h =
      let s : MachineState = t.state in
      let to : MachineState = record { pc = s.pc + 1; registers = s.registers; frame = s.frame; compared = s.compared; memory = s.memory } in
      let words : ℕ → ℕ = put t.outgoing k (s.registers r) in
      record {
        all = record {
          state = to;
          words = words;
          first = first;
          comes = stack_on functions stack 0 1 0 t t (activation_with t to words) (omega arith) (stack_here functions stack t)
              (comes_passing functions stack t f is s k r h.0 fits within);
          agree = a;
          stands = h.1;
          same = refl;
          others = λ q e. refl;
        };
        this = this_word t.outgoing k (s.registers r);
        before = λ i less. other_word t.outgoing k (s.registers r) i less;
      }
  one_from t is first a k fits (AtSlot j) within rest h =
      let s : MachineState = t.state in
      let n : ℕ = s.frame j in
      let u : MachineState = wrote s 0 n s.compared in
      let to : MachineState = record { pc = u.pc + 1; registers = u.registers; frame = u.frame; compared = u.compared; memory = u.memory } in
      let words : ℕ → ℕ = put t.outgoing k n in
      record {
        all = record {
          state = to;
          words = words;
          first = n;
          comes = stack_on functions stack 1 1 0 t (activation_with t u t.outgoing) (activation_with t to words) (omega arith)
              (comes_lifted functions stack t f is 1 s u (comes_by f.code t.args (Load 0 j) s u h.0
              (fetches_place t.args f.code.slots starts s 0 refl (AtSlot j) within)))
              (comes_passing functions stack t f is u k 0 h.1.0 fits refl);
          agree = agree_again s.registers s.frame m first n a;
          stands = h.1.1;
          same = refl;
          others = λ q e. other_register s.registers n q e;
        };
        this = this_word t.outgoing k n;
        before = λ i less. other_word t.outgoing k n i less;
      }

  module _ (ps : List Place) (count : ℕ) (fits : count ≤ f.code.outgoing) (numbers : ℕ → ℕ)
      (here : (i : ℕ) → i < count → IsHere f.code.slots (place_at ps (i + 7)))
      (stays : (i first : ℕ) → i < count → stored m (register_place 0) first (place_at ps (i + 7)) ≡ numbers i) where
    -- one argument is passed after the others
    one_passed : (k : ℕ) → k < count → (t : StackState) → slice_get functions t.function ≡ Some f → (first : ℕ) →
        AgreeBut t.state.registers t.state.frame m first → (rest : List Instruction) →
        StandAt starts f.code.instructions t.state.pc (pass_code k (place_at ps (k + 7)) ++ rest) → PassedOne t rest k (numbers k)
    one_passed k less t is first a rest h =
        subst (λ (n : ℕ). PassedOne t rest k n)
        (number_is t.state.registers t.state.frame (stored m (register_place 0) first) a f.code.slots (place_at ps (k + 7)) (here k less) ∙ stays k first less)
        (one_from t is first a k (omega (arith, fits)) (machine_place (place_at ps (k + 7))) (place_within f.code.slots (place_at ps (k + 7)) (here k less)) rest h)

    record PassedAll (t : StackState) (rest : List Instruction) (n : ℕ) : Type 0 where
      all : Passed t rest
      each : (i : ℕ) → i < n → all.words i ≡ numbers i

    one_more : (n : ℕ) (t : StackState) (rest code : List Instruction) (front : PassedAll t (code ++ rest) n) →
        PassedOne (activation_with t front.all.state front.all.words) rest n (numbers n) → PassedAll t rest (suc n)
    one_more n t rest code front last = record {
      all = record {
        state = last.all.state;
        words = last.all.words;
        first = last.all.first;
        comes = stack_on functions stack 0 0 0 t (activation_with t front.all.state front.all.words) (activation_with t last.all.state last.all.words)
            (omega arith) front.all.comes last.all.comes;
        agree = last.all.agree;
        stands = last.all.stands;
        same = last.all.same ∙ front.all.same;
        others = λ r e. last.all.others r e ∙ front.all.others r e;
      };
      each = λ i less. ⊎_elim
          (λ before. last.before i before ∙ front.each i before)
          (λ after.
          let e : n ≡ i = omega arith in
          subst (λ (k : ℕ). last.all.words k ≡ numbers k) e last.this)
          (cases_lt i n);
    }

    -- the first n stack arguments are passed
    pass_all : (n : ℕ) → n ≤ count → (t : StackState) → slice_get functions t.function ≡ Some f → (first : ℕ) →
        AgreeBut t.state.registers t.state.frame m first → (rest : List Instruction) →
        StandAt starts f.code.instructions t.state.pc (passes_code n ps ++ rest) → PassedAll t rest n
    unfolding passes_code
    pass_all zero le t is first a rest h = record {
      all = record {
        state = t.state;
        words = t.outgoing;
        first = first;
        comes = stack_here functions stack t;
        agree = a;
        stands = h;
        same = refl;
        others = λ r e. refl;
      };
      each = λ i less. absurd (omega arith);
    }
    pass_all (suc n) le t is first a rest h =
        let code : List Instruction = pass_code n (place_at ps (n + 7)) in
        let front : PassedAll t (code ++ rest) n = pass_all n (omega arith) t is first a (code ++ rest)
        (subst (λ (c : List Instruction). StandAt starts f.code.instructions t.state.pc c) (append_assoc (passes_code n ps) code rest) h) in
        one_more n t rest code front
        (one_passed n (omega arith) (activation_with t front.all.state front.all.words) is front.all.first front.all.agree rest front.all.stands)

  -- the machine is at the call instruction, with all arguments passed
  pub record IsCalling (t : StackState) (g : ℕ) (rest : List Instruction) (count : ℕ) (numbers : ℕ → ℕ) : Type 0 where
    pub state : MachineState
    pub words : ℕ → ℕ
    pub comes : StackComes functions stack 0 t (activation_with t state words)
    pub instruction : slice_get f.code.instructions state.pc ≡ Some (Call g)
    pub stands : StandAt starts f.code.instructions (state.pc + 1) rest
    pub same : state.memory ≡ t.state.memory
    pub slots : (k : ℕ) → number_in state.registers state.frame (slot_place k) ≡ m (InSlot k)
    pub arguments : (k : ℕ) → k < count → arguments_passed (activation_with t state words) k ≡ numbers k

  module _ (t : StackState) (is : slice_get functions t.function ≡ Some f) (g count : ℕ) (ps : List Place) (rest : List Instruction) (numbers : ℕ → ℕ)
      (a : Agree t.state.registers t.state.frame m) (h : StandAt starts f.code.instructions t.state.pc (call_code g count ps ++ rest))
      (fits : count - 6 ≤ f.code.outgoing) (here : (i : ℕ) → i < count - 6 → IsHere f.code.slots (place_at ps (i + 7)))
      (stays : (i first : ℕ) → i < count - 6 → stored m (register_place 0) first (place_at ps (i + 7)) ≡ numbers (i + 6))
      (given : (k : ℕ) → k < count → k < 6 → t.state.registers (argument_register k) ≡ numbers k) where
    passed : PassedAll ps (count - 6) fits (λ i. numbers (i + 6)) here stays t (Call g ∷ rest) (count - 6)
    passed = pass_all ps (count - 6) fits (λ i. numbers (i + 6)) here stays (count - 6) (omega arith) t is (t.state.registers 0)
        (agree_but t.state.registers t.state.frame m a) (Call g ∷ rest)
        (subst (λ (c : List Instruction). StandAt starts f.code.instructions t.state.pc c) (append_assoc (passes_code (count - 6) ps) (Call g ∷ []) rest) h)

    abbrev at : StackState
    at = activation_with t passed.all.state passed.all.words

    -- each argument
    each : (k : ℕ) → k < count → arguments_passed at k ≡ numbers k
    each k less = ⊎_elim
        (λ small.
        ap (λ (b : Bool). cond b (passed.all.state.registers (argument_register k)) (passed.all.words (k - 6))) (lt-ltb k 6 small)
        ∙ passed.all.others (argument_register k) (argument_apart k) ∙ given k less small)
        (λ large.
        let e : k - 6 + 6 ≡ k = omega arith in
        ap (λ (b : Bool). cond b (passed.all.state.registers (argument_register k)) (passed.all.words (k - 6))) (le-ltb k 6 large)
        ∙ passed.each (k - 6) (omega arith) ∙ ap numbers e)
        (cases_lt k 6)

    slots_kept : (k : ℕ) → number_in passed.all.state.registers passed.all.state.frame (slot_place k) ≡ m (InSlot k)
    unfolding stored
    slots_kept k = passed.all.agree.in_slots k

    pub calling : IsCalling t g rest count numbers
    calling = record {
      state = passed.all.state;
      words = passed.all.words;
      comes = passed.all.comes;
      instruction = passed.all.stands.0;
      stands = passed.all.stands.1;
      same = passed.all.same;
      slots = slots_kept;
      arguments = each;
    }
