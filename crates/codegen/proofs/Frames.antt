-- The frames of a module and the activations of its code, related one by one; and a step of each.
use Rattle.std.proofs.Common.{ℕ, zero, suc, ◌≡◌, ◌+◌, ◌<◌, ◌⊎◌, inl, inr, Bool, true, false, cond, List, [], ◌∷◌, map, length, Option, Some, None, refl, sym}
use Rattle.std.proofs.Common.{ap, ◌∙◌, subst, arith, eqb-true, ltb-true}
use Rattle.std.specs.Global.{Vec}
use Rattle.std.specs.Prelude.{slice_get, slice_index, option_map}
use Rattle.std.specs.List.{list_all}
use Rattle.std.proofs.lemmas.Bool.{and_parts}
use Rattle.std.proofs.lemmas.Option.{slice_get-get_or, slice_get-map}
use Rattle.regalloc2_names.specs.Register.{VirtualRegister}
use Rattle.regalloc2_names.specs.Place.{Place}
use Rattle.regalloc2_function.specs.FunctionValue.{FunctionValue}
use Rattle.regalloc2_semantics.specs.Runs.{Location, first_of}
use Rattle.codegen_operation.specs.Numbers.{RunOutcome, Running, Returned, Trapped, Overflowed, Stuck, put}
use Rattle.codegen_machine.specs.Meaning.{ProcedureState, done, onward, procedure_step}
use Rattle.codegen_machine.specs.Successors.{operations_of}
use Rattle.codegen_machine.specs.Seen.{Operations, function_of_procedure, operations}
use Rattle.codegen_machine.specs.Modules.{arities_of, calls_function, procedures_of, reads_argument, takes}
use Rattle.codegen_machine.specs.Frames.{CallValue, ModuleState, SuspendedFrame, call_on, frame_called, frame_entered, frame_stepped, line_done, returned_to}
use Rattle.codegen_machine.specs.Frames.{step_in, suspended}
use Rattle.codegen_machine.specs.declared.module.Module.{Module}
use Rattle.codegen_machine.specs.declared.module.NamedProcedure.{NamedProcedure}
use Rattle.codegen_operation.specs.declared.operation.Operation.{Operation}
use Rattle.codegen_operation.specs.declared.operation.Operation.TheVariants.{Argument as TakeArgument, Jump as GoTo, Call as Calling}
use Rattle.codegen_machine.specs.declared.procedure.Procedure.{Procedure}
use Rattle.codegen_machine.specs.Calls.{FunctionCode, Stack, StackState, SuspendedActivation, activated, activation_of, arguments_passed, calling, exceeds}
use Rattle.codegen_machine.specs.Calls.{registers_returned, returned_into, stack_begun, stack_run, stack_step, suspended_at, words_taken}
use Rattle.codegen_machine.specs.Machine.{MachineState}
use Rattle.codegen_emit.specs.Emitted.{operation_at}
use Rattle.codegen.specs.Behaves.{Beginning, words_needed}
use Rattle.codegen.proofs.Premise.{IsCall}
use Rattle.codegen.proofs.Choices.{AlikeByChoices}
use Rattle.codegen.proofs.Chosen.{chosen_run_alike}
use Rattle.codegen.proofs.Places.{agree_at_first, numbers_in}
use Rattle.codegen.proofs.Simulation.{inside}
use Rattle.codegen.proofs.Joined.{AreJoined, Meets, begin_joined, step_meets}
use Rattle.codegen.proofs.Calling.{IsPaused, Pauses, pauses, resumes}
use Rattle.codegen.proofs.Passing.{IsCalling, calling as called_with}
use Rattle.codegen.proofs.Activations.{StackComes, Returns, activation_in, activation_with, comes_lifted, ends_in_one, return_lifted, stack_by, stack_ends, stack_on, steps_into, trap_lifted}
use Rattle.codegen.proofs.Modules.{IsCompiled}
use Rattle.codegen.proofs.Behaving.{Begin, Follows, one_step}

-- what holds of all holds of each
pub each_of : {X : Type 0} (p : X → Bool) (xs : List X) (i : ℕ) (x : X) → list_all p xs ≡ true → slice_get xs i ≡ Some x → p x ≡ true
each_of p [] i x h e = absurd cc
each_of p (y ∷ xs) zero x h e = let same : y ≡ x = cc in subst (λ (z : _). p z ≡ true) same (and_parts _ _ h).0
each_of p (y ∷ xs) (suc i) x h e = each_of p xs i x (and_parts _ _ h).1 e

one_entry : {X : Type 0} {x y : X} → Some x ≡ Some y → x ≡ y
one_entry {X} {x} {y} e = cc

-- an entry of a list's image is that of an entry
pub mapped : {X Y : Type 0} (v : X → Y) (xs : List X) (i : ℕ) (y : Y) → slice_get (map v xs) i ≡ Some y → (x : X) × (slice_get xs i ≡ Some x) × (v x ≡ y)
mapped v [] i y e = absurd cc
mapped v (x ∷ xs) zero y e = (x, refl, (let same : v x ≡ y = cc in same))
mapped v (x ∷ xs) (suc i) y e = mapped v xs i y e

-- a procedure's step depends on its own arguments only
module _ (f : FunctionValue) (ops : Operations) (arity : ℕ) (a b : ℕ → ℕ) (same : (k : ℕ) → k < arity → a k ≡ b k) where
  same_done : (o : Operation) (q : ProcedureState) → reads_argument arity o ≡ true → done f a (Some o) q ≡ done f b (Some o) q
  same_done (TakeArgument to k) q h = ap (λ (n : ℕ). onward q to n) (same k (ltb-true _ _ h))
  same_done o q h = refl

  pub same_step : (q : ProcedureState) → list_all (reads_argument arity) ops.items ≡ true → procedure_step f ops a q ≡ procedure_step f ops b q
  same_step q h = pick (slice_get ops.items q.at.inst) refl
    where
      pick : (o : Option Operation) → slice_get ops.items q.at.inst ≡ o → done f a o q ≡ done f b o q
      pick None e = refl
      pick (Some o) e = same_done o q (each_of (reads_argument arity) ops.items q.at.inst o h e)

-- the call on a line
record IsCallOf (o : Operation) (c : CallValue) : Type 0 where
  arguments : Vec VirtualRegister
  is : o ≡ Calling c.function c.to arguments
  are : c.arguments ≡ arguments.items

call_of : (o : Operation) (c : CallValue) → call_on (Some o) ≡ Some c → IsCallOf o c
call_of (Calling g to arguments) c e =
    let same : ◌≡◌ {A = CallValue} (record { function = g; to = to; arguments = arguments.items }) c = cc in
    record {
      arguments = arguments;
      is = ap (λ (x : CallValue). Calling x.function x.to arguments) same;
      are = ap (λ (x : CallValue). x.arguments) (sym same);
    }
call_of o c e = absurd cc

no_call : (o : Operation) → call_on (Some o) ≡ None → IsCall o → ⊥
no_call (Calling g to arguments) e h = absurd cc
no_call o e h = h

some_taken : (o : Option ℕ) (n : ℕ) → takes o n ≡ true → o ≡ Some n
some_taken None n e = absurd cc
some_taken (Some k) n e = ap Some (eqb-true k n e)

module _ (ps : List NamedProcedure) (code : List FunctionCode) (size : ℕ) (fresh : VirtualRegister → ℕ) where
  -- a function of the module, and its code
  pub record Known (g : ℕ) : Type 0 where
    pub named : NamedProcedure
    pub is_named : slice_get ps g ≡ Some named
    pub function : FunctionCode
    pub is_code : slice_get code g ≡ Some function
    pub compiled : IsCompiled named.procedure function.code
    pub sized : named.procedure.memory_size ≡ size
    pub reads : list_all (reads_argument named.arity) (operations_of named.procedure.lines.items) ≡ true
    pub calls : list_all (calls_function (arities_of ps)) (operations_of named.procedure.lines.items) ≡ true

  module _ {g : ℕ} (k : Known g) where
    abbrev pub function_at : FunctionValue
    function_at = function_of_procedure k.named.procedure

    abbrev pub operations_at : Operations
    operations_at = operations k.named.procedure

    abbrev pub Joins : (Place → ℕ) → ProcedureState → MachineState → Type 0
    Joins places q s = AreJoined function_at operations_at k.compiled.out k.compiled.start k.function.code fresh places q s

    abbrev pub PausedAt : (Place → ℕ) → Location → (VirtualRegister → ℕ) → VirtualRegister → ℕ → (ℕ → ℕ) → (ℕ → ℕ) → Type 0
    PausedAt places at numbers to pc registers frame =
        IsPaused function_at operations_at k.compiled.out k.compiled.start k.function.code fresh places at numbers to pc registers frame

    alike_at : (places : Place → ℕ) → AlikeByChoices function_at k.compiled.out fresh places
    alike_at places = chosen_run_alike function_at k.compiled.out k.compiled.alike fresh places

    procedure_at : slice_get (procedures_of ps) g ≡ Some k.named.procedure
    procedure_at = slice_get-map (λ p. p.procedure) ps g ∙ ap (option_map (λ p. p.procedure)) k.is_named

  -- a suspended frame and a suspended activation
  pub record Waits (c : SuspendedFrame) (a : SuspendedActivation) : Type 0 where
    pub known : Known c.procedure
    pub same : a.function ≡ c.procedure
    pub args : (k : ℕ) → k < known.named.arity → a.args k ≡ c.args k
    pub places : Place → ℕ
    pub paused : PausedAt known places c.at c.numbers c.to a.pc a.registers a.frame

  abbrev pub AreWaiting : List SuspendedFrame → List SuspendedActivation → Type 0
  AreWaiting [] [] = Unit {0}
  AreWaiting [] (a ∷ acts) = ⊥
  AreWaiting (c ∷ cs) [] = ⊥
  AreWaiting (c ∷ cs) (a ∷ acts) = Waits c a × AreWaiting cs acts

  -- suspended frames and suspended activations are of the same functions
  same_functions : (cs : List SuspendedFrame) (acts : List SuspendedActivation) → AreWaiting cs acts → calling acts ≡ map (λ c. c.procedure) cs
  same_functions [] [] h = refl
  same_functions [] (a ∷ acts) h = absurd h
  same_functions (c ∷ cs) [] h = absurd h
  same_functions (c ∷ cs) (a ∷ acts) h =
      ap (λ (g : ℕ). g ∷ calling acts) h.0.same ∙ ap (λ (gs : List ℕ). c.procedure ∷ gs) (same_functions cs acts h.1)

  -- the states of module and code
  pub record AreRelated (s : ModuleState) (t : StackState) : Type 0 where
    pub known : Known s.procedure
    pub same : t.function ≡ s.procedure
    pub args : (k : ℕ) → k < known.named.arity → t.args k ≡ s.args k
    pub places : Place → ℕ
    pub joined : Joins known places s.state t.state
    pub callers : AreWaiting s.callers t.callers

  -- a new frame, and a new activation
  abbrev pub entered : ℕ → Procedure → (ℕ → ℕ) → List ℕ → List SuspendedFrame → ModuleState
  entered g p args memory cs = record {
    procedure = g;
    args = args;
    state = record { at = first_of (function_of_procedure p) 0; numbers = fresh; memory = memory };
    callers = cs;
  }

  enters : (stack : Stack) (g : ℕ) (k : Known g) (args own : ℕ → ℕ) (memory left : List ℕ) (cs : List SuspendedFrame) (acts : List SuspendedActivation) (n : ℕ) →
      ((i : ℕ) → i < k.named.arity → own i ≡ args i) → left ≡ memory → length memory ≡ size → AreWaiting cs acts →
      AreRelated (entered g k.named.procedure args memory cs) (activation_of code stack g own left acts n)
  enters stack g k args own memory left cs acts n same_args same_memory sized waiting = record {
    known = k;
    same = refl;
    args = same_args;
    places = numbers_in (stack.registers n) (stack.frames n);
    joined = subst (λ (bytes : List ℕ). Joins k (numbers_in (stack.registers n) (stack.frames n))
        (record { at = first_of (function_at k) 0; numbers = fresh; memory = bytes }) (first left)) same_memory
        (begin_joined (function_at k) (operations_at k) k.compiled.out k.compiled.start k.function.code fresh (numbers_in (stack.registers n) (stack.frames n))
        k.compiled.emitted (alike_at k (numbers_in (stack.registers n) (stack.frames n))) (first left) (agree_at_first (stack.registers n) (stack.frames n))
        (ap (λ (bytes : List ℕ). length bytes) same_memory ∙ sized ∙ sym k.sized) refl);
    callers = waiting;
  }
    where
      first : List ℕ → MachineState
      first bytes = record { pc = 0; registers = stack.registers n; frame = stack.frames n; compared = None; memory = bytes }

module _ (m : Module) (code : List FunctionCode) (b : Beginning m.memory_size) where
  abbrev ps : List NamedProcedure
  ps = m.procedures.items

  abbrev pub IsKnown : ℕ → Type 0
  IsKnown g = Known ps code m.memory_size b.numbers g

  abbrev pub AreAt : ModuleState → StackState → Type 0
  AreAt s t = AreRelated ps code m.memory_size b.numbers s t

  abbrev Waiting : List SuspendedFrame → List SuspendedActivation → Type 0
  Waiting cs acts = AreWaiting ps code m.memory_size b.numbers cs acts

  abbrev FollowsAt : StackState → RunOutcome ModuleState → Type 0
  FollowsAt t o = Follows m code b AreAt t o

  -- a return into the newest caller, or from the first frame
  returned : (cs : List SuspendedFrame) (acts : List SuspendedActivation) → Waiting cs acts → (n : ℕ) (left : List ℕ) → length left ≡ m.memory_size →
      (t u : StackState) → StackComes code b.stack 0 t u → stack_step code b.stack u ≡ returned_into u acts n left → FollowsAt t (returned_to cs n left)
  returned [] [] h n left sized t u comes step =
      stack_ends code b.stack 0 1 t u (Returned n left) comes (ends_in_one code b.stack u (Returned n left) tt step)
  returned [] (a ∷ acts) h n left sized t u comes step = absurd h
  returned (c ∷ cs) [] h n left sized t u comes step = absurd h
  returned (c ∷ cs) (a ∷ acts) h n left sized t u comes step = inl (
    v,
    stack_on code b.stack 0 1 1 t u v (omega arith) comes (stack_by code b.stack u v step),
    record {
      known = w.known;
      same = w.same;
      args = w.args;
      places = w.places;
      joined = resumes (function_at _ _ _ _ w.known) (operations_at _ _ _ _ w.known) w.known.compiled.out w.known.compiled.start w.known.function.code
          b.numbers w.places w.known.compiled.emitted (alike_at _ _ _ _ w.known w.places) c.at c.numbers c.to a.pc a.registers a.frame w.paused n left
          u.state.registers (sized ∙ sym w.known.sized);
      callers = h.1;
    },
  )
    where
      w : Waits ps code m.memory_size b.numbers c a
      w = h.0

      v : StackState
      v = record {
        function = a.function;
        args = a.args;
        state = record {
          pc = a.pc;
          registers = registers_returned a.registers (put u.state.registers 0 n);
          frame = a.frame;
          compared = None;
          memory = left;
        };
        outgoing = a.outgoing;
        callers = acts;
        activations = u.activations;
      }

  module _ (all : (g : ℕ) (p : NamedProcedure) → slice_get ps g ≡ Some p → IsKnown g) (s : ModuleState) (t : StackState) (r : AreAt s t) where
    abbrev f : FunctionValue
    f = function_at _ _ _ _ r.known

    abbrev ops : Operations
    ops = operations_at _ _ _ _ r.known

    abbrev own : FunctionCode
    own = r.known.function

    -- the code of the running function
    is_own : slice_get code t.function ≡ Some own
    is_own = ap (λ (g : ℕ). slice_get code g) r.same ∙ r.known.is_code

    -- a step within the frame
    stepped : (o : RunOutcome ProcedureState) →
        Meets own.code t.args ops.memory_size (Joins ps code m.memory_size b.numbers r.known r.places) t.state o → FollowsAt t (frame_stepped s o)
    stepped (Running q) h = inl (
      activation_in t h.0,
      comes_lifted code b.stack t own is_own 1 t.state h.0 h.1,
      record { known = r.known; same = r.same; args = r.args; places = r.places; joined = h.2; callers = r.callers },
    )
    stepped (Returned n left) h =
        let k : Returns code b.stack t own is_own t.state n left = return_lifted code b.stack t own is_own h.0 t.state n left h.1 in
        returned s.callers t.callers r.callers n left (h.2 ∙ r.known.sized) t (activation_in t k.at) k.comes k.steps
    stepped (Trapped left) h = trap_lifted code b.stack t own is_own h.0 t.state left h.1
    stepped Overflowed h = h
    stepped Stuck h = h

    same_inst : s.state.at.inst ≡ r.joined.d.at.inst
    same_inst =
        ap (λ (q : ProcedureState). q.at.inst) r.joined.is_seen
        ∙ sym (ap (λ (l : Location). l.inst) ((alike_at ps code m.memory_size b.numbers r.known r.places).alike r.joined.choices r.joined.c r.joined.d r.joined.together).at)

    -- the operation of the line
    here_is : slice_get ops.items s.state.at.inst ≡ Some (operation_at ops r.joined.d.at.inst)
    here_is =
        ap (λ (i : ℕ). slice_get ops.items i) same_inst
        ∙ slice_get-get_or ops.items r.joined.d.at.inst GoTo (omega (
          arith,
          r.known.compiled.emitted.counted,
          inside f ops r.known.compiled.out r.known.compiled.start own.code t.args t.state.memory (λ p. 0) r.known.compiled.emitted r.joined.sized r.joined.d t.state
              r.joined.at,
        ))

    within : call_on (slice_get ops.items s.state.at.inst) ≡ None → FollowsAt t (frame_stepped s (procedure_step f ops s.args s.state))
    within none =
        let not_call : IsCall (operation_at ops r.joined.d.at.inst) → ⊥ =
        no_call (operation_at ops r.joined.d.at.inst) (ap (λ (o : Option Operation). call_on o) (sym here_is) ∙ none) in
        subst (λ (o : RunOutcome ProcedureState). FollowsAt t (frame_stepped s o))
        (same_step f ops r.known.named.arity t.args s.args r.args s.state r.known.reads)
        (stepped (procedure_step f ops t.args s.state)
        (step_meets f ops r.known.compiled.out r.known.compiled.start own.code b.numbers r.places r.known.compiled.emitted
        (alike_at ps code m.memory_size b.numbers r.known r.places) t.args s.state t.state r.joined not_call))

    -- a call of a function of the module
    module _ (c : CallValue) (arguments : Vec VirtualRegister) (is : operation_at ops r.joined.d.at.inst ≡ Calling c.function c.to arguments)
        (are : c.arguments ≡ arguments.items) (callee : IsKnown c.function) (arity : callee.named.arity ≡ length arguments.items) where
      call : Pauses f ops r.known.compiled.out r.known.compiled.start own.code b.numbers r.places r.known.compiled.emitted
          (alike_at ps code m.memory_size b.numbers r.known r.places) t.args s.state t.state c.function c.to arguments.items
      call = pauses f ops r.known.compiled.out r.known.compiled.start own.code b.numbers r.places r.known.compiled.emitted
          (alike_at ps code m.memory_size b.numbers r.known r.places) t.args s.state t.state r.joined c.function c.to arguments is

      abbrev numbers_passed : ℕ → ℕ
      numbers_passed i = slice_index (map (λ v. s.state.numbers v) c.arguments) i

      -- the stack before the arguments are passed, and before the call
      abbrev ready : StackState
      ready = activation_in t call.state

      passing : IsCalling code b.stack own r.known.compiled.start call.found ready c.function call.rest (length arguments.items)
          (λ i. slice_index (map (λ v. s.state.numbers v) arguments.items) i)
      passing = called_with code b.stack own r.known.compiled.start call.found ready is_own c.function (length arguments.items) call.ps call.rest
          (λ i. slice_index (map (λ v. s.state.numbers v) arguments.items) i) call.agree call.stands call.fits call.here call.stays call.given

      abbrev before : StackState
      before = activation_with t passing.state passing.words

      comes : StackComes code b.stack 0 t before
      comes = stack_on code b.stack 0 0 0 t ready before (omega arith) (comes_lifted code b.stack t own is_own 0 t.state call.state call.comes) passing.comes

      abbrev passed : ℕ → ℕ
      passed i = arguments_passed before i

      abbrev waiting : List SuspendedActivation
      waiting = suspended_at before ∷ t.callers

      abbrev words : ℕ
      words = words_taken code (c.function ∷ calling waiting)

      abbrev after : StackState
      after = activation_of code b.stack c.function passed passing.state.memory waiting t.activations

      calls : stack_step code b.stack before ≡ cond (exceeds b.stack.room words) Overflowed (Running after)
      calls =
          steps_into code b.stack before own is_own passing.state c.function passing.instruction
          ∙ ap (λ (x : Option FunctionCode). activated code b.stack c.function passed passing.state.memory waiting t.activations x) callee.is_code

      also_waiting : Waiting (suspended s c.to ∷ s.callers) waiting
      also_waiting = (
        record {
          known = r.known;
          same = r.same;
          args = r.args;
          places = r.places;
          paused = call.paused (passing.state.pc + 1) passing.state.registers passing.state.frame passing.stands passing.slots;
        },
        r.callers,
      )

      abbrev state_after : ModuleState
      state_after = entered ps code m.memory_size b.numbers c.function callee.named.procedure numbers_passed s.state.memory (suspended s c.to ∷ s.callers)

      words_are : words ≡ words_needed code state_after
      words_are = ap (λ (gs : List ℕ). words_taken code (c.function ∷ gs))
          (same_functions ps code m.memory_size b.numbers (suspended s c.to ∷ s.callers) waiting also_waiting)

      size_is : length s.state.memory ≡ m.memory_size
      size_is = ap (λ (q : ProcedureState). length q.memory) r.joined.is_seen ∙ r.joined.sized ∙ r.known.sized

      called : (x : Bool) → exceeds b.stack.room words ≡ x → FollowsAt t (Running state_after)
      called true e =
          let over : (j : ℕ) × (stack_run code b.stack j t ≡ Overflowed) = stack_ends code b.stack 0 1 t before Overflowed comes
          (ends_in_one code b.stack before Overflowed tt (calls ∙ ap (λ (x : Bool). cond x Overflowed (Running after)) e)) in
          inr (over.0, over.1, ap (λ (n : ℕ). exceeds b.stack.room n) (sym words_are) ∙ e)
      called false e = inl (
        after,
        stack_on code b.stack 0 1 1 t before after (omega arith) comes
            (stack_by code b.stack before after (calls ∙ ap (λ (x : Bool). cond x Overflowed (Running after)) e)),
        enters ps code m.memory_size b.numbers b.stack c.function callee numbers_passed passed s.state.memory passing.state.memory
            (suspended s c.to ∷ s.callers) waiting t.activations
            (λ i less. passing.arguments i (omega (arith, less, arity)) ∙ ap (λ (vs : List VirtualRegister). slice_index (map (λ v. s.state.numbers v) vs) i) (sym are))
            (passing.same ∙ call.same) size_is also_waiting,
      )

      pub call_follows : FollowsAt t (frame_called (procedures_of ps) b.numbers s c)
      call_follows =
          subst (λ (p : Option Procedure). FollowsAt t (frame_entered b.numbers c.function numbers_passed s.state.memory (suspended s c.to ∷ s.callers) p))
          (sym (procedure_at ps code m.memory_size b.numbers callee)) (called (exceeds b.stack.room words) refl)

    -- the function that a line calls
    callee_taken : (g n : ℕ) → takes (slice_get (arities_of ps) g) n ≡ true → (k : IsKnown g) × (k.named.arity ≡ n)
    callee_taken g n h =
        let p : (p : NamedProcedure) × (slice_get ps g ≡ Some p) × (p.arity ≡ n) =
        mapped (λ p. p.arity) ps g n (some_taken (slice_get (arities_of ps) g) n h) in
        let k : IsKnown g = all g p.0 p.1 in
        let same : k.named ≡ p.0 = one_entry (sym k.is_named ∙ p.1) in
        (k, ap (λ (q : NamedProcedure). q.arity) same ∙ p.2)

    calls_one : (c : CallValue) → call_on (slice_get ops.items s.state.at.inst) ≡ Some c → FollowsAt t (frame_called (procedures_of ps) b.numbers s c)
    calls_one c e =
        let o : Operation = operation_at ops r.joined.d.at.inst in
        let is : IsCallOf o c = call_of o c (ap (λ (x : Option Operation). call_on x) (sym here_is) ∙ e) in
        let takes_all : takes (slice_get (arities_of ps) c.function) (length is.arguments.items) ≡ true =
        subst (λ (x : Operation). calls_function (arities_of ps) x ≡ true) is.is
        (each_of (calls_function (arities_of ps)) ops.items s.state.at.inst o r.known.calls here_is) in
        let k : (k : IsKnown c.function) × (k.named.arity ≡ length is.arguments.items) =
        callee_taken c.function (length is.arguments.items) takes_all in
        call_follows c is.arguments is.is is.are k.0 k.1

    -- each step
    pub step_follows_on : FollowsAt t (one_step m code b AreAt s)
    step_follows_on =
        subst (λ (p : Option Procedure). FollowsAt t (step_in (procedures_of ps) b.numbers s p)) (sym (procedure_at ps code m.memory_size b.numbers r.known))
        (pick (call_on (slice_get ops.items s.state.at.inst)) refl)
      where
        pick : (c : Option CallValue) → call_on (slice_get ops.items s.state.at.inst) ≡ c →
            FollowsAt t (line_done (procedures_of ps) b.numbers s r.known.named.procedure c)
        pick None e = within e
        pick (Some c) e = calls_one c e

  -- the beginning, of function 0
  pub begins_at : IsKnown 0 → Begin m code b AreAt
  begins_at k = (
    entered ps code m.memory_size b.numbers 0 k.named.procedure b.args b.memory [],
    ap (λ (p : Option Procedure). frame_entered b.numbers 0 b.args b.memory [] p) (procedure_at ps code m.memory_size b.numbers k),
    pick (exceeds b.stack.room (words_taken code (0 ∷ []))) refl,
  )
    where
      t : StackState
      t = activation_of code b.stack 0 b.args b.memory [] 0

      begun : stack_begun code b.stack b.args b.memory ≡ cond (exceeds b.stack.room (words_taken code (0 ∷ []))) Overflowed (Running t)
      begun = ap (λ (x : Option FunctionCode). activated code b.stack 0 b.args b.memory [] 0 x) k.is_code

      pick : (x : Bool) → exceeds b.stack.room (words_taken code (0 ∷ [])) ≡ x →
          ((u : StackState) × (stack_begun code b.stack b.args b.memory ≡ Running u)
          × AreAt (entered ps code m.memory_size b.numbers 0 k.named.procedure b.args b.memory []) u)
          ⊎ ((stack_begun code b.stack b.args b.memory ≡ Overflowed)
          × (exceeds b.stack.room (words_needed code (entered ps code m.memory_size b.numbers 0 k.named.procedure b.args b.memory [])) ≡ true))
      pick true e = inr (begun ∙ ap (λ (x : Bool). cond x Overflowed (Running t)) e, e)
      pick false e = inl (
        t,
        begun ∙ ap (λ (x : Bool). cond x Overflowed (Running t)) e,
        enters ps code m.memory_size b.numbers b.stack 0 k b.args b.args b.memory b.memory [] [] 0 (λ i less. refl) refl b.sized tt,
      )
