-- Stacks of activations: a call puts one more on the stack, and a return takes it off.
use Rattle.std.proofs.Common.{ℕ, zero, suc, ◌≡◌, ◌+◌, ◌-◌, ◌≤◌, Bool, true, false, cond, List, [], ◌∷◌, ◌++◌, map, replicate, Option, Some, None, refl, sym, ap, ◌∙◌, subst, arith}
use Rattle.std.proofs.Math.Path.{fun_ext}
use Rattle.std.proofs.lemmas.List.Elements.{All-append, All-nil, All-pop}
use Rattle.std.proofs.lemmas.Bool.{cond_above}
use Rattle.std.proofs.lemmas.Option.{slice_get-map}
use Rattle.std.specs.Option.{option_map}
use Rattle.std.specs.Prelude.{slice_get, slice_index, nat_lt, vec_len, All}
use Rattle.codegen_machine.specs.Calls.{FunctionCode, Stack as Room, StackState, SuspendedActivation, StackAct, act_on_stack, activation_of, argument_register, arguments_passed}
use Rattle.codegen_machine.specs.Calls.{calling, functions_of, instruction_done, registers_returned, returned_into, stack_begun, stack_step, stack_step_in}
use Rattle.codegen_machine.specs.Calls.{suspended_at, words_of, words_taken}
use Rattle.codegen_operation.specs.Numbers.{RunOutcome, Running as runs, Overflowed as overflows, Stuck as sticks, put}
use Rattle.codegen_operation.specs.Operands.{argument_registers}
use Rattle.codegen_machine.specs.Machine.{MachineState}
use Rattle.codegen.specs.Run.Runs.{arguments_of, empty_stack, first_machine}
use Rattle.codegen.specs.Run.States.{HasWords, IsSound, function_of, instruction_called, stack_state, suspensions_of}
use Rattle.codegen_machine.specs.declared.NamedCode.{NamedCode}
use Rattle.codegen.specs.declared.run.stack.Activation.{Activation}
use Rattle.codegen.specs.declared.run.stack.Stack.{Stack}
use Rattle.codegen.proofs.RunLemmas.Modules.{suspensions_pushed}

-- a function of a module's code
pub function_at : (fs : List NamedCode) (g : ℕ) (f : NamedCode) → slice_get fs g ≡ Some f → slice_get (functions_of fs) g ≡ Some (function_of f)
function_at fs g f at = slice_get-map function_of fs g ∙ ap (option_map function_of) at

pub function_none : (fs : List NamedCode) (g : ℕ) → slice_get fs g ≡ None → slice_get (functions_of fs) g ≡ None
function_none fs g at = slice_get-map function_of fs g ∙ ap (option_map function_of) at

-- the step of a running function, by what its instruction does to the stack
pub step_is : (fs : List FunctionCode) (room : Room) (s : StackState) (f : FunctionCode) (o : Option StackAct) → slice_get fs s.function ≡ Some f →
    act_on_stack (slice_get f.code.instructions s.state.pc) ≡ o → stack_step fs room s ≡ instruction_done fs room s f o
step_is fs room s f o at is = ap (stack_step_in fs room s) at ∙ ap (instruction_done fs room s f) is

pub step_none : (fs : List FunctionCode) (room : Room) (s : StackState) → slice_get fs s.function ≡ None → stack_step fs room s ≡ sticks
step_none fs room s at = ap (stack_step_in fs room s) at

-- the arguments that registers and outgoing words pass
pub passed_are : (rs os : List ℕ) → ◌≡◌ {A = ℕ → ℕ} (λ k. slice_index (map (λ r. slice_index rs r) argument_registers ++ os) k)
    (λ k. cond (nat_lt k 6) (slice_index rs (argument_register k)) (slice_index os (k - 6)))
passed_are rs os = fun_ext λ k. at k
  where
    at : (k : ℕ) → slice_index (map (λ r. slice_index rs r) argument_registers ++ os) k
        ≡ cond (nat_lt k 6) (slice_index rs (argument_register k)) (slice_index os (k - 6))
    at zero = refl
    at (suc zero) = refl
    at (suc (suc zero)) = refl
    at (suc (suc (suc zero))) = refl
    at (suc (suc (suc (suc zero)))) = refl
    at (suc (suc (suc (suc (suc zero))))) = refl
    at (suc (suc (suc (suc (suc (suc k)))))) =
        let less : k ≡ suc (suc (suc (suc (suc (suc k))))) - 6 = omega arith in
        cond_above (suc (suc (suc (suc (suc (suc k)))))) 6 _ _ _ (omega arith) (ap (λ (j : ℕ). slice_index os j) less)

-- zeros
pub zeros_are : (n : ℕ) → ◌≡◌ {A = ℕ → ℕ} (λ k. 0) (λ k. slice_index (replicate n 0) k)
zeros_are n = fun_ext λ k. at n k
  where
    at : (n k : ℕ) → 0 ≡ slice_index (replicate n 0) k
    at zero k = refl
    at (suc n) zero = refl
    at (suc n) (suc k) = at n k

-- a return, given the registers that it leaves
pub returned_is : (s : StackState) (cs rest : List Activation) (a : Activation) (number : ℕ) (memory left rs : List ℕ) → cs ≡ rest ++ a ∷ [] →
    s.state.registers ≡ (λ r. slice_index left r) →
    (λ r. slice_index rs r) ≡ registers_returned (λ r. slice_index a.registers r) (put (λ r. slice_index left r) 0 number) →
    returned_into s (suspensions_of cs) number memory ≡ runs (record {
      function = a.function;
      args = arguments_of a.arguments.items;
      state = record { pc = a.pc; registers = λ r. slice_index rs r; frame = λ k. slice_index a.frame.items k; compared = None; memory = memory };
      outgoing = λ k. slice_index a.outgoing.items k;
      callers = suspensions_of rest;
      activations = s.activations;
    })
returned_is s cs rest a number memory left rs popped same made =
    ap (λ (xs : List SuspendedActivation). returned_into s xs number memory) (ap suspensions_of popped ∙ suspensions_pushed rest a)
    ∙ (λ i. runs (record {
      function = a.function;
      args = arguments_of a.arguments.items;
      state = record { pc = a.pc; registers = now i; frame = λ k. slice_index a.frame.items k; compared = None; memory = memory };
      outgoing = λ k. slice_index a.outgoing.items k;
      callers = suspensions_of rest;
      activations = s.activations;
    }))
  where
    now : registers_returned (λ r. slice_index a.registers r) (put s.state.registers 0 number) ≡ (λ r. slice_index rs r)
    now = ap (λ (q : ℕ → ℕ). registers_returned (λ r. slice_index a.registers r) (put q 0 number)) same ∙ sym made

-- a new activation, given its parts
pub activation_is : (fs : List FunctionCode) (g n : ℕ) (args given registers frame outgoing : ℕ → ℕ) (memory : List ℕ) (before callers : List SuspendedActivation)
    (room : ℕ) → args ≡ given → (λ r. 0) ≡ registers → (λ k. 0) ≡ frame → (λ k. 0) ≡ outgoing → before ≡ callers →
    runs (activation_of fs (empty_stack room) g args memory before n) ≡ runs (record {
      function = g;
      args = given;
      state = record { pc = 0; registers = registers; frame = frame; compared = None; memory = memory };
      outgoing = outgoing;
      callers = callers;
      activations = n + 1;
    })
activation_is fs g n args given registers frame outgoing memory before callers room a r f o c = λ i. runs (record {
  function = g;
  args = a i;
  state = record { pc = 0; registers = r i; frame = f i; compared = None; memory = memory };
  outgoing = o i;
  callers = c i;
  activations = n + 1;
})

module _ (fs : List FunctionCode) where
  abbrev Framed : Activation → Type 0
  Framed a = HasWords fs a.function (vec_len a.frame) (vec_len a.outgoing)

  -- the words of activations with one more
  taken_more : (g h : ℕ) (f : FunctionCode) (hs : List ℕ) → slice_get fs g ≡ Some f → words_taken fs (g ∷ h ∷ hs) ≡ words_of (Some f) + words_taken fs (h ∷ hs)
  unfolding words_taken
  taken_more g h f hs at = ap (λ (o : Option FunctionCode). words_of o + words_taken fs (h ∷ hs)) at

  taken_at_all : (g : ℕ) (f : FunctionCode) (hs : List ℕ) → slice_get fs g ≡ Some f → words_of (Some f) ≤ words_taken fs (g ∷ hs)
  unfolding words_taken
  taken_at_all g f hs at =
      let e : words_taken fs (g ∷ hs) ≡ words_of (Some f) + words_taken fs hs = ap (λ (o : Option FunctionCode). words_of o + words_taken fs hs) at in
      subst (λ (n : ℕ). words_of (Some f) ≤ n) (sym e) (at_least (words_of (Some f)) (words_taken fs hs))
    where
      at_least : (m n : ℕ) → m ≤ m + n
      at_least m n = omega arith

  -- the words of the running activation are among the words taken
  pub taken_enough : (f : FunctionCode) (old : Stack) → IsSound fs old → slice_get fs old.function ≡ Some f → words_of (Some f) ≤ old.words
  taken_enough f old sound at =
      subst (λ (n : ℕ). words_of (Some f) ≤ n) (sym sound.words) (taken_at_all old.function f (calling (suspensions_of old.callers.items)) at)

  same_function : (g : ℕ) (f k : FunctionCode) → slice_get fs g ≡ Some f → slice_get fs g ≡ Some k → f ≡ k
  same_function g f k at also = cc (sym at ∙ also)

  -- a function is called
  pub sound_called : (f : FunctionCode) (g : ℕ) (old new : Stack) (a : Activation) → IsSound fs old → slice_get fs g ≡ Some f → a.function ≡ old.function →
      vec_len a.frame ≡ vec_len old.machine.frame → vec_len a.outgoing ≡ vec_len old.outgoing →
      new.callers.items ≡ old.callers.items ++ a ∷ [] → new.function ≡ g → vec_len new.machine.frame ≡ f.code.slots → vec_len new.outgoing ≡ f.code.outgoing →
      new.words ≡ words_of (Some f) + old.words → IsSound fs new
  sound_called f g old new a sound at same long wide pushed is slots outgoing words = record {
    words = words ∙ ap (λ (n : ℕ). words_of (Some f) + n) sound.words
        ∙ sym (ap (λ (h : ℕ). words_taken fs (h ∷ calling (suspensions_of new.callers.items))) is
        ∙ ap (λ (xs : List Activation). words_taken fs (g ∷ calling (suspensions_of xs))) pushed
        ∙ ap (λ xs. words_taken fs (g ∷ calling xs)) (suspensions_pushed old.callers.items a)
        ∙ taken_more g a.function f (calling (suspensions_of old.callers.items)) at
        ∙ ap (λ (h : ℕ). words_of (Some f) + words_taken fs (h ∷ calling (suspensions_of old.callers.items))) same);
    framed = λ k here.
        let e = same_function g f k at (subst (λ (h : ℕ). slice_get fs h ≡ Some k) is here) in
        (slots ∙ ap (λ (x : FunctionCode). x.code.slots) e, outgoing ∙ ap (λ (x : FunctionCode). x.code.outgoing) e);
    callers_framed = subst (All Framed) (sym pushed) (All-append Framed old.callers.items (a ∷ []) sound.callers_framed (alone (λ k here.
        let was = sound.framed k (subst (λ (h : ℕ). slice_get fs h ≡ Some k) same here) in (long ∙ was.0, wide ∙ was.1))));
  }
    where
      alone : Framed a → All Framed (a ∷ [])
      alone h zero d less = h
      alone h (suc k) d less = absurd (omega arith)

  -- it returns
  pub sound_returned : (f : FunctionCode) (old new : Stack) (a : Activation) → IsSound fs old → slice_get fs old.function ≡ Some f →
      old.callers.items ≡ new.callers.items ++ a ∷ [] → new.function ≡ a.function → vec_len new.machine.frame ≡ vec_len a.frame →
      vec_len new.outgoing ≡ vec_len a.outgoing → new.words ≡ old.words - words_of (Some f) → IsSound fs new
  sound_returned f old new a sound at popped is slots outgoing words = record {
    words = less (words_of (Some f)) _ old.words new.words (sound.words
        ∙ ap (λ (xs : List Activation). words_taken fs (old.function ∷ calling (suspensions_of xs))) popped
        ∙ ap (λ xs. words_taken fs (old.function ∷ calling xs)) (suspensions_pushed new.callers.items a)
        ∙ taken_more old.function a.function f (calling (suspensions_of new.callers.items)) at) words
        ∙ sym (ap (λ (h : ℕ). words_taken fs (h ∷ calling (suspensions_of new.callers.items))) is);
    framed = λ k here. let was = both.1 k (subst (λ (h : ℕ). slice_get fs h ≡ Some k) is here) in (slots ∙ was.0, outgoing ∙ was.1);
    callers_framed = both.0;
  }
    where
      less : (x y z w : ℕ) → z ≡ x + y → w ≡ z - x → w ≡ y
      less x y z w e h = omega (arith, e, h)

      both : All Framed new.callers.items × Framed a
      both = All-pop Framed old.callers.items new.callers.items (Some a) popped sound.callers_framed

  -- nothing has changed that matters
  pub sound_still : (old new : Stack) → IsSound fs old → new.callers.items ≡ old.callers.items → new.function ≡ old.function →
      vec_len new.machine.frame ≡ vec_len old.machine.frame → vec_len new.outgoing ≡ vec_len old.outgoing → new.words ≡ old.words → IsSound fs new
  sound_still old new sound same is slots outgoing words = record {
    words = words ∙ sound.words
        ∙ sym (ap (λ (h : ℕ). words_taken fs (h ∷ calling (suspensions_of new.callers.items))) is
        ∙ ap (λ (xs : List Activation). words_taken fs (old.function ∷ calling (suspensions_of xs))) same);
    framed = λ k here. let was = sound.framed k (subst (λ (h : ℕ). slice_get fs h ≡ Some k) is here) in (slots ∙ was.0, outgoing ∙ was.1);
    callers_framed = subst (All Framed) (sym same) sound.callers_framed;
  }

  -- the step of a call: the words that it would take, and its outcome
  module _ (f : FunctionCode) (g room n : ℕ) (old : Stack) (sound : IsSound fs old) (at : slice_get fs g ≡ Some f) where
    abbrev called : StackState
    called = activation_of fs (empty_stack room) g (arguments_passed (stack_state n old)) old.machine.memory.items
        (suspended_at (stack_state n old) ∷ suspensions_of old.callers.items) n

    call_is : instruction_called fs room (stack_state n old) g ≡ cond (nat_lt room (words_of (Some f) + old.words)) overflows (runs called)
    call_is =
        let words : words_taken fs (g ∷ old.function ∷ calling (suspensions_of old.callers.items)) ≡ words_of (Some f) + old.words =
        taken_more g old.function f (calling (suspensions_of old.callers.items)) at ∙ ap (λ (m : ℕ). words_of (Some f) + m) (sym sound.words) in
        ap (λ (o : Option FunctionCode). outcome o) at ∙ ap (λ (m : ℕ). cond (nat_lt room m) overflows (runs called)) words
      where
        outcome : Option FunctionCode → RunOutcome StackState
        outcome None = sticks
        outcome (Some k) = cond (nat_lt room (words_taken fs (g ∷ old.function ∷ calling (suspensions_of old.callers.items)))) overflows (runs called)

    pub call_overflows : cond (nat_lt room (words_of (Some f) + old.words)) None (Some (words_of (Some f) + old.words)) ≡ None →
        instruction_called fs room (stack_state n old) g ≡ overflows
    call_overflows none = call_is ∙ pick (nat_lt room (words_of (Some f) + old.words)) none
      where
        pick : (b : Bool) → cond b None (Some (words_of (Some f) + old.words)) ≡ None → cond b overflows (runs called) ≡ overflows
        pick true e = refl
        pick false e = absurd cc

    pub call_runs : (words : ℕ) → cond (nat_lt room (words_of (Some f) + old.words)) None (Some (words_of (Some f) + old.words)) ≡ Some words →
        (words ≡ words_of (Some f) + old.words) × (instruction_called fs room (stack_state n old) g ≡ runs called)
    call_runs words some = pick (nat_lt room (words_of (Some f) + old.words)) refl some
      where
        pick : (b : Bool) → nat_lt room (words_of (Some f) + old.words) ≡ b → cond b None (Some (words_of (Some f) + old.words)) ≡ Some words →
            (words ≡ words_of (Some f) + old.words) × (instruction_called fs room (stack_state n old) g ≡ runs called)
        pick true is e = absurd cc
        pick false is e = (cc (sym e), call_is ∙ ap (λ (b : Bool). cond b overflows (runs called)) is)

  pub call_sticks : (g room n : ℕ) (old : Stack) → slice_get fs g ≡ None → instruction_called fs room (stack_state n old) g ≡ sticks
  call_sticks g room n old none = ap (λ (o : Option FunctionCode). outcome o) none
    where
      outcome : Option FunctionCode → RunOutcome StackState
      outcome None = sticks
      outcome (Some k) = cond (nat_lt room (words_taken fs (g ∷ old.function ∷ calling (suspensions_of old.callers.items)))) overflows
          (runs (activation_of fs (empty_stack room) g (arguments_passed (stack_state n old)) old.machine.memory.items
          (suspended_at (stack_state n old) ∷ suspensions_of old.callers.items) n))

  -- the beginning: function 0 is activated
  module _ (f : FunctionCode) (room : ℕ) (args : ℕ → ℕ) (memory : List ℕ) (at : slice_get fs 0 ≡ Some f) where
    taken_first : words_taken fs (0 ∷ []) ≡ words_of (Some f) + 0
    unfolding words_taken
    taken_first = ap (λ (o : Option FunctionCode). words_of o + 0) at

    begun_is : stack_begun fs (empty_stack room) args memory ≡ cond (nat_lt room (words_of (Some f) + 0)) overflows
        (runs (activation_of fs (empty_stack room) 0 args memory [] 0))
    begun_is = ap (λ (o : Option FunctionCode). outcome o) at ∙ ap (λ (m : ℕ). cond (nat_lt room m) overflows
        (runs (activation_of fs (empty_stack room) 0 args memory [] 0))) taken_first
      where
        outcome : Option FunctionCode → RunOutcome StackState
        outcome None = sticks
        outcome (Some k) = cond (nat_lt room (words_taken fs (0 ∷ []))) overflows (runs (activation_of fs (empty_stack room) 0 args memory [] 0))

    pub begun_overflows : cond (nat_lt room (words_of (Some f) + 0)) None (Some (words_of (Some f) + 0)) ≡ None →
        stack_begun fs (empty_stack room) args memory ≡ overflows
    begun_overflows none = begun_is ∙ pick (nat_lt room (words_of (Some f) + 0)) none
      where
        pick : (b : Bool) → cond b None (Some (words_of (Some f) + 0)) ≡ None →
            cond b overflows (runs (activation_of fs (empty_stack room) 0 args memory [] 0)) ≡ overflows
        pick true e = refl
        pick false e = absurd cc

    pub begun_runs : (words : ℕ) → cond (nat_lt room (words_of (Some f) + 0)) None (Some (words_of (Some f) + 0)) ≡ Some words →
        (words ≡ words_taken fs (0 ∷ [])) × (stack_begun fs (empty_stack room) args memory ≡ runs (activation_of fs (empty_stack room) 0 args memory [] 0))
    begun_runs words some = pick (nat_lt room (words_of (Some f) + 0)) refl some
      where
        pick : (b : Bool) → nat_lt room (words_of (Some f) + 0) ≡ b → cond b None (Some (words_of (Some f) + 0)) ≡ Some words →
            (words ≡ words_taken fs (0 ∷ [])) × (stack_begun fs (empty_stack room) args memory ≡ runs (activation_of fs (empty_stack room) 0 args memory [] 0))
        pick true is e = absurd cc
        pick false is e = (
          cc (sym e) ∙ sym taken_first,
          begun_is ∙ ap (λ (b : Bool). cond b overflows
              (runs (activation_of fs (empty_stack room) 0 args memory [] 0))) is,
        )

  pub begun_sticks : (room : ℕ) (args : ℕ → ℕ) (memory : List ℕ) → slice_get fs 0 ≡ None → stack_begun fs (empty_stack room) args memory ≡ sticks
  begun_sticks room args memory none = ap (λ (o : Option FunctionCode). outcome o) none
    where
      outcome : Option FunctionCode → RunOutcome StackState
      outcome None = sticks
      outcome (Some k) = cond (nat_lt room (words_taken fs (0 ∷ []))) overflows (runs (activation_of fs (empty_stack room) 0 args memory [] 0))

  -- the words and the frame of the first activation
  pub first_sound : (f : FunctionCode) (s : Stack) → slice_get fs 0 ≡ Some f → s.function ≡ 0 → s.callers.items ≡ [] → s.words ≡ words_taken fs (0 ∷ []) →
      vec_len s.machine.frame ≡ f.code.slots → vec_len s.outgoing ≡ f.code.outgoing → IsSound fs s
  first_sound f s at is alone words slots outgoing = record {
    words = words ∙ sym (ap (λ (h : ℕ). words_taken fs (h ∷ calling (suspensions_of s.callers.items))) is
        ∙ ap (λ (xs : List Activation). words_taken fs (0 ∷ calling (suspensions_of xs))) alone);
    framed = λ k here.
        let e = same_function 0 f k at (subst (λ (h : ℕ). slice_get fs h ≡ Some k) is here) in
        (slots ∙ ap (λ (x : FunctionCode). x.code.slots) e, outgoing ∙ ap (λ (x : FunctionCode). x.code.outgoing) e);
    callers_framed = subst (All Framed) (sym alone) (All-nil _);
  }

-- the first state, given its parts
pub begun_as : (fs : List FunctionCode) (room : ℕ) (args given outgoing : ℕ → ℕ) (memory : List ℕ) (state : MachineState) (callers : List SuspendedActivation) →
    args ≡ given → first_machine memory ≡ state → (λ k. 0) ≡ outgoing → [] ≡ callers →
    runs (activation_of fs (empty_stack room) 0 args memory [] 0)
    ≡ runs (record { function = 0; args = given; state = state; outgoing = outgoing; callers = callers; activations = 1 })
begun_as fs room args given outgoing memory state callers a q o cs =
    λ i. runs (record { function = 0; args = a i; state = q i; outgoing = o i; callers = cs i; activations = 1 })
