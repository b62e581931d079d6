-- Runs of the machine on a stack. A run within a function is one of its activation, up to a call or a return.
use Rattle.std.proofs.Common.{ℕ, zero, suc, ◌≡◌, ◌+◌, ◌<◌, ◌≤◌, Bool, true, false, cond, List, Option, None, Some, refl, sym, ap, ◌∙◌, subst, arith, lt-ltb}
use Rattle.std.specs.Prelude.{◌&&◌, slice_get}
use Rattle.codegen_operation.specs.Numbers.{RunOutcome, Running, Returned, Trapped, Overflowed, Stuck, further}
use Rattle.codegen_machine.specs.declared.Instruction.{Instruction}
use Rattle.codegen_machine.specs.declared.Instruction.TheVariants.{Call, Pass}
use Rattle.codegen_machine.specs.Calls.{FunctionCode, Stack, StackAct, StackState, Calls, activation_stepped, act_on_stack, instruction_done, returned_into}
use Rattle.codegen_machine.specs.Calls.{stack_run, stack_step, stack_step_in, word_passed}
use Rattle.codegen_machine.specs.Machine.{MachineState, executed, is_general, machine_run, machine_step}
use Rattle.codegen.proofs.Runs.{IsOver, Comes, runs_then}

-- an instruction that acts on the stack is stuck within its function
no_act : (args : ℕ → ℕ) (slots : ℕ) (i : Option Instruction) (s : MachineState) → (executed args slots i s ≡ Stuck → ⊥) → act_on_stack i ≡ None
no_act args slots (Some (Call g)) s goes = absurd (goes refl)
no_act args slots (Some (Pass k from)) s goes = absurd (goes refl)
no_act args slots i s goes = refl

further_over : {S : Type 0} (x : RunOutcome S) (f g : S → RunOutcome S) (o : RunOutcome S) → ((t : S) → f t ≡ o → g t ≡ o) → further x f ≡ o → further x g ≡ o
further_over (Running t) f g o h e = h t e
further_over (Returned n memory) f g o h e = e
further_over (Trapped memory) f g o h e = e
further_over Overflowed f g o h e = e
further_over Stuck f g o h e = e

-- an activation in another state, and with other outgoing words
abbrev pub activation_with : StackState → MachineState → (ℕ → ℕ) → StackState
activation_with u s words =
    record { function = u.function; args = u.args; state = s; outgoing = words; callers = u.callers; activations = u.activations }

abbrev pub activation_in : StackState → MachineState → StackState
activation_in u s = activation_with u s u.outgoing

both_true : (a b : Bool) → a ≡ true → b ≡ true → (a && b) ≡ true
both_true true true e h = refl
both_true true false e h = absurd cc
both_true false b e h = absurd cc

module _ (functions : List FunctionCode) (stack : Stack) where
  -- The stack gets from the first state to the second in at least n steps: the run from the second state is the rest of the run from the first.
  pub record StackComes (n : ℕ) (s t : StackState) : Type 0 where
    pub by : (k : ℕ) → (j : ℕ) × (k + n ≤ j) × (stack_run functions stack j s ≡ stack_run functions stack k t)

  -- in no step, or in one
  pub stack_here : (s : StackState) → StackComes 0 s s
  stack_here s = record { by = λ k. (k, omega arith, refl) }

  pub stack_by : (s t : StackState) → stack_step functions stack s ≡ Running t → StackComes 1 s t
  unfolding stack_run
  stack_by s t e = record { by = λ k. (suc k, omega arith, ap (λ (o : RunOutcome StackState). further o (stack_run functions stack k)) e) }

  -- one run after another
  pub stack_on : (m n k : ℕ) (s t u : StackState) → k ≤ m + n → StackComes m s t → StackComes n t u → StackComes k s u
  stack_on m n k s t u le a b = record {
    by = λ i.
        let q : (j : ℕ) × (i + n ≤ j) × (stack_run functions stack j t ≡ stack_run functions stack i u) = b.by i in
        let p : (j : ℕ) × (q.0 + m ≤ j) × (stack_run functions stack j s ≡ stack_run functions stack q.0 t) = a.by q.0 in
        (p.0, omega (arith, p.1, q.1), p.2 ∙ q.2);
  }

  pub stack_ends : (n m : ℕ) (s t : StackState) (o : RunOutcome StackState) → StackComes n s t → stack_run functions stack m t ≡ o →
      (j : ℕ) × (stack_run functions stack j s ≡ o)
  stack_ends n m s t o c e =
      let p : (j : ℕ) × (m + n ≤ j) × (stack_run functions stack j s ≡ stack_run functions stack m t) = c.by m in (p.0, p.2 ∙ e)

  -- a step that ends a run
  pub ends_in_one : (s : StackState) (o : RunOutcome StackState) → IsOver o → stack_step functions stack s ≡ o → stack_run functions stack 1 s ≡ o
  unfolding stack_run
  ends_in_one s (Running t) over e = absurd over
  ends_in_one s (Returned n memory) over e = ap (λ (o : RunOutcome StackState). further o (stack_run functions stack 0)) e
  ends_in_one s (Trapped memory) over e = ap (λ (o : RunOutcome StackState). further o (stack_run functions stack 0)) e
  ends_in_one s Overflowed over e = ap (λ (o : RunOutcome StackState). further o (stack_run functions stack 0)) e
  ends_in_one s Stuck over e = ap (λ (o : RunOutcome StackState). further o (stack_run functions stack 0)) e

  -- a run that is over stays over
  pub stack_longer : (m n : ℕ) (s : StackState) (o : RunOutcome StackState) → m ≤ n → IsOver o → stack_run functions stack m s ≡ o →
      stack_run functions stack n s ≡ o
  unfolding stack_run
  stack_longer zero n s o le over e = absurd (subst (λ (x : RunOutcome StackState). IsOver x) (sym e) over)
  stack_longer (suc m) zero s o le over e = absurd (omega arith)
  stack_longer (suc m) (suc n) s o le over e =
      further_over (stack_step functions stack s) (stack_run functions stack m) (stack_run functions stack n) o
      (λ t h. stack_longer m n t o (omega arith) over h) e

  -- a run that is over stays over, from the outcome of its first step
  pub begun_longer : (x : RunOutcome StackState) (m n : ℕ) (o : RunOutcome StackState) → m ≤ n → IsOver o → further x (stack_run functions stack m) ≡ o →
      further x (stack_run functions stack n) ≡ o
  begun_longer x m n o le over e =
      further_over x (stack_run functions stack m) (stack_run functions stack n) o (λ t h. stack_longer m n t o le over h) e

  module _ (u : StackState) (f : FunctionCode) (is : slice_get functions u.function ≡ Some f) where
    abbrev here : MachineState → StackState
    here s = activation_in u s

    abbrev step_of : MachineState → RunOutcome MachineState
    step_of s = machine_step f.code u.args s

    -- the step of an activation, unless it acts on the stack
    lifted : (s : MachineState) (o : RunOutcome MachineState) → step_of s ≡ o → (o ≡ Stuck → ⊥) →
        stack_step functions stack (here s) ≡ activation_stepped (here s) o
    lifted s o e goes =
        ap (λ (x : Option FunctionCode). stack_step_in functions stack (here s) x) is
        ∙ ap (λ (x : Option StackAct). instruction_done functions stack (here s) f x)
        (no_act u.args f.code.slots (slice_get f.code.instructions s.pc) s (λ stuck. goes (sym e ∙ stuck)))
        ∙ ap (λ (x : RunOutcome MachineState). activation_stepped (here s) x) e

    -- at a call, it is that of the callee's beginning
    pub steps_into : (s : MachineState) (g : ℕ) → slice_get f.code.instructions s.pc ≡ Some (Call g) →
        stack_step functions stack (here s) ≡ instruction_done functions stack (here s) f (Some (Calls g))
    steps_into s g e =
        ap (λ (x : Option FunctionCode). stack_step_in functions stack (here s) x) is
        ∙ ap (λ (i : Option Instruction). instruction_done functions stack (here s) f (act_on_stack i)) e

    -- where a register is passed, it writes the outgoing word
    pub comes_passing : (s : MachineState) (k from : ℕ) → slice_get f.code.instructions s.pc ≡ Some (Pass k from) → k < f.code.outgoing →
        is_general from ≡ true → StackComes 1 (here s) (word_passed (here s) k (s.registers from))
    comes_passing s k from e within general = stack_by (here s) (word_passed (here s) k (s.registers from)) (
        ap (λ (x : Option FunctionCode). stack_step_in functions stack (here s) x) is
        ∙ ap (λ (i : Option Instruction). instruction_done functions stack (here s) f (act_on_stack i)) e
        ∙ ap (λ (b : Bool). cond b (Running (word_passed (here s) k (s.registers from))) Stuck)
        (both_true _ _ (lt-ltb k f.code.outgoing within) general))

    -- a run within the function
    one_lifted : (m : ℕ) (s t : MachineState) (o : RunOutcome MachineState) → step_of s ≡ o →
        ((r : MachineState) → machine_run f.code u.args m r ≡ Running t → StackComes m (here r) (here t)) →
        further o (machine_run f.code u.args m) ≡ Running t → StackComes (suc m) (here s) (here t)
    one_lifted m s t (Running r) h rest e =
        stack_on 1 m (suc m) (here s) (here r) (here t) (omega arith) (stack_by (here s) (here r) (lifted s (Running r) h (λ stuck. cc))) (rest r e)
    one_lifted m s t (Returned n memory) h rest e = absurd cc
    one_lifted m s t (Trapped memory) h rest e = absurd cc
    one_lifted m s t Overflowed h rest e = absurd cc
    one_lifted m s t Stuck h rest e = absurd cc

    run_lifted : (m : ℕ) (s t : MachineState) → machine_run f.code u.args m s ≡ Running t → StackComes m (here s) (here t)
    unfolding machine_run
    run_lifted zero s t e = let same : s ≡ t = cc in subst (λ (r : MachineState). StackComes 0 (here s) (here r)) same (stack_here (here s))
    run_lifted (suc m) s t e = one_lifted m s t (step_of s) refl (λ r h. run_lifted m r t h) e

    pub comes_lifted : (n : ℕ) (s t : MachineState) → Comes f.code u.args n s t → StackComes n (here s) (here t)
    comes_lifted n s t c =
        let p : (m : ℕ) × (n ≤ m) × (machine_run f.code u.args m s ≡ Running t) = runs_then f.code u.args n s t c in
        stack_on 0 p.0 n (here s) (here s) (here t) (omega (arith, p.1)) (stack_here (here s)) (run_lifted p.0 s t p.2)

    -- a run that traps
    one_trap : (m : ℕ) (s : MachineState) (left : List ℕ) (o : RunOutcome MachineState) → step_of s ≡ o →
        ((r : MachineState) → machine_run f.code u.args m r ≡ Trapped left → (j : ℕ) × (stack_run functions stack j (here r) ≡ Trapped left)) →
        further o (machine_run f.code u.args m) ≡ Trapped left → (j : ℕ) × (stack_run functions stack j (here s) ≡ Trapped left)
    one_trap m s left (Running r) h rest e =
        let k : (j : ℕ) × (stack_run functions stack j (here r) ≡ Trapped left) = rest r e in
        stack_ends 1 k.0 (here s) (here r) (Trapped left) (stack_by (here s) (here r) (lifted s (Running r) h (λ stuck. cc))) k.1
    one_trap m s left (Returned n memory) h rest e = absurd cc
    one_trap m s left (Trapped memory) h rest e =
        let same : memory ≡ left = cc in
        (1, ends_in_one (here s) (Trapped left) tt (lifted s (Trapped memory) h (λ stuck. cc) ∙ ap (λ (x : List ℕ). Trapped x) same))
    one_trap m s left Overflowed h rest e = absurd cc
    one_trap m s left Stuck h rest e = absurd cc

    pub trap_lifted : (m : ℕ) (s : MachineState) (left : List ℕ) → machine_run f.code u.args m s ≡ Trapped left →
        (j : ℕ) × (stack_run functions stack j (here s) ≡ Trapped left)
    unfolding machine_run
    trap_lifted zero s left e = absurd cc
    trap_lifted (suc m) s left e = one_trap m s left (step_of s) refl (λ r h. trap_lifted m r left h) e

    -- a run that returns: its last step returns into the newest caller
    pub record Returns (s : MachineState) (n : ℕ) (left : List ℕ) : Type 0 where
      pub at : MachineState
      pub comes : StackComes 0 (here s) (here at)
      pub steps : stack_step functions stack (here at) ≡ returned_into (here at) u.callers n left

    one_return : (m : ℕ) (s : MachineState) (n : ℕ) (left : List ℕ) (o : RunOutcome MachineState) → step_of s ≡ o →
        ((r : MachineState) → machine_run f.code u.args m r ≡ Returned n left → Returns r n left) →
        further o (machine_run f.code u.args m) ≡ Returned n left → Returns s n left
    one_return m s n left (Running r) h rest e =
        let k : Returns r n left = rest r e in
        record {
          at = k.at;
          comes = stack_on 1 0 0 (here s) (here r) (here k.at) (omega arith) (stack_by (here s) (here r) (lifted s (Running r) h (λ stuck. cc))) k.comes;
          steps = k.steps;
        }
    one_return m s n left (Returned k memory) h rest e =
        let same : k ≡ n = cc in
        let also : memory ≡ left = cc in
        record {
          at = s;
          comes = stack_here (here s);
          steps = lifted s (Returned k memory) h (λ stuck. cc) ∙ ap (λ (x : ℕ). returned_into (here s) u.callers x memory) same
              ∙ ap (λ (x : List ℕ). returned_into (here s) u.callers n x) also;
        }
    one_return m s n left (Trapped memory) h rest e = absurd cc
    one_return m s n left Overflowed h rest e = absurd cc
    one_return m s n left Stuck h rest e = absurd cc

    pub return_lifted : (m : ℕ) (s : MachineState) (n : ℕ) (left : List ℕ) → machine_run f.code u.args m s ≡ Returned n left → Returns s n left
    unfolding machine_run
    return_lifted zero s n left e = absurd cc
    return_lifted (suc m) s n left e = one_return m s n left (step_of s) refl (λ r h. return_lifted m r n left h) e
