-- Runs of the machine within a function: concatenated segments, and their ends.
use Rattle.std.proofs.Common.{ℕ, suc, ◌≡◌, ◌+◌, ◌≤◌, Option, Some, refl, ap, ◌∙◌, arith}
use Rattle.std.specs.Prelude.{slice_get}
use Rattle.codegen_operation.specs.Numbers.{RunOutcome, Running, Returned, Trapped, Overflowed, Stuck, further}
use Rattle.codegen_machine.specs.declared.Instruction.{Instruction}
use Rattle.codegen_machine.specs.Machine.{CodeValue, MachineState, executed, machine_run}

-- a run that is over
abbrev pub IsOver : {S : Type 0} → RunOutcome S → Type 0
IsOver (Running s) = ⊥
IsOver (Returned n memory) = Unit {0}
IsOver (Trapped memory) = Unit {0}
IsOver Overflowed = Unit {0}
IsOver Stuck = Unit {0}

module _ (code : CodeValue) (args : ℕ → ℕ) where
  -- The machine gets from the first state to the second in at least n steps: the run from the second state is the rest of the run from the first.
  pub record Comes (n : ℕ) (s t : MachineState) : Type 0 where
    pub by : (k : ℕ) → (j : ℕ) × (k + n ≤ j) × (machine_run code args j s ≡ machine_run code args k t)

  -- in no step
  pub comes_here : (s : MachineState) → Comes 0 s s
  comes_here s = record { by = λ k. (k, omega arith, refl) }

  -- the step of the instruction at that address
  pub comes_by : (i : Instruction) (s t : MachineState) → slice_get code.instructions s.pc ≡ Some i →
      executed args code.slots (Some i) s ≡ Running t → Comes 1 s t
  unfolding machine_run
  comes_by i s t h e = record {
    by = λ k. (
      suc k,
      omega arith,
      ap (λ (o : Option Instruction). further (executed args code.slots o s) (machine_run code args k)) h
          ∙ ap (λ (o : RunOutcome MachineState). further o (machine_run code args k)) e,
    );
  }

  -- one segment after another
  pub comes_on : (m n k : ℕ) (s t u : MachineState) → k ≤ m + n → Comes m s t → Comes n t u → Comes k s u
  comes_on m n k s t u le a b = record {
    by = λ i.
        let q : (j : ℕ) × (i + n ≤ j) × (machine_run code args j t ≡ machine_run code args i u) = b.by i in
        let p : (j : ℕ) × (q.0 + m ≤ j) × (machine_run code args j s ≡ machine_run code args q.0 t) = a.by q.0 in
        (p.0, omega (arith, p.1, q.1), p.2 ∙ q.2);
  }

  -- a run that gets to a state in n steps still runs after them
  pub runs_then : (n : ℕ) (s t : MachineState) → Comes n s t → (m : ℕ) × (n ≤ m) × (machine_run code args m s ≡ Running t)
  unfolding machine_run
  runs_then n s t c = let p : (j : ℕ) × (0 + n ≤ j) × (machine_run code args j s ≡ machine_run code args 0 t) = c.by 0 in (p.0, omega (arith, p.1), p.2)

  -- a run that gets to a state ends as the run from there does
  pub ends_then : (n m : ℕ) (s t : MachineState) (o : RunOutcome MachineState) → Comes n s t → machine_run code args m t ≡ o →
      (j : ℕ) × (machine_run code args j s ≡ o)
  ends_then n m s t o c e = let p : (j : ℕ) × (m + n ≤ j) × (machine_run code args j s ≡ machine_run code args m t) = c.by m in (p.0, p.2 ∙ e)

  -- the step that ends it
  pub ends_by : (i : Instruction) (s : MachineState) (o : RunOutcome MachineState) → IsOver o → slice_get code.instructions s.pc ≡ Some i →
      executed args code.slots (Some i) s ≡ o → machine_run code args 1 s ≡ o
  unfolding machine_run
  ends_by i s (Running t) over h e = absurd over
  ends_by i s (Returned n memory) over h e =
      ap (λ (o : Option Instruction). further (executed args code.slots o s) (machine_run code args 0)) h
      ∙ ap (λ (o : RunOutcome MachineState). further o (machine_run code args 0)) e
  ends_by i s (Trapped memory) over h e =
      ap (λ (o : Option Instruction). further (executed args code.slots o s) (machine_run code args 0)) h
      ∙ ap (λ (o : RunOutcome MachineState). further o (machine_run code args 0)) e
  ends_by i s Overflowed over h e =
      ap (λ (o : Option Instruction). further (executed args code.slots o s) (machine_run code args 0)) h
      ∙ ap (λ (o : RunOutcome MachineState). further o (machine_run code args 0)) e
  ends_by i s Stuck over h e =
      ap (λ (o : Option Instruction). further (executed args code.slots o s) (machine_run code args 0)) h
      ∙ ap (λ (o : RunOutcome MachineState). further o (machine_run code args 0)) e
