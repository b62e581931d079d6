-- One step of a procedure and the machine's steps for it, related by the two interpreters between them.
use Rattle.std.proofs.Common.{ℕ, suc, ◌≡◌, ◌+◌, ◌<◌, ◌≤◌, Bool, true, false, List, [], ◌∷◌, length, Option, Some, None, refl, sym, ap, ◌∙◌, subst}
use Rattle.std.specs.Prelude.{slice_index}
use Rattle.regalloc2_names.specs.Register.{VirtualRegister}
use Rattle.regalloc2_names.specs.Place.{Place}
use Rattle.regalloc2_function.specs.FunctionValue.{FunctionValue, block_at}
use Rattle.regalloc2_function.specs.OutputValue.{OutputValue}
use Rattle.regalloc2_semantics.specs.Runs.{Location, first_of}
use Rattle.regalloc2_semantics.specs.Interpreters.{State}
use Rattle.codegen_operation.specs.Numbers.{RunOutcome, Running, Returned, Trapped, Overflowed, Stuck}
use Rattle.codegen_machine.specs.Meaning.{ProcedureState, procedure_step}
use Rattle.codegen_machine.specs.Seen.{Operations}
use Rattle.codegen_machine.specs.Machine.{CodeValue, MachineState, machine_run}
use Rattle.codegen_emit.specs.Emitted.{operation_at, blocks_code}
use Rattle.codegen.proofs.Premise.{IsCall, IsEmitted}
use Rattle.codegen.proofs.Choices.{Choice, leavings, source_reads, source_next, found_reads, place_next, ReadAlike, Together, StepsOn, AlikeByChoices}
use Rattle.codegen.proofs.Runs.{Comes}
use Rattle.codegen.proofs.Places.{Agree}
use Rattle.codegen.proofs.Steps.{left_of, left_long, traps_of, chosen}
use Rattle.codegen.proofs.Simulation.{At, Follows, at_start, step_follows, step_traps}
use Rattle.codegen.proofs.Source.{seen, GoAlike, steps_alike, steps_trap}

-- What the outcome of a step of a procedure implies for the machine's run: it runs for a step or more, or returns the same number or traps too, and leaves
-- the same memory, of that size.
abbrev pub Meets : CodeValue → (ℕ → ℕ) → ℕ → (ProcedureState → MachineState → Type 0) → MachineState → RunOutcome ProcedureState → Type 0
Meets code args size IsAt s (Running q) = (t : MachineState) × Comes code args 1 s t × IsAt q t
Meets code args size IsAt s (Returned r left) = (j : ℕ) × (machine_run code args j s ≡ Returned r left) × (length left ≡ size)
Meets code args size IsAt s (Trapped left) = (j : ℕ) × (machine_run code args j s ≡ Trapped left)
Meets code args size IsAt s Overflowed = ⊥
Meets code args size IsAt s Stuck = ⊥

module _ (f : FunctionValue) (ops : Operations) (out : OutputValue) (start : ℕ → ℕ) (code : CodeValue) (virtual : VirtualRegister → ℕ) (places : Place → ℕ) where
  -- a procedure's state and the machine's, related by states that the two interpreters reach together; both have the same memory
  pub record AreJoined (q : ProcedureState) (s : MachineState) : Type 0 where
    pub choices : List Choice
    pub c : State VirtualRegister
    pub d : State Place
    pub together : Together f out virtual places choices c d
    pub is_seen : q ≡ seen s.memory c
    pub sized : length s.memory ≡ ops.memory_size
    pub at : At f ops out start code d s

  module _ (args : ℕ → ℕ) where
    abbrev pub StepMeets : MachineState → RunOutcome ProcedureState → Type 0
    StepMeets s o = Meets code args ops.memory_size AreJoined s o

    -- a step of each
    joined : (x : Choice) (xs : List Choice) (stir : Place → ℕ) (c : State VirtualRegister) (d : State Place) (s : MachineState) →
        length s.memory ≡ ops.memory_size →
        found_reads f out stir d ≡ source_reads f out c →
        (y : Option (State VirtualRegister)) (z : Option (State Place)) (o : RunOutcome ProcedureState) → StepsOn f out virtual places (x ∷ xs) y z →
        GoAlike (source_reads f out c) (left_of s.memory (operation_at ops d.at.inst) (found_reads f out stir d)) y o →
        Follows f ops out start code args s.memory stir d s z → StepMeets s o
    joined x xs stir c d s sized reads None None (Running q) a g l = absurd g
    joined x xs stir c d s sized reads None None (Returned r left) a g l = (
      l.0,
      l.1 ∙ ap (λ (ns : List ℕ). Returned (slice_index ns 0) (left_of s.memory (operation_at ops d.at.inst) (found_reads f out stir d))) reads
          ∙ ap (λ (k : ℕ). Returned k (left_of s.memory (operation_at ops d.at.inst) (found_reads f out stir d))) (sym g.0)
          ∙ ap (λ (m : List ℕ). Returned r m) (sym g.1),
      ap (λ (m : List ℕ). length m) g.1 ∙ left_long s.memory (operation_at ops d.at.inst) (found_reads f out stir d) ∙ sized,
    )
    joined x xs stir c d s sized reads None None (Trapped left) a g l = absurd g
    joined x xs stir c d s sized reads None None Overflowed a g l = absurd g
    joined x xs stir c d s sized reads None None Stuck a g l = absurd g
    joined x xs stir c d s sized reads None (Some e) o a g l = absurd a
    joined x xs stir c d s sized reads (Some b) None o a g l = absurd a
    joined x xs stir c d s sized reads (Some b) (Some e) (Running q) a g l = (
      l.0,
      l.1,
      record {
        choices = x ∷ xs;
        c = b;
        d = e;
        together = a;
        is_seen = g ∙ ap (λ (m : List ℕ). seen m b) (sym l.3);
        sized = ap (λ (m : List ℕ). length m) l.3 ∙ left_long s.memory (operation_at ops d.at.inst) (found_reads f out stir d) ∙ sized;
        at = l.2;
      },
    )
    joined x xs stir c d s sized reads (Some b) (Some e) (Returned r left) a g l = absurd g
    joined x xs stir c d s sized reads (Some b) (Some e) (Trapped left) a g l = absurd g
    joined x xs stir c d s sized reads (Some b) (Some e) Overflowed a g l = absurd g
    joined x xs stir c d s sized reads (Some b) (Some e) Stuck a g l = absurd g

  module _ (ok : IsEmitted f ops out start code) (alike : AlikeByChoices f out virtual places) where
    goes : (args : ℕ → ℕ) (xs : List Choice) (c : State VirtualRegister) (d : State Place) (s : MachineState) → Together f out virtual places xs c d →
        At f ops out start code d s → length s.memory ≡ ops.memory_size → (IsCall (operation_at ops d.at.inst) → ⊥) →
        StepMeets args s (procedure_step f ops args (seen s.memory c))
    goes args xs c d s together at sized inner = pick (traps_of s.memory (operation_at ops c.at.inst) (source_reads f out c)) refl
      where
        r : ReadAlike f out (leavings xs) c d
        r = alike.alike xs c d together

        x : Choice
        x = chosen args s.memory (operation_at ops c.at.inst) (source_reads f out c)

        same : chosen args s.memory (operation_at ops d.at.inst) (found_reads f out (leavings xs) d) ≡ x
        same = ap (λ (ns : List ℕ). chosen args s.memory (operation_at ops d.at.inst) ns) r.reads
            ∙ ap (λ (l : Location). chosen args s.memory (operation_at ops l.inst) (source_reads f out c)) r.at

        -- both operations leave the same memory
        left : left_of s.memory (operation_at ops d.at.inst) (found_reads f out (leavings xs) d)
            ≡ left_of s.memory (operation_at ops c.at.inst) (source_reads f out c)
        left = ap (λ (ns : List ℕ). left_of s.memory (operation_at ops d.at.inst) ns) r.reads
            ∙ ap (λ (l : Location). left_of s.memory (operation_at ops l.inst) (source_reads f out c)) r.at

        -- both operations trap, or neither does
        traps : traps_of s.memory (operation_at ops d.at.inst) (found_reads f out (leavings xs) d)
            ≡ traps_of s.memory (operation_at ops c.at.inst) (source_reads f out c)
        traps = ap (λ (ns : List ℕ). traps_of s.memory (operation_at ops d.at.inst) ns) r.reads
            ∙ ap (λ (l : Location). traps_of s.memory (operation_at ops l.inst) (source_reads f out c)) r.at

        -- the second operation is no call either
        inner_also : IsCall (operation_at ops c.at.inst) → ⊥
        inner_also = subst (λ (l : Location). IsCall (operation_at ops l.inst) → ⊥) r.at inner

        block : c.at.block < length f.blocks
        block = subst (λ (l : Location). l.block < length f.blocks) r.at at.block

        begins : (block_at f c.at.block).range.first ≤ c.at.inst
        begins = subst (λ (l : Location). (block_at f l.block).range.first ≤ l.inst) r.at at.begins

        ends : c.at.inst + suc at.left ≡ (block_at f c.at.block).range.end
        ends = subst (λ (l : Location). l.inst + suc at.left ≡ (block_at f l.block).range.end) r.at at.ends

        pick : (b : Bool) → traps_of s.memory (operation_at ops c.at.inst) (source_reads f out c) ≡ b →
            StepMeets args s (procedure_step f ops args (seen s.memory c))
        pick false e =
            joined args x xs (leavings xs) c d s sized r.reads (source_next f out x c) (place_next f out (leavings xs) x d)
            (procedure_step f ops args (seen s.memory c)) (alike.on xs c d together x)
            (subst (λ (m : List ℕ). GoAlike (source_reads f out c) m (source_next f out x c) (procedure_step f ops args (seen s.memory c))) (sym left)
            (steps_alike f args s.memory ops out start code ok c at.left block begins ends inner_also e))
            (subst (λ (y : Choice). Follows f ops out start code args s.memory (leavings xs) d s (place_next f out (leavings xs) y d)) same
            (step_follows f ops out start code args s.memory (leavings xs) ok sized c d s at refl r inner (traps ∙ e)))
        pick true e =
            subst (λ (o : RunOutcome ProcedureState). StepMeets args s o)
            (sym (steps_trap f args s.memory ops out start code ok c at.left block begins ends inner_also e))
            (step_traps f ops out start code args s.memory (leavings xs) ok sized c d s at refl r inner (traps ∙ e))

    -- what a step of the procedure implies for the machine, unless it is a call
    pub step_meets : (args : ℕ → ℕ) (q : ProcedureState) (s : MachineState) (j : AreJoined q s) → (IsCall (operation_at ops j.d.at.inst) → ⊥) →
        StepMeets args s (procedure_step f ops args q)
    step_meets args q s j inner =
        subst (λ (p : ProcedureState). StepMeets args s (procedure_step f ops args p)) (sym j.is_seen)
        (goes args j.choices j.c j.d s j.together j.at j.sized inner)

    -- both begin related
    pub begin_joined : (s : MachineState) → Agree s.registers s.frame places → length s.memory ≡ ops.memory_size → s.pc ≡ 0 →
        AreJoined (record { at = first_of f 0; numbers = virtual; memory = s.memory }) s
    unfolding blocks_code
    begin_joined s agree sized at =
        let e : f.entry ≡ 0 = ok.entry.0 in
        let here : s.pc ≡ start 0 = at ∙ sym (ok.starts 0 ok.entry.1) in
        let first : At f ops out start code (record { at = first_of f 0; history = []; numbers = places }) s =
        at_start f ops out start code ok 0 ok.entry.1 [] places s here agree in
        record {
          choices = [];
          c = record { at = first_of f f.entry; history = []; numbers = virtual };
          d = record { at = first_of f f.entry; history = []; numbers = places };
          together = alike.begin;
          sized = sized;
          is_seen = ap (λ (b : ℕ). record { at = first_of f b; numbers = virtual; memory = s.memory }) (sym e);
          at = subst (λ (b : ℕ). At f ops out start code (record { at = first_of f b; history = []; numbers = places }) s) (sym e) first;
        }
