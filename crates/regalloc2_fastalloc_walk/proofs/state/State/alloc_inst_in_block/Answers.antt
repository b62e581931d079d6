use Rattle.std.proofs.Common.{ℕ, ◌≡◌, ◌+◌, List, Bool, true, false, length, refl, sym, ap, ◌∙◌, subst, arith}
use Rattle.std.proofs.lemmas.List.Sums.{sum_by_more, sum_by_more_le}
use Rattle.std.proofs.lemmas.Result.{err_from_is_err_and}
use Rattle.std.specs.Prelude.{Result, Err, All, ◌↔◌}
use Rattle.regalloc2_names.specs.declared.RegAllocError.{RegAllocError}
use Rattle.regalloc2_names.specs.declared.sets.PRegSet.{PRegSet}
use Rattle.regalloc2_names.specs.Operand.{OperandValue}
use Rattle.regalloc2_names.specs.Register.{has_register}
use Rattle.regalloc2_function.specs.FunctionValue.{FunctionValue, InstValue, block_at, inst_at, no_inst}
use Rattle.regalloc2_function.specs.Machine.{MachineValue}
use Rattle.regalloc2_fastalloc_state.specs.declared.inst_regs.InstRegs.{InstRegs}
use Rattle.regalloc2_fastalloc_proofs.specs.BranchSteps.{AddsTempSlotsAtMost, ProcessesBranch, ProcessBranch}
use Rattle.regalloc2_fastalloc_state.specs.OutOfResources.{IsResourceError, SlotsExhaustedWith}
use Rattle.regalloc2_fastalloc_proofs.specs.InstSteps.{StateValue, InTables, no_register, ends_block}
use Rattle.regalloc2_fastalloc_walk.specs.StateView.{tables_of, IsBranchStepAt}
use Rattle.regalloc2_fastalloc_walk.specs.declared.state.State.{State}
use Rattle.regalloc2_fastalloc_proofs.specs.BlockSteps.{AllocInstAt, in_inst, in_pass, DefinesBelow, offset_of, temp_slots_at}
use Rattle.regalloc2_fastalloc_proofs.proofs.Safety.StateKept.{adds_temp_slots_of_same_machine, adds_temp_slots_trans, apart_kept, ends_in_branch, lack_all, lacks_all, six_temp_slots_at_branch, to_inst}
use Rattle.regalloc2_fastalloc_proofs.proofs.Walk.UsesReadOwnDefs.{all_in_tables}
use Rattle.regalloc2_fastalloc_proofs.proofs.Branches.WellFormedMayBranch.{may_pass, parameters_differ}
use Rattle.regalloc2_fastalloc_state.specs.Validate.NoLimits.{IsTakenOperand}
use Rattle.regalloc2_fastalloc_walk.proofs.Findings.{passes_branch, passes_inst}
use Rattle.regalloc2_fastalloc_walk.proofs.Clashes.{not_both}
use Rattle.regalloc2_fastalloc_walk.proofs.state.State.alloc_inst_in_block.Goals as goal

pub alloc_inst_at-requires : goal.alloc_inst_at-requires
alloc_inst_at-requires g c =
    let f : FunctionValue = g.F.Function.function c.args.cx.now.f.now in
    let i : ℕ = c.args.at.inst in
    let ops : c.inst_operands-operands.result.now ≡ (inst_at f i).operands = c.inst_operands-operands.ensures in
    let few = (g.met.F.Function.limited c.args.cx.now.f.now).insts in
    let within = sum_by_more_le (λ n. length n.operands) f.insts i no_inst c.requires.inst in
    let more : offset_of f (i + 1) ≡ offset_of f i + length (inst_at f i).operands = sum_by_more (λ n. length n.operands) f.insts i no_inst c.requires.inst in (
      omega arith,
      record {
        inst = omega (arith, few, c.requires.inst);
        later = c.requires.later;
        in_tables = subst (λ (o : List OperandValue). InTables o (tables_of c.args.self.now)) (sym ops)
            (all_in_tables c.requires.well_formed.0 f (g.met.F.Function.limited c.args.cx.now.f.now) c.requires.well_formed.1 (tables_of c.args.self.now)
            c.requires.room i c.requires.inst);
        room = omega (arith, within, more, c.requires.start, ap length ops, c.requires.allocs_long);
        no_places = λ k less. c.requires.no_places k (omega (arith, less, more, c.requires.start, ap length ops));
        fresh = record {
          early = λ r. ap (λ (s : PRegSet). has_register s r) c.new-inst_regs.ensures.early ∙ c.available_regs.ensures r;
          late = λ r. ap (λ (s : PRegSet). has_register s r) c.new-inst_regs.ensures.late ∙ c.available_regs.ensures r;
          scratch = c.new-inst_regs.ensures.scratch;
          awaited = c.new-inst_regs.ensures.awaited;
        };
      },
    )

pub returns-then-not-is_branch-clause-outcome : goal.returns-then-not-is_branch-clause-outcome
returns-then-not-is_branch-clause-outcome g c =
    let h = to_inst (inst_at (g.F.Function.function c.args.cx.now.f.now) c.args.at.inst) c.inst_operands-operands.ensures c.inst_clobbers-clobbers.ensures
    c.ends_block-ends_block.ensures c.requires.start c.in_ok-unlimited.ensures.outcome in
    let no : c.is_branch.result ≡ false = c.if-not-is_branch.true in
    record {
      middle = tables_of c.alloc_inst_at.new.self;
      inst_regs = c.alloc_inst_at.new.inst_regs;
      allocates = h.0;
      no_branch = λ e. refl;
      branch = λ e. not_both (c.is_branch.ensures ∙ e) no;
    }

pub returns-clause-outcome : goal.returns-clause-outcome
returns-clause-outcome g c =
    let f : FunctionValue = g.F.Function.function c.args.cx.now.f.now in
    let h = to_inst (inst_at (g.F.Function.function c.args.cx.now.f.now) c.args.at.inst) c.inst_operands-operands.ensures c.inst_clobbers-clobbers.ensures
    c.ends_block-ends_block.ensures c.requires.start c.in_ok-unlimited.ensures.outcome in
    let on : c.is_branch.result ≡ true = c.if-not-is_branch.false in
    let Q : InstRegs → Type 0 = λ t. ProcessesBranch f c.args.block c.args.at.inst t c.process_branch.new.inst_regs (tables_of c.alloc_inst_at.new.self)
    (tables_of c.process_branch.new.self) in
    record {
      middle = tables_of c.alloc_inst_at.new.self;
      inst_regs = c.process_branch.new.inst_regs;
      allocates = h.0;
      no_branch = λ e. not_both on (c.is_branch.ensures ∙ e);
      branch = λ e. subst Q (sym h.1) c.in_ok-process_branch.ensures.outcome;
    }

pub process_branch-requires : goal.process_branch-requires
process_branch-requires g c =
    let f : FunctionValue = g.F.Function.function c.args.cx.now.f.now in
    let on : c.is_branch.result ≡ true = c.if-not-is_branch.false in
    let last : c.args.at.inst + 1 ≡ (block_at f c.args.block).range.end =
    ends_in_branch f c.requires.well_formed.1.end c.args.block c.args.at.inst c.requires.block c.requires.first c.requires.end (sym c.is_branch.ensures ∙ on) in
    let few = (g.met.F.Function.limited c.args.cx.now.f.now).insts in
    let env : MachineValue = c.requires.well_formed.0 in (
      omega arith,
      record {
        gathering = record {
          block = c.requires.block;
          last = last;
          nonempty = c.requires.first;
          inst = omega (arith, few, c.requires.inst);
          well_formed = c.requires.well_formed;
          branch = sym c.is_branch.ensures ∙ on;
          defs = c.requires.defs;
          later = c.in_ok-unlimited.ensures.step.later;
          may_pass = may_pass env f c.requires.well_formed.1 c.args.block c.requires.block (tables_of c.alloc_inst_at.new.self)
              (subst (DefinesBelow f) (sym c.in_ok-unlimited.ensures.step.long) c.requires.room);
        };
        differ = parameters_differ env f c.requires.well_formed.1 c.args.block c.requires.block;
        apart = apart_kept 0 (tables_of c.args.self.now) (tables_of c.alloc_inst_at.new.self)
            (adds_temp_slots_of_same_machine 0 (tables_of c.args.self.now) (tables_of c.alloc_inst_at.new.self) c.alloc_inst_at.ensures.step.machine) c.requires.apart;
      },
    )

-- a step that fails, since registers, slots or memory are out
branch_fails : {A T : Type 0} {at more : ℕ} {e d : RegAllocError} (r : Result T RegAllocError) (a b : State A) → r ≡ Err d → d ≡ e
    → AddsTempSlotsAtMost more (tables_of a) (tables_of b) → IsResourceError (SlotsExhaustedWith a.slots (a.slots.num_temp_slots + more)) e
    → IsBranchStepAt at more r a b
branch_fails r a b is same kept lacks = rw is (rw same (record { machine = kept; later = tt; long = tt; err = lacks }))

-- the machine stays but for the temporary slots of a branch
pub returns-in_err-unlimited-clause-step : goal.returns-in_err-unlimited-clause-step
returns-in_err-unlimited-clause-step g c =
    let n : ℕ = temp_slots_at (g.F.Function.function c.args.cx.now.f.now) c.args.at.inst in
    let a : StateValue = tables_of c.args.self.now in
    let m : StateValue = tables_of c.alloc_inst_at.new.self in
    let p = err_from_is_err_and c.from_residual.result c.from_residual.ensures.1 in
    branch_fails c.from_residual.result c.args.self.now c.alloc_inst_at.new.self p.1 p.2 (adds_temp_slots_of_same_machine n a m c.alloc_inst_at.ensures.step.machine)
    (lack_all 0 n a m (adds_temp_slots_of_same_machine 0 a m c.alloc_inst_at.ensures.step.machine) (omega arith) _ c.in_err-unlimited.ensures.step.err)

pub returns-in_err-process_branch-clause-step : goal.returns-in_err-process_branch-clause-step
returns-in_err-process_branch-clause-step g c =
    let n : ℕ = temp_slots_at (g.F.Function.function c.args.cx.now.f.now) c.args.at.inst in
    let few : n ≡ 6 = six_temp_slots_at_branch (g.F.Function.function c.args.cx.now.f.now) c.args.at.inst c.is_branch.result c.is_branch.ensures c.if-not-is_branch.false in
    let a : StateValue = tables_of c.args.self.now in
    let m : StateValue = tables_of c.alloc_inst_at.new.self in
    let p = err_from_is_err_and c.from_residual-in_err-process_branch.result c.from_residual-in_err-process_branch.ensures.1 in
    branch_fails c.from_residual-in_err-process_branch.result c.args.self.now c.process_branch.new.self p.1 p.2
    (adds_temp_slots_trans 0 6 n a m (tables_of c.process_branch.new.self) (omega (arith, few)) (adds_temp_slots_of_same_machine 0 a m c.alloc_inst_at.ensures.step.machine)
    c.process_branch.ensures.step.machine)
    (lacks_all 0 6 n a m (adds_temp_slots_of_same_machine 0 a m c.alloc_inst_at.ensures.step.machine) (omega (arith, few)) _ c.in_err-process_branch.ensures.step.err)

pub returns-then-not-is_branch-clause-step : goal.returns-then-not-is_branch-clause-step
returns-then-not-is_branch-clause-step g c = record {
  machine = adds_temp_slots_of_same_machine _ (tables_of c.args.self.now) (tables_of c.alloc_inst_at.new.self) c.alloc_inst_at.ensures.step.machine;
  later = c.in_ok-unlimited.ensures.step.later;
  long = c.in_ok-unlimited.ensures.step.long;
  err = tt;
}

pub returns-clause-step : goal.returns-clause-step
returns-clause-step g c =
    let few = six_temp_slots_at_branch (g.F.Function.function c.args.cx.now.f.now) c.args.at.inst c.is_branch.result c.is_branch.ensures c.if-not-is_branch.false in
    let a : StateValue = tables_of c.args.self.now in
    let m : StateValue = tables_of c.alloc_inst_at.new.self in
    record {
      machine = adds_temp_slots_trans 0 6 (temp_slots_at (g.F.Function.function c.args.cx.now.f.now) c.args.at.inst) a m (tables_of c.process_branch.new.self) (omega
          (arith, few))
          (adds_temp_slots_of_same_machine 0 a m c.alloc_inst_at.ensures.step.machine) c.process_branch.ensures.step.machine;
      later = c.in_ok-process_branch.ensures.step.later;
      long = c.in_ok-process_branch.ensures.step.long ∙ c.in_ok-unlimited.ensures.step.long;
      err = tt;
    }

-- where the walk stops
pub returns-in_err-unlimited-clause-outcome : goal.returns-in_err-unlimited-clause-outcome
returns-in_err-unlimited-clause-outcome g c =
    let f : FunctionValue = g.F.Function.function c.args.cx.now.f.now in
    let v : InstValue = inst_at f c.args.at.inst in
    let e = err_from_is_err_and c.from_residual.result c.from_residual.ensures.1 in
    let X : List OperandValue → PRegSet → Bool → ℕ → Type 0 = λ o k b n. AllocInstAt c.args.at.inst o k b n c.args.allocs.now c.new-inst_regs.result
    (tables_of c.args.self.now) no_register in
    rw e.1 (λ lacks. in_inst c.new-inst_regs.result (record {
      early = λ r. ap (λ (x : PRegSet). has_register x r) c.new-inst_regs.ensures.early ∙ c.available_regs.ensures r;
      late = λ r. ap (λ (x : PRegSet). has_register x r) c.new-inst_regs.ensures.late ∙ c.available_regs.ensures r;
      scratch = c.new-inst_regs.ensures.scratch;
      awaited = c.new-inst_regs.ensures.awaited;
    })
    (subst (X v.operands v.clobbers (ends_block v)) c.requires.start
    (subst (λ (b : Bool). X v.operands v.clobbers b c.args.at.start) c.ends_block-ends_block.ensures
    (subst (λ (k : PRegSet). X v.operands k c.ends_block-ends_block.result c.args.at.start) c.inst_clobbers-clobbers.ensures
    (subst (λ (o : List OperandValue). X o c.inst_clobbers-clobbers.result c.ends_block-ends_block.result c.args.at.start) c.inst_operands-operands.ensures
    (c.in_err-unlimited.ensures.outcome (sym e.2 ∙ lacks)))))))

pub returns-in_err-process_branch-clause-outcome : goal.returns-in_err-process_branch-clause-outcome
returns-in_err-process_branch-clause-outcome g c =
    let f : FunctionValue = g.F.Function.function c.args.cx.now.f.now in
    let i : ℕ = c.args.at.inst in
    let m : StateValue = tables_of c.alloc_inst_at.new.self in
    let h = to_inst (inst_at (g.F.Function.function c.args.cx.now.f.now) c.args.at.inst) c.inst_operands-operands.ensures c.inst_clobbers-clobbers.ensures
    c.ends_block-ends_block.ensures c.requires.start c.in_ok-unlimited.ensures.outcome in
    let on : c.is_branch.result ≡ true = c.if-not-is_branch.false in
    let e = err_from_is_err_and c.from_residual-in_err-process_branch.result c.from_residual-in_err-process_branch.ensures.1 in
    rw e.1 (λ lacks. in_pass c.alloc_inst_at.new.allocs m h.0 (sym c.is_branch.ensures ∙ on)
    (subst (λ (t : InstRegs). ProcessBranch f c.args.block i t m no_register) (sym h.1) (c.in_err-process_branch.ensures.outcome (sym e.2 ∙ lacks))))

pub is_branch-requires : goal.is_branch-requires
is_branch-requires g c = c.requires.inst

-- the operands are the instruction's
pub returns-then-not-is_branch-clause-passes : goal.returns-then-not-is_branch-clause-passes
returns-then-not-is_branch-clause-passes g c =
    passes_inst (inst_at (g.F.Function.function c.args.cx.now.f.now) c.args.at.inst) c.in_ok-unlimited.unlimited
    (sym c.is_branch.ensures ∙ c.if-not-is_branch.true)
    (subst (λ (os : List OperandValue). (c.in_ok-unlimited.unlimited ≡ true) ↔ All IsTakenOperand os) c.inst_operands-operands.ensures
    c.in_ok-unlimited.ensures.unlimited)

pub returns-clause-passes : goal.returns-clause-passes
returns-clause-passes g c =
    passes_branch (inst_at (g.F.Function.function c.args.cx.now.f.now) c.args.at.inst) c.in_ok-unlimited.unlimited c.is_sound_branch-is_sound.result
    (subst (λ (os : List OperandValue). (c.in_ok-unlimited.unlimited ≡ true) ↔ All IsTakenOperand os) c.inst_operands-operands.ensures
    c.in_ok-unlimited.ensures.unlimited) c.is_sound_branch-is_sound.ensures
