use Rattle.std.proofs.Common.{ℕ, ◌≡◌, ◌+◌, ◌<◌, true, List, [], length, refl, sym, ap, ◌∙◌, subst, arith, rules, slice_index}
use Rattle.std.proofs.lemmas.List.{get_or_read}
use Rattle.regalloc2_names.specs.Place.{before}
use Rattle.regalloc2_names.specs.Register.{VirtualRegister}
use Rattle.regalloc2_function.specs.FunctionValue.{FunctionValue, block_at, inst_at}
use Rattle.regalloc2_semantics.specs.Runs.{arguments_at}
use Rattle.regalloc2_function.proofs.Following.{end_within}
use Rattle.regalloc2_semantics.specs.Sound.{target_at}
use Rattle.regalloc2_fastalloc_proofs.specs.BranchSteps.{GathersMoves, no_edge, one_edge, IsOwnDef, GatherEdge}
use Rattle.regalloc2_fastalloc_proofs.specs.InstSteps.{StateValue, no_register}
use Rattle.std.proofs.lemmas.Result.{err_from_is_err_and}
use Rattle.regalloc2_analysis.specs.BranchDefs.Tables.{AreBranchDefsOf}
use Rattle.regalloc2_analysis.specs.declared.branch_defs.BranchDefs.{BranchDefs}
use Rattle.regalloc2_fastalloc_proofs.specs.BlockSteps.{MayBeAllocated}
use Rattle.regalloc2_fastalloc_walk.proofs.OwnDefs.{own_by, by_own, gathers_as, fails_as}
use Rattle.regalloc2_fastalloc_walk.specs.OwnDefs.{IsOwnBy}
use Rattle.regalloc2_fastalloc_walk.specs.StateView.{tables_of}
use Rattle.regalloc2_fastalloc_proofs.proofs.Branches.ArgMovesAreParallel.{vregs_stay_in_tables, gathers_edge_moves_at}
use Rattle.regalloc2_fastalloc_proofs.proofs.Evictions.PushedAndRemoved.{same_machine_trans}
use Rattle.regalloc2_fastalloc_walk.proofs.Steps.{step_trans_fails}
use Rattle.regalloc2_fastalloc_walk.proofs.state.State.gather.Goals as goal

pub loop-k-init : goal.loop-k-init
loop-k-init g c = record {
  done = ([], c.none-moves.ensures, no_edge);
  later = c.requires.later;
  long = refl;
  machine = record { allocatable = refl; fixed_stack = refl; dedicated_scratch = refl; sizes = refl; vregs = refl; num_temp_slots = refl };
}

pub block_params-params-requires : goal.block_params-params-requires
block_params-params-requires g c =
    let f = g.F.Function.function c.args.cx.now.f.now in
    let k : ℕ = c.loop-k.k in
    let succs : c.block_succs-succs.result.now ≡ (block_at f c.args.block).succs = c.block_succs-succs.ensures in
    let lt : k < length (block_at f c.args.block).succs = subst (λ (l : List ℕ). k < length l) succs c.loop-k-test.true in
    let read : c.index-succs-k.result ≡ target_at f c.args.block k = get_or_read c.block_succs-succs.result.now k c.index-succs-k.result c.loop-k-test.true
    c.index-succs-k.is 0 ∙ ap (λ (l : List ℕ). slice_index l k) succs in
    subst (λ (n : ℕ). n < length f.blocks) (sym read) (c.requires.may_pass.targets k lt)

pub gather_edge-requires : goal.gather_edge-requires
gather_edge-requires g c =
    let f = g.F.Function.function c.args.cx.now.f.now in
    let k : ℕ = c.loop-k.k in
    let succs : c.block_succs-succs.result.now ≡ (block_at f c.args.block).succs = c.block_succs-succs.ensures in
    let lt : k < length (block_at f c.args.block).succs = subst (λ (l : List ℕ). k < length l) succs c.loop-k-test.true in
    let read : c.index-succs-k.result ≡ target_at f c.args.block k = get_or_read c.block_succs-succs.result.now k c.index-succs-k.result c.loop-k-test.true
    c.index-succs-k.is 0 ∙ ap (λ (l : List ℕ). slice_index l k) succs in
    let ps : c.block_params-params.result.now ≡ (block_at f (target_at f c.args.block k)).params = c.block_params-params.ensures
    ∙ ap (λ (n : ℕ). (block_at f n).params) read in
    let xs : c.branch_blockparams-arguments.result.now ≡ arguments_at f c.args.block k = c.branch_blockparams-arguments.ensures in (
      search rules,
      record {
        inst = c.requires.inst;
        later = c.loop-k.invariant.later;
        counted = ap (λ (l : List VirtualRegister). length l) xs ∙ c.requires.may_pass.counted k lt ∙ ap (λ (l : List VirtualRegister). length l) (sym ps);
        parameters = vregs_stay_in_tables (block_at f (target_at f c.args.block k)).params c.block_params-params.result.now (tables_of c.args.self.now) (tables_of
            c.loop-k.self) ps c.loop-k.invariant.long (c.requires.may_pass.parameters k lt);
        arguments = vregs_stay_in_tables (arguments_at f c.args.block k) c.branch_blockparams-arguments.result.now (tables_of c.args.self.now) (tables_of c.loop-k.self) xs
            c.loop-k.invariant.long (c.requires.may_pass.arguments k lt);
      },
    )

-- what the tables say that the branch defines is its own
module _ (f : FunctionValue) {A : Type 0} (defs : BranchDefs A) (are : AreBranchDefsOf f defs) (well : MayBeAllocated f) (b i : ℕ) (lt : b < length f.blocks)
    (last : i + 1 ≡ (block_at f b).range.end) (branch : (inst_at f i).is_branch ≡ true) where
  own_there : (v : VirtualRegister) → IsOwnBy defs i v → IsOwnDef f b v
  own_there v own = own_by f defs are b i (omega (arith, last)) v own

  there_own : (v : VirtualRegister) → IsOwnDef f b v → IsOwnBy defs i v
  there_own v own = (let within = end_within f well.1.follow b lt in by_own f defs are well.1.defined_once b i (omega (arith, last)) (omega (
    arith,
    last,
    within,
  )) branch v own)

pub loop-k-preserved : goal.loop-k-preserved
loop-k-preserved g c =
    let f = g.F.Function.function c.args.cx.now.f.now in
    let k : ℕ = c.loop-k.k in
    let succs : c.block_succs-succs.result.now ≡ (block_at f c.args.block).succs = c.block_succs-succs.ensures in
    let lt : k < length (block_at f c.args.block).succs = subst (λ (l : List ℕ). k < length l) succs c.loop-k-test.true in
    let read : c.index-succs-k.result ≡ target_at f c.args.block k = get_or_read c.block_succs-succs.result.now k c.index-succs-k.result c.loop-k-test.true
    c.index-succs-k.is 0 ∙ ap (λ (l : List ℕ). slice_index l k) succs in
    let ps : c.block_params-params.result.now ≡ (block_at f (target_at f c.args.block k)).params = c.block_params-params.ensures
    ∙ ap (λ (n : ℕ). (block_at f n).params) read in
    let xs : c.branch_blockparams-arguments.result.now ≡ arguments_at f c.args.block k = c.branch_blockparams-arguments.ensures in
    let m : StateValue = tables_of c.loop-k.self in
    let n : StateValue = tables_of c.gather_edge.new.self in
    let x = c.loop-k.invariant.done in
    let y = c.in_ok-gather_edge.ensures.outcome x.0 x.1 in
    record {
      done = (
        y.0,
        y.1,
        one_edge k x.0 y.0 c.loop-k.inst_regs c.gather_edge.new.inst_regs m n lt x.2
            (gathers_edge_moves_at (before c.args.inst) (before c.args.inst) c.block_params-params.result.now (block_at f (target_at f c.args.block k)).params
            c.branch_blockparams-arguments.result.now (arguments_at f c.args.block k)
            c.loop-k.inst_regs c.gather_edge.new.inst_regs m n x.0 y.0 refl ps xs
            (gathers_as (IsOwnBy c.args.cx.now.defs.now c.args.inst) (IsOwnDef f c.args.block)
            (own_there f c.args.cx.now.defs.now c.requires.defs c.requires.well_formed c.args.block c.args.inst c.requires.block c.requires.last
            c.requires.branch)
            (there_own f c.args.cx.now.defs.now c.requires.defs c.requires.well_formed c.args.block c.args.inst c.requires.block c.requires.last
            c.requires.branch)
            (before c.args.inst) c.block_params-params.result.now c.branch_blockparams-arguments.result.now c.loop-k.inst_regs m x.0
            (length c.block_params-params.result.now) c.gather_edge.new.inst_regs n y.0 y.2)),
      );
      later = c.in_ok-gather_edge.ensures.step.later;
      long = c.in_ok-gather_edge.ensures.step.long ∙ c.loop-k.invariant.long;
      machine = same_machine_trans (tables_of c.args.self.now) m n c.loop-k.invariant.machine c.gather_edge.ensures.step.machine;
    }

pub returns-clause-outcome : goal.returns-clause-outcome
returns-clause-outcome g c =
    let f = g.F.Function.function c.args.cx.now.f.now in
    let e : c.loop-k.k ≡ length (block_at f c.args.block).succs = omega (arith, ap (λ (l : List ℕ). length l) c.block_succs-succs.ensures) in
    let x = c.loop-k.invariant.done in (
      x.0,
      x.1,
      subst (λ (n : ℕ). GathersMoves f c.args.block (before c.args.inst) c.args.inst_regs.now (tables_of c.args.self.now) n c.loop-k.inst_regs
          (tables_of c.loop-k.self) x.0) e x.2,
    )

pub returns-in_err-gather_edge-clause-outcome : goal.returns-in_err-gather_edge-clause-outcome
returns-in_err-gather_edge-clause-outcome g c =
    let f = g.F.Function.function c.args.cx.now.f.now in
    let k : ℕ = c.loop-k.k in
    let succs : c.block_succs-succs.result.now ≡ (block_at f c.args.block).succs = c.block_succs-succs.ensures in
    let lt : k < length (block_at f c.args.block).succs = subst (λ (l : List ℕ). k < length l) succs c.loop-k-test.true in
    let read : c.index-succs-k.result ≡ target_at f c.args.block k = get_or_read c.block_succs-succs.result.now k c.index-succs-k.result c.loop-k-test.true
    c.index-succs-k.is 0 ∙ ap (λ (l : List ℕ). slice_index l k) succs in
    let ps : c.block_params-params.result.now ≡ (block_at f (target_at f c.args.block k)).params = c.block_params-params.ensures
    ∙ ap (λ (n : ℕ). (block_at f n).params) read in
    let xs : c.branch_blockparams-arguments.result.now ≡ arguments_at f c.args.block k = c.branch_blockparams-arguments.ensures in
    let m : StateValue = tables_of c.loop-k.self in
    let x = c.loop-k.invariant.done in
    let p = err_from_is_err_and c.from_residual.result c.from_residual.ensures.1 in
    let F : List VirtualRegister → List VirtualRegister → Type 0 = λ ps xs. GatherEdge (IsOwnBy c.args.cx.now.defs.now c.args.inst)
    (before c.args.inst) ps xs c.loop-k.inst_regs m x.0 no_register in
    rw p.1 (λ same. record {
      index = k;
      given = (c.loop-k.inst_regs, x.0);
      middle = m;
      inside = lt;
      done = x.2;
      stops = fails_as (IsOwnBy c.args.cx.now.defs.now c.args.inst) (IsOwnDef f c.args.block)
          (own_there f c.args.cx.now.defs.now c.requires.defs c.requires.well_formed c.args.block c.args.inst c.requires.block c.requires.last
          c.requires.branch)
          (there_own f c.args.cx.now.defs.now c.requires.defs c.requires.well_formed c.args.block c.args.inst c.requires.block c.requires.last
          c.requires.branch)
          (before c.args.inst) (block_at f (target_at f c.args.block k)).params (arguments_at f c.args.block k) c.loop-k.inst_regs m x.0
          (subst (λ (l : List VirtualRegister). F l (arguments_at f c.args.block k)) ps
          (subst (λ (l : List VirtualRegister). F c.block_params-params.result.now l) xs (c.in_err-gather_edge.ensures.outcome x.0 x.1 (sym p.2 ∙ same))));
    })

pub returns-clause-step : goal.returns-clause-step
returns-clause-step g c = record {
  machine = c.loop-k.invariant.machine;
  later = c.loop-k.invariant.later;
  long = c.loop-k.invariant.long;
  err = search rules;
}

-- the machine stays where the walk stops
pub returns-in_err-gather_edge-clause-step : goal.returns-in_err-gather_edge-clause-step
returns-in_err-gather_edge-clause-step g c =
    let e = err_from_is_err_and c.from_residual.result c.from_residual.ensures.1 in
    step_trans_fails c.from_residual.result c.args.self.now c.loop-k.self c.gather_edge.new.self e.1 e.2 c.loop-k.invariant.machine
    c.in_err-gather_edge.ensures.step
