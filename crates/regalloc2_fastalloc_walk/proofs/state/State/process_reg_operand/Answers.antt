use Rattle.std.proofs.Common.{ℕ, ◌≡◌, ◌<◌, List, length, sym, ap, ◌∙◌, subst, arith, rules, false}
use Rattle.regalloc2_names.specs.Place.{NoPlace, after}
use Rattle.regalloc2_names.specs.Operand.{OperandValue, is_def}
use Rattle.regalloc2_names.specs.declared.OperandConstraint.TheVariants.{Reg}
use Rattle.regalloc2_fastalloc_state.specs.StateParts.{AllAtOrAfter}
use Rattle.regalloc2_fastalloc_state.specs.declared.request.OperandRequest.{OperandRequest}
use Rattle.regalloc2_function.specs.FunctionValue.{op_at}
use Rattle.std.proofs.lemmas.Result.{err_from_is_err_and}
use Rattle.regalloc2_fastalloc_walk.proofs.OperandOutOfRegs.{stop_use, stop_def}
use Rattle.regalloc2_fastalloc_walk.proofs.Steps.{step_ok}
use Rattle.regalloc2_fastalloc_walk.specs.StateView.{tables_of}
use Rattle.regalloc2_fastalloc_state.proofs.ValidateLemmas.OperandReads.{read_operand}
use Rattle.regalloc2_fastalloc_proofs.proofs.Operands.OperandRules.{op_in_tables, use_in_tables, processes_operand_use, processes_operand_def}
use Rattle.regalloc2_fastalloc_walk.proofs.RegOperands.{reg_not_nonallocatable, reg_no_reuse}
use Rattle.regalloc2_fastalloc_walk.proofs.state.State.process_reg_operand.Goals as goal

pub reg_request-request-requires : goal.reg_request-request-requires
reg_request-request-requires g c =
    let ops : List OperandValue = c.args.cx.now.operands.now in
    let o : c.index-operands-k.result ≡ op_at ops c.args.k = read_operand ops c.args.k c.index-operands-k.result c.requires.inside c.index-operands-k.is in
    ap (λ (x : OperandValue). x.constraint) o ∙ c.requires.reg

pub alloc_use-requires : goal.alloc_use-requires
alloc_use-requires g c =
    let ops : List OperandValue = c.args.cx.now.operands.now in
    let o : c.index-operands-k.result ≡ op_at ops c.args.k = read_operand ops c.args.k c.index-operands-k.result c.requires.inside c.index-operands-k.is in
    let reg : c.index-operands-k.result.constraint ≡ Reg = ap (λ (x : OperandValue). x.constraint) o ∙ c.requires.reg in
    let at : c.after-point.result ≡ after c.args.cx.now.inst = c.after-point.ensures.point (λ e. omega (arith, c.requires.inst)) in (
      search rules,
      (
        subst (λ (p : ℕ). AllAtOrAfter p c.args.self.now.edits) (sym at) c.requires.later,
        use_in_tables ops c.args.k c.index-operands-k.result NoPlace c.reg_request-request.result (tables_of c.args.self.now) c.requires.inside o
            (c.reg_request-request.ensures.used (sym c.is_def.ensures ∙ c.if-not-is_def.true)) (reg_not_nonallocatable c.index-operands-k.result reg)
            c.requires.in_tables,
      ),
    )

pub returns-then-not-is_def-clause-outcome : goal.returns-then-not-is_def-clause-outcome
returns-then-not-is_def-clause-outcome g c =
    let ops : List OperandValue = c.args.cx.now.operands.now in
    let o : c.index-operands-k.result ≡ op_at ops c.args.k = read_operand ops c.args.k c.index-operands-k.result c.requires.inside c.index-operands-k.is in
    let reg : c.index-operands-k.result.constraint ≡ Reg = ap (λ (x : OperandValue). x.constraint) o ∙ c.requires.reg in
    let at : c.after-point.result ≡ after c.args.cx.now.inst = c.after-point.ensures.point (λ e. omega (arith, c.requires.inst)) in
    let reads : is_def c.index-operands-k.result.kind ≡ false = sym c.is_def.ensures ∙ c.if-not-is_def.true in
    processes_operand_use c.index-operands-k.result NoPlace o (sym c.requires.unplaced) (c.reg_request-request.ensures.used reads) at
    (reg_not_nonallocatable c.index-operands-k.result reg) reads c.in_ok-allocs.ensures.outcome

pub returns-then-not-is_def-clause-step : goal.returns-then-not-is_def-clause-step
returns-then-not-is_def-clause-step g c =
    let at : c.after-point.result ≡ after c.args.cx.now.inst = c.after-point.ensures.point (λ e. omega (arith, c.requires.inst)) in
    step_ok c.args.self.now c.alloc_use.new.self at c.in_ok-allocs.ensures.step

pub alloc_def_op-requires : goal.alloc_def_op-requires
alloc_def_op-requires g c =
    let ops : List OperandValue = c.args.cx.now.operands.now in
    let o : c.index-operands-k.result ≡ op_at ops c.args.k = read_operand ops c.args.k c.index-operands-k.result c.requires.inside c.index-operands-k.is in
    let reg : c.index-operands-k.result.constraint ≡ Reg = ap (λ (x : OperandValue). x.constraint) o ∙ c.requires.reg in
    let at : c.after-point.result ≡ after c.args.cx.now.inst = c.after-point.ensures.point (λ e. omega (arith, c.requires.inst)) in (
      search rules,
      (
        subst (λ (p : ℕ). AllAtOrAfter p c.args.self.now.edits) (sym at) c.requires.later,
        subst (λ (x : OperandRequest). x.vreg.number < length c.args.self.now.places.vreg_allocs)
            (sym (c.reg_request-request.ensures.defined (sym c.is_def.ensures ∙ c.if-not-is_def.false)))
            (op_in_tables ops c.args.k c.index-operands-k.result (tables_of c.args.self.now) c.requires.inside o
            (reg_not_nonallocatable c.index-operands-k.result reg) c.requires.in_tables),
      ),
    )

pub returns-clause-outcome : goal.returns-clause-outcome
returns-clause-outcome g c =
    let ops : List OperandValue = c.args.cx.now.operands.now in
    let o : c.index-operands-k.result ≡ op_at ops c.args.k = read_operand ops c.args.k c.index-operands-k.result c.requires.inside c.index-operands-k.is in
    let reg : c.index-operands-k.result.constraint ≡ Reg = ap (λ (x : OperandValue). x.constraint) o ∙ c.requires.reg in
    let at : c.after-point.result ≡ after c.args.cx.now.inst = c.after-point.ensures.point (λ e. omega (arith, c.requires.inst)) in
    let def = sym c.is_def.ensures ∙ c.if-not-is_def.false in
    processes_operand_def c.index-operands-k.result o (c.reg_request-request.ensures.defined def) at def
    (λ n e. reg_no_reuse c.index-operands-k.result n reg e) c.in_ok-allocs-2.ensures.outcome

pub returns-clause-step : goal.returns-clause-step
returns-clause-step g c =
    let at : c.after-point.result ≡ after c.args.cx.now.inst = c.after-point.ensures.point (λ e. omega (arith, c.requires.inst)) in
    step_ok c.args.self.now c.alloc_def_op.new.self at c.in_ok-allocs-2.ensures.step

-- an operand gets no place
pub returns-in_err-allocs-clause-outcome : goal.returns-in_err-allocs-clause-outcome
returns-in_err-allocs-clause-outcome g c =
    let ops : List OperandValue = c.args.cx.now.operands.now in
    let o : c.index-operands-k.result ≡ op_at ops c.args.k = read_operand ops c.args.k c.index-operands-k.result c.requires.inside c.index-operands-k.is in
    let reg : c.index-operands-k.result.constraint ≡ Reg = ap (λ (x : OperandValue). x.constraint) o ∙ c.requires.reg in
    let reads : is_def c.index-operands-k.result.kind ≡ false = sym c.is_def.ensures ∙ c.if-not-is_def.true in
    let at : c.after-point.result ≡ after c.args.cx.now.inst = c.after-point.ensures.point (λ e. omega (arith, c.requires.inst)) in
    let e = err_from_is_err_and c.from_residual.result c.from_residual.ensures.1 in
    rw e.1 (λ same. stop_use c.index-operands-k.result NoPlace o (sym c.requires.unplaced) (c.reg_request-request.ensures.used reads) at
    (reg_not_nonallocatable c.index-operands-k.result reg) reads
    (c.in_err-allocs.ensures.outcome (sym e.2 ∙ same)))

pub returns-in_err-allocs-2-clause-outcome : goal.returns-in_err-allocs-2-clause-outcome
returns-in_err-allocs-2-clause-outcome g c =
    let ops : List OperandValue = c.args.cx.now.operands.now in
    let o : c.index-operands-k.result ≡ op_at ops c.args.k = read_operand ops c.args.k c.index-operands-k.result c.requires.inside c.index-operands-k.is in
    let reg : c.index-operands-k.result.constraint ≡ Reg = ap (λ (x : OperandValue). x.constraint) o ∙ c.requires.reg in
    let at : c.after-point.result ≡ after c.args.cx.now.inst = c.after-point.ensures.point (λ e. omega (arith, c.requires.inst)) in
    let def = sym c.is_def.ensures ∙ c.if-not-is_def.false in
    let e = err_from_is_err_and c.from_residual-in_err-allocs-2.result c.from_residual-in_err-allocs-2.ensures.1 in
    rw e.1 (λ same. stop_def c.index-operands-k.result o (c.reg_request-request.ensures.defined def) at def
    (λ n e. reg_no_reuse c.index-operands-k.result n reg e)
    (c.in_err-allocs-2.ensures.outcome (sym e.2 ∙ same)))
