use Rattle.std.proofs.Common.{◌≡◌, length, refl, sym, ◌∙◌, arith}
use Rattle.std.proofs.lemmas.Result.{err_from_is_err_and}
use Rattle.regalloc2_fastalloc_walk.specs.StateView.{tables_of}
use Rattle.regalloc2_fastalloc_walk.proofs.RegsReserved.{reserving_none, reserving_more, reserves_all}
use Rattle.regalloc2_fastalloc_walk.proofs.RegsReserved.{reserve_fails_used, reserves_used, stops_reserve, same_but_order_trans}
use Rattle.regalloc2_fastalloc_walk.proofs.state.State.reserve_each.Goals as goal

pub loop-k-init : goal.loop-k-init
loop-k-init g c = record {
  reserving = reserving_none c.args.operands.now c.args.inst_regs.now c.none-claims.result (tables_of c.args.self.now)
      c.none-claims.ensures.early c.none-claims.ensures.late;
  awaited = refl;
  same = refl;
  unused = λ none. refl;
}

pub loop-k-preserved : goal.loop-k-preserved
loop-k-preserved g c = record {
  reserving = reserving_more c.args.operands.now c.loop-k.k c.args.inst_regs.now c.loop-k.inst_regs c.reserve_reg_for_operand.new.inst_regs c.loop-k.claims
      c.reserve_reg_for_operand.new.claims (tables_of c.args.self.now) c.loop-k.invariant.reserving
      (reserves_used c.args.operands.now c.loop-k.k c.loop-k.inst_regs c.reserve_reg_for_operand.new.inst_regs c.loop-k.claims
      c.reserve_reg_for_operand.new.claims (tables_of c.args.self.now) (tables_of c.loop-k.self) c.loop-k.invariant.same
      c.in_ok-reserve_reg_for_operand.ensures.outcome);
  awaited = c.reserve_reg_for_operand.ensures.awaited ∙ c.loop-k.invariant.awaited;
  same = same_but_order_trans (tables_of c.args.self.now) (tables_of c.loop-k.self) (tables_of c.reserve_reg_for_operand.new.self) c.loop-k.invariant.same
      c.reserve_reg_for_operand.ensures.same;
  unused = λ none. c.in_ok-reserve_reg_for_operand.ensures.unused (λ r e. none c.loop-k.k r (omega arith) e)
      ∙ c.loop-k.invariant.unused (λ k r less e. none k r (omega (arith, less)) e);
}

pub returns-clause-outcome : goal.returns-clause-outcome
returns-clause-outcome g c = let e : c.loop-k.k ≡ length c.args.operands.now = omega arith in
    reserves_all c.args.operands.now c.loop-k.k c.args.inst_regs.now c.loop-k.inst_regs c.loop-k.claims (tables_of c.args.self.now) e
    c.loop-k.invariant.reserving

pub returns-clause-same : goal.returns-clause-same
returns-clause-same g c = c.loop-k.invariant.same

pub returns-clause-awaited : goal.returns-clause-awaited
returns-clause-awaited g c = c.loop-k.invariant.awaited

pub returns-clause-unused : goal.returns-clause-unused
returns-clause-unused g c = λ none. c.loop-k.invariant.unused (λ k r less e. none k r (omega (arith, less)) e)

pub returns-in_err-reserve_reg_for_operand-clause-awaited : goal.returns-in_err-reserve_reg_for_operand-clause-awaited
returns-in_err-reserve_reg_for_operand-clause-awaited g c = c.reserve_reg_for_operand.ensures.awaited ∙ c.loop-k.invariant.awaited

pub returns-in_err-reserve_reg_for_operand-clause-same : goal.returns-in_err-reserve_reg_for_operand-clause-same
returns-in_err-reserve_reg_for_operand-clause-same g c = same_but_order_trans (tables_of c.args.self.now) (tables_of c.loop-k.self)
    (tables_of c.reserve_reg_for_operand.new.self) c.loop-k.invariant.same c.reserve_reg_for_operand.ensures.same

pub returns-in_err-reserve_reg_for_operand-clause-outcome : goal.returns-in_err-reserve_reg_for_operand-clause-outcome
returns-in_err-reserve_reg_for_operand-clause-outcome g c =
    let ops = c.args.operands.now in
    let e = err_from_is_err_and c.from_residual.result c.from_residual.ensures.1 in
    rw e.1 (λ lacks. stops_reserve ops c.loop-k.k c.args.inst_regs.now c.loop-k.inst_regs c.loop-k.claims (tables_of c.args.self.now) (omega arith)
    c.loop-k.invariant.reserving
    (reserve_fails_used ops c.loop-k.k c.loop-k.claims (tables_of c.args.self.now) (tables_of c.loop-k.self) c.loop-k.invariant.same
    (c.in_err-reserve_reg_for_operand.ensures.outcome (sym e.2 ∙ lacks))))
