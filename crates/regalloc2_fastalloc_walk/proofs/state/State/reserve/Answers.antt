use Rattle.std.proofs.Common.{ℕ, List, refl, sym, ap, ◌∙◌, slice_index}
use Rattle.std.proofs.lemmas.Result.{err_from_is_err_and}
use Rattle.regalloc2_names.specs.Register.{class_code}
use Rattle.regalloc2_fastalloc_walk.specs.StateView.{tables_of}
use Rattle.regalloc2_fastalloc_walk.proofs.RegsReserved.{reserves_none}
use Rattle.std.specs.Prelude.{Err}
use Rattle.regalloc2_fastalloc_walk.proofs.state.State.reserve.Goals as goal
use Rattle.regalloc2_fastalloc_walk.proofs.state.State.reserve.Goals.{then-sorted+in_ok-reserve_each, else-sorted}

pub returns-clause-outcome : goal.returns-clause-outcome
returns-clause-outcome g c =
    let counted = c.sort-sorted.ensures.awaited in
    elim c.if-sorted.branch [
      | then-sorted+in_ok-reserve_each w ↦ rw w.inst_regs-is (w.in_ok-reserve_each.ensures.outcome c.args.inst_regs.now c.sort-sorted.ensures.available
          (λ zero class. ap (λ (xs : List ℕ). slice_index xs (class_code class)) w.reserve_each.ensures.awaited ∙ counted zero class))
      | else-sorted w ↦ rw w.inst_regs-is (reserves_none c.args.operands.now c.args.inst_regs.now c.sort-sorted.new.inst_regs (tables_of c.args.self.now)
          (c.sort-sorted.ensures.sorted.none w.if-sorted.false) c.sort-sorted.ensures.available counted)
    ]

pub returns-in_err-reserve_each-clause-outcome : goal.returns-in_err-reserve_each-clause-outcome
returns-in_err-reserve_each-clause-outcome g c =
    let e = err_from_is_err_and c.from_residual.result c.from_residual.ensures.1 in
    rw e.1 (λ lacks. c.in_err-reserve_each.ensures.outcome (sym e.2 ∙ lacks))

pub returns-clause-err : goal.returns-clause-err
returns-clause-err g c = tt

pub returns-clause-sorted : goal.returns-clause-sorted
returns-clause-sorted g c = c.sort-sorted.ensures.sorted

pub returns-in_err-reserve_each-clause-same : goal.returns-in_err-reserve_each-clause-same
returns-in_err-reserve_each-clause-same g c = c.reserve_each.ensures.same

pub returns-in_err-reserve_each-clause-err : goal.returns-in_err-reserve_each-clause-err
returns-in_err-reserve_each-clause-err g c =
    let e = err_from_is_err_and c.from_residual.result c.from_residual.ensures.1 in
    rw (e.1 ∙ ap Err e.2) c.in_err-reserve_each.ensures.err

pub returns-clause-same : goal.returns-clause-same
returns-clause-same g c = elim c.if-sorted.branch [
  | then-sorted+in_ok-reserve_each w ↦ rw w.self-is w.reserve_each.ensures.same
  | else-sorted w ↦ rw w.self-is refl
]

pub returns-clause-unused : goal.returns-clause-unused
returns-clause-unused g c = elim c.if-sorted.branch [
  | then-sorted+in_ok-reserve_each w ↦ rw w.self-is w.in_ok-reserve_each.ensures.unused
  | else-sorted w ↦ rw w.self-is (λ none. refl)
]
