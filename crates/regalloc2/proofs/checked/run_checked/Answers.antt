use Rattle.std.proofs.lemmas.Result.{err_from_is_err_and}
use Rattle.regalloc2_function.specs.Views.{machine_of, output_of}
use Rattle.regalloc2.proofs.CheckerErrorReasons.{no_fault_where_faithful, checked_reason}
use Rattle.regalloc2.proofs.CountedOperands.{few_counted, found_counted, refused_counted}
use Rattle.regalloc2.proofs.checked.run_checked.Goals as goal

pub run-requires-clause-machine : goal.run-requires-clause-machine
run-requires-clause-machine g c = c.requires.machine

pub run-requires-clause-well_formed : goal.run-requires-clause-well_formed
run-requires-clause-well_formed g c = c.requires.well_formed

pub returns-in-Err : goal.returns-in-Err
returns-in-Err g c = record { allocation = tt; faithful = tt; tested = tt; passes_checks = tt; accepted = λ _ fault. fault; refused = c.in-Err.ensures.refused; many_operands = refused_counted c.in-Err.error c.in-Err.ensures.many_operands }

pub judge-requires-clause-framed : goal.judge-requires-clause-framed
judge-requires-clause-framed g c =
    let ok = c.in-Ok.ensures.tested in
    record { successors = ok.successors; follow = ok.follow; end = ok.end; counted = ok.counted }

pub judge-requires-clause-in_order : goal.judge-requires-clause-in_order
judge-requires-clause-in_order g c = c.in-Ok.ensures.allocation.in_order

pub returns : goal.returns
returns g c = record {
  allocation = c.in-Ok.ensures.allocation;
  faithful = c.in_ok-judge.ensures.ok;
  tested = c.in-Ok.ensures.tested;
  passes_checks = c.in-Ok.ensures.passes_checks;
  accepted = λ _. tt;
  refused = tt;
  many_operands = few_counted (g.F.Function.function c.args.f.now) c.in-Ok.ensures.passes_checks.first (λ e. absurd cc);
}

pub returns-in_err-judge : goal.returns-in_err-judge
returns-in_err-judge g c =
    let p = err_from_is_err_and c.from_residual.result c.from_residual.ensures.1 in
    rw (p.1, p.2) (record {
      allocation = tt;
      faithful = tt;
      tested = tt;
      passes_checks = tt;
      accepted = λ written.
          no_fault_where_faithful (g.F.Function.function c.args.f.now) (machine_of c.args.env.now) (output_of c.in-Ok.out) _
          (c.in-Ok.ensures.allocation.faithful written).faithful c.in_err-judge.ensures.err;
      refused =
          checked_reason (g.F.Function.function c.args.f.now) (machine_of c.args.env.now) c.args.options.now.validate_ssa (output_of c.in-Ok.out)
          _ c.in-Ok.ensures.allocation c.in-Ok.ensures.passes_checks c.in_err-judge.ensures.err;
      many_operands =
          found_counted (g.F.Function.function c.args.f.now) (machine_of c.args.env.now) (output_of c.in-Ok.out) _
          c.in-Ok.ensures.passes_checks.first c.in_err-judge.ensures.err;
    })
