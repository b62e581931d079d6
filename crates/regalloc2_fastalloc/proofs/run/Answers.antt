use Rattle.std.proofs.Common.{Ok, Err, Bool, ◌≡◌, ◌<◌, ◌^◌, true, sym, subst}
use Rattle.std.proofs.lemmas.Result.{err_from_is_err_and}
use Rattle.regalloc2_function.specs.FunctionValue.{FunctionValue, operand_count}
use Rattle.regalloc2_function.specs.Machine.{MachineValue}
use Rattle.regalloc2_function.specs.Views.{machine_of}
use Rattle.regalloc2_function.specs.WellFormed.{IsWellFormed}
use Rattle.regalloc2_fastalloc.specs.ErrorReason.{IsReason}
use Rattle.regalloc2_fastalloc.proofs.ErrorsHaveReasons.{allocation_reason, fault_is_reason, counted_alone, passed_unlimited}
use Rattle.regalloc2_fastalloc.specs.Survey.{IsSurveyError}
use Rattle.regalloc2_fastalloc.proofs.PassOverInsts.{survey_counted, survey_reason}
use Rattle.regalloc2_fastalloc.proofs.run.Goals as goal
use Rattle.regalloc2_fastalloc.proofs.run.Goals.{then-options+in_ok-validate_function, else-options}

pub returns-in_err-survey-clause-refused : goal.returns-in_err-survey-clause-refused
returns-in_err-survey-clause-refused g c =
    let f : FunctionValue = g.F.Function.function c.args.f.now in
    let env : MachineValue = machine_of c.args.env.now in
    let asked : Bool = c.args.options.now.validate_ssa in
    let p = err_from_is_err_and c.from_residual.result c.from_residual.ensures.1 in
    rw p.1 (subst (IsReason f env asked) (sym p.2) (survey_reason f env asked c.in_err-survey.ensures.err))

pub returns-in_err-survey-clause-many_operands : goal.returns-in_err-survey-clause-many_operands
returns-in_err-survey-clause-many_operands g c =
    let f : FunctionValue = g.F.Function.function c.args.f.now in
    let p = err_from_is_err_and c.from_residual.result c.from_residual.ensures.1 in
    survey_counted f c.from_residual.result p.0 p.1 (subst (IsSurveyError f) (sym p.2) c.in_err-survey.ensures.err)

pub returns-in_err-validate_function-clause-refused : goal.returns-in_err-validate_function-clause-refused
returns-in_err-validate_function-clause-refused g c =
    let f : FunctionValue = g.F.Function.function c.args.f.now in
    let env : MachineValue = machine_of c.args.env.now in
    let asked : Bool = c.args.options.now.validate_ssa in
    let few : operand_count f < 2 ^ 32 = c.in_ok-survey.ensures.ok.few in
    let p = err_from_is_err_and c.from_residual-in_err-validate_function.result c.from_residual-in_err-validate_function.ensures.1 in
    rw p.1 (subst (IsReason f env asked) (sym p.2) (fault_is_reason f env asked few c.if-options.true c.in_err-validate_function.ensures.refused))

pub returns-in_err-validate_function-clause-many_operands : goal.returns-in_err-validate_function-clause-many_operands
returns-in_err-validate_function-clause-many_operands g c =
    let f : FunctionValue = g.F.Function.function c.args.f.now in
    let env : MachineValue = machine_of c.args.env.now in
    let few : operand_count f < 2 ^ 32 = c.in_ok-survey.ensures.ok.few in
    counted_alone f env c.args.options.now.validate_ssa c.from_residual-in_err-validate_function.result few
    (returns-in_err-validate_function-clause-refused g c)

pub returns-in-Ok-clause-passes_checks : goal.returns-in-Ok-clause-passes_checks
returns-in-Ok-clause-passes_checks g c = record {
  first = c.in_ok-survey.ensures.ok.few;
  well_formed = elim c.if-options.branch [
    | then-options+in_ok-validate_function w ↦ λ on. w.in_ok-validate_function.ensures.ok
    | else-options w ↦ λ on. c.requires.well_formed w.if-options.false
  ];
  unlimited = passed_unlimited (g.F.Function.function c.args.f.now) c.in-Ok.ensures.passes;
  branches = λ i lt. (c.in-Ok.ensures.passes i lt).branch;
}

pub returns-in-Err-clause-refused : goal.returns-in-Err-clause-refused
returns-in-Err-clause-refused g c =
    let owed : c.args.options.now.validate_ssa ≡ true → IsWellFormed (machine_of c.args.env.now) (g.F.Function.function c.args.f.now) = elim c.if-options.branch [
      | then-options+in_ok-validate_function w ↦ λ on. w.in_ok-validate_function.ensures.ok
      | else-options w ↦ λ on. c.requires.well_formed w.if-options.false
    ] in
    allocation_reason (g.F.Function.function c.args.f.now) (machine_of c.args.env.now) c.args.options.now.validate_ssa c.in_ok-survey.ensures.ok.few owed
    c.in-Err.error c.first_error.result c.in-Err.ensures.err c.first_error.ensures

pub allocate-requires : goal.allocate-requires
allocate-requires g c =
    let valid : IsWellFormed (machine_of c.args.env.now) (g.F.Function.function c.args.f.now) = elim c.if-options.branch [
      | then-options+in_ok-validate_function w ↦ w.in_ok-validate_function.ensures.ok
      | else-options w ↦ c.requires.well_formed w.if-options.false
    ] in
    record {
      machine = c.requires.machine;
      well_formed = valid;
      survey = c.in_ok-survey.ensures.ok;
    }

pub returns-in-Ok-clause-allocation : goal.returns-in-Ok-clause-allocation
returns-in-Ok-clause-allocation g c = c.in-Ok.ensures.allocation

pub returns-in-Ok-clause-tested : goal.returns-in-Ok-clause-tested
returns-in-Ok-clause-tested g c = elim c.if-options.branch [
  | then-options+in_ok-validate_function w ↦ w.in_ok-validate_function.ensures.ok
  | else-options w ↦ c.requires.well_formed w.if-options.false
]

pub returns-in-Ok-clause-many_operands : goal.returns-in-Ok-clause-many_operands
returns-in-Ok-clause-many_operands g c =
    counted_alone (g.F.Function.function c.args.f.now) (machine_of c.args.env.now) c.args.options.now.validate_ssa (Ok c.in-Ok.output)
    c.in_ok-survey.ensures.ok.few tt

pub returns-in-Err-clause-many_operands : goal.returns-in-Err-clause-many_operands
returns-in-Err-clause-many_operands g c =
    counted_alone (g.F.Function.function c.args.f.now) (machine_of c.args.env.now) c.args.options.now.validate_ssa (Err c.first_error.result)
    c.in_ok-survey.ensures.ok.few (returns-in-Err-clause-refused g c)
