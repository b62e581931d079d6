use Rattle.std.proofs.Common.{◌≡◌, drop}
use Rattle.codegen.specs.Run.States.{numbers_by_vreg}
use Rattle.regalloc2_semantics.specs.Runs.{passed}
use Rattle.codegen.proofs.run.procedure.pass.Given as goal

abbrev pub invariant-loop-at : goal.invariant-loop-at
invariant-loop-at l = passed l.params l.arguments (numbers_by_vreg l.fn.numbers) (numbers_by_vreg l.fn.numbers)
    ≡ passed (drop l.at l.params) (drop l.at l.arguments) (numbers_by_vreg l.fn.numbers) (numbers_by_vreg l.numbers)
