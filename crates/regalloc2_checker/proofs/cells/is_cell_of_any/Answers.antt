use Rattle.std.proofs.Common.{refl}
use Rattle.regalloc2_function.specs.Views.{machine_of, output_of}
use Rattle.regalloc2_checker.proofs.JudgedCells.{allocatable_is_proper}
use Rattle.regalloc2_checker.proofs.cells.is_cell_of_any.Goals as goal

pub returns-then-may_hold_any : goal.returns-then-may_hold_any
returns-then-may_hold_any g c =
    let env = machine_of c.args.env.now in
    let some = (c.may_hold_any.ensures env c.requires).0 c.if-may_hold_any.true in
    (λ t. (some.0, allocatable_is_proper env (output_of c.args.output.now) some.0 c.args.place some.1), λ x. refl)
