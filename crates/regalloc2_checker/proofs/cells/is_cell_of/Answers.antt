use Rattle.std.proofs.Common.{refl}
use Rattle.regalloc2_function.specs.Views.{machine_of, output_of}
use Rattle.regalloc2_checker.proofs.JudgedCells.{allocatable_is_proper}
use Rattle.regalloc2_checker.proofs.cells.is_cell_of.Goals as goal

pub returns-then-may_hold : goal.returns-then-may_hold
returns-then-may_hold g c =
    let env = machine_of c.args.env.now in
    let proper = allocatable_is_proper env (output_of c.args.output.now) c.args.class c.args.place
    ((c.may_hold.ensures env c.requires).0 c.if-may_hold.true) in
    (λ t. proper, λ x. refl)
