use Rattle.regalloc2_index.proofs.Bools.{false_is_not_true, false_refutes}
use Rattle.regalloc2_function.specs.Views.{machine_of, output_of}
use Rattle.regalloc2_checker.proofs.JudgedCells.{no_cells}
use Rattle.regalloc2_checker.proofs.cells.places_are_cells.Goals as goal

pub returns : goal.returns
returns g c = (
  λ t. absurd (false_is_not_true t),
  λ cells. absurd (no_cells (g.F.Function.function c.args.f.now) (machine_of c.args.env.now) (output_of c.args.output.now) c.in-Err.fault
      (false_refutes c.is_memory.result c.if-is_memory.false c.is_memory.ensures.1) c.in-Err.ensures.fault cells),
)
