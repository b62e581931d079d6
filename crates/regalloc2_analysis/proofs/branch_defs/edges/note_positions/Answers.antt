use Rattle.std.proofs.Common.{arith}
use Rattle.std.proofs.lemmas.Grind.{common_steps}
use Rattle.regalloc2_analysis.proofs.branch_defs.edges.note_positions.Goals as goal

pub loop-position-preserved : goal.loop-position-preserved
loop-position-preserved c = record {
  long = grind (arith, common_steps);
  noted = record {
    from = λ b e is. grind (arith, common_steps, c.loop-position.invariant.noted.from b e);
    kept = λ b is. grind (arith, common_steps, c.loop-position.invariant.noted.kept b);
    noted = λ p less is. grind (arith, common_steps, c.loop-position.invariant.noted.noted p);
  };
}
