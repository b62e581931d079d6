use Rattle.std.proofs.Common.{inl, inr, arith}
use Rattle.std.proofs.lemmas.Bool.{cases_lt}
use Rattle.regalloc2_checker_sets.proofs.Chunks.{parts-later, same-where-not}
use Rattle.regalloc2_checker_sets.proofs.versions.equal_groups.Goals as goal

pub loop-t-preserved : goal.loop-t-preserved
loop-t-preserved c = record {
  low = omega (arith, c.loop-t.invariant.low);
  same = λ t low l. elim (cases_lt t c.loop-t.t) [
    | inl a ↦ c.loop-t.invariant.same t low a
    | inr b ↦ parts-later c.args.cells.now c.args.words.now c.args.first c.args.base 16 c.loop-t.t t
        (same-where-not _ _ c.ne.result c.ne.ensures c.if-ne.false) b l
  ];
}
