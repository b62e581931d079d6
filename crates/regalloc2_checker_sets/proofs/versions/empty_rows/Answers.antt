use Rattle.std.proofs.Common.{◌∙◌, ap, arith, length}
use Rattle.std.proofs.lemmas.List.{length_push}
use Rattle.regalloc2_checker_sets.proofs.SavedChunks.{rows-none, rows-next}
use Rattle.regalloc2_checker_sets.proofs.versions.empty_rows.Goals as goal

pub loop-alloc-init : goal.loop-alloc-init
loop-alloc-init g c =
    let none = ap length c.in_ok-rows.ensures.items in
    record { few = omega (arith, none); empty = rows-none c.in_ok-rows.rows.items c.in_ok-rows.ensures.items }

pub loop-alloc-preserved : goal.loop-alloc-preserved
loop-alloc-preserved g c =
    let i = c.loop-alloc.invariant in
    let longer = ap length c.in_ok-push.ensures.items ∙ length_push c.loop-alloc.rows.items c.new.result in
    record {
      few = omega (arith, longer, c.loop-alloc-test.true, c.len.ensures, c.loop-alloc.rows.ok.0);
      empty = rows-next c.loop-alloc.rows.items c.push.new.self.items c.new.result c.in_ok-push.ensures.items c.new.ensures.items i.empty;
    }

pub returns : goal.returns
returns g c = record {
  count = omega (arith, c.loop-alloc.invariant.few, c.loop-alloc-test.false, c.len.ensures, c.loop-alloc.rows.ok.0);
  empty = c.loop-alloc.invariant.empty;
}
