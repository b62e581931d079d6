use Rattle.std.proofs.Common.{◌+◌, arith, sym, ◌∙◌}
use Rattle.std.proofs.lemmas.List.{length-set}
use Rattle.regalloc2_checker_sets.proofs.MovedDown.{moved-skip, moved-next, rest-next, moved-all}
use Rattle.regalloc2_checker_sets.proofs.sets.move_down.Goals as goal

pub loop-i-preserved-then-not-stays : goal.loop-i-preserved-then-not-stays
loop-i-preserved-then-not-stays g c = let inv = c.loop-i.invariant in record {
  last = inv.last;
  low = omega arith;
  long = length-set c.loop-i.numbers c.loop-i.i 0 ∙ inv.long;
  kept_long = inv.kept_long;
  moved = moved-skip c.args.marks.now c.args.kept.now.items c.loop-i.kept.items c.loop-i.numbers c.loop-i.i c.loop-i.next (omega arith)
      (sym c.stays.ensures ∙ c.if-not-stays.true) inv.moved;
  rest = λ j high. inv.rest j (omega (arith, high));
}

pub loop-i-preserved : goal.loop-i-preserved
loop-i-preserved g c = let inv = c.loop-i.invariant in record {
  last = inv.last;
  low = omega arith;
  long = length-set c.loop-i.numbers c.loop-i.i (2147483648 + c.loop-i.next) ∙ inv.long;
  kept_long = omega (arith, c.swap.ensures.len, c.swap.new.self.ok.0, c.loop-i.kept.ok.0, inv.kept_long);
  moved = moved-next c.args.marks.now c.args.kept.now.items c.loop-i.kept.items c.swap.new.self.items c.loop-i.numbers c.loop-i.i c.loop-i.next
      (omega arith) (omega (arith, inv.kept_long, c.requires.long)) inv.low (sym c.stays.ensures ∙ c.if-not-stays.false)
      (inv.rest c.loop-i.i (omega arith)) c.swap.ensures.items inv.moved;
  rest = rest-next c.args.kept.now.items c.loop-i.kept.items c.swap.new.self.items c.loop-i.i c.loop-i.next
      (omega (arith, inv.kept_long, c.requires.long)) inv.low c.swap.ensures.items inv.rest;
}

pub returns-clause-moved : goal.returns-clause-moved
returns-clause-moved g c =
    let inv = c.loop-i.invariant in
    moved-all c.args.marks.now c.args.kept.now.items c.loop-i.kept.items c.truncate.new.self.items c.loop-i.numbers c.loop-i.i c.loop-i.next _
    (omega arith) (omega (arith, inv.last, inv.long, c.requires.long, c.loop-i-test.false)) c.truncate.ensures.items inv.moved
