use Rattle.std.proofs.Common.{◌<◌, length, arith, ◌+◌, ◌∙◌, ap}
use Rattle.std.specs.Prelude.{if◌then◌else◌, nat_eq}
use Rattle.std.proofs.lemmas.List.{take_all}
use Rattle.regalloc2_function.specs.WellFormed.{times_in}
use Rattle.regalloc2_function.specs.Inside.Ways.{listed_of}
use Rattle.regalloc2_function.proofs.PredsListed.{ways_more}
use Rattle.regalloc2_function.proofs.blocks.add_ways.Goals as goal

pub loop-succ-preserved : goal.loop-succ-preserved
loop-succ-preserved g c =
    let old : c.succ-item.result < length c.args.ways.now = rw (c.succ-item.is) (c.requires c.loop-succ.succ-index c.succ-item.result c.loop-succ-test.true) in
    let there : c.succ-item.result < length c.loop-succ.ways = omega arith in
    rw c.index.ensures (ways_more c.args.ways.now c.loop-succ.ways c.succ-item.result c.args.block c.loop-succ.succ-index c.index-ways-index.result
    c.push.new.self c.args.succs.now there c.loop-succ-test.true c.succ-item.is (rw c.index.ensures at c.in_ok-push.ensures.items) c.loop-succ.invariant)

pub bounds-ways-index : goal.bounds-ways-index
bounds-ways-index g c =
    let there = c.requires c.loop-succ.succ-index c.succ-item.result c.loop-succ-test.true in
    omega (arith, there, c.succ-item.is, c.index.ensures, c.loop-succ.auto.ways)

pub returns : goal.returns
returns g c = λ n p. c.loop-succ.invariant n p
    ∙ ap (λ l. times_in p (listed_of c.args.ways.now n) + (if nat_eq c.args.block p then times_in n l else 0))
    (take_all c.loop-succ.succ-index c.args.succs.now (omega (arith, c.loop-succ-test.false)))
