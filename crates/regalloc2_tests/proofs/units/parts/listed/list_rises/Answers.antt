use Rattle.std.proofs.Common.{◌≡◌, length, arith}
use Rattle.std.proofs.lemmas.List.{length-map}
use Rattle.regalloc2_parts.specs.AtOnce.{ends, ends_of}
use Rattle.regalloc2_tests.proofs.Rising.{rises_step, rises_all}
use Rattle.regalloc2_tests.proofs.units.parts.listed.list_rises.Goals as goal

pub loop-at-preserved : goal.loop-at-preserved
loop-at-preserved c =
    rises_step c.args.list.now c.loop-at.at c.index-list-at.result c.index-list-at-in-loop-at.result (omega arith) (omega arith) c.loop-at.invariant
    c.index-list-at.is c.index-list-at-in-loop-at.is
    (c.is_before.ensures c.if-not-is_before.false)

pub returns : goal.returns
returns c = λ y.
    let many : length (ends_of c.args.list.now) ≡ length c.args.list.now = length-map c.args.list.now ends in
    rises_all (ends_of c.args.list.now) c.loop-at.at c.loop-at.invariant (omega arith)
