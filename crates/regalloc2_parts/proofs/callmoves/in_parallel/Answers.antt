use Rattle.std.proofs.Common.{◌≢◌, rules}
use Rattle.regalloc2_names.specs.Place.{NoPlace}
use Rattle.regalloc2_parts.proofs.CallmovesLemmas.CallPlaces.{move_real}
use Rattle.std.proofs.Common.{◌∙◌, ap}
use Rattle.std.proofs.lemmas.List.{take_all}
use Rattle.std.proofs.lemmas.Result.{err_from_is_err_and}
use Rattle.regalloc2_parts.specs.Callmoves.CallMoves.{with_units}
use Rattle.regalloc2_parts.proofs.CallmovesLemmas.CallPlaces.{units_more}
use Rattle.regalloc2_parts.proofs.callmoves.in_parallel.Goals as goal

pub add-requires : goal.add-requires
add-requires g c =
    let real : (c.m-item.result.0 ≢ NoPlace) × (c.m-item.result.1 ≢ NoPlace) =
    move_real c.args.moves.now c.loop-m.m-index c.m-item.result c.requires c.loop-m-test.true c.m-item.is in
    let from : c.m-item.result.0 ≢ NoPlace = real.0 in
    let to : c.m-item.result.1 ≢ NoPlace = real.1 in
    search (rules, from, to)

pub loop-m-init : goal.loop-m-init
loop-m-init g c = c.new-parallel.ensures

pub loop-m-preserved : goal.loop-m-preserved
loop-m-preserved g c = c.in_ok-add.ensures.ok ∙ units_more c.args.moves.now c.loop-m.m-index c.m-item.result c.loop-m.parallel c.loop-m-test.true c.m-item.is
    c.loop-m.invariant

pub returns-clause-all : goal.returns-clause-all
returns-clause-all g c = c.loop-m.invariant ∙ ap with_units (take_all c.loop-m.m-index c.args.moves.now c.loop-m-test.false)

pub returns-clause-memory : goal.returns-clause-memory
returns-clause-memory g c = tt

pub returns-in_err-add-clause-memory : goal.returns-in_err-add-clause-memory
returns-in_err-add-clause-memory g c =
    let p = err_from_is_err_and c.from_residual.result c.from_residual.ensures.1 in rw p.1 (p.2 ∙ c.in_err-add.ensures.memory)

pub bounds-moves-m-index : goal.bounds-moves-m-index
bounds-moves-m-index g c = c.loop-m-test.true
