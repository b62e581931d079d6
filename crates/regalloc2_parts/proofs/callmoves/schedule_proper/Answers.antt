use Rattle.std.proofs.Common.{subst, sym, rules}
use Rattle.std.specs.Prelude.{List}
use Rattle.std.proofs.lemmas.Result.{err_from_is_err_and}
use Rattle.regalloc2_names.specs.Place.{Place}
use Rattle.regalloc2_parts.specs.AtOnce.{ends_of, HasOneSourceEach}
use Rattle.regalloc2_parts.specs.Resolved.{moves_listed, has_scratch, IsResolution}
use Rattle.regalloc2_parts.specs.declared.moves.MoveFault.{MoveFault}
use Rattle.regalloc2_parts.specs.Callmoves.CallMoves.{fault_of, IsCallFault, IsScheduled}
use Rattle.regalloc2_parts.proofs.CallmovesLemmas.CallSchedule.{one_source, usable, scheduled, fails}
use Rattle.regalloc2_parts.proofs.callmoves.schedule_proper.Goals as goal

pub in_parallel-requires : goal.in_parallel-requires
in_parallel-requires g c = let named = c.requires.proper.named in search (rules, named)

pub resolve-requires : goal.resolve-requires
resolve-requires g c =
    let one : HasOneSourceEach (ends_of c.in_ok-parallel.parallel) =
    subst (λ (xs : List (Place × Place × Unit {0})). HasOneSourceEach (ends_of xs)) (sym c.in_ok-parallel.ensures.all)
    (one_source c.args.moves.now c.requires.proper.one_source) in
    search (rules, one)

pub compute-requires : goal.compute-requires
compute-requires g c = (
  search rules,
  (
    usable c.args.moves.now c.args.frame.now c.scratch_pool.result c.requires.proper c.scratch_pool.ensures (has_scratch c.in_ok-resolved.resolved)
        (moves_listed c.in_ok-resolved.resolved)
        (subst (λ (xs : List (Place × Place × Unit {0})). IsResolution xs (has_scratch c.in_ok-resolved.resolved) (moves_listed c.in_ok-resolved.resolved))
        c.in_ok-parallel.ensures.all c.in_ok-resolved.ensures.resolved),
    c.in_ok-resolved.ensures.runnable,
  ),
)

pub returns-in_err-parallel : goal.returns-in_err-parallel
returns-in_err-parallel g c =
    let p = err_from_is_err_and c.from_residual.result c.from_residual.ensures.1 in
    rw (p.1, p.2)
    (subst (λ (e : MoveFault). IsCallFault c.args.moves.now c.args.frame.now (fault_of e)) (sym c.in_err-parallel.ensures.memory) c.requires.proper)

pub returns-in_err-resolved : goal.returns-in_err-resolved
returns-in_err-resolved g c =
    let p = err_from_is_err_and c.from_residual-in_err-resolved.result c.from_residual-in_err-resolved.ensures.1 in
    rw (p.1, p.2)
    (subst (λ (e : MoveFault). IsCallFault c.args.moves.now c.args.frame.now (fault_of e)) (sym c.in_err-resolved.ensures.memory) c.requires.proper)

pub returns-in_err-made : goal.returns-in_err-made
returns-in_err-made g c =
    let p = err_from_is_err_and c.from_residual-in_err-made.result c.from_residual-in_err-made.ensures.1 in
    rw (p.1, p.2)
    (fails c.args.moves.now c.args.frame.now c.scratch_pool.result c.requires.proper c.scratch_pool.ensures _ c.in_err-made.ensures.err)

pub returns : goal.returns
returns g c =
    let made : IsScheduled c.args.moves.now c.args.frame.now c.in_ok-made.made.moves.items =
    scheduled c.args.moves.now c.args.frame.now c.scratch_pool.result c.requires.proper c.scratch_pool.ensures (has_scratch c.in_ok-resolved.resolved)
    (moves_listed c.in_ok-resolved.resolved)
    (subst (λ (xs : List (Place × Place × Unit {0})). IsResolution xs (has_scratch c.in_ok-resolved.resolved) (moves_listed c.in_ok-resolved.resolved))
    c.in_ok-parallel.ensures.all c.in_ok-resolved.ensures.resolved) c.in_ok-made.made.slots c.in_ok-made.made.moves.items c.in_ok-made.ensures.made in
    search (rules, made)
