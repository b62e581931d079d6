use Rattle.std.proofs.Common.{◌≤◌, IfOk, IsOk, length, rules, sym, subst}
use Rattle.std.proofs.lemmas.Result.{IfOk-weaker}
use Rattle.regalloc2_parts.specs.AtOnce.{ends_of, AreReal, HasOneSourceEach}
use Rattle.regalloc2_parts.specs.Resolved.{moves_listed, has_scratch, IsResolution}
use Rattle.regalloc2_parts.proofs.moves.ParallelMoves.resolve.Goals as goal

pub resolve-requires : goal.resolve-requires
resolve-requires g c =
    let one : HasOneSourceEach (ends_of c.self.inside.parallel_moves.items) = subst (λ xs. HasOneSourceEach (ends_of xs)) (sym c.self.view_is) c.requires in
    let real : AreReal c.self.inside.parallel_moves.items = c.self.invariant.0 in
    search (rules, one, real)

pub returns-clause-resolved : goal.returns-clause-resolved
returns-clause-resolved g c =
    subst (λ xs. IfOk c.resolve.result (λ r. IsResolution xs (has_scratch r) (moves_listed r))) c.self.view_is
    (IfOk-weaker c.resolve.result _ _ (λ r h. h.resolved) c.resolve.ensures.resolved)

pub returns-clause-runnable : goal.returns-clause-runnable
returns-clause-runnable g c = IfOk-weaker c.resolve.result _ _ (λ r h. h.runnable) c.resolve.ensures.resolved

pub returns-clause-short : goal.returns-clause-short
returns-clause-short g c = subst (λ xs. length xs ≤ 1 → IsOk c.resolve.result) c.self.view_is c.resolve.ensures.short

pub returns-clause-memory : goal.returns-clause-memory
returns-clause-memory g c = c.resolve.ensures.memory
