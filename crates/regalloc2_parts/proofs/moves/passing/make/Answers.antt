use Rattle.std.proofs.Common.{inl, inr, sym, subst, ⊎_elim}
use Rattle.std.proofs.lemmas.Result.{on_ok_weaker, IfOk-weaker}
use Rattle.regalloc2_parts.specs.Tracking.{IsMadeFor}
use Rattle.std.proofs.lemmas.Bool.{false≢true}
use Rattle.regalloc2_parts.proofs.moves.passing.make.Goals as goal

pub returns-then-is_passing-clause-added : goal.returns-then-is_passing-clause-added
returns-then-is_passing-clause-added g c =
    on_ok_weaker c.pass.result
    (λ had x h. ⊎_elim (λ l. inl l) (λ t. inr (subst (λ b. IsMadeFor c.args.via.now.register b c.args.m.now x) (sym c.if-is_passing.true) t)) (had x h))
    c.pass.ensures.added

pub returns-then-eq-clause-added : goal.returns-then-eq-clause-added
returns-then-eq-clause-added g c =
    on_ok_weaker c.copy.result
    (λ had x h. ⊎_elim (λ l. inl (c.in_ok-after.ensures.added x l)) (λ t. inr
    (subst (λ b. IsMadeFor c.args.via.now.register b c.args.m.now x) (sym c.if-is_passing.false) t)) (had x h))
    c.copy.ensures.added

pub returns-clause-added : goal.returns-clause-added
returns-clause-added g c =
    on_ok_weaker c.copy-2.result
    (λ had x h. ⊎_elim (λ l. inl (inl l)) (λ t. inr (subst (λ b. IsMadeFor c.args.via.now.register b c.args.m.now x) (sym c.if-is_passing.false) t)) (had x h))
    c.copy-2.ensures.added

pub returns-then-is_passing-clause-tracks : goal.returns-then-is_passing-clause-tracks
returns-then-is_passing-clause-tracks g c = c.pass.ensures.tracks

pub returns-then-eq-clause-tracks : goal.returns-then-eq-clause-tracks
returns-then-eq-clause-tracks g c =
    IfOk-weaker c.copy.result _ _ (λ after had x d was. had x d (c.in_ok-after.ensures.tracks x d was)) c.copy.ensures.tracks

pub returns-clause-tracks : goal.returns-clause-tracks
returns-clause-tracks g c = c.copy-2.ensures.tracks

pub pass-requires : goal.pass-requires
pass-requires g c =
    let apart = c.requires.passing c.if-is_passing.true in
    record { from = (apart.0, c.requires.unnamed.0); to = (apart.1, c.requires.unnamed.1) }

pub copy-requires : goal.copy-requires
copy-requires g c = record { unnamed = c.requires.unnamed; ready = λ e. c.in_ok-after.ensures.restored }

pub copy-requires-2 : goal.copy-requires-2
copy-requires-2 g c = record { unnamed = c.requires.unnamed; ready = λ e. absurd (false≢true (c.if-eq.ensures.same.1 e)) }
