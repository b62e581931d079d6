use Rattle.std.proofs.Common.{inr, subst, refl}
use Rattle.regalloc2_parts.specs.AtOnce.{ends_of, in_turn}
use Rattle.regalloc2_parts.specs.Tracking.{Tracks}
use Rattle.regalloc2_parts.proofs.Tracking.{restores_pushed, added_aside}
use Rattle.regalloc2_parts.proofs.moves.passing.restore_first.Goals as goal

pub returns-in_ok-push-in-InSave-clause-tracks : goal.returns-in_ok-push-in-InSave-clause-tracks
returns-in_ok-push-in-InSave-clause-tracks g c = λ x d had.
    let r = c.args.via.now.register in
    let s = c.args.via.now.save in
    let old = c.args.out.now.items in
    restores_pushed r s x d old c.push.new.self.items (s, r, c.default.result) refl refl c.in_ok-push-in-InSave.ensures.items
    (subst (λ h. Tracks r s h x (in_turn (ends_of old) d)) c.in-InSave.is had)

pub returns-in_ok-push-in-InSave-clause-added : goal.returns-in_ok-push-in-InSave-clause-added
returns-in_ok-push-in-InSave-clause-added g c = λ x h.
    added_aside c.args.via.now.register c.args.via.now.save x c.args.out.now.items c.push.new.self.items
    (c.args.via.now.save, c.args.via.now.register, c.default.result) (inr (refl, refl)) c.in_ok-push-in-InSave.ensures.items h
