use Rattle.std.proofs.Common.{inl, subst, refl}
use Rattle.regalloc2_parts.specs.AtOnce.{ends_of, in_turn}
use Rattle.regalloc2_parts.specs.Tracking.{Tracks}
use Rattle.regalloc2_parts.proofs.Tracking.{saves_pushed, added_aside}
use Rattle.regalloc2_parts.proofs.moves.passing.save_first.Goals as goal

pub returns-in_ok-push-in-InRegister-clause-tracks : goal.returns-in_ok-push-in-InRegister-clause-tracks
returns-in_ok-push-in-InRegister-clause-tracks g c = λ x d had.
    let r = c.args.via.now.register in
    let s = c.args.via.now.save in
    let old = c.args.out.now.items in
    saves_pushed r s x d old c.push.new.self.items (r, s, c.default.result) refl refl c.in_ok-push-in-InRegister.ensures.items
    (subst (λ h. Tracks r s h x (in_turn (ends_of old) d)) c.in-InRegister.is had)

pub returns-in_ok-push-in-InRegister-clause-added : goal.returns-in_ok-push-in-InRegister-clause-added
returns-in_ok-push-in-InRegister-clause-added g c = λ x h.
    added_aside c.args.via.now.register c.args.via.now.save x c.args.out.now.items c.push.new.self.items
    (c.args.via.now.register, c.args.via.now.save, c.default.result) (inl (refl, refl)) c.in_ok-push-in-InRegister.ensures.items h
