use Rattle.regalloc2_parts.proofs.Tracking.{passes, added_by_way}
use Rattle.regalloc2_parts.proofs.moves.passing.pass.Goals as goal

pub returns-clause-tracks : goal.returns-clause-tracks
returns-clause-tracks g c = λ x d had.
    passes c.args.via.now.register c.args.via.now.save c.in_ok-after.after x d c.args.m.now c.save_first.new.out.items c.push.new.self.items
    c.push-2.new.self.items
    c.in_ok-after.ensures.can_pass c.requires.from c.requires.to c.in_ok-push.ensures.items c.in_ok-push-2.ensures.items (c.in_ok-after.ensures.tracks x d had)

pub returns-clause-added : goal.returns-clause-added
returns-clause-added g c = λ x h.
    added_by_way c.args.via.now.register c.args.via.now.save x c.args.m.now c.args.out.now.items c.save_first.new.out.items c.push.new.self.items
    c.push-2.new.self.items
    (c.in_ok-after.ensures.added x) c.in_ok-push.ensures.items c.in_ok-push-2.ensures.items h
