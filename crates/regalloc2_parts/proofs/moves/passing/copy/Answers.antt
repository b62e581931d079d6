use Rattle.std.proofs.Common.{refl}
use Rattle.regalloc2_parts.proofs.Tracking.{copies_pushed, copies_pushed_into, added_one}
use Rattle.std.proofs.lemmas.Bool.{false≢true}
use Rattle.regalloc2_parts.proofs.moves.passing.copy.Goals as goal

pub returns-then-eq-clause-tracks : goal.returns-then-eq-clause-tracks
returns-then-eq-clause-tracks g c = λ x d had.
    copies_pushed_into c.args.via.now.register c.args.via.now.save c.args.held x d c.args.m.now c.args.out.now.items c.push.new.self.items
    c.requires.unnamed c.requires.ready (c.if-eq.ensures.same.0 refl) c.in_ok-push.ensures.items had

pub returns-then-eq-clause-added : goal.returns-then-eq-clause-added
returns-then-eq-clause-added g c = λ x h. added_one x c.args.out.now.items c.push.new.self.items c.args.m.now c.in_ok-push.ensures.items h

pub returns-clause-tracks : goal.returns-clause-tracks
returns-clause-tracks g c = λ x d had.
    copies_pushed c.args.via.now.register c.args.via.now.save c.args.held x d c.args.m.now c.args.out.now.items c.push.new.self.items
    c.requires.unnamed c.requires.ready (λ e. absurd (false≢true (c.if-eq.ensures.same.1 e))) c.in_ok-push.ensures.items had

pub returns-clause-added : goal.returns-clause-added
returns-clause-added g c = λ x h. added_one x c.args.out.now.items c.push.new.self.items c.args.m.now c.in_ok-push.ensures.items h
