use Rattle.std.proofs.Common.{false, sym, ap, ◌∙◌, append_assoc, subst}
use Rattle.regalloc2_names.specs.Place.{InRegister}
use Rattle.regalloc2_checker.specs.Facts.{Facts, placed}
use Rattle.regalloc2_checker.specs.TableFacts.{IsMissingUnlisted}
use Rattle.regalloc2_checker.proofs.RestOfList.{emptied_none, emptied_more, emptied_set, walk_end}
use Rattle.regalloc2_checker.proofs.TableSteps.{kept-same, kept-twice}
use Rattle.regalloc2_checker.proofs.transfer.clear_clobbers.Goals as goal

pub loop-reg-init : goal.loop-reg-init
loop-reg-init g c = record {
  left = c.into_iter-reg-iterator.ensures.into_iter_gives;
  kept = kept-same c.args.values.now;
  now = sym (emptied_none _);
}

pub clear_place-requires : goal.clear_place-requires
clear_place-requires g c = subst IsMissingUnlisted (sym c.loop-reg.invariant.kept.places) c.requires

pub loop-reg-preserved : goal.loop-reg-preserved
loop-reg-preserved g c = record {
  left = rw (append_assoc, ← c.in-Some.ensures.steps) c.loop-reg.invariant.left;
  kept = kept-twice c.args.values.now c.loop-reg.values c.clear_place.new.values c.loop-reg.invariant.kept c.clear_place.ensures.kept;
  now = (rw c.reg.ensures at c.clear_place.ensures.now) ∙ ap (λ (F : Facts). placed (InRegister c.in-Some.reg) (λ v. false) F) c.loop-reg.invariant.now
      ∙ sym (emptied_more c.loop-reg.yielded c.in-Some.reg _);
}

pub returns : goal.returns
returns g c = record {
  kept = c.loop-reg.invariant.kept;
  now = c.loop-reg.invariant.now ∙ emptied_set c.args.clobbers c.loop-reg.yielded _
      (walk_end c.args.clobbers c.loop-reg.yielded c.loop-reg.reg-iterator c.in-None.ensures.steps.0 c.loop-reg.invariant.left);
}
