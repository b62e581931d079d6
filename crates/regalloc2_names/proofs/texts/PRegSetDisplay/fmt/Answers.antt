use Rattle.std.proofs.Common.{rules, sym, append_assoc}
use Rattle.std.proofs.Output.{has_written_append, has_written_of_eq}
use Rattle.regalloc2_names.proofs.TextLaws.{members_text-nil, members_text-snoc}
use Rattle.regalloc2_names.proofs.texts.PRegSetDisplay.fmt.Goals as goal

pub loop-preg-init : goal.loop-preg-init
loop-preg-init g c = record {
  left = c.into_iter-preg-iterator.ensures.into_iter_gives.list;
  written = λ p. rw members_text-nil (search rules);
}

pub loop-preg-preserved : goal.loop-preg-preserved
loop-preg-preserved g c = record {
  left = rw (append_assoc, ← c.in-Some.ensures.steps) c.loop-preg.invariant.left;
  written = λ p. has_written_of_eq _ _ _ _ _ (sym (members_text-snoc c.loop-preg.yielded c.in-Some.preg))
      (has_written_append _ _ _ _ _ _ (c.loop-preg.invariant.written p) (search rules));
}
