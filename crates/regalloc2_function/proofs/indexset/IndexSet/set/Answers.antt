use Rattle.std.proofs.lemmas.Result.{on_err_weaker, on_ok_weaker}
use Rattle.regalloc2_function.proofs.NumberSets.{has_inserted, has_removed, has_none}
use Rattle.regalloc2_function.proofs.indexset.IndexSet.set.Goals as goal

pub returns-then-val-clause-ok : goal.returns-then-val-clause-ok
returns-then-val-clause-ok g c =
    on_ok_weaker c.put.result (λ h. rw c.if-val.true (has_inserted c.args.self.now c.put.new.self c.args.index (rw c.word-had.ensures at h)))
    c.put.ensures.written

pub returns-else-val-clause-ok : goal.returns-else-val-clause-ok
returns-else-val-clause-ok g c =
    on_ok_weaker c.put-else-val.result (λ h. rw c.if-val.false (has_removed c.args.self.now c.put-else-val.new.self c.args.index (rw c.word-had.ensures at h)))
    c.put-else-val.ensures.written

pub returns-then-val-clause-only_for_a_word : goal.returns-then-val-clause-only_for_a_word
returns-then-val-clause-only_for_a_word g c =
    on_err_weaker c.put.result (λ h i same. has_none c.args.self.now i (rw same h)) c.put.ensures.absent
