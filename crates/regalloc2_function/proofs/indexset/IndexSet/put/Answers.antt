use Rattle.std.proofs.lemmas.Result.{on_err_weaker, on_ok_weaker}
use Rattle.regalloc2_function.proofs.NumberSets.{whole_written, word_of-whole}
use Rattle.regalloc2_function.proofs.indexset.IndexSet.put.Goals as goal

pub returns-clause-written : goal.returns-clause-written
returns-clause-written g c =
    on_ok_weaker c.write.result (λ h. whole_written c.self.inside.few c.self.inside.many.entries c.args.self.now c.write.new.few c.write.new.many.entries
    c.args.key c.args.word c.self.view_is h) c.write.ensures.written

pub returns-clause-absent : goal.returns-clause-absent
returns-clause-absent g c =
    on_err_weaker c.write.result (λ h. rw (word_of-whole c.self.inside.few c.self.inside.many.entries c.args.self.now c.self.view_is c.args.key) h)
    c.write.ensures.absent
