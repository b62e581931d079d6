use Rattle.regalloc2_function.proofs.NumberMaps.{distinct_before, word_of-update}
use Rattle.regalloc2_function.proofs.indexset.insert.Goals as goal

pub returns-clause-written : goal.returns-clause-written
returns-clause-written g c =
    let before = distinct_before c.args.many.now.entries c.insert.new.self.entries c.args.key c.args.word _ c.in_ok-insert.ensures.unique
    c.in_ok-insert.ensures.entries c.in_ok-insert.ensures.keys_stay in
    word_of-update c.args.many.now.entries c.insert.new.self.entries c.args.key c.args.word before c.in_ok-insert.ensures.unique
    (λ q. c.in_ok-insert.ensures.updates.0 q)
