use Rattle.std.proofs.Common.{rules, sym, ◌∙◌}
use Rattle.regalloc2_function.proofs.NumberMaps.{word_of-update, word_of-empty, word_of-absent}
use Rattle.regalloc2_function.proofs.indexset.rewrite.Goals as goal

pub returns-then-len-eq0-clause-absent : goal.returns-then-len-eq0-clause-absent
returns-then-len-eq0-clause-absent g c _ = word_of-empty c.args.many.now.entries c.args.key (sym c.len.ensures.len ∙ c.if-len-eq0.true)

pub returns-in-Some-clause-written : goal.returns-in-Some-clause-written
returns-in-Some-clause-written g c _ =
    let h = (c.get_mut.follows.holds c.args.word) in
    word_of-update c.args.many.now.entries (c.get_mut.follows.lender c.args.word).entries c.args.key c.args.word c.len.ensures.unique h.4
    (λ q. (h.3 (search rules)).0 q)

pub returns-in-None-clause-absent : goal.returns-in-None-clause-absent
returns-in-None-clause-absent g c _ = word_of-absent c.args.many.now.entries c.args.key c.len.ensures.unique (sym c.in-None.ensures.value)
