use Rattle.std.proofs.Common.{sym, ◌∙◌}
use Rattle.regalloc2_function.proofs.NumberMaps.{word_of-get, word_of-empty}
use Rattle.regalloc2_function.proofs.indexset.word_in.Goals as goal

pub returns-then-len-eq0 : goal.returns-then-len-eq0
returns-then-len-eq0 g c = sym (word_of-empty c.args.many.now.entries c.args.key (sym c.len.ensures.len ∙ c.if-len-eq0.true))

pub returns : goal.returns
returns g c = c.stored_in.ensures ∙ sym (word_of-get c.args.many.now.entries c.len.ensures.unique c.args.key)
