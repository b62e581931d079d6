use Rattle.std.proofs.Common.{sym}
use Rattle.regalloc2_function.proofs.NumberIndexes.{word_of-lacks, word_of-own}
use Rattle.regalloc2_function.proofs.indexset.Few.word.Goals as goal

pub returns-in-Some : goal.returns-in-Some
returns-in-Some c =
    rw (← c.as_slice-words.ensures.items)
    (sym (word_of-own c.args.key c.as_slice-words.result.now c.in-Some.index (rw c.as_slice-words.ensures.items c.as_slice-words.ensures.apart)
    c.in-Some.ensures.some.0 c.in-Some.ensures.some.1))

pub returns-in-None : goal.returns-in-None
returns-in-None c = rw (← c.as_slice-words.ensures.items) (sym (word_of-lacks c.args.key c.as_slice-words.result.now c.in-None.ensures.none))
