use Rattle.regalloc2_function.proofs.NumberSets.{word_first, word_second}
use Rattle.regalloc2_function.proofs.indexset.IndexSet.word.Goals as goal

pub returns-then-word-ne0 : goal.returns-then-word-ne0
returns-then-word-ne0 g c =
    word_first c.self.inside.few c.self.inside.many.entries c.args.self.now c.args.key c.word-word.result c.self.view_is c.self.invariant c.word-word.ensures
    c.if-word-ne0.true

pub returns : goal.returns
returns g c =
    word_second c.self.inside.few c.self.inside.many.entries c.args.self.now c.args.key c.word-word.result c.word_in.result c.self.view_is c.word-word.ensures
    c.if-word-ne0.false c.word_in.ensures
