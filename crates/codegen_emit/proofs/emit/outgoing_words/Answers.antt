use Rattle.codegen_emit.proofs.Emitting.{no_words, one_word}
use Rattle.codegen_emit.proofs.emit.outgoing_words.Goals as goal

pub loop-line-init : goal.loop-line-init
loop-line-init c = no_words

pub loop-line-preserved : goal.loop-line-preserved
loop-line-preserved c =
    one_word c.args.lines.now c.loop-line.line-index _ _ _ c.line-item.result c.loop-line-test.true c.line-item.is c.loop-line.invariant c.stack_arguments.ensures
    c.max-most.ensures
