use Rattle.std.proofs.Common.{sym, ◌∙◌, arith}
use Rattle.regalloc2_function.proofs.NumberUnions.{none_left, next_word}
use Rattle.regalloc2_function.proofs.indexset.IndexSetIterIterator.next.Goals as goal

pub returns-in_err-key-clause-steps : goal.returns-in_err-key-clause-steps
returns-in_err-key-clause-steps c =
    let z = c.loop-self-test.true in
    rw c.from_residual.ensures (
      sym c.loop-self.invariant.left ∙ none_left c.loop-self.self-inside.base c.loop-self.self-inside.bits c.loop-self.self-inside.words z
          c.in_err-key.ensures.steps.0,
      none_left c.loop-self.self-inside.base c.loop-self.self-inside.bits c.next.new.self z c.in_err-key.ensures.steps.1,
    )

pub loop-self-preserved : goal.loop-self-preserved
loop-self-preserved c = record {
  base = omega arith;
  left = next_word c.loop-self.self-inside.base c.loop-self.self-inside.bits c.in_ok-key.key c.in_ok-key.word c.loop-self.self-inside.words c.next.new.self _
      c.loop-self-test.true c.in_ok-key.ensures.steps c.loop-self.invariant.left;
}
