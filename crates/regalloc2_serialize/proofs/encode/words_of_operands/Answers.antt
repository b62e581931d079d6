use Rattle.std.proofs.Common.{arith}
use Rattle.std.proofs.lemmas.List.{take_all}
use Rattle.std.proofs.lemmas.List.Elements.{All-push}
use Rattle.regalloc2_names.specs.Packing.{IsOperandBits, operand_of_bits}
use Rattle.regalloc2_serialize.proofs.Lists.{image-more}
use Rattle.regalloc2_serialize.proofs.encode.words_of_operands.Goals as goal

pub loop-operand-preserved : goal.loop-operand-preserved
loop-operand-preserved g c =
    let done = c.loop-operand.words.items in
    let one = c.bits.result in
    record {
      same = rw c.in_ok-push.ensures.items (image-more operand_of_bits done c.args.operands.now c.loop-operand.operand-index one c.operand-item.result
          c.loop-operand-test.true c.operand-item.is c.bits.ensures.operand c.loop-operand.invariant.same);
      names = rw c.in_ok-push.ensures.items (All-push IsOperandBits done one c.loop-operand.invariant.names c.bits.ensures.word);
    }

pub returns-clause-operands : goal.returns-clause-operands
returns-clause-operands g c =
    rw (take_all c.loop-operand.operand-index c.args.operands.now (omega (arith, c.loop-operand-test.false))) at c.loop-operand.invariant.same

pub returns-clause-names : goal.returns-clause-names
returns-clause-names g c = c.loop-operand.invariant.names
