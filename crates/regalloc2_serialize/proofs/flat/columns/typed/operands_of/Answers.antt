use Rattle.std.proofs.Common.{◌≡◌, ◌∙◌, [], ◌∷◌, ◌++◌, ap, refl, arith}
use Rattle.regalloc2_names.specs.Packing.{operand_of_bits}
use Rattle.regalloc2_serialize.specs.Flat.Columns.Value.{long_at}
use Rattle.regalloc2_serialize.proofs.ColumnsLemmas.More.{made-more}
use Rattle.regalloc2_serialize.proofs.flat.columns.typed.operands_of.Goals as goal

pub loop-k-preserved : goal.loop-k-preserved
loop-k-preserved g c =
    let e : c.push.new.self.items ≡ c.loop-k.operands.items ++ c.from_bits.result ∷ [] = c.in_ok-push.ensures.items in
    e ∙ made-more operand_of_bits (long_at c.args.words.now) c.loop-k.operands.items c.from_bits.result c.loop-k.k c.loop-k.invariant
    (c.from_bits.ensures.operand ∙ ap operand_of_bits c.long.ensures)

pub from_bits-requires : goal.from_bits-requires
from_bits-requires g c = rw c.long.ensures (c.requires.operands c.loop-k.k c.loop-k-test.true)

pub loop-k-init : goal.loop-k-init
loop-k-init g c = rw c.in_ok-operands.ensures.items refl

pub returns : goal.returns
returns g c =
    let e : c.loop-k.k ≡ c.args.count = omega (arith, c.loop-k-test.false, c.loop-k.auto.k-end) in
    rw e at c.loop-k.invariant
