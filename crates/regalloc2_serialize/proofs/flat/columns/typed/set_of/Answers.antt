use Rattle.std.proofs.Common.{◌∙◌, arith}
use Rattle.regalloc2_serialize.proofs.ColumnsLemmas.Bits.{has-bits}
use Rattle.regalloc2_serialize.proofs.flat.columns.typed.set_of.Goals as goal

pub returns : goal.returns
returns c r =
    c.from_words.ensures r
    ∙ has-bits c.args.words.now c.long.result c.long-2.result c.long-3.result (λ k less. omega (arith, c.type_inv.words k)) c.long.ensures c.long-2.ensures c.long-3.ensures r
