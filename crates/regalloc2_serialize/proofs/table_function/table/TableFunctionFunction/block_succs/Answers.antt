use Rattle.regalloc2_serialize.proofs.TableFunctionLemmas.ReadLaws.{table-block}
use Rattle.std.proofs.Common.{◌∙◌, ap}
use Rattle.regalloc2_serialize.proofs.table_function.table.TableFunctionFunction.block_succs.Goals as goal

pub returns : goal.returns
returns g c =
    c.deref.ensures.value
    ∙ ap (λ v. v.succs) (table-block c.args.self.now c.args.block c.index.result c.index-2.result.now c.requires c.index.ensures c.index-2.ensures)
