use Rattle.regalloc2_serialize.proofs.TableFunctionLemmas.ReadLaws.{table-inst}
use Rattle.std.proofs.Common.{◌∙◌, ap}
use Rattle.regalloc2_serialize.proofs.table_function.table.TableFunctionFunction.is_ret.Goals as goal

pub returns : goal.returns
returns g c =
    c.is_ret.ensures
    ∙ ap (λ v. v.is_ret) (table-inst c.args.self.now c.args.inst c.index.result c.index-2.result.now c.requires c.index.ensures c.index-2.ensures)
