use Rattle.regalloc2_serialize.proofs.TableFunctionLemmas.ReadLaws.{table-inst}
use Rattle.std.proofs.Common.{ap}
use Rattle.regalloc2_serialize.proofs.table_function.table.TableFunctionFunction.inst_clobbers.Goals as goal

pub returns : goal.returns
returns g c =
    ap (λ v. v.clobbers) (table-inst c.args.self.now c.args.inst c.index.result c.index-2.result.now c.requires c.index.ensures c.index-2.ensures)
