use Rattle.std.proofs.Common.{◌∙◌, ◌*◌, ap, sym, subst}
use Rattle.regalloc2_serialize.specs.Flat.Columns.Layout.{header_of}
use Rattle.regalloc2_serialize.specs.Flat.Columns.Value.{AreNumbered}
use Rattle.regalloc2_serialize.proofs.flat.columns.read.insts_from.Goals as goal

pub operands_from-requires : goal.operands_from-requires
operands_from-requires g c = c.requires

pub numbered_sets-requires : goal.numbered_sets-requires
numbered_sets-requires g c = c.column-2.ensures.count ∙ ap (λ h. 6 * h.sets) (sym c.header.ensures)

pub returns : goal.returns
returns g c = record {
  kinds = c.in_ok-kinds.ensures.items ∙ c.column.ensures.column;
  sets = subst (λ ws. AreNumbered ws (header_of c.args.cut.now.words.now).sets c.in_ok-sets.sets.items) c.column-2.ensures.column
      (subst (λ h. AreNumbered c.column-2.result.now h.sets c.in_ok-sets.sets.items) c.header.ensures c.in_ok-sets.ensures);
  operands = c.in_ok-operands.ensures.items;
  operand_bounds = c.in_ok-operands.ensures.bounds;
}
