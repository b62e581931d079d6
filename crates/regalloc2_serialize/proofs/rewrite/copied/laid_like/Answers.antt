use Rattle.std.proofs.Common.{refl, map}
use Rattle.regalloc2_function.specs.FunctionValue.{FunctionValue}
use Rattle.regalloc2_serialize.specs.TableFunction.Table.{function_of_table}
use Rattle.regalloc2_serialize.specs.TableFunction.Draft.{draft_of}
use Rattle.regalloc2_serialize.specs.TableFunction.Built.{IsBuilt}
use Rattle.regalloc2_serialize.proofs.rewrite.copied.laid_like.Goals as goal

pub returns-clause-ok : goal.returns-clause-ok
returns-clause-ok g c =
    let f : FunctionValue = g.F.Function.function c.args.f.now in
    let built : IsBuilt (map draft_of c.args.drafts.items) c.num_vregs.result (function_of_table c.in_ok-built.built) = c.in_ok-built.ensures.ok in
    record {
      laid = record { blocks = built.blocks; preds = built.preds; succs = built.succs; insts = built.insts };
      entry = refl;
      num_vregs = rw (built.num_vregs, c.num_vregs.ensures.count) refl;
      slot_sizes = rw (c.copied_units.ensures, c.copied_units-2.ensures, c.copied_units-3.ensures) refl;
      named_by_last_slot = c.multi_spillslot_named_by_last_slot.ensures;
      labels = refl;
      allows_multiple_defs = c.allow_multiple_vreg_defs.ensures;
    }
