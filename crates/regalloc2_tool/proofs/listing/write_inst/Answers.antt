use Rattle.regalloc2_function.specs.Views.{output_of}
use Rattle.regalloc2_tool.proofs.ListingLines.{inst_written}
use Rattle.regalloc2_tool.proofs.listing.write_inst.Goals as goal

pub returns : goal.returns
returns g c = inst_written c.writeln.result _ _ _ _ (g.F.Function.function c.args.f.now) (output_of c.args.output.now) c.args.inst c.index-number.result
    c.opcode_name-name.result.now c.inst_allocs.result.now c.inst_operands.result.now
    (record {
      number = c.index-number.ensures;
      opcode = c.opcode_name-name.ensures;
      places_are = c.inst_allocs.ensures;
      operands = c.inst_operands.ensures;
    }) c.in_ok-write.ensures.bytes c.in_ok-write_operands.ensures
    c.writeln.ensures.bytes
