use Rattle.std.specs.Prelude.{drop}
use Rattle.regalloc2_tool.specs.Listing.{operands_text}
use Rattle.regalloc2_tool.proofs.WrittenInParts.{LeavesRest}
use Rattle.regalloc2_tool.proofs.listing.write_operands.Given as goal

abbrev pub invariant-loop-k : goal.invariant-loop-k
invariant-loop-k g l = LeavesRest (g.W.Write.contents l.fn.writer) (g.W.Write.contents l.writer) (operands_text l.places 0 l.operands)
    (operands_text l.places l.k (drop l.k l.operands))
