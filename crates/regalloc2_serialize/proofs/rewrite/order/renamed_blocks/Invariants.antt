use Rattle.std.proofs.Common.{◌≡◌, map, take}
use Rattle.std.specs.Prelude.{slice_index}
use Rattle.regalloc2_serialize.specs.TableFunction.Draft.{draft_of}
use Rattle.regalloc2_serialize.specs.Rewrite.Renumbered.{renamed}
use Rattle.regalloc2_serialize.proofs.rewrite.order.renamed_blocks.Given as goal

abbrev pub invariant-loop-block : goal.invariant-loop-block
invariant-loop-block g l = map draft_of l.drafts.items
    ≡ map (renamed (λ s. slice_index l.numbers s) (g.F.Function.function l.f)) (take l.block-index l.order)
