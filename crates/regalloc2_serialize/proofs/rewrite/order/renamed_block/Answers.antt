use Rattle.std.proofs.Common.{◌∙◌, refl}
use Rattle.regalloc2_serialize.proofs.rewrite.order.renamed_block.Goals as goal

pub copied_insts-requires : goal.copied_insts-requires
copied_insts-requires g c = record { framed = c.requires.framed; block = c.requires.block }

pub renamed_succs-requires : goal.renamed_succs-requires
renamed_succs-requires g c = rw (c.block_succs.ensures, c.requires.numbers) (c.requires.framed.successors.1 c.args.block c.requires.block)

pub copied_arguments-requires : goal.copied_arguments-requires
copied_arguments-requires g c = record { block = c.requires.block; nonempty = (c.requires.framed.follow c.args.block c.requires.block).0 }

pub block_params-requires : goal.block_params-requires
block_params-requires g c = c.requires.block

pub block_succs-requires : goal.block_succs-requires
block_succs-requires g c = c.requires.block

pub returns : goal.returns
returns g c =
    rw (
      c.in_ok-to_vec.ensures.items_if_clones_equal (λ x y h. h) ∙ c.block_params.ensures,
      c.in_ok-copied_insts.ensures,
      c.in_ok-renamed_succs.ensures,
      c.block_succs.ensures,
      c.in_ok-copied_arguments.ensures,
    ) refl
