use Rattle.std.proofs.Common.{◌∙◌, ap, replicate}
use Rattle.regalloc2_function.proofs.blocks.are_in_order.Goals as goal

pub pass_in_order-requires-clause-blocks : goal.pass_in_order-requires-clause-blocks
pass_in_order-requires-clause-blocks g c = c.requires

pub pass_in_order-requires-clause-zero : goal.pass_in_order-requires-clause-zero
pass_in_order-requires-clause-zero g c =
    c.as_mut_slice.ensures.value ∙ c.in_ok-counts.ensures.items_if_clones_equal (λ y h. h) ∙ ap (λ n. replicate n 0) c.num_blocks.ensures.count

pub returns : goal.returns
returns g c = c.pass_in_order.ensures
