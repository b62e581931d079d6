use Rattle.std.proofs.Common.{◌∙◌, lit<, rules}
use Rattle.regalloc2_parts.proofs.moves.order.give_all.Goals as goal

pub from_elem-requires : goal.from_elem-requires
from_elem-requires g c = lit< tt

pub as_mut_slice-requires : goal.as_mut_slice-requires
as_mut_slice-requires g c = lit< tt

pub give_chains-requires : goal.give_chains-requires
give_chains-requires g c = (
  search rules,
  (
    search rules,
    (
      c.requires.apart,
      (
        c.requires.nexts,
        (
          c.requires.indexed,
          (c.as_mut_slice.ensures.value ∙ c.in_ok-states.ensures.items_if_clones_equal (λ x h. h), c.new-chain.ensures.items),
        ),
      ),
    ),
  ),
)
