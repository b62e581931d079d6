-- The lowest bit is an operand's, and the word without it selects the rest.
use Rattle.std.proofs.Common.{◌<◌, ◌^◌, rules}
use Rattle.regalloc2_fastalloc_state.proofs.MaskLemmas.{lowest_first, lowest_inside}
use Rattle.regalloc2_fastalloc_state.proofs.masks.take_lowest.Goals as goal

pub returns-clause-inside : goal.returns-clause-inside
returns-clause-inside c operands small =
    let fits : c.args.word.now < 2 ^ 64 = search rules in
    lowest_inside c.args.word.now operands c.requires fits small

pub returns-clause-taken : goal.returns-clause-taken
returns-clause-taken c operands small =
    let fits : c.args.word.now < 2 ^ 64 = search rules in
    lowest_first c.args.word.now operands c.requires fits small
