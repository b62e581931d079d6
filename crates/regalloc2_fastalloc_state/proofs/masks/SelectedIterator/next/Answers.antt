-- The word 0 selects no operand: the iterator is at its end.
use Rattle.std.proofs.Common.{◌≡◌, [], ◌∙◌, sym}
use Rattle.regalloc2_fastalloc_state.proofs.MaskLemmas.{zero_selects_none}
use Rattle.regalloc2_fastalloc_state.proofs.masks.SelectedIterator.next.Goals as goal

pub returns-then-self-eq0-clause-steps : goal.returns-then-self-eq0-clause-steps
returns-then-self-eq0-clause-steps c =
    let none : c.args.self.now ≡ [] = sym c.self.view_is ∙ zero_selects_none c.self.inside.left c.self.inside.operands.now c.if-self-eq0.true in
    (none, none)
