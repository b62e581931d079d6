use Rattle.std.proofs.Common.{false, ◌⊎◌, subst}
use Rattle.std.proofs.lemmas.List.{take_all}
use Rattle.std.proofs.lemmas.List.Elements.{All-more}
use Rattle.regalloc2_names.specs.Place.{Place}
use Rattle.regalloc2_parts.specs.Computed.{AreSeenApart}
use Rattle.regalloc2_parts.proofs.moves.scratch.MoveAndScratchResolver.has_stack_to_stack.Goals as goal

pub loop-m-preserved : goal.loop-m-preserved
loop-m-preserved g c =
    let Apart : Place × Place × g.row.T.Denot → Type 0 =
    λ m. goal.IsStackAlloc-post g c.args.self.now.is_stack_alloc m.0 false ⊎ goal.IsStackAlloc-post g c.args.self.now.is_stack_alloc m.1 false in
    let here : Apart c.m-item.result = c.is_stack_to_stack.ensures.one c.if-is_stack_to_stack.false in
    All-more Apart c.args.moves.now c.loop-m.m-index c.m-item.result c.loop-m-test.true c.loop-m.invariant (subst Apart c.m-item.is here)

pub returns-clause-none : goal.returns-clause-none
returns-clause-none g c =
    λ e. subst (λ xs. AreSeenApart (λ p b. goal.IsStackAlloc-post g c.args.self.now.is_stack_alloc p b) xs)
    (take_all c.loop-m.m-index c.args.moves.now c.loop-m-test.false) c.loop-m.invariant
