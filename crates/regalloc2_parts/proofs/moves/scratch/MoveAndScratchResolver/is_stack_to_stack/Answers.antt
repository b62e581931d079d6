use Rattle.std.proofs.Common.{inl, inr, sym, subst, ◌∙◌}
use Rattle.std.proofs.lemmas.Bool.{false≢true}
use Rattle.regalloc2_parts.proofs.moves.scratch.MoveAndScratchResolver.is_stack_to_stack.Goals as goal

pub returns-then-is_stack_alloc : goal.returns-then-is_stack_alloc
returns-then-is_stack_alloc g c = record {
  both = λ yes. (
    subst (λ b. goal.IsStackAlloc-post g c.args.self.now.is_stack_alloc c.args.from b) c.if-is_stack_alloc.true c.is_stack_alloc.ensures,
    subst (λ b. goal.IsStackAlloc-post g c.args.self.now.is_stack_alloc c.args.to b) yes c.is_stack_alloc-then-is_stack_alloc.ensures,
  );
  one = λ no. inr (subst (λ b. goal.IsStackAlloc-post g c.args.self.now.is_stack_alloc c.args.to b) no c.is_stack_alloc-then-is_stack_alloc.ensures);
}

pub returns-else-is_stack_alloc : goal.returns-else-is_stack_alloc
returns-else-is_stack_alloc g c = record {
  both = λ yes. absurd (false≢true (sym c.if-is_stack_alloc.false ∙ yes));
  one = λ no. inl (subst (λ b. goal.IsStackAlloc-post g c.args.self.now.is_stack_alloc c.args.from b) c.if-is_stack_alloc.false c.is_stack_alloc.ensures);
}
