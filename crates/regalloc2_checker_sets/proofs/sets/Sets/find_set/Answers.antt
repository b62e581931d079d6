use Rattle.std.proofs.Common.{ℕ, refl, sym, ◌∙◌, subst}
use Rattle.regalloc2_checker_sets.specs.EntrySets.{has_bits, IsSetOf}
use Rattle.regalloc2_checker_sets.proofs.Lone.{same-some}
use Rattle.regalloc2_checker_sets.proofs.sets.Sets.find_set.Goals as goal

pub kept-requires-clause-kept : goal.kept-requires-clause-kept
kept-requires-clause-kept g c = (c.in-Some.ensures c.in-Some.number refl).0

pub kept-requires-clause-set : goal.kept-requires-clause-set
kept-requires-clause-set g c = (c.in-Some.ensures c.in-Some.number refl).1

pub returns-then-is_same : goal.returns-then-is_same
returns-then-is_same g c n e =
    subst (λ (x : ℕ). IsSetOf c.args.self.now x (has_bits c.args.set.now)) (same-some _ n e) record {
      below = (c.in-Some.ensures c.in-Some.number refl).1;
      members = λ y. sym (c.kept.ensures y) ∙ c.if-is_same.ensures refl y;
    }
