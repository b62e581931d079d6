use Rattle.std.proofs.Common.{refl, subst, arith, below_more}
use Rattle.regalloc2_function.specs.FunctionValue.{FunctionValue}
use Rattle.regalloc2_analysis.specs.BranchDefs.BranchDefs.{EndsInDefinitions}
use Rattle.std.proofs.lemmas.Bool.{false≢true}
use Rattle.regalloc2_analysis.proofs.branch_defs.edges.some_branch_defines.Goals as goal

pub returns-then-ends_in_definitions : goal.returns-then-ends_in_definitions
returns-then-ends_in_definitions g c =
    let f : FunctionValue = g.F.Function.function c.args.f.now in (
      λ h. (
        c.loop-b.b,
        omega (arith, c.loop-b.invariant.within),
        subst (EndsInDefinitions f) c.new.ensures (c.ends_in_definitions.ensures.0
            c.if-ends_in_definitions.true),
      ),
      λ h. refl,
    )

pub loop-b-preserved : goal.loop-b-preserved
loop-b-preserved g c =
    let f : FunctionValue = g.F.Function.function c.args.f.now in
    record {
      within = c.loop-b.invariant.within;
      so_far = below_more (λ n. EndsInDefinitions f n → ⊥) _ c.loop-b.invariant.so_far
          (λ h. let yes = c.ends_in_definitions.ensures.1 (rw c.new.ensures h) in absurd cc);
    }

pub returns : goal.returns
returns g c = (λ h. absurd (false≢true h), λ h. absurd (c.loop-b.invariant.so_far h.0 (let lt = h.1 in omega (arith, c.loop-b.invariant.within)) h.2))
