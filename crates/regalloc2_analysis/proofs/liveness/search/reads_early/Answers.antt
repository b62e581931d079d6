use Rattle.std.proofs.Common.{ℕ, ◌≡◌, ◌∙◌, [], eqb-true, subst, sym}
use Rattle.std.proofs.lemmas.List.Elements.{All-nil, All-push}
use Rattle.std.proofs.lemmas.Result.{IfOk-weaker}
use Rattle.regalloc2_function.specs.FunctionValue.{FunctionValue}
use Rattle.regalloc2_semantics.specs.Runs.{first_of}
use Rattle.regalloc2_analysis.specs.Liveness.LiveIn.{IsNeeded}
use Rattle.regalloc2_analysis.specs.Liveness.Search.{LeadsBack}
use Rattle.regalloc2_analysis.proofs.liveness.search.reads_early.Goals as goal

pub returns-then-eq : goal.returns-then-eq
returns-then-eq g c = λ yes.
    let f : FunctionValue = g.F.Function.function c.args.f.now in
    let same : c.args.block ≡ f.entry = eqb-true c.args.block c.entry_block-entry.result (sym c.eq.ensures ∙ c.if-eq.true) ∙ c.entry_block-entry.ensures in
    subst (λ (b : ℕ). IsNeeded f c.args.vreg (first_of f b)) same (c.is_asked.ensures c.if-not-is_asked.false)

pub leads_on-requires-clause-near : goal.leads_on-requires-clause-near
leads_on-requires-clause-near g c =
    let back : ℕ → Type 0 = LeadsBack (g.F.Function.function c.args.f.now) c.args.vreg in
    rw (c.in_ok-push.ensures.items, c.new-near.ensures.items)
    (All-push back [] c.entry_block-entry.result (All-nil back) (rw c.entry_block-entry.ensures (c.requires.successors.0, λ need. need)))

pub leads_on-requires-clause-far : goal.leads_on-requires-clause-far
leads_on-requires-clause-far g c = rw c.new-far.ensures.items (All-nil (LeadsBack (g.F.Function.function c.args.f.now) c.args.vreg))

pub leads_on-requires-clause-framed : goal.leads_on-requires-clause-framed
leads_on-requires-clause-framed g c = c.requires

pub returns : goal.returns
returns g c = IfOk-weaker c.leads_on.result _ _ (λ b leads yes. (leads yes).1 (c.is_asked.ensures c.if-not-is_asked.false)) c.leads_on.ensures
