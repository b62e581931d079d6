use Rattle.std.proofs.Common.{ℕ, refl, ◌≡◌, ◌<◌, map, subst, sym, ◌∙◌}
use Rattle.std.specs.Prelude.{All}
use Rattle.std.proofs.lemmas.Result.{err_from_is_err_and}
use Rattle.regalloc2_names.specs.Register.{VirtualRegister}
use Rattle.regalloc2_function.specs.FunctionValue.{FunctionValue, label_of}
use Rattle.regalloc2_function.specs.WellFormed.{IsFramed}
use Rattle.regalloc2_serialize.specs.TableFunction.Draft.{draft_of}
use Rattle.regalloc2_serialize.proofs.RewriteLemmas.Lists.{all-from-map}
use Rattle.regalloc2_serialize.proofs.RewriteLemmas.SplitLaws.{is-split, unbuilt-laid}
use Rattle.std.proofs.lemmas.Bool.{false≢true}
use Rattle.regalloc2_serialize.proofs.rewrite.edges.split_critical_edges.Goals as goal

same-label : (x y : VirtualRegister × ℕ × ℕ × ℕ) → (y.0 ≡ x.0) × (y.1 ≡ x.1) × (y.2 ≡ x.2) × (y.3 ≡ x.3) → y ≡ x
same-label x y same = rw (same.0, same.1, same.2, same.3) refl

pub laid_like-requires : goal.laid_like-requires
laid_like-requires g c =
    let f : FunctionValue = g.F.Function.function c.args.f.now in
    let copied : c.in_ok-labels.labels.items ≡ c.debug_value_labels.result.now =
    c.in_ok-labels.ensures.items_if_clones_equal same-label in
    let same : map label_of c.in_ok-labels.labels.items ≡ f.labels = rw copied c.debug_value_labels.ensures in
    all-from-map (λ l. l.vreg.number < f.num_vregs) label_of c.in_ok-labels.labels.items
    (subst (All (λ l. l.vreg.number < f.num_vregs)) (sym same) (g.met.F.Function.limited c.args.f.now).labels)

pub returns-clause-ok : goal.returns-clause-ok
returns-clause-ok g c =
    let f : FunctionValue = g.F.Function.function c.args.f.now in
    let framed : IsFramed f = c.is_framed.ensures.0 c.if-not-is_framed.false in
    let copied : c.in_ok-labels.labels.items ≡ c.debug_value_labels.result.now =
    c.in_ok-labels.ensures.items_if_clones_equal same-label in
    let same : map label_of c.in_ok-labels.labels.items ≡ f.labels = rw copied c.debug_value_labels.ensures in
    is-split f _ framed
    (rw (c.entry_block.ensures, same, c.in_ok-drafts.ensures.ok) at c.in_ok-laid_like.ensures.ok)

pub returns-in_err-laid_like-clause-err : goal.returns-in_err-laid_like-clause-err
returns-in_err-laid_like-clause-err g c =
    let f : FunctionValue = g.F.Function.function c.args.f.now in
    let framed : IsFramed f = c.is_framed.ensures.0 c.if-not-is_framed.false in
    let p = err_from_is_err_and c.from_residual-in_err-laid_like.result c.from_residual-in_err-laid_like.ensures.1 in
    rw (p.1, p.2) (unbuilt-laid f framed (map draft_of c.in_ok-drafts.drafts.items) c.in_ok-drafts.ensures.ok _
    (g.met.F.Function.limited c.args.f.now) c.in_err-laid_like.ensures.err)

pub returns-in_err-drafts-clause-err : goal.returns-in_err-drafts-clause-err
returns-in_err-drafts-clause-err g c =
    let p = err_from_is_err_and c.from_residual.result c.from_residual.ensures.1 in rw (p.1, p.2) c.in_err-drafts.ensures.err

pub returns-then-not-is_framed-clause-err : goal.returns-then-not-is_framed-clause-err
returns-then-not-is_framed-clause-err g c = λ framed. absurd (false≢true (sym c.if-not-is_framed.true ∙ c.is_framed.ensures.1 framed))

pub split_blocks-requires : goal.split_blocks-requires
split_blocks-requires g c = record { framed = c.is_framed.ensures.0 c.if-not-is_framed.false }
