use Rattle.std.proofs.Common.{◌≡◌, ◌∙◌, ◌+◌, ℕ, List, [], ◌∷◌, ap, set, sym, subst, arith}
use Rattle.std.specs.Prelude.{slice_index, slice_index_or}
use Rattle.std.proofs.lemmas.List.{get_or_default}
use Rattle.regalloc2_function.specs.WellFormed.{times_in}
use Rattle.regalloc2_serialize.specs.Rewrite.SplitEdges.{AgreeUpToTwo}
use Rattle.regalloc2_serialize.proofs.RewriteLemmas.SplitSteps.{counted-one}
use Rattle.regalloc2_serialize.proofs.rewrite.edges.count_entry.Goals as goal

pub returns-clause-counted : goal.returns-clause-counted
returns-clause-counted g c t less =
    let old : List ℕ = c.args.counts.now.items in
    let b : ℕ = c.args.block in
    let v : ℕ = c.saturating_add.result in
    let at : c.index-count.result.now ≡ slice_index old b =
    c.index-count.ensures ∙ ap (λ (i : ℕ). slice_index_or old i c.index-count.result.now) c.index.ensures
    ∙ get_or_default old b c.index-count.result.now 0 c.requires in
    let more : AgreeUpToTwo v (slice_index old b + 1) = subst (λ (n : ℕ). AgreeUpToTwo v (n + 1)) at (rw c.saturating_add.ensures (omega arith, omega arith)) in
    subst (λ (i : ℕ). AgreeUpToTwo (slice_index (set old i v) t) (slice_index old t + times_in t (b ∷ []))) (sym c.index-2.ensures)
    (counted-one old b v t c.requires more)
