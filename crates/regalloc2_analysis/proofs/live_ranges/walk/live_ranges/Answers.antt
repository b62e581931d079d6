use Rattle.std.proofs.Common.{ℕ, List, Option, ◌∙◌, length, sym, ap, subst, arith}
use Rattle.regalloc2_function.specs.FunctionValue.{FunctionValue}
use Rattle.regalloc2_analysis.specs.declared.live_ranges.LiveRange.{LiveRange}
use Rattle.regalloc2_analysis.specs.LiveRanges.LiveRanges.{IsWanted}
use Rattle.regalloc2_analysis.specs.LiveRanges.WalkInvariant.{AreNamers}
use Rattle.regalloc2_analysis.proofs.LiveRangesLemmas.Named.{lists_adding}
use Rattle.regalloc2_analysis.proofs.LiveRangesLemmas.Spread.{spread_length}
use Rattle.regalloc2_analysis.proofs.live_ranges.walk.live_ranges.Goals as goal

pub few_ranges-requires-clause-ssa : goal.few_ranges-requires-clause-ssa
few_ranges-requires-clause-ssa g c = c.requires

pub few_ranges-requires-clause-listed : goal.few_ranges-requires-clause-listed
few_ranges-requires-clause-listed g c =
    let f : FunctionValue = g.F.Function.function c.args.f.now in
    let W : ℕ → Type 0 = IsWanted c.args.wanted.now in
    let named : List ℕ = c.as_slice.result.now in
    lists_adding f W named (length named) (length f.insts)
    (subst (λ (ns : List ℕ). AreNamers f W ns (length ns) (length f.insts)) (sym c.as_slice.ensures.value) c.in_ok-named.ensures)

pub returns-clause-ok : goal.returns-clause-ok
returns-clause-ok g c = rw (c.in_ok-spread_out.ensures, c.as_slice-2.ensures.value, c.as_slice-3.ensures.value) c.in_ok-few.ensures.ok

pub returns-clause-few : goal.returns-clause-few
returns-clause-few g c =
    let long = ap (λ (t : List (Option LiveRange)). length t) c.in_ok-spread_out.ensures ∙ spread_length c.as_slice-2.result.now c.as_slice-3.result.now
    ∙ ap (λ (ss : List ℕ). length ss) c.as_slice-2.ensures.value in
    omega (arith, long, c.in_ok-few.ensures.few)
