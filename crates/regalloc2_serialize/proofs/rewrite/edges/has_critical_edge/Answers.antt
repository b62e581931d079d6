use Rattle.std.proofs.Common.{arith, ◌≡◌, ◌∙◌, ◌<◌, ◌&&◌, ℕ, List, length, ap, subst, sym, nat_lt}
use Rattle.std.specs.Prelude.{slice_index}
use Rattle.std.proofs.lemmas.List.{get_or_default}
use Rattle.std.proofs.lemmas.Bool.Decides.{nat_tests}
use Rattle.regalloc2_function.specs.FunctionValue.{FunctionValue, block_at}
use Rattle.regalloc2_serialize.specs.Rewrite.SplitEdges.{AgreeUpToTwo, entries_into}
use Rattle.regalloc2_serialize.proofs.rewrite.edges.has_critical_edge.Goals as goal

same-critical : (m n many : ℕ) → 1 < many → AgreeUpToTwo m n → nat_lt 1 m ≡ (nat_lt 1 many && nat_lt 1 n)
same-critical m n many several agree = grind (arith, nat_tests)

pub returns : goal.returns
returns g c =
    let f : FunctionValue = g.F.Function.function c.args.f.now in
    let b : ℕ = c.args.block in
    let k : ℕ = c.args.k in
    let succs : List ℕ = (block_at f b).succs in
    let inside : k < length c.block_succs-succs.result.now = omega (arith, ap length c.block_succs-succs.ensures, c.requires.position) in
    let to : c.index.result ≡ slice_index succs k =
    c.index.ensures ∙ c.index-succs-k.is ∙ get_or_default c.block_succs-succs.result.now k c.index-succs-k.result 0 inside
    ∙ ap (λ (ss : List ℕ). slice_index ss k) c.block_succs-succs.ensures in
    let within : slice_index succs k < length f.blocks = c.requires.counted.framed.successors.1 b c.requires.counted.block k 0 c.requires.position in
    let agree : AgreeUpToTwo (slice_index c.args.entries.now c.index.result) (entries_into f (slice_index succs k)) =
    subst (λ (t : ℕ). AgreeUpToTwo (slice_index c.args.entries.now t) (entries_into f (slice_index succs k))) (sym to)
    (c.requires.counted.entries.counted (slice_index succs k) within) in
    same-critical _ _ (length succs) (omega (arith, c.if-succs-le1.false, ap length c.block_succs-succs.ensures)) agree
