use Rattle.std.proofs.Common.{◌≡◌, get_or, arith, ◌+◌, ◌∙◌, sym, ap, refl}
use Rattle.std.proofs.lemmas.List.{get_or_past, take_all}
use Rattle.regalloc2_function.proofs.TimesInList.{too_many, counted_less}
use Rattle.regalloc2_function.proofs.blocks.count_out.Goals.{then-index-counts-via-then-index-counts, then-index-counts-via-else-index-counts+then-counts-index-eq0}
use Rattle.std.proofs.lemmas.Bool.{false≢true}
use Rattle.regalloc2_function.specs.WellFormed.{times_in}
use Rattle.regalloc2_function.proofs.blocks.count_out.Goals as goal

pub returns-then-index-counts-clause-enough : goal.returns-then-index-counts-clause-enough
returns-then-index-counts-clause-enough c =
    let none : get_or c.loop-block.counts c.block-item.result 0 ≡ 0 = elim c.then-index-counts.branch [
      | then-index-counts-via-then-index-counts w ↦ get_or_past c.loop-block.counts c.block-item.result 0 (omega (arith, c.index.ensures))
      | then-index-counts-via-else-index-counts+then-counts-index-eq0 w ↦ rw w.index-else-index-counts.ensures at w.if-counts-index-eq0.true
    ] in (
      λ h. absurd (false≢true h),
      λ all. absurd (too_many c.block-item.result c.loop-block.block-index (get_or c.args.counts.now c.block-item.result 0)
          (get_or c.loop-block.counts c.block-item.result 0) c.args.blocks.now c.loop-block-test.true c.block-item.is none
          (c.loop-block.invariant c.block-item.result) (all c.block-item.result)),
    )

pub loop-block-preserved : goal.loop-block-preserved
loop-block-preserved c =
    let some = rw c.index-else-index-counts.ensures at c.if-counts-index-eq0.false in
    rw c.index-in-loop-block.ensures (counted_less c.loop-block.counts c.args.counts.now c.args.blocks.now c.loop-block.block-index c.block-item.result
    c.loop-block-test.true c.block-item.is (omega (arith, c.index.ensures, c.if-index-counts.false)) some c.loop-block.invariant)

pub returns-clause-enough : goal.returns-clause-enough
returns-clause-enough c =
    let all = take_all c.loop-block.block-index c.args.blocks.now (omega (arith, c.loop-block-test.false)) in (
      λ yes b. (let sum = c.loop-block.invariant b in let same = ap (times_in b) all in omega (arith, sum, same)),
      λ enough. refl,
    )

pub returns-clause-taken : goal.returns-clause-taken
returns-clause-taken c = λ b. ap (λ l. get_or c.loop-block.counts b 0 + times_in b l)
    (sym (take_all c.loop-block.block-index c.args.blocks.now (omega (arith, c.loop-block-test.false)))) ∙ c.loop-block.invariant b
