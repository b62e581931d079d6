use Rattle.std.proofs.Common.{◌≡◌, ◌-◌, ◌<◌, sym, ap, ◌∙◌, subst, arith}
use Rattle.std.proofs.lemmas.Bool.{false≢true}
use Rattle.regalloc2_index.specs.Range.{Span}
use Rattle.regalloc2_function.specs.FunctionValue.{FunctionValue, block_at, last_of}
use Rattle.regalloc2_function.proofs.framed.ends.Goals as goal

pub last-last-requires : goal.last-last-requires
last-last-requires g c = subst (λ (r : Span). r.first < r.end) (sym c.block_insns-range.ensures) c.requires.nonempty

pub returns-then-ends_block : goal.returns-then-ends_block
returns-then-ends_block g c =
    let f : FunctionValue = g.F.Function.function c.args.f.now in
    let last : c.last-last.result ≡ last_of (block_at f c.args.block) = c.last-last.ensures ∙ ap (λ (r : Span). r.end - 1) c.block_insns-range.ensures in
    let first : c.index.result ≡ (block_at f c.args.block).range.first = c.index.ensures ∙ c.first.ensures ∙ ap (λ (r : Span). r.first) c.block_insns-range.ensures in (
      λ yes. (
        rw (last, c.block_succs.ensures) at (c.ends_block.ensures.0 c.if-ends_block.true),
        λ i low high below. c.goes_on.ensures.0 yes i (omega (arith, first)) (omega (arith, c.index-then-ends_block.ensures, last)),
      ),
      λ e. c.goes_on.ensures.1 (λ i low below. e.1 i (omega (arith, first)) (omega (arith, c.index-then-ends_block.ensures, last))
          (omega (arith, c.index-then-ends_block.ensures, last))),
    )

pub returns-else-ends_block : goal.returns-else-ends_block
returns-else-ends_block g c =
    let f : FunctionValue = g.F.Function.function c.args.f.now in
    let last : c.last-last.result ≡ last_of (block_at f c.args.block) = c.last-last.ensures ∙ ap (λ (r : Span). r.end - 1) c.block_insns-range.ensures in (
      λ h. absurd (false≢true (sym c.if-ends_block.false ∙ h)),
      λ e. c.ends_block.ensures.1 (rw (last, c.block_succs.ensures) e.0),
    )
