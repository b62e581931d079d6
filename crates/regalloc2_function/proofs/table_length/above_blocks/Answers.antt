use Rattle.std.proofs.Common.{ℕ, ◌≡◌, ◌<◌, ◌⊎◌, ◌≤◌, ◌∙◌, inl, List, length, refl, ap, subst, arith, below_more}
use Rattle.std.specs.Prelude.{All}
use Rattle.std.proofs.lemmas.List.Elements.{All-weaker}
use Rattle.regalloc2_names.specs.Register.{VirtualRegister}
use Rattle.regalloc2_function.specs.FunctionValue.{FunctionValue, block_at}
use Rattle.regalloc2_function.specs.Inside.TableLength.{ReachedByParam}
use Rattle.regalloc2_function.proofs.TableLengths.{block_more}
use Rattle.regalloc2_function.proofs.table_length.above_blocks.Goals as goal

pub loop-b-init : goal.loop-b-init
loop-b-init g c = record { whole = c.num_blocks-b-end.ensures.count; above = λ b less. absurd (omega (arith, less)); near = inl refl }

pub loop-b-preserved : goal.loop-b-preserved
loop-b-preserved g c =
    let f : FunctionValue = g.F.Function.function c.args.f.now in
    let b : ℕ = c.loop-b.b in
    let n : ℕ = c.above_params-above.result in
    let P : List VirtualRegister → Type 0 = All (λ v. v.number < n) in
    let rises = c.above_params-above.ensures.rises in
    let less : b < length f.blocks = omega (arith, c.loop-b-test.true, c.loop-b.invariant.whole) in
    let ps : c.block_params.result.now ≡ (block_at f b).params = c.block_params.ensures ∙ ap (λ (k : ℕ). (block_at f k).params) c.new.ensures in
    record {
      whole = c.loop-b.invariant.whole;
      above = below_more (λ (k : ℕ). P (block_at f k).params) b
          (λ k lt. All-weaker (λ (v : VirtualRegister). v.number < c.loop-b.above) (λ (v : VirtualRegister). v.number < n) (λ v low. omega (arith, low, rises))
          (block_at f k).params (c.loop-b.invariant.above k lt))
          (subst P ps c.above_params-above.ensures.above);
      near = block_more f b c.loop-b.above n less
          (subst (λ (vs : List VirtualRegister). (n ≤ c.loop-b.above) ⊎ ReachedByParam vs n) ps c.above_params-above.ensures.near) c.loop-b.invariant.near;
    }

pub returns-clause-above : goal.returns-clause-above
returns-clause-above g c b less = c.loop-b.invariant.above b (omega (arith, less, c.loop-b-test.false, c.loop-b.invariant.whole))
