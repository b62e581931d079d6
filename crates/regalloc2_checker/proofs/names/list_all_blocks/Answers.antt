use Rattle.std.proofs.Common.{ℕ, ◌<◌, List, length, arith, subst}
use Rattle.std.specs.Prelude.{All}
use Rattle.regalloc2_function.specs.FunctionValue.{FunctionValue, block_at}
use Rattle.regalloc2_semantics.specs.Runs.{arguments_at}
use Rattle.regalloc2_checker.specs.TableFacts.{IsListedVReg}
use Rattle.regalloc2_checker.proofs.NamedBits.{more-same, more-twice, all-vregs-more, up_to}
use Rattle.regalloc2_checker.proofs.names.list_all_blocks.Goals as goal

pub loop-b-init : goal.loop-b-init
loop-b-init g c = record {
  end = c.num_blocks-b-end.ensures.count;
  more = more-same c.args.bits.now;
  params = λ b less. absurd (omega (arith, less));
  arguments = λ b less. absurd (omega (arith, less));
}

pub list_block_vregs-requires-clause-block : goal.list_block_vregs-requires-clause-block
list_block_vregs-requires-clause-block g c = omega (arith, c.new.ensures, c.loop-b-test.true, c.loop-b.invariant.end)

pub loop-b-preserved : goal.loop-b-preserved
loop-b-preserved g c =
    let f : FunctionValue = g.F.Function.function c.args.f.now in
    let old : List ℕ = c.loop-b.bits in
    let new : List ℕ = c.list_block_vregs.new.bits in
    record {
      end = c.loop-b.invariant.end;
      more = more-twice c.args.bits.now old new c.loop-b.invariant.more c.in_ok-list_block_vregs.ensures.more;
      params = up_to (λ b. All (IsListedVReg old) (block_at f b).params) (λ b. All (IsListedVReg new) (block_at f b).params) c.loop-b.b
          (λ b h. all-vregs-more old new _ c.in_ok-list_block_vregs.ensures.more h) c.loop-b.invariant.params
          (subst (λ n. All (IsListedVReg new) (block_at f n).params) c.new.ensures c.in_ok-list_block_vregs.ensures.params);
      arguments = up_to (λ b. (k : ℕ) → k < length (block_at f b).succs → All (IsListedVReg old) (arguments_at f b k))
          (λ b. (k : ℕ) → k < length (block_at f b).succs → All (IsListedVReg new) (arguments_at f b k)) c.loop-b.b
          (λ b h k less. all-vregs-more old new _ c.in_ok-list_block_vregs.ensures.more (h k less)) c.loop-b.invariant.arguments
          (subst (λ n. (k : ℕ) → k < length (block_at f n).succs → All (IsListedVReg new) (arguments_at f n k)) c.new.ensures
          c.in_ok-list_block_vregs.ensures.arguments);
    }

pub returns : goal.returns
returns g c = record {
  more = c.loop-b.invariant.more;
  params = λ b less. c.loop-b.invariant.params b (omega (arith, less, c.loop-b-test.false, c.loop-b.invariant.end));
  arguments = λ b k less here. c.loop-b.invariant.arguments b (omega (arith, less, c.loop-b-test.false, c.loop-b.invariant.end)) k here;
}
