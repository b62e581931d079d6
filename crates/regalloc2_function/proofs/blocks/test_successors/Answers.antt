use Rattle.std.proofs.Common.{◌+◌, ◌<◌, ◌∷◌, length, take, drop, refl, ap, arith}
use Rattle.std.specs.Prelude.{All, flat_map}
use Rattle.std.proofs.lemmas.List.Elements.{All-cons, All-nil, All-same, All-append}
use Rattle.regalloc2_names.specs.declared.RegAllocError.TheVariants.{BB}
use Rattle.regalloc2_function.specs.FunctionValue.{BlockValue, FunctionValue, block_at}
use Rattle.regalloc2_function.specs.Reasons.{IsFirstIn}
use Rattle.regalloc2_function.proofs.ListsInParts.{all_of_part, first_here, first_of_part, flat_split, flat_taken, flat_more}
use Rattle.regalloc2_function.proofs.BlockRanges.{block_is}
use Rattle.regalloc2_function.proofs.blocks.test_successors.Goals as goal

pub returns-then-index-num_blocks-clause-err : goal.returns-then-index-num_blocks-clause-err
returns-then-index-num_blocks-clause-err g c =
    let f : FunctionValue = g.F.Function.function c.args.f.now in (
      f.entry,
      ap BB c.entry_block-entry.ensures,
      first_here (λ s. s < length f.blocks) (f.entry ∷ flat_map (λ b. b.succs) f.blocks) 0 f.entry (omega arith) refl (All-nil (λ s. s < length f.blocks))
          (λ h. omega (arith, c.index.ensures, c.entry_block-entry.ensures, c.num_blocks-num_blocks.ensures.count, c.if-index-num_blocks.true)),
    )

pub returns-in-Some-clause-err : goal.returns-in-Some-clause-err
returns-in-Some-clause-err g c =
    let f : FunctionValue = g.F.Function.function c.args.f.now in
    let less : c.loop-b.b < length f.blocks = omega (arith, c.loop-b.invariant.whole) in
    let h : IsFirstIn (λ s. s < length f.blocks) (block_at f c.loop-b.b).succs
    c.in-Some.succ = rw (c.block_succs.ensures, c.new.ensures, c.num_blocks-num_blocks.ensures.count) at c.in-Some.ensures.first in (
      c.in-Some.succ,
      refl,
      first_of_part (λ s. s < length f.blocks) (f.entry ∷ flat_map (λ b. b.succs) f.blocks) (f.entry ∷ flat_map (λ b. b.succs) (take c.loop-b.b f.blocks))
          (block_at f c.loop-b.b).succs (flat_map (λ b. b.succs) (drop (c.loop-b.b + 1) f.blocks)) c.in-Some.succ
          (ap (λ l. f.entry ∷ l) (flat_split (λ (b : BlockValue). b.succs) f.blocks c.loop-b.b (block_at f c.loop-b.b) less (block_is f c.loop-b.b less)))
          (All-cons (λ s. s < length f.blocks) f.entry (flat_map (λ b. b.succs) (take c.loop-b.b f.blocks)) c.loop-b.invariant.entry c.loop-b.invariant.so_far)
          h,
    )

pub returns-clause-ok : goal.returns-clause-ok
returns-clause-ok g c =
    let f : FunctionValue = g.F.Function.function c.args.f.now in
    let all : All (λ s. s < length f.blocks) (flat_map (λ b. b.succs) f.blocks) = All-same (λ s. s < length f.blocks) _ _
    (flat_taken (λ (b : BlockValue). b.succs) f.blocks c.loop-b.b (omega (arith, c.loop-b.invariant.whole))) c.loop-b.invariant.so_far in (
      c.loop-b.invariant.entry,
      λ b less. all_of_part (λ s. s < length f.blocks) (λ (b : BlockValue). b.succs) f.blocks b (block_at f b) less (block_is f b less)
          all,
    )

pub loop-b-init : goal.loop-b-init
loop-b-init g c = record {
  whole = c.num_blocks-num_blocks.ensures.count;
  entry = omega (arith, c.if-index-num_blocks.false, c.index.ensures, c.entry_block-entry.ensures, c.num_blocks-num_blocks.ensures.count);
  so_far = All-nil (λ s. s < length (g.F.Function.function c.args.f.now).blocks);
}

pub block_succs-requires : goal.block_succs-requires
block_succs-requires g c = omega (arith, c.loop-b.invariant.whole, c.loop-b-test.true, c.new.ensures)

pub loop-b-preserved : goal.loop-b-preserved
loop-b-preserved g c =
    let f : FunctionValue = g.F.Function.function c.args.f.now in
    let less : c.loop-b.b < length f.blocks = omega (arith, c.loop-b.invariant.whole, c.loop-b-test.true) in
    let here : All (λ s. s < length f.blocks) (block_at f c.loop-b.b).succs =
    rw (c.block_succs.ensures, c.new.ensures, c.num_blocks-num_blocks.ensures.count) at c.in_default.ensures.none in
    record {
      whole = c.loop-b.invariant.whole;
      entry = c.loop-b.invariant.entry;
      so_far = All-same (λ s. s < length f.blocks) _ _ (flat_more (λ (b : BlockValue). b.succs) f.blocks c.loop-b.b (block_at f c.loop-b.b) less
          (block_is f c.loop-b.b less)) (All-append (λ s. s < length f.blocks) (flat_map (λ b. b.succs) (take c.loop-b.b f.blocks)) (block_at f c.loop-b.b).succs
          c.loop-b.invariant.so_far here);
    }
