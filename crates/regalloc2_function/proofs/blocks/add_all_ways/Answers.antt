use Rattle.std.proofs.Common.{◌≡◌, ◌+◌, ◌<◌, arith, ◌∙◌, All, length, ap, subst, sym}
use Rattle.std.specs.Prelude.{if◌then◌else◌, nat_eq}
use Rattle.regalloc2_function.specs.FunctionValue.{FunctionValue, block_at}
use Rattle.regalloc2_function.specs.WellFormed.{times_in}
use Rattle.regalloc2_function.specs.Inside.Ways.{listed_of}
use Rattle.regalloc2_function.proofs.PredsListed.{all_ways_end, all_ways_more}
use Rattle.regalloc2_function.proofs.blocks.add_all_ways.Goals as goal

pub loop-b-preserved : goal.loop-b-preserved
loop-b-preserved g c =
    let f : FunctionValue = g.F.Function.function c.args.f.now in
    record {
      whole = c.loop-b.invariant.whole;
      so_far = λ n p. let h : times_in p (listed_of c.add_ways.new.ways n) ≡ times_in p
          (listed_of c.loop-b.ways n) + (if nat_eq c.loop-b.b p then times_in n (block_at f c.loop-b.b).succs else 0) =
          rw (c.block_succs.ensures, c.new-block.ensures) at (c.in_ok-add_ways.ensures n p) in
          all_ways_more f c.loop-b.b n p (times_in p (listed_of c.loop-b.ways n)) (times_in p (listed_of c.add_ways.new.ways n)) h
          (c.loop-b.invariant.so_far n p).0 (c.loop-b.invariant.so_far n p).1;
    }

pub returns : goal.returns
returns g c n p =
    let f : FunctionValue = g.F.Function.function c.args.f.now in
    all_ways_end f c.loop-b.b n p (times_in p (listed_of c.loop-b.ways n)) (omega (arith, c.loop-b.invariant.whole)) (c.loop-b.invariant.so_far n p).0
    (c.loop-b.invariant.so_far n p).1

pub block_succs-requires : goal.block_succs-requires
block_succs-requires g c = omega (arith, c.loop-b.invariant.whole, c.loop-b-test.true, c.new-block.ensures)

pub add_ways-requires : goal.add_ways-requires
add_ways-requires g c =
    let f : FunctionValue = g.F.Function.function c.args.f.now in
    let less : c.new-block.result < length f.blocks = omega (arith, c.loop-b.invariant.whole, c.loop-b-test.true, c.new-block.ensures) in
    subst (λ n. All (λ s. s < n) c.block_succs.result.now) (sym (c.loop-b.auto.ways ∙ c.requires.long))
    (subst (λ succs. All (λ s. s < length f.blocks) succs) (sym c.block_succs.ensures) (c.requires.blocks.1 c.new-block.result less))

pub loop-b-init : goal.loop-b-init
loop-b-init g c = record {
  whole = c.num_blocks-b-end.ensures.count;
  so_far = λ n p. (λ less. absurd (omega (arith, less)), λ low. ap (times_in p) (c.requires.none n));
}
