use Rattle.std.proofs.Common.{◌≡◌, ◌<◌, ◌≤◌, ◌-◌, ℕ, length, ◌∙◌, ap, arith, rules}
use Rattle.regalloc2_index.specs.Range.{Span}
use Rattle.regalloc2_function.specs.FunctionValue.{FunctionValue, block_at}
use Rattle.regalloc2_checker.specs.Fixpoint.{facts_within}
use Rattle.regalloc2_checker.specs.TableFacts.{facts_now}
use Rattle.regalloc2_checker.proofs.BlocksInRange.{insts_within, nonempty}
use Rattle.regalloc2_checker.proofs.TableSteps.{kept-same, kept-twice}
use Rattle.regalloc2_checker.proofs.TransferFollowsFacts.{within_none, within_more, named_same}
use Rattle.regalloc2_checker.proofs.transfer_block.transfer_block.Goals as goal

pub loop-i-init : goal.loop-i-init
loop-i-init g c =
    let f : FunctionValue = g.F.Function.function c.args.f.now in
    let first : c.index-i.result ≡ (block_at f c.args.block).range.first = c.index-i.ensures ∙ c.first.ensures
    ∙ ap (λ (s : Span). s.first) c.block_insns-range.ensures in
    let some : (block_at f c.args.block).range.first < (block_at f c.args.block).range.end = nonempty f c.requires.1.1.1.1.0 c.args.block
    c.requires.1.1.1.1.1 in
    record {
      end = c.index-i-end.ensures ∙ c.end.ensures ∙ ap (λ (s : Span). s.end) c.block_insns-range.ensures;
      low = omega (arith, first);
      high = omega (arith, first, some);
      kept = kept-same c.args.values.now;
      now = within_none f g.o c.args.block (c.index-i.result - (block_at f c.args.block).range.first) (facts_now c.args.values.now) (omega (arith, first));
    }

pub transfer_inst-requires : goal.transfer_inst-requires
transfer_inst-requires g c κs within =
    let f : FunctionValue = g.F.Function.function c.args.f.now in
    let inside : (block_at f c.args.block).range.end ≤ length f.insts = insts_within f c.requires.1.1.1.1.0 c.args.block c.requires.1.1.1.1.1 in (
      search rules,
      (
        search rules,
        (
          c.requires.1.1.0,
          (
            named_same f g.o c.args.values.now c.loop-i.values c.loop-i.invariant.kept.places c.loop-i.invariant.kept.vregs c.requires.1.1.1.0,
            (
              c.requires.1.1.1.1.1,
              (
                omega (arith, c.new.ensures, c.loop-i.invariant.low),
                (
                  omega (arith, c.new.ensures, c.loop-i-test.true, c.loop-i.invariant.end),
                  omega (arith, c.new.ensures, c.loop-i-test.true, c.loop-i.invariant.end, inside),
                ),
              ),
            ),
          ),
        ),
      ),
    )

pub loop-i-preserved : goal.loop-i-preserved
loop-i-preserved g c =
    let f : FunctionValue = g.F.Function.function c.args.f.now in
    record {
      end = c.loop-i.invariant.end;
      low = omega (arith, c.loop-i.invariant.low);
      high = omega (arith, c.loop-i-test.true, c.loop-i.invariant.end);
      kept = kept-twice c.args.values.now c.loop-i.values c.transfer_inst.new.values c.loop-i.invariant.kept c.in_ok-transfer_inst.ensures.kept;
      now = within_more f g.o c.args.block c.loop-i.i c.new.result (facts_now c.args.values.now) (facts_now c.loop-i.values)
          (facts_now c.transfer_inst.new.values) c.new.ensures c.loop-i.invariant.low c.loop-i.invariant.now c.in_ok-transfer_inst.ensures.now;
    }

pub returns : goal.returns
returns g c =
    let f : FunctionValue = g.F.Function.function c.args.f.now in
    let at : c.loop-i.i ≡ (block_at f c.args.block).range.end = omega (arith, c.loop-i-test.false, c.loop-i.invariant.end, c.loop-i.invariant.high) in
    record {
      kept = c.loop-i.invariant.kept;
      now = c.loop-i.invariant.now
          ∙ ap (λ (n : ℕ). facts_within f g.o c.args.block (facts_now c.args.values.now) (n - (block_at f c.args.block).range.first)) at;
    }
