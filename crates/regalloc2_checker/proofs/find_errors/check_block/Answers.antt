use Rattle.std.proofs.Common.{◌≡◌, ◌<◌, ◌≤◌, length, ◌∙◌, ap, arith, rules}
use Rattle.regalloc2_index.specs.Range.{Span}
use Rattle.regalloc2_function.specs.FunctionValue.{FunctionValue, block_at}
use Rattle.regalloc2_checker.specs.Showing.{shows_in}
use Rattle.regalloc2_checker.specs.TableFacts.{facts_now, facts_table}
use Rattle.regalloc2_checker.proofs.Blocks.{judged_first, judged_next, judged_end}
use Rattle.regalloc2_checker.proofs.BlocksInRange.{insts_within, nonempty}
use Rattle.regalloc2_checker.proofs.TableSteps.{now-as, kept-twice}
use Rattle.regalloc2_checker.proofs.TransferFollowsFacts.{named_same}
use Rattle.regalloc2_checker.proofs.find_errors.check_block.Goals as goal

pub load-requires : goal.load-requires
load-requires g c = rw c.index.ensures c.requires.1.1.1.1.1.1

pub loop-i-init : goal.loop-i-init
loop-i-init g c =
    let f : FunctionValue = g.F.Function.function c.args.by.now.f.now in
    let first : c.index-i.result ≡ (block_at f c.args.block).range.first = c.index-i.ensures ∙ c.first.ensures
    ∙ ap (λ (s : Span). s.first) c.block_insns-range.ensures in
    let some : (block_at f c.args.block).range.first < (block_at f c.args.block).range.end = nonempty f c.requires.1.1.1.0 c.args.block
    c.requires.1.1.1.1.1.0 in
    let now : facts_now c.load.new.self ≡ facts_table c.args.values.now c.args.block =
    now-as c.args.values.now c.load.new.self (shows_in c.args.values.now c.args.block) c.load.ensures.kept.places (rw c.index.ensures at c.load.ensures.now) in
    record {
      end = c.index-i-end.ensures ∙ c.end.ensures ∙ ap (λ (s : Span). s.end) c.block_insns-range.ensures;
      low = omega (arith, first);
      high = omega (arith, first, some);
      kept = c.load.ensures.kept;
      judged = λ env s k. judged_first f env g.o c.args.block c.index-i.result (facts_table c.args.values.now c.args.block) (facts_now c.load.new.self)
          c.args.errors.now.items first now;
    }

pub check_inst-requires : goal.check_inst-requires
check_inst-requires g c κs within =
    let f : FunctionValue = g.F.Function.function c.args.by.now.f.now in
    let inside : (block_at f c.args.block).range.end ≤ length f.insts = insts_within f c.requires.1.1.1.0 c.args.block c.requires.1.1.1.1.1.0 in (
      search rules,
      (
        search rules,
        (
          c.requires.1.1.0,
          (
            named_same f g.o c.args.values.now c.loop-i.values c.loop-i.invariant.kept.places c.loop-i.invariant.kept.vregs c.requires.1.1.1.1.0,
            (
              c.requires.1.1.1.1.1.0,
              (
                omega (arith, c.new.ensures, c.loop-i.invariant.low),
                (
                  omega (arith, c.new.ensures, c.loop-i-test.true, c.loop-i.invariant.end),
                  omega (arith, c.new.ensures, c.loop-i-test.true, c.loop-i.invariant.end, inside),
                ),
              ),
            ),
          ),
        ),
      ),
    )

pub loop-i-preserved : goal.loop-i-preserved
loop-i-preserved g c =
    let f : FunctionValue = g.F.Function.function c.args.by.now.f.now in
    record {
      end = c.loop-i.invariant.end;
      low = omega (arith, c.loop-i.invariant.low);
      high = omega (arith, c.loop-i-test.true, c.loop-i.invariant.end);
      kept = kept-twice c.args.values.now c.loop-i.values c.check_inst.new.values c.loop-i.invariant.kept c.in_ok-check_inst.ensures.kept;
      judged = λ env s k. judged_next f env g.o c.args.block c.loop-i.i c.new.result (facts_table c.args.values.now c.args.block) c.args.errors.now.items
          c.loop-i.errors.items c.check_inst.new.errors.items (facts_now c.loop-i.values) (facts_now c.check_inst.new.values)
          (record {
            number = c.new.ensures;
            low = c.loop-i.invariant.low;
            high = omega (arith, c.loop-i-test.true, c.loop-i.invariant.end);
            run = c.in_ok-check_inst.ensures.now;
          })
          k (c.in_ok-check_inst.ensures.judged env s)
          (c.loop-i.invariant.judged env s k);
    }

pub returns : goal.returns
returns g c =
    let f : FunctionValue = g.F.Function.function c.args.by.now.f.now in
    let at : c.loop-i.i ≡ (block_at f c.args.block).range.end = omega (arith, c.loop-i-test.false, c.loop-i.invariant.end, c.loop-i.invariant.high) in
    record {
      kept = c.loop-i.invariant.kept;
      judged = λ env s k. judged_end f env g.o c.args.block c.loop-i.i
          (facts_table c.args.values.now c.args.block) c.args.errors.now.items c.loop-i.errors.items
          (facts_now c.loop-i.values) at (c.loop-i.invariant.judged env s k);
    }
