use Rattle.std.proofs.Common.{ℕ, ◌≡◌, ◌<◌, true, false, length, subst, sym, ap, ◌∙◌, arith, rules}
use Rattle.regalloc2_function.specs.FunctionValue.{FunctionValue}
use Rattle.regalloc2_checker.specs.Report.{BlockReports}
use Rattle.regalloc2_checker.specs.TableFacts.{facts_table}
use Rattle.regalloc2_checker.specs.Tables.{views}
use Rattle.regalloc2_checker.proofs.Blocks.{no_blocks, blocks_marked, blocks_unmarked}
use Rattle.regalloc2_checker.proofs.FactsFollowMaps.{AreEarlier}
use Rattle.regalloc2_checker.proofs.TableSteps.{kept-same, kept-twice, table-kept}
use Rattle.regalloc2_checker.proofs.TransferFollowsFacts.{named_same}
use Rattle.regalloc2_checker.proofs.Updates.{reached-is, facts-is}
use Rattle.regalloc2_checker.proofs.find_errors.check_all.Goals as goal

pub loop-b-init : goal.loop-b-init
loop-b-init g c = record {
  within = c.num_blocks-b-end.ensures.count;
  low = omega arith;
  kept = kept-same c.args.values.now;
  reports = λ env s. no_blocks _ env g.o c.new-errors.result.items c.new-errors.ensures.items;
}

pub bounds-reached-b : goal.bounds-reached-b
bounds-reached-b g c = omega (arith, c.loop-b-test.true, c.loop-b.invariant.within, c.requires.1.1.1.1.1.0)

pub check_block-requires : goal.check_block-requires
check_block-requires g c κs within =
    let f : FunctionValue = g.F.Function.function c.args.f.now in
    let less : c.new.result < length f.blocks = omega (arith, c.new.ensures, c.loop-b-test.true, c.loop-b.invariant.within) in (
      search rules,
      (
        search rules,
        (
          c.requires.1.1.0,
          (
            c.requires.1.1.1.0,
            (
              named_same f g.o c.args.values.now c.loop-b.values c.loop-b.invariant.kept.places c.loop-b.invariant.kept.vregs c.requires.1.1.1.1.0,
              (less, omega (arith, less, c.loop-b.invariant.kept.count, c.requires.1.1.1.1.1.1.0)),
            ),
          ),
        ),
      ),
    )

pub loop-b-preserved-then-not-reached-b : goal.loop-b-preserved-then-not-reached-b
loop-b-preserved-then-not-reached-b g c =
    let f : FunctionValue = g.F.Function.function c.args.f.now in
    let less : c.loop-b.b < length c.args.reached.now = omega (arith, c.loop-b-test.true, c.loop-b.invariant.within, c.requires.1.1.1.1.1.0) in
    record {
      within = c.loop-b.invariant.within;
      low = omega (arith, c.loop-b-test.true, c.loop-b.invariant.within);
      kept = c.loop-b.invariant.kept;
      reports = λ env s. blocks_unmarked f env g.o (views c.args.values.now c.args.reached.now) c.loop-b.b c.loop-b.errors.items c.requires.1.1.1.1.1.1.1
          (reached-is c.args.values.now c.args.reached.now c.loop-b.b _ false less c.if-not-reached-b.true) (c.loop-b.invariant.reports env s);
    }

pub loop-b-preserved : goal.loop-b-preserved
loop-b-preserved g c =
    let f : FunctionValue = g.F.Function.function c.args.f.now in
    let law : AreEarlier = record { source = c.finds_earlier_writes.ensures.source; cells = c.finds_earlier_writes.ensures.cells } in
    let less : c.loop-b.b < length c.args.reached.now = omega (arith, c.loop-b-test.true, c.loop-b.invariant.within, c.requires.1.1.1.1.1.0) in
    record {
      within = c.loop-b.invariant.within;
      low = omega (arith, c.loop-b-test.true, c.loop-b.invariant.within);
      kept = kept-twice c.args.values.now c.loop-b.values c.check_block.new.values c.loop-b.invariant.kept c.in_ok-check_block.ensures.kept;
      reports = λ env s. blocks_marked law f env g.o (views c.args.values.now c.args.reached.now) c.loop-b.b c.new.result
          (facts_table c.loop-b.values c.new.result) c.loop-b.errors.items c.check_block.new.errors.items c.requires.1.1.1.0 c.requires.1.1.1.1.1.1.1
          (record {
            number = c.new.ensures;
            marked = reached-is c.args.values.now c.args.reached.now c.loop-b.b _ true less c.if-not-reached-b.false;
            facts = facts-is c.args.values.now c.args.reached.now c.loop-b.b less
                ∙ sym (table-kept c.args.values.now c.loop-b.values c.loop-b.b c.loop-b.invariant.kept)
                ∙ ap (λ (n : ℕ). facts_table c.loop-b.values n) (sym c.new.ensures);
          })
          (c.in_ok-check_block.ensures.judged env s) (c.loop-b.invariant.reports env s);
    }

pub returns : goal.returns
returns g c = λ env s.
    let f : FunctionValue = g.F.Function.function c.args.f.now in
    let all : c.loop-b.b ≡ length f.blocks = omega (arith, c.loop-b-test.false, c.loop-b.invariant.within, c.loop-b.invariant.low) in
    subst (λ (n : ℕ). BlockReports f env g.o n c.loop-b.errors.items) all (c.loop-b.invariant.reports env s)
