use Rattle.std.proofs.Common.{ℕ, ◌≡◌, ◌<◌, ◌∙◌, List, Option, length, sym, ap, subst, arith}
use Rattle.regalloc2_index.specs.Range.{Span}
use Rattle.regalloc2_names.specs.Place.{before}
use Rattle.regalloc2_names.specs.Register.{VirtualRegister}
use Rattle.regalloc2_function.specs.FunctionValue.{FunctionValue, block_at}
use Rattle.regalloc2_carry.proofs.Order.{ends_within}
use Rattle.regalloc2_function.specs.Inside.TableLength.{CoversDefinitions}
use Rattle.regalloc2_analysis.specs.declared.live_ranges.LiveRange.{LiveRange}
use Rattle.regalloc2_analysis.specs.LiveRanges.LiveRanges.{IsWanted}
use Rattle.regalloc2_analysis.specs.LiveRanges.Entries.{HasEntry, IsApart, spread}
use Rattle.regalloc2_analysis.proofs.LiveRangesLemmas.Spread.{spread_length}
use Rattle.regalloc2_analysis.proofs.LiveRangesLemmas.UsesInSSA.{parameter_small}
use Rattle.regalloc2_analysis.proofs.LiveRangesLemmas.LiveRangeTable.{param_within, right_set, stay_set, taken_all, taken_more, taken_range, taken_same}
use Rattle.regalloc2_analysis.proofs.live_ranges.ranges.begin_at_params.Goals as goal
use Rattle.regalloc2_analysis.proofs.live_ranges.ranges.begin_at_params.Goals.{in-Some, in_default}

pub before-first-requires : goal.before-first-requires
before-first-requires g c valid =
    let f : FunctionValue = g.F.Function.function c.args.f.now in
    let first : c.first.result ≡ (block_at f c.args.block).range.first = c.first.ensures ∙ ap (λ (r : Span). r.first) c.block_insns.ensures in
    let some = (c.requires.ssa.follow c.args.block c.requires.block).0 in
    let within = ends_within f c.requires.ssa.follow c.args.block c.requires.block in
    let limit = (g.met.F.Function.limited c.args.f.now).insts in
    omega (arith, first, some, within, limit)

pub loop-param-preserved : goal.loop-param-preserved
loop-param-preserved g c =
    let f : FunctionValue = g.F.Function.function c.args.f.now in
    let W : ℕ → Type 0 = IsWanted c.args.wanted.now in
    let indexes : List ℕ = c.args.indexes.now in
    let old : List (Option LiveRange) = spread indexes c.loop-param.ranges in
    let vs : List VirtualRegister = c.block_params-param-items.result.now in
    let has = param_within f c.args.block vs c.loop-param.param-index c.param-item.result c.block_params-param-items.ensures c.loop-param-test.true
    c.param-item.is in
    let small = parameter_small f c.requires.ssa (length indexes) c.requires.room c.param-item.result c.args.block c.requires.block has in
    let now = spread_length indexes c.loop-param.ranges in
    let first : c.first.result ≡ (block_at f c.args.block).range.first = c.first.ensures ∙ ap (λ (r : Span). r.first) c.block_insns.ensures in
    let some = (c.requires.ssa.follow c.args.block c.requires.block).0 in
    let within = ends_within f c.requires.ssa.follow c.args.block c.requires.block in
    let limit = (g.met.F.Function.limited c.args.f.now).insts in
    let point : c.before-first.result ≡ before (block_at f c.args.block).range.first = c.before-first.ensures.point
    (λ e. absurd (omega (arith, first, some, within, limit, e))) ∙ ap before first in
    elim c.match-wanted_end.branch [
      | in-Some w ↦ (
          let entered : HasEntry indexes c.param-item.result.number (length c.loop-param.ranges) = subst (HasEntry indexes c.param-item.result.number)
          (sym c.loop-param.auto.ranges)
          (c.requires.indexes.theirs c.param-item.result.number small w.in-Some.ensures.some.0) in
          let room : w.vreg.result < length old = let lt = entered.0 in omega (arith, w.vreg.ensures.number, lt, now) in
          let set_is = w.set_entry.ensures.here (subst (λ (n : ℕ). HasEntry indexes n (length c.loop-param.ranges)) (sym w.vreg.ensures.number) entered) in
          let range = taken_range f c.requires.ssa W (spread indexes c.args.ends.now) c.args.block c.param-item.result c.before-first.result w.in-Some.end
          c.requires.block
          has (record { room = subst (CoversDefinitions f) (sym (spread_length c.args.indexes.now c.args.ends.now)) c.requires.room; noted = c.requires.ends })
          w.in-Some.ensures.some.0 point w.in-Some.ensures.some.1 in
          rw (w.ranges-is, set_is) (record {
            right = right_set f old w.vreg.result _ room (sym w.vreg.ensures.number) range c.loop-param.invariant.right;
            stay = λ n some. stay_set old w.vreg.result _ room n (c.loop-param.invariant.stay n some);
            so_far = taken_more W vs c.loop-param.param-index w.vreg.result (spread indexes c.args.ends.now) old c.param-item.result _
                c.loop-param-test.true c.param-item.is w.vreg.ensures.number room c.loop-param.invariant.so_far;
          }))
      | in_default w ↦ rw w.ranges-is (record {
        right = c.loop-param.invariant.right;
        stay = c.loop-param.invariant.stay;
        so_far = taken_same W vs c.loop-param.param-index (spread indexes c.args.ends.now) old c.param-item.result c.loop-param-test.true c.param-item.is
            w.in_default.ensures.none c.loop-param.invariant.so_far;
      })
    ]

pub returns-clause-taken : goal.returns-clause-taken
returns-clause-taken g c =
    let f : FunctionValue = g.F.Function.function c.args.f.now in
    taken_all f c.requires.ssa (IsWanted c.args.wanted.now) c.args.block c.block_params-param-items.result.now c.loop-param.param-index
    (spread c.args.indexes.now c.args.ends.now) (spread c.args.indexes.now c.loop-param.ranges)
    (record { block = c.requires.block; same = c.block_params-param-items.ensures; all = c.loop-param-test.false })
    (record { room = subst (CoversDefinitions f) (sym (spread_length c.args.indexes.now c.args.ends.now)) c.requires.room; noted = c.requires.ends })
    c.loop-param.invariant.so_far

pub block_insns-requires : goal.block_insns-requires
block_insns-requires g c = c.requires.block

pub first-requires : goal.first-requires
first-requires g c =
    subst (λ (r : Span). r.first < r.end) (sym c.block_insns.ensures) (c.requires.ssa.follow c.args.block c.requires.block).0

pub block_params-param-items-requires : goal.block_params-param-items-requires
block_params-param-items-requires g c = c.requires.block

pub loop-param-init : goal.loop-param-init
loop-param-init g c = record { right = c.requires.right; stay = λ n some. some; so_far = λ k lt. absurd (omega (arith, lt)) }

pub bounds-param-items-param-index : goal.bounds-param-items-param-index
bounds-param-items-param-index g c = c.loop-param-test.true

pub set_entry-requires : goal.set_entry-requires
set_entry-requires g c =
    subst (λ (n : ℕ). IsApart c.args.indexes.now n) (sym c.loop-param.auto.ranges) c.requires.indexes.apart

pub returns-clause-right : goal.returns-clause-right
returns-clause-right g c = c.loop-param.invariant.right

pub returns-clause-stay : goal.returns-clause-stay
returns-clause-stay g c = c.loop-param.invariant.stay
