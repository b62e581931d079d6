use Rattle.std.proofs.Common.{ℕ, ◌≡◌, ◌+◌, ◌<◌, ◌∙◌, List, Option, false, length, slice_index_or, sym, ap, subst, arith}
use Rattle.std.proofs.lemmas.Bool.{and_parts}
use Rattle.regalloc2_names.specs.Operand.{is_def}
use Rattle.regalloc2_names.specs.Register.{VirtualRegister}
use Rattle.regalloc2_names.specs.Place.{before, after}
use Rattle.regalloc2_function.specs.FunctionValue.{FunctionValue}
use Rattle.regalloc2_function.specs.Inside.TableLength.{CoversDefinitions}
use Rattle.regalloc2_analysis.specs.declared.live_ranges.LiveRange.{LiveRange}
use Rattle.regalloc2_analysis.specs.LiveRanges.LiveRanges.{IsDefiner, IsWanted}
use Rattle.regalloc2_analysis.specs.LiveRanges.Entries.{HasEntry, IsApart, spread}
use Rattle.regalloc2_analysis.proofs.LiveRangesLemmas.Spread.{spread_length}
use Rattle.regalloc2_analysis.proofs.LiveRangesLemmas.UsesInSSA.{definer_small, item_defines}
use Rattle.regalloc2_analysis.proofs.LiveRangesLemmas.UsesNoted.{both_not}
use Rattle.regalloc2_analysis.proofs.LiveRangesLemmas.LiveRangeTable.{begun_all, begun_more, begun_same, defined_range, right_set, stay_set}
use Rattle.regalloc2_analysis.proofs.live_ranges.ranges.begin_at_defs.Goals as goal
use Rattle.regalloc2_analysis.proofs.live_ranges.ranges.begin_at_defs.Goals.{then-defines_wanted, else-defines_wanted}

pub loop-index-preserved : goal.loop-index-preserved
loop-index-preserved g c =
    let f : FunctionValue = g.F.Function.function c.args.f.now in
    let W : ℕ → Type 0 = IsWanted c.args.wanted.now in
    let indexes : List ℕ = c.args.indexes.now in
    let old : List (Option LiveRange) = spread indexes c.loop-index.ranges in
    let i : ℕ = c.args.inst in
    let k : ℕ = c.loop-index.index in
    let v : VirtualRegister = c.operand-item.result.vreg in
    elim c.if-defines_wanted.branch [
      | then-defines_wanted w ↦ (
          let two = and_parts (is_def c.operand-item.result.kind) (slice_index_or c.args.wanted.now v.number false)
          (sym c.defines_wanted.ensures ∙ w.if-defines_wanted.true) in
          let d : IsDefiner f v (record { inst = i; index = k }) = item_defines f i k c.inst_operands-operand-items.result.now c.operand-item.result
          c.requires.inst c.inst_operands-operand-items.ensures c.loop-index-test.true c.operand-item.is two.0 in
          let small = definer_small f c.requires.ssa (length indexes) c.requires.room v (record { inst = i; index = k }) d in
          let now = spread_length indexes c.loop-index.ranges in
          let has : HasEntry indexes v.number (length c.loop-index.ranges) = subst (HasEntry indexes v.number) (sym c.loop-index.auto.ranges)
          (c.requires.indexes.theirs v.number small two.1) in
          let limit = (g.met.F.Function.limited c.args.f.now).insts in
          let lt = c.requires.inst in
          let one : w.vreg.result ≡ v.number = w.vreg.ensures.number ∙ ap (λ (u : VirtualRegister). u.number) w.vreg-vreg.ensures in
          let number : w.vreg-then-defines_wanted.result ≡ v.number = w.vreg-then-defines_wanted.ensures.number
          ∙ ap (λ (u : VirtualRegister). u.number) w.vreg-vreg.ensures in
          let room : w.vreg-then-defines_wanted.result < length old = let lt = has.0 in omega (arith, number, lt, now) in
          let set_is = w.set_entry.ensures.here (subst (λ (n : ℕ). HasEntry indexes n (length c.loop-index.ranges)) (sym number) has) in
          let first : w.after.result ≡ after i = w.after.ensures.point (λ e. absurd (omega (arith, lt, limit, e))) in
          let last : w.before-then-defines_wanted.result ≡ before (i + 1) = w.before-then-defines_wanted.ensures.point
          (λ e. absurd (omega (arith, lt, limit, e, w.next.ensures))) ∙ ap before w.next.ensures in
          let range = defined_range f c.requires.ssa W (spread indexes c.args.ends.now) i k v w.vreg-vreg.result {n = w.vreg.result} {p = w.after.result}
          {q = w.before-then-defines_wanted.result} w.entry.result w.end_of_defined-end.result d
          (record { room = subst (CoversDefinitions f) (sym (spread_length indexes c.args.ends.now)) c.requires.room; noted = c.requires.ends }) two.1
          (record { number = one; entry = w.entry.ensures })
          (record { same = w.vreg-vreg.ensures; first = first; point = last; end = w.end_of_defined-end.ensures }) in
          rw (w.ranges-is, set_is) (record {
            right = right_set f old w.vreg-then-defines_wanted.result _ room (sym w.vreg-then-defines_wanted.ensures.number) range
                c.loop-index.invariant.right;
            stay = λ n some. stay_set old w.vreg-then-defines_wanted.result _ room n (c.loop-index.invariant.stay n some);
            so_far = begun_more W c.inst_operands-operand-items.result.now k w.vreg-then-defines_wanted.result old c.operand-item.result _
                c.loop-index-test.true c.operand-item.is number room c.loop-index.invariant.so_far;
          }))
      | else-defines_wanted w ↦ rw w.ranges-is (record {
        right = c.loop-index.invariant.right;
        stay = c.loop-index.invariant.stay;
        so_far = begun_same W c.inst_operands-operand-items.result.now k old c.operand-item.result c.loop-index-test.true c.operand-item.is
            (λ def asked. both_not (is_def c.operand-item.result.kind) (slice_index_or c.args.wanted.now v.number false)
            (sym c.defines_wanted.ensures ∙ w.if-defines_wanted.false) def asked) c.loop-index.invariant.so_far;
      })
    ]

pub inst_operands-operand-items-requires : goal.inst_operands-operand-items-requires
inst_operands-operand-items-requires g c = c.requires.inst

pub loop-index-init : goal.loop-index-init
loop-index-init g c = record { right = c.requires.right; stay = λ n some. some; so_far = λ k lt. absurd (omega (arith, lt)) }

pub bounds-operand-items-index : goal.bounds-operand-items-index
bounds-operand-items-index g c = c.loop-index-test.true

pub next-requires : goal.next-requires
next-requires g c = λ e. let limit = (g.met.F.Function.limited c.args.f.now).insts in omega (arith, e, c.requires.inst, limit)

pub before-requires : goal.before-requires
before-requires g c = λ valid. let limit = (g.met.F.Function.limited c.args.f.now).insts in omega (arith, c.requires.inst, limit, c.next.ensures)

pub after-requires : goal.after-requires
after-requires g c = λ valid. let limit = (g.met.F.Function.limited c.args.f.now).insts in omega (arith, c.requires.inst, limit)

pub end_of_defined-end-requires : goal.end_of_defined-end-requires
end_of_defined-end-requires g c = let limit = (g.met.F.Function.limited c.args.f.now).insts in omega (arith, c.requires.inst, limit)

pub set_entry-requires : goal.set_entry-requires
set_entry-requires g c =
    subst (λ (n : ℕ). IsApart c.args.indexes.now n) (sym c.loop-index.auto.ranges) c.requires.indexes.apart

pub returns-clause-right : goal.returns-clause-right
returns-clause-right g c = c.loop-index.invariant.right

pub returns-clause-stay : goal.returns-clause-stay
returns-clause-stay g c = c.loop-index.invariant.stay

pub returns-clause-defined : goal.returns-clause-defined
returns-clause-defined g c =
    begun_all (g.F.Function.function c.args.f.now) (IsWanted c.args.wanted.now) c.args.inst c.loop-index.index c.inst_operands-operand-items.result.now
    (spread c.args.indexes.now c.loop-index.ranges) c.inst_operands-operand-items.ensures c.loop-index-test.false c.loop-index.invariant.so_far
