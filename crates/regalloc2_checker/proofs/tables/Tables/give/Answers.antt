use Rattle.std.specs.Prelude.{if◌then◌else◌}
use Rattle.std.proofs.lemmas.List.{take_all}
use Rattle.std.proofs.Common.{◌∙◌, nat_eq, arith, ℕ, ◌<◌, List, length, get_or, ap, sym, refl, subst}
use Rattle.regalloc2_checker.specs.Holding.{holds_now, is_in}
use Rattle.regalloc2_checker.proofs.TableLaws.{kept_then, give-none, give-more, is_in-at}
use Rattle.regalloc2_checker.proofs.tables.Tables.give.Goals as goal

pub loop-place-init : goal.loop-place-init
loop-place-init g c = record {
  kept = c.in_ok-forget.ensures.kept;
  now = give-none c.forget.new.self (holds_now c.args.self.now) (get_or c.args.self.now.vregs c.args.vreg 0) c.in_ok-forget.ensures.now;
}

pub add_at-requires-clause-place : goal.add_at-requires-clause-place
add_at-requires-clause-place g c =
    subst (λ (ps : List ℕ). get_or c.args.places.now c.loop-place.place-index 0 < length ps) (sym c.loop-place.invariant.kept.places)
    (c.requires.places (get_or c.args.places.now c.loop-place.place-index 0) (is_in-at c.args.places.now c.loop-place.place-index c.loop-place-test.true))

pub add_at-requires-clause-vreg : goal.add_at-requires-clause-vreg
add_at-requires-clause-vreg g c = subst (λ (ps : List ℕ). c.args.vreg < length ps) (sym c.loop-place.invariant.kept.vregs) c.requires.vreg

pub loop-place-preserved : goal.loop-place-preserved
loop-place-preserved g c = record {
  kept = kept_then c.args.self.now c.loop-place.self c.add_at.new.self c.loop-place.invariant.kept c.in_ok-add_at.ensures.kept;
  now = give-more c.loop-place.self c.add_at.new.self (holds_now c.args.self.now) (get_or c.args.self.now.vregs c.args.vreg 0)
      (get_or c.loop-place.self.vregs c.args.vreg 0) c.loop-place.place-index _ c.args.places.now c.loop-place-test.true refl
      (ap (λ (vs : List ℕ). get_or vs c.args.vreg 0) c.loop-place.invariant.kept.vregs) c.in_ok-add_at.ensures.kept c.loop-place.invariant.now
      c.in_ok-add_at.ensures.now;
}

pub returns-in_err-add_at-clause-kept : goal.returns-in_err-add_at-clause-kept
returns-in_err-add_at-clause-kept g c =
    kept_then c.args.self.now c.loop-place.self c.add_at.new.self c.loop-place.invariant.kept c.in_err-add_at.ensures.kept

pub returns-in_err-forget-clause-kept : goal.returns-in_err-forget-clause-kept
returns-in_err-forget-clause-kept g c = c.in_err-forget.ensures.kept

pub forget-requires : goal.forget-requires
forget-requires g c = c.requires.vreg

pub returns-clause-kept : goal.returns-clause-kept
returns-clause-kept g c = c.loop-place.invariant.kept

pub returns-clause-now : goal.returns-clause-now
returns-clause-now g c i y less = c.loop-place.invariant.now i y less
    ∙ ap (λ (l : List ℕ). if nat_eq y (get_or c.args.self.now.vregs c.args.vreg 0) then is_in l i else holds_now c.args.self.now i y)
    (take_all c.loop-place.place-index c.args.places.now (omega (arith, c.loop-place-test.false)))
