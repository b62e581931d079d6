use Rattle.std.proofs.Common.{ℕ, List, length, arith, ap, ◌∙◌, false, nat_eq, nat_lt, refl, Bool, true, ◌≡◌}
use Rattle.regalloc2_function.specs.Numbers.{times_listed, has_number}
use Rattle.regalloc2_checker_sets.specs.Held.{held}
use Rattle.regalloc2_checker_sets.proofs.Walked.{walked-on, walked-all}
use Rattle.regalloc2_checker.proofs.Holders.{still-same, still-then, dropped-none, dropped-more}
use Rattle.std.specs.Prelude.{◌&&◌, if◌then◌else◌}
use Rattle.regalloc2_checker.proofs.tables.drop_members.Goals as goal

pub loop-place-init : goal.loop-place-init
loop-place-init g c = record {
  all = λ i. ap (λ (l : List ℕ). times_listed l i) c.into_iter-place-iterator.ensures.into_iter_gives ∙ c.iter-place-items.ensures i;
  still = still-same c.args.sets.now c.args.entries.now c.requires;
  dropped = λ i y l. dropped-none (held c.args.sets.now c.args.entries.now) c.args.bits i y;
}

pub loop-place-preserved : goal.loop-place-preserved
loop-place-preserved g c =
    let long = c.loop-place.invariant.still.long in
    record {
      all = walked-on c.args.places.now c.loop-place.yielded c.loop-place.place-iterator c.next.new.self c.in-Some.place c.loop-place.invariant.all
          c.in-Some.ensures.steps;
      still = still-then c.args.sets.now c.loop-place.sets c.drop_at.new.sets c.args.entries.now c.loop-place.entries c.drop_at.new.entries
          c.loop-place.invariant.still c.in_ok-drop_at.ensures.still;
      dropped = dropped-more (held c.args.sets.now c.args.entries.now) (held c.loop-place.sets c.loop-place.entries)
          (held c.drop_at.new.sets c.drop_at.new.entries)
          c.loop-place.yielded c.in-Some.place c.args.bits (length c.args.entries.now.cells) c.loop-place.invariant.dropped
          (λ i y l. c.in_ok-drop_at.ensures.ok i y (omega arith));
    }

pub drop_at-requires : goal.drop_at-requires
drop_at-requires g c = c.loop-place.invariant.still.below

pub returns-clause-still : goal.returns-clause-still
returns-clause-still g c = c.loop-place.invariant.still

pub returns-in_err-drop_at-clause-still : goal.returns-in_err-drop_at-clause-still
returns-in_err-drop_at-clause-still g c =
    still-then c.args.sets.now c.loop-place.sets c.drop_at.new.sets c.args.entries.now c.loop-place.entries c.drop_at.new.entries
    c.loop-place.invariant.still c.in_err-drop_at.ensures.still

-- one is above 0, and none is not
counted : (b : Bool) → nat_lt 0 (if b then 1 else 0) ≡ b
counted true = refl
counted false = refl

pub returns-clause-ok : goal.returns-clause-ok
returns-clause-ok g c i y less =
    c.loop-place.invariant.dropped i y less
    ∙ ap (λ b. if b && nat_eq y c.args.bits then false else held c.args.sets.now c.args.entries.now i y)
    (ap (nat_lt 0) (walked-all c.args.places.now c.loop-place.yielded c.loop-place.place-iterator i c.loop-place.invariant.all c.in-None.ensures.steps.0)
    ∙ counted (has_number c.args.places.now i))
