use Rattle.std.proofs.Common.{ℕ, List, nat_lt, ap, ◌∙◌}
use Rattle.std.specs.Prelude.{◌&&◌}
use Rattle.regalloc2_function.specs.Numbers.{times_listed}
use Rattle.regalloc2_checker.specs.Holding.{is_in}
use Rattle.regalloc2_checker_sets.specs.Held.{held}
use Rattle.regalloc2_checker_sets.proofs.Walked.{walked-on}
use Rattle.regalloc2_checker.proofs.Holders.{holders-none, holders-more}
use Rattle.regalloc2_checker.proofs.tables.list_members.Goals as goal

pub loop-place-init : goal.loop-place-init
loop-place-init g c = record {
  all = λ i. ap (λ (l : List ℕ). times_listed l i) c.into_iter-place-iterator.ensures.into_iter_gives ∙ c.iter-place-items.ensures i;
  holders = holders-none (is_in c.args.holders.now.items) (λ i. nat_lt i c.args.bound && held c.args.sets.now c.args.entries.now i c.args.bits);
}

pub loop-place-preserved : goal.loop-place-preserved
loop-place-preserved g c = record {
  all = walked-on c.args.places.now c.loop-place.yielded c.loop-place.place-iterator c.next.new.self c.in-Some.place c.loop-place.invariant.all
      c.in-Some.ensures.steps;
  holders = holders-more (is_in c.args.holders.now.items) (is_in c.loop-place.holders.items) (is_in c.list_holder.new.holders.items)
      (λ i. nat_lt i c.args.bound && held c.args.sets.now c.args.entries.now i c.args.bits) c.loop-place.yielded c.in-Some.place
      c.loop-place.invariant.holders c.in_ok-list_holder.ensures;
}
