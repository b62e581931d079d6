use Rattle.std.proofs.Common.{◌≡◌, ◌-◌, ℕ, map, rules, of_calls, nat_lt, arith}
use Rattle.std.proofs.lemmas.Fn.{always_returns_same}
use Rattle.std.proofs.lemmas.List.Sorted.{IsPartitionedBy-ltb}
use Rattle.regalloc2_names.specs.Place.{before}
use Rattle.regalloc2_function.specs.Views.{edit_of, output_of}
use Rattle.regalloc2_function.proofs.ListingLaws.{sorted_items, listing_of_items, listed_within}
use Rattle.regalloc2_function.proofs.listing.Output.block_insts_and_edits.Goals as goal

pub returns-clause-items : goal.returns-clause-items
returns-clause-items g c =
    let o = output_of c.args.self.now in
    let range = c.block_insns-inst_range.result in
    let t : ℕ = c.number_before-first.result in
    let sorted = sorted_items c.args.self.now.edits.items c.requires.in_order.points_never_fall in
    let same = c.as_slice-edits.ensures.value in
    let point = c.partition_point-begin.ensures.partitioned (λ e. nat_lt e.0 t) (always_returns_same _ _ _ (λ a r f k. search (rules, of_calls)))
    (rw same (IsPartitionedBy-ltb (λ e. e.0) c.args.self.now.edits.items t sorted)) in
    let seen : o.edits ≡ map edit_of c.as_slice-edits.result.now = rw same in
    let at_first : t ≡ before range.first = rw c.first.ensures at c.number_before-first.ensures in
    rw (← c.block_insns-inst_range.ensures) (listing_of_items o c.as_slice-edits.result.now range.first (range.end - range.first) c.partition_point-begin.result
    t seen c.requires.in_order.points_never_fall at_first c.partition_point-begin.ensures.bound point)

pub returns-clause-within : goal.returns-clause-within
returns-clause-within g c =
    rw (returns-clause-items g c) (listed_within (output_of c.args.self.now) _ _ _ _ _ (omega arith) (omega arith))
