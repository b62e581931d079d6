use Rattle.std.proofs.Common.{ℕ, List, nat_lt, ap, ◌∙◌}
use Rattle.std.specs.Prelude.{◌&&◌, ◌||◌}
use Rattle.regalloc2_function.specs.Numbers.{NumberSet, has_number}
use Rattle.regalloc2_checker.specs.Holding.{is_in}
use Rattle.regalloc2_checker_sets.specs.Held.{held}
use Rattle.regalloc2_checker.proofs.Holders.{holders-all, holders-few}
use Rattle.regalloc2_checker.proofs.tables.holders_among.Goals as goal

pub returns-in_default : goal.returns-in_default
returns-in_default g c =
    holders-few (is_in c.new-holders.result.items) (is_in c.list_few.new.holders.items) c.args.home.now c.args.bound
    (λ i. held c.args.sets.now c.args.entries.now i c.args.bits) (λ i. ap (λ (l : List ℕ). is_in l i) c.new-holders.ensures.items)
    c.in_default.ensures.none c.in_ok-list_few.ensures

pub returns : goal.returns
returns g c =
    holders-all (is_in c.new-holders.result.items) (is_in c.list_few.new.holders.items) (is_in c.list_members.new.holders.items) c.args.home.now c.args.bound
    (λ i. held c.args.sets.now c.args.entries.now i c.args.bits) (λ i. ap (λ (l : List ℕ). is_in l i) c.new-holders.ensures.items) c.in_ok-list_few.ensures
    (λ i. c.in_ok-list_members.ensures i
    ∙ ap (λ (s : NumberSet). is_in c.list_few.new.holders.items i
    || (has_number s i && (nat_lt i c.args.bound && held c.args.sets.now c.args.entries.now i c.args.bits))) c.in-Some.ensures.some)
