use Rattle.std.proofs.Common.{ℕ, List, nat_lt, ap, sym, ◌∙◌}
use Rattle.std.specs.Prelude.{◌&&◌}
use Rattle.std.proofs.Math.Bool.{and-false}
use Rattle.std.proofs.lemmas.Bool.{le-ltb, lt-ltb}
use Rattle.regalloc2_checker_sets.specs.EntrySets.{is_member}
use Rattle.regalloc2_checker.specs.Holding.{is_in}
use Rattle.regalloc2_checker_sets.specs.Held.{held}
use Rattle.regalloc2_checker.proofs.Holders.{holder-is, holder-not}
use Rattle.regalloc2_checker.proofs.tables.list_holder.Goals as goal

pub returns-then-place-bound : goal.returns-then-place-bound
returns-then-place-bound g c =
    holder-not (is_in c.args.holders.now.items) (λ i. nat_lt i c.args.bound && held c.args.sets.now c.args.entries.now i c.args.bits) c.args.place
    (ap (λ b. b && held c.args.sets.now c.args.entries.now c.args.place c.args.bits) (le-ltb c.args.place c.args.bound c.if-place-bound.true))

pub returns-then-not-has : goal.returns-then-not-has
returns-then-not-has g c =
    holder-not (is_in c.args.holders.now.items) (λ i. nat_lt i c.args.bound && held c.args.sets.now c.args.entries.now i c.args.bits) c.args.place
    (ap (λ b. nat_lt c.args.place c.args.bound && b)
    (ap (λ n. is_member c.args.sets.now n c.args.bits) (sym c.get.ensures) ∙ sym c.if-not-has.ensures) ∙ and-false (nat_lt c.args.place c.args.bound))

pub returns : goal.returns
returns g c i =
    ap (λ (l : List ℕ). is_in l i) c.in_ok-push.ensures.items
    ∙ holder-is c.args.holders.now.items (λ i. nat_lt i c.args.bound && held c.args.sets.now c.args.entries.now i c.args.bits) c.args.place
    (ap (λ b. b && held c.args.sets.now c.args.entries.now c.args.place c.args.bits) (lt-ltb c.args.place c.args.bound c.if-place-bound.false)
    ∙ ap (λ n. is_member c.args.sets.now n c.args.bits) (sym c.get.ensures) ∙ sym c.if-not-has.ensures) i
