use Rattle.std.proofs.Common.{ℕ, rules}
use Rattle.std.proofs.lemmas.List.Sorted.{IsNonDecreasingBy-from_sort_by_key, Contains-permutation, IsPermutation-sym, IsPermutation-trans}
use Rattle.regalloc2_checker.proofs.SweptSlots.{turned_rising, turned_falling}
use Rattle.regalloc2_checker.proofs.cells.turn.Goals as goal

pub returns-then-not-by_last-clause-turned : goal.returns-then-not-by_last-clause-turned
returns-then-not-by_last-clause-turned c =
    turned_falling c.args.by_last c.sort_unstable_by_key.new.self c.reverse.new.self c.if-not-by_last.true c.reverse.ensures.after c.reverse.ensures.len
    (IsNonDecreasingBy-from_sort_by_key (λ (s : ℕ × ℕ). s.0) _ c.sort_unstable_by_key.ensures.sorted (λ a r q k. search rules))

pub returns-then-not-by_last-clause-members : goal.returns-then-not-by_last-clause-members
returns-then-not-by_last-clause-members c =
    let p = IsPermutation-trans c.args.named.now c.sort_unstable_by_key.new.self c.reverse.new.self c.sort_unstable_by_key.ensures.permutation
    c.reverse.ensures.permutation in
    λ s. (
      Contains-permutation c.args.named.now c.reverse.new.self s p,
      Contains-permutation c.reverse.new.self c.args.named.now s (IsPermutation-sym c.args.named.now c.reverse.new.self p),
    )

pub returns-else-not-by_last-clause-turned : goal.returns-else-not-by_last-clause-turned
returns-else-not-by_last-clause-turned c =
    turned_rising c.args.by_last c.sort_unstable_by_key.new.self c.if-not-by_last.false
    (IsNonDecreasingBy-from_sort_by_key (λ (s : ℕ × ℕ). s.0) _ c.sort_unstable_by_key.ensures.sorted (λ a r q k. search rules))

pub returns-else-not-by_last-clause-members : goal.returns-else-not-by_last-clause-members
returns-else-not-by_last-clause-members c =
    let p = c.sort_unstable_by_key.ensures.permutation in
    λ s. (
      Contains-permutation c.args.named.now c.sort_unstable_by_key.new.self s p,
      Contains-permutation c.sort_unstable_by_key.new.self c.args.named.now s (IsPermutation-sym c.args.named.now c.sort_unstable_by_key.new.self p),
    )
