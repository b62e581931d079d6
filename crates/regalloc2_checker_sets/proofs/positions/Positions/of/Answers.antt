use Rattle.std.proofs.Common.{ℕ, List, sym, subst}
use Rattle.std.specs.Prelude.{Contains}
use Rattle.std.specs.List.Sorted.{IsStrictlyIncreasing}
use Rattle.std.proofs.lemmas.Map.Keys.{IsStrictlyIncreasing-dedup}
use Rattle.std.proofs.lemmas.List.Kept.{Contains-dedup_nat, Contains-from_dedup}
use Rattle.std.proofs.lemmas.List.Sorted.{Contains-permutation, IsPermutation-sym}
use Rattle.std.proofs.lemmas.List.Filters.{dedup_is}
use Rattle.regalloc2_checker_sets.proofs.positions.Positions.of.Goals as goal

pub invariant_of-result : goal.invariant_of-result
invariant_of-result g c =
    let e = dedup_is _ c.sort_unstable.new.self.items c.dedup.new.self.items c.dedup.ensures.filtered in
    subst IsStrictlyIncreasing (sym e) (IsStrictlyIncreasing-dedup c.sort_unstable.new.self.items c.sort_unstable.ensures.sorted)

pub returns-clause-rising : goal.returns-clause-rising
returns-clause-rising g c =
    let e = dedup_is _ c.sort_unstable.new.self.items c.dedup.new.self.items c.dedup.ensures.filtered in
    subst IsStrictlyIncreasing (sym e) (IsStrictlyIncreasing-dedup c.sort_unstable.new.self.items c.sort_unstable.ensures.sorted)

pub returns-clause-members : goal.returns-clause-members
returns-clause-members g c n =
    let old : List ℕ = c.args.numbers.items in
    let sorted : List ℕ = c.sort_unstable.new.self.items in
    let e = dedup_is _ sorted c.dedup.new.self.items c.dedup.ensures.filtered in (
      λ h. Contains-permutation sorted old n (IsPermutation-sym old sorted c.sort_unstable.ensures.permutation)
          (Contains-from_dedup _ sorted n (subst (λ (l : List ℕ). Contains l n) e h)),
      λ h. subst (λ (l : List ℕ). Contains l n) (sym e)
          (Contains-dedup_nat sorted n (Contains-permutation old sorted n c.sort_unstable.ensures.permutation h)),
    )
