use Rattle.std.proofs.Common.{ℕ, ◌≡◌, ◌<◌, ◌≤◌, List, length, get_or, ap, sym, ◌∙◌, subst, refl, arith}
use Rattle.std.specs.Prelude.{◌==◌, MatchResult, Result}
use Rattle.std.proofs.Common.{inl, inr}
use Rattle.std.proofs.lemmas.Bool.{cases_lt}
use Rattle.std.specs.List.{position}
use Rattle.std.specs.List.Sorted.{IsStrictlyIncreasing}
use Rattle.std.proofs.lemmas.List.Sorted.{searched}
use Rattle.regalloc2_checker_sets.proofs.Bits.{read-is}
use Rattle.regalloc2_checker_sets.proofs.Listed.{found-is, found-none, not-falling}
use Rattle.regalloc2_checker_sets.proofs.positions.Positions.find.Goals as goal

pub returns-then-index-number : goal.returns-then-index-number
returns-then-index-number g c =
    let less : c.args.guess < length c.self.inside.numbers.items = omega (arith, c.if-guess-len.true, c.len.ensures, c.self.inside.numbers.ok.0) in
    found-is c.self.inside.numbers.items c.args.number c.args.guess c.self.invariant less
    (sym (read-is c.self.inside.numbers.items c.self.inside.numbers.items c.args.guess c.index.result.now 0 refl less c.index.ensures) ∙ c.if-index-number.true)
    ∙ ap (λ (l : List ℕ). position (λ n. n == c.args.number) l) c.self.view_is

pub returns-in-Ok : goal.returns-in-Ok
returns-in-Ok g c =
    let rises : IsStrictlyIncreasing c.deref.result.now = subst IsStrictlyIncreasing (sym c.deref.ensures.value) c.self.invariant in
    let s = searched c.deref.result.now c.args.number c.binary_search.result c.binary_search.ensures.position
    (λ i j l k. not-falling c.deref.result.now rises i j l k) in
    let here = subst (λ (r : Result ℕ ℕ). MatchResult r (λ i. (i < length c.deref.result.now) × (get_or c.deref.result.now i 0 ≡ c.args.number))
    (λ i. (i ≤ length c.deref.result.now) × ((k : ℕ) → k < i → get_or c.deref.result.now k 0 < c.args.number)
    × ((k : ℕ) → i ≤ k → k < length c.deref.result.now → c.args.number < get_or c.deref.result.now k 0))) c.in-Ok.is s in
    found-is c.deref.result.now c.args.number c.in-Ok.found rises here.0 here.1
    ∙ ap (λ (l : List ℕ). position (λ n. n == c.args.number) l) (c.deref.ensures.value ∙ c.self.view_is)

pub returns-in-Err : goal.returns-in-Err
returns-in-Err g c =
    let rises : IsStrictlyIncreasing c.deref.result.now = subst IsStrictlyIncreasing (sym c.deref.ensures.value) c.self.invariant in
    let s = searched c.deref.result.now c.args.number c.binary_search.result c.binary_search.ensures.position
    (λ i j l k. not-falling c.deref.result.now rises i j l k) in
    let here = subst (λ (r : Result ℕ ℕ). MatchResult r (λ i. (i < length c.deref.result.now) × (get_or c.deref.result.now i 0 ≡ c.args.number))
    (λ i. (i ≤ length c.deref.result.now) × ((k : ℕ) → k < i → get_or c.deref.result.now k 0 < c.args.number)
    × ((k : ℕ) → i ≤ k → k < length c.deref.result.now → c.args.number < get_or c.deref.result.now k 0))) c.in-Err.is s in
    found-none c.deref.result.now c.args.number
    (λ k less e. elim (cases_lt k c.in-Err.field-0) [
      | inl l ↦ (let a = here.1 k l in absurd (omega arith))
      | inr l ↦ (let a = here.2 k l less in absurd (omega arith))
    ])
    ∙ ap (λ (l : List ℕ). position (λ n. n == c.args.number) l) (c.deref.ensures.value ∙ c.self.view_is)
