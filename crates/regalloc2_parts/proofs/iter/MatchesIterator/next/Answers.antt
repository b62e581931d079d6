use Rattle.std.proofs.Common.{ℕ, ◌≡◌, ◌∙◌, Bool, false, List, refl, sym, arith, ap, subst, length, get_or, inl, inr}
use Rattle.std.proofs.lemmas.List.{get_or_default}
use Rattle.regalloc2_index.proofs.Numbers.{below_or_last}
use Rattle.regalloc2_names.specs.Operand.{OperandValue}
use Rattle.regalloc2_parts.proofs.iter.MatchesIterator.next.Goals as goal

pub loop-self-init : goal.loop-self-init
loop-self-init g c = (refl, refl, omega arith, λ k d low high. absurd (omega (arith, low, high)), c.requires)

pub returns-clause-steps : goal.returns-clause-steps
returns-clause-steps g c =
    let inv = c.loop-self.invariant in
    let same = ap length inv.0 in (
      inv.0,
      inv.1,
      (λ k d low high. inv.3 k d low (omega (arith, high, same, c.loop-self-test.false)), omega (arith, same, c.loop-self-test.false)),
    )

-- one more operand was passed over
pub loop-self-preserved : goal.loop-self-preserved
loop-self-preserved g c =
    let inv = c.loop-self.invariant in
    let xs : List OperandValue = c.loop-self.self.operands.now in
    let from : ℕ = c.loop-self.self.from in
    let called : goal.F-post g c.loop-self.self.predicate (get_or xs from c.index-self-index.result) false =
    subst (λ (b : Bool). goal.F-post g c.loop-self.self.predicate (get_or xs from c.index-self-index.result) b) c.if-predicate.false c.predicate.ensures in (
      inv.0,
      inv.1,
      omega (arith, inv.2),
      λ k d low high. elim (below_or_last k from high) [
        | inl before ↦ inv.3 k d low before
        | inr last ↦
            let read : get_or xs from c.index-self-index.result ≡ get_or xs from d = get_or_default xs from c.index-self-index.result d c.loop-self-test.true in
            let there : get_or xs from c.index-self-index.result ≡ get_or c.args.self.now.operands.now k d = read ∙ ap (λ (n : ℕ). get_or xs n d) (sym last)
            ∙ ap (λ (os : List OperandValue). get_or os k d) inv.0 in
            subst (λ p. goal.F-post g p (get_or c.args.self.now.operands.now k d) false) inv.1
            (subst (λ (o : OperandValue). goal.F-post g c.loop-self.self.predicate o false) there called)
      ],
      inv.4,
    )
