-- Chains of tests joined by `&&`.
use Rattle.std.proofs.Common.{◌≡◌, ◌∙◌, sym, Bool, false}
use Rattle.std.specs.Prelude.{IsTrue, ◌↔◌}
use Rattle.std.proofs.lemmas.Bool.{false≢true}

-- a chain whose first tests hold says what the last one says
pub both : {P Q : Type 0} (v b : Bool) → P → v ≡ b → (IsTrue b ↔ Q) → IsTrue v ↔ (P × Q)
both v b p is q = (λ h. (p, q.0 (sym is ∙ h)), λ pq. is ∙ q.1 pq.1)

-- a chain whose first tests fail, fails
pub neither : {P Q : Type 0} (v a : Bool) → (IsTrue a ↔ P) → a ≡ false → v ≡ a → IsTrue v ↔ (P × Q)
neither v a p unmet is = (λ h. absurd (false≢true (sym (is ∙ unmet) ∙ h)), λ pq. absurd (false≢true (sym unmet ∙ p.1 pq.0)))
