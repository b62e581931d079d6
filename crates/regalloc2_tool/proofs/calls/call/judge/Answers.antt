use Rattle.std.proofs.Common.{ℕ, ◌≡◌, ◌∙◌, Bool, true, false, List, [], ◌∷◌, Result, Ok, Err, length, nat_eq, eqb-true, refl, sym, arith}
use Rattle.std.proofs.lemmas.Bool.{false≢true}
use Rattle.std.specs.Prelude.{IfOk}
use Rattle.regalloc2_tool.proofs.calls.call.judge.Goals as goal

-- a list without members is empty
no_errors : {X : Type 0} (xs : List X) (n : ℕ) → length xs ≡ n → nat_eq n 0 ≡ true → xs ≡ []
no_errors [] n l e = refl
no_errors (x ∷ xs) n l e = absurd (let z : n ≡ 0 = eqb-true n 0 e in omega arith)

-- what holds anyway holds where all is accepted
with_verdict : {E A B : Type 0} (C : Type 0) (r : Result Bool E) → A → B → IfOk r (λ b. b ≡ true → C) → IfOk r (λ b. b ≡ true → A × B × C)
with_verdict C (Ok b) order faithful h = λ e. (order, faithful, h e)
with_verdict C (Err x) order faithful h = tt

-- what isn't accepted owes nothing
unaccepted : {E : Type 0} (A : Type 0) (r : Result Bool E) → IfOk r (λ b. b ≡ false) → IfOk r (λ b. b ≡ true → A)
unaccepted A (Ok b) h = λ e. absurd (false≢true (sym h ∙ e))
unaccepted A (Err x) h = tt

pub returns-then-is_empty : goal.returns-then-is_empty
returns-then-is_empty g c =
    let none = no_errors c.in-Ok.errors.items _ (sym c.in-Ok.errors.ok.0) (sym c.is_empty.ensures ∙ c.if-is_empty.true) in
    record { accepted = with_verdict _ c.judge_cells.result c.in-Ok.ensures.order (c.in-Ok.ensures.verdict.0 none) c.judge_cells.ensures.cells }

pub returns-else-is_empty : goal.returns-else-is_empty
returns-else-is_empty g c = record { accepted = unaccepted _ c.write_findings.result c.write_findings.ensures }

pub returns-in-Err : goal.returns-in-Err
returns-in-Err g c = record { accepted = unaccepted _ c.write_findings-in-Err.result c.write_findings-in-Err.ensures }
