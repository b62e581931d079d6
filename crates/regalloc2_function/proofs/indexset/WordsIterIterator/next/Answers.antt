use Rattle.std.proofs.Common.{◌≡◌, ◌<◌, ◌++◌, List, [], ◌∷◌, length, sym, ap, ◌∙◌, arith}
use Rattle.regalloc2_function.proofs.indexset.WordsIterIterator.next.Goals as goal

-- a list without its first element
shorter : {X : Type 0} {xs ys : List X} {x : X} → xs ≡ x ∷ ys → length ys < length xs
shorter e = rw e (omega arith)

-- after a list that is empty come the second list's elements
both_empty : {X : Type 0} (few many : List X) → length few ≡ 0 → many ≡ [] → few ++ many ≡ []
both_empty [] many n e = e
both_empty (x ∷ xs) many n e = absurd (omega arith)

second_first : {X : Type 0} (few many rest : List X) (x : X) → length few ≡ 0 → many ≡ x ∷ rest → few ++ many ≡ x ∷ (few ++ rest)
second_first [] many rest x n e = e
second_first (y ∷ ys) many rest x n e = absurd (omega arith)

pub returns-in-Some-clause-steps : goal.returns-in-Some-clause-steps
returns-in-Some-clause-steps c = sym c.self.view_is ∙ ap (λ l. l ++ c.self.inside.many) c.in-Some.ensures.cases.0

pub returns-in-Some-clause-goes : goal.returns-in-Some-clause-goes
returns-in-Some-clause-goes c = record { on = λ _. (tt, tt, shorter (returns-in-Some-clause-steps c)); keeps = tt; rests = λ _. tt }

pub returns-in_err-key-clause-steps : goal.returns-in_err-key-clause-steps
returns-in_err-key-clause-steps c = rw c.from_residual.ensures (
  sym c.self.view_is ∙ both_empty c.self.inside.few.now c.self.inside.many c.in_default.ensures.cases c.in_err-key.ensures.steps.0,
  both_empty c.self.inside.few.now c.next.new.self c.in_default.ensures.cases c.in_err-key.ensures.steps.1,
)

pub returns-in_err-key-clause-goes : goal.returns-in_err-key-clause-goes
returns-in_err-key-clause-goes c = rw c.from_residual.ensures record { on = λ _. tt; keeps = tt; rests = λ _. tt }

pub returns-clause-steps : goal.returns-clause-steps
returns-clause-steps c = sym c.self.view_is ∙ second_first c.self.inside.few.now c.self.inside.many c.next.new.self (c.in_ok-key.key.now, c.in_ok-key.word.now)
    c.in_default.ensures.cases c.in_ok-key.ensures.steps

pub returns-clause-goes : goal.returns-clause-goes
returns-clause-goes c = record { on = λ _. (tt, tt, shorter (returns-clause-steps c)); keeps = tt; rests = λ _. tt }
