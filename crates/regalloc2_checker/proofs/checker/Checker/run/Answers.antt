use Rattle.std.proofs.Common.{◌≡◌, ◌∙◌, ap, sym, arith, eqb-true, eq-eqb, inl, inr, refl, length, None, Some, [], ◌∷◌, List}
use Rattle.std.specs.Vec.{vec_len}
use Rattle.std.proofs.lemmas.List.{nil_from_length}
use Rattle.std.specs.Prelude.{Option, ◌⊎◌}
use Rattle.std.specs.Option.{option_map}
use Rattle.std.proofs.lemmas.Bool.{false≢true}
use Rattle.regalloc2_function.specs.FunctionValue.{FunctionValue}
use Rattle.regalloc2_function.specs.Machine.{MachineValue}
use Rattle.regalloc2_function.specs.OutputValue.{OutputValue}
use Rattle.regalloc2_function.specs.Views.{machine_of, output_of}
use Rattle.regalloc2_function.specs.WellFormed.{IsFramed}
use Rattle.regalloc2_semantics.specs.Faithful.{IsFaithful}
use Rattle.regalloc2_checker.specs.Report.{IsReport}
use Rattle.regalloc2_checker.specs.declared.errors.CheckerError.{CheckerError}
use Rattle.regalloc2_checker.proofs.NoErrorsIsFaithful.{report_verdict}
use Rattle.regalloc2_checker.proofs.checker.Checker.run.Goals as goal

-- a list of one error isn't empty
some : {X : Type 0} (x : X) (xs : List X) → xs ≡ x ∷ [] → xs ≡ [] → ⊥
some x [] e none = absurd cc
some x (y ∷ ys) e none = absurd cc

-- where no errors were found, an output was prepared, which is faithful
accepted : {A : Type 0} (f : FunctionValue) (env : MachineValue) (p : Option OutputValue) (es : List (CheckerError A)) → IsFramed f →
    (p ≡ None → es ≡ CheckerError.MalformedOutput ∷ []) → ((o : OutputValue) → p ≡ Some o → (es ≡ CheckerError.Memory ∷ []) ⊎ IsReport f env o es) →
    es ≡ [] → (o : OutputValue) × (p ≡ Some o) × IsFaithful f env o
accepted f env None es ok unprepared found none = absurd (some _ es (unprepared refl) none)
accepted f env (Some o) es ok unprepared found none = (o, refl, faithful (found o refl))
  where
    faithful : (es ≡ CheckerError.Memory ∷ []) ⊎ IsReport f env o es → IsFaithful f env o
    faithful (inl e) = absurd (some _ es e none)
    faithful (inr r) = (report_verdict f env o es ok r).0 none

-- where some were found of an output that was prepared, it isn't faithful, and these are its report
refused : {A : Type 0} (f : FunctionValue) (env : MachineValue) (o : OutputValue) (es : List (CheckerError A)) → IsFramed f → (es ≡ [] → ⊥) →
    (es ≡ CheckerError.Memory ∷ []) ⊎ IsReport f env o es → (es ≡ CheckerError.Memory ∷ []) ⊎ ((IsFaithful f env o → ⊥) × IsReport f env o es)
refused f env o es ok any (inl e) = inl e
refused f env o es ok any (inr r) = inr (λ h. any ((report_verdict f env o es ok r).1 h), r)

pub returns-then-is_empty-clause-accepted : goal.returns-then-is_empty-clause-accepted
returns-then-is_empty-clause-accepted g c =
    let none : vec_len c.found-errors.result ≡ 0 = eqb-true _ _ (sym c.is_empty.ensures ∙ c.if-is_empty.true) in
    accepted (g.F.Function.function c.args.self.f.now) (machine_of c.args.self.env.now) (option_map output_of c.args.self.prepared) c.found-errors.result.items
    c.args.self.framed c.found-errors.ensures.unprepared c.found-errors.ensures.prepared (nil_from_length c.found-errors.result.items (omega (arith, none, c.found-errors.result.ok.0)))

pub returns-clause-refused : goal.returns-clause-refused
returns-clause-refused g c = λ o e. rw c.of.ensures
    (refused (g.F.Function.function c.args.self.f.now) (machine_of c.args.self.env.now) o c.found-errors.result.items c.args.self.framed
    (λ h. let long : length c.found-errors.result.items ≡ 0 = ap (λ (xs : List _). length xs) h in
    absurd (false≢true (sym c.if-is_empty.false ∙ c.is_empty.ensures ∙ eq-eqb (vec_len c.found-errors.result) 0 (omega (arith, long, c.found-errors.result.ok.0)))))
    (c.found-errors.ensures.prepared o e))
