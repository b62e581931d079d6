-- The text of an output that isn't accepted.
use Rattle.std.proofs.Common.{◌≡◌, ◌<◌, ◌≤◌, ◌⊎◌, inl, inr, ℕ, ◌+◌, List, [], ◌∷◌, ◌++◌, length, take, Option, Some, Bool, true, false, Result, Ok, Err, sym}
use Rattle.std.proofs.Common.{subst, ap, ◌∙◌, slice_index_or}
use Rattle.std.specs.Prelude.{codes, IfOk}
use Rattle.std.specs.Io.KnownBytes.{Appends}
use Rattle.std.proofs.KnownBytes.{Appends-trans}
use Rattle.std.proofs.lemmas.Grind.{flat_map-append}
use Rattle.std.proofs.lemmas.List.{take_more, take_all}
use Rattle.regalloc2_function.specs.FunctionValue.{FunctionValue}
use Rattle.regalloc2_function.specs.Machine.{MachineValue}
use Rattle.regalloc2_function.specs.OutputValue.{OutputValue, IsInOrder}
use Rattle.regalloc2_semantics.specs.Faithful.{IsFaithful}
use Rattle.regalloc2_checker.specs.Report.{IsReport}
use Rattle.regalloc2_checker.specs.Text.{fault_text}
use Rattle.regalloc2_checker.specs.declared.errors.CheckerError.{CheckerError}
use Rattle.regalloc2_checker.specs.declared.errors.CheckerError.TheVariants.{MalformedOutput, Memory}
use Rattle.regalloc2_tool.specs.Ra2.Findings.{AreFindings, IsOutputJudged, findings_text, malformed, faults, memory}
use Rattle.regalloc2_tool.specs.Ra2.Text.{checked_line}

-- one more line
pub next_finding : {A : Type 0} (es : List (CheckerError A)) (i : ℕ) (e : CheckerError A) (old now new : Option (List ℕ)) → i < length es →
    e ≡ slice_index_or es i e → Appends old now (findings_text (take i es)) → Appends now new (findings_text (e ∷ [])) →
    Appends old new (findings_text (take (i + 1) es))
next_finding es i e old now new l h written more =
    let all : take (i + 1) es ≡ take i es ++ e ∷ [] = take_more es i e l ∙ ap (λ x. take i es ++ x ∷ []) (sym h) in
    subst (λ xs. Appends old new (findings_text xs)) (sym all)
    (subst (λ x. Appends old new x) (sym (flat_map-append (λ x. fault_text x ++ codes "\n") (take i es) (e ∷ []))) (Appends-trans old now new _ _ written more))

-- once the lines of the first i errors are written and there are no more errors, the text of all errors is written
pub no_more_findings : {A : Type 0} (es : List (CheckerError A)) (i : ℕ) (old new : Option (List ℕ)) → length es ≤ i → Appends old new (findings_text (take i es)) →
    Appends old new (findings_text es)
no_more_findings es i old new l written = subst (λ xs. Appends old new (findings_text xs)) (take_all i es l) written

-- a result, and the text written with it
abbrev pub Writes : {E : Type 0} → Result Bool E → Bool → Option (List ℕ) → Option (List ℕ) → List ℕ → Type 0
Writes r b old new text = IfOk r (λ a. (a ≡ b) × Appends old new text)

-- an output that isn't accepted, for these errors
unaccepted_judged : {A E : Type 0} (r : Result Bool E) (f : FunctionValue) (env : MachineValue) (out : OutputValue) (old new : Option (List ℕ))
    (es : List (CheckerError A)) → AreFindings f env out es →
    Writes r false old new (findings_text es) → IfOk r (IsOutputJudged A f env out (Appends old new))
unfolding IsOutputJudged
unaccepted_judged {A} (Ok b) f env out old new es h w = subst (λ a. IsOutputJudged A f env out (Appends old new) a) (sym w.0) (es, h, w.1)
unaccepted_judged (Err y) f env out old new es h w = tt

-- building the checker failed because memory ran out
pub checker_refused : {A E : Type 0} (r : Result Bool E) (f : FunctionValue) (env : MachineValue) (out : OutputValue) (old new : Option (List ℕ))
    (e : CheckerError A) → e ≡ Memory →
    Writes r false old new (findings_text (e ∷ [])) → IfOk r (IsOutputJudged A f env out (Appends old new))
checker_refused r f env out old new e h w = unaccepted_judged r f env out old new (e ∷ []) (subst (λ x. AreFindings f env out (x ∷ [])) (sym h) memory) w

-- the checker rejected the output as not well-ordered, or memory ran out
pub output_refused : {A E : Type 0} (r : Result Bool E) (f own : FunctionValue) (env : MachineValue) (out : OutputValue) (old new : Option (List ℕ))
    (e : CheckerError A) → own ≡ f →
    ((e ≡ MalformedOutput) × (IsInOrder own out → ⊥)) ⊎ ((e ≡ Memory) × IsInOrder own out) → Writes r false old new (findings_text (e ∷ [])) →
    IfOk r (IsOutputJudged A f env out (Appends old new))
output_refused r f own env out old new e s (inl m) w =
    unaccepted_judged r f env out old new (e ∷ []) (subst (λ x. AreFindings f env out (x ∷ [])) (sym m.0) (malformed (λ i. m.1 (subst (λ g. IsInOrder g out) (sym s) i))))
    w
output_refused r f own env out old new e s (inr m) w = checker_refused r f env out old new e m.0 w

findings_are : {A : Type 0} (f : FunctionValue) (env : MachineValue) (out : OutputValue) (es : List (CheckerError A)) → (es ≡ Memory ∷ [])
    ⊎ ((IsFaithful f env out → ⊥) × IsReport f env out es) → AreFindings f env out es
findings_are f env out es (inl m) = subst (λ x. AreFindings f env out x) (sym m) memory
findings_are f env out es (inr m) = faults es m.0 m.1

-- an output with errors, or whose check ran out of memory
pub errors_found : {A E : Type 0} (r : Result Bool E) (f own : FunctionValue) (env mine : MachineValue) (out : OutputValue) (old new : Option (List ℕ))
    (es shown : List (CheckerError A)) → own ≡ f → mine ≡ env →
    (es ≡ Memory ∷ []) ⊎ ((IsFaithful own mine out → ⊥) × IsReport own mine out es) → shown ≡ es → Writes r false old new (findings_text shown) →
    IfOk r (IsOutputJudged A f env out (Appends old new))
errors_found r f own env mine out old new es shown s m h e w =
    let found : AreFindings f env out es = subst (λ g. AreFindings g env out es) s (subst (λ k. AreFindings own k out es) m (findings_are own mine out es h)) in
    unaccepted_judged r f env out old new shown (subst (λ x. AreFindings f env out x) (sym e) found) w

-- an output that is well-ordered and faithful
pub none_found : (A : Type 0) {E : Type 0} (r : Result Bool E) (f own : FunctionValue) (env mine : MachineValue) (out : OutputValue) (held : Option OutputValue)
    (old new : Option (List ℕ)) → own ≡ f → mine ≡ env → held ≡ Some out → IsInOrder f out →
    (o : OutputValue) × (held ≡ Some o) × IsFaithful own mine o → Writes r true old new checked_line →
    IfOk r (IsOutputJudged A f env out (Appends old new))
unfolding IsOutputJudged
none_found A (Ok b) f own env mine out held old new s m e i h w =
    let prepared : h.0 ≡ out = cc in
    subst (λ a. IsOutputJudged A f env out (Appends old new) a) (sym w.0)
    (i, subst (λ g. IsFaithful g env out) s (subst (λ k. IsFaithful own k out) m (subst (λ o. IsFaithful own mine o) prepared h.2)), w.1)
none_found A (Err y) f own env mine out held old new s m e i h w = tt
