use Rattle.std.proofs.Common.{◌≡◌, ◌⊎◌, inl, inr, refl, sym, subst}
use Rattle.std.proofs.lemmas.Result.{IfErr-weaker, err_from_is_err_and}
use Rattle.regalloc2_names.specs.declared.RegAllocError.{RegAllocError}
use Rattle.regalloc2_names.specs.declared.RegAllocError.TheVariants.{Memory}
use Rattle.regalloc2_function.specs.FunctionValue.{FunctionValue, EachBlock}
use Rattle.regalloc2_function.specs.Reasons.{IsDefinitionFault, IsSoundnessFault}
use Rattle.regalloc2_function.specs.Reasons.IsSoundnessFault.{arguments, elsewhere, livein, open_end}
use Rattle.regalloc2_function.specs.WellFormed.{EndsAt}
use Rattle.regalloc2_function.proofs.ErrorOnlyOutOfMemory.{definition_fault, fit_counted, on_ok_both}
use Rattle.regalloc2_function.proofs.ssa.test_soundness.Goals as goal

abbrev Fault : FunctionValue → RegAllocError → Type 0
Fault f e = (e ≡ Memory) ⊎ IsSoundnessFault f e

pub returns-in_err-test_entry-clause-refused : goal.returns-in_err-test_entry-clause-refused
returns-in_err-test_entry-clause-refused g c =
    let f : FunctionValue = g.F.Function.function c.args.f.now in
    let p = err_from_is_err_and c.from_residual.result c.from_residual.ensures.1 in
    rw (p.1, p.2) (elim c.in_err-test_entry.ensures.err [
      | inl h ↦ subst (Fault f) (sym h.1) (inr (elsewhere h.0))
      | inr h ↦ subst (Fault f) (sym h.2) (inr (livein h.0 h.1))
    ])

pub returns-in_err-test_ends-clause-refused : goal.returns-in_err-test_ends-clause-refused
returns-in_err-test_ends-clause-refused g c =
    let f : FunctionValue = g.F.Function.function c.args.f.now in
    let p = err_from_is_err_and c.from_residual-in_err-test_ends.result c.from_residual-in_err-test_ends.ensures.1 in
    let h = c.in_err-test_ends.ensures.first in
    rw (p.1, p.2) (subst (Fault f) (sym h.1) (inr (open_end h.0 c.in_ok-test_entry.ensures.ok h.2)))

pub returns-in_err-test_fit-clause-refused : goal.returns-in_err-test_fit-clause-refused
returns-in_err-test_fit-clause-refused g c =
    let f : FunctionValue = g.F.Function.function c.args.f.now in
    let p = err_from_is_err_and c.from_residual-in_err-test_fit.result c.from_residual-in_err-test_fit.ensures.1 in
    let h = c.in_err-test_fit.ensures.err in
    let end : EachBlock f (EndsAt f) = c.in_ok-test_ends.ensures.ok.0 refl in
    rw (p.1, p.2) (subst (Fault f) (sym h.1) (inr (arguments h.0 c.in_ok-test_entry.ensures.ok end h.2)))

pub returns-in_err-test_fit-clause-accepted : goal.returns-in_err-test_fit-clause-accepted
returns-in_err-test_fit-clause-accepted g c = λ sound.
    (let h = c.in_err-test_fit.ensures.err in
    absurd (h.2.1 (sound.classes h.0 h.2.0)))

pub returns-clause-sound : goal.returns-clause-sound
returns-clause-sound g c = on_ok_both c.test_definitions.result (λ once uses. record {
  entry = c.in_ok-test_entry.ensures.ok;
  end = c.in_ok-test_ends.ensures.ok.0 refl;
  counted = fit_counted (g.F.Function.function c.args.f.now) c.in_ok-test_fit.ensures.ok;
  classes = c.in_ok-test_fit.ensures.ok;
  defined_once = once;
  uses_defined = uses;
}) c.test_definitions.ensures.once c.test_definitions.ensures.uses

pub returns-clause-refused : goal.returns-clause-refused
returns-clause-refused g c =
    let f : FunctionValue = g.F.Function.function c.args.f.now in
    IfErr-weaker c.test_definitions.result (IsDefinitionFault f) (Fault f)
    (definition_fault f c.in_ok-test_entry.ensures.ok (c.in_ok-test_ends.ensures.ok.0 refl) c.in_ok-test_fit.ensures.ok) c.test_definitions.ensures.refused

pub returns-in_err-test_entry-clause-accepted : goal.returns-in_err-test_entry-clause-accepted
returns-in_err-test_entry-clause-accepted g c = λ sound.
    (let no : ⊥ = elim c.in_err-test_entry.ensures.err [
      | inl h ↦ h.0 sound.entry.0
      | inr h ↦ h.1 sound.entry.1
    ] in absurd no)

pub returns-in_err-test_ends-clause-accepted : goal.returns-in_err-test_ends-clause-accepted
returns-in_err-test_ends-clause-accepted g c = λ sound. (let h = c.in_err-test_ends.ensures.first in absurd (h.2.1 (sound.end h.0 h.2.0)))

pub test_fit-requires-clause-blocks : goal.test_fit-requires-clause-blocks
test_fit-requires-clause-blocks g c = c.requires.successors

pub test_fit-requires-clause-follow : goal.test_fit-requires-clause-follow
test_fit-requires-clause-follow g c = c.requires.follow

pub test_definitions-requires-clause-follow : goal.test_definitions-requires-clause-follow
test_definitions-requires-clause-follow g c = c.requires.follow

pub returns-clause-accepted : goal.returns-clause-accepted
returns-clause-accepted g c = λ sound. c.test_definitions.ensures.accepted sound.defined_once sound.uses_defined
