use Rattle.std.proofs.Common.{◌≡◌, ap, rules, sym, tests, ◌∙◌}
use Rattle.std.specs.Prelude.{Some}
use Rattle.regalloc2_names.specs.Register.{Register, has_register}
use Rattle.regalloc2_function.proofs.Tests.{same_some}
use Rattle.regalloc2_function.proofs.machine.MachineEnv.test_scratch.Goals as goal

pub returns-in_default-clause-ok : goal.returns-in_default-clause-ok
returns-in_default-clause-ok g c = λ r is. absurd (c.in_default.not-Some r (c.scratch.ensures ∙ is))

pub returns-then-ne-clause-misfit : goal.returns-then-ne-clause-misfit
returns-then-ne-clause-misfit g c =
    λ f passes. (passes, sym c.scratch.ensures ∙ c.in-Some.is, λ e. absurd (search (rules, tests)))

pub returns-then-contains-clause-misfit : goal.returns-then-contains-clause-misfit
returns-then-contains-clause-misfit g c = λ f passes. (
  passes,
  sym c.scratch.ensures ∙ c.in-Some.is,
  (search (rules, tests)),
  sym (c.allocatable.ensures c.in-Some.scratch) ∙ sym c.contains.ensures.member ∙ c.if-contains.true,
)

pub returns-in-Some-as_valid-clause-ok : goal.returns-in-Some-as_valid-clause-ok
returns-in-Some-as_valid-clause-ok g c = λ r is.
    let e : r ≡ c.in-Some.scratch = same_some _ _ (sym is ∙ sym c.scratch.ensures ∙ c.in-Some.is) in (
      ap (λ (x : Register). x.class) e ∙ (search (rules, tests)),
      sym (c.allocatable.ensures r) ∙ ap (has_register c.allocatable.result) e ∙ sym c.contains.ensures.member ∙ c.if-contains.false,
      λ h. c.in-Some-as_valid.ensures.1 (sym e ∙ h),
    )

pub returns-in-None-clause-misfit : goal.returns-in-None-clause-misfit
returns-in-None-clause-misfit g c = λ f passes. (
  passes,
  sym c.scratch.ensures ∙ c.in-Some.is ∙ ap (λ (x : Register). Some x) c.in-None.ensures,
  ap (λ (x : Register). x.class) (sym c.in-None.ensures) ∙ (search (rules, tests)),
)
