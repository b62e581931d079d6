use Rattle.std.proofs.Common.{◌≡◌, ◌&&◌, Bool, true, false, ◌∙◌, sym, ap}
use Rattle.std.proofs.lemmas.Bool.{and_parts}
use Rattle.regalloc2_names.specs.Register.{invalid_register, has_register}
use Rattle.regalloc2_function.specs.Machine.{set_of}
use Rattle.regalloc2_function.specs.Views.{machine_of}
use Rattle.regalloc2_function.proofs.machine.MachineEnv.test_registers.Goals as goal

not_both : (a b : Bool) → a && b ≡ false → a ≡ true → b ≡ false
not_both true b h e = h
not_both false b h e = absurd cc

pub returns-in-Some-register_in-clause-misfit : goal.returns-in-Some-register_in-clause-misfit
returns-in-Some-register_in-clause-misfit g c = λ f before.
    let env = machine_of c.args.self.now in
    let of_class = c.in_default.ensures in
    let twice = and_parts (has_register (set_of env.preferred c.args.class) c.in-Some-register_in.reg)
    (has_register (set_of env.non_preferred c.args.class) c.in-Some-register_in.reg)
    (sym (c.listed_twice.ensures c.in-Some-register_in.reg) ∙ c.in-Some-register_in.ensures) in
    (before, λ r h. of_class r (c.allocatable-allocatable.ensures r ∙ h), twice.0, twice.1)

pub returns-then-contains-clause-misfit : goal.returns-then-contains-clause-misfit
returns-then-contains-clause-misfit g c = λ f before.
    let env = machine_of c.args.self.now in (
      before,
      λ r h. c.in_default.ensures r (c.allocatable-allocatable.ensures r ∙ h),
      λ r. not_both (has_register (set_of env.preferred c.args.class) r) (has_register (set_of env.non_preferred c.args.class) r)
          (sym (c.listed_twice.ensures r) ∙ c.in_default-register_in.ensures r),
      sym (c.allocatable-allocatable.ensures invalid_register) ∙ ap (has_register c.allocatable-allocatable.result) (sym c.invalid.ensures)
          ∙ sym c.contains.ensures.member ∙ c.if-contains.true,
    )

pub returns-clause-ok : goal.returns-clause-ok
returns-clause-ok g c =
    let env = machine_of c.args.self.now in
    record {
      of_class = λ r h. c.in_default.ensures r (c.allocatable-allocatable.ensures r ∙ h);
      listed_once = λ r. not_both (has_register (set_of env.preferred c.args.class) r) (has_register (set_of env.non_preferred c.args.class) r)
          (sym (c.listed_twice.ensures r) ∙ c.in_default-register_in.ensures r);
      valid = sym (c.allocatable-allocatable.ensures invalid_register) ∙ ap (has_register c.allocatable-allocatable.result) (sym c.invalid.ensures)
          ∙ sym c.contains.ensures.member ∙ c.if-contains.false;
    }
