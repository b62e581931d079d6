use Rattle.std.proofs.Common.{rules, ◌≡◌, Option, true, false, sym, ap, ◌∙◌}
use Rattle.std.specs.Prelude.{MatchOption, None, Some, is_some, not}
use Rattle.std.proofs.lemmas.Bool.{false≢true}
use Rattle.regalloc2_names.specs.Register.{Register, has_register}
use Rattle.regalloc2_names.specs.declared.sets.PRegSet.{PRegSet}
use Rattle.regalloc2_function.specs.Misfit.{IsMisfit}
use Rattle.regalloc2_function.specs.Views.{machine_of}
use Rattle.regalloc2_function.proofs.machine.test_class.Goals.{else-is_none-via-then-is_none+else-names_class, else-is_none-via-else-is_none}
use Rattle.regalloc2_function.proofs.machine.test_class.Goals as goal

-- a set has no register if none is found in it, and one if one is found
if_none : (set : PRegSet) (o : Option Register) → is_some o ≡ false →
    MatchOption o ((r : Register) → has_register set r ≡ false) (λ r. has_register set r ≡ true) → (r : Register) → has_register set r ≡ false
if_none set None e h = h
if_none set (Some x) e h = absurd (false≢true (sym e))

if_some : (set : PRegSet) (o : Option Register) → is_some o ≡ true →
    MatchOption o ((r : Register) → has_register set r ≡ false) (λ r. has_register set r ≡ true) → (r : Register) × (has_register set r ≡ true)
if_some set None e h = absurd (false≢true e)
if_some set (Some x) e h = (x, h)

pub returns-in_err-test_registers-clause-misfit : goal.returns-in_err-test_registers-clause-misfit
returns-in_err-test_registers-clause-misfit g c =
    let f = g.F.Function.function c.args.f.now in
    let m : IsMisfit f (machine_of c.args.env.now) c.in_err-test_registers.field-0.0 = c.in_err-test_registers.ensures.misfit f c.requires.before in
    search (rules, m)

pub returns-in_err-test_scratch-clause-misfit : goal.returns-in_err-test_scratch-clause-misfit
returns-in_err-test_scratch-clause-misfit g c =
    let f = g.F.Function.function c.args.f.now in
    let m : IsMisfit f (machine_of c.args.env.now) c.in_err-test_scratch.field-0.0 =
    c.in_err-test_scratch.ensures.misfit f (record { before = c.requires.before; registers = c.in_ok-test_registers.ensures.ok }) in
    search (rules, m)

pub returns-in_err-test_slots-clause-misfit : goal.returns-in_err-test_slots-clause-misfit
returns-in_err-test_slots-clause-misfit g c =
    let f = g.F.Function.function c.args.f.now in
    let m : IsMisfit f (machine_of c.args.env.now) c.in_err-test_slots.field-0.0 =
    c.in_err-test_slots.ensures.misfit f (record {
      before = c.requires.before;
      registers = c.in_ok-test_registers.ensures.ok;
      scratch = c.in_ok-test_scratch.ensures.ok;
    }) in
    search (rules, m)

pub returns-then-names_class-clause-misfit : goal.returns-then-names_class-clause-misfit
returns-then-names_class-clause-misfit g c =
    let no : is_some c.register_in.result ≡ false = c.is_none.ensures ∙ ap not c.if-is_none.true in (
      record { before = c.requires.before; registers = c.in_ok-test_registers.ensures.ok; scratch = c.in_ok-test_scratch.ensures.ok },
      c.in_ok-test_slots.ensures.ok,
      c.names_class.ensures.0 c.if-names_class.true,
      λ r. sym (c.allocatable.ensures r) ∙ if_none c.allocatable.result c.register_in.result no c.register_in.ensures r,
    )

pub returns-clause-ok : goal.returns-clause-ok
returns-clause-ok g c = record {
  of_class = c.in_ok-test_registers.ensures.ok.of_class;
  listed_once = c.in_ok-test_registers.ensures.ok.listed_once;
  valid = c.in_ok-test_registers.ensures.ok.valid;
  scratch = c.in_ok-test_scratch.ensures.ok;
  slots_apart = λ k d less. let apart = c.in_ok-test_slots.ensures.ok k d less in (apart.0, apart.1, c.requires.valid k d less);
  has_a_register = λ names. elim c.else-is_none.branch [
    | else-is_none-via-then-is_none+else-names_class w ↦ absurd (false≢true (sym w.if-names_class.false ∙ w.names_class.ensures.1 names))
    | else-is_none-via-else-is_none w ↦
        let found = if_some c.allocatable.result c.register_in.result (c.is_none.ensures ∙ ap not w.if-is_none.false) c.register_in.ensures in
        (found.0, sym (c.allocatable.ensures found.0) ∙ found.1)
  ];
}
