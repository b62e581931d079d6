use Rattle.std.proofs.Common.{◌≡◌, inl, inr, subst, None, Some}
use Rattle.std.specs.Prelude.{Option}
use Rattle.std.specs.Option.{option_map}
use Rattle.regalloc2_function.specs.OutputValue.{OutputValue}
use Rattle.regalloc2_function.specs.Views.{output_of, machine_of}
use Rattle.regalloc2_checker.specs.Report.{IsReport}
use Rattle.regalloc2_checker.proofs.checker.Checker.found.Goals as goal

-- what is prepared isn't nothing
prepared : {X Y : Type 0} (h : X → Y) (o : Option X) (x : X) → o ≡ Some x → option_map h o ≡ None → ⊥
prepared h None x e none = absurd cc
prepared h (Some y) x e none = absurd cc

-- of an option with a value, the image of that value
image : {X Y : Type 0} (h : X → Y) (o : Option X) (x : X) (y : Y) → o ≡ Some x → option_map h o ≡ Some y → h x ≡ y
image h None x y e g = absurd cc
image h (Some z) x y e g = cc

pub returns-in_default-clause-unprepared : goal.returns-in_default-clause-unprepared
returns-in_default-clause-unprepared g c = λ e. c.single_error.ensures

pub returns-in-Ok-clause-unprepared : goal.returns-in-Ok-clause-unprepared
returns-in-Ok-clause-unprepared g c = λ none. absurd (prepared _ c.args.self.prepared c.in-Some.out c.in-Some.is none)

pub returns-in-Ok-clause-prepared : goal.returns-in-Ok-clause-prepared
returns-in-Ok-clause-prepared g c = λ o e. inr
    (subst (λ (x : OutputValue). IsReport (g.F.Function.function c.args.self.f.now) (machine_of c.args.self.env.now) x c.in-Ok.errors.items)
    (image output_of c.args.self.prepared c.in-Some.out o c.in-Some.is e) c.in-Ok.ensures)

pub returns-in-Err-clause-unprepared : goal.returns-in-Err-clause-unprepared
returns-in-Err-clause-unprepared g c = λ none. absurd (prepared _ c.args.self.prepared c.in-Some.out c.in-Some.is none)

pub returns-in-Err-clause-prepared : goal.returns-in-Err-clause-prepared
returns-in-Err-clause-prepared g c = λ o e. inl c.single_error-in-Err.ensures
