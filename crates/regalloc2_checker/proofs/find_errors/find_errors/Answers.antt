use Rattle.std.proofs.Common.{rules}
use Rattle.std.proofs.lemmas.Bool.{OnTrue_at}
use Rattle.std.proofs.lemmas.Result.{IfOk-weaker}
use Rattle.regalloc2_function.specs.FunctionValue.{FunctionValue}
use Rattle.regalloc2_function.specs.Views.{machine_of}
use Rattle.regalloc2_checker.proofs.CopiedListing.{listing_of}
use Rattle.regalloc2_checker.proofs.find_errors.find_errors.Goals as goal

pub is_clean-requires : goal.is_clean-requires
is_clean-requires g c κs within =
    let f : FunctionValue = g.F.Function.function c.args.f.now in (
      search rules,
      (
        search rules,
        (
          search rules,
          (
            listing_of f g.o c.args.out.now _ _ c.requires.1.1.1.1.0 c.requires.1.1.1.1.1.1 c.in_ok-listed.ensures c.deref.ensures.value
                c.deref-2.ensures.value c.deref-3.ensures.value c.deref-4.ensures.value,
            (c.requires.1.1.1.1.1.0, (c.requires.1.1.1.1.0, c.requires.1.1.1.1.1.1)),
          ),
        ),
      ),
    )

pub returns-then-branch : goal.returns-then-branch
returns-then-branch g c =
    rw c.new.ensures.items (OnTrue_at c.if-branch.true c.in_ok-is_clean.ensures (machine_of c.args.env.now) c.stack_slots-slots.ensures)

pub analyzed_errors-requires : goal.analyzed_errors-requires
analyzed_errors-requires g c κs within =
    let f : FunctionValue = g.F.Function.function c.args.f.now in (
      search rules,
      (
        search rules,
        (
          search rules,
          (
            listing_of f g.o c.args.out.now _ _ c.requires.1.1.1.1.0 c.requires.1.1.1.1.1.1 c.in_ok-listed.ensures c.deref.ensures.value
                c.deref-2.ensures.value c.deref-3.ensures.value c.deref-4.ensures.value,
            (c.requires.1.1.1.1.1.0, (c.requires.1.1.1.1.0, c.requires.1.1.1.1.1.1)),
          ),
        ),
      ),
    )

pub returns : goal.returns
returns g c = IfOk-weaker c.analyzed_errors.result _ _ (λ r judged. judged (machine_of c.args.env.now) c.stack_slots-slots.ensures) c.analyzed_errors.ensures
