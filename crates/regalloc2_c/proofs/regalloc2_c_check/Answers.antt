use Rattle.std.proofs.Common.{inl, inr, refl, subst, sym}
use Rattle.regalloc2.specs.Views.{machine_of}
use Rattle.regalloc2_serialize.specs.Flat.Columns.Kept.{function_of_flat}
use Rattle.regalloc2_c.specs.Outcome.{AreWordsOf}
use Rattle.regalloc2_c.proofs.regalloc2_c_check.Goals as goal

pub returns-in-Ok-judged-clause-outcome : goal.returns-in-Ok-judged-clause-outcome
returns-in-Ok-judged-clause-outcome c =
    inl (
      refl,
      function_of_flat c.in-Ok.f,
      machine_of c.machine_env.result.now,
      subst (λ m. AreWordsOf c.args.words.now (function_of_flat c.in-Ok.f) m) (sym c.machine_env.ensures) c.in-Ok.ensures.ok,
      c.in-Ok-judged.ensures.ok,
    )

pub returns-clause-outcome : goal.returns-clause-outcome
returns-clause-outcome c =
    inr (
      c.in-Err-judged.failure,
      c.number_of-in-Err-judged.ensures,
      inr (
        function_of_flat c.in-Ok.f,
        machine_of c.machine_env.result.now,
        subst (λ m. AreWordsOf c.args.words.now (function_of_flat c.in-Ok.f) m) (sym c.machine_env.ensures) c.in-Ok.ensures.ok,
        c.in-Err-judged.ensures.err,
      ),
    )
