use Rattle.std.proofs.Common.{inl, inr, subst, sym}
use Rattle.regalloc2.specs.Views.{machine_of}
use Rattle.regalloc2_serialize.specs.Flat.Columns.Kept.{function_of_flat}
use Rattle.regalloc2_c.specs.Outcome.{AreWordsOf}
use Rattle.regalloc2_c.proofs.judging.judged_of_words.Goals as goal

pub returns-in-Err : goal.returns-in-Err
returns-in-Err c = inl c.in-Err.ensures.err

pub returns-in-Ok-judged_parts : goal.returns-in-Ok-judged_parts
returns-in-Ok-judged_parts c = (
  function_of_flat c.in-Ok.f,
  machine_of c.machine_env.result.now,
  subst (λ m. AreWordsOf c.args.words.now (function_of_flat c.in-Ok.f) m) (sym c.machine_env.ensures) c.in-Ok.ensures.ok,
  (c.new.ensures.items, c.in-Ok-judged_parts.ensures.ok),
)

pub returns : goal.returns
returns c =
    inr (
      function_of_flat c.in-Ok.f,
      machine_of c.machine_env.result.now,
      subst (λ m. AreWordsOf c.args.words.now (function_of_flat c.in-Ok.f) m) (sym c.machine_env.ensures) c.in-Ok.ensures.ok,
      c.in-Err-judged_parts.ensures.err,
    )
