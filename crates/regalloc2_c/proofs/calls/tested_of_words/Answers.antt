use Rattle.std.proofs.Common.{inl, subst, sym}
use Rattle.regalloc2.specs.Views.{machine_of}
use Rattle.regalloc2_serialize.specs.Flat.Columns.Kept.{function_of_flat}
use Rattle.regalloc2_c.specs.Outcome.{AreWordsOf, AreUnreadWords, IsTestedOutput, IsRunFailure}
use Rattle.regalloc2_c.proofs.Outcomes.{comes_to}
use Rattle.regalloc2_c.proofs.calls.tested_of_words.Goals as goal

pub returns-in-Ok : goal.returns-in-Ok
returns-in-Ok c =
    comes_to (AreWordsOf c.args.words.now) (AreUnreadWords c.args.words.now) IsTestedOutput IsRunFailure (function_of_flat c.in-Ok.f) (machine_of c.machine_env.result.now)
    (subst (λ m. (AreWordsOf c.args.words.now) (function_of_flat c.in-Ok.f) m) (sym c.machine_env.ensures) c.in-Ok.ensures.ok)
    c.tested.result c.tested.ensures.ok c.tested.ensures.err

pub returns-in-Err : goal.returns-in-Err
returns-in-Err c = inl c.in-Err.ensures.err
