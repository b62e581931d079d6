use Rattle.std.proofs.Common.{ℕ, ◌<◌, rules}
use Rattle.std.specs.Prelude.{slice_index}
use Rattle.regalloc2_names.proofs.EmptyWord.{empty_word}
use Rattle.regalloc2_names.proofs.sets.PRegSet.is_empty.Goals as goal

pub returns : goal.returns
returns c =
    let fits : (i : ℕ) → slice_index c.args.self.now.bits i < 18446744073709551616 = λ i. search rules in
    rw c.code.ensures.code (empty_word c.args.self.now c.args.regclass fits)
