use Rattle.std.proofs.Common.{ℕ, ◌<◌, rules}
use Rattle.std.specs.Prelude.{slice_index}
use Rattle.regalloc2_names.specs.Listed.{IsWalkOf-registers_of}
use Rattle.regalloc2_names.proofs.sets.PRegSetIntoIterator.into_iter.Goals as goal

pub returns : goal.returns
returns c =
    let fits : (i : ℕ) → slice_index c.args.self.bits i < 18446744073709551616 = λ i. search rules in
    record { into_iter_gives = IsWalkOf-registers_of c.args.self fits }
