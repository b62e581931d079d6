use Rattle.std.proofs.Common.{ℕ, ◌<◌, ◌^◌, rules}
use Rattle.std.specs.Prelude.{slice_index}
use Rattle.regalloc2_names.proofs.Counted.{members_counted}
use Rattle.regalloc2_names.proofs.sets.PRegSet.len.Goals as goal

pub returns-clause-len : goal.returns-clause-len
returns-clause-len c =
    let fits : (i : ℕ) → slice_index c.args.self.now.bits i < 2 ^ 64 = λ i. search rules in
    members_counted c.args.self.now fits
