use Rattle.std.proofs.Common.{◌<◌, ◌^◌, rules, arith}
use Rattle.regalloc2_function.proofs.NumberBits.{bits_lowest}
use Rattle.regalloc2_function.proofs.indexset.take_lowest.Goals as goal

pub returns-clause-taken : goal.returns-clause-taken
returns-clause-taken c =
    let some : 0 < c.args.word.now = omega (arith, c.requires) in
    let fits : c.args.word.now < 2 ^ 64 = search rules in
    bits_lowest c.args.word.now some fits
