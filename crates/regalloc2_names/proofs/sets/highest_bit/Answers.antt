use Rattle.std.proofs.Common.{◌<◌, ◌^◌, rules, arith}
use Rattle.regalloc2_names.proofs.Highest.{top_at}
use Rattle.regalloc2_names.proofs.sets.highest_bit.Goals as goal

pub returns-clause-set : goal.returns-clause-set
returns-clause-set c =
    let some : 0 < c.args.word = omega (arith, c.requires) in
    let fits : c.args.word < 2 ^ 64 = search rules in
    (top_at c.args.word some fits).0

pub returns-clause-highest : goal.returns-clause-highest
returns-clause-highest c =
    let some : 0 < c.args.word = omega (arith, c.requires) in
    let fits : c.args.word < 2 ^ 64 = search rules in
    (top_at c.args.word some fits).1
