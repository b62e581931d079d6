use Rattle.std.proofs.Common.{refl}
use Rattle.regalloc2_function.proofs.Following.{end_within}
use Rattle.regalloc2_tests.proofs.units.parts.refused.copied.Goals as goal

pub new-requires-2 : goal.new-requires-2
new-requires-2 g c =
    let framed = c.if-not-is_framed.ensures.0 refl in
    λ b less. ((framed.follow b less).0, end_within (g.F.Function.function c.args.f.now) framed.follow b less)
