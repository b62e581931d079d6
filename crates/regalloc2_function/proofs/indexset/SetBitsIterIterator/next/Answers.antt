use Rattle.std.proofs.Common.{sym, ◌∙◌}
use Rattle.regalloc2_function.proofs.NumberBits.{bits_of-zero}
use Rattle.regalloc2_function.proofs.indexset.SetBitsIterIterator.next.Goals as goal

pub returns-then-self-eq0-clause-steps : goal.returns-then-self-eq0-clause-steps
returns-then-self-eq0-clause-steps c =
    let e = sym c.self.view_is ∙ bits_of-zero c.self.inside.0 c.if-self-eq0.true in
    (e, e)
