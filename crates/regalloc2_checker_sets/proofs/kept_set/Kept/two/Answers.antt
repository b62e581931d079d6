use Rattle.std.proofs.Common.{arith, sym}
use Rattle.std.proofs.lemmas.Bool.{eqb-true}
use Rattle.regalloc2_checker_sets.proofs.TwoSets.{kept-two, pair-is}
use Rattle.regalloc2_checker_sets.proofs.kept_set.Kept.two.Goals as goal

pub returns-then-is_empty : goal.returns-then-is_empty
returns-then-is_empty g c p e =
    let k = c.self.inside in
    let empty = eqb-true _ _ (sym c.if-is_empty.ensures) in
    pair-is c.args.self.now k.first k.second p
    (kept-two k.first k.second k.many.items c.args.self.now c.self.view_is (omega (arith, empty, k.many.ok.0)) c.self.invariant.0
    c.self.invariant.1) e
