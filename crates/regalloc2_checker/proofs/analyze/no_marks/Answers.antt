use Rattle.std.proofs.Common.{Bool, List, false, get_or, ap, ◌∙◌, arith}
use Rattle.std.proofs.lemmas.List.{get_or-replicate}
use Rattle.std.proofs.lemmas.Result.{IfOk-weaker}
use Rattle.regalloc2_checker.proofs.analyze.no_marks.Goals as goal

pub returns-clause-long : goal.returns-clause-long
returns-clause-long g c = IfOk-weaker c.from_elem.result _ _ (λ marks e. omega (arith, e, marks.ok.0)) c.from_elem.ensures.len

pub returns-clause-none : goal.returns-clause-none
returns-clause-none g c =
    IfOk-weaker c.from_elem.result _ _ (λ marks e b d less. ap (λ (ms : List Bool). get_or ms b d) (e (λ y h. h)) ∙ get_or-replicate c.args.count b false d less)
    c.from_elem.ensures.items_if_clones_equal
