use Rattle.std.proofs.Common.{◌∙◌, ap, length, nat_eq}
use Rattle.regalloc2_parts.specs.LiveList.{LiveList}
use Rattle.regalloc2_parts.proofs.VRegLinks.{none_left}
use Rattle.regalloc2_parts.proofs.vregset.VRegSet.is_empty.Goals as goal

pub returns : goal.returns
returns g c =
    none_left c.self.inside.nodes.items c.self.inside.head c.index.result.now c.self.invariant c.index.ensures
    ∙ ap (λ (s : LiveList). nat_eq (length s.members) 0) c.self.view_is
