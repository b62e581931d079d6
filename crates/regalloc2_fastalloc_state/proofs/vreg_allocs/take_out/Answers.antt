use Rattle.std.proofs.Common.{List, sym, ap, ◌∙◌}
use Rattle.regalloc2_names.specs.Register.{VirtualRegister}
use Rattle.regalloc2_parts.specs.LiveList.{LiveList}
use Rattle.regalloc2_fastalloc_state.proofs.TakenOut.{without_absent}
use Rattle.regalloc2_fastalloc_state.proofs.vreg_allocs.take_out.Goals as goal

pub returns-else-is_reg : goal.returns-else-is_reg
returns-else-is_reg g c =
    let l : LiveList = c.args.in_registers.now in
    ap (λ (vs : List VirtualRegister). record l { members = vs })
    (sym (without_absent c.args.number l.members (c.requires.absent (sym c.is_reg.ensures ∙ c.if-is_reg.false))))
