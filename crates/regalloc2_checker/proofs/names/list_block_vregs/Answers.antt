use Rattle.std.proofs.Common.{List, subst}
use Rattle.std.specs.Prelude.{All}
use Rattle.regalloc2_names.specs.Register.{VirtualRegister}
use Rattle.regalloc2_checker.specs.TableFacts.{IsListedVReg}
use Rattle.regalloc2_checker.proofs.NamedBits.{more-twice, all-vregs-more}
use Rattle.regalloc2_checker.proofs.names.list_block_vregs.Goals as goal

pub returns : goal.returns
returns g c = record {
  more = more-twice c.args.bits.now c.list_vregs.new.bits c.list_arguments.new.bits c.in_ok-list_vregs.ensures.more
      c.in_ok-list_arguments.ensures.more;
  params = all-vregs-more c.list_vregs.new.bits c.list_arguments.new.bits _ c.in_ok-list_arguments.ensures.more
      (subst (λ (vs : List VirtualRegister). All (IsListedVReg c.list_vregs.new.bits) vs) c.block_params.ensures c.in_ok-list_vregs.ensures.listed);
  arguments = c.in_ok-list_arguments.ensures.listed;
}
