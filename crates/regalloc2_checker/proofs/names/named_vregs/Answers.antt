use Rattle.std.proofs.Common.{ℕ, List, subst}
use Rattle.std.specs.Prelude.{◌↔◌, Contains}
use Rattle.regalloc2_checker.proofs.names.named_vregs.Goals as goal

pub returns : goal.returns
returns g c =
    let added = c.in_ok-list_all_blocks.ensures in
    let insts = c.in_ok-list_inst_vregs.ensures in
    let members = subst (λ (l : List ℕ). (n : ℕ) → Contains c.of.result n ↔ Contains l n) c.in_ok-into_numbers.ensures c.of.ensures.members in
    record {
      operands = λ i less k d here. (members _).1 (added.more _ (insts.listed i less k d here));
      params = λ b less k d here. (members _).1 (added.params b less k d here);
      arguments = λ b k less there j d here. (members _).1 (added.arguments b k less there j d here);
    }
