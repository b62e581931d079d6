use Rattle.std.proofs.Common.{arith, ap, ◌∙◌, nat_eq}
use Rattle.std.specs.Prelude.{if◌then◌else◌}
use Rattle.regalloc2_checker_sets.proofs.Bits.{changed-is}
use Rattle.regalloc2_checker_sets.proofs.sets.Sets.changed.Goals as goal

pub returns : goal.returns
returns g c y =
    changed-is c.in_ok-copy.copy c.set.new.self c.args.bits c.args.is_in (omega arith) c.in_ok-set.ensures.ok y
    ∙ ap (λ t. if nat_eq y c.args.bits then c.args.is_in else t) (c.in_ok-copy.ensures y)
