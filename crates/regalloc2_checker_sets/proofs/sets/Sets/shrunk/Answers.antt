use Rattle.std.proofs.Common.{ap, sym, refl, nat_eq}
use Rattle.std.specs.Prelude.{if◌then◌else◌, false}
use Rattle.regalloc2_checker_sets.proofs.Bits.{ok-as, same-sets}
use Rattle.regalloc2_checker_sets.proofs.Lone.{set-is}
use Rattle.regalloc2_checker_sets.proofs.sets.Sets.shrunk.Goals as goal

pub returns-in-Some-clause-found : goal.returns-in-Some-clause-found
returns-in-Some-clause-found g c =
    let two = c.in-Some.ensures (c.in-Some.first, c.in-Some.second) refl in
    ok-as _ _ c.other_single.result
    (λ n h. set-is c.other_single.new.self n _ _ (λ y. ap (λ b. if nat_eq y c.args.bits then false else b) (sym (two y))) h) c.other_single.ensures.found

pub two-requires : goal.two-requires
two-requires g c = c.requires

pub changed-requires : goal.changed-requires
changed-requires g c = c.requires

pub returns-in-Some-clause-more : goal.returns-in-Some-clause-more
returns-in-Some-clause-more g c = c.other_single.ensures.more

pub returns-in_err-less-clause-more : goal.returns-in_err-less-clause-more
returns-in_err-less-clause-more g c = same-sets _ _ refl

pub returns-clause-more : goal.returns-clause-more
returns-clause-more g c = c.settle.ensures.more

pub returns-clause-found : goal.returns-clause-found
returns-clause-found g c = ok-as _ _ c.settle.result (λ n h. set-is c.settle.new.self n _ _ c.in_ok-less.ensures h) c.settle.ensures.found
