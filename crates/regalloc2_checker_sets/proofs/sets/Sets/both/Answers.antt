use Rattle.std.proofs.Common.{ap, sym, ◌∙◌, refl}
use Rattle.std.specs.Prelude.{◌&&◌}
use Rattle.regalloc2_checker_sets.specs.EntrySets.{is_member}
use Rattle.regalloc2_checker_sets.proofs.AllSets.{empty-is}
use Rattle.regalloc2_checker_sets.proofs.Bits.{ok-as}
use Rattle.regalloc2_checker_sets.proofs.Lone.{set-is, both-lone, both-apart}
use Rattle.regalloc2_checker_sets.proofs.sets.Sets.both.Goals as goal

pub returns-then-has-clause-found : goal.returns-then-has-clause-found
returns-then-has-clause-found g c =
    let is = c.in-Some.ensures c.in-Some.only refl in
    set-is c.args.self.now c.args.other _ _
    (λ y. sym (is.members y) ∙ both-lone (is_member c.args.self.now c.args.set) (is_member c.args.self.now c.args.other) c.in-Some.only is.members
    (sym c.if-has.ensures) y) is

pub returns-in-Some-clause-found : goal.returns-in-Some-clause-found
returns-in-Some-clause-found g c =
    let is = c.in-Some.ensures c.in-Some.only refl in
    empty-is c.args.self.now c.self.inside.kept.items _ c.self.view_is
    (both-apart (is_member c.args.self.now c.args.set) (is_member c.args.self.now c.args.other) c.in-Some.only is.members (sym c.if-has.ensures))

pub returns-in-Some-two-clause-found : goal.returns-in-Some-two-clause-found
returns-in-Some-two-clause-found g c =
    let two = c.in-Some-two.ensures (c.in-Some-two.first, c.in-Some-two.second) refl in
    ok-as _ _ c.both_of_two.result
    (λ n h. set-is c.both_of_two.new.self n _ _ (λ y. ap (λ b. b && is_member c.args.self.now c.args.other y) (sym (two y))) h)
    c.both_of_two.ensures.found

pub returns-clause-found : goal.returns-clause-found
returns-clause-found g c =
    ok-as _ _ c.settle.result
    (λ n h. set-is c.settle.new.self n _ _
    (λ y. c.in_ok-both.ensures y ∙ ap (λ b. b && is_member c.args.self.now c.args.other y) (c.kept.ensures y)) h)
    c.settle.ensures.found
