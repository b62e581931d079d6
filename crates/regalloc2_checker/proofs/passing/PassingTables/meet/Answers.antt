use Rattle.std.proofs.Common.{◌<◌, arith, sym, ◌∙◌, subst}
use Rattle.regalloc2_checker_sets.proofs.Bits.{ok-as}
use Rattle.regalloc2_checker.proofs.Shown.{on_ok_with, shown-after, both-bare, met-bare, less-bare, same-bare}
use Rattle.regalloc2_checker.proofs.passing.PassingTables.meet.Goals as goal

pub settle_saved-requires : goal.settle_saved-requires
settle_saved-requires g c = subst (λ n. c.args.table < n) (sym c.in_ok-settle.ensures.kept.count) c.requires

pub returns-in_err-settle_saved-clause-places : goal.returns-in_err-settle_saved-clause-places
returns-in_err-settle_saved-clause-places g c = c.in_err-settle_saved.ensures.places ∙ c.in_ok-settle.ensures.kept.places

pub returns-in_err-settle_saved-clause-vregs : goal.returns-in_err-settle_saved-clause-vregs
returns-in_err-settle_saved-clause-vregs g c = c.in_err-settle_saved.ensures.vregs ∙ c.in_ok-settle.ensures.kept.vregs

pub returns-in_err-settle_saved-clause-count : goal.returns-in_err-settle_saved-clause-count
returns-in_err-settle_saved-clause-count g c = c.in_err-settle_saved.ensures.count ∙ c.in_ok-settle.ensures.kept.count

pub meet-requires : goal.meet-requires
meet-requires g c =
    let b = both-bare c.args.self.now c.settle.new.self c.settle_saved.new.self c.self.inside.tables c.self.inside.passed c.self.inside.saved.items
    c.args.table c.self.view_is c.requires c.in_ok-settle.ensures.kept c.in_ok-settle.ensures.now c.in_ok-settle.ensures.none
    c.in_ok-settle_saved.ensures.places c.in_ok-settle_saved.ensures.vregs c.in_ok-settle_saved.ensures.count c.in_ok-settle_saved.ensures.passed
    c.in_ok-settle_saved.ensures.now c.in_ok-settle_saved.ensures.tables c.in_ok-settle_saved.ensures.none in
    omega (arith, b.less, c.self.invariant.spare)

pub invariant_of-self : goal.invariant_of-self
invariant_of-self g c =
    shown-after c.self.inside.tables c.meet.new.self c.self.inside.passed c.self.inside.saved.items c.meet.ensures.vregs c.meet.ensures.count c.self.invariant

pub returns-clause-places : goal.returns-clause-places
returns-clause-places g c =
    let b = both-bare c.args.self.now c.settle.new.self c.settle_saved.new.self c.self.inside.tables c.self.inside.passed c.self.inside.saved.items
    c.args.table c.self.view_is c.requires c.in_ok-settle.ensures.kept c.in_ok-settle.ensures.now c.in_ok-settle.ensures.none
    c.in_ok-settle_saved.ensures.places c.in_ok-settle_saved.ensures.vregs c.in_ok-settle_saved.ensures.count c.in_ok-settle_saved.ensures.passed
    c.in_ok-settle_saved.ensures.now c.in_ok-settle_saved.ensures.tables c.in_ok-settle_saved.ensures.none in
    c.meet.ensures.places ∙ b.places

pub returns-clause-vregs : goal.returns-clause-vregs
returns-clause-vregs g c =
    let b = both-bare c.args.self.now c.settle.new.self c.settle_saved.new.self c.self.inside.tables c.self.inside.passed c.self.inside.saved.items
    c.args.table c.self.view_is c.requires c.in_ok-settle.ensures.kept c.in_ok-settle.ensures.now c.in_ok-settle.ensures.none
    c.in_ok-settle_saved.ensures.places c.in_ok-settle_saved.ensures.vregs c.in_ok-settle_saved.ensures.count c.in_ok-settle_saved.ensures.passed
    c.in_ok-settle_saved.ensures.now c.in_ok-settle_saved.ensures.tables c.in_ok-settle_saved.ensures.none in
    c.meet.ensures.vregs ∙ b.vregs

pub returns-clause-count : goal.returns-clause-count
returns-clause-count g c =
    let b = both-bare c.args.self.now c.settle.new.self c.settle_saved.new.self c.self.inside.tables c.self.inside.passed c.self.inside.saved.items
    c.args.table c.self.view_is c.requires c.in_ok-settle.ensures.kept c.in_ok-settle.ensures.now c.in_ok-settle.ensures.none
    c.in_ok-settle_saved.ensures.places c.in_ok-settle_saved.ensures.vregs c.in_ok-settle_saved.ensures.count c.in_ok-settle_saved.ensures.passed
    c.in_ok-settle_saved.ensures.now c.in_ok-settle_saved.ensures.tables c.in_ok-settle_saved.ensures.none in
    b.count

pub returns-clause-met : goal.returns-clause-met
returns-clause-met g c =
    let b = both-bare c.args.self.now c.settle.new.self c.settle_saved.new.self c.self.inside.tables c.self.inside.passed c.self.inside.saved.items
    c.args.table c.self.view_is c.requires c.in_ok-settle.ensures.kept c.in_ok-settle.ensures.now c.in_ok-settle.ensures.none
    c.in_ok-settle_saved.ensures.places c.in_ok-settle_saved.ensures.vregs c.in_ok-settle_saved.ensures.count c.in_ok-settle_saved.ensures.passed
    c.in_ok-settle_saved.ensures.now c.in_ok-settle_saved.ensures.tables c.in_ok-settle_saved.ensures.none in
    on_ok_with _ _ c.meet.result (λ ok. met-bare c.args.self.now c.self.inside.tables c.meet.new.self c.self.inside.passed c.self.inside.saved.items
    c.args.table b c.meet.ensures.vregs ok) c.meet.ensures.met

pub returns-clause-less : goal.returns-clause-less
returns-clause-less g c =
    let b = both-bare c.args.self.now c.settle.new.self c.settle_saved.new.self c.self.inside.tables c.self.inside.passed c.self.inside.saved.items
    c.args.table c.self.view_is c.requires c.in_ok-settle.ensures.kept c.in_ok-settle.ensures.now c.in_ok-settle.ensures.none
    c.in_ok-settle_saved.ensures.places c.in_ok-settle_saved.ensures.vregs c.in_ok-settle_saved.ensures.count c.in_ok-settle_saved.ensures.passed
    c.in_ok-settle_saved.ensures.now c.in_ok-settle_saved.ensures.tables c.in_ok-settle_saved.ensures.none in
    ok-as _ _ c.meet.result (λ r h. less-bare c.args.self.now c.self.inside.tables c.self.inside.passed c.self.inside.saved.items c.args.table r b h)
    c.meet.ensures.less

pub returns-clause-same : goal.returns-clause-same
returns-clause-same g c =
    let b = both-bare c.args.self.now c.settle.new.self c.settle_saved.new.self c.self.inside.tables c.self.inside.passed c.self.inside.saved.items
    c.args.table c.self.view_is c.requires c.in_ok-settle.ensures.kept c.in_ok-settle.ensures.now c.in_ok-settle.ensures.none
    c.in_ok-settle_saved.ensures.places c.in_ok-settle_saved.ensures.vregs c.in_ok-settle_saved.ensures.count c.in_ok-settle_saved.ensures.passed
    c.in_ok-settle_saved.ensures.now c.in_ok-settle_saved.ensures.tables c.in_ok-settle_saved.ensures.none in
    ok-as _ _ c.meet.result (λ r h. same-bare c.args.self.now c.self.inside.tables c.self.inside.passed c.self.inside.saved.items c.args.table r b h)
    c.meet.ensures.same
