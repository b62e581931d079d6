use Rattle.std.proofs.Common.{◌≡◌, true, false, sym, ap, ◌∙◌, subst}
use Rattle.regalloc2_names.specs.Register.{Register}
use Rattle.regalloc2_names.specs.declared.OperandConstraint.TheVariants.{FixedReg}
use Rattle.regalloc2_fastalloc_state.specs.Positions.{positions_of}
use Rattle.regalloc2_fastalloc_state.specs.InstRegs.{RemovesAvailable}
use Rattle.regalloc2_fastalloc_walk.proofs.RegsReserved.{shrinks_none, shrinks_held, takes_held, taken_one}
use Rattle.regalloc2_fastalloc_walk.proofs.reserve_regs.remove_unclaimed.Goals as goal

pub returns-in-Some-clause-shrinks : goal.returns-in-Some-clause-shrinks
returns-in-Some-clause-shrinks c = shrinks_held c.args.inst_regs.now c.remove_available.new.self c.in-Some.preg c.of.result c.remove_available.ensures.removed

pub returns-in-Some-clause-takes : goal.returns-in-Some-clause-takes
returns-in-Some-clause-takes c = λ r was now. c.in-Some.ensures.some ∙ ap FixedReg (taken_one c.args.inst_regs.now c.remove_available.new.self c.in-Some.preg
    (takes_held c.args.inst_regs.now c.remove_available.new.self c.in-Some.preg c.of.result c.remove_available.ensures.removed) r was now)

pub returns-in_default-clause-shrinks : goal.returns-in_default-clause-shrinks
returns-in_default-clause-shrinks c = shrinks_none c.args.inst_regs.now

pub returns-in_default-clause-takes : goal.returns-in_default-clause-takes
returns-in_default-clause-takes c = λ r was now. absurd (let x : true ≡ false = sym was ∙ now in cc)

pub returns-in-Some-clause-removed : goal.returns-in-Some-clause-removed
returns-in-Some-clause-removed c = λ r is.
    let same : FixedReg c.in-Some.preg ≡ FixedReg r = sym c.in-Some.ensures.some ∙ is in
    let one : c.in-Some.preg ≡ r = cc in
    subst (λ (q : Register). RemovesAvailable c.args.inst_regs.now c.remove_available.new.self q (positions_of c.args.operand)) one
    (subst (RemovesAvailable c.args.inst_regs.now c.remove_available.new.self c.in-Some.preg) c.of.ensures c.remove_available.ensures.removed)

pub returns-in_default-clause-removed : goal.returns-in_default-clause-removed
returns-in_default-clause-removed c = λ r is. absurd (c.in_default.ensures.none r is)
