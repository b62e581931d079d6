use Rattle.std.proofs.Common.{◌≡◌, ◌+◌, ◌∷◌, ◌++◌, ◌∙◌, [], ap, arith, sym, take}
use Rattle.std.proofs.lemmas.List.{take_all, take_more}
use Rattle.regalloc2_names.specs.Collected.{collected}
use Rattle.regalloc2_names.specs.Register.{Register}
use Rattle.std.proofs.lemmas.Bool.{false≢true}
use Rattle.regalloc2_names.proofs.sets.PRegSet.from_slice.Goals as goal

pub loop-reg-init : goal.loop-reg-init
loop-reg-init c = λ r. (λ e. absurd (false≢true (sym (c.empty-set.ensures.none r) ∙ e)), λ m. absurd (omega (arith, m.1)))

pub loop-reg-preserved : goal.loop-reg-preserved
loop-reg-preserved c = λ r.
    let regs = c.args.regs.now in
    let i = c.loop-reg.reg-index in
    let more : take (i + 1) regs ≡ take i regs ++ c.reg-item.result ∷ [] = take_more regs i c.reg-item.result c.loop-reg-test.true
    ∙ ap (λ (x : Register). take i regs ++ x ∷ []) (sym c.reg-item.is) in
    rw more (collected c.loop-reg.set c.add.new.self c.reg-item.result (take i regs) c.loop-reg.invariant c.add.ensures.members r)

pub returns : goal.returns
returns c = λ r. rw (take_all c.loop-reg.reg-index c.args.regs.now c.loop-reg-test.false) at (c.loop-reg.invariant r)
