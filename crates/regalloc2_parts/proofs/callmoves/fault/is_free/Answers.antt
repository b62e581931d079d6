use borrow.Author.Count.{falls}
use Rattle.std.proofs.Common.{◌≡◌, ◌<◌, length, below_more, arith, ap, sym, ◌∙◌}
use Rattle.std.proofs.lemmas.Bool.{false≢true}
use Rattle.regalloc2_names.specs.Place.{InRegister}
use Rattle.regalloc2_names.specs.Register.{Register}
use Rattle.regalloc2_parts.specs.Callmoves.Frame.{free_at}
use Rattle.regalloc2_parts.proofs.CallmovesLemmas.CallPlaces.{read_free}
use Rattle.regalloc2_parts.proofs.callmoves.fault.is_free.Goals as goal

-- one place has one register; there `cc` has little to read
same_register : {a b : Register} → InRegister a ≡ InRegister b → a ≡ b
same_register e = cc

pub loop-at-init : goal.loop-at-init
loop-at-init g c = λ k lt e. absurd (omega arith)

pub loop-at-preserved : goal.loop-at-preserved
loop-at-preserved g c =
    let read : c.index.result.now ≡ free_at c.args.frame.now c.loop-at.at =
    read_free c.args.frame.now c.loop-at.at c.index.result.now (omega (arith, c.loop-at-test.true, c.len-at-end.ensures)) c.index.ensures in
    below_more _ _ c.loop-at.invariant (λ e. false≢true (sym c.if-eq.false
    ∙ c.eq.ensures.same.1 (c.reg-place.ensures ∙ ap InRegister (sym e ∙ sym read) ∙ sym c.reg.ensures)))

pub returns-clause-no : goal.returns-clause-no
returns-clause-no g c = λ e x. c.loop-at.invariant x.0 (omega (arith, x.1)) x.2

pub returns-then-eq-clause-yes : goal.returns-then-eq-clause-yes
returns-then-eq-clause-yes g c =
    let low : c.loop-at.at < length c.args.frame.now.free_regs.items = omega (arith, c.loop-at-test.true, c.len-at-end.ensures) in
    let same : InRegister c.args.preg ≡ InRegister c.index.result.now =
    sym c.reg-place.ensures ∙ c.eq.ensures.same.0 c.if-eq.true ∙ c.reg.ensures in
    λ e. (c.loop-at.at, low, sym (same_register same ∙ read_free c.args.frame.now c.loop-at.at c.index.result.now low c.index.ensures))

pub loop-at-smaller : goal.loop-at-smaller
loop-at-smaller g c = falls c.len-at-end.result c.loop-at.at c.loop-at-test.true
