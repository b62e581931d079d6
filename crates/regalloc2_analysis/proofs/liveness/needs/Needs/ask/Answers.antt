use Rattle.std.proofs.Common.{◌≡◌, ◌∙◌, false, true, refl, sym, subst, List}
use Rattle.std.specs.Prelude.{◌&&◌, not}
use Rattle.std.proofs.lemmas.Result.{on_ok_weaker}
use Rattle.regalloc2_names.specs.Register.{is_vreg}
use Rattle.regalloc2_analysis.specs.Liveness.BlockVRegPairs.{Pair, holds, Grows}
use Rattle.regalloc2_analysis.proofs.LivenessLemmas.PairLists.{asked_free, asked_written, grows_none, grows_one, grows_same}
use Rattle.regalloc2_analysis.proofs.liveness.needs.Needs.ask.Goals as goal

pub returns-clause-grows : goal.returns-clause-grows
returns-clause-grows g c =
    let free : holds c.args.written.now (c.args.block, c.args.vreg) ≡ false = sym c.has.ensures ∙ c.if-has.false in
    on_ok_weaker c.add.result
    (λ e. grows_same c.args.block (is_vreg c.args.vreg) (λ v. is_vreg c.args.vreg v && not (holds c.args.written.now (c.args.block, v))) c.args.self.now
    c.add.new.self
    (subst (λ (xs : List Pair). Grows c.args.block (is_vreg c.args.vreg) c.args.self.now xs) (sym e) (grows_one c.args.block c.args.vreg c.args.self.now))
    (λ v. asked_free c.args.written.now c.args.block c.args.vreg v free))
    c.add.ensures.ok

pub returns-clause-ok : goal.returns-clause-ok
returns-clause-ok g c =
    let free : holds c.args.written.now (c.args.block, c.args.vreg) ≡ false = sym c.has.ensures ∙ c.if-has.false in
    rw free c.add.ensures.ok

pub returns-then-has-clause-ok : goal.returns-then-has-clause-ok
returns-then-has-clause-ok g c =
    let there : holds c.args.written.now (c.args.block, c.args.vreg) ≡ true = sym c.has.ensures ∙ c.if-has.true in
    rw there refl

pub returns-then-has-clause-grows : goal.returns-then-has-clause-grows
returns-then-has-clause-grows g c =
    let there : holds c.args.written.now (c.args.block, c.args.vreg) ≡ true = sym c.has.ensures ∙ c.if-has.true in
    grows_none c.args.block (λ v. is_vreg c.args.vreg v && not (holds c.args.written.now (c.args.block, v))) c.args.self.now
    (λ v. asked_written c.args.written.now c.args.block c.args.vreg v there)
