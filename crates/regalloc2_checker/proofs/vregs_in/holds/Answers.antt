use Rattle.std.proofs.Common.{ℕ, sym, ap, ◌∙◌}
use Rattle.regalloc2_checker.specs.Showing.{shows_now}
use Rattle.regalloc2_checker.proofs.TableSteps.{unlisted-holds}
use Rattle.regalloc2_checker.proofs.VRegsInPlace.{holds_at}
use Rattle.regalloc2_checker.proofs.vregs_in.holds.Goals as goal

pub returns-in_default : goal.returns-in_default
returns-in_default g c =
    sym (unlisted-holds c.args.values.now.places (shows_now c.args.values.now) c.args.place c.args.vreg (sym c.in_default.ensures.position))

pub returns : goal.returns
returns g c =
    c.has.ensures ∙ ap (λ (y : ℕ). shows_now c.args.values.now c.in-Some.position y) c.bits_of.ensures.bits
    ∙ holds_at c.args.values.now c.args.place c.in-Some.position c.args.vreg (sym c.in-Some.ensures.position) c.position.ensures.packed
    c.bits_of.ensures.packed
