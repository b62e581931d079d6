use Rattle.std.proofs.Common.{ℕ, ◌≡◌, ◌<◌, ◌∙◌, List, get_or, length, sym, ap, subst, arith}
use Rattle.std.specs.Prelude.{Contains}
use Rattle.std.proofs.lemmas.Bool.{eqb-true, false≢true}
use Rattle.std.proofs.lemmas.List.{get_or_default}
use Rattle.regalloc2_checker.proofs.named_slots.NamedSlots.is_known.Goals as goal

pub returns-then-slot-len : goal.returns-then-slot-len
returns-then-slot-len g c = λ e. absurd (false≢true e)

pub returns-then-at-len : goal.returns-then-at-len
returns-then-at-len g c = λ e. absurd (false≢true e)

pub returns-then-known-slot : goal.returns-then-known-slot
returns-then-known-slot g c = λ same.
    (let at : ℕ = c.index-at.result.now in
    let items : List (ℕ × ℕ) = c.self.inside.slots.items in
    let less : at < length items = omega (arith, c.if-at-len.false, c.len-2.ensures, c.self.inside.slots.ok.0) in
    let pair : ◌≡◌ {A = ℕ × ℕ} c.index.result.now (c.args.slot, c.args.units) =
    ap (λ (s : ℕ). (s, c.index.result.now.1)) c.if-known-slot.true ∙ ap (λ (u : ℕ). (c.args.slot, u)) (eqb-true _ _ same) in
    let here : get_or items at (c.args.slot, c.args.units) ≡ (c.args.slot, c.args.units) =
    get_or_default items at (c.args.slot, c.args.units) c.index.result.now less ∙ sym c.index.ensures ∙ pair in
    subst (λ (l : List (ℕ × ℕ)). Contains l (c.args.slot, c.args.units)) c.self.view_is (at, less, here))

pub returns-else-known-slot : goal.returns-else-known-slot
returns-else-known-slot g c = λ e. absurd (c.if-known-slot.false (eqb-true _ _ e))
