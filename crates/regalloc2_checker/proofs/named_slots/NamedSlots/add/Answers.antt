use Rattle.std.proofs.Common.{ℕ, ◌∙◌, ◌++◌, ◌∷◌, [], List, inl, inr, sym, ap, subst}
use Rattle.std.specs.Prelude.{Contains}
use Rattle.regalloc2_checker.proofs.AddedSlots.{adds_one}
use Rattle.regalloc2_checker.proofs.named_slots.NamedSlots.add.Goals as goal

pub returns-then-is_known : goal.returns-then-is_known
returns-then-is_known g c n u = (
  λ h. inl h,
  λ h. elim h [
    | inl old ↦ old
    | inr new ↦ subst (λ m. Contains c.args.self.now (m, u)) (sym new.0)
        (subst (λ m. Contains c.args.self.now (c.args.slot, m)) (sym new.1) (c.is_known.ensures c.if-is_known.true))
  ],
)

pub returns-then-slot-len : goal.returns-then-slot-len
returns-then-slot-len g c = adds_one c.args.self.now c.push.new.self.items c.args.slot c.args.units
    (c.in_ok-push.ensures.items ∙ ap (λ (l : List (ℕ × ℕ)). l ++ (c.args.slot, c.args.units) ∷ []) c.self.view_is)

pub returns-else-slot-len : goal.returns-else-slot-len
returns-else-slot-len g c = adds_one c.args.self.now c.push.new.self.items c.args.slot c.args.units
    (c.in_ok-push.ensures.items ∙ ap (λ (l : List (ℕ × ℕ)). l ++ (c.args.slot, c.args.units) ∷ []) c.self.view_is)
