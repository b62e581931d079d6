use Rattle.std.proofs.Common.{ℕ, ◌<◌, ◌^◌, rules, eqb-true, eq-eqb, sym, ◌∙◌, inl, inr}
use Rattle.std.specs.Prelude.{slice_index}
use Rattle.regalloc2_names.proofs.SameSets.{test_exact}
use Rattle.regalloc2_names.proofs.sets.PRegSetPartialEq.eq.Goals.{then-a-d, else-a-d}
use Rattle.regalloc2_names.proofs.sets.PRegSetPartialEq.eq.Goals as goal

pub returns-then-b-e : goal.returns-then-b-e
returns-then-b-e c =
    let fits : (i : ℕ) → slice_index c.args.self.now.bits i < 2 ^ 64 = λ i. search rules in
    let other_fits : (i : ℕ) → slice_index c.args.other.now.bits i < 2 ^ 64 = λ i. search rules in
    let exact = test_exact c.args.self.now c.args.other.now fits other_fits (search rules) (search rules) _ (
      λ h. (c.if-b-e.true.0, c.if-b-e.true.1, eqb-true (slice_index c.args.self.now.bits 2) (slice_index c.args.other.now.bits 2) h),
      λ h. eq-eqb _ _ h.2,
    ) in
    record { listed = exact.0; members = exact.1 }

pub returns-else-b-e : goal.returns-else-b-e
returns-else-b-e c =
    let fits : (i : ℕ) → slice_index c.args.self.now.bits i < 2 ^ 64 = λ i. search rules in
    let other_fits : (i : ℕ) → slice_index c.args.other.now.bits i < 2 ^ 64 = λ i. search rules in
    let exact = test_exact c.args.self.now c.args.other.now fits other_fits (search rules) (search rules) _ (
      λ h. elim c.if-a-d.branch [
        | then-a-d w ↦ elim c.if-b-e.either [
          | inl e ↦ absurd (e.1 (eqb-true _ _ (sym w.t-22-is ∙ h)))
          | inr e ↦ absurd (e w.if-a-d.true)
        ]
        | else-a-d w ↦ absurd (w.if-a-d.false (eqb-true _ _ (sym w.t-22-is ∙ h)))
      ],
      λ h. elim c.if-b-e.either [
        | inl e ↦ absurd (e.1 h.1)
        | inr e ↦ absurd (e h.0)
      ],
    ) in
    record { listed = exact.0; members = exact.1 }
