use Rattle.std.proofs.Common.{ℕ, ◌≡◌, true, List, [], subst, sym, ap, ◌∙◌, slice_index_or}
use Rattle.std.specs.Prelude.{◌↔◌}
use Rattle.regalloc2_names.specs.declared.sets.PRegSet.{PRegSet}
use Rattle.regalloc2_names.specs.Register.{class_code, has_register, empty_set}
use Rattle.regalloc2_fastalloc_state.specs.StateParts.{AllocatableRegsValue}
use Rattle.regalloc2_fastalloc_state.proofs.ArraysByClass.{default_set}
use Rattle.regalloc2_fastalloc_state.proofs.allocatable.AllocatableRegs.of_class.Goals as goal

pub returns : goal.returns
returns g c = λ r.
    let sets : List PRegSet = c.self.inside.of_class in
    let same : has_register (slice_index_or sets c.code.result (record { bits = [] })) r ≡ has_register
    (slice_index_or sets (class_code c.args.class) empty_set) r =
    default_set sets c.code.result r ∙ ap (λ (k : ℕ). has_register (slice_index_or sets k empty_set) r) c.code.ensures.code in
    let split : (has_register (slice_index_or sets (class_code c.args.class) empty_set) r ≡ true) ↔
    ((r.class ≡ c.args.class) × (has_register c.args.self.now.allocatable r ≡ true)) =
    subst (λ (t : AllocatableRegsValue). (has_register (slice_index_or sets (class_code c.args.class) empty_set) r ≡ true) ↔
    ((r.class ≡ c.args.class) × (has_register t.allocatable r ≡ true))) c.self.view_is (c.self.invariant.1 c.args.class r) in
    (λ h. split.0 (sym same ∙ h), λ h. same ∙ split.1 h)
