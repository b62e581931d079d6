use Rattle.std.proofs.Common.{◌∙◌, sym}
use Rattle.std.specs.Prelude.{All, IfSome, IsTrue, ◌↔◌}
use Rattle.std.proofs.lemmas.Bool.{false≢true}
use Rattle.regalloc2_names.specs.Packing.{IsRegisterIndex}
use Rattle.regalloc2_serialize.proofs.Chains.{both, neither}
use Rattle.regalloc2_serialize.proofs.data.StoredMachine.names_registers.Goals.{then-are_lists_of_registers, else-are_lists_of_registers}
use Rattle.regalloc2_serialize.proofs.data.StoredMachine.names_registers.Goals.{then-are_lists_of_registers-2, else-are_lists_of_registers-2}
use Rattle.regalloc2_serialize.proofs.data.StoredMachine.names_registers.Goals as goal

pub returns-then-are_scratch_registers : goal.returns-then-are_scratch_registers
returns-then-are_scratch_registers g c =
    let m = c.args.self.now in
    let one : IsTrue c.are_lists_of_registers.result ↔ All (λ l. All IsRegisterIndex l.items) m.preferred_regs_by_class.items =
    rw c.as_slice.ensures.value at c.are_lists_of_registers.ensures in
    let two : IsTrue c.if-are_lists_of_registers.value ↔ (All (λ l. All IsRegisterIndex l.items) m.preferred_regs_by_class.items
    × All (λ l. All IsRegisterIndex l.items) m.non_preferred_regs_by_class.items) = elim c.if-are_lists_of_registers.branch [
      | then-are_lists_of_registers w ↦ both _ _ (one.0 w.if-are_lists_of_registers.true) w.value-is
          (rw w.as_slice-then-are_lists_of_registers.ensures.value at w.are_lists_of_registers-then-are_lists_of_registers.ensures)
      | else-are_lists_of_registers w ↦ neither _ _ one w.if-are_lists_of_registers.false w.value-is
    ] in
    let scratch : All (λ o. IfSome o IsRegisterIndex) m.scratch_by_class.items = elim c.if-are_lists_of_registers-2.branch [
      | then-are_lists_of_registers-2 w ↦ (rw w.as_slice-then-are_lists_of_registers-2.ensures.value at w.are_scratch_registers.ensures).0
          (sym w.value-is ∙ c.if-are_scratch_registers.true)
      | else-are_lists_of_registers-2 w ↦ absurd (false≢true
          (sym (w.value-is ∙ w.if-are_lists_of_registers-2.false) ∙ c.if-are_scratch_registers.true))
    ] in
    let sets = elim c.if-are_lists_of_registers-2.branch as (λ _. All (λ l. All IsRegisterIndex l.items) m.preferred_regs_by_class.items
    × All (λ l. All IsRegisterIndex l.items) m.non_preferred_regs_by_class.items) [
      | then-are_lists_of_registers-2 w ↦ two.0 w.if-are_lists_of_registers-2.true
      | else-are_lists_of_registers-2 w ↦ absurd (false≢true
          (sym (w.value-is ∙ w.if-are_lists_of_registers-2.false) ∙ c.if-are_scratch_registers.true))
    ] in
    let slots = rw c.as_slice-then-are_scratch_registers.ensures.value at c.are_registers.ensures in (
      λ h. record { preferred = sets.0; non_preferred = sets.1; scratch = scratch; fixed_stack_slots = slots.0 h },
      λ n. slots.1 n.fixed_stack_slots,
    )

pub returns-else-are_scratch_registers : goal.returns-else-are_scratch_registers
returns-else-are_scratch_registers g c =
    let m = c.args.self.now in
    let one : IsTrue c.are_lists_of_registers.result ↔ All (λ l. All IsRegisterIndex l.items) m.preferred_regs_by_class.items =
    rw c.as_slice.ensures.value at c.are_lists_of_registers.ensures in
    let two : IsTrue c.if-are_lists_of_registers.value ↔ (All (λ l. All IsRegisterIndex l.items) m.preferred_regs_by_class.items
    × All (λ l. All IsRegisterIndex l.items) m.non_preferred_regs_by_class.items) = elim c.if-are_lists_of_registers.branch [
      | then-are_lists_of_registers w ↦ both _ _ (one.0 w.if-are_lists_of_registers.true) w.value-is
          (rw w.as_slice-then-are_lists_of_registers.ensures.value at w.are_lists_of_registers-then-are_lists_of_registers.ensures)
      | else-are_lists_of_registers w ↦ neither _ _ one w.if-are_lists_of_registers.false w.value-is
    ] in (
      λ h. absurd (false≢true (sym c.if-are_scratch_registers.false ∙ h)),
      λ n. elim c.if-are_lists_of_registers-2.branch [
        | then-are_lists_of_registers-2 w ↦ w.value-is
            ∙ (rw w.as_slice-then-are_lists_of_registers-2.ensures.value at w.are_scratch_registers.ensures).1 n.scratch
        | else-are_lists_of_registers-2 w ↦ absurd (false≢true (sym w.if-are_lists_of_registers-2.false ∙ two.1 (n.preferred, n.non_preferred)))
      ],
    )
