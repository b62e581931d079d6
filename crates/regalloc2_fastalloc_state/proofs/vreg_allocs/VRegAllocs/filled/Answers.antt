use Rattle.std.proofs.Common.{◌≡◌, ◌<◌, subst, true}
use Rattle.std.specs.Prelude.{Some, slice_index_or, ◌↔◌}
use Rattle.std.proofs.lemmas.List.Elements.{Contains-get_or}
use Rattle.regalloc2_names.specs.Register.{Register, VirtualRegister, has_register}
use Rattle.regalloc2_fastalloc_state.specs.StateParts.{VRegAllocsValue, vreg_of_preg}
use Rattle.regalloc2_fastalloc_state.proofs.RegistersOfVRegs.{filled_are}
use Rattle.regalloc2_fastalloc_state.proofs.vreg_allocs.VRegAllocs.filled.Goals as goal

pub registers_of_vregs-requires : goal.registers_of_vregs-requires
registers_of_vregs-requires g c = λ k d lt.
    let vregs = c.self.inside.in_registers.members in
    let x = c.self.invariant.0.only (slice_index_or vregs k d) (Contains-get_or vregs k d lt) in
    c.self.invariant.0.known x.0 (slice_index_or vregs k d) x.1 x.2

pub returns : goal.returns
returns g c =
    let t : VRegAllocsValue = record {
      vreg_allocs = c.self.inside.vreg_allocs.items;
      vreg_in_preg = c.self.inside.vreg_in_preg.items;
      in_registers = c.self.inside.in_registers.members;
      watched = c.self.inside.watched.now;
      changes = c.self.inside.changes;
    } in
    subst (λ (u : VRegAllocsValue). (r : Register) → r.number < 64 → (has_register c.registers_of_vregs.result r ≡ true) ↔ ((v : VirtualRegister)
    × (vreg_of_preg u r ≡ Some v))) c.self.view_is (filled_are t c.registers_of_vregs.result c.self.invariant.0 c.registers_of_vregs.ensures)
