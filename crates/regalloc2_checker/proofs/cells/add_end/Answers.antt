use Rattle.std.proofs.Common.{ℕ, ◌≡◌, subst}
use Rattle.std.specs.Prelude.{OnOk}
use Rattle.regalloc2_names.specs.Place.{InSlot}
use Rattle.regalloc2_checker.specs.NamedSlots.{AddsSlots}
use Rattle.regalloc2_checker.proofs.cells.add_end.Goals as goal

pub returns : goal.returns
returns g c =
    subst (λ (k : ℕ). OnOk c.add_slot.result (AddsSlots (λ n u. (c.args.place ≡ InSlot n) × (u ≡ k)) c.args.named.now c.add_slot.new.named))
    c.units_beside.ensures c.add_slot.ensures
