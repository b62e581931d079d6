use Rattle.std.proofs.Common.{◌++◌, List, ℕ, map, refl, subst}
use Rattle.std.specs.Prelude.{◌↔◌, Contains}
use Rattle.std.specs.List.{flat_map}
use Rattle.regalloc2_names.specs.Place.{Place, InRegister}
use Rattle.regalloc2_names.specs.Register.{registers_of}
use Rattle.regalloc2_function.specs.FunctionValue.{FunctionValue}
use Rattle.regalloc2_function.specs.Views.{output_of}
use Rattle.regalloc2_checker.specs.NamedBits.{ArePlacesAdded, places_of_edit}
use Rattle.regalloc2_checker.proofs.NamedPlaces.{added-then, all-named}
use Rattle.regalloc2_checker.proofs.names.named_places.Goals as goal

pub returns : goal.returns
returns g c =
    let f : FunctionValue = g.F.Function.function c.args.f.now in
    let none : List ℕ = c.in_ok-bits.bits in
    let end : List ℕ = c.list_registers.new.self in
    let edits = c.args.out.now.edits.items in
    let places : List Place = c.args.out.now.allocs.items in
    let regs : List Place = map InRegister (registers_of c.all_clobbers.result) in
    let moves : ArePlacesAdded none c.list_moves.new.bits (flat_map places_of_edit edits) =
    rw (← c.deref.ensures.value) c.in_ok-list_moves.ensures in
    let operands : ArePlacesAdded c.list_moves.new.bits c.list_places.new.bits places =
    rw (← c.deref-2.ensures.value) c.in_ok-list_places.ensures in
    let added : ArePlacesAdded none end (flat_map places_of_edit edits ++ (places ++ regs)) =
    added-then none c.list_moves.new.bits end (flat_map places_of_edit edits) (places ++ regs) moves
    (added-then c.list_moves.new.bits c.list_places.new.bits end places regs operands c.list_registers.ensures) in
    all-named f (output_of c.args.out.now) edits c.all_clobbers.result end c.of.result refl c.all_clobbers.ensures
    (subst (λ (l : List ℕ). ArePlacesAdded l end (flat_map places_of_edit edits ++ (places ++ regs))) c.in_ok-bits.ensures added)
    (subst (λ (l : List ℕ). (n : ℕ) → Contains c.of.result n ↔ Contains l n) c.in_ok-into_numbers.ensures c.of.ensures.members) c.of.ensures.rising
