use Rattle.std.proofs.Common.{◌∙◌, ◌<◌, ℕ, List, [], ◌∷◌, ◌++◌, arith, sym, subst}
use Rattle.regalloc2_names.specs.Place.{Place}
use Rattle.regalloc2_checker.specs.NamedBits.{ArePlacesAdded}
use Rattle.regalloc2_checker.proofs.NamedPlaces.{added-bits, added-missing}
use Rattle.regalloc2_checker.proofs.PlacesListed.{bits_of_registers, register-is, register-listed, beside-after, neither-is-missing, slot-is-some}
use Rattle.regalloc2_checker.proofs.place_list.PlaceList.list.Goals as goal

pub returns-in-Some : goal.returns-in-Some
returns-in-Some g c =
    let slots : List ℕ = c.self.inside.slots in
    let small : c.in-Some.reg.number < 64 = omega (arith, c.add.ensures.in_range) in
    subst (λ (old : List ℕ). ArePlacesAdded old (bits_of_registers c.add.new.self ++ slots) (c.args.place ∷ [])) c.self.view_is
    (subst (λ (p : Place). ArePlacesAdded (bits_of_registers c.self.inside.registers ++ slots) (bits_of_registers c.add.new.self ++ slots) (p ∷ []))
    (register-is c.args.place c.in-Some.reg (sym c.as_reg.ensures ∙ c.in-Some.is))
    (register-listed c.self.inside.registers c.add.new.self c.in-Some.reg slots small c.add.ensures.members))

pub returns-in_ok-list : goal.returns-in_ok-list
returns-in_ok-list g c =
    let registers : List ℕ = bits_of_registers c.self.inside.registers in
    subst (λ (old : List ℕ). ArePlacesAdded old (registers ++ c.list.new.self) (c.args.place ∷ [])) c.self.view_is
    (added-bits (registers ++ c.self.inside.slots) (registers ++ c.list.new.self) c.args.place c.bits.result
    (slot-is-some c.args.place (sym c.is_stack.ensures ∙ c.if-is_stack.true)) c.bits.ensures.bits
    (beside-after registers c.self.inside.slots c.list.new.self c.bits.result c.in_ok-list.ensures))

pub returns-else-is_stack : goal.returns-else-is_stack
returns-else-is_stack g c = added-missing c.args.self.now c.args.place
    (neither-is-missing c.args.place (sym c.as_reg.ensures ∙ c.in_default.is) (sym c.is_stack.ensures ∙ c.if-is_stack.false))
