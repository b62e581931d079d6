use Rattle.std.proofs.Common.{◌≡◌, ◌∙◌, ◌++◌, ℕ, List, ap, refl, map, append_assoc}
use Rattle.std.specs.List.{flat_map}
use Rattle.regalloc2_names.specs.Place.{InRegister}
use Rattle.regalloc2_names.specs.Register.{Register, registers_of}
use Rattle.regalloc2_checker.specs.NamedPlaces.{bits_unless_missing}
use Rattle.regalloc2_checker.proofs.PlacesListed.{bits_of_registers, bits-more, walked}
use Rattle.regalloc2_checker.proofs.place_list.PlaceList.into_numbers.Goals as goal

pub loop-reg-init : goal.loop-reg-init
loop-reg-init g c = record { left = refl; listed = c.in_ok-numbers.ensures.items }

pub loop-reg-preserved : goal.loop-reg-preserved
loop-reg-preserved g c = record {
  left = rw (append_assoc, ← c.in-Some.ensures.steps) c.loop-reg.invariant.left;
  listed = c.in_ok-push.ensures.items ∙ bits-more c.loop-reg.yielded c.in-Some.reg c.loop-reg.numbers.items c.bits.result c.loop-reg.invariant.listed
      (rw c.reg.ensures at c.bits.ensures.bits);
}

pub returns : goal.returns
returns g c =
    let all : c.loop-reg.yielded ≡ registers_of c.self.inside.registers = walked c.loop-reg.yielded c.loop-reg.reg-iterator
    c.into_iter-reg-iterator.result c.in-None.ensures.steps.0 c.loop-reg.invariant.left ∙ c.into_iter-reg-iterator.ensures.into_iter_gives.list in
    let slots : c.deref.result.now ≡ c.self.inside.slots = c.deref.ensures.value ∙ c.in_ok-slots.ensures in
    c.in_ok-extend_from_slice.ensures.items ∙ ap (λ (l : List ℕ). l ++ c.deref.result.now) (c.loop-reg.invariant.listed
    ∙ ap (λ (rs : List Register). flat_map bits_unless_missing (map InRegister rs)) all)
    ∙ ap (λ (l : List ℕ). bits_of_registers c.self.inside.registers ++ l) slots ∙ c.self.view_is
