-- The test of equality accepts two names exactly if they are equal.
use Rattle.std.proofs.Common.{ℕ, ◌≡◌, ◌≢◌, Bool, true, false, nat_eq, refl, sym, ap, ◌∙◌, inl, inr, ◌⊎◌, eq-eqb, ne_eqb}
use Rattle.std.proofs.lemmas.Bool.{cases_eq}
use Rattle.regalloc2_names.specs.declared.OperandPos.{OperandPos}
use Rattle.regalloc2_names.specs.declared.OperandPos.TheVariants.{Early, Late}
use Rattle.regalloc2_names.specs.Register.{VirtualRegister, is_vreg}
use Rattle.regalloc2_names.specs.Place.{Place, is_place}
use Rattle.regalloc2_names.specs.PlaceBits.{IsPlaceBits, place_of_bits, bits_of_place, bits_of_place-place_of_bits}
use Rattle.regalloc2_names.specs.Operand.{is_position}
pub use Rattle.regalloc2_names.specs.Same.{is_register-true, is_register-same, is_vreg-true, is_vreg-same, is_place-true, is_place-same}

-- equal places are accepted
pub is_place-along : (p q : Place) → p ≡ q → is_place p q ≡ true
is_place-along p q e = ap (λ x. is_place p x) (sym e) ∙ is_place-same p

place_apart : (b : Bool) (p q : Place) → is_place p q ≡ b → p ≢ q → b ≡ false
place_apart true p q e h = absurd (h (is_place-true p q e))
place_apart false p q e h = refl

-- different places aren't accepted
pub is_place-other : (p q : Place) → p ≢ q → is_place p q ≡ false
is_place-other p q h = place_apart (is_place p q) p q refl h

-- places that aren't accepted differ
pub is_place-false : (p q : Place) → is_place p q ≡ false → p ≢ q
is_place-false p q n e = let no : true ≡ false = sym (is_place-along p q e) ∙ n in cc

place_or_not : (b : Bool) (p q : Place) → is_place p q ≡ b → (p ≡ q) ⊎ (p ≢ q)
place_or_not true p q e = inl (is_place-true p q e)
place_or_not false p q e = inr (is_place-false p q e)

-- two places are equal or different
pub cases_place : (p q : Place) → (p ≡ q) ⊎ (p ≢ q)
cases_place p q = place_or_not (is_place p q) p q refl

-- two places are equal exactly if their bits are
pub is_place-by_bits : (a b : ℕ) (p q : Place) → IsPlaceBits a → IsPlaceBits b → place_of_bits a ≡ p → place_of_bits b ≡ q → nat_eq a b ≡ is_place p q
is_place-by_bits a b p q ha hb ep eq = elim (cases_eq a b) [
  | inl e ↦ eq-eqb a b e ∙ sym (is_place-along p q (sym ep ∙ ap place_of_bits e ∙ eq))
  | inr ne ↦ ne_eqb a b ne ∙ sym (is_place-other p q (λ e. ne (sym (bits_of_place-place_of_bits a ha)
      ∙ ap bits_of_place (ep ∙ e ∙ sym eq) ∙ bits_of_place-place_of_bits b hb)))
]

vreg_apart : (b : Bool) (v w : VirtualRegister) → is_vreg v w ≡ b → v ≢ w → b ≡ false
vreg_apart true v w e h = absurd (h (is_vreg-true v w e))
vreg_apart false v w e h = refl

-- different vregs aren't accepted
pub is_vreg-other : (v w : VirtualRegister) → v ≢ w → is_vreg v w ≡ false
is_vreg-other v w h = vreg_apart (is_vreg v w) v w refl h

-- vregs that aren't accepted differ
pub is_vreg-false : (v w : VirtualRegister) → is_vreg v w ≡ false → v ≢ w
is_vreg-false v w n e = let no : true ≡ false = sym (ap (λ x. is_vreg v x) (sym e) ∙ is_vreg-same v) ∙ n in cc

vreg_or_not : (b : Bool) (v w : VirtualRegister) → is_vreg v w ≡ b → (v ≡ w) ⊎ (v ≢ w)
vreg_or_not true v w e = inl (is_vreg-true v w e)
vreg_or_not false v w e = inr (is_vreg-false v w e)

-- two vregs are equal or different
pub cases_vreg : (v w : VirtualRegister) → (v ≡ w) ⊎ (v ≢ w)
cases_vreg v w = vreg_or_not (is_vreg v w) v w refl

-- two positions that are accepted are equal
pub is_position-true : (a b : OperandPos) → is_position a b ≡ true → a ≡ b
is_position-true Early Early h = refl
is_position-true Late Late h = refl
is_position-true Early Late h = absurd cc
is_position-true Late Early h = absurd cc

-- a position and itself are accepted
pub is_position-same : (a : OperandPos) → is_position a a ≡ true
is_position-same Early = refl
is_position-same Late = refl
