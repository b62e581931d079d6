-- How places are packed into bits.
use Rattle.std.specs.Prelude.{ℕ, ◌≡◌, ◌<◌, ◌+◌, ◌*◌, ◌/◌, ◌%◌, zero, suc}
use Rattle.std.proofs.Common.{arith}
use Rattle.regalloc2_names.specs.Place.{Place, NoPlace, InRegister, InSlot, slot_limit}
use Rattle.regalloc2_names.specs.Register.{register_count}
use Rattle.regalloc2_names.specs.RegisterBits.{register_of_bits, bits_of_register, bits_of_register-register_of_bits}

-- allocations: the kind in the top three bits, the index below
abbrev pub place_of_parts : ℕ → ℕ → Place
place_of_parts zero i = NoPlace
place_of_parts (suc zero) i = InRegister (register_of_bits i)
place_of_parts (suc (suc n)) i = InSlot i

unfoldable pub place_of_bits : ℕ → Place
place_of_bits b = place_of_parts (b / 536870912) (b % 536870912)

unfoldable pub bits_of_place : Place → ℕ
bits_of_place NoPlace = 0
bits_of_place (InRegister r) = 536870912 + bits_of_register r
bits_of_place (InSlot n) = 1073741824 + n

-- the parts that stand for a place
abbrev pub ArePlaceParts : ℕ → ℕ → Type 0
ArePlaceParts zero i = i ≡ 0
ArePlaceParts (suc zero) i = i < register_count
ArePlaceParts (suc (suc zero)) i = i < slot_limit
ArePlaceParts (suc (suc (suc n))) i = ⊥

abbrev pub IsPlaceBits : ℕ → Type 0
IsPlaceBits b = ArePlaceParts (b / 536870912) (b % 536870912)

bits_of_parts : (k i : ℕ) → ArePlaceParts k i → bits_of_place (place_of_parts k i) ≡ k * 536870912 + i
unfolding bits_of_place
bits_of_parts zero i h = omega (arith, h)
bits_of_parts (suc zero) i h = omega (arith, bits_of_register-register_of_bits i h)
bits_of_parts (suc (suc zero)) i h = omega arith
bits_of_parts (suc (suc (suc n))) i h = absurd h

pub bits_of_place-place_of_bits : (b : ℕ) → IsPlaceBits b → bits_of_place (place_of_bits b) ≡ b
unfolding bits_of_place place_of_bits
bits_of_place-place_of_bits b h = omega (arith, bits_of_parts (b / 536870912) (b % 536870912) h)

-- the lower bits of a place's word
abbrev pub index_of_place : Place → ℕ
index_of_place NoPlace = 0
index_of_place (InRegister r) = bits_of_register r
index_of_place (InSlot n) = n
