-- Parts of the words of places and points.
use Rattle.std.proofs.Common.{ℕ, zero, suc, ◌≡◌, ◌+◌, ◌*◌, ◌/◌, ◌%◌, arith, bit_and, bit_or, ◌∙◌, refl}
use Rattle.std.proofs.lemmas.Nat.{or_shifted}
use Rattle.std.proofs.lemmas.Grind.{and_numeral}
use Rattle.regalloc2_names.specs.PlaceBits.{ArePlaceParts, IsPlaceBits, index_of_place, place_of_bits, place_of_parts}
use Rattle.regalloc2_names.specs.RegisterBits.{bits_of_register-register_of_bits}

index_of_parts : (k i : ℕ) → ArePlaceParts k i → (k * 536870912 + i) % 268435456 ≡ index_of_place (place_of_parts k i)
index_of_parts zero i h = omega (arith, h)
index_of_parts (suc zero) i h = omega (arith, bits_of_register-register_of_bits i h)
index_of_parts (suc (suc zero)) i h = omega arith
index_of_parts (suc (suc (suc n))) i h = absurd h

-- the lower 28 bits of a place's word
pub index_of_word : (b : ℕ) → IsPlaceBits b → bit_and b 268435455 ≡ index_of_place (place_of_bits b)
unfolding place_of_bits
index_of_word b h =
    let e : b / 536870912 * 536870912 + b % 536870912 ≡ b = omega arith in
    and_numeral b 268435454 refl ∙ rw e at (index_of_parts (b / 536870912) (b % 536870912) h)

-- the number of a point after an instruction
pub odd_word : (n : ℕ) → bit_or (n * 2 % 4294967296) 1 ≡ n * 2 % 4294967296 + 1
odd_word n =
    let e : n * 2 % 4294967296 ≡ n % 2147483648 * 2 = omega arith in
    rw e (or_shifted (n % 2147483648) 1 1 (omega arith))
