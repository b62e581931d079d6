-- How registers and virtual registers (vregs) are packed into bits.
use Rattle.std.specs.Prelude.{ℕ, ◌≡◌, ◌<◌, ◌+◌, ◌*◌, ◌/◌, ◌%◌, zero, suc, refl, Bool, nat_eq, List, slice_index}
use Rattle.std.specs.Int.{bit_at}
use Rattle.std.proofs.Common.{arith}
use Rattle.regalloc2_names.specs.Register.{class_code, class_of_code, register_count, Register, VirtualRegister}

-- the class above, the number below
abbrev pub register_of_bits : ℕ → Register
register_of_bits b = record { number = b % 64; class = class_of_code (b / 64) }

abbrev pub bits_of_register : Register → ℕ
bits_of_register r = class_code r.class * 64 + r.number

-- the bytes of registers
abbrev pub IsRegisterIndex : ℕ → Type 0
IsRegisterIndex b = b < register_count

-- whether a set of three words, one for each class, has a register
abbrev pub words_have : List ℕ → Register → Bool
words_have words r = nat_eq (bit_at (slice_index words (class_code r.class)) r.number) 1

abbrev pub vreg_of_bits : ℕ → VirtualRegister
vreg_of_bits b = record { number = b / 4; class = class_of_code (b % 4) }

abbrev pub bits_of_vreg : VirtualRegister → ℕ
bits_of_vreg v = v.number * 4 + class_code v.class

-- the encodings of vregs
abbrev pub IsVRegBits : ℕ → Type 0
IsVRegBits b = b % 4 < 3

-- encoding undoes decoding of a class's code
pub class_code-class_of_code : (n : ℕ) → n < 3 → class_code (class_of_code n) ≡ n
class_code-class_of_code zero h = refl
class_code-class_of_code (suc zero) h = refl
class_code-class_of_code (suc (suc zero)) h = refl
class_code-class_of_code (suc (suc (suc n))) h = absurd (omega arith)

pub bits_of_vreg-vreg_of_bits : (b : ℕ) → b % 4 < 3 → bits_of_vreg (vreg_of_bits b) ≡ b
bits_of_vreg-vreg_of_bits b h = omega (arith, class_code-class_of_code (b % 4) h)

pub bits_of_register-register_of_bits : (b : ℕ) → b < 192 → bits_of_register (register_of_bits b) ≡ b
bits_of_register-register_of_bits b h = omega (arith, class_code-class_of_code (b / 64) (omega arith))
