-- Registers, virtual registers (vregs) and sets of registers, as contracts see them.
use Rattle.std.specs.Prelude.{ℕ, zero, suc, ◌<◌, Bool, ◌&&◌, nat_eq, ◌+◌, cond, List, [], ◌∷◌, ◌++◌, slice_index}
use Rattle.std.specs.Int.{bit_at}
use Rattle.regalloc2_names.specs.declared.RegClass.{RegClass}
use Rattle.regalloc2_names.specs.declared.RegClass.TheVariants.{Int, Float, Vector}
use Rattle.regalloc2_names.specs.declared.sets.PRegSet.{PRegSet}

-- the number that stands for a class
abbrev pub class_code : RegClass → ℕ
class_code Int = 0
class_code Float = 1
class_code Vector = 2

-- the class that a number stands for
abbrev pub class_of_code : ℕ → RegClass
class_of_code zero = Int
class_of_code (suc zero) = Float
class_of_code (suc (suc n)) = Vector

-- a hardware register: the class of its file and its number there
pub record Register : Type 0 where
  pub number : ℕ
  pub class : RegClass

-- a vreg: a number and the class of its values
pub record VirtualRegister : Type 0 where
  pub number : ℕ
  pub class : RegClass

-- the registers are equal
abbrev pub is_register : Register → Register → Bool
is_register a b = nat_eq (class_code a.class) (class_code b.class) && nat_eq a.number b.number

-- the vregs are equal
abbrev pub is_vreg : VirtualRegister → VirtualRegister → Bool
is_vreg a b = nat_eq (class_code a.class) (class_code b.class) && nat_eq a.number b.number

-- hardware numbers are below: they have 6 bits
abbrev pub hw_limit : ℕ
hw_limit = 64

-- how many registers there are: 64 in each of three classes
abbrev pub register_count : ℕ
register_count = 192

-- a register that has an encoding
abbrev pub IsRegister : Register → Type 0
IsRegister r = r.number < hw_limit

-- vregs' numbers are below: they have 30 bits
abbrev pub vreg_limit : ℕ
vreg_limit = 1073741824

-- a vreg that has an encoding
abbrev pub IsVirtualRegister : VirtualRegister → Type 0
IsVirtualRegister v = v.number < vreg_limit

-- the register that stands for none
abbrev pub invalid_register : Register
invalid_register = record { number = 63; class = Int }

-- the vreg that stands for none
abbrev pub invalid_vreg : VirtualRegister
invalid_vreg = record { number = 1073741823; class = Int }

-- a vreg that no list has
abbrev pub no_vreg : VirtualRegister
no_vreg = record { number = 0; class = Int }

-- the set without registers
abbrev pub empty_set : PRegSet
empty_set = record { bits = 0 ∷ 0 ∷ 0 ∷ [] }

-- whether a set has a register: its bit in its class's word is 1
unfoldable pub has_register : PRegSet → Register → Bool
has_register s r = nat_eq (bit_at (slice_index s.bits (class_code r.class)) r.number) 1

-- the registers of a class whose bits are set in a word, from a number on
unfoldable pub word_members : RegClass → ℕ → ℕ → ℕ → List Register
word_members class k zero w = []
word_members class k (suc n) w = cond (nat_eq (bit_at w k) 1) (record { number = k; class = class } ∷ word_members class (k + 1) n w)
    (word_members class (k + 1) n w)

-- the registers of three words, one for each class, by rising index
unfoldable pub registers_of_words : ℕ → ℕ → ℕ → List Register
registers_of_words a b c = word_members Int 0 64 a ++ word_members Float 0 64 b ++ word_members Vector 0 64 c

-- the registers of a set, by rising index
abbrev pub registers_of : PRegSet → List Register
registers_of s = registers_of_words (slice_index s.bits 0) (slice_index s.bits 1) (slice_index s.bits 2)
