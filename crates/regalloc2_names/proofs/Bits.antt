-- Fields side by side in one word.
use Rattle.std.proofs.Common.{◌/◌, ℕ, ◌≡◌, ◌<◌, ◌+◌, ◌*◌, ◌^◌, ◌%◌, refl, arith, bit_or, ◌∙◌, add_comm}
use Rattle.std.proofs.lemmas.Nat.{or_shifted, or_comm}
use denote.Enum.Declared.{tag_of}
use Rattle.regalloc2_names.specs.declared.RegClass.{RegClass}
use Rattle.regalloc2_names.specs.declared.RegClass.TheVariants.{Int, Float, Vector}
use Rattle.regalloc2_names.specs.Packing.{vreg_of_bits, register_of_bits, bits_of_operand, position_code, kind_code, constraint_code, IsOperand}
use Rattle.regalloc2_names.specs.Packing.{position_code-lt, kind_code-lt}
use Rattle.regalloc2_names.specs.Operand.{OperandValue}
use Rattle.regalloc2_names.specs.Register.{class_code, class_of_code}
use Rattle.regalloc2_names.specs.contracts.RegClass.{the_type}
use Rattle.regalloc2_names.specs.contracts.OperandKind.{the_type as the_kind}
use Rattle.regalloc2_names.specs.contracts.OperandPos.{the_type as the_position}
use Rattle.regalloc2_names.specs.declared.OperandKind.{OperandKind}
use Rattle.regalloc2_names.specs.declared.OperandKind.TheVariants.{Def, Use}
use Rattle.regalloc2_names.specs.declared.OperandPos.{OperandPos}
use Rattle.regalloc2_names.specs.declared.OperandPos.TheVariants.{Early, Late}

-- a field above smaller bits, the other way round
pub or-below : (k a s : ℕ) → s < 2 ^ k → bit_or s (a * 2 ^ k) ≡ s + a * 2 ^ k
or-below k a s h = or_comm s (a * 2 ^ k) ∙ or_shifted a k s h ∙ add_comm (a * 2 ^ k) s

-- the discriminant of a class is its code
pub tag-class : (c : RegClass) → tag_of the_type c ≡ class_code c
tag-class Int = refl
tag-class Float = refl
tag-class Vector = refl

-- the class decoded from the code of a class is that class
pub class_of_code-class_code : (c : RegClass) → class_of_code (class_code c) ≡ c
class_of_code-class_code Int = refl
class_of_code-class_code Float = refl
class_of_code-class_code Vector = refl

-- the code of a class is below 3
pub class_code-lt : (c : RegClass) → class_code c < 3
class_code-lt Int = omega arith
class_code-lt Float = omega arith
class_code-lt Vector = omega arith

-- the word of a vreg, its number times 4 plus its class's code, reads back as that vreg
pub packed_vreg : (n : ℕ) (c : RegClass) → n < 1073741824 → vreg_of_bits (n * 4 + class_code c) ≡ record { number = n; class = c }
packed_vreg n c h =
    let a : (n * 4 + class_code c) / 4 ≡ n = omega (arith, class_code-lt c) in
    let b : (n * 4 + class_code c) % 4 ≡ class_code c = omega (arith, class_code-lt c) in
    rw (a, b, class_of_code-class_code c) refl

-- the byte of a preg, its class's code times 64 plus its number, reads back as that preg
pub packed_register : (n : ℕ) (c : RegClass) → n < 64 → register_of_bits (class_code c * 64 + n) ≡ record { number = n; class = c }
packed_register n c h =
    let a : (class_code c * 64 + n) / 64 ≡ class_code c = omega (arith, class_code-lt c) in
    let b : (class_code c * 64 + n) % 64 ≡ n = omega (arith, class_code-lt c) in
    rw (a, b, class_of_code-class_code c) refl

-- the word that `VReg::new` makes
pub vreg_word : (n : ℕ) (c : RegClass) → n < 1073741824 → bit_or (n * 4 % 4294967296) (tag_of the_type c) ≡ n * 4 + class_code c
vreg_word n c h =
    let e : n * 4 % 4294967296 ≡ n * 4 = omega arith in
    let k : class_code c < 4 = omega (arith, class_code-lt c) in
    rw (e, tag-class c) (or_shifted n 2 (class_code c) k)

-- the word that `PReg::new` makes
pub register_word : (n : ℕ) (c : RegClass) → n < 64 → bit_or (tag_of the_type c * 64 % 256) n ≡ class_code c * 64 + n
register_word n Int h = or_shifted 0 6 n h
register_word n Float h = or_shifted 1 6 n h
register_word n Vector h = or_shifted 2 6 n h

-- the word that `Operand::new` makes
pub operand_word : (n k p q c : ℕ) → n < 4294967296 → k < 4 → p < 2 → q < 2 → c < 128 →
    bit_or (bit_or (bit_or (bit_or n (k * 4294967296 % 18446744073709551616)) (p * 17179869184 % 18446744073709551616))
    (q * 34359738368 % 18446744073709551616)) (c * 68719476736 % 18446744073709551616)
    ≡ n + k * 4294967296 + p * 17179869184 + q * 34359738368 + c * 68719476736
operand_word n k p q c hn hk hp hq hc =
    let ek : k * 4294967296 % 18446744073709551616 ≡ k * 4294967296 = omega arith in
    let ep : p * 17179869184 % 18446744073709551616 ≡ p * 17179869184 = omega arith in
    let eq : q * 34359738368 % 18446744073709551616 ≡ q * 34359738368 = omega arith in
    let ec : c * 68719476736 % 18446744073709551616 ≡ c * 68719476736 = omega arith in
    let a : n + k * 4294967296 < 17179869184 = omega arith in
    let b : n + k * 4294967296 + p * 17179869184 < 34359738368 = omega arith in
    let d : n + k * 4294967296 + p * 17179869184 + q * 34359738368 < 68719476736 = omega arith in
    rw (ek, ep, eq, ec, or-below 32 k n hn, or-below 34 p _ a, or-below 35 q _ b, or-below 36 c _ d) refl

-- the discriminant of an operand's kind is its code
pub tag-kind : (k : OperandKind) → tag_of the_kind k ≡ kind_code k
tag-kind Def = refl
tag-kind Use = refl

-- the discriminant of an operand's position is its code
pub tag-position : (p : OperandPos) → tag_of the_position p ≡ position_code p
tag-position Early = refl
tag-position Late = refl

-- the word that `Operand::new` makes is the operand's
pub operand_made : (o : OperandValue) (n : ℕ) (class : RegClass) (c : ℕ) → IsOperand o → n ≡ o.vreg.number → class ≡ o.vreg.class →
    c ≡ constraint_code o.constraint → c < 128 →
    bit_or (bit_or (bit_or (bit_or n (tag_of the_type class * 4294967296 % 18446744073709551616))
    (tag_of the_position o.position * 17179869184 % 18446744073709551616))
    (tag_of the_kind o.kind * 34359738368 % 18446744073709551616)) (c * 68719476736 % 18446744073709551616)
    ≡ bits_of_operand o
unfolding bits_of_operand
operand_made o n class c h en ek ec small =
    rw (en, ek, ec, tag-class o.vreg.class, tag-position o.position, tag-kind o.kind)
    (operand_word o.vreg.number (class_code o.vreg.class) (position_code o.position) (kind_code o.kind) (constraint_code o.constraint)
    (omega arith) (omega (arith, class_code-lt o.vreg.class)) (position_code-lt o.position) (kind_code-lt o.kind) (rw ec at small))
