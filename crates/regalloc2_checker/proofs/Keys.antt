-- Bits of vregs tell them apart.
use Rattle.std.proofs.Common.{ℕ, ◌≡◌, ◌+◌, ◌*◌, ◌/◌, ◌%◌, ◌<◌, refl, arith, ap, ◌∙◌}
use Rattle.regalloc2_names.specs.declared.RegClass.{RegClass}
use Rattle.regalloc2_names.specs.declared.RegClass.TheVariants.{Int, Float, Vector}
use Rattle.regalloc2_names.specs.Register.{VirtualRegister, class_code, class_of_code}
use Rattle.regalloc2_names.specs.RegisterBits.{bits_of_vreg, vreg_of_bits}

class_back : (c : RegClass) → class_of_code (class_code c) ≡ c
class_back Int = refl
class_back Float = refl
class_back Vector = refl

-- there are three classes
pub class_small : (c : RegClass) → class_code c < 3
class_small Int = omega arith
class_small Float = omega arith
class_small Vector = omega arith

vreg-same : (m n : ℕ) (c d : RegClass) → m ≡ n → c ≡ d → ◌≡◌ {A = VirtualRegister} (record { number = m; class = c }) (record { number = n; class = d })
vreg-same m n c d e f = rw (e, f) refl

-- a vreg's encoding gives it back
pub vreg_back : (v : VirtualRegister) → vreg_of_bits (bits_of_vreg v) ≡ v
vreg_back v =
    let small : class_code v.class < 3 = class_small v.class in
    let code : (v.number * 4 + class_code v.class) % 4 ≡ class_code v.class = omega arith in
    vreg-same ((v.number * 4 + class_code v.class) / 4) v.number (class_of_code ((v.number * 4 + class_code v.class) % 4)) v.class (omega arith)
    (ap class_of_code code ∙ class_back v.class)
