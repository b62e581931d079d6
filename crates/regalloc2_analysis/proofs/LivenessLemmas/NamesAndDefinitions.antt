-- What lists of vregs name and operands define, one element more.
use Rattle.std.proofs.Common.{ℕ, ◌≡◌, ◌+◌, ◌<◌, true, false, List, [], ◌∷◌, length, get_or, take, refl, sym, ap, ◌∙◌}
use Rattle.std.specs.Prelude.{◌&&◌, ◌||◌, not}
use Rattle.std.specs.List.{list_any}
use Rattle.std.proofs.lemmas.List.Folds.{list_any_more}
use Rattle.std.proofs.Math.Bool.{and-or_distrib_right, or-false}
use Rattle.regalloc2_names.specs.Register.{VirtualRegister, is_vreg}
use Rattle.regalloc2_names.specs.Operand.{OperandValue, is_def}
use Rattle.regalloc2_semantics.specs.Sound.{names}
use Rattle.regalloc2_carry.specs.Listing.{defines}
use Rattle.regalloc2_analysis.specs.Liveness.BlockVRegPairs.{BlockSets, holds}

defines_is : (v : VirtualRegister) (ops : List OperandValue) → defines v ops ≡ list_any (λ o. is_def o.kind && is_vreg o.vreg v) ops
unfolding defines
defines_is v [] = refl
defines_is v (o ∷ os) = ap (λ x. (is_def o.kind && is_vreg o.vreg v) || x) (defines_is v os)

-- without operands no vreg is defined
pub defines_nothing : (v : VirtualRegister) → defines v [] ≡ false
unfolding defines
defines_nothing v = refl

defines_more : (v : VirtualRegister) (ops : List OperandValue) (i : ℕ) (o : OperandValue) → i < length ops → o ≡ get_or ops i o →
    defines v (take (i + 1) ops) ≡ (defines v (take i ops) || (is_def o.kind && is_vreg o.vreg v))
defines_more v ops i o lt is =
    defines_is v (take (i + 1) ops) ∙ list_any_more (λ x. is_def x.kind && is_vreg x.vreg v) ops i o lt
    ∙ ap (λ x. list_any (λ y. is_def y.kind && is_vreg y.vreg v) (take i ops) || (is_def x.kind && is_vreg x.vreg v)) (sym is)
    ∙ ap (λ x. x || (is_def o.kind && is_vreg o.vreg v)) (sym (defines_is v (take i ops)))

-- one operand more that is a definition defines its vreg too
pub defines_yes : (ops : List OperandValue) (i : ℕ) (o : OperandValue) → i < length ops → o ≡ get_or ops i o → is_def o.kind ≡ true → (v : VirtualRegister) →
    defines v (take (i + 1) ops) ≡ (defines v (take i ops) || is_vreg o.vreg v)
defines_yes ops i o lt is does v = rw (defines_more v ops i o lt is, does) refl

-- one operand more that is no definition defines nothing more
pub defines_no : (ops : List OperandValue) (i : ℕ) (o : OperandValue) → i < length ops → o ≡ get_or ops i o → is_def o.kind ≡ false → (v : VirtualRegister) →
    defines v (take (i + 1) ops) ≡ defines v (take i ops)
defines_no ops i o lt is not_so v = rw (defines_more v ops i o lt is, not_so) (or-false (defines v (take i ops)))

-- what a list names, by a test of each
pub names_is : (v : VirtualRegister) (xs : List VirtualRegister) → names v xs ≡ list_any (λ x. is_vreg x v) xs
unfolding names
names_is v [] = refl
names_is v (x ∷ xs) = ap (λ y. is_vreg x v || y) (names_is v xs)

-- an empty list names no vreg
pub names_nothing : (v : VirtualRegister) → names v [] ≡ false
unfolding names
names_nothing v = refl

-- the first i + 1 vregs of a list name what the first i name, and the one at i
pub names_more : (xs : List VirtualRegister) (i : ℕ) (x : VirtualRegister) → i < length xs → x ≡ get_or xs i x → (v : VirtualRegister) →
    names v (take (i + 1) xs) ≡ (names v (take i xs) || is_vreg x v)
names_more xs i x lt is v =
    names_is v (take (i + 1) xs) ∙ list_any_more (λ y. is_vreg y v) xs i x lt ∙ ap (λ y. list_any (λ z. is_vreg z v) (take i xs) || is_vreg y v) (sym is)
    ∙ ap (λ y. y || is_vreg x v) (sym (names_is v (take i xs)))

-- the upward-exposed uses among the first i + 1 vregs are the ones among the first i, and vreg i unless the block wrote it before
pub names_asked : (xs : List VirtualRegister) (i : ℕ) (x : VirtualRegister) (written : BlockSets) (b : ℕ) → i < length xs → x ≡ get_or xs i x →
    (v : VirtualRegister) →
    (names v (take (i + 1) xs) && not (holds written (b, v))) ≡ ((names v (take i xs) && not (holds written (b, v)))
    || (is_vreg x v && not (holds written (b, v))))
names_asked xs i x written b lt is v = rw (names_more xs i x lt is v) (and-or_distrib_right (names v (take i xs)) (is_vreg x v) (not (holds written (b, v))))
