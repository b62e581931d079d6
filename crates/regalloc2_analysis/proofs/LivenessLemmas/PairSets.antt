-- Sets of vregs for blocks, by their encodings.
use Rattle.std.proofs.Common.{ℕ, zero, suc, ◌≡◌, ◌≢◌, ◌+◌, ◌*◌, ◌/◌, ◌%◌, ◌<◌, ◌≤◌, Bool, true, false, cond, List, [], ◌∷◌, ◌++◌, length, get_or, set}
use Rattle.std.proofs.Common.{refl, sym, ap, ◌∙◌, subst, arith, inl, inr, nat_eq, eqb-true, eq-eqb}
use Rattle.std.specs.Prelude.{◌&&◌, ◌||◌, map}
use Rattle.std.proofs.lemmas.Bool.{cases_eq, ne_eqb}
use Rattle.std.proofs.lemmas.List.{get_or-map, get_or-set_other, get_or-set_same, get_or_past, length-map, map-set, set-get_or}
use Rattle.regalloc2_index.proofs.Bools.{equal_tests}
use Rattle.regalloc2_names.specs.declared.RegClass.{RegClass}
use Rattle.regalloc2_names.specs.declared.RegClass.TheVariants.{Int, Float, Vector}
use Rattle.regalloc2_names.specs.Register.{VirtualRegister, is_vreg, class_code, class_of_code}
use Rattle.regalloc2_names.specs.RegisterBits.{bits_of_vreg, vreg_of_bits}
use Rattle.regalloc2_function.specs.Numbers.{NumberSet, has_number}
use Rattle.regalloc2_semantics.proofs.Cells.{is_vreg-true, is_vreg-same}
use Rattle.regalloc2_analysis.specs.Liveness.BlockVRegPairs.{Pair, BlockSets, holds, Gains}

class_back : (c : RegClass) → class_of_code (class_code c) ≡ c
class_back Int = refl
class_back Float = refl
class_back Vector = refl

code_small : (c : RegClass) → class_code c < 4
code_small Int = omega arith
code_small Float = omega arith
code_small Vector = omega arith

vregs : (m n : ℕ) (c d : RegClass) → m ≡ n → c ≡ d → ◌≡◌ {A = VirtualRegister} (record { number = m; class = c }) (record { number = n; class = d })
vregs m n c d e f = rw (e, f) refl

vreg_back : (v : VirtualRegister) → vreg_of_bits (bits_of_vreg v) ≡ v
vreg_back v =
    let small : class_code v.class < 4 = code_small v.class in
    let code : (v.number * 4 + class_code v.class) % 4 ≡ class_code v.class = omega arith in
    vregs ((v.number * 4 + class_code v.class) / 4) v.number (class_of_code ((v.number * 4 + class_code v.class) % 4)) v.class (omega arith)
    (ap class_of_code code ∙ class_back v.class)

-- different vregs have different encodings
same_bits : (u v : VirtualRegister) → nat_eq (bits_of_vreg u) (bits_of_vreg v) ≡ is_vreg v u
same_bits u v = equal_tests _ _
    (λ h. let e : bits_of_vreg u ≡ bits_of_vreg v = eqb-true _ _ h in
    let f : v ≡ u = sym (vreg_back v) ∙ ap vreg_of_bits (sym e) ∙ vreg_back u in
    subst (λ (w : VirtualRegister). is_vreg v w ≡ true) f (is_vreg-same v))
    (λ h. eq-eqb _ _ (ap bits_of_vreg (sym (is_vreg-true v u h))))

-- without sets no vreg is in one
pub holds_nothing : (p : Pair) → holds [] p ≡ false
unfolding holds
holds_nothing p = refl

-- a block's own set
pub holds_here : (sets : BlockSets) (b : ℕ) (s : NumberSet) (v : VirtualRegister) → b < length sets → s ≡ get_or sets b s →
    has_number s (bits_of_vreg v) ≡ holds sets (b, v)
unfolding holds
holds_here sets b s v less is = ap (λ (t : NumberSet). has_number t (bits_of_vreg v)) is
    ∙ sym (get_or-map (λ (t : NumberSet). has_number t (bits_of_vreg v)) sets b s false less)

-- past the last set there is nothing
pub holds_past : (sets : BlockSets) (b : ℕ) (v : VirtualRegister) → length sets ≤ b → holds sets (b, v) ≡ false
unfolding holds
holds_past sets b v past = get_or_past (map (λ (t : NumberSet). has_number t (bits_of_vreg v)) sets) b false (simp length-map past)

-- an empty set more
more_at : (sets : BlockSets) (s : NumberSet) (b : ℕ) (v : VirtualRegister) → ((i : ℕ) → has_number s i ≡ false) →
    holds (sets ++ s ∷ []) (b, v) ≡ holds sets (b, v)
unfolding holds
more_at [] s zero v none = none (bits_of_vreg v)
more_at [] s (suc b) v none = refl
more_at (t ∷ sets) s zero v none = refl
more_at (t ∷ sets) s (suc b) v none = more_at sets s b v none

-- an empty set at the end adds no pair
pub holds_more : (sets : BlockSets) (s : NumberSet) (p : Pair) → ((i : ℕ) → has_number s i ≡ false) → holds (sets ++ s ∷ []) p ≡ holds sets p
holds_more sets s p none = more_at sets s p.0 p.1 none

-- a set that is written
holds_set : (sets : BlockSets) (b : ℕ) (s : NumberSet) (v : VirtualRegister) → b < length sets → holds (set sets b s) (b, v) ≡ has_number s (bits_of_vreg v)
unfolding holds
holds_set sets b s v less =
    let has : NumberSet → Bool = λ t. has_number t (bits_of_vreg v) in
    ap (λ (ys : List Bool). get_or ys b false) (map-set has sets b s) ∙ get_or-set_same (map has sets) b (has s) false (simp length-map less)

holds_kept : (sets : BlockSets) (b c : ℕ) (s : NumberSet) (v : VirtualRegister) → c ≢ b → holds (set sets b s) (c, v) ≡ holds sets (c, v)
unfolding holds
holds_kept sets b c s v ne =
    let has : NumberSet → Bool = λ t. has_number t (bits_of_vreg v) in
    ap (λ (ys : List Bool). get_or ys c false) (map-set has sets b s) ∙ get_or-set_other (map has sets) b c (has s) false ne

or_else : (c x : Bool) → cond c true x ≡ (x || c)
or_else true true = refl
or_else true false = refl
or_else false true = refl
or_else false false = refl

or_no : (a b c : Bool) → b ≡ false → a ≡ (a || (b && c))
or_no true false c e = refl
or_no false false c e = refl
or_no a true c e = absurd cc

-- a vreg more in a block's set
pub gains_one : (old sets : BlockSets) (b : ℕ) (s t : NumberSet) (u : VirtualRegister) → b < length sets → s ≡ get_or sets b s →
    ((i : ℕ) → has_number t i ≡ cond (nat_eq i (bits_of_vreg u)) true (has_number s i)) →
    ((p : Pair) → holds sets p ≡ holds old p) → Gains b (is_vreg u) (holds old) (holds (set sets b t))
gains_one old sets b s t u less is more same p = elim (cases_eq b p.0) [
  | inl e ↦
      let v : VirtualRegister = p.1 in
      let here : nat_eq b p.0 ≡ true = eq-eqb b p.0 e in
      let new : holds (set sets b t) (b, v) ≡ (holds sets (b, v) || is_vreg u v) =
      holds_set sets b t v less ∙ more (bits_of_vreg v) ∙ or_else (nat_eq (bits_of_vreg v) (bits_of_vreg u)) (has_number s (bits_of_vreg v))
      ∙ ap (λ (x : Bool). has_number s (bits_of_vreg v) || x) (same_bits v u) ∙ ap (λ (x : Bool). x || is_vreg u v) (holds_here sets b s v less is) in
      subst (λ (c : ℕ). holds (set sets b t) (c, v) ≡ (holds sets (c, v) || is_vreg u v)) e new ∙ ap (λ (x : Bool). x || is_vreg u v) (same p)
      ∙ ap (λ (x : Bool). holds old p || (x && is_vreg u v)) (sym here)
  | inr ne ↦ holds_kept sets b p.0 t p.1 (λ q. ne (sym q)) ∙ same p ∙ or_no (holds old p) (nat_eq b p.0) (is_vreg u p.1) (ne_eqb b p.0 ne)
]

-- a block's set that stays as it was
pub holds_same : (old sets : BlockSets) (b : ℕ) (s t : NumberSet) → b < length sets → s ≡ get_or sets b s → t ≡ s → ((p : Pair) → holds sets p ≡ holds old p) →
    (p : Pair) → holds (set sets b t) p ≡ holds old p
holds_same old sets b s t less is e same p = ap (λ (ss : BlockSets). holds ss p) (ap (λ (x : NumberSet). set sets b x) (e ∙ is) ∙ set-get_or sets b s) ∙ same p
