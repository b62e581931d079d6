-- Where v is given no value: no operand of the instruction defines it (`Undefined`), and no edge leads to a block with v as a parameter (`IsAside`).
use Rattle.std.proofs.Common.{ℕ, zero, suc, ◌≡◌, ◌<◌, inl, inr, Bool, true, false, List, [], ◌∷◌, length, refl, arith, sym, ap, ◌∙◌, subst}
use Rattle.std.specs.Prelude.{Contains}
use Rattle.std.proofs.lemmas.List.{get_or_past}
use Rattle.std.proofs.lemmas.Bool.{cases_lt, or_left, or_right}
use Rattle.regalloc2_names.specs.Register.{VirtualRegister, is_vreg}
use Rattle.regalloc2_function.specs.FunctionValue.{FunctionValue, InstValue, block_at, inst_at, no_inst}
use Rattle.regalloc2_semantics.specs.Runs.{Way, Onward, ToSuccessor, Location}
use Rattle.regalloc2_semantics.specs.Live.{DefinesAt, IsGiven}
use Rattle.regalloc2_semantics.specs.Sound.{Undefined, IsAside, names, target_at}
use Rattle.regalloc2_semantics.proofs.Cells.{is_vreg-same, is_vreg-true}

-- a list contains what it names
named_by : (b : Bool) (v p : VirtualRegister) (ps : List VirtualRegister) → is_vreg p v ≡ b → (names v ps ≡ true → Contains ps v) → names v (p ∷ ps) ≡ true →
    Contains (p ∷ ps) v
unfolding names
named_by true v p ps e rest h = (0, omega arith, is_vreg-true p v e)
named_by false v p ps e rest h = (let r : Contains ps v = rest (rw e at h) in (suc r.0, omega (arith, r.1), r.2))

pub names_contains : (v : VirtualRegister) (ps : List VirtualRegister) → names v ps ≡ true → Contains ps v
unfolding names
names_contains v [] h = absurd cc
names_contains v (p ∷ ps) h = named_by (is_vreg p v) v p ps refl (names_contains v ps) h

-- a list names what it contains
pub names_element : (v : VirtualRegister) (ps : List VirtualRegister) → Contains ps v → names v ps ≡ true
unfolding names
names_element v [] (k, lt, e) = absurd (omega arith)
names_element v (p ∷ ps) (zero, lt, e) = or_left (is_vreg p v) (names v ps) (subst (λ q. is_vreg q v ≡ true) (sym e) (is_vreg-same v))
names_element v (p ∷ ps) (suc k, lt, e) = or_right (is_vreg p v) (names v ps) (names_element v ps (k, omega arith, e))

pub not_named : (v : VirtualRegister) (ps : List VirtualRegister) → (Contains ps v → ⊥) → names v ps ≡ false
not_named v ps h = by (names v ps) refl
  where
    by : (b : Bool) → names v ps ≡ b → names v ps ≡ false
    by true e = absurd (h (names_contains v ps e))
    by false e = e

-- an instruction with operands is one of the function's
pub has_operands : (f : FunctionValue) (i k : ℕ) → k < length (inst_at f i).operands → i < length f.insts
has_operands f i k lt = elim (cases_lt i (length f.insts)) [
  | inl less ↦ less
  | inr le ↦ (let n : length (inst_at f i).operands ≡ 0 = ap (λ (x : InstValue). length x.operands) (get_or_past f.insts i no_inst le) in absurd (omega arith))
]

-- an instruction doesn't define v exactly if none of its operands does
pub undefined_at : (f : FunctionValue) (v : VirtualRegister) (i : ℕ) → (DefinesAt f v i → ⊥) → Undefined (inst_at f i).operands v
undefined_at f v i never j lt def is = never (j, (has_operands f i j lt, lt, is), def)

pub never_defines : (f : FunctionValue) (v : VirtualRegister) (i : ℕ) → Undefined (inst_at f i).operands v → DefinesAt f v i → ⊥
never_defines f v i none d = none d.0 d.1.1 d.2 d.1.2

-- v is given no value exactly if no operand defines it and no edge leads to a block with v as a parameter
pub undefined_not_given : (f : FunctionValue) (v : VirtualRegister) (l : Location) (w : Way) → (IsGiven f v l w → ⊥) → Undefined (inst_at f l.inst).operands v
undefined_not_given f v l w never = undefined_at f v l.inst (λ d. never (inl d))

pub aside_not_given : (f : FunctionValue) (v : VirtualRegister) (l : Location) (w : Way) → (IsGiven f v l w → ⊥) → IsAside f v l w
aside_not_given f v l Onward never = tt
aside_not_given f v l (ToSuccessor k) never = not_named v (block_at f (target_at f l.block k)).params (λ h. never (inr h))

pub never_given : (f : FunctionValue) (v : VirtualRegister) (l : Location) (w : Way) → Undefined (inst_at f l.inst).operands v → IsAside f v l w →
    IsGiven f v l w → ⊥
never_given f v l w none aside (inl d) = never_defines f v l.inst none d
never_given f v l Onward none aside (inr taken) = taken
never_given f v l (ToSuccessor k) none aside (inr has) =
    let there : names v (block_at f (target_at f l.block k)).params ≡ true = names_element v (block_at f (target_at f l.block k)).params has in
    let e : true ≡ false = sym there ∙ aside in cc
