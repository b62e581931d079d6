-- Functions with registers for all vregs: what they name, as a list.
use Rattle.std.proofs.Common.{ℕ, zero, suc, ◌≡◌, ◌<◌, ◌≤◌, inl, inr, List, [], ◌∷◌, ◌++◌, true, length, refl, arith}
use Rattle.std.specs.Prelude.{Contains, map, slice_index_or}
use Rattle.std.proofs.lemmas.List.Elements.{Contains-append_cases, Contains-append_left, Contains-append_right}
use Rattle.regalloc2_names.specs.declared.sets.PRegSet.{PRegSet}
use Rattle.regalloc2_names.specs.Operand.{OperandValue}
use Rattle.regalloc2_names.specs.Register.{Register, VirtualRegister, has_register}
use Rattle.regalloc2_semantics.specs.Fits.{register_number}
use Rattle.regalloc2_function.specs.Machine.{allocatable_count, count_below, MachineValue, is_allocatable}
use Rattle.regalloc2_function.specs.FunctionValue.{FunctionValue, InstValue, no_inst, op_at}
use Rattle.regalloc2_fastalloc_state.proofs.CountingLaws.{count_le}
use Rattle.regalloc2_fastalloc_proofs.specs.Unspilled.SpillFree.{FitInRegs, HasRegOperandsOnly}
use Rattle.regalloc2_fastalloc.specs.Guarantee.{HasRegistersForAll}

-- the vregs that some instructions name
unfoldable pub names_in : List InstValue → List VirtualRegister
names_in [] = []
names_in (i ∷ is) = map (λ (o : OperandValue). o.vreg) i.operands ++ names_in is

in_operands : (ops : List OperandValue) (k : ℕ) → k < length ops → Contains (map (λ (o : OperandValue). o.vreg) ops) (op_at ops k).vreg
in_operands [] k lt = absurd (omega (arith, lt))
in_operands (o ∷ os) zero lt = (0, omega arith, refl)
in_operands (o ∷ os) (suc k) lt = (let h = in_operands os k (omega (arith, lt)) in (suc h.0, omega (arith, h.1), h.2))

from_operands : (ops : List OperandValue) (v : VirtualRegister) → Contains (map (λ (o : OperandValue). o.vreg) ops) v → (k : ℕ) × (k < length ops)
    × ((op_at ops k).vreg ≡ v)
from_operands [] v (j, lt, at) = absurd (omega arith)
from_operands (o ∷ os) v (zero, lt, at) = (0, omega arith, at)
from_operands (o ∷ os) v (suc j, lt, at) = (let h = from_operands os v (j, omega arith, at) in (suc h.0, omega (arith, h.1), h.2))

in_names : (is : List InstValue) (i k : ℕ) → i < length is → k < length (slice_index_or is i no_inst).operands →
    Contains (names_in is) (op_at (slice_index_or is i no_inst).operands k).vreg
unfolding names_in
in_names [] i k lt less = absurd (omega (arith, lt))
in_names (x ∷ xs) zero k lt less = Contains-append_left (map (λ (o : OperandValue). o.vreg) x.operands) (names_in xs) (op_at x.operands k).vreg
    (in_operands x.operands k less)
in_names (x ∷ xs) (suc i) k lt less = Contains-append_right (map (λ (o : OperandValue). o.vreg) x.operands) (names_in xs)
    (op_at (slice_index_or xs i no_inst).operands k).vreg (in_names xs i k (omega (arith, lt)) less)

from_names : (is : List InstValue) (v : VirtualRegister) → Contains (names_in is) v → (i k : ℕ) × (i < length is)
    × (k < length (slice_index_or is i no_inst).operands) × ((op_at (slice_index_or is i no_inst).operands k).vreg ≡ v)
unfolding names_in
from_names [] v (j, lt, at) = absurd (omega arith)
from_names (x ∷ xs) v c = elim (Contains-append_cases (map (λ (o : OperandValue). o.vreg) x.operands) (names_in xs) v c) [
  | inl a ↦ (let h = from_operands x.operands v a in (0, h.0, omega arith, h.1, h.2))
  | inr b ↦ (let h = from_names xs v b in (suc h.0, h.1, omega (arith, h.2), h.3, h.4))
]

-- a function with registers for all vregs has one block, operands under `Reg` and no clobbers, and names listed vregs
pub requires_only_registers : (f : FunctionValue) (env : MachineValue) → HasRegistersForAll f env → HasRegOperandsOnly (names_in f.insts) f
requires_only_registers f env h = record {
  one_block = h.one_block;
  under_reg = h.under_reg;
  named = λ i k lt less. in_names f.insts i k lt less;
  no_others = λ v c. from_names f.insts v c;
  no_clobbers = h.no_clobbers;
}

-- a function with registers for all names no more vregs of a class than registers of it are allocatable
pub are_few : (f : FunctionValue) (env : MachineValue) (allocatable : PRegSet) → HasRegistersForAll f env →
    ((r : Register) → is_allocatable env r.class r ≡ true → has_register allocatable r ≡ true) → FitInRegs (names_in f.insts) allocatable
unfolding allocatable_count
are_few f env allocatable h all class vs distinct named =
    let most : length vs ≤ allocatable_count env class = h.enough class vs distinct
    (λ k d lt. (let n = named k d lt in let at = from_names f.insts (slice_index_or vs k d) n.1 in (n.0, (at.0, at.1, (at.2, at.3, at.4))))) in
    let more : count_below (λ n. is_allocatable env class (register_number class n)) 64 ≤ count_below (λ n. has_register allocatable (register_number class n))
    64 =
    count_le (λ n. is_allocatable env class (register_number class n)) (λ n. has_register allocatable (register_number class n)) 64
    (λ n lt e. all (register_number class n) e) in
    omega (arith, most, more)
