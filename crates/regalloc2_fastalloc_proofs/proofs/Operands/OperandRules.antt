-- The operands of an instruction, as they are placed.
use Rattle.std.proofs.Common.{ℕ, ◌≡◌, ◌<◌, Bool, true, false, List, length, refl, sym, ap, ◌∙◌, subst, slice_index_or}
use Rattle.std.specs.Prelude.{None, Some, ◌&&◌, not, nat_eq, if◌then◌else◌, slice_set}
use Rattle.std.proofs.lemmas.Bool.{and_right}
use Rattle.regalloc2_names.specs.declared.OperandConstraint.{OperandConstraint}
use Rattle.regalloc2_names.specs.declared.OperandConstraint.TheVariants.{FixedReg, Reuse}
use Rattle.regalloc2_names.specs.Register.{Register, VirtualRegister}
use Rattle.regalloc2_names.specs.Place.{Place, NoPlace, InRegister, InSlot, after}
use Rattle.regalloc2_names.specs.Operand.{OperandValue, fixed_register, nonallocatable_register, is_def, is_fixed, is_fixed_nonallocatable, is_reading}
use Rattle.regalloc2_fastalloc_state.specs.declared.inst_regs.InstRegs.{InstRegs}
use Rattle.regalloc2_fastalloc_state.specs.declared.request.OperandRequest.{OperandRequest}
use Rattle.regalloc2_function.specs.FunctionValue.{op_at}
use Rattle.regalloc2_fastalloc_proofs.specs.InstSteps.{StateValue, InTables, use_request, def_request, reuse_request, AllocsUse, AllocsDefOp}
use Rattle.regalloc2_fastalloc_proofs.specs.InstSteps.{ProcessesOperand, a_register, a_use, a_def, a_reuse}

-- an operand that names a register and no vreg
marked : (b : Bool) (k : OperandConstraint) (r : Register) → (if b then fixed_register k else None) ≡ Some r → ((is_fixed k && b) ≡ true) × (k ≡ FixedReg r)
marked true (FixedReg q) r e = let same : q ≡ r = cc in (refl, ap FixedReg same)
marked b k r e = absurd cc

unmarked : (b : Bool) (k : OperandConstraint) → (if b then fixed_register k else None) ≡ None → (is_fixed k && b) ≡ false
unmarked true (FixedReg q) e = absurd cc
unmarked true k e = refl
unmarked false k e = and_right (is_fixed k) false refl

-- an operand that names no nonallocatable register isn't fixed to one
pub is_unmarked : (o : OperandValue) → nonallocatable_register o ≡ None → is_fixed_nonallocatable o ≡ false
is_unmarked o e = unmarked (nat_eq o.vreg.number 1073741823) o.constraint e

-- an operand's vreg is in the tables
pub op_in_tables : (operands : List OperandValue) (k : ℕ) (o : OperandValue) (t : StateValue) → k < length operands → o ≡ op_at operands k →
    is_fixed_nonallocatable o ≡ false → InTables operands t
    → o.vreg.number < length t.places.vreg_allocs
op_in_tables operands k o t lt e not_it within =
    subst (λ (x : OperandValue). x.vreg.number < length t.places.vreg_allocs) (sym e)
    (within k lt (sym (ap (λ (x : OperandValue). is_fixed_nonallocatable x) e) ∙ not_it))

pub use_vreg : (o : OperandValue) (h : Place) → (use_request o h).vreg ≡ o.vreg
use_vreg o NoPlace = refl
use_vreg o (InRegister r) = refl
use_vreg o (InSlot n) = refl

-- the vreg of a use has an entry in the table of locations
pub use_in_tables : (operands : List OperandValue) (k : ℕ) (o : OperandValue) (h : Place) (request : OperandRequest) (t : StateValue) → k < length operands →
    o ≡ op_at operands k → request ≡ use_request o h
    → is_fixed_nonallocatable o ≡ false → InTables operands t → request.vreg.number < length t.places.vreg_allocs
use_in_tables operands k o h request t lt e p not_it within =
    subst (λ (v : ℕ). v < length t.places.vreg_allocs)
    (sym (ap (λ (x : OperandRequest). x.vreg.number) p ∙ ap (λ (v : VirtualRegister). v.number) (use_vreg o h)))
    (op_in_tables operands k o t lt e not_it within)

-- the four cases
pub processes_operand_register : (i : ℕ) (ends_block : Bool) (operands : List OperandValue) (k : ℕ) (here : List Place) (t : InstRegs) (m : StateValue)
    (o : OperandValue)
    (r : Register) (q : Place)
    → o ≡ op_at operands k → nonallocatable_register o ≡ Some r → q ≡ InRegister r → ProcessesOperand i ends_block operands k here (slice_set here k q) t t m m
processes_operand_register i ends_block operands k here t m o r q e h p =
    let f = marked (nat_eq o.vreg.number 1073741823) o.constraint r h in
    a_register r (ap (λ (x : OperandValue). is_fixed_nonallocatable x) (sym e) ∙ f.0) (ap (λ (x : OperandValue). x.constraint) (sym e) ∙ f.1)
    (ap (λ (x : Place). slice_set here k x) p) refl refl

pub reading : (a b : Bool) → a ≡ false → b ≡ false → (not a && not b) ≡ true
reading true b e f = absurd cc
reading false true e f = absurd cc
reading false false e f = refl

-- a use that got its place and isn't fixed to a nonallocatable register is an operand that was processed: its place
-- alone is set
pub processes_operand_use : {i : ℕ} {ends_block : Bool} {operands : List OperandValue} {k : ℕ} {here : List Place} {t u : InstRegs} {old new : StateValue}
    (o : OperandValue)
    (h : Place) {request : OperandRequest} {point : ℕ} {p : Place}
    → o ≡ op_at operands k → h ≡ slice_index_or here k NoPlace → request ≡ use_request o h → point ≡ after i → is_fixed_nonallocatable o ≡ false →
    is_def o.kind ≡ false
    → AllocsUse point request p t u old new → ProcessesOperand i ends_block operands k here (slice_set here k p) t u old new
processes_operand_use {i} {k} {here} {t} {u} {old} {new} o h {request} {p} e f g at not_it kind placed =
    let P : ℕ → OperandRequest → Type 0 = λ n x. AllocsUse n x p t u old new in
    a_use p (ap (λ (x : OperandValue). is_reading x) (sym e) ∙ reading (is_def o.kind) (is_fixed_nonallocatable o) kind not_it)
    (subst (P (after i)) (g ∙ ap (use_request o) f ∙ ap (λ (x : OperandValue). use_request x (slice_index_or here k NoPlace)) e)
    (subst (λ (n : ℕ). P n request) at placed)) refl

-- a definition that is no reuse and got its place is an operand that was processed: its place alone is set
pub processes_operand_def : {i : ℕ} {ends_block : Bool} {operands : List OperandValue} {k : ℕ} {here : List Place} {t u : InstRegs} {old new : StateValue}
    (o : OperandValue)
    {request : OperandRequest} {point : ℕ} {p : Place}
    → o ≡ op_at operands k → request ≡ def_request o → point ≡ after i → is_def o.kind ≡ true → ((n : ℕ) → o.constraint ≡ Reuse n → ⊥)
    → AllocsDefOp point request ends_block p t u old new → ProcessesOperand i ends_block operands k here (slice_set here k p) t u old new
processes_operand_def {i} {ends_block} {t} {u} {old} {new} o {request} {p} e g at def not_it placed =
    let P : ℕ → OperandRequest → Type 0 = λ n x. AllocsDefOp n x ends_block p t u old new in
    a_def p (ap (λ (x : OperandValue). is_def x.kind) (sym e) ∙ def) (λ n h. not_it n (ap (λ (x : OperandValue). x.constraint) e ∙ h))
    (subst (P (after i)) (g ∙ ap (λ (x : OperandValue). def_request x) e) (subst (λ (n : ℕ). P n request) at placed)) refl

-- a reuse that got its place is an operand that was processed: its place is set, and that of the use that it names
pub processes_operand_reuse : {i : ℕ} {ends_block : Bool} {operands : List OperandValue} {k : ℕ} {here there : List Place} {t u : InstRegs} {old new : StateValue}
    (o : OperandValue) (n : ℕ) {request : OperandRequest} {point : ℕ} {p : Place}
    → o ≡ op_at operands k → request ≡ reuse_request o (op_at operands n) → point ≡ after i → is_def o.kind ≡ true → o.constraint ≡ Reuse n →
    there ≡ slice_set (slice_set here k p) n p
    → AllocsDefOp point request ends_block p t u old new → ProcessesOperand i ends_block operands k here there t u old new
processes_operand_reuse {i} {ends_block} {operands} {t} {u} {old} {new} o n {request} {p} e g at def names set placed =
    let P : ℕ → OperandRequest → Type 0 = λ j x. AllocsDefOp j x ends_block p t u old new in
    a_reuse n p (ap (λ (x : OperandValue). is_def x.kind) (sym e) ∙ def) (ap (λ (x : OperandValue). x.constraint) (sym e) ∙ names)
    (subst (P (after i)) (g ∙ ap (λ (x : OperandValue). reuse_request x (op_at operands n)) e) (subst (λ (j : ℕ). P j request) at placed)) set
