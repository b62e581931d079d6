-- A use under `Any`, whose vreg is in a slot.
use Rattle.std.proofs.Common.{ℕ, ◌≡◌, Bool, List, refl, sym, ap, ◌∙◌, subst, slice_index_or, slice_set, true, false, nat_eq}
use Rattle.std.specs.Prelude.{◌&&◌}
use Rattle.regalloc2_names.specs.declared.OperandConstraint.{OperandConstraint}
use Rattle.regalloc2_names.specs.declared.OperandConstraint.TheVariants.{Any}
use Rattle.regalloc2_names.specs.Place.{Place, NoPlace, InRegister, InSlot, is_in_slot, after}
use Rattle.regalloc2_names.specs.Operand.{OperandValue, is_def, is_fixed, is_fixed_nonallocatable, is_reading}
use Rattle.regalloc2_names.specs.Register.{Register, VirtualRegister}
use Rattle.regalloc2_function.specs.FunctionValue.{op_at}
use Rattle.regalloc2_fastalloc_state.specs.declared.inst_regs.InstRegs.{InstRegs}
use Rattle.regalloc2_fastalloc_state.specs.declared.request.OperandRequest.{OperandRequest}
use Rattle.regalloc2_fastalloc_state.specs.declared.request.Requirement.{Requirement}
use Rattle.regalloc2_fastalloc_state.specs.declared.request.Requirement.TheVariants.{AnyPlace, InPReg}
use Rattle.regalloc2_fastalloc_state.specs.StateParts.{alloc_of}
use Rattle.regalloc2_fastalloc_proofs.specs.InstSteps.{StateValue, AllocsUse, MeetsRequirement, ProcessesOperand, requirement_of, use_request, a_use}
use Rattle.regalloc2_fastalloc_proofs.specs.InstSteps.{awaited_less, in_slot, not_used, stays}
use Rattle.regalloc2_fastalloc_proofs.proofs.Operands.OperandRules.{use_vreg, reading}

-- the vreg stays in its slot: nothing is claimed, moved or noted
stays_in_slot : (point : ℕ) (request : OperandRequest) (s : ℕ) (t : InstRegs) (old : StateValue) → request.requirement ≡ AnyPlace →
    alloc_of old.places request.vreg.number ≡ InSlot s → AllocsUse point request (InSlot s) t t old old
unfolding MeetsRequirement
stays_in_slot point request s t old any at = record {
  middle = old;
  gets = record {
    middle = old;
    picks = stays at (subst (λ (w : Requirement). MeetsRequirement old w (InSlot s)) (sym any) (λ e. absurd cc)) refl;
    takes = record {
      claimed = old;
      occupies = in_slot s refl (record { early = refl; late = refl; scratch = refl }) refl;
      uses = not_used (λ r wants e. absurd cc) refl;
    };
    affordable = λ asked r e. absurd cc;
    expected_in = λ def asked r e. absurd cc;
  };
  uses = stays (λ e. absurd cc) refl;
  awaited = ap (λ (w : Requirement). awaited_less w request.vreg.class t.awaited) (sym any);
}

-- a use for which no reuse has chosen a register may have any place
requires_any_place : (o : OperandValue) (h : Place) → o.constraint ≡ Any → ((r : Register) → (use_request o h).requirement ≡ InPReg r → ⊥) →
    (use_request o h).requirement ≡ AnyPlace
requires_any_place o NoPlace any none = ap requirement_of any
requires_any_place o (InRegister r) any none = absurd (none r refl)
requires_any_place o (InSlot n) any none = ap requirement_of any

pub is_unfixed : (o : OperandValue) → o.constraint ≡ Any → is_fixed_nonallocatable o ≡ false
is_unfixed o any = ap (λ (c : OperandConstraint). is_fixed c && nat_eq o.vreg.number 1073741823) any

pub reads_vreg : (o : OperandValue) → is_def o.kind ≡ false → o.constraint ≡ Any → is_reading o ≡ true
reads_vreg o used any = reading (is_def o.kind) (is_fixed_nonallocatable o) used (is_unfixed o any)

-- the use is processed once its place is set
pub slot_use : {i : ℕ} {ends_block : Bool} {operands : List OperandValue} {k : ℕ} {here : List Place} {t : InstRegs} {old : StateValue} (o : OperandValue)
    (h p : Place)
    → o ≡ op_at operands k → h ≡ slice_index_or here k NoPlace → is_def o.kind ≡ false → o.constraint ≡ Any
    → (is_reading o ≡ true → (r : Register) → (use_request o h).requirement ≡ InPReg r → ⊥) → is_in_slot p ≡ true → alloc_of old.places o.vreg.number ≡ p
    → ProcessesOperand i ends_block operands k here (slice_set here k p) t t old old
slot_use o h NoPlace e f used any none slot at = absurd cc
slot_use o h (InRegister r) e f used any none slot at = absurd cc
slot_use {i} {operands} {k} {here} {t} {old} o h (InSlot s) e f used any none slot at =
    let request : OperandRequest = use_request o h in
    let same : request ≡ use_request (op_at operands k) (slice_index_or here k NoPlace) =
    ap (λ (x : OperandValue). use_request x h) e ∙ ap (use_request (op_at operands k)) f in
    a_use (InSlot s) (ap (λ (x : OperandValue). is_reading x) (sym e) ∙ reads_vreg o used any)
    (subst (λ (x : OperandRequest). AllocsUse (after i) x (InSlot s) t t old old) same
    (stays_in_slot (after i) request s t old (requires_any_place o h any (none (reads_vreg o used any)))
    (ap (λ (v : VirtualRegister). alloc_of old.places v.number) (use_vreg o h) ∙ at))) refl
