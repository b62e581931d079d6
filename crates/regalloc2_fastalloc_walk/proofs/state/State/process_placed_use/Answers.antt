use Rattle.std.proofs.Common.{ℕ, ◌≡◌, List, refl, sym, ap, ◌∙◌, subst, arith, false, slice_index_or}
use Rattle.std.proofs.lemmas.Result.{err_from_is_err_and}
use Rattle.regalloc2_names.specs.Register.{Register, VirtualRegister}
use Rattle.regalloc2_names.specs.Place.{Place, NoPlace, InRegister, InSlot, after}
use Rattle.regalloc2_names.specs.Operand.{OperandValue}
use Rattle.regalloc2_fastalloc_state.specs.Positions.{positions_of}
use Rattle.regalloc2_fastalloc_state.specs.declared.positions.Positions.{Positions}
use Rattle.regalloc2_fastalloc_state.specs.declared.request.Requirement.{Requirement}
use Rattle.regalloc2_fastalloc_state.specs.declared.request.Requirement.TheVariants.{InPReg}
use Rattle.regalloc2_fastalloc_state.specs.declared.request.OperandRequest.{OperandRequest}
use Rattle.regalloc2_function.specs.FunctionValue.{op_at}
use Rattle.regalloc2_fastalloc_state.proofs.ValidateLemmas.OperandReads.{read_operand}
use Rattle.regalloc2_fastalloc_proofs.specs.InstSteps.{AllocsUse, use_request, a_use, no_register, AllocUse, at_use}
use Rattle.regalloc2_fastalloc_walk.specs.StateView.{tables_of}
use Rattle.regalloc2_fastalloc_walk.proofs.state.State.process_placed_use.Goals as goal

-- what a use requires, whatever its place
parts : (o : OperandValue) (h : Place) →
    record { vreg = o.vreg; requirement = (use_request o h).requirement; positions = positions_of o; is_def = false } ≡ use_request o h
parts o NoPlace = refl
parts o (InRegister r) = refl
parts o (InSlot n) = refl

-- a use that requires a register is requested in that register
placed : (o p : OperandValue) (h : Place) (r : Register) (v : VirtualRegister) (at : Positions) → o ≡ p → (use_request p h).requirement ≡ InPReg r →
    v ≡ o.vreg → at ≡ positions_of o
    → record { vreg = v; requirement = InPReg r; positions = at; is_def = false } ≡ use_request p h
placed o p h r v at same known is_v is_at =
    ap (λ (x : VirtualRegister). record { vreg = x; requirement = InPReg r; positions = at; is_def = false }) (is_v ∙ ap (λ (x : OperandValue). x.vreg) same)
    ∙ ap (λ (x : Positions). record { vreg = p.vreg; requirement = InPReg r; positions = x; is_def = false }) (is_at ∙ ap positions_of same)
    ∙ ap (λ (x : Requirement). record { vreg = p.vreg; requirement = x; positions = positions_of p; is_def = false }) (sym known) ∙ parts p h

pub returns-clause-outcome : goal.returns-clause-outcome
returns-clause-outcome g c =
    let ops : List OperandValue = c.args.cx.now.operands.now in
    let h : Place = slice_index_or c.args.allocs.now c.args.k NoPlace in
    let o : c.index-operands-k.result ≡ op_at ops c.args.k = read_operand ops c.args.k c.index-operands-k.result c.requires.inside c.index-operands-k.is in
    let at : c.after-point.result ≡ after c.args.cx.now.inst = c.after-point.ensures.point (λ e. omega (arith, c.requires.inst)) in
    let asked = placed c.index-operands-k.result (op_at ops c.args.k) h c.args.preg c.vreg.result c.of.result o c.requires.known c.vreg.ensures c.of.ensures in
    let request : OperandRequest = record { vreg = c.vreg.result; requirement = InPReg c.args.preg; positions = c.of.result; is_def = false } in
    let P : ℕ → OperandRequest → Type 0 =
    λ n x. AllocsUse n x c.in_ok-allocs.field-0 c.args.inst_regs.now c.alloc_use.new.inst_regs (tables_of c.args.self.now) (tables_of c.alloc_use.new.self) in
    a_use c.in_ok-allocs.field-0 c.requires.reading
    (subst (P (after c.args.cx.now.inst)) asked (subst (λ (n : ℕ). P n request) at c.in_ok-allocs.ensures.outcome)) refl

-- the use gets no place
pub returns-in_err-allocs-clause-outcome : goal.returns-in_err-allocs-clause-outcome
returns-in_err-allocs-clause-outcome g c =
    let ops : List OperandValue = c.args.cx.now.operands.now in
    let h : Place = slice_index_or c.args.allocs.now c.args.k NoPlace in
    let o : c.index-operands-k.result ≡ op_at ops c.args.k = read_operand ops c.args.k c.index-operands-k.result c.requires.inside c.index-operands-k.is in
    let asked = placed c.index-operands-k.result (op_at ops c.args.k) h c.args.preg c.vreg.result c.of.result o c.requires.known c.vreg.ensures c.of.ensures in
    let at : c.after-point.result ≡ after c.args.cx.now.inst = c.after-point.ensures.point (λ e. omega (arith, c.requires.inst)) in
    let P : ℕ → OperandRequest → Type 0 = λ n x. AllocUse n x c.args.inst_regs.now (tables_of c.args.self.now) no_register in
    let request : OperandRequest = record { vreg = c.vreg.result; requirement = InPReg c.args.preg; positions = c.of.result; is_def = false } in
    let e = err_from_is_err_and c.from_residual.result c.from_residual.ensures.1 in
    rw e.1 (λ same. at_use c.requires.reading
    (subst (P (after c.args.cx.now.inst)) asked (subst (λ (n : ℕ). P n request) at (c.in_err-allocs.ensures.outcome (sym e.2 ∙ same)))))
