-- Each error of the tests and of the walk has its reason.
use Rattle.std.proofs.Common.{ℕ, length, inr, sym, ◌⊎◌, ◌≡◌, ◌^◌, ◌<◌, ◌≤◌, Bool, true, Err, refl, subst, inl, arith}
use Rattle.std.specs.Prelude.{◌↔◌, IfErr, Result}
use Rattle.std.proofs.lemmas.List.Elements.{All-get_or}
use Rattle.regalloc2_names.specs.declared.RegAllocError.{RegAllocError}
use Rattle.regalloc2_names.specs.declared.RegAllocError.TheVariants.{SSA, TooManyLiveRegs, TooManyOperands, TooManySpillSlots, Memory}
use Rattle.regalloc2_function.specs.FunctionValue.{FunctionValue, inst_at, no_inst, no_operand, operand_count}
use Rattle.regalloc2_function.specs.Machine.{MachineValue}
use Rattle.regalloc2_function.specs.WellFormed.{FixedAvoidClobbers, IsWellFormed, ReusesAreSound, AreUnlimited}
use Rattle.regalloc2_function.specs.Reasons.{HasShape, IsFirstRepeat, IsShapeFault, IsSoundnessFault, IsFunctionFault}
use Rattle.regalloc2_function.specs.Reasons.IsShapeFault.{apart, critical, operands, outside, unlisted}
use Rattle.regalloc2_function.specs.Reasons.IsSoundnessFault.{arguments, elsewhere, livein, open_end, repeated, undefined}
use Rattle.regalloc2_function.proofs.ErrorOnlyOutOfMemory.{shape_refused}
use Rattle.regalloc2_function.proofs.TableDecidesSSA.{only_memory}
use Rattle.regalloc2_fastalloc_state.specs.Validate.NoLimits.{IsTakenOperand}
use Rattle.regalloc2_fastalloc_walk.specs.Findings.{AllPassTests}
use Rattle.regalloc2_fastalloc_state.specs.OutOfResources.{Lacks, IsResourceError}
use Rattle.regalloc2_fastalloc.specs.ErrorReason.{PassesAllChecks, IsReason}
use Rattle.regalloc2_fastalloc.specs.Survey.{LacksIfPassed, IsRefusal, SomeDoesNotFit}
use Rattle.regalloc2_semantics.specs.Places.{units_at_most}
use Rattle.regalloc2_function.specs.Reasons.IsFunctionFault.{memory, misshapen, unsound, unsound_reuse, clashing}

-- a well-formed function passes the tests of blocks and edges
shape_of : (f : FunctionValue) (env : MachineValue) → IsWellFormed env f → HasShape f
shape_of f env w = record {
  successors = w.successors;
  follow = w.follow;
  predecessors = w.predecessors;
  no_critical_edge = w.no_critical_edge;
  no_operands_into_joins = w.no_operands_into_joins;
}

-- the errors of the entry, terminators, arguments, definitions and uses are reasons
no_soundness_fault : (f : FunctionValue) (env : MachineValue) {e : RegAllocError} → IsWellFormed env f → IsSoundnessFault f e → ⊥
no_soundness_fault f env w (elsewhere h) = h w.entry.0
no_soundness_fault f env w (livein z h) = h w.entry.1
no_soundness_fault f env w (open_end b entry h) = h.1 (w.end b h.0)
no_soundness_fault f env w (arguments b entry end h) = h.1 (w.classes b h.0)
no_soundness_fault f env w (repeated v i entry end fit repeat) =
    let e : SSA v i ≡ Memory = only_memory f w.follow (omega (arith, w.successors.0)) w.defined_once w.uses_defined (SSA v i) (inl repeat) in absurd cc
no_soundness_fault f env w (undefined u entry end fit once h) =
    let e : SSA u.vreg u.inst ≡ Memory = only_memory f w.follow (omega (arith, w.successors.0)) w.defined_once w.uses_defined (SSA u.vreg u.inst)
    (inr (once, (u.point, h))) in absurd cc

shape_reason : (f : FunctionValue) (env : MachineValue) (asked : Bool) {e : RegAllocError} → operand_count f < 2 ^ 32 → asked ≡ true → IsShapeFault f e →
    IsReason f env asked e
shape_reason f env asked p on h = shape_cases h (λ w. shape_refused f (shape_of f env w) h)
  where
    shape_cases : {e : RegAllocError} → IsShapeFault f e → (IsWellFormed env f → ⊥) → IsReason f env asked e
    shape_cases (outside s h) malformed = (p, on, malformed, misshapen (outside s h))
    shape_cases (apart b blocks h) malformed = (p, on, malformed, misshapen (apart b blocks h))
    shape_cases (unlisted b blocks follow h) malformed = (p, on, malformed, misshapen (unlisted b blocks follow h))
    shape_cases (critical b q blocks follow agree h fork) malformed = (p, on, malformed, misshapen (critical b q blocks follow agree h fork))
    shape_cases (operands b blocks follow agree edges h) malformed = (p, on, malformed, misshapen (operands b blocks follow agree edges h))

soundness_reason : (f : FunctionValue) (env : MachineValue) (asked : Bool) {e : RegAllocError} → operand_count f < 2 ^ 32 → asked ≡ true → HasShape f →
    IsSoundnessFault f e → IsReason f env asked e
soundness_reason f env asked p on shape h = soundness_cases h (λ w. no_soundness_fault f env w h)
  where
    soundness_cases : {e : RegAllocError} → IsSoundnessFault f e → (IsWellFormed env f → ⊥) → IsReason f env asked e
    soundness_cases (elsewhere ne) malformed = (p, on, malformed, unsound shape (elsewhere ne))
    soundness_cases (livein z ne) malformed = (p, on, malformed, unsound shape (livein z ne))
    soundness_cases (open_end b entry h) malformed = (p, on, malformed, unsound shape (open_end b entry h))
    soundness_cases (arguments b entry end h) malformed = (p, on, malformed, unsound shape (arguments b entry end h))
    soundness_cases (repeated v i entry end fit repeat) malformed = (p, on, malformed, unsound shape (repeated v i entry end fit repeat))
    soundness_cases (undefined u entry end fit once h) malformed = (p, on, malformed, unsound shape (undefined u entry end fit once h))

-- an error is a reason, where its test is required
pub fault_is_reason : (f : FunctionValue) (env : MachineValue) (asked : Bool) {e : RegAllocError} → operand_count f < 2 ^ 32 → asked ≡ true → IsFunctionFault f env e →
    IsReason f env asked e
fault_is_reason f env asked p on memory = p
fault_is_reason f env asked p on (misshapen h) = shape_reason f env asked p on h
fault_is_reason f env asked p on (unsound shape h) = soundness_reason f env asked p on shape h
fault_is_reason f env asked p on (unsound_reuse i shape sound h) =
    inl (p, on, λ w. h.1 (All-get_or (ReusesAreSound env) f.insts i no_inst h.0 w.reuses), unsound_reuse i shape sound h)
fault_is_reason f env asked p on (clashing i shape sound reuses h) =
    inl (p, on, λ w. h.1 (All-get_or FixedAvoidClobbers f.insts i no_inst h.0 w.fixed), clashing i shape sound reuses h)

-- what the walk lacks, where it says when registers and slots do
pub lacks_of_resource_error : (R P Q : Type 0) → (P → Q) → (e : RegAllocError) → IsResourceError P e → (e ≡ TooManyLiveRegs → R) → Lacks R Q e
lacks_of_resource_error R P Q more TooManyLiveRegs h where_it = where_it refl
lacks_of_resource_error R P Q more TooManySpillSlots h where_it = more h
lacks_of_resource_error R P Q more e h where_it = h

-- what may be lacking is a reason, after all tests
pub lack_is_a_reason : (f : FunctionValue) (env : MachineValue) (asked : Bool) → PassesAllChecks f env asked → (e : RegAllocError) →
    Lacks (SomeDoesNotFit f env) (2 ^ 24 < units_at_most f) e → IsReason f env asked e
lack_is_a_reason f env asked p TooManyLiveRegs h = (p, h)
lack_is_a_reason f env asked p TooManySpillSlots h = (p, h)
lack_is_a_reason f env asked p Memory h = p.first
lack_is_a_reason f env asked p e h = absurd h

-- operands that pass their tests have no limit
pub passed_unlimited : (f : FunctionValue) → AllPassTests f → (i : ℕ) → i < length f.insts → AreUnlimited (inst_at f i)
passed_unlimited f all i lt k less = (All-get_or IsTakenOperand (inst_at f i).operands k no_operand less (all i lt).taken).unlimited

-- where all instructions pass, no test refuses one
pub passed_not_refused : (f : FunctionValue) (e : RegAllocError) → AllPassTests f → IsRefusal f e → ⊥
passed_not_refused f e all (i, is, inl limited) = limited.1 (passed_unlimited f all i limited.0)
passed_not_refused f e all (i, is, inr (unlimited, branch)) = branch.1 (all i branch.0).branch

-- what may be lacking is a reason if all operands pass their tests; else the refusal is
pub allocation_reason : (f : FunctionValue) (env : MachineValue) (asked : Bool) → operand_count f < 2 ^ 32 → (asked ≡ true → IsWellFormed env f) → (error e : RegAllocError) →
    LacksIfPassed f env error → IsRefusal f e ⊎ ((e ≡ error) × AllPassTests f) → IsReason f env asked e
allocation_reason f env asked few owed error e lacks (inl r) = subst (IsReason f env asked) (sym r.1) (inr (few, owed, r.2))
allocation_reason f env asked few owed error e lacks (inr (is, all)) = subst (IsReason f env asked) (sym is)
    (lack_is_a_reason f env asked
    (record { first = few; well_formed = owed; unlimited = passed_unlimited f all; branches = λ i lt. (all i lt).branch }) error (lacks all))

-- where operands are few, no error says that they are too many
pub counted_alone : {T : Type 0} (f : FunctionValue) (env : MachineValue) (asked : Bool) (r : Result T RegAllocError) → operand_count f < 2 ^ 32 →
    IfErr r (IsReason f env asked) → (r ≡ Err TooManyOperands) ↔ (2 ^ 32 ≤ operand_count f)
counted_alone {T = T} f env asked r few h = (
  λ e. subst (λ (s : Result T RegAllocError). IfErr s (IsReason f env asked)) e h,
  λ many. absurd (omega (arith, few, many)),
)
