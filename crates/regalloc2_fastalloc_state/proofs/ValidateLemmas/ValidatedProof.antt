-- A function that passes the tests is well-formed, and each error that they return has its reason.
use Rattle.std.proofs.Common.{ℕ, ◌≡◌, ◌<◌, ◌⊎◌, true, length, inl, inr, refl, Ok, Err}
use Rattle.std.specs.Prelude.{OnOk, IsOk, Result}
use Rattle.std.proofs.lemmas.List.Elements.{All-from_get_or}
use Rattle.regalloc2_names.specs.declared.RegAllocError.{RegAllocError}
use Rattle.regalloc2_names.specs.declared.RegAllocError.TheVariants.{Memory}
use Rattle.regalloc2_function.specs.FunctionValue.{FunctionValue, inst_at, no_inst}
use Rattle.regalloc2_function.specs.Machine.{MachineValue}
use Rattle.regalloc2_function.specs.Reasons.{HasShape, IsShapeFault, HasSoundness, IsSoundnessFault, IsFunctionFault}
use Rattle.regalloc2_function.specs.WellFormed.{ReusesAreSound, FixedAvoidClobbers, IsWellFormed}
use Rattle.regalloc2_function.specs.Reasons.IsFunctionFault.{memory, misshapen, unsound, unsound_reuse, clashing}
use Rattle.regalloc2_fastalloc_state.specs.Validate.Constraints.{IsFixedFault}

-- what the tests test is what a well-formed function has
pub tested_well_formed : (f : FunctionValue) (env : MachineValue) → HasShape f → HasSoundness f → ((i : ℕ) → i < length f.insts → ReusesAreSound env (inst_at f i)) →
    ((i : ℕ) → i < length f.insts → FixedAvoidClobbers (inst_at f i)) → IsWellFormed env f
tested_well_formed f env shape sound reuses fixed = record {
  successors = shape.successors;
  follow = shape.follow;
  predecessors = shape.predecessors;
  no_critical_edge = shape.no_critical_edge;
  no_operands_into_joins = shape.no_operands_into_joins;
  entry = sound.entry;
  end = sound.end;
  counted = sound.counted;
  classes = sound.classes;
  defined_once = sound.defined_once;
  uses_defined = sound.uses_defined;
  reuses = All-from_get_or (ReusesAreSound env) f.insts no_inst reuses;
  fixed = All-from_get_or FixedAvoidClobbers f.insts no_inst fixed;
}

-- a function passes where the last of the tests returns the result for the instructions
pub tested_on_ok : {T E : Type 0} (f : FunctionValue) (env : MachineValue) (r : Result T E) → HasShape f → HasSoundness f →
    OnOk r ((i : ℕ) → i < length f.insts → ReusesAreSound env (inst_at f i))
    → OnOk r ((i : ℕ) → i < length f.insts → FixedAvoidClobbers (inst_at f i)) → OnOk r (IsWellFormed env f)
tested_on_ok f env (Ok x) shape sound reuses fixed = tested_well_formed f env shape sound reuses fixed
tested_on_ok f env (Err e) shape sound reuses fixed = tt

-- out of memory or an error of the first tests is an error of the whole validation
pub shape_fault : (f : FunctionValue) (env : MachineValue) (e : RegAllocError) → (e ≡ Memory) ⊎ IsShapeFault f e → IsFunctionFault f env e
shape_fault f env e (inl m) = rw m memory
shape_fault f env e (inr h) = misshapen h

-- where the shape is right, out of memory or an error of the second tests is an error of the whole validation
pub soundness_fault : (f : FunctionValue) (env : MachineValue) (e : RegAllocError) → HasShape f → (e ≡ Memory) ⊎ IsSoundnessFault f e → IsFunctionFault f env e
soundness_fault f env e shape (inl m) = rw m memory
soundness_fault f env e shape (inr h) = unsound shape h

-- where all else is right, an error of reuses or fixed registers is an error of the whole validation
pub fixed_fault : (f : FunctionValue) (env : MachineValue) → HasShape f → HasSoundness f → (e : RegAllocError) → IsFixedFault f env e →
    IsFunctionFault f env e
fixed_fault f env shape sound e (i, is, inl first) = rw is (unsound_reuse i shape sound first)
fixed_fault f env shape sound e (i, is, inr (reuses, first)) = rw is (clashing i shape sound reuses first)

-- where the last test passes, what is known anyway and what the test says
pub on_ok_any : {T E P : Type 0} (r : Result T E) → P → OnOk r P
on_ok_any (Ok x) p = p
on_ok_any (Err e) p = tt

pub on_ok_if : {T E P : Type 0} (r : Result T E) → (IsOk r → P) → OnOk r P
on_ok_if (Ok x) p = p (refl {a = true})
on_ok_if (Err e) p = tt
