-- What a branch defines, by the tables, and what is done for one argument of a branch.
use Rattle.std.specs.Prelude.{ℕ, ◌≡◌, Some}
use Rattle.regalloc2_names.specs.Register.{VirtualRegister}
use Rattle.regalloc2_names.specs.Place.{Place}
use Rattle.regalloc2_analysis.specs.BranchDefs.Tables.{site_of}
use Rattle.regalloc2_analysis.specs.declared.branch_defs.BranchDefs.{BranchDefs}
use Rattle.regalloc2_fastalloc_state.specs.StateParts.{GetsSpillSlot}
use Rattle.regalloc2_fastalloc_state.specs.declared.inst_regs.InstRegs.{InstRegs}
use Rattle.regalloc2_fastalloc_proofs.specs.InstSteps.{StateValue, Outcome, next, no_register, SameMachine}
use Rattle.regalloc2_fastalloc_proofs.specs.BranchSteps.{SpillsArgument, SpillArgument}

-- the tables say that the branch defines v's number
abbrev pub IsOwnBy : {A : Type 0} → BranchDefs A → ℕ → VirtualRegister → Type 0
IsOwnBy defs branch v = (k : ℕ) × (site_of defs v.number ≡ Some (record { branch = branch; index = k }))

-- a parameter's slot is made if need be, and the argument is in its own from now on
pub record GathersArgument (point : ℕ) (param argument : VirtualRegister) (to from : Place) (t u : InstRegs) (old new : StateValue) : Type 0 where
  pub middle : StateValue
  pub slot : GetsSpillSlot old.slots middle.slots param to
  pub places : middle.places ≡ old.places
  pub edits : middle.edits ≡ old.edits
  pub lrus : middle.lrus ≡ old.lrus
  pub machine : SameMachine old middle
  pub spills : SpillsArgument point argument from t u middle new

-- the argument is spilled, or it can't be
abbrev pub GatherArgument : ℕ → VirtualRegister → VirtualRegister → InstRegs → StateValue → Outcome (Place × Place × InstRegs) → Type 0
GatherArgument point param argument t old (next (to, from, u) new) = GathersArgument point param argument to from t u old new
GatherArgument point param argument t old no_register = (m : StateValue) × (m.places ≡ old.places) × SameMachine old m
    × SpillArgument point argument t m no_register
