-- The resources that an allocation may run out of.
use Rattle.std.specs.Prelude.{ℕ, ◌+◌, ◌*◌, ◌<◌, length}
use Rattle.regalloc2_names.specs.declared.RegAllocError.{RegAllocError}
use Rattle.regalloc2_names.specs.declared.RegAllocError.TheVariants.{CritEdge, SSA, BB, Branch, EntryLivein, DisallowedBranchArg, TooManyLiveRegs}
use Rattle.regalloc2_names.specs.declared.RegAllocError.TheVariants.{TooManyOperands, Unsupported, TooManySpillSlots, Memory}
use Rattle.regalloc2_fastalloc_state.specs.StateParts.{SpillSlotsValue, AreUpTo, most_units}

-- what may have run out: registers or spill slots, where these did, or memory
abbrev pub Lacks : Type 0 → Type 0 → RegAllocError → Type 0
Lacks TooFewRegs TooManySlots (CritEdge p b) = ⊥
Lacks TooFewRegs TooManySlots (SSA v i) = ⊥
Lacks TooFewRegs TooManySlots (BB b) = ⊥
Lacks TooFewRegs TooManySlots (Branch i) = ⊥
Lacks TooFewRegs TooManySlots EntryLivein = ⊥
Lacks TooFewRegs TooManySlots (DisallowedBranchArg i) = ⊥
Lacks TooFewRegs TooManySlots TooManyLiveRegs = TooFewRegs
Lacks TooFewRegs TooManySlots TooManyOperands = ⊥
Lacks TooFewRegs TooManySlots (Unsupported i) = ⊥
Lacks TooFewRegs TooManySlots TooManySpillSlots = TooManySlots
Lacks TooFewRegs TooManySlots Memory = Unit {0}

-- what the walk may run out of: registers, memory, or spill slots where these are full
abbrev pub IsResourceError : Type 0 → RegAllocError → Type 0
IsResourceError Full e = Lacks (Unit {0}) Full e

-- not registers, but memory, or spill slots where these are full
abbrev pub LacksSlots : Type 0 → RegAllocError → Type 0
LacksSlots Full e = Lacks ⊥ Full e

-- slots are full only where one for each vreg and `more` besides, aligned, may take more units than there are
abbrev pub SlotsExhaustedWith : SpillSlotsValue → ℕ → Type 0
SlotsExhaustedWith s more = (most : ℕ) → AreUpTo most s.sizes → most_units < (length s.vreg_spillslots + more) * (2 * most)

-- `SlotsExhaustedWith` the temporary slots that there are
abbrev pub SlotsExhausted : SpillSlotsValue → Type 0
SlotsExhausted s = SlotsExhaustedWith s s.num_temp_slots

-- an error that a step may return, for slots that are full once the temporary slots so far are counted
abbrev pub IsResourceErrorIn : SpillSlotsValue → RegAllocError → Type 0
IsResourceErrorIn s e = IsResourceError (SlotsExhausted s) e
