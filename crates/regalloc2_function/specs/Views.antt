-- What outputs, their listings and machines stand for.
use Rattle.std.specs.Prelude.{ℕ, ◌-◌, List, map}
use Rattle.regalloc2_function.specs.Machine.{MachineValue}
use Rattle.regalloc2_function.specs.OutputValue.{OutputValue, MoveValue}
use Rattle.regalloc2_function.specs.Listing.{Listed, ListedInst, ListedMove, listing_left}
use Rattle.regalloc2_function.specs.declared.listing.Edit.{Edit}
use Rattle.regalloc2_function.specs.declared.listing.Edit.TheVariants.{Move}
use Rattle.regalloc2_function.specs.declared.listing.InstOrEdit.{InstOrEdit}
use Rattle.regalloc2_function.specs.declared.listing.InstOrEdit.TheVariants.{Inst, Edit as AnEdit}
use Rattle.regalloc2_function.specs.declared.listing.OutputIter.{OutputIter}
use Rattle.regalloc2_function.specs.declared.listing.Output.{Output}
use Rattle.regalloc2_function.specs.declared.machine.MachineEnv.{MachineEnv}

abbrev pub move_of : Edit → MoveValue
move_of (Move from to) = record { from = from; to = to }

-- an edit with its point
abbrev pub edit_of : (ℕ × Edit) → (ℕ × MoveValue)
edit_of e = (e.0, move_of e.1)

abbrev pub output_of : {A : Type 0} → Output A → OutputValue
output_of o = record {
  num_spillslots = o.num_spillslots;
  edits = map edit_of o.edits.items;
  allocs = o.allocs.items;
  offsets = o.inst_alloc_offsets.items;
  debug_locations = map (λ d. record { label = d.0; start = d.1; end = d.2; place = d.3 }) o.debug_locations.items;
}

-- an item of a listing
abbrev pub item_of : InstOrEdit → Listed
item_of (Inst i) = ListedInst i
item_of (AnEdit e) = ListedMove (move_of e.now)

-- what an iterator over a listing still gives
abbrev pub rest_of : OutputIter → List Listed
rest_of it = listing_left (map edit_of it.edits.now) it.inst_range.first (it.inst_range.end - it.inst_range.first)

abbrev pub machine_of : {A : Type 0} → MachineEnv A → MachineValue
machine_of m = record {
  preferred = m.preferred_regs_by_class;
  non_preferred = m.non_preferred_regs_by_class;
  scratch = m.scratch_by_class;
  fixed_stack_slots = m.fixed_stack_slots.items;
}
