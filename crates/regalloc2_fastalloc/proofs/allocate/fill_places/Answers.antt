use Rattle.std.proofs.Common.{ℕ, ◌≡◌, ◌≢◌, ◌+◌, ◌*◌, ◌<◌, ◌≤◌, ◌^◌, map, length, sym, ap, ◌∙◌, subst, arith, rules, [], refl}
use Rattle.std.specs.Prelude.{Bool, List, reverse}
use Rattle.std.proofs.lemmas.List.{length-replicate}
use Rattle.std.proofs.lemmas.Result.{err_from_is_err_and}
use Rattle.regalloc2_names.specs.declared.RegClass.{RegClass}
use Rattle.regalloc2_names.specs.declared.RegClass.TheVariants.{Int, Float, Vector}
use Rattle.regalloc2_names.specs.Place.{NoPlace}
use Rattle.regalloc2_names.specs.Register.{VirtualRegister}
use Rattle.regalloc2_function.specs.FunctionValue.{FunctionValue, IsLimited, inst_at, slot_size}
use Rattle.regalloc2_function.specs.Machine.{MachineValue}
use Rattle.regalloc2_function.specs.OutputValue.{OutputValue}
use Rattle.regalloc2_semantics.specs.Runs.{Location, IsDefinitelyAssigned}
use Rattle.regalloc2_semantics.specs.Faithful.{IsFaithful}
use Rattle.regalloc2_semantics.specs.Live.{PassesAt}
use Rattle.regalloc2_function.specs.Stored.{location_of}
use Rattle.regalloc2_function.specs.Views.{edit_of, machine_of}
use Rattle.regalloc2_carry.proofs.SingleDef.{Made}
use Rattle.regalloc2_semantics.proofs.Faithful.{faithful}
use Rattle.regalloc2_analysis.proofs.LiveRangesLemmas.UsesInSSA.{well_formed_ssa}
use Rattle.regalloc2_fastalloc_state.specs.OutOfResources.{Lacks, SlotsExhaustedWith}
use Rattle.regalloc2_fastalloc.specs.Guarantee.{LiveInSlots, HasRegistersForAll}
use Rattle.regalloc2_fastalloc.specs.Survey.{SomeDoesNotFit}
use Rattle.regalloc2_semantics.specs.Places.{units_at_most}
use Rattle.regalloc2_fastalloc_proofs.specs.InstSteps.{StateValue}
use Rattle.regalloc2_fastalloc_walk.specs.StateView.{tables_of}
use Rattle.regalloc2_fastalloc_proofs.specs.BranchSteps.{AddsTempSlotsAtMost}
use Rattle.regalloc2_fastalloc_proofs.specs.BlockSteps.{DefinesBelow}
use Rattle.regalloc2_fastalloc_proofs.specs.Safety.{HasMachine}
use Rattle.regalloc2_fastalloc_state.specs.StateParts.{VRegAllocsValue, SpillSlotsValue, no_allocs, no_slots, slot_name, units_of}
use Rattle.regalloc2_fastalloc.proofs.ReadsAgree.{made_blocks_agree, made_in_slots, made_label_shown, walk_is_good, walk_is_safe}
use Rattle.regalloc2_fastalloc.proofs.DebugLocationPlaces.{ShowsLabels, locations_stand, shows_labels}
use Rattle.regalloc2_fastalloc.proofs.BranchSlots.{branch_slots_serve}
use Rattle.regalloc2_fastalloc_proofs.proofs.Walk.BlocksCarryFromFreshState.{passed_slots}
use Rattle.regalloc2_fastalloc_proofs.proofs.Safety.InitialState.{begun_machine}
use Rattle.regalloc2_fastalloc_proofs.proofs.Safety.OutputOfWalk.{IsOutputOfWalk, made_in_order, made_constraints, made_proper, made_in_registers}
use Rattle.regalloc2_fastalloc_proofs.proofs.Safety.WellFormedKeepsSafe.{sound_ops_at}
use Rattle.regalloc2_fastalloc_proofs.proofs.Safety.StateKept.{adds_temp_slots_refl}
use Rattle.regalloc2_fastalloc_proofs.proofs.Walk.UsesReadOwnDefs.{fresh_blank, some_units, fresh_fit}
use Rattle.regalloc2_fastalloc_proofs.proofs.Safety.MachineRegs.{fit_apart}
use Rattle.regalloc2_fastalloc_proofs.proofs.Slots.WalkKeepsSlotsApart.{BranchesFrom, walk_classed}
use Rattle.regalloc2_fastalloc_proofs.proofs.Slots.OutputOwnsSlots.{fits_keeps, made_slots_owned}
use Rattle.regalloc2_fastalloc_proofs.proofs.Slots.ApartSlotsAreOwned.{OwnsSlots}
use Rattle.regalloc2_fastalloc_proofs.proofs.Pressure.OutOfRegs.{AreFresh, walk_stops}
use Rattle.regalloc2_analysis.specs.LiveRanges.LiveRanges.{IsWanted}
use Rattle.regalloc2_analysis.specs.LiveRanges.WalkInvariant.{ListsAdding}
use Rattle.regalloc2_function.specs.WellFormed.{BranchDefinesInPlace}
use Rattle.regalloc2_fastalloc_state.specs.Validate.NoLimits.{AreTaken}
use Rattle.regalloc2_fastalloc_walk.specs.Findings.{ListsAddingFrom}
use Rattle.regalloc2_fastalloc_walk.proofs.Findings.{lists_reversed}
use Rattle.regalloc2_fastalloc.proofs.ErrorsHaveReasons.{lacks_of_resource_error, passed_not_refused}
use Rattle.regalloc2_fastalloc.proofs.UsesReadNumbers.{reads_numbers}
use Rattle.regalloc2_fastalloc.proofs.UnitsNeeded.{sizes_of, sizes_agree, few_slots, full_needs}
use Rattle.regalloc2_fastalloc_proofs.proofs.Walk.InstsCarry.{Blank, blank_whole}
use Rattle.regalloc2_fastalloc_proofs.proofs.Safety.FunctionKeepsSafe.{SafeWithin, made_listed_blocks, FreshWalk}
use Rattle.regalloc2_fastalloc_proofs.proofs.Safety.BlocksKeepSafe.{MayInBlocks}
use Rattle.regalloc2_fastalloc_proofs.proofs.Moves.ScratchRegTaken.{Fit}
use Rattle.regalloc2_fastalloc_proofs.proofs.Safety.BranchArgsKeepState.{processes_branch_between}
use Rattle.regalloc2_fastalloc_proofs.proofs.Safety.InstsKeepSafe.{WalkKept}
use Rattle.regalloc2_fastalloc_proofs.proofs.Unspilled.BlockSpillFree.{begins_uncrowded}
use Rattle.regalloc2_fastalloc_proofs.proofs.Unspilled.OneBlock.{walk_is_spill_free}
use Rattle.regalloc2_fastalloc.proofs.RoomInTables.{has_room}
use Rattle.regalloc2_fastalloc.proofs.RegistersForAll.{are_few, requires_only_registers, names_in}
use Rattle.regalloc2_fastalloc.proofs.allocate.fill_places.Given.{Over}
use Rattle.regalloc2_fastalloc.proofs.allocate.fill_places.Goals as goal
use Rattle.regalloc2_fastalloc_proofs.proofs.Walk.WholeWalk.{WholeWalk, whole_walk}

pub new-requires : goal.new-requires
new-requires g c = (search rules, (c.requires.machine, c.table_length-vregs.ensures.few))

pub alloc_blocks-requires : goal.alloc_blocks-requires
alloc_blocks-requires g c =
    let f : FunctionValue = g.F.Function.function c.args.f.now in
    let env : MachineValue = machine_of c.args.env.now in
    let t : StateValue = tables_of c.in_ok-state.state in
    let e = c.in_ok-state.ensures in
    let machine : HasMachine env t = begun_machine env t e.registers (λ r. (e.fixed_stack r).0) (λ r. (e.fixed_stack r).1) e.dedicated_scratch in
    let n : ℕ = c.table_length-vregs.result in
    let long : length t.places.vreg_allocs ≡ n = ap (λ (p : VRegAllocsValue). length p.vreg_allocs) e.places ∙ length-replicate n NoPlace in (
      search rules,
      record {
        fresh = e.edits;
        nowhere = (n, e.places ∙ sym (ap (no_allocs n) (ap (λ (p : VRegAllocsValue). p.watched) e.places)));
        well_formed = (env, c.requires.well_formed);
        room = subst (DefinesBelow f) (sym long) (has_room f c.requires.well_formed.defined_once n c.table_length-vregs.ensures.room);
        apart = fit_apart t (fresh_fit f env t c.requires.machine machine e.small);
        offsets_long = c.requires.offsets_long;
        offsets = c.requires.offsets;
        allocs_long = c.requires.allocs_long;
        no_places = c.requires.no_places;
      },
    )

-- the slots that the walk leaves have the sizes that the function asks for, and as many entries as they had
sizes_kept : (f : FunctionValue) (begun left : StateValue) (n : ℕ) (by_last : Bool) (most : ℕ) → begun.slots ≡ no_slots n (sizes_of f) by_last →
    AddsTempSlotsAtMost most begun left → left.slots.sizes ≡ sizes_of f
sizes_kept f begun left n by_last most slots machine = machine.sizes ∙ ap (λ (s : SpillSlotsValue). s.sizes) slots

vregs_kept : (f : FunctionValue) (begun left : StateValue) (n : ℕ) (by_last : Bool) (most : ℕ) → begun.slots ≡ no_slots n (sizes_of f) by_last →
    AddsTempSlotsAtMost most begun left → length left.slots.vreg_spillslots ≡ n
vregs_kept f begun left n by_last most slots machine = machine.vregs ∙ ap (λ (s : SpillSlotsValue). length s.vreg_spillslots) slots
    ∙ length-replicate n NoPlace

vregs_few : (f : FunctionValue) (begun left : StateValue) (n : ℕ) (by_last : Bool) (most : ℕ) → begun.slots ≡ no_slots n (sizes_of f) by_last →
    AddsTempSlotsAtMost most begun left → n ≤ f.num_vregs → length left.slots.vreg_spillslots ≤ f.num_vregs
vregs_few f begun left n by_last most slots machine few = let e = vregs_kept f begun left n by_last most slots machine in omega (arith, e, few)

pub locations-requires : goal.locations-requires
locations-requires g c =
    let f : FunctionValue = g.F.Function.function c.args.f.now in
    let n : ℕ = c.table_length-vregs.result in
    record {
      ssa = well_formed_ssa (machine_of c.args.env.now) f c.requires.well_formed;
      room = subst (DefinesBelow f) (sym (vregs_kept f (tables_of c.in_ok-state.state) (tables_of c.alloc_blocks.new.self) n f.named_by_last_slot _
          c.in_ok-state.ensures.slots c.alloc_blocks.ensures.machine)) (has_room f c.requires.well_formed.defined_once n c.table_length-vregs.ensures.room);
      offsets_long = c.requires.offsets_long;
      offsets = λ i lt. c.requires.offsets i lt;
      allocs_long = c.alloc_blocks.auto.allocs ∙ c.requires.allocs_long;
      marked = c.requires.marked;
      listed = subst (λ (ns : List ℕ). ListsAdding f (IsWanted c.args.wanted.now) ns (length ns) (length f.insts))
          (sym (c.deref.ensures.value ∙ c.reverse.ensures.items))
          (lists_reversed f (IsWanted c.args.wanted.now) c.in_ok-found.found.changed.items
          (subst (λ (w : List Bool). ListsAddingFrom f (IsWanted w) 0 c.in_ok-found.found.changed.items)
          (ap (λ (p : VRegAllocsValue). p.watched) c.in_ok-state.ensures.places) c.in_ok-found.ensures.found.changed));
    }

-- the walk found that all instructions pass their tests, or the tests did
taken_is : (g : Over) (c : goal.After-reads_the_same_numbers g) → AreTaken (g.F.Function.function c.args.f.now)
taken_is g c i lt = (c.in_ok-validate_unless_passed.ensures.passes i lt).taken

branches_are : (g : Over) (c : goal.After-reads_the_same_numbers g) (i : ℕ) → i < length (g.F.Function.function c.args.f.now).insts →
    BranchDefinesInPlace (inst_at (g.F.Function.function c.args.f.now) i)
branches_are g c i lt = (c.in_ok-validate_unless_passed.ensures.passes i lt).branch

pub validate_unless_passed-requires : goal.validate_unless_passed-requires
validate_unless_passed-requires g c = λ t i lt. c.in_ok-found.ensures.found.passes.0 t i (omega arith) lt

pub returns-clause-passes : goal.returns-clause-passes
returns-clause-passes g c = c.in_ok-validate_unless_passed.ensures.passes

pub returns-in_err-validate_unless_passed-clause-err : goal.returns-in_err-validate_unless_passed-clause-err
returns-in_err-validate_unless_passed-clause-err g c =
    let f : FunctionValue = g.F.Function.function c.args.f.now in
    let p = err_from_is_err_and c.from_residual-in_err-validate_unless_passed.result c.from_residual-in_err-validate_unless_passed.ensures.1 in
    rw p.1 (λ all. absurd (passed_not_refused f _ all c.in_err-validate_unless_passed.ensures.refused))

-- the output as contracts see it
abbrev out_of : (g : Over) (c : goal.After-reads_the_same_numbers g) → OutputValue
out_of g c = record {
  num_spillslots = c.num_units-num_spillslots.result;
  edits = map edit_of c.in_ok-edits.edits.items;
  allocs = c.alloc_blocks.new.allocs;
  offsets = c.args.offsets.now;
  debug_locations = map location_of c.in_ok-debug_locations.debug_locations.items;
}

-- the tables at the walk's start and at its end
abbrev begun : (g : Over) (c : goal.After-reads_the_same_numbers g) → StateValue
begun g c = tables_of c.in_ok-state.state

abbrev left : (g : Over) (c : goal.After-reads_the_same_numbers g) → StateValue
left g c = tables_of c.alloc_blocks.new.self

-- the machine's registers in the fresh tables
machine_is : (g : Over) (c : goal.After-reads_the_same_numbers g) → HasMachine (machine_of c.args.env.now) (begun g c)
machine_is g c =
    let e = c.in_ok-state.ensures in
    begun_machine (machine_of c.args.env.now) (begun g c) e.registers (λ r. (e.fixed_stack r).0) (λ r. (e.fixed_stack r).1) e.dedicated_scratch

-- a slot of each class takes some units
units_are : (g : Over) (c : goal.After-reads_the_same_numbers g) → (class : RegClass) →
    0 < units_of (no_slots c.table_length-vregs.result (sizes_of (g.F.Function.function c.args.f.now))
    (g.F.Function.function c.args.f.now).named_by_last_slot) class
units_are g c =
    let f : FunctionValue = g.F.Function.function c.args.f.now in
    let limited : IsLimited f = g.met.F.Function.limited c.args.f.now in
    some_units c.table_length-vregs.result (slot_size f.slot_sizes Int) (slot_size f.slot_sizes Float) (slot_size f.slot_sizes Vector) f.named_by_last_slot
    (limited.slot_sizes Int).positive (limited.slot_sizes Float).positive (limited.slot_sizes Vector).positive

-- the fresh tables are blank
blank_is : (g : Over) (c : goal.After-reads_the_same_numbers g) → Blank (begun g c)
blank_is g c = (let f : FunctionValue = g.F.Function.function c.args.f.now in let e = c.in_ok-state.ensures in
    fresh_blank (begun g c) c.table_length-vregs.result (sizes_of f) f.named_by_last_slot e.places e.slots e.edits (units_are g c))

fit_is : (g : Over) (c : goal.After-reads_the_same_numbers g) → Fit (begun g c)
fit_is g c = fresh_fit (g.F.Function.function c.args.f.now) (machine_of c.args.env.now) (begun g c) c.requires.machine (machine_is g c)
    c.in_ok-state.ensures.small

-- the whole walk
abbrev whole_is : (g : Over) (c : goal.After-reads_the_same_numbers g) → WholeWalk
whole_is g c = whole_walk (machine_of c.args.env.now) (g.F.Function.function c.args.f.now) (g.met.F.Function.limited c.args.f.now) c.requires.well_formed
    c.args.allocs.now (begun g c) (left g c) (out_of g c) (blank_is g c) (fit_is g c) c.in_ok-found.ensures.outcome

-- the tables from which the walk began
abbrev fresh_is : (g : Over) (c : goal.After-reads_the_same_numbers g) → FreshWalk
fresh_is g c = record {
  env = machine_of c.args.env.now;
  f = g.F.Function.function c.args.f.now;
  fits = c.requires.machine;
  limited = g.met.F.Function.limited c.args.f.now;
  ok = c.requires.well_formed;
  taken = taken_is g c;
  blank = c.args.allocs.now;
  places = c.alloc_blocks.new.allocs;
  begin = begun g c;
  last = left g c;
  n = c.table_length-vregs.result;
  m = c.table_length-vregs.result;
  sizes = sizes_of (g.F.Function.function c.args.f.now);
  by_last = (g.F.Function.function c.args.f.now).named_by_last_slot;
  watched = c.args.wanted.now;
  none_held = c.in_ok-state.ensures.places;
  slots = c.in_ok-state.ensures.slots;
  none = c.in_ok-state.ensures.edits;
  units = units_are g c;
  machine = machine_is g c;
  walks = c.in_ok-found.ensures.outcome;
}

-- what the walk left
walk_keeps : (g : Over) (c : goal.After-reads_the_same_numbers g) →
    WalkKept (machine_of c.args.env.now) (Made (g.F.Function.function c.args.f.now)) (g.F.Function.function c.args.f.now)
    (MayInBlocks (g.F.Function.function c.args.f.now)) c.alloc_blocks.new.allocs 0 0 c.alloc_blocks.new.allocs (left g c)
walk_keeps g c = walk_is_good (fresh_is g c) (blank_is g c) (fit_is g c)

-- the states of the walk are safe at each instruction of a block
safe_is : (g : Over) (c : goal.After-reads_the_same_numbers g) →
    SafeWithin (machine_of c.args.env.now) (g.F.Function.function c.args.f.now) c.args.allocs.now (begun g c) c.alloc_blocks.new.allocs
safe_is g c = walk_is_safe (fresh_is g c) (blank_is g c) (fit_is g c)

-- a vreg that is passed as an argument has a slot
handed_is : (g : Over) (c : goal.After-reads_the_same_numbers g) → (v : VirtualRegister) (l : Location) → PassesAt (g.F.Function.function c.args.f.now) v l →
    slot_name (left g c).slots v.number ≢ NoPlace
handed_is g c v l p =
    let f : FunctionValue = g.F.Function.function c.args.f.now in
    passed_slots (whole_is g c) (processes_branch_between f) v l p

made : (g : Over) (c : goal.After-reads_the_same_numbers g) →
    IsOutputOfWalk (g.F.Function.function c.args.f.now) (machine_of c.args.env.now) (Made (g.F.Function.function c.args.f.now))
    (MayInBlocks (g.F.Function.function c.args.f.now)) (left g c) (out_of g c)
made g c =
    let f : FunctionValue = g.F.Function.function c.args.f.now in
    let env : MachineValue = machine_of c.args.env.now in
    record {
      count = c.num_units-num_spillslots.ensures.count;
      edits = c.in_ok-edits.ensures.listed;
      falling = c.in_ok-edits.ensures.falling;
      long = c.requires.offsets_long;
      offsets = λ i lt. c.requires.offsets i lt;
      allocs_long = c.alloc_blocks.auto.allocs ∙ c.requires.allocs_long;
      debug = locations_stand env f (g.met.F.Function.limited c.args.f.now) c.requires.well_formed (MayInBlocks f) (left g c) c.args.offsets.now
          c.alloc_blocks.new.allocs (λ i lt. c.requires.offsets i lt)
          (walk_keeps g c) (handed_is g c) (map location_of c.in_ok-debug_locations.debug_locations.items) c.in_ok-debug_locations.ensures.ok;
      kept = walk_keeps g c;
    }

-- where no path reads or passes a vreg before writing it, the output is faithful
faithful_is : (g : Over) (c : goal.After-reads_the_same_numbers g) → IsDefinitelyAssigned (g.F.Function.function c.args.f.now) →
    IsFaithful (g.F.Function.function c.args.f.now) (machine_of c.args.env.now) (out_of g c)
faithful_is g c = λ written.
    let f : FunctionValue = g.F.Function.function c.args.f.now in
    let env : MachineValue = machine_of c.args.env.now in
    let m : IsOutputOfWalk f env (Made f) (MayInBlocks f) (left g c) (out_of g c) = made g c in
    faithful f env (out_of g c) (made_constraints f env (Made f) (MayInBlocks f) (left g c) (out_of g c) m)
    (made_in_registers f env (Made f) (MayInBlocks f) (left g c) (out_of g c) m)
    (made_blocks_agree (whole_is g c) (taken_is g c) (branches_are g c) (safe_is g c) m written)

-- each slot has its owner
slots_owned_are : (g : Over) (c : goal.After-reads_the_same_numbers g) →
    OwnsSlots (Made (g.F.Function.function c.args.f.now)) (g.F.Function.function c.args.f.now) (left g c).slots (out_of g c)
slots_owned_are g c =
    let f : FunctionValue = g.F.Function.function c.args.f.now in
    let env : MachineValue = machine_of c.args.env.now in
    let limited : IsLimited f = g.met.F.Function.limited c.args.f.now in
    let begin : StateValue = begun g c in
    let last : StateValue = left g c in
    let n : ℕ = c.table_length-vregs.result in
    let e = c.in_ok-state.ensures in
    let classed = walk_classed (fits_keeps f env c.requires.machine) limited c.requires.well_formed (taken_is g c) {begin = begin} {last = last} n n
    (sizes_of f) e.places e.slots e.edits (units_are g c) (machine_is g c) c.in_ok-found.ensures.outcome in
    made_slots_owned f env (Made f) (MayInBlocks f) last (out_of g c) (made g c) c.num_units-num_spillslots.ensures.owned
    (sound_ops_at env f limited c.requires.well_formed (taken_is g c)) f.named_by_last_slot (BranchesFrom f 0) classed
    (sizes_agree f last.slots (sizes_kept f begin last n f.named_by_last_slot _ e.slots c.alloc_blocks.ensures.machine)) refl (λ i class m. (m.1, m.2))

-- values that are live between blocks are in slots of their vregs
live_is : (g : Over) (c : goal.After-reads_the_same_numbers g) → IsDefinitelyAssigned (g.F.Function.function c.args.f.now) →
    LiveInSlots (g.F.Function.function c.args.f.now) (out_of g c) (slots_owned_are g c).owned.owner
live_is g c =
    let f : FunctionValue = g.F.Function.function c.args.f.now in
    let env : MachineValue = machine_of c.args.env.now in
    made_in_slots (whole_is g c) (taken_is g c) (branches_are g c) (safe_is g c) (made g c) (slots_owned_are g c)
    c.num_units-num_spillslots.ensures.owned (sound_ops_at env f (g.met.F.Function.limited c.args.f.now) c.requires.well_formed (taken_is g c))

-- debug locations name places of their vregs, which hold their values
labels_are : (g : Over) (c : goal.After-reads_the_same_numbers g) → ShowsLabels (g.F.Function.function c.args.f.now) (machine_of c.args.env.now) (out_of g c)
    (slots_owned_are g c).owned.owner
labels_are g c =
    let f : FunctionValue = g.F.Function.function c.args.f.now in
    let env : MachineValue = machine_of c.args.env.now in
    let limited : IsLimited f = g.met.F.Function.limited c.args.f.now in
    let sound_ops = sound_ops_at env f limited c.requires.well_formed (taken_is g c) in
    shows_labels env f limited c.requires.well_formed (MayInBlocks f) (left g c) (out_of g c) (made g c) (handed_is g c) (slots_owned_are g c)
    (made_label_shown (whole_is g c) (taken_is g c) (branches_are g c) (safe_is g c) (made g c)
    c.requires.machine c.num_units-num_spillslots.ensures.owned sound_ops) c.in_ok-debug_locations.ensures.ok

-- there are few temporary slots
temp_slots_are_few : (f : FunctionValue) (begun left : StateValue) (n : ℕ) (by_last : Bool) (most : ℕ) → begun.slots ≡ no_slots n (sizes_of f) by_last →
    AddsTempSlotsAtMost most begun left → left.slots.num_temp_slots ≤ most
temp_slots_are_few f begun left n by_last most slots machine =
    let none : begun.slots.num_temp_slots ≡ 0 = ap (λ (s : SpillSlotsValue). s.num_temp_slots) slots in
    let num_temp_slots = machine.num_temp_slots in
    omega (arith, none, num_temp_slots)

slots_are : (g : Over) (c : goal.After-reads_the_same_numbers g) → ((out_of g c).num_spillslots ≤ 2 ^ 24)
    × ((out_of g c).num_spillslots ≤ units_at_most (g.F.Function.function c.args.f.now))
slots_are g c =
    let f : FunctionValue = g.F.Function.function c.args.f.now in
    let begin : StateValue = tables_of c.in_ok-state.state in
    let last : StateValue = tables_of c.alloc_blocks.new.self in
    let machine = c.alloc_blocks.ensures.machine in
    let slots = c.in_ok-state.ensures.slots in
    let n : ℕ = c.table_length-vregs.result in
    few_slots f last.slots (out_of g c) c.num_units-num_spillslots.ensures.count (sizes_kept f begin last n f.named_by_last_slot _ slots machine)
    (vregs_few f begin last n f.named_by_last_slot _ slots machine c.table_length-vregs.ensures.few)
    (temp_slots_are_few f begin last n f.named_by_last_slot _ slots machine) c.num_units-num_spillslots.ensures.owned

-- where registers suffice for all vregs, the walk makes no move and no slot
unspilled_is : (g : Over) (c : goal.After-reads_the_same_numbers g) → HasRegistersForAll (g.F.Function.function c.args.f.now) (machine_of c.args.env.now) →
    ((out_of g c).edits ≡ []) × ((out_of g c).num_spillslots ≡ 0)
unspilled_is g c = λ h.
    let f : FunctionValue = g.F.Function.function c.args.f.now in
    let begin : StateValue = tables_of c.in_ok-state.state in
    let e = c.in_ok-state.ensures in
    let b = blank_is g c in
    let none = walk_is_spill_free f (machine_of c.args.env.now) c.requires.well_formed (names_in f.insts) (requires_only_registers f (machine_of c.args.env.now) h) 0
    c.args.allocs.now c.alloc_blocks.new.allocs begin (left g c) refl (are_few f (machine_of c.args.env.now) begin.allocatable h e.all)
    (begins_uncrowded f (names_in f.insts) begin b.nowhere b.no_move b.no_slot (ap (λ (s : SpillSlotsValue). s.count) e.slots)
    (blank_whole begin b) (fit_apart begin (fit_is g c)) e.lrus) c.in_ok-found.ensures.outcome in
    (c.in_ok-edits.ensures.listed ∙ ap reverse none.0, c.num_units-num_spillslots.ensures.count ∙ none.1)

pub returns-clause-allocation : goal.returns-clause-allocation
returns-clause-allocation g c =
    let f : FunctionValue = g.F.Function.function c.args.f.now in
    let env : MachineValue = machine_of c.args.env.now in
    let m : IsOutputOfWalk f env (Made f) (MayInBlocks f) (left g c) (out_of g c) = made g c in
    record {
      in_order = made_in_order _ _ _ _ _ _ m;
      constraints = made_constraints _ _ _ _ _ _ m;
      proper = made_proper _ _ _ _ _ _ m;
      no_stack_to_stack = made_in_registers _ _ _ _ _ _ m;
      listed = made_listed_blocks _ _ _ _ _ m;
      faithful = λ written. record {
        faithful = faithful_is g c written;
        reads_numbers = reads_numbers f env (out_of g c) (faithful_is g c written);
        same_numbers = c.reads_the_same_numbers.ensures f env (out_of g c) (faithful_is g c written);
      };
      live = live_is g c;
      slots = slots_are g c;
      unspilled = unspilled_is g c;
      owners = (slots_owned_are g c).owned;
      branch_slots = branch_slots_serve (Made f) f (left g c).slots (out_of g c) (slots_owned_are g c);
      labels = labels_are g c;
    }

pub returns-in_err-found-clause-err : goal.returns-in_err-found-clause-err
returns-in_err-found-clause-err g c =
    let f : FunctionValue = g.F.Function.function c.args.f.now in
    let begin : StateValue = tables_of c.in_ok-state.state in
    let slots = c.in_ok-state.ensures.slots in
    let most : ℕ = begin.slots.num_temp_slots + 6 * length f.blocks in
    let none : begin.slots.num_temp_slots ≡ 0 = ap (λ (s : SpillSlotsValue). s.num_temp_slots) slots in
    let same : AddsTempSlotsAtMost 0 begin begin = adds_temp_slots_refl 0 begin in
    let p = err_from_is_err_and c.from_residual-in_err-found.result c.from_residual-in_err-found.ensures.1 in
    let n : ℕ = c.table_length-vregs.result in
    let more : SlotsExhaustedWith begin.slots most → 2 ^ 24 < units_at_most f = full_needs f begin.slots most
    (sizes_kept f begin begin n f.named_by_last_slot 0 slots same) (vregs_few f begin begin n f.named_by_last_slot 0 slots same
    c.table_length-vregs.ensures.few) (omega (arith, none)) in
    let env : MachineValue = machine_of c.args.env.now in
    let e = c.in_ok-state.ensures in
    let limited : IsLimited f = g.met.F.Function.limited c.args.f.now in
    let machine : HasMachine env begin = begun_machine env begin e.registers (λ r. (e.fixed_stack r).0) (λ r. (e.fixed_stack r).1) e.dedicated_scratch in
    let fresh : AreFresh env begin = record {
      vregs = n;
      owners = n;
      sizes = sizes_of f;
      by_last = f.named_by_last_slot;
      watched = c.args.wanted.now;
      none_held = e.places;
      slots = e.slots;
      none = e.edits;
      units = some_units n (slot_size f.slot_sizes Int) (slot_size f.slot_sizes Float) (slot_size f.slot_sizes Vector) f.named_by_last_slot
          (limited.slot_sizes Int).positive (limited.slot_sizes Float).positive (limited.slot_sizes Vector).positive;
      machine = machine;
      fit = fresh_fit f env begin c.requires.machine machine e.small;
      allocatable = e.all;
      dedicated_scratch = e.dedicated_scratch;
    } in
    rw p.1 (λ all. subst (Lacks (SomeDoesNotFit f env) (2 ^ 24 < units_at_most f)) (sym p.2)
    (lacks_of_resource_error (SomeDoesNotFit f env) (SlotsExhaustedWith begin.slots most) (2 ^ 24 < units_at_most f) more _ c.in_err-found.ensures.err
    (λ lacks. walk_stops c.requires.machine limited c.requires.well_formed (λ i lt. (all i lt).taken) fresh (c.in_err-found.ensures.outcome lacks))))
