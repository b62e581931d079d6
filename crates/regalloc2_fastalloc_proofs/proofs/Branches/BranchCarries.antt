-- A branch at the end of its block: what it carries of each vreg, and the locations of vregs before it.
use Rattle.std.proofs.Common.{ℕ, zero, suc, ◌≡◌, ◌≢◌, ◌+◌, ◌<◌, ◌≤◌, ◌⊎◌, inl, inr, Bool, true, false, List, length, refl, sym, ap, ◌∙◌, subst, arith}
use Rattle.std.specs.Prelude.{Option, None, Some, slice_index_or}
use Rattle.std.proofs.lemmas.Bool.{cases_Bool, cases_eq}
use Rattle.regalloc2_names.specs.declared.sets.PRegSet.{PRegSet}
use Rattle.regalloc2_names.specs.declared.RegClass.{RegClass}
use Rattle.regalloc2_names.specs.declared.RegClass.TheVariants.{Int, Float, Vector}
use Rattle.regalloc2_names.specs.Register.{Register, VirtualRegister, class_code, has_register}
use Rattle.regalloc2_names.specs.Place.{Place, NoPlace, InRegister, InSlot, before, after}
use Rattle.regalloc2_function.specs.FunctionValue.{FunctionValue, block_at, inst_at, op_at}
use Rattle.regalloc2_function.specs.OutputValue.{MoveValue, place_at}
use Rattle.regalloc2_semantics.specs.Runs.{arguments_at, after_moves}
use Rattle.regalloc2_names.specs.Operand.{is_def}
use Rattle.regalloc2_carry.specs.Listing.{Item, with_moves, writes}
use Rattle.regalloc2_carry.specs.Carry.{Carries, Spares, Untouched}
use Rattle.regalloc2_semantics.specs.Sound.{Undefined, names, HasEdge}
use Rattle.regalloc2_carry.specs.BlockByPoints.{at_point, walked, listed}
use Rattle.regalloc2_carry.specs.Blocks.{IsUnwritten, IsUsedIn, StandsAfter}
use Rattle.regalloc2_carry.proofs.CarryRules.{carries_weaken}
use Rattle.regalloc2_carry.proofs.UnwrittenPlaces.{unwritten_walked, untouched_walked}
use Rattle.regalloc2_carry.proofs.NotRead.{ReadsOthersOnly, Silent, silent_walked, carries_silent}
use Rattle.regalloc2_carry.proofs.Slots.{PassedTo, pass_arguments}
use Rattle.regalloc2_carry.proofs.BlockBackward.{Relied}
use Rattle.regalloc2_fastalloc_state.specs.declared.inst_regs.InstRegs.{InstRegs}
use Rattle.regalloc2_fastalloc_state.specs.StateParts.{VRegAllocsValue, IsSlotOrNone, alloc_of, vreg_of_preg}
use Rattle.regalloc2_fastalloc_proofs.specs.InstSteps.{StateValue, AllocsInst, ends_block}
use Rattle.regalloc2_fastalloc_proofs.specs.BranchSteps.{of_class, ProcessesBranch, IsOwnDef}
use Rattle.regalloc2_fastalloc_proofs.specs.Safety.{IsWhole}
use Rattle.regalloc2_fastalloc_proofs.proofs.Safety.StepsKeepState.{place_in, slot_in}
use Rattle.regalloc2_fastalloc_proofs.proofs.Operands.RecordOverState.{opt, location_at, slots_at, grown_slots}
use Rattle.regalloc2_fastalloc_proofs.proofs.Moves.ScratchRegTaken.{of_machine, Fit}
use Rattle.regalloc2_fastalloc_proofs.proofs.Operands.AllocsSoFar.{AreSoundOperands}
use Rattle.regalloc2_fastalloc_proofs.proofs.Slots.StepsKeepSlots.{IsAt, changes_grow}
use Rattle.regalloc2_fastalloc_proofs.proofs.Operands.DefinedNumbers.{defined_by, defined_by-at}
use Rattle.regalloc2_fastalloc_proofs.proofs.BlockEnd.NoMoveForOperand.{IsOutside}
use Rattle.regalloc2_fastalloc_proofs.proofs.Moves.StepsAppendEdits.{AppendsEdits, appends_edits_trans, pushes_weaken, changes_push}
use Rattle.regalloc2_fastalloc_proofs.proofs.Changes.WalkChanges.{any_passed, gathers_moves_changes}
use Rattle.regalloc2_fastalloc_proofs.proofs.Inst.OneInstCarries.{IsBetweenInsts, CarriesByItself, carries_by_itself}
use Rattle.regalloc2_fastalloc_proofs.proofs.Walk.InstForOneVReg.{undefined_by}
use Rattle.regalloc2_fastalloc_proofs.proofs.Walk.InstsBeforeLastCarry.{defined_from}
use Rattle.regalloc2_fastalloc_proofs.proofs.Walk.BlockObligations.{defined_from-some}
use Rattle.regalloc2_fastalloc_proofs.proofs.BlockEnd.LastInst.{OwedOwn, owed_is_relied}
use Rattle.regalloc2_fastalloc_proofs.proofs.BlockBegin.ReloadAtBegin.{IsReload}
use Rattle.regalloc2_fastalloc_proofs.proofs.Branches.ArgMovesPushed.{walked_made}
use Rattle.regalloc2_fastalloc_proofs.proofs.Branches.ArgMovesByClass.{Stepped, class_moves_done, all_moves, all_at, all_other, all_places, all_slots}
use Rattle.regalloc2_fastalloc_proofs.proofs.Branches.ArgMovesByClass.{all_grow, ClassSteps, steps_of}
use Rattle.regalloc2_fastalloc_proofs.proofs.Branches.EdgeArgsGathered.{passes_at, argument_at, params_on}
use Rattle.regalloc2_fastalloc_proofs.proofs.BlockEnd.BranchAlone.{IsHeldHere, IsUseMove, Branched, branch_moves_uses_only, no_move_added_to, none_below}
use Rattle.regalloc2_fastalloc_proofs.proofs.BlockEnd.BranchEndsBlock.{LastBranch, ToCome, to_come-back, reads_own, own_moves}
use Rattle.regalloc2_fastalloc_proofs.proofs.Branches.ArgMovesEffect.{ArgMoves, names_at, relied_kept, passed_moved}
use Rattle.regalloc2_fastalloc_proofs.proofs.Branches.BranchInParts.{carries_after_spills, Parted, branch_in_parts}
use Rattle.regalloc2_fastalloc_proofs.proofs.Inst.ProperInsts.{ProperCode}
use Rattle.regalloc2_fastalloc_proofs.proofs.Changes.InstChanges.{allocs_inst_changes, any_operand}
use Rattle.regalloc2_semantics.specs.Laws.{Cells}

-- tables that differ in moves and in temporary slots
pub whole_like : (old new : StateValue) → new.places ≡ old.places → new.slots.vreg_spillslots ≡ old.slots.vreg_spillslots → new.slots.sizes ≡ old.slots.sizes →
    old.slots.count ≤ new.slots.count → IsWhole old → IsWhole new
whole_like old new places slots sizes grows w = record {
  holds = λ r v lt h. ap (λ (y : VRegAllocsValue). alloc_of y v.number) places
      ∙ w.holds r v lt (ap (λ (y : VRegAllocsValue). vreg_of_preg y r) (sym places) ∙ h);
  stands_in = λ n r h. (let x = w.stands_in n r (ap (λ (y : VRegAllocsValue). alloc_of y n) (sym places) ∙ h) in
      (x.0, (x.1.0, x.1.1, ap (λ (y : VRegAllocsValue). vreg_of_preg y r) places ∙ x.1.2)));
  own_slot = λ n k h. ap (λ l. slice_index_or l n NoPlace) slots ∙ w.own_slot n k (ap (λ (y : VRegAllocsValue). alloc_of y n) (sym places) ∙ h);
  below = λ n. subst (λ l. IsSlotOrNone new.slots.count (slice_index_or l n NoPlace)) (sym slots) (more (slot_in old n) (w.below n));
  own = λ m n k h j. w.own m n k (ap (λ l. slice_index_or l m NoPlace) (sym slots) ∙ h) (ap (λ l. slice_index_or l n NoPlace) (sym slots) ∙ j);
  units = λ c. subst (λ xs. 0 < slice_index_or xs (class_code c) 0) (sym sizes) (w.units c);
}
  where
    more : (p : Place) → IsSlotOrNone old.slots.count p → IsSlotOrNone new.slots.count p
    more NoPlace h = h
    more (InRegister r) h = h
    more (InSlot k) h = omega (arith, h, grows)

-- registers that fit still fit if the allocatable, the fixed-stack and the dedicated ones stay the same
pub fit_like : (old new : StateValue) → new.allocatable ≡ old.allocatable → new.fixed_stack ≡ old.fixed_stack → new.dedicated_scratch ≡ old.dedicated_scratch
    → Fit old → Fit new
fit_like old new a s d f = record {
  small = λ r h. f.small r (elim h [
    | inl e ↦ inl (ap (λ (l : PRegSet). has_register l r) (sym a) ∙ e)
    | inr e ↦
        inr (ap (λ (l : PRegSet). has_register l r) (sym s) ∙ e)
  ]);
  stack_apart = λ r e. ap (λ (l : PRegSet). has_register l r) s ∙ f.stack_apart r (ap (λ (l : PRegSet). has_register l r) (sym a) ∙ e);
  own_apart = λ c q e. let x = f.own_apart c q (ap (λ l. slice_index_or l (class_code c) None) (sym d) ∙ e) in
      (ap (λ (l : PRegSet). has_register l q) a ∙ x.0, ap (λ (l : PRegSet). has_register l q) s ∙ x.1);
}

-- whether v is a parameter of one of the first k successors
param_cases : (f : FunctionValue) (b : ℕ) (v : VirtualRegister) (k : ℕ) → ((e : ℕ) → e < k → names v (params_on f b e) ≡ false)
    ⊎ ((e : ℕ) × (e < k) × (names v (params_on f b e) ≡ true))
param_cases f b v zero = inl (λ e lt. absurd (omega arith))
param_cases f b v (suc k) = elim (param_cases f b v k) [
  | inr x ↦ inr (x.0, omega (arith, x.1), x.2)
  | inl none ↦ elim (cases_Bool (names v (params_on f b k))) [
    | inl is ↦ inr (k, omega arith, is)
    | inr not ↦ inl (λ e lt. elim (cases_eq e k) [
      | inl same ↦ subst (λ x. names v (params_on f b x) ≡ false) (sym same) not
      | inr ne ↦ none e (omega (arith, lt, ne))
    ])
  ]
]

-- A branch at the end of the block b, in a function with the places of its operands. F: the slots at the walk's end, in
-- which the branch's definitions are placed accordingly; old, middle and new: the tables after it, before its arguments
-- are passed, and once they are. It neither defines nor reads the parameters of the block's successors, which are
-- known, of the classes of their arguments.
pub record BlockBranch : Type 1 where
  pub code : ProperCode
  open code use {Known, f, placesf}
  pub F : ℕ → Option Place
  pub b : ℕ
  pub last : ℕ
  pub blank : List Place
  pub here : List Place
  pub old : StateValue
  pub middle : StateValue
  pub new : StateValue
  pub within : last < length f.insts
  pub are_listed : (k : ℕ) → k < length (inst_at f last).operands → place_at (placesf last) k ≡ slice_index_or here k NoPlace
  pub sound_ops : AreSoundOperands Known (inst_at f last).operands
  pub ends : ends_block (inst_at f last) ≡ true
  pub own_defs : (k : ℕ) → k < length (inst_at f last).operands → is_def (op_at (inst_at f last).operands k).kind ≡ true → (n : ℕ) →
      place_at (placesf last) k ≡ InSlot n → F (op_at (inst_at f last).operands k).vreg.number ≡ Some (InSlot n)
  pub undefined_params : (e : ℕ) (w : VirtualRegister) → HasEdge f b e → names w (params_on f b e) ≡ true →
      defined_by (inst_at f last).operands w.number ≡ false
  pub known_params : (e j : ℕ) → HasEdge f b e → j < length (params_on f b e) → Known (argument_at (params_on f b e) j)
  pub classes : (e j : ℕ) → HasEdge f b e → j < length (params_on f b e) →
      (argument_at (arguments_at f b e) j).class ≡ (argument_at (params_on f b e) j).class
  pub unread_params : (e : ℕ) (w : VirtualRegister) → HasEdge f b e → names w (params_on f b e) ≡ true → ReadsOthersOnly (inst_at f last).operands w
  pub between : IsBetweenInsts (last + 1) old
  pub bare : IsOutside old
  pub a : AllocsInst last (inst_at f last) blank here old middle
  pub inst_regs : InstRegs
  pub p : ProcessesBranch f b last a.ended inst_regs middle new
  pub come : ToCome F new

module _ (branch : BlockBranch) where
  open branch.code use {Known, f, placesf, proper}
  open branch use {code, F, b, last, blank, here, old, middle, new, within, are_listed, sound_ops, ends, own_defs, undefined_params, known_params, classes}
  open branch use {unread_params, between, bare, a, inst_regs, p, come}

  by_itself : CarriesByItself code last old middle
  by_itself = carries_by_itself code last blank here old middle within are_listed between a

  br : Branched code last here a.ended old middle
  br = branch_moves_uses_only code last blank here old middle within are_listed sound_ops ends between bare a

  -- the branch ends its block
  abbrev at_end : LastBranch
  at_end = record {
    code = code;
    F = F;
    last = last;
    blank = blank;
    here = here;
    old = old;
    middle = middle;
    within = within;
    are_listed = are_listed;
    ends = ends;
    own_defs = own_defs;
    between = between;
    a = a;
    u = a.ended;
    br = br;
  }

  abbrev edges : ℕ
  edges = length (block_at f b).succs

  part : Parted f b last edges a.ended inst_regs middle p.gathered p.given
  part = branch_in_parts f b last a.ended inst_regs middle p.gathered edges p.given p.gathers by_itself.between br.scratch_reserve

  ints : Stepped (before last) inst_regs Int (of_class Int p.given) p.gathered p.ints
  ints = class_moves_done (before last) inst_regs Int (of_class Int p.given) p.gathered p.ints p.int

  floats : Stepped (before last) inst_regs Float (of_class Float p.given) p.ints p.floats
  floats = class_moves_done (before last) inst_regs Float (of_class Float p.given) p.ints p.floats p.float

  vectors : Stepped (before last) inst_regs Vector (of_class Vector p.given) p.floats new
  vectors = class_moves_done (before last) inst_regs Vector (of_class Vector p.given) p.floats new p.vector

  -- the moves of the arguments
  abbrev steps : ClassSteps
  steps = steps_of (before last) inst_regs p.given p.gathered p.ints p.floats new ints floats vectors

  same_places : new.places ≡ p.gathered.places
  same_places = all_places steps

  same_slots : new.slots.vreg_spillslots ≡ p.gathered.slots.vreg_spillslots
  same_slots = all_slots steps

  more_slots : p.gathered.slots.count ≤ new.slots.count
  more_slots = all_grow steps

  slots_same : (x : ℕ) → slots_at new x ≡ slots_at p.gathered x
  slots_same x = ap (λ l. opt (slice_index_or l x NoPlace)) same_slots

  stands_same : (x : ℕ) → location_at new x ≡ location_at p.gathered x
  stands_same x = ap (λ (y : VRegAllocsValue). opt (alloc_of y x)) same_places

  -- the slots that are made after each of the tables
  above : (x n : ℕ) → F x ≡ Some (InSlot n) → slots_at p.gathered x ≡ None → new.slots.count ≤ n
  above x n comes none = come.fresh x n comes (slots_same x ∙ none)

  come_gathered : ToCome F p.gathered
  come_gathered = record {
    only = come.only;
    own = come.own;
    stays = λ x q at. come.stays x q (slots_same x ∙ at);
    fresh = λ x n comes none. (let le : new.slots.count ≤ n = above x n comes none in let more : p.gathered.slots.count ≤ new.slots.count = more_slots in
        omega (arith, le, more));
  }

  come_middle : ToCome F middle
  come_middle = to_come-back (λ q. q ≡ before last) F middle p.gathered by_itself.between.whole.units
      (changes_grow (λ q. q ≡ before last) (gathers_moves_changes (λ q r. refl) (any_passed (λ e. e.0 ≡ before last) f b) p.gathers)) come_gathered

  stays_old : (x : ℕ) (q : Place) → slots_at old x ≡ Some q → F x ≡ Some q
  stays_old x q at = come_middle.stays x q (grown_slots (IsAt last) old middle
      (changes_grow (IsAt last) (allocs_inst_changes (λ p r. inr refl) (λ p r. inl refl) (λ k lt. any_operand (λ e. IsAt last e.0) _) a)) x q at)

  held : IsHeldHere inst_regs p.gathered
  held x r at = part.comes.less.early r (br.held x r (part.comes.registers x r at))

  apart : (c : RegClass) (r : Register) → slice_index_or p.gathered.dedicated_scratch (class_code c) None ≡ Some r → (x : ℕ)
      → place_in p.gathered x ≡ InRegister r → ⊥
  apart c r at = (part.stage.scratch_reserve.idle c r (of_machine at)).no_allocs

  abbrev arg_moves : ArgMoves
  arg_moves = record {
    Known = Known;
    same = sound_ops.same;
    f = f;
    F = F;
    b = b;
    known_params = known_params;
    classes = classes;
    steps = steps;
    come = come_gathered;
    above = above;
    whole = part.stage.whole;
    apart = apart;
    held = held;
    origin = part.origin;
    all = part.all;
  }

  -- the listing without the moves of the arguments
  abbrev L : List Item
  L = walked (inst_at f) (at_point (listed p.gathered.edits)) placesf last 1

  abbrev moves : List MoveValue
  moves = all_moves steps

  listed_moves : walked (inst_at f) (at_point (listed new.edits)) placesf last 1 ≡ with_moves moves L
  listed_moves = walked_made (inst_at f) placesf last moves p.gathered.edits new.edits
      (all_at steps)
      (all_other steps (after last) (λ e. omega (arith, e)))

  -- the branch, its own moves and the reloads leave a parameter's slot alone
  slot_untouched : (e : ℕ) (w : VirtualRegister) → HasEdge f b e → Known w → names w (params_on f b e) ≡ true → (n : ℕ) → F w.number ≡ Some (InSlot n) →
      Untouched (InSlot n) L
  slot_untouched e w edge known named n mine =
      let P : (ℕ × MoveValue) → Type 0 = λ d. IsUseMove last (inst_at f last).operands here d ⊎ IsReload (before last) d in
      let pushes : AppendsEdits P old.edits p.gathered.edits =
      appends_edits_trans P old.edits middle.edits p.gathered.edits (pushes_weaken (IsUseMove last (inst_at f last).operands here) P old.edits middle.edits
      (λ d x. inl x) br.pushes)
      (pushes_weaken (IsReload (before last)) P middle.edits p.gathered.edits (λ d x. inr x)
      (changes_push (IsReload (before last)) (gathers_moves_changes (λ q r. (refl, (r, refl))) (any_passed (IsReload (before last)) f b) p.gathers))) in
      untouched_walked (InSlot n) (inst_at f) (at_point (listed p.gathered.edits)) placesf last 1
      (λ q ge lt. no_move_added_to P (InSlot n) q old.edits p.gathered.edits
      (λ d is to. elim is [
        | inl x ↦ elim x.1 [
          | inl r ↦ (let y : InRegister r.0 ≡ InSlot n = sym r.1 ∙ to in cc)
          | inr j ↦ unread_params e w edge named j.0 j.1 j.2 (reads_own at_end come_middle w known n j.0 mine j.1 j.2 (sym to ∙ j.3))
        ]
        | inr x ↦ (let y : InRegister x.1.0 ≡ InSlot n = sym x.1.1 ∙ to in cc)
      ])
      (none_below (InSlot n) q (before (last + 1)) old.edits lt between.later) pushes)
      (λ j le lt. let same : last ≡ j = omega (arith, le, lt) in subst (λ k. Spares (inst_at f k).operands (placesf k) (inst_at f k).clobbers (InSlot n)) same
      (record {
        no_definition = λ k less def at.
            let x : ℕ = (op_at (inst_at f last).operands k).vreg.number in
            let number : x ≡ w.number = come.own x w.number n (own_defs k less def n at) mine in
            let yes_defined : defined_by (inst_at f last).operands w.number ≡ true = subst (λ y. defined_by (inst_at f last).operands y ≡ true) number
            (defined_by-at (inst_at f last).operands k less def) in
            let no_defined : defined_by (inst_at f last).operands w.number ≡ false = undefined_params e w edge named in cc;
        no_clobber = refl;
      }))

  passed_untouched : (v : VirtualRegister) (q : Place) → PassedTo f (λ w. F w.number) b v q → Untouched q L
  passed_untouched v q (k, w, edge, passes, slot) =
      let j = passes_at (params_on f b k) (arguments_at f b k) w v passes in
      let n = come.only w.number q slot in
      subst (λ x. Untouched x L) (sym n.1) (slot_untouched k w edge (subst Known j.2 (known_params k j.0 edge j.1)) (names_at (params_on f b k) j.0 w j.1 j.2)
      n.0 (slot ∙ ap Some n.1))

  unwritten : (v : VirtualRegister) → defined_by (inst_at f last).operands v.number ≡ false → writes v L ≡ false
  unwritten v free = unwritten_walked v (inst_at f) (at_point (listed p.gathered.edits)) placesf last 1
      (λ j le lt. let same : last ≡ j = omega (arith, le, lt) in subst (λ k. Undefined (inst_at f k).operands v) same (undefined_by f placesf F v last free))

  module _ (v : VirtualRegister) (known : Known v) (free : defined_by (inst_at f last).operands v.number ≡ false) (foreign : IsOwnDef f b v → ⊥) (block : Bool)
      (in_slot_or_nowhere : (place_in old v.number ≡ NoPlace) ⊎ ((k : ℕ) × (place_in old v.number ≡ InSlot k) × (slot_in old v.number ≡ InSlot k)))
      (writes_it : block ≡ true → IsUnwritten f b v → ⊥) (lives : block ≡ true → (c : ℕ) → c < length f.blocks → c ≢ b → IsUsedIn f c v →
      place_in old v.number ≢ NoPlace) where
    -- the places that must hold v
    abbrev On : StateValue → Place → Type 0
    On t = Relied false block (location_at t v.number) (slots_at t v.number) (F v.number)

    abbrev Own : Place → Type 0
    Own = OwedOwn f F b v

    -- the listing with the reloads
    reloaded : Carries v L (On p.gathered) Own
    reloaded =
        carries_after_spills (inst_at f) placesf last v block (F v.number) (λ r e. let n = come.only v.number (InRegister r) e in
        let x : InRegister r ≡ InSlot n.0 = n.1 in cc) Own p.gathers by_itself.between
        br.scratch_reserve
        (own_moves at_end come_middle v known
        free block Own (λ q o. o.2)
        (λ yes_block q o. elim (owed_is_relied f F b v block old (stays_old v.number) in_slot_or_nowhere writes_it lives q o).1 [
          | inl at ↦ slot_of_location in_slot_or_nowhere q at
          | inr (inl at) ↦ at
          | inr (inr at) ↦ (let x : block ≡ false = at.0 in cc)
        ]))
      where
        slot_of_location : (place_in old v.number ≡ NoPlace) ⊎ ((k : ℕ) × (place_in old v.number ≡ InSlot k) × (slot_in old v.number ≡ InSlot k)) → (q : Place) →
            location_at old v.number ≡ Some q → slots_at old v.number ≡ Some q
        slot_of_location (inl none) q at = (let x : None ≡ Some q = ap opt (sym none) ∙ at in absurd cc)
        slot_of_location (inr k) q at = ap opt k.2 ∙ ap opt (sym k.1) ∙ at

    abbrev Slot : Place → Type 0
    Slot q = slots_at p.gathered v.number ≡ Some q

    moved : (q : Place) → PassedTo f (λ w. F w.number) b v q → (r : Place) × Slot r × ((c : Cells) → after_moves moves c q ≡ c r)
    moved q passed = passed_moved arg_moves v known foreign q passed

    -- if v is no parameter of a successor
    carries_free : ((e : ℕ) → HasEdge f b e → names v (params_on f b e) ≡ false) →
        Carries v (with_moves moves L) (λ q. On p.gathered q ⊎ Slot q) (StandsAfter f (λ u. F u.number) b v)
    carries_free none =
        pass_arguments f (λ u. F u.number) b v moves L (On p.gathered) Slot Own
        (λ q h c. relied_kept arg_moves v known none block q h c)
        moved (passed_untouched v) (unwritten v free) (λ q h. h) reloaded

    -- if it is one, the branch doesn't read it
    carries_param : (e : ℕ) → HasEdge f b e → names v (params_on f b e) ≡ true →
        Carries v (with_moves moves L) (λ q. ⊥ ⊎ Slot q) (StandsAfter f (λ u. F u.number) b v)
    carries_param e edge named =
        let silent : Silent v L = silent_walked v (inst_at f) (at_point (listed p.gathered.edits)) placesf last 1
        (λ j le lt. let same : last ≡ j = omega (arith, le, lt) in subst (λ k. ReadsOthersOnly (inst_at f k).operands v) same (unread_params e v edge named)) in
        pass_arguments f (λ u. F u.number) b v moves L (λ q. ⊥) Slot (λ q. ⊥) (λ q h c. absurd h) moved (passed_untouched v) (unwritten v free)
        (λ q h. let x : names v (params_on f b e) ≡ false = h.0 e edge in cc) (carries_silent v L (λ q. ⊥) silent)

    undefined_last : defined_from f v.number last 1 ≡ false
    undefined_last = elim (cases_Bool (defined_from f v.number last 1)) [
      | inl is ↦ (let d = defined_from-some f v.number last 1 is in
          let same : d.0 ≡ last = (let ge : last ≤ d.0 = d.1 in let lt : d.0 < last + 1 = d.2 in omega (arith, ge, lt)) in
          let yes : defined_by (inst_at f last).operands v.number ≡ true = subst (λ k. defined_by (inst_at f k).operands v.number ≡ true) same d.3 in
          absurd cc)
      | inr not ↦ not
    ]

    relied_on : (q : Place) → On p.gathered q → On new q
    relied_on q h = (
      h.0,
      elim h.1 [
        | inl at ↦ inl (stands_same v.number ∙ at)
        | inr (inl at) ↦ inr (inl (slots_same v.number ∙ at))
        | inr (inr at) ↦ inr (inr at)
      ],
    )

    slot_on : (q : Place) → Slot q → On new q
    slot_on q at = (refl, inr (inl (slots_same v.number ∙ at)))

    -- what the branch carries
    pub branch_carries : Carries v (walked (inst_at f) (at_point (listed new.edits)) placesf last 1)
        (Relied (defined_from f v.number last 1) block (location_at new v.number) (slots_at new v.number) (F v.number)) (StandsAfter f (λ u. F u.number) b v)
    branch_carries =
        let all : Carries v (with_moves moves L) (On new) (StandsAfter f (λ u. F u.number) b v) = elim (param_cases f b v edges) [
          | inl free ↦ carries_weaken v (with_moves moves L) (λ q. On p.gathered q ⊎ Slot q) (On new) (StandsAfter f (λ u. F u.number) b v)
              (StandsAfter f (λ u. F u.number) b v)
              (λ q h. elim h [ inl x ↦ relied_on q x | inr x ↦ slot_on q x ]) (λ q h. h) (carries_free free)
          | inr at ↦ carries_weaken v (with_moves moves L) (λ q. ⊥ ⊎ Slot q) (On new) (StandsAfter f (λ u. F u.number) b v)
              (StandsAfter f (λ u. F u.number) b v)
              (λ q h. elim h [ inl x ↦ absurd x | inr x ↦ slot_on q x ]) (λ q h. h) (carries_param at.0 at.1 at.2)
        ] in
        subst (λ d. Carries v (walked (inst_at f) (at_point (listed new.edits)) placesf last 1)
        (Relied d block (location_at new v.number) (slots_at new v.number) (F v.number)) (StandsAfter f (λ u. F u.number) b v)) (sym undefined_last)
        (subst (λ l. Carries v l (On new) (StandsAfter f (λ u. F u.number) b v)) (sym listed_moves) all)
