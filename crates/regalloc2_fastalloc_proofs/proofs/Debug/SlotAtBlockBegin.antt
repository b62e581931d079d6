-- A path enters a block: once the moves before its first instruction have run, the slot of a vreg that is live there
-- holds its value.
use Rattle.regalloc2_parts.proofs.Resolving.{All-reversed}
use Rattle.std.proofs.Common.{ℕ, ◌≡◌, ◌≢◌, ◌+◌, ◌<◌, ◌⊎◌, inl, inr, true, false, List, length, refl, sym, ap, ◌∙◌, subst, arith}
use Rattle.std.specs.Prelude.{All, Option, Some, slice_index_or}
use Rattle.regalloc2_names.specs.Register.{VirtualRegister, no_vreg}
use Rattle.regalloc2_names.specs.Place.{Place, NoPlace, InRegister, InSlot, is_on_stack, before}
use Rattle.regalloc2_function.specs.FunctionValue.{FunctionValue, block_at, inst_at, op_at, last_of}
use Rattle.regalloc2_function.specs.Fitting.{MachineFits}
use Rattle.regalloc2_function.specs.Machine.{MachineValue}
use Rattle.regalloc2_function.specs.Listing.{moves_before}
use Rattle.regalloc2_function.specs.OutputValue.{OutputValue, MoveValue, allocs_of}
use Rattle.regalloc2_semantics.specs.Runs.{Way, end_of, IsPath, Stamp, IsDefinitelyAssigned, source_before, after_moves, cells_before}
use Rattle.regalloc2_carry.specs.BlockByPoints.{at_point, listed}
use Rattle.regalloc2_semantics.specs.Live.{IsLive}
use Rattle.regalloc2_semantics.specs.Sound.{Undefined}
use Rattle.regalloc2_carry.specs.Live.{HasEntered, LiveStandInPlaces}
use Rattle.regalloc2_semantics.specs.Laws.{ReadsAgreeOnPaths, Cells}
use Rattle.regalloc2_carry.specs.Live.{HasEntered}
use Rattle.regalloc2_carry.specs.Stores.{store_moves}
use Rattle.regalloc2_carry.proofs.LiveIn.{live_is_used}
use Rattle.regalloc2_carry.proofs.Order.{ends_before}
use Rattle.regalloc2_carry.proofs.Paths.{UsedSomewhere}
use Rattle.regalloc2_carry.proofs.Points.{moves_before-first}
use Rattle.regalloc2_carry.proofs.SingleDef.{Made, one_made}
use Rattle.regalloc2_carry.proofs.StoresInFront.{targets_after_stores, stores_else, in_order, after_append}
use Rattle.regalloc2_carry.proofs.UnwrittenPlaces.{NoMoveTo, moves_kept}
use Rattle.regalloc2_analysis.specs.BranchDefs.BranchDefs.{IsUsedElsewhere}
use Rattle.regalloc2_fastalloc_state.specs.StateParts.{SlotsHaveOneOwner, slot_name}
use Rattle.regalloc2_fastalloc_proofs.specs.InstSteps.{StateValue}
use Rattle.regalloc2_fastalloc_proofs.specs.Safety.{IsSafe, IsWhole}
use Rattle.regalloc2_fastalloc_proofs.specs.StoreSteps.{StoresBranchDefs, none_stored, all_stored}
use Rattle.regalloc2_fastalloc_proofs.proofs.BlockBegin.BranchDefsCarried.{defs_brought}
use Rattle.regalloc2_fastalloc_proofs.proofs.BlockBegin.StoresOfDefs.{stores_branch_defs_grown}
use Rattle.regalloc2_fastalloc_proofs.proofs.Branches.Arrivals.{Arrive, DefsPlaced}
use Rattle.regalloc2_fastalloc_proofs.proofs.Branches.EdgesInto.{one_edge_into}
use Rattle.regalloc2_fastalloc_proofs.proofs.Branches.PlacesOnArrival.{live_used}
use Rattle.regalloc2_fastalloc_proofs.proofs.Moves.StepsAppendEdits.{pushed_at}
use Rattle.regalloc2_fastalloc_proofs.proofs.Operands.AllocsSoFar.{AreSoundOperands}
use Rattle.regalloc2_fastalloc_proofs.proofs.Operands.RecordOverState.{slots_at, opt, opt_from, opt_real, grown_slots}
use Rattle.regalloc2_fastalloc_proofs.proofs.Safety.BlocksKeepSafe.{MayInBlocks}
use Rattle.regalloc2_fastalloc_proofs.proofs.Safety.BlockStartKeepsSafe.{reloads_at_begin_kept}
use Rattle.regalloc2_fastalloc_proofs.proofs.Safety.BranchArgsKeepState.{processes_branch_between}
use Rattle.regalloc2_fastalloc_proofs.proofs.Safety.FunctionKeepsSafe.{SafeWithin}
use Rattle.regalloc2_fastalloc_proofs.proofs.Safety.InstsKeepSafe.{WritesFrom}
use Rattle.regalloc2_fastalloc_proofs.proofs.Safety.OutputOfWalk.{IsOutputOfWalk, machine_apart}
use Rattle.regalloc2_fastalloc_proofs.proofs.Safety.StepsKeepState.{slot_in, slot_no_register}
use Rattle.regalloc2_fastalloc_proofs.proofs.Safety.StoredDefs.{concerned_made, last_within}
use Rattle.regalloc2_fastalloc_proofs.proofs.Slots.InstLeavesOwnedSlot.{no_move_or, writes_allowed}
use Rattle.regalloc2_fastalloc_proofs.proofs.Slots.InstsLeaveSlots.{writes_sound}
use Rattle.regalloc2_fastalloc_proofs.proofs.Slots.LiveInHasSlot.{used_at_begin}
use Rattle.regalloc2_fastalloc_proofs.proofs.Slots.StepsKeepSlots.{Grown, grown_none, grown_then, cases_none, AnyPlace}
use Rattle.regalloc2_fastalloc_proofs.proofs.Walk.AllBlocksCarry.{begin_between, first_edge}
use Rattle.regalloc2_fastalloc_proofs.proofs.Walk.BlockCarries.{ComesBefore}
use Rattle.regalloc2_fastalloc_proofs.proofs.Walk.BlocksCarryFromFreshState.{at_walks_end}
use Rattle.regalloc2_fastalloc_proofs.proofs.Walk.DefsBeforeUses.{param_before}
use Rattle.regalloc2_fastalloc_proofs.proofs.Walk.InstBoundaries.{grown_weaken, grown_pushes}
use Rattle.regalloc2_fastalloc_proofs.proofs.Walk.InstsCarry.{AreListed}
use Rattle.regalloc2_fastalloc_proofs.proofs.Inst.ProperInsts.{all_proper}
use Rattle.regalloc2_fastalloc_proofs.specs.Debug.SlotHoldsValue.{ReadsInPlace, ShowsAt}
use Rattle.regalloc2_fastalloc_proofs.proofs.Debug.BlockWithinWalk.{MetBlock, meet_block, pushed_front}
use Rattle.regalloc2_fastalloc_proofs.proofs.Debug.PathStepLeaves.{read_shows}
use Rattle.regalloc2_fastalloc_proofs.proofs.Debug.SlotAfterWalk.{only_vreg_in_slot}
use Rattle.regalloc2_fastalloc_proofs.proofs.Debug.SlotHoldsDefinedValue.{branch, some_block, are_listed}
use Rattle.regalloc2_fastalloc_proofs.proofs.Debug.WellFormedPaths.{inst_lt, within}
use Rattle.regalloc2_fastalloc_proofs.proofs.Safety.StepsKeepSafe.{rules_of}
use Rattle.regalloc2_fastalloc_proofs.proofs.Walk.WholeWalk.{WholeWalk}
use Rattle.regalloc2_fastalloc_proofs.proofs.Walk.FunctionLaws.{laws_of, code_of}

-- What is known at block starts: the places that hold vregs, on every path, and that the tables are safe along the
-- whole walk.
pub record AreAtBegin (env : MachineValue) (f : FunctionValue) (blank : List Place) (begin last : StateValue) (out : OutputValue)
    (stand : ℕ → VirtualRegister → Option Place) : Type 0 where
  pub arrive : Arrive f (allocs_of out) (slots_at last) stand
  pub placed : (e : ℕ) → e < length f.blocks → (inst_at f (last_of (block_at f e))).is_branch ≡ true → DefsPlaced f (allocs_of out) (slots_at last) e
  pub live : LiveStandInPlaces f out stand
  pub safe : SafeWithin env f blank begin out.allocs

-- A path enters a block with v live; its first instruction is no branch and doesn't define v.
pub record EntersWhereLive (f : FunctionValue) (v : VirtualRegister) (ws : List Way) : Type 0 where
  pub path : IsPath f ws
  pub entered : HasEntered f ws
  pub live : IsLive f v (end_of f ws)
  pub undefined : Undefined (inst_at f (end_of f ws).inst).operands v
  pub plain : (inst_at f (end_of f ws).inst).is_branch ≡ false

module _ (walk : WholeWalk) (fits : MachineFits walk.f walk.env) (m : IsOutputOfWalk walk.f walk.env (Made walk.f) (MayInBlocks walk.f) walk.last walk.out)
    (written : IsDefinitelyAssigned walk.f) (stand : ℕ → VirtualRegister → Option Place)
    (at : AreAtBegin walk.env walk.f walk.blank walk.begin walk.last walk.out stand) (v : VirtualRegister) (known : Made walk.f v) (n : ℕ)
    (mine : slot_name walk.last.slots v.number ≡ InSlot n) where
  open walk use {env, f, limited, ok, blank, begin, last, out, empty, fit, walks}

  places_listed : AreListed f (allocs_of out) 0 out.allocs
  places_listed = are_listed walk m

  whole : IsWhole last
  whole = (at_walks_end walk (processes_branch_between f)).whole

  mine_there : slots_at last v.number ≡ Some (InSlot n)
  mine_there = ap opt mine

  -- slots of the walk's end, each of one number
  slot_own : (x y k : ℕ) → slots_at last x ≡ Some (InSlot k) → slots_at last y ≡ Some (InSlot k) → x ≡ y
  slot_own x y k a b = whole.own x y k (opt_from (slot_in last x) (InSlot k) a) (opt_from (slot_in last y) (InSlot k) b)

  slot_there : (x : ℕ) (q : Place) → slots_at last x ≡ Some q → (k : ℕ) × (q ≡ InSlot k)
  slot_there x NoPlace is = absurd (opt_real (slot_in last x) NoPlace is refl)
  slot_there x (InRegister r) is = absurd (slot_no_register last.slots.count (slot_in last x) r (whole.below x) (opt_from (slot_in last x) (InRegister r) is))
  slot_there x (InSlot k) is = (k, refl)

  module _ (b : ℕ) (lb : b < length f.blocks) where
    abbrev first : ℕ
    first = (block_at f b).range.first

    -- the block in the walk
    w : MetBlock f (allocs_of out) blank begin b last
    w = meet_block (code_of (Made f) f (all_proper env f limited ok) (branch env f limited ok) ok.follow ok.end (allocs_of out)) blank begin last b lb walks 0
        (first_edge f ok.follow (some_block env f limited ok))
        places_listed (grown_none (ComesBefore 0) last last refl) (omega arith)

    -- the tables once its reloads are pushed
    abbrev reloaded : StateValue
    reloaded = w.begins.middle

    some : first < (block_at f b).range.end
    some = (ok.follow b lb).0

    reloaded_safe : IsSafe env (Made f) (WritesFrom f out.allocs (b + 1)) (MayInBlocks f) reloaded
    reloaded_safe = (reloads_at_begin_kept (rules_of env (machine_apart f env fits) (Made f) (WritesFrom f out.allocs (b + 1)) (MayInBlocks f) (before first)
        (b, first, lb, omega arith, some, inl refl)) (block_at f b).params
        (λ k less. Made.by_param b k (record { block = lb; param = less; number = refl }) refl) w.tables reloaded w.begins.reloads
        (at.safe b lb w.end_places w.end_tables w.blocks first w.places w.tables w.inside
        (λ j k le less within. sym (places_listed j (omega arith) less k within) ∙ w.listed j le less k within))).safe

    grows : Grown AnyPlace reloaded last
    grows = grown_then AnyPlace reloaded w.begun last (stores_branch_defs_grown AnyPlace f b reloaded w.begun tt w.begins.stores)
        (grown_weaken (ComesBefore first) AnyPlace w.begun last (λ k x. tt) w.rest)

    -- the moves so far that go to the slot
    so_far : All (λ e. e.1.to ≡ InSlot n → WritesFrom f out.allocs (b + 1) e.0 v n) (listed reloaded.edits)
    so_far = All-reversed (λ e. e.1.to ≡ InSlot n → WritesFrom f out.allocs (b + 1) e.0 v n) reloaded.edits
        (writes_allowed env (Made f) (one_made f ok.defined_once) (WritesFrom f out.allocs (b + 1)) (MayInBlocks f) (slots_at last) slot_own reloaded
        reloaded_safe.edits (grown_slots AnyPlace reloaded last grows)
        (λ x k is. elim (cases_none (slot_name reloaded.slots x)) [
          | inl none ↦ inr (grows.fresh reloaded_safe.units x k none (opt_from (slot_in last x) (InSlot k) is))
          | inr there ↦ inl (sym (grows.stay x there) ∙ opt_from (slot_in last x) (InSlot k) is)
        ]) n v known mine_there)

    -- the block's first instruction reads v in the slot, if a move before it writes the slot
    read_first : (inst_at f first).is_branch ≡ false → WritesFrom f out.allocs (b + 1) (before first) v n → (k : ℕ) × ReadsInPlace f out v (InSlot n) first k
    read_first plain (inl x) =
        let r = (writes_sound f (allocs_of out) out.allocs places_listed first plain).sooner v n x in
        (r.0, record { within = r.1; reading = r.2; vreg = r.3; place = r.4 })
    read_first plain (inr s) =
        let same : before first ≡ before (block_at f s.0).range.first = s.3 in
        let apart = ends_before f ok.follow b s.0 (let ge = s.1 in omega (arith, ge)) s.2 in
        let less = some in
        absurd (omega (arith, same, apart, less))

    later_fine : (inst_at f first).is_branch ≡ false → NoMoveTo (InSlot n) (at_point (listed reloaded.edits) (before first))
        ⊎ ((k : ℕ) × ReadsInPlace f out v (InSlot n) first k)
    later_fine plain = no_move_or (InSlot n) (before first) (listed reloaded.edits) ((k : ℕ) × ReadsInPlace f out v (InSlot n) first k)
        (λ k d less is to. read_first plain (subst (λ q. WritesFrom f out.allocs (b + 1) q v n) is (so_far k d less to)))

    -- the moves at the point before the block's first instruction
    moves_there : at_point out.edits (before first) ≡ at_point (listed w.begun.edits) (before first)
    moves_there = ap (λ es. at_point es (before first)) m.edits
        ∙ pushed_at (λ e. ComesBefore first e.0) (before first) w.begun.edits last.edits (λ e h is. omega (arith, h, is)) (grown_pushes
        (ComesBefore first) w.begun last w.rest)

    module _ (used : IsUsedElsewhere f v) (somewhere : UsedSomewhere f v) where
      has_slot : (j : ℕ) → j < length (block_at f b).params → slice_index_or (block_at f b).params j no_vreg ≡ v → slot_in reloaded v.number ≢ NoPlace
      has_slot j less is = used_at_begin
          (laws_of f ok.defined_once ok.follow ok.end ok.uses_defined ok.counted (all_proper env f limited ok) (branch env f limited ok)) blank
          begin (begin_between f begin empty fit) somewhere.block somewhere.within v somewhere.unwritten somewhere.used (record {
            b = b;
            lb = lb;
            p = w.end_places;
            q = w.places;
            s = w.end_tables;
            u = w.tables;
            w = w.begun;
            prev = w.blocks;
            walk = w.inside;
            begins = w.begins;
          })
          (param_before f ok.defined_once ok.follow ok.uses_defined b j v
          (record { block = lb; param = less; number = ap (λ (x : VirtualRegister). x.number) is }) lb somewhere.block somewhere.within somewhere.used)

      -- what v's location on entry holds, is in v's slot once the moves have run
      comes_there : (c : Cells) (x : Option Stamp) → ((q : Place) → stand b v ≡ Some q → c q ≡ x) →
          NoMoveTo (InSlot n) (at_point (listed reloaded.edits) (before first)) → StoresBranchDefs f b reloaded w.begun →
          after_moves (at_point (listed w.begun.edits) (before first)) c (InSlot n) ≡ x
      comes_there c x holds none (none_stored never same) =
          ap (λ (t : StateValue). after_moves (at_point (listed t.edits) (before first)) c (InSlot n)) same
          ∙ moves_kept (InSlot n) (at_point (listed reloaded.edits) (before first)) c none
          ∙ holds (InSlot n) (at.arrive.other b v (λ d e k edge own. used) (λ e k into own. never e k into) (λ e k j into less is own. never e k into)
          ∙ mine_there)
      comes_there c x holds none (all_stored e k edge s) =
          let M : List MoveValue = at_point (listed reloaded.edits) (before first) in
          let then : Cells = after_moves (store_moves s.stores) c in
          let there : then (InSlot n) ≡ x = elim (defs_brought (record {
            f = f;
            once = ok.defined_once;
            placesf = allocs_of out;
            F = slots_at last;
            stand = stand;
            arrive = at.arrive;
            own = slot_own;
            only = slot_there;
            lasts = last_within f ok.follow;
            concerned = concerned_made f ok.successors ok.follow;
            b = b;
            lb = lb;
            middle = reloaded;
            new = w.begun;
            stays = grown_slots (ComesBefore first) w.begun last w.rest;
            placed = λ d j into. at.placed d into.block into.definitions.0;
            v = v;
            made = known;
            needed = λ d e2 k2 into own. used;
            has_slot = has_slot;
          }) e k edge s
          (λ d j into. one_edge_into env f ok b e k d j edge into) (InSlot n) mine_there) [
            | inl y ↦ subst (λ (q : Place). then q ≡ x) y.2 (targets_after_stores s.stores (in_order
                (is_on_stack reloaded.fixed_stack) refl s.stores s.in_order) c y.0 y.1
                ∙ holds y.0.from y.3)
            | inr y ↦ stores_else s.stores c (InSlot n) y.1 ∙ holds (InSlot n) y.0
          ] in
          ap (λ ms. after_moves ms c (InSlot n)) (ap (λ es. at_point (listed es) (before first)) s.edits
          ∙ pushed_front (before first) (store_moves s.stores) reloaded.edits)
          ∙ ap (λ (d : Cells). d (InSlot n)) (after_append (store_moves s.stores) M c)
          ∙ moves_kept (InSlot n) M then none ∙ there

  module _ (agree : ReadsAgreeOnPaths f out) (owned : SlotsHaveOneOwner last.slots)
      (sound_ops : (i : ℕ) → i < length f.insts → AreSoundOperands (Made f) (inst_at f i).operands) where
    -- a path has entered a block with v live
    pub entered_shows : (ws : List Way) → EntersWhereLive f v ws → ShowsAt f out v (InSlot n) ws
    entered_shows ws enters =
        let path : IsPath f ws = enters.path in
        let entered : HasEntered f ws = enters.entered in
        let live : IsLive f v (end_of f ws) = enters.live in
        let undefined : Undefined (inst_at f (end_of f ws).inst).operands v = enters.undefined in
        let plain : (inst_at f (end_of f ws).inst).is_branch ≡ false = enters.plain in
        let b : ℕ = (end_of f ws).block in
        let lb : b < length f.blocks = within env f ok written v ws path in
        let first : ℕ = (block_at f b).range.first in
        let here : (end_of f ws).inst ≡ first = entered in
        elim (later_fine b lb (ap (λ (i : ℕ). (inst_at f i).is_branch) (sym here) ∙ plain)) [
          | inr (k, r) ↦ read_shows f out ws v (InSlot n) k (agree ws path) (subst (λ (i : ℕ). ReadsInPlace f out v (InSlot n) i k) (sym here) r) undefined
              (record {
                no_definition = λ j less def is. undefined j less def (only_vreg_in_slot env f ok.defined_once last out m owned v known n mine sound_ops
                    (op_at (inst_at f (end_of f ws).inst).operands j).vreg (end_of f ws).inst j
                    (inst_lt env f ok written v ws path, less, refl) is);
                no_clobber = refl;
              })
          | inl none ↦ (
              ap (λ ms. after_moves ms (cells_before f out ws) (InSlot n)) (ap (λ (i : ℕ). moves_before out first i) here ∙ moves_before-first out first
              ∙ moves_there b lb)
              ∙ comes_there b lb (live_used f v (end_of f ws) live) (live_is_used env f ok written ws path entered v live) (cells_before f out ws)
              (source_before f ws v) (λ q is. (at.live ws path entered v q live is).1) none (w b lb).begins.stores)
        ]
