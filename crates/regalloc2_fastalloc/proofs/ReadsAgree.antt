-- The walk over the blocks of a well-formed function that the allocator takes, from a fresh state to the output: reads
-- agree on every path, and a vreg that is live where a path comes to a block is in its slot, or where the branch into
-- the block left it.
use Rattle.std.proofs.Common.{ℕ, ◌≡◌, ◌≢◌, ◌-◌, ◌<◌, zero, suc, List, [], ◌∷◌, length, map, nat_eq, refl, sym, ap, ◌∙◌, ◌+◌, subst, arith}
use Rattle.std.specs.Prelude.{All, Contains, filter, Option, Some, slice_index_or, zip}
use Rattle.std.proofs.lemmas.List.{get_or_default}
use Rattle.std.proofs.lemmas.Slice.Zip.{length-zip, get_or-zip}
use Rattle.std.proofs.lemmas.Bool.{ne_eqb}
use Rattle.regalloc2_names.specs.Register.{VirtualRegister, no_vreg}
use Rattle.regalloc2_names.specs.Place.{Place, NoPlace, InRegister, InSlot, after}
use Rattle.regalloc2_semantics.specs.Debug.{ShowsValue}
use Rattle.regalloc2_function.specs.FunctionValue.{Label, block_at, inst_at, FunctionValue, last_of}
use Rattle.regalloc2_function.specs.Machine.{MachineValue}
use Rattle.regalloc2_function.specs.WellFormed.{IsWellFormed}
use Rattle.regalloc2_function.specs.Fitting.{MachineFits}
use Rattle.regalloc2_function.specs.OutputValue.{MoveValue, allocs_of, place_at}
use Rattle.regalloc2_semantics.specs.Runs.{Way, Location, end_of, IsPath, IsDefinitelyAssigned, ToSuccessor, HasWay, arguments_at}
use Rattle.regalloc2_semantics.specs.Places.{OfVReg}
use Rattle.regalloc2_carry.specs.BlockByPoints.{block_walked, Rising, EndsQuiet}
use Rattle.regalloc2_carry.specs.Blocks.{BlockCarriesOn}
use Rattle.regalloc2_semantics.specs.Live.{IsLive, DefinesAt}
use Rattle.regalloc2_carry.specs.Live.{HoldsValueAt}
use Rattle.regalloc2_carry.specs.Live.{LiveStandInPlaces, HasEntered}
use Rattle.regalloc2_semantics.specs.Sound.{target_at}
use Rattle.regalloc2_analysis.specs.BranchDefs.BranchDefs.{DefinesNumber, IsEdgeInto}
use Rattle.regalloc2_semantics.specs.Laws.{ReadsAgreeOnPaths}
use Rattle.regalloc2_carry.proofs.Points.{rising_by}
use Rattle.regalloc2_carry.proofs.SingleDef.{Made}
use Rattle.regalloc2_carry.proofs.Order.{passed_made}
use Rattle.regalloc2_analysis.proofs.BranchDefsLemmas.BlockEnds.{goes_on_by_branch}
use Rattle.regalloc2_fastalloc_proofs.specs.BranchSteps.{IsOwnDef}
use Rattle.regalloc2_fastalloc_proofs.specs.StoreSteps.{branch_operands}
use Rattle.regalloc2_fastalloc_proofs.proofs.Branches.EdgesInto.{entered_by_one}
use Rattle.regalloc2_semantics.proofs.Soundness.{edge_within, well_formed_are_sound}
use Rattle.regalloc2_carry.proofs.Paths.{blocks_agree_in_places_by_points}
use Rattle.regalloc2_carry.proofs.LiveIn.{live_is_used, live_stand_in_places}
use Rattle.regalloc2_fastalloc_state.specs.Validate.NoLimits.{AreTaken}
use Rattle.regalloc2_function.specs.WellFormed.{BranchDefinesInPlace}
use Rattle.regalloc2_fastalloc_state.specs.StateParts.{SlotsHaveOneOwner, IsSlotOrNone, slot_name}
use Rattle.regalloc2_analysis.specs.declared.live_ranges.LiveRange.{LiveRange}
use Rattle.regalloc2_analysis.specs.LiveRanges.LiveRanges.{IsKeptRange}
use Rattle.regalloc2_fastalloc_proofs.specs.Debug.ShownPlace.{shown_place}
use Rattle.regalloc2_fastalloc_proofs.proofs.Debug.DebugLocationsHoldValues.{label_shown}
use Rattle.regalloc2_fastalloc.specs.Guarantee.{LiveInSlots, IsPassedTo, ArrivesAt, defined, given, in_slot}
use Rattle.regalloc2_fastalloc_proofs.specs.InstSteps.{StateValue}
use Rattle.regalloc2_fastalloc_proofs.proofs.Slots.ApartSlotsAreOwned.{OwnsSlots}
use Rattle.regalloc2_fastalloc_proofs.proofs.Walk.DefsBeforeUses.{used_made}
use Rattle.regalloc2_fastalloc_proofs.specs.BlockSteps.{AllocsBlocks}
use Rattle.regalloc2_fastalloc_proofs.proofs.Moves.ScratchRegTaken.{Fit}
use Rattle.regalloc2_fastalloc_proofs.proofs.Walk.InstsCarry.{AreListed, Blank}
use Rattle.regalloc2_fastalloc_proofs.proofs.Safety.InstsKeepSafe.{WritesFrom, WalkKept}
use Rattle.regalloc2_fastalloc_proofs.proofs.Safety.OutputOfWalk.{IsOutputOfWalk, made_in_order, place_is}
use Rattle.regalloc2_fastalloc_proofs.proofs.Safety.BlocksKeepSafe.{MayInBlocks}
use Rattle.regalloc2_fastalloc_proofs.proofs.Safety.FunctionKeepsSafe.{SafeWithin, made_none_at_end, walk_blocks_good, walk_safe, FreshWalk}
use Rattle.regalloc2_fastalloc_proofs.proofs.Walk.InstBoundaries.{allocs_blocks_outside, kept_code_of}
use Rattle.regalloc2_fastalloc_proofs.proofs.Branches.LocationsAfterBranch.{branch_kept}
use Rattle.regalloc2_fastalloc_proofs.proofs.Walk.AllBlocksCarry.{begin_between}
use Rattle.regalloc2_fastalloc_proofs.proofs.Safety.BranchArgsKeepState.{processes_branch_between}
use Rattle.regalloc2_fastalloc_proofs.proofs.Slots.InstsLeaveSlots.{writes_sound_in}
use Rattle.regalloc2_fastalloc_proofs.proofs.BlockEnd.NoMoveForOperand.{IsOutside}
use Rattle.regalloc2_fastalloc_proofs.proofs.Branches.Arrivals.{Arrive}
use Rattle.regalloc2_fastalloc_proofs.proofs.Branches.PlacesOnArrival.{vregs_arrive, live_needed, live_used, stand_on}
use Rattle.regalloc2_fastalloc_proofs.specs.Safety.{IsWhole}
use Rattle.regalloc2_fastalloc_proofs.proofs.Safety.StepsKeepState.{slot_in}
use Rattle.regalloc2_fastalloc_proofs.proofs.Operands.RecordOverState.{slots_at, opt_some}
use Rattle.regalloc2_fastalloc_proofs.proofs.Operands.AllocsSoFar.{AreSoundOperands}
use Rattle.regalloc2_fastalloc_proofs.proofs.Slots.SlotsOwned.{owner_known}
use Rattle.regalloc2_fastalloc_proofs.proofs.Walk.BlocksCarryFromFreshState.{at_walks_end, blocks_carry, own_defines, used_slots, walk_places_defs}
use Rattle.regalloc2_fastalloc_proofs.proofs.Inst.ProperInsts.{all_proper}
use Rattle.regalloc2_fastalloc_proofs.proofs.Walk.WholeWalk.{WholeWalk}

-- where no move is at a point
none_there : (q : ℕ) (es : List (ℕ × MoveValue)) → All (λ e. e.0 ≢ q) es → filter (λ e. nat_eq e.0 q) es ≡ []
none_there q [] h = refl
none_there q (e ∷ es) h = rw (ne_eqb e.0 q (h 0 e (omega arith))) (none_there q es (λ k d lt. h (suc k) d (omega arith)))

-- the number of a slot
abbrev number_of : Place → ℕ
number_of NoPlace = 0
number_of (InRegister r) = 0
number_of (InSlot n) = n

is_numbered : (count : ℕ) (p : Place) → IsSlotOrNone count p → p ≢ NoPlace → p ≡ InSlot (number_of p)
is_numbered count NoPlace h there = absurd (there refl)
is_numbered count (InRegister r) h there = absurd h
is_numbered count (InSlot n) h there = refl

-- a pair of a parameter and its argument, and back
zip_parts : (ps xs : List VirtualRegister) (n : ℕ) (v u : VirtualRegister) → n < length (zip ps xs) → slice_index_or (zip ps xs) n (v, u) ≡ (v, u) →
    (n < length ps) × (slice_index_or ps n no_vreg ≡ v) × (slice_index_or xs n no_vreg ≡ u)
zip_parts [] xs n v u lt e = absurd (omega (arith, lt))
zip_parts (p ∷ ps) [] n v u lt e = absurd (omega (arith, lt))
zip_parts (p ∷ ps) (x ∷ xs) zero v u lt e =
    (omega arith, ap (λ (z : VirtualRegister × VirtualRegister). z.0) e, ap (λ (z : VirtualRegister × VirtualRegister). z.1) e)
zip_parts (p ∷ ps) (x ∷ xs) (suc n) v u lt e = (let r = zip_parts ps xs n v u (omega (arith, lt)) e in let less = r.0 in (omega (arith, less), r.1, r.2))

zip_there : (ps xs : List VirtualRegister) (n : ℕ) → n < length ps → length ps ≡ length xs →
    Contains (zip ps xs) (slice_index_or ps n no_vreg, slice_index_or xs n no_vreg)
zip_there ps xs n lt same = (
  n,
  (let long = length-zip ps xs in omega (arith, long, lt, same)),
  get_or-zip ps xs n (slice_index_or ps n no_vreg, slice_index_or xs n no_vreg) lt (omega (arith, lt, same))
      ∙ pair_same (get_or_default ps n _ no_vreg lt) (get_or_default xs n _ no_vreg (omega (arith, lt, same))),
)
  where
    pair_same : {a b c d : VirtualRegister} → a ≡ b → c ≡ d → ◌≡◌ {A = VirtualRegister × VirtualRegister} (a, c) (b, d)
    pair_same e g = rw (e, g) refl

-- an edge out of a branch that defines v by the operand j
record IsEdgeOfBranch (f : FunctionValue) (l : Location) (k : ℕ) (v : VirtualRegister) (j : ℕ) : Type 0 where
  last : l.inst ≡ last_of (block_at f l.block)
  edge : IsEdgeInto f (target_at f l.block k) l.block k
  defines : DefinesNumber (branch_operands f l.block) v.number j

edge_of_branch : (env : MachineValue) (f : FunctionValue) → IsWellFormed env f → (l : Location) (k : ℕ) → HasWay f l (ToSuccessor k) → (v : VirtualRegister)
    (d : DefinesAt f v l.inst) → IsEdgeOfBranch f l k v d.0
edge_of_branch env f ok l k (end, edge) v d =
    let lb : l.block < length f.blocks = edge_within f l.block k edge in
    let at : l.inst ≡ last_of (block_at f l.block) = omega (arith, end) in
    let defines : DefinesNumber (branch_operands f l.block) v.number d.0 = subst (λ i. DefinesNumber (inst_at f i).operands v.number d.0) at
    (record { operand = d.1.1; definition = d.2; number = ap (λ (w : VirtualRegister). w.number) d.1.2 }) in
    record {
      last = at;
      edge = record {
        block = lb;
        edge = edge;
        target = refl;
        definitions = (goes_on_by_branch f (env, ok) l.block k lb edge, (v.number, d.0, defines));
      };
      defines = defines;
    }

module _ (walk : WholeWalk) (taken : AreTaken walk.f) (in_place : (i : ℕ) → i < length walk.f.insts → BranchDefinesInPlace (inst_at walk.f i))
    (safe : SafeWithin walk.env walk.f walk.blank walk.begin walk.out.allocs)
    (m : IsOutputOfWalk walk.f walk.env (Made walk.f) (MayInBlocks walk.f) walk.last walk.out) where
  open walk use {env, f, limited, ok, blank, begin, last, out, empty, fit, walks}

  are_listed : AreListed f (allocs_of out) 0 out.allocs
  are_listed j le lt k less = place_is f env (Made f) (MayInBlocks f) last out m j lt k less

  -- no move is behind a block's last instruction
  pub blocks_quiet : (b : ℕ) → b < length f.blocks → EndsQuiet f out b
  blocks_quiet b lb =
      let end : ℕ = (block_at f b).range.end in
      let some : (block_at f b).range.first < end = (ok.follow b lb).0 in
      let not_at_end = made_none_at_end f env (Made f) last out ok.follow m b lb in
      ap (map (λ e. e.1)) (none_there (after (end - 1)) out.edits (λ k d lt e. not_at_end k d lt (omega (arith, e, some))))

  -- where vregs are at a block's beginning
  abbrev standing : ℕ → VirtualRegister → Option Place
  standing = stand_on env f ok (allocs_of out) (slots_at last)

  -- each block carries what the lemmas on paths require
  made_blocks_carry : (b : ℕ) → BlockCarriesOn f standing b (block_walked f out b)
  made_blocks_carry =
      blocks_carry walk (processes_branch_between f) m.edits are_listed (λ b. WritesFrom f out.allocs (b + 1))
      (MayInBlocks f) (λ b lb p s prev i q u walk listed. safe b lb p s prev i q u walk
      (λ j k le less within. sym (are_listed j (omega arith) less k within) ∙ listed j le less k within))
      (λ j k lt less. m.kept.good j k (omega arith) lt less)
      (λ b i lb ge less. writes_sound_in f ok.follow (allocs_of out) out.allocs are_listed b i lb ge less (((ok.end b lb).1 i ge (omega (arith, less)) less).0))
      taken in_place

  made_rising : Rising out.edits
  made_rising = rising_by out.edits (made_in_order f env (Made f) (MayInBlocks f) last out m).points_never_fall

  -- each use finds in its place what the function wrote
  pub made_blocks_agree : IsDefinitelyAssigned f → ReadsAgreeOnPaths f out
  made_blocks_agree written = blocks_agree_in_places_by_points f out standing (well_formed_are_sound env f ok) written made_rising blocks_quiet
      (λ b reached. made_blocks_carry b)

  -- each vreg that is live where a path comes to a block is in its current location there
  pub made_live_stand : IsDefinitelyAssigned f → LiveStandInPlaces f out standing
  made_live_stand written = live_stand_in_places env f out standing ok written made_rising blocks_quiet (λ b reached. made_blocks_carry b)

  -- a vreg that is live where a path comes to a block has a slot
  pub made_live_slots : IsDefinitelyAssigned f → (ws : List Way) → IsPath f ws → HasEntered f ws → (v : VirtualRegister) → IsLive f v (end_of f ws) →
      slot_in last v.number ≢ NoPlace
  made_live_slots written ws path entered v live = used_slots walk (processes_branch_between f) v
      (live_is_used env f ok written ws path entered v live)

  -- a vreg that is live where a path comes to a block is defined in the function
  live_made : IsDefinitelyAssigned f → (ws : List Way) → IsPath f ws → HasEntered f ws → (v : VirtualRegister) → IsLive f v (end_of f ws) → Made f v
  live_made written ws path entered v live =
      let used = live_is_used env f ok written ws path entered v live in
      used_made f ok.defined_once ok.follow ok.uses_defined v used.block used.within used.used

  -- all as `run` guarantees it
  pub made_in_slots : (owns : OwnsSlots (Made f) f last.slots out) → SlotsHaveOneOwner last.slots →
      ((i : ℕ) → i < length f.insts → AreSoundOperands (Made f) (inst_at f i).operands) → IsDefinitelyAssigned f → LiveInSlots f out owns.owned.owner
  made_in_slots owns owned sound_ops written = record {
    slot = λ v. number_of (slot_in last v.number);
    operands = λ v i k n names is. ap number_of (owner_known f env (Made f) (MayInBlocks f) last out m owned sound_ops v n i k names is).1;
    live = λ ws k path v live. (owned_by ws k path v live, λ p arrives_at. by_arrival ws k path v live p arrives_at);
  }
    where
      whole : IsWhole last
      whole = (at_walks_end walk (processes_branch_between f)).whole

      owned_by : (ws : List Way) (k : ℕ) → IsPath f (ToSuccessor k ∷ ws) → (v : VirtualRegister) → IsLive f v (end_of f (ToSuccessor k ∷ ws)) →
          owns.owned.owner (number_of (slot_in last v.number)) ≡ OfVReg v
      owned_by ws k path v live =
          let made : Made f v = live_made written (ToSuccessor k ∷ ws) path refl v live in
          owns.vregs v (number_of (slot_in last v.number)) made
          (is_numbered last.slots.count (slot_in last v.number) (whole.below v.number) (made_live_slots written (ToSuccessor k ∷ ws) path refl v live))

      arrive : Arrive f (allocs_of out) (slots_at last) standing
      arrive = vregs_arrive env f ok (allocs_of out) (slots_at last)

      by_arrival : (ws : List Way) (k : ℕ) → IsPath f (ToSuccessor k ∷ ws) → (v : VirtualRegister) → IsLive f v (end_of f (ToSuccessor k ∷ ws)) → (p : Place) →
          ArrivesAt f out (λ w. number_of (slot_in last w.number)) (end_of f ws) k v p → HoldsValueAt f out (ToSuccessor k ∷ ws) p v
      by_arrival ws k path v live p (defined d) =
          let l : Location = end_of f ws in
          let e : IsEdgeOfBranch f l k v d.0 = edge_of_branch env f ok l k path.1 v d in
          made_live_stand written (ToSuccessor k ∷ ws) path refl v _ live
          (arrive.own (target_at f l.block k) l.block k d.0 v e.edge e.defines (live_used f v (end_of f (ToSuccessor k ∷ ws)) live)
          ∙ ap (λ i. Some (place_at (allocs_of out i) d.0)) (sym e.last))
      by_arrival ws k path v live p (given u passed d) =
          let l : Location = end_of f ws in
          let e : IsEdgeOfBranch f l k u d.0 = edge_of_branch env f ok l k path.1 u d in
          let z = zip_parts (block_at f (target_at f l.block k)).params (arguments_at f l.block k) passed.0 v u passed.1 passed.2 in
          made_live_stand written (ToSuccessor k ∷ ws) path refl v _ live
          (subst (λ w. standing (target_at f l.block k) w ≡ Some (place_at (allocs_of out l.inst) d.0)) z.1
          (arrive.given (target_at f l.block k) l.block k passed.0 d.0 e.edge z.0
          (subst (λ (w : VirtualRegister). DefinesNumber (branch_operands f l.block) w.number d.0) (sym z.2) e.defines)
          ∙ ap (λ i. Some (place_at (allocs_of out i) d.0)) (sym e.last)))
      by_arrival ws k path v live p (in_slot no_own no_given) =
          let q : Place = slot_in last v.number in
          let there : q ≢ NoPlace = made_live_slots written (ToSuccessor k ∷ ws) path refl v live in
          let at : standing (target_at f (end_of f ws).block k) v ≡ slots_at last v.number =
          arrive.other (target_at f (end_of f ws).block k) v (live_needed f v (end_of f (ToSuccessor k ∷ ws)) live)
          (λ e j into own. no_own (defines_before e j into v (live_made written (ToSuccessor k ∷ ws) path refl v live) own))
          (λ e j n into lt is own. given_before e j n into lt is own) in
          subst (λ r. HoldsValueAt f out (ToSuccessor k ∷ ws) r v) (is_numbered last.slots.count q (whole.below v.number) there)
          (made_live_stand written (ToSuccessor k ∷ ws) path refl v q live (at ∙ opt_some q there))
        where
          l : Location
          l = end_of f ws

          lb : l.block < length f.blocks
          lb = edge_within f l.block k path.1.1

          last_is : l.inst ≡ last_of (block_at f l.block)
          last_is = (let end = path.1.0 in omega (arith, end))

          -- what a branch into the block defines, the branch of the path's last edge defines
          defines_before : (e j : ℕ) → IsEdgeInto f (target_at f l.block k) e j → (w : VirtualRegister) → Made f w → IsOwnDef f e w → DefinesAt f w l.inst
          defines_before e j into w made own =
              let same : l.block ≡ e = (entered_by_one env f ok l.block k lb path.1.1 e j into).0 in
              subst (DefinesAt f w) (sym last_is) (own_defines walk (processes_branch_between f) w l.block lb made (subst (λ c. IsOwnDef f c w) (sym same) own))

          given_before : (e j n : ℕ) → IsEdgeInto f (target_at f l.block k) e j → n < length (block_at f (target_at f l.block k)).params →
              slice_index_or (block_at f (target_at f l.block k)).params n no_vreg ≡ v →
              IsOwnDef f e (slice_index_or (arguments_at f e j) n no_vreg) → ⊥
          given_before e j n into lt is own =
              let same = entered_by_one env f ok l.block k lb path.1.1 e j into in
              let xs : List VirtualRegister = arguments_at f l.block k in
              let u : VirtualRegister = slice_index_or xs n no_vreg in
              let counted = (well_formed_are_sound env f ok).arguments l.block k path.1.1 in
              let here : u ≡ slice_index_or (arguments_at f e j) n no_vreg = ap (λ c. slice_index_or (arguments_at f c k) n no_vreg) same.0
              ∙ ap (λ i. slice_index_or (arguments_at f e i) n no_vreg) same.1 in
              let inside : n < length xs = omega (arith, lt, counted) in
              let made : Made f u = passed_made f ok.defined_once l.block k u ok.follow ok.uses_defined lb path.1.1
              (n, inside, get_or_default xs n u no_vreg inside) in
              no_given u (subst (λ (w : VirtualRegister). IsPassedTo f l k w u) is (zip_there (block_at f (target_at f l.block k)).params xs n lt counted))
              (defines_before e j into u made (subst (λ (w : VirtualRegister). IsOwnDef f e w) (sym here) own))

  -- the place by which a label's vreg is shown holds its value
  pub made_label_shown : MachineFits f env → SlotsHaveOneOwner last.slots → ((i : ℕ) → i < length f.insts → AreSoundOperands (Made f) (inst_at f i).operands) →
      IsDefinitelyAssigned f → (l : Label) (r : LiveRange) → IsKeptRange f l r →
      ShowsValue f out l.vreg (shown_place out (slot_name last.slots r.vreg.number) r.by)
  made_label_shown fits owned sound_ops written l r k =
      (label_shown walk m fits written owned sound_ops (made_blocks_agree written) standing (record {
        arrive = vregs_arrive env f ok (allocs_of out) (slots_at last);
        placed = walk_places_defs walk (processes_branch_between f) are_listed
            (λ j k lt less. m.kept.good j k (omega arith) lt less) taken in_place;
        live = made_live_stand written;
        safe = safe;
      }) l r k).1

-- The walk keeps the tables safe, since no vreg is in a register between blocks.
module _ (fresh : FreshWalk) (empty : Blank fresh.begin) (fit : Fit fresh.begin) where
  open fresh use {env, f, fits, limited, ok, taken, blank, places, begin, last, n, m, sizes, by_last, none_held, slots, none, units, machine, walks}

  bare : (c : ℕ) (ps : List Place) (u : StateValue) → AllocsBlocks f blank begin c ps u → IsOutside u
  bare = allocs_blocks_outside (kept_code_of (Made f) f (all_proper env f limited ok) (branch_kept f ok.counted (processes_branch_between f))) ok.follow blank begin
      (begin_between f begin empty fit) (record { nowhere = empty.nowhere; none_held = empty.none_held })

  -- the walk's last state is safe, and each operand has a good place
  pub walk_is_good : WalkKept env (Made f) f (MayInBlocks f) places 0 0 places last
  walk_is_good = walk_blocks_good fresh bare

  -- the states of the walk are safe at each instruction of a block
  pub walk_is_safe : SafeWithin env f blank begin places
  walk_is_safe = walk_safe fresh bare
