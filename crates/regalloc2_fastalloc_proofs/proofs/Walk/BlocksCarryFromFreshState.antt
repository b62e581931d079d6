-- The walk over the blocks of a well-formed function, from a fresh state to the output: each block carries what the
-- lemmas on paths require, and a vreg that is used in a block that doesn't write it, or passed as an argument, has a
-- slot.
use Rattle.std.proofs.Common.{ℕ, ◌≡◌, ◌≢◌, ◌<◌, ◌≤◌, ◌+◌, true, List, length, subst, refl, sym, inr, arith}
use Rattle.std.specs.Prelude.{Contains, Option}
use Rattle.regalloc2_names.specs.Register.{VirtualRegister}
use Rattle.regalloc2_names.specs.Operand.{OperandValue}
use Rattle.regalloc2_names.specs.Place.{Place, NoPlace}
use Rattle.regalloc2_semantics.specs.Live.{DefinesAt, PassesAt}
use Rattle.regalloc2_semantics.proofs.Soundness.{edge_within}
use Rattle.regalloc2_function.specs.FunctionValue.{FunctionValue, IsLimited, block_at, inst_at, op_at, last_of}
use Rattle.regalloc2_function.specs.Machine.{MachineValue}
use Rattle.regalloc2_function.specs.OutputValue.{allocs_of}
use Rattle.regalloc2_semantics.specs.Runs.{Location, arguments_at}
use Rattle.regalloc2_function.specs.WellFormed.{IsWellFormed, BranchDefinesInPlace}
use Rattle.regalloc2_carry.specs.BlockByPoints.{listed, block_walked}
use Rattle.regalloc2_carry.specs.Blocks.{BlockCarriesOn}
use Rattle.regalloc2_carry.proofs.SingleDef.{Made, one_made}
use Rattle.regalloc2_carry.proofs.SingleDef.Made.{by_operand}
use Rattle.regalloc2_carry.proofs.Paths.{UsedSomewhere}
use Rattle.regalloc2_fastalloc_state.specs.declared.inst_regs.InstRegs.{InstRegs}
use Rattle.regalloc2_fastalloc_proofs.specs.InstSteps.{StateValue}
use Rattle.regalloc2_fastalloc_proofs.specs.BranchSteps.{ProcessesBranch, IsOwnDef}
use Rattle.regalloc2_fastalloc_proofs.specs.BlockSteps.{AllocsBlockInsts, AllocsBlocks}
use Rattle.regalloc2_fastalloc_proofs.proofs.Operands.RecordOverState.{slots_at}
use Rattle.regalloc2_fastalloc_proofs.proofs.Operands.AllocsSoFar.{IsGood}
use Rattle.regalloc2_fastalloc_proofs.proofs.Walk.InstsCarry.{AreListed}
use Rattle.regalloc2_fastalloc_proofs.proofs.Inst.OneInstCarries.{IsBetweenInsts}
use Rattle.regalloc2_fastalloc_proofs.proofs.Safety.InstsKeepSafe.{HasGood}
use Rattle.regalloc2_fastalloc_proofs.proofs.Walk.InstBoundaries.{BranchKept, allocs_blocks_between, allocs_blocks_outside, kept_code_of}
use Rattle.regalloc2_fastalloc_proofs.proofs.Branches.LocationsAfterBranch.{branch_kept}
use Rattle.regalloc2_fastalloc_proofs.proofs.Walk.DefsBeforeUses.{used_made}
use Rattle.regalloc2_fastalloc_proofs.proofs.Walk.BranchesPlaceDefs.{last_allocated, defs_placed}
use Rattle.regalloc2_fastalloc_proofs.proofs.Branches.Arrivals.{Arrive, DefsPlaced}
use Rattle.regalloc2_fastalloc_proofs.proofs.Branches.PlacesOnArrival.{stand_on, vregs_arrive, needed_or_unused}
use Rattle.regalloc2_fastalloc_proofs.proofs.Branches.EdgesInto.{one_edge_into}
use Rattle.regalloc2_fastalloc_proofs.proofs.Branches.BranchInWalk.{branches_carry}
use Rattle.regalloc2_fastalloc_proofs.proofs.Safety.StoredDefs.{concerned_made, last_within}
use Rattle.regalloc2_fastalloc_proofs.specs.Safety.{IsSafe}
use Rattle.regalloc2_fastalloc_state.specs.Validate.NoLimits.{AreTaken}
use Rattle.regalloc2_fastalloc_proofs.proofs.Slots.InstsLeaveSlots.{WritesSound, keeps_slots}
use Rattle.regalloc2_fastalloc_proofs.proofs.Walk.AllBlocksCarry.{begin_between, first_edge, all_blocks_carry}
use Rattle.regalloc2_fastalloc_proofs.proofs.Slots.LiveInHasSlot.{used_has_slot}
use Rattle.regalloc2_fastalloc_proofs.proofs.Slots.ArgumentHasSlot.{handed_has_slot}
use Rattle.regalloc2_fastalloc_proofs.proofs.Safety.StepsKeepState.{slot_in}
use Rattle.regalloc2_fastalloc_proofs.proofs.Inst.ProperInsts.{all_proper}
use Rattle.regalloc2_fastalloc_proofs.proofs.Walk.WholeWalk.{WholeWalk}
use Rattle.regalloc2_fastalloc_proofs.proofs.Walk.FunctionLaws.{FunctionLaws, laws_of, PlacedCode, code_of}
use Rattle.regalloc2_fastalloc_proofs.proofs.Walk.BlockCarries.{CarryingContext}

module _ (env : MachineValue) (f : FunctionValue) (limited : IsLimited f) (ok : IsWellFormed env f) where
  some_block : 0 < length f.blocks
  some_block = (let e : f.entry < length f.blocks = ok.successors.0 in omega (arith, e))

module _ (walk : WholeWalk)
    (between : (b i : ℕ) (t u : InstRegs) (old new : StateValue) → ProcessesBranch walk.f b i t u old new → IsBetweenInsts i old → IsBetweenInsts i new) where
  open walk use {env, f, limited, ok, blank, begin, last, out, empty, fit, walks}

  branch : BranchKept f
  branch = branch_kept f ok.counted between

  -- the function, with the output's places
  abbrev code : PlacedCode
  code = code_of (Made f) f (all_proper env f limited ok) branch ok.follow ok.end (allocs_of out)

  -- the function's properties that the walk relies on
  abbrev laws : FunctionLaws
  laws = laws_of f ok.defined_once ok.follow ok.end ok.uses_defined ok.counted (all_proper env f limited ok) branch

  -- the invariant between instructions holds at the walk's end
  pub at_walks_end : IsBetweenInsts 0 last
  at_walks_end = allocs_blocks_between (kept_code_of (Made f) f (all_proper env f limited ok) branch) ok.follow blank begin (begin_between f begin empty fit) 0
      out.allocs
      last
      walks 0 (first_edge f ok.follow (some_block env f limited ok))

  -- where vregs are at a block's start
  abbrev pub standing : ℕ → VirtualRegister → Option Place
  standing = stand_on env f ok (allocs_of out) (slots_at last)

  -- where branches leave what they define, if they define in known places
  pub walk_places_defs : AreListed f (allocs_of out) 0 out.allocs
      → ((j k : ℕ) → j < length f.insts → k < length (inst_at f j).operands → HasGood env last.slots f out.allocs j k) → AreTaken f
      → ((i : ℕ) → i < length f.insts → BranchDefinesInPlace (inst_at f i)) → (b : ℕ) → b < length f.blocks
      → (inst_at f (last_of (block_at f b))).is_branch ≡ true → DefsPlaced f (allocs_of out) (slots_at last) b
  walk_places_defs are_listed good taken places b lb is_branch =
      defs_placed env f limited ok taken (allocs_of out) last
      (λ i k lt less. subst (IsGood env last.slots (op_at (inst_at f i).operands k)) (sym (are_listed i (omega arith) lt k less)) (good i k lt less).good)
      places b lb is_branch
      (last_allocated code blank begin
      (allocs_blocks_outside (kept_code_of (Made f) f (all_proper env f limited ok) branch) ok.follow blank begin (begin_between f begin empty fit)
      (record { nowhere = empty.nowhere; none_held = empty.none_held })) 0 out.allocs last walks 0 (first_edge f ok.follow (some_block env f limited ok)) are_listed
      b (omega arith)
      lb)

  -- If the tables are safe along the whole walk, and branches define in known places, each block carries what the
  -- lemmas on paths require.
  pub blocks_carry : out.edits ≡ listed last.edits → AreListed f (allocs_of out) 0 out.allocs → (Writes : ℕ → ℕ → VirtualRegister → ℕ → Type 0)
      → (May : ℕ → Type 0)
      → ((b : ℕ) → b < length f.blocks → (p : List Place) (s : StateValue) → AllocsBlocks f blank begin (b + 1) p s → (i : ℕ) (q : List Place)
      (u : StateValue) → AllocsBlockInsts f b p s i q u → AreListed f (allocs_of out) i q → IsSafe env (Made f) (Writes b) May u)
      → ((j k : ℕ) → j < length f.insts → k < length (inst_at f j).operands → HasGood env last.slots f out.allocs j k)
      → ((b i : ℕ) → b < length f.blocks → (block_at f b).range.first ≤ i → i < last_of (block_at f b) → WritesSound f (allocs_of out) (Writes b) i)
      → AreTaken f → ((i : ℕ) → i < length f.insts → BranchDefinesInPlace (inst_at f i))
      → (b : ℕ) → BlockCarriesOn f standing b (block_walked f out b)
  blocks_carry edits are_listed Writes May safe good sound taken places =
      let arrive : Arrive f (allocs_of out) (slots_at last) standing = vregs_arrive env f ok (allocs_of out) (slots_at last) in
      let placed : (b : ℕ) → b < length f.blocks → (inst_at f (last_of (block_at f b))).is_branch ≡ true → DefsPlaced f (allocs_of out) (slots_at last) b
      = walk_places_defs are_listed good taken places in
      let carrying : CarryingContext = record {
        laws = laws;
        placesf = allocs_of out;
        final = last;
        whole = at_walks_end.whole;
        SafeIn = λ b u. IsSafe env (Made f) (Writes b) May u;
        keeps = keeps_slots env code last Writes May at_walks_end.whole
            (one_made f ok.defined_once) out.allocs are_listed good sound;
        stand = standing;
        arrive = arrive;
        placed = λ b e k edge. placed e edge.block edge.definitions.0;
        one_edge_into = one_edge_into env f ok;
        concerned = concerned_made f ok.successors ok.follow;
        decide = needed_or_unused f;
        branches = branches_carry env f limited ok taken (allocs_of out) last standing arrive placed (needed_or_unused f);
        blank = blank;
        begin = begin;
        start = begin_between f begin empty fit;
        empty = record { nowhere = empty.nowhere; none_held = empty.none_held };
        safe = safe;
      } in
      all_blocks_carry carrying out (some_block env f limited ok) walks edits are_listed

  -- a vreg that is used in a block that doesn't write it has a slot at the walk's end
  pub used_slots : (v : VirtualRegister) → UsedSomewhere f v → slot_in last v.number ≢ NoPlace
  used_slots v u =
      used_has_slot laws blank begin (begin_between f begin empty fit)
      u.block u.within v u.unwritten u.used
      0 out.allocs last walks (omega arith)

  -- a vreg that is passed as an argument, and not defined by the branch, has a slot
  pub handed_slots : (v : VirtualRegister) (b k : ℕ) → b < length f.blocks → k < length (block_at f b).succs → Contains (arguments_at f b k) v →
      (IsOwnDef f b v → ⊥) → slot_in last v.number ≢ NoPlace
  handed_slots v b k lb edge has foreign =
      handed_has_slot laws b lb k edge v has foreign blank begin 0 out.allocs last walks
      (omega arith)

  -- what a branch defines by its number, it defines
  pub own_defines : (v : VirtualRegister) (b : ℕ) → b < length f.blocks → Made f v → IsOwnDef f b v → DefinesAt f v (last_of (block_at f b))
  own_defines v b lb made (j, d) =
      let within : last_of (block_at f b) < length f.insts = last_within f ok.follow b lb in
      let o : OperandValue = op_at (inst_at f (last_of (block_at f b))).operands j in
      let own : Made f o.vreg = by_operand (last_of (block_at f b)) j
      (record { inst = within; operand = d.operand; definition = d.definition; number = refl }) refl in
      (j, (within, d.operand, one_made f ok.defined_once o.vreg v own made d.number), d.definition)

  -- a vreg that an instruction passes, and therefore doesn't define, has a slot too
  pub passed_slots : (v : VirtualRegister) (l : Location) → PassesAt f v l → slot_in last v.number ≢ NoPlace
  passed_slots v l (k, (end, edge), has, other) =
      let lb : l.block < length f.blocks = edge_within f l.block k edge in
      let at : l.inst ≡ last_of (block_at f l.block) = omega (arith, end) in
      let made : Made f v = used_made f ok.defined_once ok.follow ok.uses_defined v l.block lb (inr (k, edge, has)) in
      handed_slots v l.block k lb edge has (λ own. other (subst (DefinesAt f v) (sym at) (own_defines v l.block lb made own)))
