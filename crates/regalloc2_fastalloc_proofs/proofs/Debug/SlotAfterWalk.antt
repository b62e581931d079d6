-- What the walk guarantees of a vreg's slot: which vreg is in it, and which moves write it.
use Rattle.regalloc2_parts.proofs.Resolving.{All-reversed}
use Rattle.std.proofs.Common.{ℕ, ◌≡◌, ◌+◌, ◌<◌, length, sym, ap, ◌∙◌, inl, inr, subst}
use Rattle.std.specs.Prelude.{All, false, List, ◌∷◌, slice_index_or}
use Rattle.regalloc2_names.specs.Register.{VirtualRegister}
use Rattle.regalloc2_names.specs.Place.{InSlot}
use Rattle.regalloc2_function.specs.FunctionValue.{FunctionValue, inst_at}
use Rattle.regalloc2_function.specs.Machine.{MachineValue}
use Rattle.regalloc2_function.specs.OutputValue.{OutputValue, allocs_of, place_at}
use Rattle.regalloc2_semantics.specs.Runs.{Way, Onward, end_of, IsPath, IsDefinitelyAssigned}
use Rattle.regalloc2_semantics.specs.Debug.{ShowsValue}
use Rattle.regalloc2_function.specs.WellFormed.{DefinedOnce, IsWellFormed}
use Rattle.regalloc2_semantics.specs.Laws.{ReadsAgreeOnPaths}
use Rattle.regalloc2_carry.specs.Live.{HasEntered}
use Rattle.regalloc2_semantics.specs.Live.{IsLive, NamesAt, DefinesAt}
use Rattle.regalloc2_semantics.specs.Sound.{Undefined}
use Rattle.regalloc2_carry.proofs.SingleDef.{Made, one_made}
use Rattle.regalloc2_fastalloc_state.specs.StateParts.{SlotsHaveOneOwner, slot_name}
use Rattle.regalloc2_fastalloc_proofs.specs.InstSteps.{StateValue}
use Rattle.regalloc2_fastalloc_proofs.proofs.Operands.AllocsSoFar.{AreSoundOperands}
use Rattle.regalloc2_fastalloc_proofs.proofs.Safety.OutputOfWalk.{IsOutputOfWalk, place_is}
use Rattle.regalloc2_fastalloc_proofs.proofs.Slots.InstLeavesOwnedSlot.{own_written}
use Rattle.regalloc2_fastalloc_proofs.proofs.Slots.SlotsOwned.{owner_known}
use Rattle.regalloc2_fastalloc_proofs.proofs.Safety.BlocksKeepSafe.{MayInBlocks}
use Rattle.regalloc2_fastalloc_proofs.proofs.Operands.RecordOverState.{opt}
use Rattle.regalloc2_fastalloc_proofs.proofs.Safety.InstsKeepSafe.{WritesFrom}
use Rattle.regalloc2_fastalloc_proofs.specs.Debug.SlotHoldsValue.{ShowsAt}
use Rattle.regalloc2_fastalloc_proofs.specs.Debug.SlotWrites.{MayWrite, after_definition, before_read, before_branch, at_begin}
use Rattle.regalloc2_fastalloc_proofs.proofs.Debug.SlotHoldsValueOnPaths.{slot_shows_value}

module _ (env : MachineValue) (f : FunctionValue) (once : DefinedOnce f) (t : StateValue) (out : OutputValue) (m : IsOutputOfWalk f env (Made f) (MayInBlocks f) t out)
    (owned : SlotsHaveOneOwner t.slots)
    (v : VirtualRegister) (known : Made f v) (n : ℕ) (mine : slot_name t.slots v.number ≡ InSlot n) where
  -- a point where the walk writes the slot is one where it may be written
  may_write : (q : ℕ) → WritesFrom f out.allocs 0 q v n → MayWrite f out v (InSlot n) q
  may_write q (inr (b, ge, lb, at, stored)) = subst (MayWrite f out v (InSlot n)) (sym at) (at_begin b lb stored)
  may_write q (inl (inl (i, k, lt, less, is, inl (at, def)))) = subst (MayWrite f out v (InSlot n)) (sym at) (after_definition i k less def is)
  may_write q (inl (inl (i, k, lt, less, is, inr (at, reading, place)))) =
      subst (MayWrite f out v (InSlot n)) (sym at)
      (before_read i k (record {
        within = less;
        reading = reading;
        vreg = is;
        place = place_is f env (Made f) (MayInBlocks f) t out m i lt k less
            ∙ place;
      }))
  may_write q (inl (inr (b, i, k, j, lb, last, branch, at, edge, less, is))) = subst (MayWrite f out v (InSlot n)) (sym at) (before_branch i branch)

  -- each edit into v's slot is at a point where the slot may be written
  pub moves_where : All (λ e. e.1.to ≡ InSlot n → MayWrite f out v (InSlot n) e.0) out.edits
  moves_where =
      let writes : All (λ e. e.1.to ≡ InSlot n → WritesFrom f out.allocs 0 e.0 v n) t.edits = own_written env (Made f) (one_made f once)
      (WritesFrom f out.allocs 0)
      (MayInBlocks f) t owned.own m.kept.safe.edits v known n (ap opt mine) in
      subst (All (λ e. e.1.to ≡ InSlot n → MayWrite f out v (InSlot n) e.0)) (sym m.edits)
      (All-reversed (λ e. e.1.to ≡ InSlot n → MayWrite f out v (InSlot n) e.0) t.edits
      (λ k d lt to. may_write (slice_index_or t.edits k d).0 (writes k d lt to)))

  -- no other vreg's operand is in it
  pub only_vreg_in_slot : ((i : ℕ) → i < length f.insts → AreSoundOperands (Made f) (inst_at f i).operands) → (w : VirtualRegister) (i k : ℕ) →
      NamesAt f w i k → place_at (allocs_of out i) k ≡ InSlot n → w ≡ v
  only_vreg_in_slot sound_ops w i k names is =
      let x = owner_known f env (Made f) (MayInBlocks f) t out m owned sound_ops w n i k names is in
      one_made f once w v x.0 known (owned.own w.number v.number n x.1 mine)

-- after a definition of v, once the moves before the next instruction have run, the slot holds v's value, if v is live
-- there and it is no branch
abbrev pub DefinedShows : FunctionValue → OutputValue → VirtualRegister → ℕ → Type 0
DefinedShows f out v n = (ws : List Way) → IsPath f (Onward ∷ ws) → DefinesAt f v (end_of f ws).inst → IsLive f v (end_of f (Onward ∷ ws)) →
    (inst_at f ((end_of f ws).inst + 1)).is_branch ≡ false → ShowsAt f out v (InSlot n) (Onward ∷ ws)

-- if a path has entered a block with v live, and its first instruction is no branch and doesn't define v
abbrev pub EnteredShows : FunctionValue → OutputValue → VirtualRegister → ℕ → Type 0
EnteredShows f out v n = (ws : List Way) → IsPath f ws → HasEntered f ws → IsLive f v (end_of f ws) → Undefined (inst_at f (end_of f ws).inst).operands v →
    (inst_at f (end_of f ws).inst).is_branch ≡ false → ShowsAt f out v (InSlot n) ws

-- a vreg's slot at the walk's end holds its value, if it does after each definition and at each block's start
pub left_slot_shows : (env : MachineValue) (f : FunctionValue) → IsWellFormed env f → IsDefinitelyAssigned f → (t : StateValue) (out : OutputValue) →
    IsOutputOfWalk f env (Made f) (MayInBlocks f) t out → SlotsHaveOneOwner t.slots → ((i : ℕ) → i < length f.insts → AreSoundOperands (Made f) (inst_at f i).operands) →
    ReadsAgreeOnPaths f out → (v : VirtualRegister) → Made f v → (n : ℕ) → slot_name t.slots v.number ≡ InSlot n →
    DefinedShows f out v n → EnteredShows f out v n → ShowsValue f out v (InSlot n)
left_slot_shows env f ok written t out m owned sound_ops agree v known n mine defined entered = slot_shows_value env f out v n ok written agree (record {
  entered = entered;
  defined = defined;
  moves = moves_where env f ok.defined_once t out m owned v known n mine;
  own = only_vreg_in_slot env f ok.defined_once t out m owned v known n mine sound_ops;
})
