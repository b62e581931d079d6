-- A vreg's location before an instruction, if it is no slot, keeps its value over the moves before the instruction.
use Rattle.std.proofs.Common.{ℕ, zero, suc, ◌≡◌, ◌≢◌, ◌+◌, ◌<◌, inl, inr, true, false, List, [], ◌∷◌, length, refl, sym, ap, ◌∙◌, subst, arith}
use Rattle.std.specs.Prelude.{None, Some}
use Rattle.regalloc2_names.specs.declared.OperandConstraint.TheVariants.{Any}
use Rattle.regalloc2_names.specs.declared.OperandKind.TheVariants.{Use}
use Rattle.regalloc2_names.specs.declared.OperandPos.TheVariants.{Early}
use Rattle.regalloc2_names.specs.Register.{VirtualRegister}
use Rattle.regalloc2_names.specs.Operand.{OperandValue, is_def, is_late, is_reading}
use Rattle.regalloc2_names.specs.Place.{Place, NoPlace, before, after}
use Rattle.regalloc2_function.specs.FunctionValue.{inst_at, op_at}
use Rattle.regalloc2_function.specs.OutputValue.{MoveValue, place_at}
use Rattle.regalloc2_semantics.specs.Runs.{after_moves}
use Rattle.regalloc2_carry.specs.Listing.{Item, with_moves}
use Rattle.regalloc2_carry.specs.Listing.Item.{Exec}
use Rattle.regalloc2_carry.specs.Carry.{Carries, CarriesFrom, is_clobbered}
use Rattle.regalloc2_carry.specs.BlockByPoints.{at_point, walked, after_part, listed}
use Rattle.regalloc2_carry.specs.Instruction.{Claims}
use Rattle.regalloc2_carry.specs.OperandsPlaced.{Progress, what_of, Counts, Pending, still, slotted, used}
use Rattle.regalloc2_carry.proofs.Points.{all_from-less}
use Rattle.regalloc2_carry.proofs.MoveInFront.{walked-none, before_part-clean}
use Rattle.regalloc2_carry.proofs.CarryRules.{carries_nil, carries_moves, carries_exec, after_their_moves}
use Rattle.regalloc2_carry.proofs.BothRuns.{early-other}
use Rattle.regalloc2_fastalloc_proofs.specs.InstSteps.{StateValue, AllocsInst, ends_block}
use Rattle.regalloc2_fastalloc_proofs.proofs.Safety.StepsKeepState.{place_in, slot_in}
use Rattle.regalloc2_fastalloc_proofs.proofs.Operands.RecordOverState.{location_at, slots_at, opt, opt_some, opt_from}
use Rattle.regalloc2_fastalloc_proofs.proofs.Evictions.EvictVReg.{kept_all}
use Rattle.regalloc2_fastalloc_proofs.proofs.Inst.AcrossInst.{lives_in}
use Rattle.regalloc2_fastalloc_proofs.proofs.Operands.RecordOfInst.{progress, Laid, laying_of}
use Rattle.regalloc2_fastalloc_proofs.proofs.Moves.UsesMoved.{UsesMovedFrom, moves_uses_done}
use Rattle.regalloc2_fastalloc_proofs.proofs.Inst.BoundaryToFirstOperand.{ready_for_operands}
use Rattle.regalloc2_fastalloc_proofs.proofs.Inst.LastOperandToBoundary.{turned_all}
use Rattle.regalloc2_fastalloc_proofs.proofs.Slots.StepsKeepSlots.{cases_none}
use Rattle.regalloc2_fastalloc_proofs.proofs.Operands.AllOperands.{laid_both}
use Rattle.regalloc2_fastalloc_proofs.proofs.Inst.OneInstCarries.{IsBetweenInsts, carried_nil, Needed}
use Rattle.regalloc2_fastalloc_proofs.proofs.Debug.UnnamedStaysUnlocated.{changes_out, whole_absent}
use Rattle.regalloc2_fastalloc_proofs.proofs.Debug.LocatedStaysOrHasSlot.{changes_hold}
use Rattle.regalloc2_fastalloc_proofs.proofs.Changes.InstChanges.{moves_uses_changes}
use Rattle.regalloc2_fastalloc_proofs.proofs.Operands.BlockTail.{tail_of}
use Rattle.regalloc2_fastalloc_proofs.proofs.Inst.ProperInsts.{ProperCode}
use Rattle.regalloc2_semantics.specs.Laws.{Cells, Source}

-- a use that reads v
abbrev observer : VirtualRegister → OperandValue
observer v = record { vreg = v; constraint = Any; kind = Use; position = Early }

-- nothing but moves carries nothing
carries_empty_listing : (v : VirtualRegister) (ms : List MoveValue) (L : List Item) → L ≡ [] → Carries v (with_moves ms L) (λ p. ⊥) (λ p. ⊥)
carries_empty_listing v ms L e = carries_moves v ms L (λ p. ⊥) (λ p. ⊥) (λ p. ⊥) (λ s c holds p h. absurd h)
    (subst (λ l. Carries v l (λ p. ⊥) (λ p. ⊥)) (sym e) (carries_nil v (λ p. ⊥) (λ p. ⊥) (λ p h. h)))

-- a vreg that is located in the place p, and has no slot
pub record IsUnslottedAt (Known : VirtualRegister → Type 0) (t : StateValue) (v : VirtualRegister) (p : Place) : Type 0 where
  pub known : Known v
  pub real : p ≢ NoPlace
  pub alloc_of : place_in t v.number ≡ p
  pub unslotted : slot_in t v.number ≡ NoPlace

module _ (code : ProperCode) where
  open code use {Known, f, placesf, proper}
  open code.proper use {orderly, avoids}

  module _ (i : ℕ) (blank here : List Place) (old new : StateValue) (lt : i < length f.insts) (b : IsBetweenInsts (i + 1) old)
      (a : AllocsInst i (inst_at f i) blank here old new) (v : VirtualRegister) (p : Place) (unslotted_at : IsUnslottedAt Known new v p) where
    open unslotted_at use {known, real, alloc_of, unslotted}

    abbrev ops : List OperandValue
    ops = (inst_at f i).operands

    abbrev t : StateValue
    t = a.after_early

    abbrev item : Item
    item = Exec (observer v ∷ []) (p ∷ []) (inst_at f i).clobbers

    laid : Laid (tail_of Known (inst_at f) placesf i 0 (λ w q. ⊥)) ops (lives_in old) (is_clobbered (inst_at f i).clobbers) (ends_block (inst_at f i)) false
        (length ops) here
        a.early t
    laid =
        laid_both (laying_of (tail_of Known (inst_at f) placesf i 0 (λ w q. ⊥)) ops (lives_in old) (is_clobbered (inst_at f i).clobbers)
        (ends_block (inst_at f i)) (orderly i lt)) blank
        a.half here a.quiet a.late a.early a.after_clobbers a.after_late t a.lates a.earlies
        (ready_for_operands (tail_of Known (inst_at f) placesf i 0 (λ w q. ⊥)) (inst_at f i) blank here old new (orderly i lt) (avoids i lt)
        (λ e w k. carried_nil code (λ u q. ⊥) (i + 1) old (λ u q. ⊥) (λ u q h. h) w)
        (record {
          whole = b.whole;
          later = b.later;
          claims = λ w k. carried_nil code (λ u q. ⊥) (i + 1) old
              (Needed (λ x. false) old) (λ u q h. absurd h) w;
          fit = b.fit;
          apart = b.apart;
        }) a)

    -- the progress of the operands
    abbrev far : Progress
    far = progress (lives_in old) (is_clobbered (inst_at f i).clobbers) laid.here laid.claimed laid.done laid.out laid.X

    -- the vreg was there before the moves
    stood_then : place_in t v.number ≡ p
    stood_then = elim (cases_none (place_in t v.number)) [
      | inl none ↦ (
          let away = changes_out v.number (moves_uses_changes (λ q r. tt) (λ j lt reads q. tt) a.moves)
          (whole_absent v.number t laid.ready.located.whole none) in
          absurd (real (sym alloc_of ∙ away.0.nowhere)))
      | inr there ↦ elim ((changes_hold v.number (moves_uses_changes (λ q r. tt) (λ j lt reads q. tt) a.moves)).same there) [
        | inl e ↦ (sym e ∙ alloc_of)
        | inr has ↦ absurd (has unslotted)
      ]
    ]

    reads_it : (u : VirtualRegister) (j : ℕ) → j < 1 → is_reading (op_at (observer v ∷ []) j) ≡ true → is_late (op_at (observer v ∷ []) j).position ≡ false →
        (op_at (observer v ∷ []) j).vreg ≡ u →
        Pending (what_of ops) laid.here laid.done laid.out (location_at t) (slots_at t) 0 u.number (place_at (p ∷ []) j)
        × ((k : ℕ) → k < 1 → is_def (op_at (observer v ∷ []) k).kind ≡ true → is_late (op_at (observer v ∷ []) k).position ≡ false →
        place_at (p ∷ []) k ≡ place_at (p ∷ []) j → ⊥)
    reads_it u zero less reads early same =
        (still (ap (λ (w : VirtualRegister). location_at t w.number) (sym same) ∙ ap opt stood_then ∙ opt_some p real), defines_none)
      where
        defines_none : (k : ℕ) → k < 1 → is_def (op_at (observer v ∷ []) k).kind ≡ true → is_late (op_at (observer v ∷ []) k).position ≡ false →
            place_at (p ∷ []) k ≡ p → ⊥
        defines_none zero l d e q = (let z : false ≡ true = d in cc)
        defines_none (suc k) l d e q = omega (arith, l)
    reads_it u (suc j) less reads early same = absurd (omega (arith, less))

    never_late : (j : ℕ) → j < 1 → is_late (op_at (observer v ∷ []) j).position ≡ true → ⊥
    never_late zero less e = (let z : false ≡ true = e in cc)
    never_late (suc j) less e = omega (arith, less)

    counted : (j : ℕ) → laid.done j ≡ true → Counts ops j
    counted j d = laid.ready.within j (laid.ready.located.placed.claims j d)

    moved : UsesMovedFrom (tail_of Known (inst_at f) placesf i 0 (λ w q. ⊥)) item (what_of ops) far (length ops) a.ended t new
    moved =
        let crossed : Claims Known (item ∷ after_part (inst_at f) (listed t.edits) placesf i 0)
        (Pending (what_of ops) laid.here laid.done laid.out (location_at t) (slots_at t) 0) (λ w q. ⊥) =
        λ u k. carries_exec u (observer v ∷ []) (p ∷ []) (inst_at f i).clobbers (after_part (inst_at f) (listed t.edits) placesf i 0) (λ q. ⊥)
        (Pending (what_of ops) laid.here laid.done laid.out (location_at t) (slots_at t) 0 u.number) (λ q. ⊥)
        (reads_it u) (λ j less reads late same. absurd (never_late j less late)) (λ q h. absurd h)
        (carries_empty_listing u (at_point (listed t.edits) (after i)) (walked (inst_at f) (at_point (listed t.edits)) placesf (i + 1) 0)
        (walked-none (inst_at f) (at_point (listed t.edits)) placesf (i + 1))) in
        let all_done : (j : ℕ) → Counts ops j → laid.done j ≡ true = λ j c. laid.all j c (turned_all ops j c) in
        moves_uses_done (tail_of Known (inst_at f) placesf i 0 (λ w q. ⊥)) item ops here far a.early t
        (record { all = all_done; counted = counted; at_places = λ j c. laid.placed j (all_done j c) })
        (record {
          located = laid.ready.located;
          pends = record {
            later = all_from-less (before i) (after i) (listed t.edits) (omega arith) laid.ready.owes.later;
            claims = subst (λ y. Claims Known y (Pending (what_of ops) laid.here laid.done laid.out (location_at t) (slots_at t) 0) (λ w q. ⊥))
                (sym (before_part-clean (inst_at f) (listed t.edits) placesf i 0 item laid.ready.owes.later)) crossed;
          };
          held = laid.ready.held;
          scratch_reserve = laid.ready.scratch_reserve;
          fit = laid.ready.fit;
          kept = kept_all t;
        }) (length ops) a.ended new a.moves (omega arith)

    -- what it held before the moves, it holds after them
    pub value_kept_over_moves : (s : Source) (c : Cells) → c p ≡ s v → after_moves (at_point (listed new.edits) (before i)) c p ≡ s v
    unfolding Carries CarriesFrom
    value_kept_over_moves s c held =
        let there : (q : Place) → Pending (what_of ops) laid.here laid.done laid.out (location_at new) (slots_at new) (length ops) v.number q →
        c q ≡ s v = λ q y. elim y [
          | still e ↦ (let z : q ≡ p = sym (opt_from (place_in new v.number) q e) ∙ alloc_of in ap c z ∙ held)
          | slotted o e ↦ (let z : None ≡ Some q = sym (ap opt unslotted) ∙ e in absurd cc)
          | used j le d u at e ↦ (let less = (counted j d).0 in absurd (omega (arith, le, less)))
        ] in
        let g = moved.pends.claims v known s c 0 there in
        let h = after_their_moves (at_point (listed new.edits) (before i)) v (λ q. ⊥) (item ∷ after_part (inst_at f) (listed new.edits) placesf i 0) s c 0 g in
        let m : Cells = after_moves (at_point (listed new.edits) (before i)) c in
        sym (early-other (observer v ∷ []) (p ∷ []) m p (λ j less d e q. none_defines j less d)) ∙ h.0 0 (omega arith) refl refl refl
      where
        none_defines : (j : ℕ) → j < 1 → is_def (op_at (observer v ∷ []) j).kind ≡ true → ⊥
        none_defines zero less d = (let z : false ≡ true = d in cc)
        none_defines (suc j) less d = omega (arith, less)
