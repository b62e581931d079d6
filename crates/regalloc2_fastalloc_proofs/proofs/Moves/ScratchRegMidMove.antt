-- A scratch register is taken while a vreg is being moved: the tables have it elsewhere than the listing needs it.
-- The fold in `Changes` doesn't apply: what the listing carries, or the operands' record, differs from step to step.
use Rattle.std.proofs.Common.{ℕ, ◌≡◌, Bool, true, false, cond, List, [], ◌∷◌, ◌++◌, refl, sym, ap, ◌∙◌, subst, inl, inr, nat_eq, eq-eqb}
use Rattle.std.specs.Prelude.{Option, None, Some, not}
use Rattle.std.proofs.lemmas.Bool.{cases_eq, ne_eqb}
use Rattle.std.proofs.lemmas.List.{append_assoc}
use Rattle.regalloc2_names.specs.declared.RegClass.{RegClass}
use Rattle.regalloc2_names.specs.Register.{Register, VirtualRegister}
use Rattle.regalloc2_names.specs.Place.{Place, InRegister, after}
use Rattle.regalloc2_function.specs.OutputValue.{MoveValue}
use Rattle.regalloc2_carry.specs.Listing.{Item}
use Rattle.regalloc2_carry.specs.Listing.Item.{Move}
use Rattle.regalloc2_carry.specs.BlockByPoints.{AllFrom, after_part, listed}
use Rattle.regalloc2_carry.specs.Instruction.{Claims}
use Rattle.regalloc2_carry.specs.OperandsPlaced.{What, Progress, GoesToSlot, Need, located, in_slot, made, Held}
use Rattle.regalloc2_carry.proofs.BoundaryToBoundary.{FreeAt, scratch_idle}
use Rattle.regalloc2_carry.proofs.PushedMoves.{after_part-more}
use Rattle.regalloc2_carry.proofs.NeedsAcrossMoves.{need_evict, need_slot, claims_weaken}
use Rattle.regalloc2_fastalloc_state.specs.declared.inst_regs.InstRegs.{InstRegs}
use Rattle.regalloc2_fastalloc_proofs.specs.InstSteps.{StateValue, EvictsVReg, none_held, moved, AllocsScratchReg, dedicated_scratch, had, found, a_move}
use Rattle.regalloc2_fastalloc_proofs.specs.Safety.{IsWhole}
use Rattle.regalloc2_fastalloc_proofs.proofs.Safety.StepsKeepState.{place_in}
use Rattle.regalloc2_fastalloc_proofs.proofs.Operands.RecordOverState.{location_at, slots_at, opt_from, Located, OwesPlaces, Shifts, shifts, shift_whole}
use Rattle.regalloc2_fastalloc_proofs.proofs.Operands.RecordOverState.{located_after_shift, later_push}
use Rattle.regalloc2_fastalloc_proofs.proofs.Evictions.EvictVReg.{held_early, held_late, Kept, kept_all, shift_kept}
use Rattle.regalloc2_fastalloc_proofs.proofs.Moves.ScratchRegTaken.{IsIdle, IsScratch, of_machine, taken, less_early, less_late, held_keeps, free_unclaimed}
use Rattle.regalloc2_fastalloc_proofs.proofs.Operands.BlockTail.{BlockTail}

-- a table in which one number is put elsewhere
abbrev pub put : (ℕ → Option Place) → ℕ → Option Place → ℕ → Option Place
put T v c = λ x. cond (nat_eq x v) c (T x)

-- the vreg that is put elsewhere is there
pub put_same : (T : ℕ → Option Place) (v : ℕ) (c : Option Place) (x : ℕ) → x ≡ v → put T v c x ≡ c
put_same T v c x e = ap (λ b. cond b c (T x)) (eq-eqb x v e)

-- all other vregs are where they were
pub put_other : (T : ℕ → Option Place) (v : ℕ) (c : Option Place) (x : ℕ) → (x ≡ v → ⊥) → put T v c x ≡ T x
put_other T v c x n = ap (λ b. cond b c (T x)) (ne_eqb x v n)

-- a vreg moves from its register to its slot while another one is put elsewhere
pub shift_but : (old new : StateValue) (u : VirtualRegister) (r : Register) (s : Place) (v : ℕ) (c : Option Place) → Shifts old new u r s →
    (u.number ≡ v → ⊥) → (c ≡ Some (InRegister r) → ⊥) →
    GoesToSlot (put (location_at old) v c) (put (location_at new) v c) (slots_at new) u.number (InRegister r) s
shift_but old new u r s v c h apart other = record {
  there = λ z. cc;
  was = put_other (location_at old) v c u.number apart ∙ h.was;
  own = h.slot;
  sets = record {
    now = put_other (location_at new) v c u.number apart ∙ h.now;
    same = λ x ne. elim (cases_eq x v) [
      | inl e ↦ (put_same (location_at new) v c x e ∙ sym (put_same (location_at old) v c x e))
      | inr d ↦ (put_other (location_at new) v c x d ∙ h.same x ne ∙ sym (put_other (location_at old) v c x d))
    ];
  };
  alone = λ x e. elim (cases_eq x v) [
    | inl d ↦ absurd (other (sym (put_same (location_at old) v c x d) ∙ e))
    | inr d ↦ h.only_vreg x (sym (put_other (location_at old) v c x d) ∙ e)
  ];
  no_slot = λ x e. h.no_slot x r e;
}

module _ (tail : BlockTail) where
  open tail use {Known, insts, placesf, i, n, E}

  -- what is needed depends only on numbers
  pub owes_same : (lived out : ℕ → Bool) (X : Place → ℕ → Bool) (T U S : ℕ → Option Place) (edits : List (ℕ × MoveValue)) → ((x : ℕ) → U x ≡ T x) →
      OwesPlaces tail lived out X T S edits → OwesPlaces tail lived out X U S edits
  owes_same lived out X T U S edits same o = record {
    later = o.later;
    claims = claims_weaken Known E (after_part insts (listed edits) placesf i n) (Need lived out X T S) (Need lived out X U S)
        (λ v q z. elim z [ located l e ↦ located l (same v ∙ e) | in_slot f e ↦ in_slot f e | made x ↦ made x ]) o.claims;
  }

  -- another register is emptied while the vreg is being moved
  pub evict_but : (lived out : ℕ → Bool) (X : Place → ℕ → Bool) (r : Register) (old new : StateValue) (v : ℕ) (c : Option Place) →
      EvictsVReg (after i) r old new → IsWhole old →
      (c ≡ Some (InRegister r) → ⊥) → (place_in old v ≡ InRegister r → ⊥) → ((u : ℕ) → X (InRegister r) u ≡ false) →
      OwesPlaces tail lived out X (put (location_at old) v c) (slots_at old) old.edits →
      OwesPlaces tail lived out X (put (location_at new) v c) (slots_at new) new.edits
  evict_but lived out X r old new v c (none_held none same) w other away clear o =
      subst (λ (t : StateValue). OwesPlaces tail lived out X (put (location_at t) v c) (slots_at t) t.edits) (sym same) o
  evict_but lived out X r old new v c (moved u s lt held gives sets_alloc edits machine order) w other away clear o =
      let h : Shifts old new u r s = shifts old new u r s lt held gives sets_alloc w in
      let apart : u.number ≡ v → ⊥ = λ e. away (opt_from (place_in old v) (InRegister r) (ap (location_at old) (sym e) ∙ h.was)) in
      let L : List Item = after_part insts (listed old.edits) placesf i n in
      let T : ℕ → Option Place = put (location_at old) v c in
      let U : ℕ → Option Place = put (location_at new) v c in
      let moves : Claims Known (Move (record { from = s; to = InRegister r }) ∷ L) (Need lived out X U (slots_at new)) E =
      need_evict Known E L lived out X T U (slots_at new) u.number (InRegister r) s
      (shift_but old new u r s v c h apart other) clear
      (need_slot Known E L lived out X T (slots_at old) (slots_at new) h.grows o.claims) in
      record {
        later = subst (λ es. AllFrom (after i) (listed es)) (sym edits)
            (later_push tail (after i) (record { from = s; to = InRegister r }) old.edits o.later);
        claims = subst (λ l. Claims Known l (Need lived out X U (slots_at new)) E)
            (sym (ap (λ es. after_part insts (listed es) placesf i n) edits
            ∙ after_part-more insts (record { from = s; to = InRegister r }) old.edits placesf i n)) moves;
      }

  -- a scratch register, while the number v is being moved from c, which isn't the scratch register; need: whose slots
  -- aren't needed
  pub record ScratchedBut (what : ℕ → What) (far : Progress) (need : ℕ → Bool)
      (u : InstRegs) (by : Register) (v : ℕ) (c : Option Place) (old new : StateValue) : Type 0 where
    pub located : Located what far new
    pub owes : OwesPlaces tail far.lived need far.made_at (put (location_at new) v c) (slots_at new) new.edits
    pub held : Held what far.here far.claimed (held_early u) (held_late u)
    pub idle : IsIdle far.here far.claimed far.made_at by new
    pub kept : Kept old new
    pub others : (x : ℕ) → (place_in old x ≡ InRegister by → ⊥) → place_in new x ≡ place_in old x

  -- the tables alone, where a register is emptied
  pub record EmptiedTables (what : ℕ → What) (far : Progress) (r : Register)
      (old new : StateValue) : Type 0 where
    pub located : Located what far new
    pub empty : (x : ℕ) → place_in new x ≡ InRegister r → ⊥
    pub others : (x : ℕ) → (place_in old x ≡ InRegister r → ⊥) → place_in new x ≡ place_in old x
    pub kept : Kept old new

  -- evicting an allocatable register empties it and moves no other vreg, independent of what the listing carries
  pub evict_tables : (what : ℕ → What) (far : Progress) (r : Register)
      (old new : StateValue) → EvictsVReg (after i) r old new →
      ((x : ℕ) → location_at old x ≡ Some (InRegister r) → far.lived x ≡ true) →
      Located what far old → EmptiedTables what far r old new
  evict_tables what far r old new (none_held none same) may st =
      subst (EmptiedTables what far r old) (sym same) (record {
        located = st;
        empty = λ x h. let y = st.whole.stands_in x r h in let z : None ≡ Some y.1.0 = sym none ∙ y.1.2 in cc;
        others = λ x h. refl;
        kept = kept_all old;
      })
  evict_tables what far r old new (moved v s lt held gives sets_alloc edits machine order) may st =
      let w : IsWhole new = shift_whole old new v r s lt held gives sets_alloc st.whole in
      let h : Shifts old new v r s = shifts old new v r s lt held gives sets_alloc st.whole in
      record {
        located = located_after_shift old new v r s w h what far (may v.number h.was) st;
        empty = h.empty;
        others = λ x ne. sets_alloc.others x (λ e. ne (opt_from (place_in old x) (InRegister r) (ap (location_at old) e ∙ h.was)));
        kept = shift_kept old new v r s h sets_alloc.others sets_alloc.here gives.others machine;
      }

  stayed_but : (what : ℕ → What) (far : Progress) (need : ℕ → Bool) (t u : InstRegs)
      (by : Register) (v : ℕ) (c : Option Place) (old new : StateValue) → u ≡ t → new ≡ old →
      IsIdle far.here far.claimed far.made_at by old → Held what far.here far.claimed (held_early t) (held_late t) →
      Located what far old → OwesPlaces tail far.lived need far.made_at (put (location_at old) v c) (slots_at old) old.edits →
      ScratchedBut what far need u by v c old new
  stayed_but what far need t u by v c old new eu en idle h st o =
      subst (ScratchedBut what far need u by v c old) (sym en) (record {
        located = st;
        owes = o;
        held = subst (λ (y : InstRegs). Held what far.here far.claimed (held_early y) (held_late y)) (sym eu) h;
        idle = idle;
        kept = kept_all old;
        others = λ x g. refl;
      })

  -- taking a scratch register while one vreg is being moved keeps what is needed of it there, and of all others
  pub scratch_but : {what : ℕ → What} {far : Progress} {need : ℕ → Bool}
      {class : RegClass} {t u : InstRegs} {by : Register} {v : ℕ} {c : Option Place} {old new : StateValue} → AllocsScratchReg (after i) class t u by old new →
      ((b : Register) → IsScratch class t old b → IsIdle far.here far.claimed far.made_at b old) → Held what far.here far.claimed (held_early t) (held_late t) →
      (c ≡ Some (InRegister by) → ⊥) → (place_in old v ≡ InRegister by → ⊥) →
      Located what far old → OwesPlaces tail far.lived need far.made_at (put (location_at old) v c) (slots_at old) old.edits →
      ScratchedBut what far need u by v c old new
  scratch_but {what} {far} {need} {t} {u} {by} {v} {c} {old} {new} (dedicated_scratch own eu en) idle h other away st o =
      stayed_but what far need t u by v c old new eu en (idle by (of_machine own)) h st o
  scratch_but {what} {far} {need} {t} {u} {by} {v} {c} {old} {new} (had none own eu en) idle h other away st o =
      stayed_but what far need t u by v c old new eu en (idle by (taken own)) h st o
  scratch_but {what} {far} {need} {t} {u} {by} {v} {c} {old} {new} (found none unset may early late less_e less_l set evicts) idle h other away
      st o =
      let free : FreeAt (held_early t) (held_late t) true true (InRegister by) = record { free_early = λ x. ap not early; free_late = λ x. ap not late } in
      let s = scratch_idle what far (location_at old) (slots_at old) (held_early t) (held_late t) (InRegister by) h free
      st.placed in
      let e : EmptiedTables what far by old new = evict_tables what far by old new evicts s.0
      st in
      record {
        located = e.located;
        owes = evict_but far.lived need far.made_at by old new v c evicts st.whole other away s.1 o;
        held = held_keeps what far.here far.claimed (held_early t) (held_late t) (held_early u) (held_late u) (less_early t u by less_e)
            (less_late t u by less_l) h;
        idle = record { no_allocs = e.empty; clear = s.1; unclaimed = free_unclaimed what far.here far.claimed t by early late h };
        kept = e.kept;
        others = e.others;
      }

  -- two moves through the scratch register are pushed
  pub scratch_move_items : (from by to : Place) (es : List (ℕ × MoveValue)) →
      after_part insts (listed (es ++ a_move (after i) by to ∷ a_move (after i) from by ∷ [])) placesf i n ≡ Move (record { from = from; to = by }) ∷
      (Move (record { from = by; to = to }) ∷ after_part insts (listed es) placesf i n)
  scratch_move_items from by to es =
      ap (λ xs. after_part insts (listed xs) placesf i n) (sym (append_assoc es (a_move (after i) by to ∷ []) (a_move (after i) from by ∷ [])))
      ∙ after_part-more insts (record { from = from; to = by }) (es ++ a_move (after i) by to ∷ []) placesf i n
      ∙ ap (λ l. Move (record { from = from; to = by }) ∷ l) (after_part-more insts (record { from = by; to = to }) es placesf i n)

  -- a move in two parts, through a register, adds no edit before the point after the instruction
  pub scratch_move_later : (from by to : Place) (es : List (ℕ × MoveValue)) → AllFrom (after i) (listed es) →
      AllFrom (after i) (listed (es ++ a_move (after i) by to ∷ a_move (after i) from by ∷ []))
  scratch_move_later from by to es h =
      subst (λ xs. AllFrom (after i) (listed xs)) (append_assoc es (a_move (after i) by to ∷ []) (a_move (after i) from by ∷ []))
      (later_push tail (after i) (record { from = from; to = by }) (es ++ a_move (after i) by to ∷ [])
      (later_push tail (after i) (record { from = by; to = to }) es h))
