-- A definition is placed: its vreg has no location before it, and is moved to where it is expected and to its slot.
-- The fold in `Changes` doesn't apply: what the listing carries, or the operands' record, differs from step to step.
use Rattle.std.proofs.Common.{ℕ, ◌≡◌, ◌≢◌, Bool, true, false, List, refl, sym, ap, ◌∙◌, subst, inl, inr, ◌⊎◌, ⊎_elim}
use Rattle.std.specs.Prelude.{None, Some, not, ◌&&◌}
use Rattle.std.proofs.lemmas.Bool.{cases_Bool, cases_eq, and_parts, not-true}
use Rattle.regalloc2_names.specs.Register.{Register, VirtualRegister, has_register}
use Rattle.regalloc2_names.specs.Operand.{OperandValue}
use Rattle.regalloc2_names.specs.Place.{Place, NoPlace, InRegister, InSlot, is_place, after}
use Rattle.regalloc2_carry.specs.BlockByPoints.{AllFrom, after_part, listed}
use Rattle.regalloc2_carry.specs.OperandsPlaced.{what_of, Counts, Progress, Need, located, in_slot, made}
use Rattle.regalloc2_semantics.proofs.Cells.{cases_place, is_place-same, is_place-other}
use Rattle.regalloc2_carry.proofs.NeedsAcrossMoves.{claims_weaken}
use Rattle.regalloc2_fastalloc_state.specs.declared.inst_regs.InstRegs.{InstRegs}
use Rattle.regalloc2_fastalloc_state.specs.StateParts.{SpillSlotsValue, slot_name, IsSlotOrNone, SetsAlloc}
use Rattle.regalloc2_function.specs.FunctionValue.{op_at}
use Rattle.regalloc2_fastalloc_proofs.specs.InstSteps.{StateValue, SameMachine, AddsMoveIf, sent, unsent, FreesAlloc, is_another}
use Rattle.regalloc2_fastalloc_proofs.specs.Safety.{IsWhole}
use Rattle.regalloc2_fastalloc_proofs.proofs.Safety.StepsKeepState.{place_in, slot_in, whole_tidy, slot_no_register}
use Rattle.regalloc2_fastalloc_proofs.proofs.Operands.RecordOverState.{opt, opt_some, opt_from, opt_real, location_at, slots_at, Located, OwesPlaces}
use Rattle.regalloc2_fastalloc_proofs.proofs.Evictions.EvictVReg.{Kept, kept_all}
use Rattle.regalloc2_fastalloc_proofs.proofs.Moves.ScratchRegTaken.{IsIdle, fit_same, scratch_back}
use Rattle.regalloc2_fastalloc_proofs.proofs.Moves.ScratchRegMidMove.{put, put_same, put_other, owes_same}
use Rattle.regalloc2_fastalloc_proofs.proofs.Evictions.EvictPReg.{kept_trans}
use Rattle.regalloc2_fastalloc_proofs.proofs.Operands.FreeDef.{PlacesDef, located_after_definition, no_def_at_location_of_next}
use Rattle.regalloc2_fastalloc_proofs.proofs.Operands.RecordOfInst.{Ready}
use Rattle.regalloc2_fastalloc_proofs.proofs.Evictions.EvictKeepsRecord.{NoneNeeded}
use Rattle.regalloc2_fastalloc_proofs.proofs.Moves.MoveAfterInst.{Steady, Sent, MovesNeed, ready_of, adds_move_step}
use Rattle.regalloc2_fastalloc_proofs.proofs.Operands.BlockTail.{BlockTail}

-- a place that counts as another one isn't none, and differs from it
pub another_is : (p q : Place) → is_another p q ≡ true → (p ≢ NoPlace) × (p ≢ q)
another_is p q e =
    let x = and_parts (not (is_place p NoPlace)) (not (is_place p q)) e in (
      (λ a. let y : is_place p NoPlace ≡ true = ap (λ z. is_place z NoPlace) a in let w = not-true (is_place p NoPlace) x.0 in cc),
      (λ a. let y : is_place p q ≡ true = ap (λ z. is_place z q) a ∙ is_place-same q in let w = not-true (is_place p q) x.1 in cc),
    )

-- a place that doesn't count as another one than q is none, or q itself
pub another_not : (p q : Place) → is_another p q ≡ false → (p ≡ NoPlace) ⊎ (p ≡ q)
another_not p q e = elim (cases_place p NoPlace) [
  | inl a ↦ inl a
  | inr a ↦ elim (cases_place p q) [
    | inl b ↦ inr b
    | inr b ↦ (
        let x : is_place p NoPlace ≡ false = is_place-other p NoPlace a in
        let y : is_place p q ≡ false = is_place-other p q b in
        let z : is_another p q ≡ true = ap (λ w. not w && not (is_place p q)) x ∙ ap not y in absurd cc)
  ]
]

made_parts : (ends_block b : Bool) → (not ends_block && b) ≡ true → (ends_block ≡ false) × (b ≡ true)
made_parts true b e = absurd cc
made_parts false b e = (refl, e)

unmade_parts : (ends_block b : Bool) → (not ends_block && b) ≡ false → (ends_block ≡ true) ⊎ (b ≡ false)
unmade_parts true b e = inl refl
unmade_parts false b e = inr e

both_parts : (a b : Bool) → (a && not b) ≡ true → (a ≡ true) × (b ≡ false)
both_parts true true e = absurd cc
both_parts true false e = (refl, refl)
both_parts false b e = absurd cc

either_part : (a b : Bool) → (a && not b) ≡ false → b ≡ false → a ≡ false
either_part true b e f = let x : not b ≡ true = ap not f in absurd cc
either_part false b e f = refl

pub real_slot : (count : ℕ) (s : Place) → IsSlotOrNone count s → s ≢ NoPlace → (q : ℕ) × (s ≡ InSlot q)
real_slot count NoPlace b ne = absurd (ne refl)
real_slot count (InRegister r) b ne = absurd b
real_slot count (InSlot q) b ne = (q, refl)

module _ (tail : BlockTail) (ops : List OperandValue) (far : Progress) (done2 out2 : ℕ → Bool) (Y : Place → ℕ → Bool) (ends_block : Bool) (k : ℕ)
    (pd : PlacesDef (Counts ops) (what_of ops) far done2 out2 Y k) where
  open tail use {Known, insts, placesf, i, n, E}

  -- the progress once the definition is placed
  abbrev next : Progress
  next = record far { done = done2; out = out2; made_at = Y }

  abbrev v : VirtualRegister
  v = (op_at ops k).vreg

  others_in : (x : ℕ) → (x ≡ v.number → ⊥) → far.out x ≡ false → out2 x ≡ false
  others_in x ne f = ⊎_elim (λ (a : out2 x ≡ true). elim (pd.makes.out_grows x a) [ inl h ↦ absurd (ne h) | inr h ↦ absurd cc ]) (λ (a : out2 x ≡ false). a)
      (cases_Bool (out2 x))

  -- the vreg has left the tables
  module _ (t : InstRegs) (old left : StateValue) (z : SetsAlloc old.places left.places v NoPlace) (slots : left.slots ≡ old.slots)
      (edits : left.edits ≡ old.edits) (machine : SameMachine old left)
      (r : Ready tail ops far ends_block t old) where
    abbrev c : Place
    c = place_in old v.number

    abbrev s : Place
    s = slot_in old v.number

    left_idle : (b : Register) → IsIdle far.here far.claimed far.made_at b old → IsIdle far.here far.claimed Y b left
    left_idle b f = record {
      no_allocs = λ x e. elim (cases_eq x v.number) [
        | inl a ↦ (let y : NoPlace ≡ InRegister b = sym z.here ∙ ap (place_in left) (sym a) ∙ e in cc)
        | inr a ↦ f.no_allocs x (sym (z.others x a) ∙ e)
      ];
      clear = λ x. ⊎_elim
          (λ (a : Y (InRegister b) x ≡ true). elim (pd.makes.grows (InRegister b) x a)
          [ inl h ↦ absurd (f.unclaimed k pd.claims (sym h.0)) | inr h ↦ (let y = f.clear x in absurd cc) ])
          (λ (a : Y (InRegister b) x ≡ false). a)
          (cases_Bool (Y (InRegister b) x));
      unclaimed = f.unclaimed;
    }

    left_steady : Steady tail ops next ends_block t left
    left_steady = record {
      located = located_after_definition (Counts ops) (what_of ops) far done2 out2 Y old left k v pd r.within refl z slots
          r.located;
      nowhere_needed = λ e. subst (NoneNeeded tail) (sym edits) (r.nowhere_needed e);
      held = r.held;
      scratch_reserve = record {
        idle = λ d b is. left_idle b (r.scratch_reserve.idle d b (scratch_back d t old left b machine is));
        own = λ d b e. ap (λ l. has_register l b) machine.allocatable ∙ r.scratch_reserve.own d b e;
        early = r.scratch_reserve.early;
        late = r.scratch_reserve.late;
      };
      fit = fit_same old left machine r.fit;
      clobbers = r.clobbers;
      within = r.within;
      small = r.small;
    }

    slot_left : slot_in left v.number ≡ s
    slot_left = ap (λ (y : SpillSlotsValue). slot_name y v.number) slots

    slot_then : (m : StateValue) → Kept left m → slot_in m v.number ≡ s
    slot_then m k2 = k2.unslotted v.number z.here ∙ slot_left

    -- no other vreg is where the vreg was, nor has that slot
    own_at : (q : Place) → c ≡ q → q ≢ NoPlace → (m : StateValue) → IsWhole m → Kept left m → (x : ℕ) → slot_in m x ≡ q → x ≡ v.number
    own_at NoPlace at ne m w k2 x e = absurd (ne refl)
    own_at (InRegister g) at ne m w k2 x e = absurd (slot_no_register m.slots.count (slot_in m x) g (w.below x) e)
    own_at (InSlot g) at ne m w k2 x e = w.own x v.number g e (slot_then m k2 ∙ r.located.whole.own_slot v.number g at)

    only_vreg_at : (q : Place) → c ≡ q → q ≢ NoPlace → (m : StateValue) → IsWhole m → Kept left m → (x : ℕ) → place_in m x ≡ q → x ≡ v.number
    only_vreg_at NoPlace at ne m w k2 x e = absurd (ne refl)
    only_vreg_at (InRegister g) at ne m w k2 x e = elim (cases_eq x v.number) [
      | inl a ↦ a
      | inr a ↦ (whole_tidy old r.located.whole).apart x v.number g (sym (z.others x a) ∙ k2.registers x g e) at
    ]
    only_vreg_at (InSlot g) at ne m w k2 x e = own_at (InSlot g) at ne m w k2 x (w.own_slot x g e)

    -- which vregs' slots aren't needed once the first move is added: the vreg's own if that is where it is expected
    abbrev Which : (ℕ → Bool) → Type 0
    Which need = (need ≡ far.out) ⊎ ((need ≡ out2) × (s ≡ c))

    first_moves : (need : ℕ → Bool) → Which need → c ≢ NoPlace → c ≢ far.here k → (m : StateValue) → Located (what_of ops) next m →
        Kept left m →
        MovesNeed tail far.lived far.out need Y v.number (Some c) (far.here k) c m
    first_moves need which real other m st k2 =
        let is_made : (x : ℕ) → x ≡ v.number → Y (far.here k) x ≡ true = λ x e. ap (Y (far.here k)) e ∙ pd.makes.is_made in
        record {
          moved = λ x y. elim y [
            | located l e ↦ made (elim (cases_eq x v.number) [
              | inl a ↦ is_made x a
              | inr a ↦ absurd (a (only_vreg_at c refl real m st.whole k2 x (opt_from (place_in m x) c (sym (put_other (location_at m) v.number (Some c) x a) ∙ e))))
            ])
            | in_slot f e ↦ made (is_made x (own_at c refl real m st.whole k2 x (opt_from (slot_in m x) c e)))
            | made g ↦ elim (pd.makes.grows c x g) [
              | inl h ↦ absurd (other h.0)
              | inr h ↦ (let b : far.made_at c x ≡ false = no_def_at_location_of_next (Counts ops) (what_of ops) far (location_at old) (slots_at old) k c
                  x pd.once r.within pd.claims pd.is_def r.located.placed (opt_some c real) in absurd cc)
            ]
          ];
          others = λ x q ne y. elim y [
            | located l e ↦ elim (cases_eq x v.number) [
              | inl a ↦ (let b : Some c ≡ Some q = sym (put_same (location_at m) v.number (Some c) x a) ∙ e in let g : q ≡ c = cc in absurd (ne g))
              | inr a ↦ located l (sym (put_other (location_at m) v.number (Some c) x a) ∙ e)
            ]
            | in_slot f e ↦ elim which [
              | inl a ↦ in_slot (ap (λ (g : ℕ → Bool). g x) a ∙ f) e
              | inr a ↦ elim (cases_eq x v.number) [
                | inl b ↦ absurd (ne (sym (opt_from (slot_in m x) q e) ∙ ap (slot_in m) b ∙ slot_then m k2 ∙ a.1))
                | inr b ↦ in_slot (ap (λ (g : ℕ → Bool). g x) a.0 ∙ others_in x b f) e
              ]
            ]
            | made g ↦ made g
          ];
        }

    -- what was needed before the vreg left, while it is being moved
    on_its_way : c ≢ NoPlace → OwesPlaces tail far.lived far.out Y (put (location_at left) v.number (Some c)) (slots_at left) left.edits
    on_its_way real = subst (OwesPlaces tail far.lived far.out Y (put (location_at left) v.number (Some c)) (slots_at left)) (sym edits) (record {
      later = r.owes.later;
      claims = claims_weaken Known E (after_part insts (listed old.edits) placesf i n) (Need far.lived far.out far.made_at (location_at old) (slots_at old))
          (Need far.lived far.out Y (put (location_at left) v.number (Some c)) (slots_at left))
          (λ x q y. elim y [
            | located l e ↦ located l (elim (cases_eq x v.number) [
              | inl a ↦ (put_same (location_at left) v.number (Some c) x a ∙ sym (opt_some c real) ∙ ap (location_at old) (sym a) ∙ e)
              | inr a ↦ (put_other (location_at left) v.number (Some c) x a ∙ ap opt (z.others x a) ∙ e)
            ])
            | in_slot f e ↦ in_slot f (ap (λ (g : SpillSlotsValue). opt (slot_name g x)) slots ∙ e)
            | made g ↦ made (pd.makes.keeps q x g)
          ]) r.owes.claims;
    })

    no_place_owed_at_block_end : (need : ℕ → Bool) → ends_block ≡ true → OwesPlaces tail far.lived need Y (location_at left) (slots_at left) left.edits
    no_place_owed_at_block_end need e = record {
      later = subst (λ es. AllFrom (after i) (listed es)) (sym edits) r.owes.later;
      claims = claims_weaken Known E (after_part insts (listed left.edits) placesf i n) (λ x p. ⊥) (Need far.lived need Y (location_at left) (slots_at left))
          (λ x p y. absurd y) (left_steady.nowhere_needed e);
    }

    -- no move is added if the vreg is expected nowhere or in its place
    stays_owed : (need : ℕ → Bool) → Which need → (c ≡ NoPlace) ⊎ (c ≡ far.here k) →
        OwesPlaces tail far.lived need Y (location_at left) (slots_at left) left.edits
    stays_owed need which at = subst (OwesPlaces tail far.lived need Y (location_at left) (slots_at left)) (sym edits) (record {
      later = r.owes.later;
      claims = claims_weaken Known E (after_part insts (listed old.edits) placesf i n) (Need far.lived far.out far.made_at (location_at old) (slots_at old))
          (Need far.lived need Y (location_at left) (slots_at left))
          (λ x q y. elim y [
            | located l e ↦ elim (cases_eq x v.number) [
              | inl a ↦ made (by_place x q a (ap (place_in old) (sym a) ∙ opt_from (place_in old x) q e) (opt_real (place_in old x) q e))
              | inr a ↦ located l (ap opt (z.others x a) ∙ e)
            ]
            | in_slot f e ↦ elim which [
              | inl a ↦ in_slot (ap (λ (g : ℕ → Bool). g x) a ∙ f) (ap (λ (g : SpillSlotsValue). opt (slot_name g x)) slots ∙ e)
              | inr a ↦ elim (cases_eq x v.number) [
                | inl b ↦ made (by_place x q b (sym a.1 ∙ ap (slot_in old) (sym b) ∙ opt_from (slot_in old x) q e) (opt_real (slot_in old x) q e))
                | inr b ↦ in_slot (ap (λ (g : ℕ → Bool). g x) a.0 ∙ others_in x b f) (ap (λ (g : SpillSlotsValue). opt (slot_name g x)) slots ∙ e)
              ]
            ]
            | made g ↦ made (pd.makes.keeps q x g)
          ]) r.owes.claims;
    })
      where
        by_place : (x : ℕ) (q : Place) → x ≡ v.number → c ≡ q → q ≢ NoPlace → Y q x ≡ true
        by_place x q a e real = elim at [
          | inl h ↦ absurd (real (sym e ∙ h))
          | inr h ↦ (ap (λ p. Y p x) (sym e ∙ h) ∙ ap (Y (far.here k)) a ∙ pd.makes.is_made)
        ]

    -- nothing is moved
    stayed : (need : ℕ → Bool) (inst_regs : InstRegs) (middle : StateValue) → inst_regs ≡ t → middle ≡ left →
        OwesPlaces tail far.lived need Y (location_at left) (slots_at left) left.edits →
        Sent tail ops next need ends_block inst_regs left middle
    stayed need inst_regs middle eu en o =
        let rest : Sent tail ops next need ends_block t left
        left = record { steady = left_steady; owes = o; kept = kept_all left } in
        subst (λ (y : InstRegs). Sent tail ops next need ends_block y left middle) (sym eu)
        (subst (Sent tail ops next need ends_block t left) (sym en) rest)

    expected_step : (need : ℕ → Bool) → Which need → (inst_regs : InstRegs) (middle : StateValue) →
        AddsMoveIf (after i) v.class (not ends_block && is_another c (far.here k)) (far.here k) c t inst_regs left middle →
        Sent tail ops next need ends_block inst_regs left middle
    expected_step need which inst_regs middle (sent yes_made crosses) =
        let x = another_is c (far.here k) (made_parts ends_block (is_another c (far.here k)) yes_made).1 in
        adds_move_step tail v.number (Some c)
        crosses x.0 z.here (inl refl)
        (λ m st k2. first_moves need which x.0 x.1 m st k2) left_steady (on_its_way x.0)
    expected_step need which inst_regs middle (unsent not_made eu en) =
        stayed need inst_regs middle eu en (elim (unmade_parts ends_block (is_another c (far.here k)) not_made) [
          | inl a ↦ no_place_owed_at_block_end need a
          | inr a ↦ stays_owed need which (another_not c (far.here k) a)
        ])

    -- the store
    second_moves : s ≢ NoPlace → s ≢ far.here k → (middle : StateValue) → Kept left middle → (m : StateValue) →
        Located (what_of ops) next m → Kept middle m →
        MovesNeed tail far.lived far.out out2 Y v.number None (far.here k) s m
    second_moves real other middle k2 m st k3 =
        let k4 : Kept left m = kept_trans left middle m k2 k3 in
        let q = real_slot old.slots.count s (r.located.whole.below v.number) real in
        let gone : place_in m v.number ≡ NoPlace = k4.nowhere v.number z.here in
        let owner : (x : ℕ) → slot_in m x ≡ s → x ≡ v.number = λ x e. st.whole.own x v.number q.0 (e ∙ q.1) (slot_then m k4 ∙ q.1) in
        let not_at_other_position : (x : ℕ) → place_in m x ≡ s → ⊥ = λ x e.
        let a : x ≡ v.number = owner x (st.whole.own_slot x q.0 (e ∙ q.1) ∙ sym q.1) in
        real (sym e ∙ ap (place_in m) a ∙ gone) in
        let is_made : (x : ℕ) → x ≡ v.number → Y (far.here k) x ≡ true = λ x e. ap (Y (far.here k)) e ∙ pd.makes.is_made in
        record {
          moved = λ x y. elim y [
            | located l e ↦ elim (cases_eq x v.number) [
              | inl a ↦ (let b : None ≡ Some s = sym (put_same (location_at m) v.number None x a) ∙ e in absurd cc)
              | inr a ↦ absurd (not_at_other_position x (opt_from (place_in m x) s (sym (put_other (location_at m) v.number None x a) ∙ e)))
            ]
            | in_slot f e ↦ made (is_made x (owner x (opt_from (slot_in m x) s e)))
            | made g ↦ made (is_made x (elim (pd.makes.grows s x g) [
              | inl h ↦ absurd (other h.0)
              | inr h ↦ (let w = r.located.placed.makes s x h in
                  sym (r.located.placed.slot_own w.0 v.number (r.located.placed.claims w.0 w.1) (opt_some s real ∙ ap Some (sym w.4)) ∙ w.3))
            ]))
          ];
          others = λ x p ne y. elim y [
            | located l e ↦ elim (cases_eq x v.number) [
              | inl a ↦ (let b : None ≡ Some p = sym (put_same (location_at m) v.number None x a) ∙ e in absurd cc)
              | inr a ↦ located l (sym (put_other (location_at m) v.number None x a) ∙ e)
            ]
            | in_slot f e ↦ elim (cases_eq x v.number) [
              | inl a ↦ absurd (ne (sym (opt_from (slot_in m x) p e) ∙ ap (slot_in m) a ∙ slot_then m k4))
              | inr a ↦ in_slot (others_in x a f) e
            ]
            | made g ↦ made g
          ];
        }

    module _ (inst_regs u : InstRegs) (middle new : StateValue) where
      moved_none : (need : ℕ → Bool) → Sent tail ops next need ends_block inst_regs left middle →
          OwesPlaces tail far.lived need Y (put (location_at middle) v.number None) (slots_at middle) middle.edits
      moved_none need f = owes_same tail far.lived need Y (location_at middle) (put (location_at middle) v.number None) (slots_at middle)
          middle.edits
          (λ x. elim (cases_eq x v.number) [
            | inl a ↦ (put_same (location_at middle) v.number None x a ∙ sym (ap opt (ap (place_in middle) a ∙ f.kept.nowhere v.number z.here)))
            | inr a ↦ put_other (location_at middle) v.number None x a
          ]) f.owes

      ready_then : Sent tail ops next out2 ends_block inst_regs left middle → u ≡ inst_regs → new ≡ middle →
          Ready tail ops next ends_block u new
      ready_then f eu en =
          subst (λ (y : InstRegs). Ready tail ops next ends_block y new) (sym eu)
          (subst (Ready tail ops next ends_block inst_regs) (sym en)
          (ready_of tail ops next ends_block inst_regs middle f.steady f.owes))

      -- the vreg is expected in its slot
      stored_there : s ≡ c → AddsMoveIf (after i) v.class (not ends_block && (is_another s (far.here k) && not (is_place s c))) (far.here k) s inst_regs u middle new →
          Sent tail ops next out2 ends_block inst_regs left middle →
          Ready tail ops next ends_block u new
      stored_there same (sent yes_made crosses) f =
          let a = both_parts (is_another s (far.here k)) (is_place s c) (made_parts ends_block (is_another s (far.here k) && not (is_place s c)) yes_made).1 in
          let b : is_place s c ≡ true = ap (λ q. is_place q c) same ∙ is_place-same c in absurd cc
      stored_there same (unsent not_made eu en) f = ready_then f eu en

      stored_step : s ≢ c → AddsMoveIf (after i) v.class (not ends_block && (is_another s (far.here k) && not (is_place s c))) (far.here k) s inst_regs u middle new →
          Sent tail ops next far.out ends_block inst_regs left middle →
          Ready tail ops next ends_block u new
      stored_step ne (sent yes_made crosses) f =
          let a = both_parts (is_another s (far.here k)) (is_place s c) (made_parts ends_block (is_another s (far.here k) && not (is_place s c)) yes_made).1 in
          let x = another_is s (far.here k) a.0 in
          let g : Sent tail ops next out2 ends_block u middle new =
          adds_move_step tail v.number None
          crosses x.0 (f.kept.nowhere v.number z.here) (inr refl)
          (λ m st k3. second_moves x.0 x.1 middle f.kept m st k3) f.steady (moved_none far.out f) in
          ready_of tail ops next ends_block u new g.steady g.owes
      stored_step ne (unsent not_made eu en) f =
          let rest : OwesPlaces tail far.lived out2 Y (location_at middle) (slots_at middle)
          middle.edits = elim (unmade_parts ends_block (is_another s (far.here k) && not (is_place s c)) not_made) [
            | inl a ↦ record {
              later = f.owes.later;
              claims = claims_weaken Known E (after_part insts (listed middle.edits) placesf i n) (λ x p. ⊥)
                  (Need far.lived out2 Y (location_at middle) (slots_at middle)) (λ x p y. absurd y) (f.steady.nowhere_needed a);
            }
            | inr a ↦ record {
              later = f.owes.later;
              claims = claims_weaken Known E (after_part insts (listed middle.edits) placesf i n)
                  (Need far.lived far.out Y (location_at middle) (slots_at middle))
                  (Need far.lived out2 Y (location_at middle) (slots_at middle))
                  (λ x p y. elim y [
                    | located l e ↦ located l e
                    | in_slot g e ↦ elim (cases_eq x v.number) [
                      | inl b ↦ (
                          let at : s ≡ p = sym (slot_then middle f.kept) ∙ ap (slot_in middle) (sym b) ∙ opt_from (slot_in middle x) p e in
                          elim (another_not s (far.here k) (either_part (is_another s (far.here k)) (is_place s c) a (is_place-other s c ne))) [
                            | inl h ↦ absurd (opt_real (slot_in middle x) p e (sym at ∙ h))
                            | inr h ↦ made (ap (λ q. Y q x) (sym at ∙ h) ∙ ap (Y (far.here k)) b ∙ pd.makes.is_made)
                          ])
                      | inr b ↦ in_slot (others_in x b g) e
                    ]
                    | made g ↦ made g
                  ]) f.owes.claims;
            }
          ] in
          ready_then (record { steady = f.steady; owes = rest; kept = f.kept }) eu en

  -- the definition k is placed, where it claimed its place
  pub frees_alloc_step : (t u : InstRegs) (old new : StateValue) → FreesAlloc (after i) v ends_block (far.here k) t u old new →
      Ready tail ops far ends_block t old →
      Ready tail ops next ends_block u new
  frees_alloc_step t u old new d r = elim (cases_place (slot_in old v.number) (place_in old v.number)) [
    | inl a ↦ stored_there t old d.left d.sets_alloc d.slots d.edits d.machine r d.inst_regs u d.middle new a d.stored
        (expected_step t old d.left d.sets_alloc d.slots d.edits d.machine r out2 (inr (refl, a)) d.inst_regs d.middle d.expected)
    | inr a ↦ stored_step t old d.left d.sets_alloc d.slots d.edits d.machine r d.inst_regs u d.middle new a d.stored
        (expected_step t old d.left d.sets_alloc d.slots d.edits d.machine r far.out (inl refl) d.inst_regs d.middle d.expected)
  ]
