-- An instruction that defines a vreg leaves what it writes in its slot, once the moves after it have run.
-- The fold in `Changes` of regalloc2_fastalloc_proofs doesn't apply: an operand's place is passed from its selection to
-- the steps that follow.
use Rattle.std.proofs.Common.{ℕ, ◌≡◌, ◌≢◌, ◌+◌, ◌<◌, ◌≤◌, inl, inr, Bool, true, false, List, length, refl, sym, ap, ◌∙◌, subst, arith}
use Rattle.std.specs.Prelude.{slice_index_or, slice_set}
use Rattle.std.proofs.lemmas.Bool.{cases_eq}
use Rattle.std.proofs.lemmas.List.{get_or-set_same, get_or-set_other, length-set}
use Rattle.regalloc2_names.specs.Register.{Register, VirtualRegister}
use Rattle.regalloc2_names.specs.Operand.{OperandValue, is_def, is_late}
use Rattle.regalloc2_names.specs.Place.{Place, NoPlace, InRegister, InSlot, after}
use Rattle.regalloc2_function.specs.FunctionValue.{InstValue, op_at}
use Rattle.regalloc2_function.specs.OutputValue.{MoveValue}
use Rattle.regalloc2_semantics.specs.Runs.{after_moves}
use Rattle.regalloc2_carry.specs.Carry.{Carries}
use Rattle.regalloc2_carry.specs.BlockByPoints.{at_point, walked, after_part, listed}
use Rattle.regalloc2_carry.specs.Instruction.{Claims}
use Rattle.regalloc2_carry.specs.OperandsPlaced.{Counts, Need, made}
use Rattle.regalloc2_carry.proofs.MoveInFront.{walked-none}
use Rattle.regalloc2_carry.proofs.CarryRules.{carries_nil, carries_moves}
use Rattle.regalloc2_carry.proofs.UnwrittenPlaces.{NoMoveTo}
use Rattle.regalloc2_carry.proofs.Operands.{reads_use}
use Rattle.regalloc2_fastalloc_state.specs.StateParts.{slot_name}
use Rattle.regalloc2_fastalloc_state.specs.declared.inst_regs.InstRegs.{InstRegs}
use Rattle.regalloc2_fastalloc_proofs.specs.InstSteps.{StateValue, FreesAlloc, ProcessesOperand, a_register, a_use, a_def, a_reuse, ProcessesOperandsAt}
use Rattle.regalloc2_fastalloc_proofs.specs.InstSteps.{none_placed, of_other, one_placed}
use Rattle.regalloc2_fastalloc_proofs.specs.Safety.{IsWhole}
use Rattle.regalloc2_fastalloc_proofs.proofs.Safety.StepsKeepState.{place_in, slot_in}
use Rattle.regalloc2_fastalloc_proofs.proofs.Operands.RecordOverState.{location_at, slots_at, opt_none}
use Rattle.regalloc2_fastalloc_proofs.proofs.Operands.RecordOfInst.{Orderly, Turned, LayingContext, laying_of}
use Rattle.regalloc2_fastalloc_proofs.proofs.Operands.UsesAndPlainDefs.{laid_pass}
use Rattle.regalloc2_fastalloc_proofs.proofs.Operands.AllOperands.{LaidAt, laid_one_more, laid_all}
use Rattle.regalloc2_fastalloc_proofs.proofs.Moves.StepsAppendEdits.{AppendsEdits, none_pushed, appends_edits_trans}
use Rattle.regalloc2_fastalloc_proofs.proofs.Slots.StepsKeepSlots.{Grown, grown_then, changes_grow, AnyPlace}
use Rattle.regalloc2_fastalloc_proofs.proofs.Changes.InstChanges.{free_operand, adds_move_if_changes, processes_operand_changes, frees_alloc_changes}
use Rattle.regalloc2_fastalloc_proofs.specs.Located.{Absent}
use Rattle.regalloc2_fastalloc_proofs.proofs.Debug.UnnamedStaysUnlocated.{processes_operand_out, changes_out, whole_absent, defined_absent}
use Rattle.regalloc2_fastalloc_proofs.proofs.Debug.DefStoresIntoSlot.{Off, allocs_operand_whole, allocs_operand_off, locates_use_off, frees_alloc_off}
use Rattle.regalloc2_fastalloc_proofs.proofs.Debug.DefStoresIntoSlot.{frees_alloc_into, off_none, moves_of}
use Rattle.regalloc2_fastalloc_proofs.proofs.Operands.BlockTail.{tail_of}
use Rattle.regalloc2_semantics.specs.Laws.{Cells}

-- A definition of an instruction that doesn't end its block, and its vreg's slot: the known vregs; the instructions and
-- the places of their operands; the instruction i; its operands, which are orderly, with the numbers that had a
-- location and the clobbered places; the operand d; and the slot's number n.
pub record DefSlot : Type 1 where
  pub Known : VirtualRegister → Type 0
  pub insts : ℕ → InstValue
  pub placesf : ℕ → List Place
  pub i : ℕ
  pub ops : List OperandValue
  pub lived : ℕ → Bool
  pub clob : Place → Bool
  pub ends_block : Bool
  pub orderly : Orderly ops
  pub plain : ends_block ≡ false
  pub d : ℕ
  pub within : d < length ops
  pub def : is_def (op_at ops d).kind ≡ true
  pub n : ℕ

-- a value that an operand writes
module _ (def_slot : DefSlot) where
  open def_slot use {Known, insts, placesf, i, ops, lived, clob, ends_block, orderly, plain, d, within, def, n}

  abbrev v : VirtualRegister
  v = (op_at ops d).vreg

  abbrev s : Place
  s = InSlot n

  -- the slot is no register
  pub slotted : (r : Register) → s ≡ InRegister r → ⊥
  slotted r e = cc

  real : s ≢ NoPlace
  real e = cc

  -- what the listing must establish: nothing, or that the slot holds the value
  abbrev Nowhere : VirtualRegister → Place → Type 0
  Nowhere u p = ⊥

  abbrev pub Into : VirtualRegister → Place → Type 0
  Into u p = (u ≡ v) × (p ≡ s)

  abbrev pub asks_nowhere : LayingContext
  asks_nowhere = laying_of (tail_of Known insts placesf i 0 Nowhere) ops lived clob ends_block orderly

  abbrev pub asks_value : LayingContext
  asks_value = laying_of (tail_of Known insts placesf i 0 Into) ops lived clob ends_block orderly

  abbrev pub Bare : Bool → ℕ → List Place → InstRegs → StateValue → Type 0
  Bare = LaidAt asks_nowhere

  abbrev pub Full : Bool → ℕ → List Place → InstRegs → StateValue → Type 0
  Full = LaidAt asks_value

  abbrev pub moves : StateValue → List MoveValue
  moves t = moves_of s slotted (after i) t

  -- once the definition is placed
  into : (late : Bool) (k : ℕ) (list : List Place) (u : InstRegs) (t : StateValue) → (L : Bare late k list u t) → L.done d ≡ true →
      ((c : Cells) → after_moves (moves t) c s ≡ c (L.here d)) → Full late k list u t
  into late k list u t L done there = record {
    here = L.here;
    claimed = L.claimed;
    done = L.done;
    out = L.out;
    X = L.X;
    ready = record {
      located = L.ready.located;
      owes = record { later = L.ready.owes.later; claims = claims };
      nowhere_needed = λ e. absurd (let y : true ≡ false = sym e ∙ plain in cc);
      held = L.ready.held;
      scratch_reserve = L.ready.scratch_reserve;
      fit = L.ready.fit;
      clobbers = L.ready.clobbers;
      within = L.ready.within;
      small = L.ready.small;
    };
    turned = L.turned;
    all = L.all;
    fixed = L.fixed;
    fixed_reuse = L.fixed_reuse;
    waiting = L.waiting;
    long = L.long;
    listed_here = L.listed_here;
    placed = L.placed;
    written = L.written;
  }
    where
      claims : Claims Known (after_part insts (listed t.edits) placesf i 0) (Need lived L.out L.X (location_at t) (slots_at t)) Into
      claims u known =
          let N : Place → Type 0 = Need lived L.out L.X (location_at t) (slots_at t) u.number in
          carries_moves u (moves t) (walked insts (at_point (listed t.edits)) placesf (i + 1) 0) (Into u) N (Into u)
          (λ m c holds p h.
          let mine : N (L.here d) = made (ap (λ (w : VirtualRegister). L.X (L.here d) w.number) h.0 ∙ L.written d done def) in
          ap (after_moves (moves t) c) h.1 ∙ there c ∙ holds (L.here d) mine)
          (subst (λ l. Carries u l (Into u) (Into u)) (sym (walked-none insts (at_point (listed t.edits)) placesf (i + 1)))
          (carries_nil u (Into u) (Into u) (λ p h. h)))

  -- an operand of another number stores nothing in the slot; final: the tables before the instruction
  module _ (final : StateValue) (whole : IsWhole final) (mine : slot_in final v.number ≡ s) where
    others_slots : (t : StateValue) → Grown AnyPlace t final → (x : ℕ) → x ≢ v.number → slot_in t x ≢ s
    others_slots t g x ne e = ne (whole.own x v.number n (g.stay x (λ z. real (sym e ∙ z)) ∙ e) mine)

    another_off : (w : VirtualRegister) (p : Place) (t u : InstRegs) (old new : StateValue) → (df : FreesAlloc (after i) w ends_block p t u old new) →
        w.number ≢ v.number → IsWhole old → Grown AnyPlace old final →
        AppendsEdits (Off s slotted) old.edits new.edits
    another_off w p t u old new df ne h g =
        frees_alloc_off s slotted (after i) w ends_block p t u old new df (λ e. others_slots old g w.number ne (h.own_slot w.number n e))
        (others_slots old g w.number ne)

    processes_operand_off : (k : ℕ) (here there : List Place) (t u : InstRegs) (old new : StateValue) → (Counts ops k → (op_at ops k).vreg.number ≢ v.number) →
        k < length ops → ProcessesOperand i ends_block ops k here there t u old new → IsWhole old → Grown AnyPlace new final →
        AppendsEdits (Off s slotted) old.edits new.edits
    processes_operand_off k here there t u old new ne lt (a_register r silent is at eu en) h g =
        subst (λ (y : StateValue). AppendsEdits (Off s slotted) old.edits y.edits) (sym en) none_pushed
    processes_operand_off k here there t u old new ne lt (a_use p reads y at) h g =
        appends_edits_trans (Off s slotted) old.edits y.middle.edits new.edits (allocs_operand_off s slotted (after i) _ p t u old y.middle y.gets)
        (locates_use_off s slotted (after i) _ p y.middle new y.uses)
    processes_operand_off k here there t u old new ne lt (a_def p is_def_k free y at) h g =
        appends_edits_trans (Off s slotted) old.edits y.middle.edits new.edits (allocs_operand_off s slotted (after i) _ p t y.inst_regs old y.middle y.gets)
        (another_off (op_at ops k).vreg p y.inst_regs u y.middle new y.defines (ne (lt, inl is_def_k))
        (allocs_operand_whole (after i) _ p t y.inst_regs old y.middle y.gets h)
        (grown_then AnyPlace y.middle new final (changes_grow AnyPlace (frees_alloc_changes (λ q s. tt) (λ q. tt) (λ q. tt) tt y.defines)) g))
    processes_operand_off k here there t u old new ne lt (a_reuse m p is_def_k reuses y at) h g =
        appends_edits_trans (Off s slotted) old.edits y.middle.edits new.edits (allocs_operand_off s slotted (after i) _ p t y.inst_regs old y.middle y.gets)
        (another_off (op_at ops k).vreg p y.inst_regs u y.middle new y.defines (ne (lt, inl is_def_k))
        (allocs_operand_whole (after i) _ p t y.inst_regs old y.middle y.gets h)
        (grown_then AnyPlace y.middle new final (changes_grow AnyPlace (frees_alloc_changes (λ q s. tt) (λ q. tt) (λ q. tt) tt y.defines)) g))

    -- the definition itself
    define_into : (w : VirtualRegister) (p : Place) (t u : InstRegs) (old new : StateValue) → w ≡ v → (df : FreesAlloc (after i) w ends_block p t u old new) →
        IsWhole old → slot_in new v.number ≡ s → NoMoveTo s (moves old) →
        (c : Cells) → after_moves (moves new) c s ≡ c p
    define_into w p t u old new e df h at none =
        let left : Absent w.number df.left = defined_absent w.number (after i) w ends_block p t u old new refl df h in
        let a = changes_out w.number (adds_move_if_changes (λ q r. tt) (λ q. tt) df.expected) left in
        let b = changes_out w.number (adds_move_if_changes (λ q r. tt) (λ q. tt) df.stored) a.0 in
        let same : slot_in old w.number ≡ s = ap (λ z. slot_name z w.number) (sym df.slots) ∙ sym a.1 ∙ sym b.1
        ∙ ap (λ (z : VirtualRegister). slot_in new z.number) e ∙ at in
        frees_alloc_into s slotted (after i) w ends_block p t u old new real plain same df none

    processes_operand_into : (here there : List Place) (t u : InstRegs) (old new : StateValue) → length here ≡ length ops →
        ProcessesOperand i ends_block ops d here there t u old new → IsWhole old → slot_in new v.number ≡ s → NoMoveTo s (moves old) →
        (c : Cells) → after_moves (moves new) c s ≡ c (slice_index_or there d NoPlace)
    processes_operand_into here there t u old new long (a_register r silent is at eu en) h mine_new none = λ c. absurd
        (let y = orderly.allocated d within def in cc)
    processes_operand_into here there t u old new long (a_use p reads y at) h mine_new none = λ c. absurd (let z = reads_use (op_at ops d) reads in cc)
    processes_operand_into here there t u old new long (a_def p is_def_d free y at) h mine_new none = λ c.
        let lt : d < length here = omega (arith, within, long) in
        define_into (op_at ops d).vreg p y.inst_regs u y.middle new refl y.defines (allocs_operand_whole (after i) _ p t y.inst_regs old y.middle y.gets h)
        mine_new
        (off_none s slotted (after i) old.edits y.middle.edits (allocs_operand_off s slotted (after i) _ p t y.inst_regs old y.middle y.gets) none) c
        ∙ ap c (sym (ap (λ l. slice_index_or l d NoPlace) at ∙ get_or-set_same here d p NoPlace lt))
    processes_operand_into here there t u old new long (a_reuse m p is_def_d reuses y at) h mine_new none = λ c.
        let lt : d < length here = omega (arith, within, long) in
        let there_d : slice_index_or (slice_set (slice_set here d p) m p) d NoPlace ≡ p = elim (cases_eq d m) [
          | inl e ↦ (ap (λ z. slice_index_or (slice_set (slice_set here d p) m p) z NoPlace) e
              ∙ get_or-set_same (slice_set here d p) m p NoPlace (let l = length-set here d p in omega (arith, lt, l, e)))
          | inr ne ↦ (get_or-set_other (slice_set here d p) m d p NoPlace ne ∙ get_or-set_same here d p NoPlace lt)
        ] in
        define_into (op_at ops d).vreg p y.inst_regs u y.middle new refl y.defines (allocs_operand_whole (after i) _ p t y.inst_regs old y.middle y.gets h)
        mine_new
        (off_none s slotted (after i) old.edits y.middle.edits (allocs_operand_off s slotted (after i) _ p t y.inst_regs old y.middle y.gets) none) c
        ∙ ap c (sym (ap (λ l. slice_index_or l d NoPlace) at ∙ there_d))

    -- another operand has another number
    pub other_number : (k : ℕ) → k ≢ d → Counts ops k → (op_at ops k).vreg.number ≢ v.number
    other_number k ne c e = elim c.1 [
      | inl defines ↦ ne (orderly.once.one k d c (within, inl def) defines def e)
      | inr reads ↦ orderly.once.unread d k (within, inl def) c def (reads_use (op_at ops k) reads) (sym e)
    ]

    -- operands before it is allocated
    pub before_off : {late : Bool} {here : List Place} {t : InstRegs} {old : StateValue} {k : ℕ} {list : List Place} {u : InstRegs} {m : StateValue} →
        ProcessesOperandsAt i ends_block late ops here t old k list u m → k ≤ length ops → (d < k → is_late (op_at ops d).position ≡ late → ⊥) →
        Bare late 0 here t old → Grown AnyPlace m final → AppendsEdits (Off s slotted) old.edits m.edits
    before_off none_placed = λ le out L g. none_pushed
    before_off {late} {here} {t} {old} (of_other j there w y prev other) =
        λ le out L g. before_off prev (omega (arith, le)) (λ lt e. out (omega (arith, lt)) e) L g
    before_off {late} {here} {t} {old} {list} {u} {m} (one_placed j there next w y z q prev inst_regs one) = λ le out L g.
        let grows : Grown AnyPlace z final = grown_then AnyPlace z m final
        (changes_grow AnyPlace (processes_operand_changes (λ p q. tt) (free_operand _) one)) g in
        let at : Bare late j there w z = laid_all asks_nowhere late here t old j there w z prev
        (omega (arith, le)) L in
        let ne : j ≢ d = λ e. out (omega (arith, e)) (ap (λ (a : ℕ). is_late (op_at ops a).position) (sym e) ∙ inst_regs) in
        appends_edits_trans (Off s slotted) old.edits z.edits m.edits
        (before_off prev (omega (arith, le)) (λ lt e. out (omega (arith, lt)) e) L grows)
        (processes_operand_off j there list w u z m (other_number j ne) (omega (arith, le)) one at.ready.located.whole g)

    -- once it is allocated
    pub pass_into : {late : Bool} {here : List Place} {t : InstRegs} {old : StateValue} → is_late (op_at ops d).position ≡ late → NoMoveTo s (moves old) →
        Bare late 0 here t old →
        {k : ℕ} {list : List Place} {u : InstRegs} {m : StateValue} → ProcessesOperandsAt i ends_block late ops here t old k list u m → k ≤ length ops → d < k →
        Grown AnyPlace m final → slot_in m v.number ≡ s → Full late k list u m
    pass_into of_pass none L none_placed = λ le lt g at. absurd (omega (arith, lt))
    pass_into {late} {here} {t} {old} of_pass none L {list} {u} {m} (of_other j there w y prev other) = λ le lt g at.
        let ne : d ≢ j = λ e. other (ap (λ (a : ℕ). is_late (op_at ops a).position) (sym e) ∙ of_pass) in
        laid_pass asks_value late j list u m
        (pass_into of_pass none L prev (omega (arith, le)) (omega (arith, lt, ne)) g at) other
    pass_into {late} {here} {t} {old} of_pass none L {list} {u} {m} (one_placed j there next w y z q prev inst_regs one) = λ le lt g at.
        let bare : Bare late j there w z = laid_all asks_nowhere late here t old j there w z prev
        (omega (arith, le)) L in
        let grows : Grown AnyPlace z final = grown_then AnyPlace z m final
        (changes_grow AnyPlace (processes_operand_changes (λ p q. tt) (free_operand _) one)) g in
        elim (cases_eq j d) [
          | inl e ↦ at_turn late here t old none L j there list w u z m prev (omega (arith, le)) e inst_regs bare one g at
          | inr ne ↦ (
              let lj : d < j = omega (arith, lt, ne) in
              let gone : bare.out v.number ≡ true = bare.ready.located.placed.outs d (bare.all d (within, inl def) (had_turn late j of_pass lj)) def in
              let absent : Absent v.number z = whole_absent v.number z bare.ready.located.whole
              (opt_none (place_in z v.number) (bare.ready.located.placed.gone v.number gone)) in
              let stays = processes_operand_out v.number i ends_block ops j there list w u z m (omega (arith, le)) (other_number j ne) one absent in
              laid_one_more asks_value late j there list w u z m (omega (arith, le)) inst_regs one
              (pass_into of_pass none L prev (omega (arith, le)) lj grows (sym stays.1 ∙ at)))
        ]
      where
        had_turn : (b : Bool) (a : ℕ) → is_late (op_at ops d).position ≡ b → d < a → Turned ops b a d
        had_turn true a e lt = inl (e, lt)
        had_turn false a e lt = inr (refl, inr lt)

        at_turn : (late : Bool) (here : List Place) (t : InstRegs) (old : StateValue) → NoMoveTo s (moves old) → Bare late 0 here t old →
            (j : ℕ) (there list : List Place) (w u : InstRegs) (z m : StateValue) → ProcessesOperandsAt i ends_block late ops here t old j there w z → j < length ops →
            j ≡ d → is_late (op_at ops j).position ≡ late → Bare late j there w z → ProcessesOperand i ends_block ops j there list w u z m → Grown AnyPlace m final →
            slot_in m v.number ≡ s → Full late (j + 1) list u m
        at_turn late here t old none L j there list w u z m prev less e inst_regs bare one g at =
            let grows : Grown AnyPlace z final = grown_then AnyPlace z m final
            (changes_grow AnyPlace (processes_operand_changes (λ p q. tt) (free_operand _) one)) g in
            let quiet : NoMoveTo s (moves z) = off_none s slotted (after i) old.edits z.edits
            (before_off prev (omega (arith, less)) (λ lt h. absurd (omega (arith, lt, e))) L grows) none in
            let next : Bare late (j + 1) list u m = laid_one_more asks_nowhere late j there list w u z m less
            inst_regs one bare in
            let done : next.done d ≡ true = next.all d (within, inl def)
            (had_turn late (j + 1) (ap (λ (a : ℕ). is_late (op_at ops a).position) (sym e) ∙ inst_regs) (omega (arith, e))) in
            into late (j + 1) list u m next done
            (λ c. processes_operand_into there list w u z m bare.long (subst (λ (a : ℕ). ProcessesOperand i ends_block ops a there list w u z m) e one)
            bare.ready.located.whole at quiet c ∙ ap c (next.placed d done))
