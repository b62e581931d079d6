-- A reuse is allocated: its place is also that of the use that it names, which claims it immediately.
-- The fold in `Changes` doesn't apply: what the listing carries, or the operands' record, differs from step to step.
use Rattle.std.proofs.Common.{ℕ, ◌≡◌, ◌≢◌, ◌+◌, ◌<◌, Bool, true, false, List, length, refl, arith, sym, ap, ◌∙◌, subst, inl, inr, ◌⊎◌, ⊎_elim}
use Rattle.std.specs.Prelude.{Some, not, ◌&&◌, slice_index_or, slice_set}
use Rattle.std.proofs.lemmas.Bool.{cases_Bool, cases_eq}
use Rattle.std.proofs.lemmas.List.{get_or-set_same, get_or-set_other, length-set}
use Rattle.regalloc2_names.specs.declared.OperandConstraint.TheVariants.{Reg, FixedReg, Reuse}
use Rattle.regalloc2_names.specs.declared.RegClass.{RegClass}
use Rattle.regalloc2_names.specs.Register.{Register, VirtualRegister, is_register, has_register}
use Rattle.regalloc2_names.specs.Operand.{is_def, is_late}
use Rattle.regalloc2_names.specs.Place.{Place, NoPlace, InRegister, InSlot, after}
use Rattle.regalloc2_carry.specs.OperandsPlaced.{what_of, Progress, Puts, Counts, Clear}
use Rattle.regalloc2_carry.proofs.BoundaryToBoundary.{Covers, FreeAt, free_of}
use Rattle.regalloc2_semantics.proofs.Cells.{is_register-same}
use Rattle.regalloc2_carry.proofs.AllowedPlaces.{clear_free, clear_reuse, reuse_alone}
use Rattle.regalloc2_fastalloc_state.specs.declared.inst_regs.InstRegs.{InstRegs}
use Rattle.regalloc2_fastalloc_state.specs.declared.positions.Positions.{Positions}
use Rattle.regalloc2_fastalloc_state.specs.declared.request.Requirement.{Requirement}
use Rattle.regalloc2_fastalloc_state.specs.declared.request.Requirement.TheVariants.{AnyPlace, AnyReg, OnStack, InPReg}
use Rattle.regalloc2_fastalloc_state.specs.declared.request.OperandRequest.{OperandRequest}
use Rattle.regalloc2_function.specs.FunctionValue.{op_at}
use Rattle.regalloc2_fastalloc_proofs.specs.InstSteps.{StateValue, MeetsRequirement, SelectsPlace, stays, fixed, slot, free, ClaimsPlace, in_slot}
use Rattle.regalloc2_fastalloc_proofs.specs.InstSteps.{AllocsDefOp, in_register, AddsMoveIf, sent, unsent, FreesAlloc, reuse_requirement_of, reuse_request}
use Rattle.regalloc2_fastalloc_proofs.proofs.Safety.StepsKeepState.{place_in}
use Rattle.regalloc2_fastalloc_proofs.proofs.Operands.RecordOverState.{opt, location_at, slots_at}
use Rattle.regalloc2_fastalloc_proofs.proofs.Evictions.EvictVReg.{held_early, held_late}
use Rattle.regalloc2_fastalloc_proofs.proofs.Moves.ScratchRegTaken.{Less, less_same, less_trans}
use Rattle.regalloc2_fastalloc_proofs.proofs.Operands.ClaimAndUse.{claim_register, covers_both}
use Rattle.regalloc2_fastalloc_proofs.proofs.Operands.RecordOfInst.{progress, Waits, of_fixed, of_reuse, of_named, Ready, Laid, LayingContext}
use Rattle.regalloc2_fastalloc_proofs.proofs.Evictions.EvictKeepsRecord.{adds_move_less}
use Rattle.regalloc2_fastalloc_proofs.proofs.Operands.ClaimKeepsRecord.{Grips, ready_claim}
use Rattle.regalloc2_fastalloc_proofs.proofs.Operands.AllocOperand.{Due, owed, fresh, meets_requirement_at, Got, allocs_operand_step, set_at, set_at_same}
use Rattle.regalloc2_fastalloc_proofs.proofs.Operands.AllocOperand.{set_at_other, puts_one, and_one, and_one_same, and_one_other, and_one_grows}
use Rattle.regalloc2_fastalloc_proofs.proofs.Operands.AllocOperand.{and_one_keeps}
use Rattle.regalloc2_fastalloc_proofs.proofs.Operands.RecordAfterOperand.{def_step, made_one, makes_one}
use Rattle.regalloc2_fastalloc_proofs.proofs.Operands.UsesAndPlainDefs.{waits_set, fresh_turn, phase_turn, laid_next}
use Rattle.regalloc2_fastalloc_proofs.proofs.Operands.AllocsSoFar.{reuse_requires_fixed_reg}

-- what is held stays held while the moves of a definition are added
pub adds_move_if_less : (point : ℕ) (class : RegClass) (is_made : Bool) (from to : Place) (t u : InstRegs) (old new : StateValue) →
    AddsMoveIf point class is_made from to t u old new → Less t u
adds_move_if_less point class is_made from to t u old new (sent e c) = adds_move_less point class from to t u old new c
adds_move_if_less point class is_made from to t u old new (unsent e eu en) = less_same t u eu

-- freeing a definition and adding its moves makes no register available
pub frees_alloc_less : (point : ℕ) (v : VirtualRegister) (ends_block : Bool) (p : Place) (t u : InstRegs) (old new : StateValue) → FreesAlloc point v ends_block p t u old new
    → Less t u
frees_alloc_less point v ends_block p t u old new d = less_trans t d.inst_regs u (adds_move_if_less _ _ _ _ _ t d.inst_regs d.left d.middle d.expected)
    (adds_move_if_less _ _ _ _ _ d.inst_regs u d.middle new d.stored)

held_now : (b c s : Bool) → c ≡ (not (true && s) && b) → s ≡ true → c ≡ false
held_now b c true e h = e
held_now b c false e h = absurd cc

-- the place is held at the early position
pub claims_place_early : (point : ℕ) (o : OperandRequest) (p : Place) (r : Register) (t u : InstRegs) (old new : StateValue) → o.positions.early ≡ true →
    p ≡ InRegister r → ClaimsPlace point o p t u old new → has_register u.early r ≡ false
claims_place_early point o p r t u old new early at (in_slot k e same en) = let x : InRegister r ≡ InSlot k = sym at ∙ e in absurd cc
claims_place_early point o p r t u old new early at (in_register g m e clears holds) =
    let x : InRegister r ≡ InRegister g = sym at ∙ e in let same : r ≡ g = cc in
    held_now (has_register m.early r) (has_register u.early r) (is_register g r)
    (holds.early r ∙ ap (λ b. not (b && is_register g r) && has_register m.early r) early) (ap (is_register g) same ∙ is_register-same g)

meets_requirement_register : (t : StateValue) (w : Requirement) (p : Place) → w ≡ AnyReg → MeetsRequirement t w p → (r : Register) × (p ≡ InRegister r)
unfolding MeetsRequirement
meets_requirement_register t w p e s = let x = subst (λ y. MeetsRequirement t y p) e s in (x.0, x.1)

-- an operand that requires a register is in one
pub selects_place_register : (t : InstRegs) (o : OperandRequest) (p : Place) (old new : StateValue) → (o.requirement ≡ AnyReg)
    ⊎ ((r : Register) × (o.requirement ≡ InPReg r)) → SelectsPlace t o p old new → (r : Register) × (p ≡ InRegister r)
selects_place_register t o p old new w (stays x su en) = elim w [
  | inl a ↦ meets_requirement_register old o.requirement p a su
  | inr a ↦
      (a.0, meets_requirement_at old o.requirement p a.0 a.1 su)
]
selects_place_register t o p old new w (fixed r a e en) = (r, e)
selects_place_register t o p old new w (slot h g e ed machine order) = absurd (elim w [
  | inl a ↦ elim h [ inl b ↦ (let x : AnyReg ≡ AnyPlace = sym a ∙ b in cc) | inr b ↦ (let x : AnyReg ≡ OnStack = sym a ∙ b in cc) ]
  | inr a ↦ elim h [ inl b ↦ (let x : InPReg a.0 ≡ AnyPlace = sym a.1 ∙ b in cc) | inr b ↦ (let x : InPReg a.0 ≡ OnStack = sym a.1 ∙ b in cc) ]
])
selects_place_register t o p old new w (free r h away may fr first e en) = (r, e)

module _ (laying : LayingContext) (late : Bool) (k : ℕ) (list : List Place) (u : InstRegs) (t : StateValue)
    (L : Laid laying.tail laying.ops laying.lived laying.clob laying.ends_block late k list u t) (lt : k < length laying.ops)
    (inst_regs : is_late (op_at laying.ops k).position ≡ late) (q : ℕ) (reuse : (op_at laying.ops k).constraint ≡ Reuse q) where
  open laying use {tail, ops, lived, clob, ends_block, orderly}
  open laying.tail use {Known, insts, placesf, i, n, E}

  -- the progress of the operands
  abbrev now : Progress
  now = progress lived clob L.here L.claimed L.done L.out L.X

  def : is_def (op_at ops k).kind ≡ true
  def = (orderly.late_reuse k q lt reuse).0

  comes_late : is_late (op_at ops k).position ≡ true
  comes_late = (orderly.late_reuse k q lt reuse).1

  use_q : is_def (op_at ops q).kind ≡ false
  use_q = (orderly.named k q lt reuse).1

  early_q : is_late (op_at ops q).position ≡ false
  early_q = (orderly.named k q lt reuse).2

  counts_k : Counts ops k
  counts_k = (lt, inl def)

  counts_q : Counts ops q
  counts_q = ((orderly.named k q lt reuse).0, inr (orderly.named k q lt reuse).3)

  apart : q ≡ k → ⊥
  apart e = let x : is_def (op_at ops q).kind ≡ true = ap (λ z. is_def (op_at ops z).kind) e ∙ def in let y = use_q in cc

  not_done : L.done k ≡ false
  not_done = fresh_turn laying late k list u t L lt inst_regs

  phase : (j : ℕ) → L.done j ≡ true → is_def (op_at ops j).kind ≡ false → is_late (op_at ops j).position ≡ true
  phase = phase_turn laying late k list u t L lt inst_regs comes_late

  named_waits : L.done q ≡ false
  named_waits = ⊎_elim (λ (a : L.done q ≡ true). let x = phase q a use_q in let y = early_q in absurd cc) (λ (a : L.done q ≡ false). a) (cases_Bool (L.done q))

  -- the reuse claimed its register before only if the named use is fixed
  claimed_fixed : L.claimed k ≡ true → (r : Register) × (L.here k ≡ InRegister r) × ((op_at ops q).constraint ≡ FixedReg r)
  claimed_fixed ck =
      let w = L.waiting k ck not_done in (
        w.0,
        w.1,
        elim w.2 [
          | of_fixed f ↦ (let x : Reuse q ≡ FixedReg w.0 = sym reuse ∙ f in absurd cc)
          | of_reuse m a b ↦ (let x : Reuse m ≡ Reuse q = sym a ∙ reuse in let same : m ≡ q = cc in ap (λ z. (op_at ops z).constraint) (sym same) ∙ b)
          | of_named d a b h f g ↦ (let x = def in absurd cc)
        ],
      )

  due : Due L.here L.claimed k (reuse_requirement_of (op_at ops q).constraint)
  due = ⊎_elim
      (λ (ck : L.claimed k ≡ true). let w = claimed_fixed ck in owed w.0 ck w.1 (ap reuse_requirement_of w.2))
      (λ (f : L.claimed k ≡ false). fresh f (λ r w. let x = (L.fixed_reuse k q r counts_k reuse (reuse_requires_fixed_reg (op_at ops q).constraint r w)).0 in cc))
      (cases_Bool (L.claimed k))

  -- under Reg neither operand claimed a register before
  module _ (any : (op_at ops q).constraint ≡ Reg) where
    free_reuse : L.claimed k ≡ false
    free_reuse = ⊎_elim
        (λ (ck : L.claimed k ≡ true). let w = claimed_fixed ck in let x : Reg ≡ FixedReg w.0 = sym any ∙ w.2 in absurd cc)
        (λ (f : L.claimed k ≡ false). f)
        (cases_Bool (L.claimed k))

    free_named : L.claimed q ≡ false
    free_named = ⊎_elim
        (λ (cq : L.claimed q ≡ true). let w = L.waiting q cq named_waits in elim w.2 [
          | of_fixed f ↦ (let x : Reg ≡ FixedReg w.0 = sym any ∙ f in absurd cc)
          | of_reuse m a b ↦ (let x = (orderly.late_reuse q m counts_q.0 a).0 in let y = use_q in absurd cc)
          | of_named d a b h f g ↦ (
              let same : d ≡ k = orderly.apart d k q b lt h reuse in
              let x = (L.listed_here k counts_k (λ e. f (ap (λ z. slice_index_or list z NoPlace) same ∙ e))).0 in let y = free_reuse in absurd cc)
        ])
        (λ (f : L.claimed q ≡ false). f)
        (cases_Bool (L.claimed q))

    -- no vreg has claimed the place that the definition's vreg keeps
    kept_only : (p : Place) → location_at t (op_at ops k).vreg.number ≡ Some p → (j : ℕ) → L.claimed j ≡ true → L.here j ≡ p → ⊥
    kept_only p at j c e =
        let num : ℕ = (op_at ops k).vreg.number in
        let s = L.ready.located.placed in
        let l : lived num ≡ true = ⊎_elim
        (λ (a : lived num ≡ true). a)
        (λ (a : lived num ≡ false). let w = s.newly num p a at in
        absurd (orderly.once.unread k w.0 counts_k (L.ready.within w.0 (s.claims w.0 w.1)) def w.2 (sym w.3)))
        (cases_Bool (lived num)) in
        ⊎_elim
        (λ (dj : is_def (op_at ops j).kind ≡ true).
        let same : j ≡ k = orderly.once.one j k (L.ready.within j c) counts_k dj def (sym (s.def_alone j num c dj l (at ∙ ap Some (sym e)))) in
        let x : L.claimed k ≡ true = ap L.claimed (sym same) ∙ c in let y = free_reuse in cc)
        (λ (uj : is_def (op_at ops j).kind ≡ false). orderly.once.unread k j counts_k (L.ready.within j c) def uj
        (s.use_alone j num c uj (at ∙ ap Some (sym e))))
        (cases_Bool (is_def (op_at ops j).kind))

    named_clear : (r : Register) (p : Place) (middle : StateValue) → p ≡ InRegister r → SelectsPlace u (reuse_request (op_at ops k) (op_at ops q)) p t middle →
        Clear (what_of ops) L.here L.claimed q (InRegister r)
    named_clear r p middle at (stays x su en) = λ j c e. absurd (kept_only (InRegister r) (ap opt (x ∙ at)) j c e)
    named_clear r p middle at (fixed g w e en) = let x : AnyReg ≡ InPReg g = ap reuse_requirement_of (sym any) ∙ w in absurd cc
    named_clear r p middle at (slot h g e ed machine order) = absurd (elim h [
      | inl b ↦ (let x : AnyReg ≡ AnyPlace = ap reuse_requirement_of (sym any) ∙ b in cc)
      | inr b ↦ (let x : AnyReg ≡ OnStack = ap reuse_requirement_of (sym any) ∙ b in cc)
    ])
    named_clear r p middle at (free g h away may fr first e en) =
        let x : InRegister g ≡ InRegister r = sym e ∙ at in let same : g ≡ r = cc in
        let free_at : FreeAt (held_early u) (held_late u) true true (InRegister r) = record {
          free_early = λ a. ap not (ap (has_register u.early) (sym same) ∙ fr.early a);
          free_late =
              λ a. ap not (ap (has_register u.late) (sym same) ∙ fr.late a);
        } in
        clear_free (what_of ops) L.here L.claimed (held_early u) (held_late u) q (InRegister r) L.ready.held
        (free_of (what_of ops q) (held_early u) (held_late u) true true (InRegister r) (covers_both (what_of ops q)) free_at)

  module _ (p : Place) (w : InstRegs) (m : StateValue) (s : AllocsDefOp (after i) (reuse_request (op_at ops k) (op_at ops q)) ends_block p u w t m) where
    abbrev o : OperandRequest
    o = reuse_request (op_at ops k) (op_at ops q)

    in_reg : (r : Register) × (p ≡ InRegister r)
    in_reg = selects_place_register u o p t s.gets.middle (elim (orderly.named_as k q lt reuse)
        [ inl a ↦ inl (ap reuse_requirement_of a) | inr a ↦ inr (a.0, ap reuse_requirement_of a.1) ]) s.gets.picks

    real : p ≢ NoPlace
    real e = let x : InRegister in_reg.0 ≡ NoPlace = sym in_reg.1 ∙ e in cc

    got : Got tail ops now ends_block k p s.inst_regs s.middle
    got = allocs_operand_step tail ops now ends_block (record {
      k = k;
      o = o;
      nv = refl;
      covers = covers_both (what_of ops k);
      counts = counts_k;
      once = orderly.once;
      new_one = not_done;
      phase = phase_turn laying late k list u t L lt inst_regs;
      t = u;
      u = s.inst_regs;
      p = p;
      old = t;
      s = L.ready;
    }) due s.gets

    abbrev out2 : ℕ → Bool
    out2 = and_one L.out (op_at ops k).vreg.number

    abbrev X2 : Place → ℕ → Bool
    X2 = made_one L.X (got.there k) (op_at ops k).vreg.number

    ready : Ready tail ops (progress lived clob got.there got.claimed2 (and_one L.done k) out2 X2) ends_block w m
    ready = def_step tail ops now ends_block k orderly.once p s.inst_regs s.middle got w m def s.defines

    abbrev list1 : List Place
    list1 = slice_set list k p

    abbrev list2 : List Place
    list2 = slice_set list1 q p

    long1 : length list1 ≡ length ops
    long1 = length-set list k p ∙ L.long

    long2 : length list2 ≡ length ops
    long2 = length-set list1 q p ∙ long1

    at_q : slice_index_or list2 q NoPlace ≡ p
    at_q = get_or-set_same list1 q p NoPlace (let x = counts_q.0 in omega (arith, x, long1))

    at_k : slice_index_or list2 k NoPlace ≡ p
    at_k = get_or-set_other list1 q k p NoPlace (λ e. apart (sym e)) ∙ get_or-set_same list k p NoPlace (omega (arith, lt, L.long))

    at_other : (j : ℕ) → (j ≡ k → ⊥) → (j ≡ q → ⊥) → slice_index_or list2 j NoPlace ≡ slice_index_or list j NoPlace
    at_other j nk nq = get_or-set_other list1 q j p NoPlace nq ∙ get_or-set_other list k j p NoPlace nk

    waits_other : (j : ℕ) (r : Register) → (j ≡ k → ⊥) → (j ≡ q → ⊥) → Waits ops list j r → Waits ops list2 j r
    waits_other j r nk nq x = waits_set ops list1 q j p r (let y = counts_q.0 in omega (arith, y, long1)) real nq
        (waits_set ops list k j p r (omega (arith, lt, L.long)) real nk x)

    -- the named use is fixed, and has claimed the register before
    laid_fixed : (r : Register) → (op_at ops q).constraint ≡ FixedReg r → Laid tail ops lived clob ends_block late (k + 1) list2 w m
    laid_fixed r fx =
        let fq = L.fixed q r counts_q fx in
        let fk = L.fixed_reuse k q r counts_k reuse fx in
        let same_q : p ≡ got.there q = sym got.at_k ∙ got.same k fk.0 ∙ fk.1 ∙ sym fq.1 ∙ sym (got.same q fq.0) in
        laid_next laying late k list u t L lt inst_regs got.there got.claimed2 out2 X2 list2 w m ready got.same
        got.keeps long2 (at_k ∙ sym got.at_k)
        (λ j c nk there. elim (cases_eq j q) [
          | inl e ↦ (got.keeps j (ap L.claimed e ∙ fq.0), ap (λ z. slice_index_or list2 z NoPlace) e ∙ at_q ∙ same_q ∙ ap got.there (sym e))
          | inr e ↦ (let f = L.listed_here j c (λ y. there (at_other j nk e ∙ y)) in (got.keeps j f.0, at_other j nk e ∙ f.1 ∙ sym (got.same j f.0)))
        ])
        (λ j d nk. elim (cases_eq j q) [
          | inl e ↦ (ap (λ z. slice_index_or list2 z NoPlace) e ∙ at_q ∙ same_q ∙ ap got.there (sym e))
          | inr e ↦ (at_other j nk e ∙ L.placed j d ∙ sym (got.same j (L.ready.located.placed.claims j d)))
        ])
        (λ j c d nk. elim (got.grows j c) [
          | inl e ↦ absurd (nk e)
          | inr cj ↦ elim (cases_eq j q) [
            | inl e ↦ (r, got.same j cj ∙ ap L.here e ∙ fq.1, of_fixed (ap (λ z. (op_at ops z).constraint) e ∙ fx))
            | inr e ↦ (let f = L.waiting j cj d in (f.0, got.same j cj ∙ f.1, waits_other j f.0 nk e f.2))
          ]
        ])
        got.claims (makes_one ops got.there L.out L.X k).keeps (λ e. (makes_one ops got.there L.out L.X k).is_made)

    -- the named use claims the register now
    module _ (any : (op_at ops q).constraint ≡ Reg) where
      free2 : got.claimed2 q ≡ false
      free2 = ⊎_elim
          (λ (a : got.claimed2 q ≡ true). elim (got.grows q a) [ inl e ↦ absurd (apart e) | inr e ↦ (let x = free_named any in absurd cc) ])
          (λ (a : got.claimed2 q ≡ false). a)
          (cases_Bool (got.claimed2 q))

      abbrev there3 : ℕ → Place
      there3 = set_at got.there q p

      abbrev claimed3 : ℕ → Bool
      claimed3 = and_one got.claimed2 q

      puts : Puts got.there there3 got.claimed2 claimed3 q (InRegister in_reg.0)
      puts = subst (λ z. Puts got.there there3 got.claimed2 claimed3 q z) in_reg.1 (puts_one got.there got.claimed2 q p free2)

      clear2 : Clear (what_of ops) got.there got.claimed2 q (InRegister in_reg.0)
      clear2 = clear_reuse (what_of ops) L.here got.there L.claimed got.claimed2 k q (InRegister in_reg.0) def comes_late use_q early_q
          (λ j c. elim (got.grows j c) [ inl e ↦ inl e | inr e ↦ inr (e, got.same j e) ]) (named_clear any in_reg.0 p s.gets.middle in_reg.1 s.gets.picks)

      phase2 : (j : ℕ) → and_one L.done k j ≡ true → is_def (op_at ops j).kind ≡ false → is_late (op_at ops j).position ≡ true
      phase2 j d use_j = elim (and_one_grows L.done k j d) [
        | inl e ↦ (let x : is_def (op_at ops j).kind ≡ true = ap (λ z. is_def (op_at ops z).kind) e ∙ def in absurd cc)
        | inr e ↦ phase j e use_j
      ]

      none_held : (x : ℕ) → place_in m x ≡ InRegister in_reg.0 → ⊥
      none_held x e = reuse_alone (what_of ops) (progress lived clob got.there got.claimed2 (and_one L.done k) out2 X2) (location_at m) (slots_at m) k x
          ready.located.placed
          (and_one_same L.done k k refl) def phase2
          (ap opt e ∙ ap Some (sym in_reg.1 ∙ sym got.at_k))

      held_w : held_early w (InRegister in_reg.0) ≡ true
      held_w = ap not ((frees_alloc_less (after i) (op_at ops k).vreg ends_block p s.inst_regs w s.middle m s.defines).early in_reg.0
          (claims_place_early (after i) o p in_reg.0 u s.inst_regs s.gets.middle s.gets.takes.claimed refl in_reg.1
          s.gets.takes.occupies))

      abbrev pos : Positions
      pos = record { early = true; late = false }

      grips : Grips w w (InRegister in_reg.0) pos
      grips = record {
        early = record { keeps = λ z e. e; holds = λ a. held_w };
        late = record { keeps = λ z e. e; holds = λ a. absurd cc };
        less = less_same w w refl;
        scratch = refl;
      }

      covers_q : Covers (what_of ops q) true false
      covers_q = record {
        early_use = λ e. refl;
        early_def = λ e. refl;
        late_def = λ e. let x = use_q in absurd cc;
        late_use = λ e. let x = early_q in
            absurd cc;
      }

      ready3 : Ready tail ops (progress lived clob there3 claimed3 (and_one L.done k) out2 X2) ends_block w m
      ready3 = ready_claim tail ops (progress lived clob got.there got.claimed2 (and_one L.done k) out2 X2) there3 claimed3 ends_block puts counts_q covers_q grips
          (λ z e. ready.small k z got.claims (got.at_k ∙ in_reg.1 ∙ e))
          (λ c b is e. (ready.scratch_reserve.idle c b is).unclaimed k got.claims (got.at_k ∙ in_reg.1 ∙ e))
          (claim_register (what_of ops) (progress lived clob got.there got.claimed2 (and_one L.done k) out2 X2) there3 claimed3 m q in_reg.0 puts clear2
          (λ x e. absurd (none_held x e))
          (λ h. elim h [ inl a ↦ (let x = use_q in absurd cc) | inr a ↦ (let x = early_q in absurd cc) ]) ready.located) ready

      not_q : (j : ℕ) → got.claimed2 j ≡ true → j ≡ q → ⊥
      not_q j c e = let x : got.claimed2 q ≡ true = ap got.claimed2 (sym e) ∙ c in let y = free2 in cc

      same3 : (j : ℕ) → L.claimed j ≡ true → there3 j ≡ L.here j
      same3 j c = set_at_other got.there q j p (not_q j (got.keeps j c)) ∙ got.same j c

      laid_any : Laid tail ops lived clob ends_block late (k + 1) list2 w m
      laid_any =
          laid_next laying late k list u t L lt inst_regs there3 claimed3 out2 X2 list2 w m ready3 same3
          (λ j c. and_one_keeps got.claimed2 q j (got.keeps j c)) long2 (at_k ∙ sym got.at_k ∙ sym (set_at_other got.there q k p (λ e. apart (sym e))))
          (λ j c nk there. elim (cases_eq j q) [
            | inl e ↦ (and_one_same got.claimed2 q j e, ap (λ z. slice_index_or list2 z NoPlace) e ∙ at_q ∙ sym (set_at_same got.there q j p e))
            | inr e ↦ (let f = L.listed_here j c (λ y. there (at_other j nk e ∙ y)) in
                (and_one_keeps got.claimed2 q j (got.keeps j f.0), at_other j nk e ∙ f.1 ∙ sym (same3 j f.0)))
          ])
          (λ j d nk. let cj = L.ready.located.placed.claims j d in at_other j nk (not_q j (got.keeps j cj)) ∙ L.placed j d ∙ sym (same3 j cj))
          (λ j c d nk. elim (cases_eq j q) [
            | inl e ↦ (
              in_reg.0,
              set_at_same got.there q j p e ∙ in_reg.1,
              of_named k (ap (λ z. is_def (op_at ops z).kind) e ∙ use_q) lt (reuse ∙ ap Reuse (sym e)) (λ y. real (sym at_k ∙ y))
                  (ap (λ z. slice_index_or list2 z NoPlace) e ∙ at_q ∙ in_reg.1),
            )
            | inr e ↦ elim (got.grows j (sym (and_one_other got.claimed2 q j e) ∙ c)) [
              | inl x ↦ absurd (nk x)
              | inr cj ↦ (let f = L.waiting j cj d in (f.0, same3 j cj ∙ f.1, waits_other j f.0 nk e f.2))
            ]
          ])
          (and_one_keeps got.claimed2 q k got.claims) (makes_one ops got.there L.out L.X k).keeps
          (λ e. ap (λ z. X2 z (op_at ops k).vreg.number) (set_at_other got.there q k p (λ h. apart (sym h))) ∙ (makes_one ops got.there L.out L.X k).is_made)

    -- allocating operand k as a reuse keeps the record of the pass: k is done, and the use that it names has claimed
    -- the same place
    pub laid_reuse : Laid tail ops lived clob ends_block late (k + 1) (slice_set (slice_set list k p) q p) w m
    laid_reuse = elim (orderly.named_as k q lt reuse) [ inl a ↦ laid_any a | inr a ↦ laid_fixed a.0 a.1 ]
