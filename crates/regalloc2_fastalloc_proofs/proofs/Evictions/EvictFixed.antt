-- Fixed registers are emptied and claimed, before operands are allocated.
-- The fold in `Changes` doesn't apply: what the listing carries, or the operands' record, differs from step to step.
use Rattle.std.proofs.Common.{ℕ, ◌≡◌, ◌≢◌, ◌+◌, ◌<◌, ◌≤◌, Bool, true, false, List, length, refl, arith, sym, ap, ◌∙◌, subst, inl, inr, ◌⊎◌, ⊎_elim}
use Rattle.std.specs.Prelude.{None, Some, not, ◌&&◌, ◌||◌, slice_index_or}
use Rattle.std.proofs.lemmas.Bool.{cases_Bool, cases_eq}
use Rattle.regalloc2_names.specs.declared.RegClass.{RegClass}
use Rattle.regalloc2_names.specs.declared.OperandConstraint.TheVariants.{FixedReg, Reuse}
use Rattle.regalloc2_names.specs.Register.{Register, VirtualRegister, class_code, has_register}
use Rattle.regalloc2_names.specs.Operand.{OperandValue, is_def, is_late, is_fixed_nonallocatable}
use Rattle.regalloc2_names.specs.Place.{Place, InRegister, after}
use Rattle.regalloc2_carry.specs.OperandsPlaced.{What, what_of, Share, read_first, written_after, Counts, Clear, Progress, Puts, at_begin}
use Rattle.regalloc2_fastalloc_state.specs.declared.inst_regs.InstRegs.{InstRegs}
use Rattle.regalloc2_fastalloc_state.specs.declared.positions.Positions.{Positions}
use Rattle.regalloc2_fastalloc_state.specs.Positions.{positions_of}
use Rattle.regalloc2_function.specs.FunctionValue.{op_at}
use Rattle.regalloc2_fastalloc_proofs.specs.InstSteps.{StateValue, SameMachine, AllocsScratchReg, dedicated_scratch, had, found, AddsMove, direct, through}
use Rattle.regalloc2_fastalloc_proofs.specs.InstSteps.{EvictsPReg, empty, cleared, EvictsOtherVRegs, own, others, NeedsFixedReg, own as of_its_own}
use Rattle.regalloc2_fastalloc_proofs.specs.InstSteps.{named as of_named, EvictsFixed, none_cleared, not_fixed, of_fixed, of_reuse}
use Rattle.regalloc2_fastalloc_proofs.proofs.Safety.StepsKeepState.{place_in}
use Rattle.regalloc2_fastalloc_proofs.proofs.Operands.RecordOverState.{location_at, Located}
use Rattle.regalloc2_fastalloc_proofs.proofs.Evictions.EvictVReg.{Kept, kept_all, kept_used}
use Rattle.regalloc2_fastalloc_proofs.proofs.Moves.ScratchRegTaken.{IsScratch, of_machine, taken, Fit, Less, less_same, less_trans, set_found}
use Rattle.regalloc2_fastalloc_proofs.proofs.Evictions.EvictPReg.{kept_trans}
use Rattle.regalloc2_fastalloc_proofs.proofs.Operands.ClaimAndUse.{covers_at, claim_register}
use Rattle.regalloc2_fastalloc_proofs.proofs.Operands.RecordOfInst.{Orderly, Ready, ready_used}
use Rattle.regalloc2_fastalloc_proofs.proofs.Evictions.EvictKeepsRecord.{ready_evicts_preg, ready_evicts_other_vregs}
use Rattle.regalloc2_fastalloc_proofs.proofs.Operands.ClaimKeepsRecord.{Grips, ready_claim}
use Rattle.regalloc2_fastalloc_proofs.proofs.Operands.BlockTail.{BlockTail}
use Rattle.regalloc2_fastalloc_proofs.proofs.Safety.OperandAssumptions.{defines_or_reads}
use Rattle.regalloc2_fastalloc_proofs.proofs.Operands.AllocsSoFar.{reads_allocated}
use Rattle.regalloc2_fastalloc_proofs.proofs.Operands.AllocOperand.{set_at, and_one, puts_one}

-- operands that share no position may have one place
share_apart : (a b : ℕ) (d l e k : Bool) → (((not d || not l) && (not e || not k)) || ((d || l) && (e || k))) ≡ false →
    Share (record { number = a; is_def = d; is_late = l }) (record { number = b; is_def = e; is_late = k })
share_apart a b true true false false h = written_after refl refl refl refl
share_apart a b false false true true h = read_first refl refl refl refl
share_apart a b true true true k h = absurd cc
share_apart a b true true false true h = absurd cc
share_apart a b true false true true h = absurd cc
share_apart a b true false true false h = absurd cc
share_apart a b true false false k h = absurd cc
share_apart a b false true true true h = absurd cc
share_apart a b false true true false h = absurd cc
share_apart a b false true false k h = absurd cc
share_apart a b false false true false h = absurd cc
share_apart a b false false false k h = absurd cc

-- an operand that claims its register before it is placed claims it at its own positions
abbrev positions_by : Bool → Bool → Positions
positions_by a b = record { early = a; late = b }

late_positions : (d l : Bool) → d ≡ true → l ≡ true → positions_by false true ≡ positions_by (not d || not l) (d || l)
late_positions true true h g = refl
late_positions true false h g = absurd cc
late_positions false l h g = absurd cc

-- a register is reserved for an operand at the positions at which the operand holds it
pub claims_at : (ops : List OperandValue) (j : ℕ) (r : Register) (p : Positions) → Orderly ops → j < length ops → NeedsFixedReg ops j r p →
    p ≡ positions_of (op_at ops j)
claims_at ops j r p o lt (of_its_own able fixed e) = e
claims_at ops j r p o lt (of_named m reuse within fixed e) = let x = o.late_reuse j m lt reuse in e
    ∙ late_positions (is_def (op_at ops j).kind) (is_late (op_at ops j).position) x.0 x.1

-- scratch registers that are taken were available in b
abbrev pub WereFree : InstRegs → InstRegs → Type 0
WereFree b u = (c : RegClass) (q : Register) → slice_index_or u.scratch (class_code c) None ≡ Some q → (has_register b.early q ≡ true)
    × (has_register b.late q ≡ true)

was_free : (a b : Bool) → (a ≡ false → b ≡ false) → b ≡ true → a ≡ true
was_free true b f h = refl
was_free false b f h = let x = f refl in absurd cc

free_same : (b t u : InstRegs) → u ≡ t → WereFree b t → WereFree b u
free_same b t u e f c q h = f c q (ap (λ (y : InstRegs). slice_index_or y.scratch (class_code c) None) (sym e) ∙ h)

allocs_scratch_reg_free : (b : InstRegs) (point : ℕ) (class : RegClass) (t u : InstRegs) (by : Register) (old new : StateValue) →
    AllocsScratchReg point class t u by old new → Less b t → WereFree b t → WereFree b u
allocs_scratch_reg_free b point class t u by old new (dedicated_scratch o eu en) less f = free_same b t u eu f
allocs_scratch_reg_free b point class t u by old new (had none o eu en) less f = free_same b t u eu f
allocs_scratch_reg_free b point class t u by old new (found none unset may early late less_e less_l set evicts) less f = λ c q h.
    elim (set_found t.scratch (class_code class) (class_code c) by q (ap (λ l. slice_index_or l (class_code c) None) (sym set) ∙ h)) [
      | inl e ↦ (
        was_free (has_register b.early q) (has_register t.early q) (less.early q) (ap (has_register t.early) e ∙ early),
        was_free (has_register b.late q) (has_register t.late q) (less.late q) (ap (has_register t.late) e ∙ late),
      )
      | inr e ↦ f c q e
    ]

adds_move_free : (b : InstRegs) (point : ℕ) (class : RegClass) (from to : Place) (t u : InstRegs) (old new : StateValue) →
    AddsMove point class from to t u old new → Less b t → WereFree b t → WereFree b u
adds_move_free b point class from to t u old new (direct flat eu en) less f = free_same b t u eu f
adds_move_free b point class from to t u old new (through by m stack s en) less f = allocs_scratch_reg_free b point class t u by old m s less f

-- if each scratch register taken so far was available in b, so was one that this eviction takes
pub evicts_preg_free : (b : InstRegs) (point : ℕ) (r : Register) (t u : InstRegs) (old new : StateValue) → EvictsPReg point r t u old new → Less b t →
    WereFree b t
    → WereFree b u
evicts_preg_free b point r t u old new (empty none eu en) less f = free_same b t u eu f
evicts_preg_free b point r t u old new (cleared v s m lt held gives sets_alloc edits machine order c) less f =
    adds_move_free b point v.class s (InRegister r) t u m new c less f

-- the scratch register of an eviction that spares one vreg was available in b
pub evicts_other_vregs_free : (b : InstRegs) (point : ℕ) (r : Register) (v : VirtualRegister) (t u : InstRegs) (old new : StateValue) →
    EvictsOtherVRegs point r v t u old new → Less b t → WereFree b t → WereFree b u
evicts_other_vregs_free b point r v t u old new (own w there same eu en) less f = free_same b t u eu f
evicts_other_vregs_free b point r v t u old new (others other c) less f = evicts_preg_free b point r t u old new c less f

-- The registers that operands claim before they are placed, removed from the available registers b.
pub record Reserved (ops : List OperandValue) (b : InstRegs) (t : StateValue) : Type 0 where
  pub known : (k : ℕ) (r : Register) (p : Positions) → k < length ops → NeedsFixedReg ops k r p → (has_register t.allocatable r ≡ true)
      ⊎ (has_register t.fixed_stack r ≡ true)
  pub small : (k : ℕ) (r : Register) (p : Positions) → k < length ops → NeedsFixedReg ops k r p → r.number < 64
  pub early : (k : ℕ) (r : Register) (p : Positions) → k < length ops → NeedsFixedReg ops k r p → p.early ≡ true → has_register b.early r ≡ false
  pub late : (k : ℕ) (r : Register) (p : Positions) → k < length ops → NeedsFixedReg ops k r p → p.late ≡ true → has_register b.late r ≡ false
  pub apart : (j k : ℕ) (r : Register) (p q : Positions) → j < length ops → k < length ops → NeedsFixedReg ops j r p → NeedsFixedReg ops k r q →
      ((p.early && q.early) || (p.late && q.late)) ≡ true → j ≡ k

-- an operand that claims a register before it is placed
pub record AllocsAnyReg (ops : List OperandValue) (j : ℕ) (r : Register) : Type 0 where
  pub within : j < length ops
  pub at : Positions
  pub claims : NeedsFixedReg ops j r at

-- two operands that take one register may share it
takes_share : (ops : List OperandValue) (b : InstRegs) (t : StateValue) (j k : ℕ) (r : Register) → Orderly ops → Reserved ops b t → AllocsAnyReg ops j r →
    AllocsAnyReg ops k r → (j ≡ k) ⊎ Share (what_of ops j) (what_of ops k)
takes_share ops b t j k r o s x y =
    let p : Positions = positions_of (op_at ops j) in
    let q : Positions = positions_of (op_at ops k) in
    let a : NeedsFixedReg ops j r p = subst (NeedsFixedReg ops j r) (claims_at ops j r x.at o x.within x.claims) x.claims in
    let c : NeedsFixedReg ops k r q = subst (NeedsFixedReg ops k r) (claims_at ops k r y.at o y.within y.claims) y.claims in
    ⊎_elim
    (λ (h : ((p.early && q.early) || (p.late && q.late)) ≡ true). inl (s.apart j k r p q x.within y.within a c h))
    (λ (h : ((p.early && q.early) || (p.late && q.late)) ≡ false). inr (share_apart (op_at ops j).vreg.number (op_at ops k).vreg.number
    (is_def (op_at ops j).kind) (is_late (op_at ops j).position) (is_def (op_at ops k).kind) (is_late (op_at ops k).position) h))
    (cases_Bool ((p.early && q.early) || (p.late && q.late)))

-- the register is held at the operand's positions, early or late
takes_held : (ops : List OperandValue) (b u : InstRegs) (t : StateValue) (k : ℕ) (r : Register) → Orderly ops → Reserved ops b t → Less b u →
    AllocsAnyReg ops k r → Grips u u (InRegister r) (positions_of (op_at ops k))
takes_held ops b u t k r o s less x =
    let c : NeedsFixedReg ops k r (positions_of (op_at ops k)) = subst (NeedsFixedReg ops k r) (claims_at ops k r x.at o x.within x.claims) x.claims in
    record {
      early = record { keeps = λ q h. h; holds = λ a. ap not (less.early r (s.early k r (positions_of (op_at ops k)) x.within c a)) };
      late = record { keeps = λ q h. h; holds = λ a. ap not (less.late r (s.late k r (positions_of (op_at ops k)) x.within c a)) };
      less = less_same u u refl;
      scratch = refl;
    }

some_position : (d l : Bool) → ((not d || not l) ≡ true) ⊎ ((d || l) ≡ true)
some_position true l = inr refl
some_position false l = inl refl

-- the register is no scratch register
takes_away : (ops : List OperandValue) (b u : InstRegs) (old t : StateValue) (k : ℕ) (r : Register) → Orderly ops → Reserved ops b old → SameMachine old t →
    Fit t → WereFree b u → AllocsAnyReg ops k r → (c : RegClass) (q : Register) → IsScratch c u t q → InRegister r ≢ InRegister q
takes_away ops b u old t k r o s m f free x c q (of_machine e) h =
    let same : r ≡ q = cc in
    let apart = f.own_apart c q e in
    ⊎_elim
    (λ (a : has_register old.allocatable r ≡ true). let y : has_register t.allocatable q ≡ true = ap (λ l. has_register l q) m.allocatable
    ∙ ap (has_register old.allocatable) (sym same) ∙ a in let z = apart.0 in cc)
    (λ (a : has_register old.fixed_stack r ≡ true). let y : has_register t.fixed_stack q ≡ true = ap (λ l. has_register l q) m.fixed_stack
    ∙ ap (has_register old.fixed_stack) (sym same) ∙ a in let z = apart.1 in cc)
    (s.known k r x.at x.within x.claims)
takes_away ops b u old t k r o s m f free x c q (taken e) h =
    let same : r ≡ q = cc in
    let c2 : NeedsFixedReg ops k r (positions_of (op_at ops k)) = subst (NeedsFixedReg ops k r) (claims_at ops k r x.at o x.within x.claims) x.claims in
    let there = free c q e in
    ⊎_elim
    (λ (a : (positions_of (op_at ops k)).early ≡ true). let y : has_register b.early q ≡ false = ap (has_register b.early) (sym same)
    ∙ s.early k r (positions_of (op_at ops k)) x.within c2 a in let z = there.0 in cc)
    (λ (a : (positions_of (op_at ops k)).late ≡ true). let y : has_register b.late q ≡ false = ap (has_register b.late) (sym same)
    ∙ s.late k r (positions_of (op_at ops k)) x.within c2 a in let z = there.1 in cc)
    (some_position (is_def (op_at ops k).kind) (is_late (op_at ops k).position))

-- operands have claimed their places, and none is placed yet
abbrev pub begun : (ℕ → Place) → (ℕ → Bool) → (ℕ → Bool) → Progress
begun here claimed lived = record (at_begin here lived) { claimed = claimed }

-- the live vregs, while no operand is allocated: the vregs that have a location
pub all_lived : (what : ℕ → What) (here : ℕ → Place) (claimed lived : ℕ → Bool) (t : StateValue) →
    Located what (begun here claimed lived) t → (x : ℕ) (p : Place) → location_at t x ≡ Some p → lived x ≡ true
all_lived what here claimed lived t st x p e = ⊎_elim
    (λ (l : lived x ≡ true). l)
    (λ (l : lived x ≡ false). let w = st.placed.newly x p l e in let y : false ≡ true = w.1 in absurd cc)
    (cases_Bool (lived x))

-- an operand that isn't fixed to a nonallocatable register defines or reads a vreg
pub counts_by : (ops : List OperandValue) (k : ℕ) → k < length ops → is_fixed_nonallocatable (op_at ops k) ≡ false → Counts ops k
counts_by ops k lt able = (lt, defines_or_reads (op_at ops k) able)

counts_able : (ops : List OperandValue) (k : ℕ) → Orderly ops → Counts ops k → is_fixed_nonallocatable (op_at ops k) ≡ false
counts_able ops k o c = elim c.1 [
  | inl d ↦ o.allocated k c.0 d
  | inr u ↦ reads_allocated (op_at ops k) u
]

module _ (tail : BlockTail) where
  open tail use {Known, insts, placesf, i, n, E}

  -- no operand is allocated
  abbrev pub Start : List OperandValue → (ℕ → Place) → (ℕ → Bool) → (ℕ → Bool) → Bool → InstRegs → StateValue → Type 0
  Start ops here claimed lived ends_block u t = Ready tail ops (begun here claimed lived) ends_block u t

  -- The fixed registers of the first k operands are emptied and claimed; b has the available registers from which all
  -- are removed.
  pub record FixedUpTo (ops : List OperandValue) (lived : ℕ → Bool) (ends_block : Bool) (b : InstRegs) (old : StateValue) (k : ℕ) (u : InstRegs)
      (t : StateValue) : Type 0 where
    pub here : ℕ → Place
    pub claimed : ℕ → Bool
    pub ready : Start ops here claimed lived ends_block u t
    pub kept : Kept old t
    pub less : Less b u
    pub free : WereFree b u
    pub took : (j : ℕ) → claimed j ≡ true → (j < k) × ((r : Register) × (here j ≡ InRegister r) × AllocsAnyReg ops j r)
    pub fixed : (j : ℕ) (r : Register) → j < k → Counts ops j → (op_at ops j).constraint ≡ FixedReg r → (claimed j ≡ true) × (here j ≡ InRegister r)
    pub fixed_reuse : (j m : ℕ) (r : Register) → j < k → Counts ops j → (op_at ops j).constraint ≡ Reuse m → (op_at ops m).constraint ≡ FixedReg r →
        (claimed j ≡ true) × (here j ≡ InRegister r)

  -- an operand is passed that claims nothing
  pass_one : (ops : List OperandValue) (lived : ℕ → Bool) (ends_block : Bool) (b : InstRegs) (old : StateValue) (k : ℕ) (u w : InstRegs) (m t : StateValue) →
      (x : FixedUpTo ops lived ends_block b old k u m) →
      Start ops x.here x.claimed lived ends_block w t → Kept m t → Less u w → WereFree b w →
      ((r : Register) → Counts ops k → (op_at ops k).constraint ≡ FixedReg r → ⊥) →
      ((j : ℕ) (r : Register) → Counts ops k → (op_at ops k).constraint ≡ Reuse j → (op_at ops j).constraint ≡ FixedReg r → ⊥) →
      FixedUpTo ops lived ends_block b old (k + 1) w t
  pass_one ops lived ends_block b old k u w m t x ready kept less free unfixed unnamed = record {
    here = x.here;
    claimed = x.claimed;
    ready = ready;
    kept = kept_trans old m t x.kept kept;
    less = less_trans b u w x.less less;
    free = free;
    took = λ j c. let y = x.took j c in let lt : j < k = y.0 in (omega arith, y.1);
    fixed = λ j r lt c e. elim (cases_eq j k) [
      | inl same ↦ absurd (unfixed r (subst (Counts ops) same c) (ap (λ y. (op_at ops y).constraint) (sym same) ∙ e))
      | inr other ↦ x.fixed j r (omega arith) c e
    ];
    fixed_reuse = λ j q r lt c e f. elim (cases_eq j k) [
      | inl same ↦ absurd (unnamed q r (subst (Counts ops) same c) (ap (λ y. (op_at ops y).constraint) (sym same) ∙ e) f)
      | inr other ↦ x.fixed_reuse j q r (omega arith) c e f
    ];
  }

  -- an operand claims the register that was emptied for it
  claim_one : (ops : List OperandValue) (lived : ℕ → Bool) (ends_block : Bool) (b : InstRegs) (old : StateValue) (k : ℕ) (r : Register) (u w : InstRegs)
      (m t : StateValue) → Orderly ops → Reserved ops b old → AllocsAnyReg ops k r → Counts ops k → (x : FixedUpTo ops lived ends_block b old k u m) →
      Start ops x.here x.claimed lived ends_block w t → Kept m t → Less u w → WereFree b w → ((v : ℕ) → place_in t v ≡ InRegister r → v ≡ (op_at ops k).vreg.number) →
      ((q : Register) → (op_at ops k).constraint ≡ FixedReg q → r ≡ q) →
      ((j : ℕ) (q : Register) → (op_at ops k).constraint ≡ Reuse j → (op_at ops j).constraint ≡ FixedReg q → r ≡ q) →
      FixedUpTo ops lived ends_block b old (k + 1) w t
  claim_one ops lived ends_block b old k r u w m t o s takes counts x ready kept less free only_vreg is_fixed is_named =
      let there : ℕ → Place = set_at x.here k (InRegister r) in
      let claimed2 : ℕ → Bool = and_one x.claimed k in
      let fresh : x.claimed k ≡ false = ⊎_elim (λ (c : x.claimed k ≡ true). let y = x.took k c in let lt : k < k = y.0 in absurd (omega arith))
      (λ (c : x.claimed k ≡ false). c) (cases_Bool (x.claimed k)) in
      let puts : Puts x.here there x.claimed claimed2 k (InRegister r) = puts_one x.here x.claimed k (InRegister r) fresh in
      let all : Kept old t = kept_trans old m t x.kept kept in
      let far : Less b w = less_trans b u w x.less less in
      let clear : Clear (what_of ops) x.here x.claimed k (InRegister r) = λ j c e.
      let y = (x.took j c).1 in
      let at : InRegister y.0 ≡ InRegister r = sym y.1 ∙ e in let same : y.0 ≡ r = cc in
      takes_share ops b old j k r o s (subst (AllocsAnyReg ops j) same y.2) takes in
      let st : Located (what_of ops) (begun there claimed2 lived) t =
      claim_register (what_of ops) (begun x.here x.claimed lived) there claimed2 t k r puts clear only_vreg
      (λ h. refl) ready.located in
      record {
        here = there;
        claimed = claimed2;
        ready = ready_claim tail ops (begun x.here x.claimed lived) there claimed2 ends_block puts counts
            (covers_at (op_at ops k).vreg.number (is_def (op_at ops k).kind) (is_late (op_at ops k).position))
            (takes_held ops b w old k r o s far takes)
            (λ q e. let same : r ≡ q = cc in subst (λ (y : Register). y.number < 64) same (s.small k r takes.at takes.within takes.claims))
            (λ c q is. takes_away ops b w old t k r o s all.machine ready.fit free takes c q is)
            st ready;
        kept = all;
        less = far;
        free = free;
        took = λ j c. elim (cases_eq j k) [
          | inl same ↦ (omega arith, (r, ap there same ∙ puts.at_k, subst (λ y. AllocsAnyReg ops y r) (sym same) takes))
          | inr other ↦ elim (puts.grows j c) [
            | inl same ↦ absurd (other same)
            | inr d ↦ (let y = x.took j d in let lt : j < k = y.0 in (omega arith, (y.1.0, puts.at_j j other ∙ y.1.1, y.1.2)))
          ]
        ];
        fixed = λ j q lt c e. elim (cases_eq j k) [
          | inl same ↦ (
            ap claimed2 same ∙ puts.claims,
            ap there same ∙ puts.at_k
                ∙ ap InRegister (is_fixed q (ap (λ y. (op_at ops y).constraint) (sym same) ∙ e)),
          )
          | inr other ↦ (let y = x.fixed j q (omega arith) c e in (puts.keeps j y.0, puts.at_j j other ∙ y.1))
        ];
        fixed_reuse = λ j p q lt c e f. elim (cases_eq j k) [
          | inl same ↦ (
            ap claimed2 same ∙ puts.claims,
            ap there same ∙ puts.at_k
                ∙ ap InRegister (is_named p q (ap (λ y. (op_at ops y).constraint) (sym same) ∙ e) f),
          )
          | inr other ↦ (let y = x.fixed_reuse j p q (omega arith) c e f in (puts.keeps j y.0, puts.at_j j other ∙ y.1))
        ];
      }

  -- once the fixed registers of the first k operands are evicted, these operands claim them, and the record of the
  -- operands is kept
  pub evicts_fixed_done : (ops : List OperandValue) (lived : ℕ → Bool) (ends_block : Bool) (b : InstRegs) (old : StateValue) → Orderly ops → Reserved ops b old →
      FixedUpTo ops lived ends_block b old 0 b old →
      (k : ℕ) (u : InstRegs) (t : StateValue) → EvictsFixed (after i) ops b old k u t → k ≤ length ops → FixedUpTo ops lived ends_block b old k u t
  evicts_fixed_done ops lived ends_block b old o s begin k u t (none_cleared order used) = λ le. record {
    here = begin.here;
    claimed = begin.claimed;
    ready = ready_used tail ops (begun begin.here begin.claimed lived) ends_block b old order begin.ready;
    kept = kept_used old old order begin.kept;
    less = begin.less;
    free = begin.free;
    took = begin.took;
    fixed = begin.fixed;
    fixed_reuse = begin.fixed_reuse;
  }
  evicts_fixed_done ops lived ends_block b old o s begin k u t (not_fixed j w m prev unfixed unnamed) = λ le.
      let x : FixedUpTo ops lived ends_block b old j u t = evicts_fixed_done ops lived ends_block b old o s begin j u t prev (omega arith) in
      pass_one ops lived ends_block b old j u u t t x x.ready (kept_all t) (less_same u u refl) x.free (λ r c e. unfixed r e)
      (λ q r c e f. unnamed q r e (o.named j q (omega arith) e).0 f)
  evicts_fixed_done ops lived ends_block b old o s begin k u t (of_fixed j r w y m p prev is clears) = λ le.
      let x : FixedUpTo ops lived ends_block b old j w m = evicts_fixed_done ops lived ends_block b old o s begin j w m prev (omega arith) in
      let lt : j < length ops = omega arith in
      let c = ready_evicts_other_vregs tail ops (begun x.here x.claimed lived) ends_block r
      (op_at ops j).vreg w u m t clears
      (λ v at ne. (all_lived (what_of ops) x.here x.claimed lived m x.ready.located v (InRegister r) at, λ z. refl))
      x.ready in
      let free : WereFree b u = evicts_other_vregs_free b (after i) r (op_at ops j).vreg w u m t clears x.less x.free in
      ⊎_elim
      (λ (able : is_fixed_nonallocatable (op_at ops j) ≡ true).
      pass_one ops lived ends_block b old j w u m t x c.0.ready c.0.kept c.0.less free
      (λ q count e. let z : is_fixed_nonallocatable (op_at ops j) ≡ false = counts_able ops j o count in cc)
      (λ q z count e f. let y : FixedReg r ≡ Reuse q = sym is ∙ e in cc))
      (λ (able : is_fixed_nonallocatable (op_at ops j) ≡ false).
      claim_one ops lived ends_block b old j r w u m t o s (record { within = lt; at = positions_of (op_at ops j); claims = of_its_own able is refl })
      (counts_by ops j lt able) x c.0.ready c.0.kept c.0.less free c.1
      (λ q e. let y : FixedReg r ≡ FixedReg q = sym is ∙ e in cc)
      (λ q z e f. let y : FixedReg r ≡ Reuse q = sym is ∙ e in absurd cc))
      (cases_Bool (is_fixed_nonallocatable (op_at ops j)))
  evicts_fixed_done ops lived ends_block b old o s begin k u t (of_reuse j d r w y m p prev is within is_fixed clears) = λ le.
      let x : FixedUpTo ops lived ends_block b old j w m = evicts_fixed_done ops lived ends_block b old o s begin j w m prev (omega arith) in
      let lt : j < length ops = omega arith in
      let c = ready_evicts_preg tail ops (begun x.here x.claimed lived) ends_block r w u m t clears
      (λ v at. (all_lived (what_of ops) x.here x.claimed lived m x.ready.located v (InRegister r) at, λ z. refl))
      x.ready in
      let free : WereFree b u = evicts_preg_free b (after i) r w u m t clears x.less x.free in
      let def = o.late_reuse j d lt is in
      claim_one ops lived ends_block b old j r w u m t o s
      (record { within = lt; at = record { early = false; late = true }; claims = of_named d is within is_fixed refl }) (lt, inl def.0) x c.0.ready c.0.kept
      c.0.less free
      (λ v at. absurd (c.1 v at))
      (λ q e. let z : Reuse d ≡ FixedReg q = sym is ∙ e in absurd cc)
      (λ q z e f. let h : Reuse d ≡ Reuse q = sym is ∙ e in let same : d ≡ q = cc in let g : FixedReg r ≡ FixedReg z = sym is_fixed
      ∙ ap (λ a. (op_at ops a).constraint) same ∙ f in cc)
