-- The steps of the walk leave enough registers, and don't fail if there are enough.
use Rattle.regalloc2_parts.proofs.RegisterLaws.{class_codes}
use Rattle.std.proofs.Common.{ℕ, ◌≡◌, ◌<◌, Bool, true, false, List, length, refl, sym, ap, ◌∙◌, subst, arith, inl, inr, get_or-set_same, set}
use Rattle.std.specs.Prelude.{not, ◌&&◌, Option, None, Some, slice_index_or, slice_set}
use Rattle.std.proofs.lemmas.Bool.{cases_eq, and_parts}
use Rattle.std.proofs.lemmas.List.{get_or-set_other}
use Rattle.regalloc2_names.specs.declared.RegClass.{RegClass}
use Rattle.regalloc2_names.specs.Register.{Register, VirtualRegister, class_code, is_register, has_register}
use Rattle.regalloc2_names.specs.Place.{Place, NoPlace, InRegister, InSlot}
use Rattle.regalloc2_names.proofs.Bits.{class_code-lt}
use Rattle.regalloc2_semantics.specs.Fits.{register_number}
use Rattle.regalloc2_function.specs.Machine.{MachineValue}
use Rattle.regalloc2_fastalloc_state.specs.declared.inst_regs.InstRegs.{InstRegs}
use Rattle.regalloc2_fastalloc_state.specs.StateParts.{vreg_of_preg}
use Rattle.regalloc2_fastalloc_proofs.specs.InstSteps.{StateValue, SameMachine, is_stack_in, scratch_reserve_left, AllocsScratchReg, Outcome}
use Rattle.regalloc2_fastalloc_proofs.specs.InstSteps.{dedicated_scratch, had, found, LacksScratchReg, AddMove, direct, through, no_scratch, EvictPReg, empty}
use Rattle.regalloc2_fastalloc_proofs.specs.InstSteps.{cleared, EvictOtherVRegs, own, others, AddMoveIf, sent, unsent}
use Rattle.regalloc2_fastalloc_proofs.specs.Safety.{IsEndOfMove, AreSafeRegs}
use Rattle.regalloc2_fastalloc_proofs.proofs.Safety.StepsKeepSafe.{AreKindsApart}
use Rattle.regalloc2_fastalloc_proofs.specs.Pressure.EnoughRegs.{HasEnoughRegs, LeavesEnoughRegs, TakesAtMost}
use Rattle.regalloc2_fastalloc_proofs.proofs.Safety.StepsKeepMachine.{keeps_of, machine_stays}
use Rattle.regalloc2_fastalloc_proofs.proofs.Changes.InstChanges.{evicts_vreg_changes}
use Rattle.regalloc2_fastalloc_proofs.proofs.Pressure.TablesHaveAllRegs.{HasAll}
use Rattle.regalloc2_fastalloc_proofs.proofs.Pressure.OneRegTaken.{free_but_one, free_kept, ample_kept, ample_none, ample_some, HasStack, has_stack}
use Rattle.regalloc2_fastalloc_proofs.proofs.Pressure.OneRegTaken.{scratch_reserve_is_one, spare_is_none}

-- a vreg in a register is known, and of its class
abbrev pub AreHeld : (VirtualRegister → Type 0) → StateValue → Type 0
AreHeld Known t = (r : Register) (v : VirtualRegister) → r.number < 64 → vreg_of_preg t.places r ≡ Some v → Known v × (r.class ≡ v.class)

module _ (Named : RegClass → Type 0) (needed : RegClass → ℕ) (point : ℕ) where
  -- a register taken for stack-to-stack moves is the reserved scratch register
  pub ample_allocs_scratch_reg : (class : RegClass) (t u : InstRegs) (by : Register) (old new : StateValue) → AllocsScratchReg point class t u by old new →
      length t.scratch ≡ 3 → HasStack old.fixed_stack class → HasEnoughRegs Named needed t old → HasEnoughRegs Named needed u new
  ample_allocs_scratch_reg class t u by old new (dedicated_scratch o eu en) three stack h = ample_none Named needed t u old new eu en h
  ample_allocs_scratch_reg class t u by old new (had none o eu en) three stack h = ample_none Named needed t u old new eu en h
  ample_allocs_scratch_reg class t u by old new (found none unset may early late less_e less_l set evicts) three stack h =
      ample_kept Named needed u old new (machine_stays (evicts_vreg_changes (λ q s. tt) evicts)) after_it
    where
      loses : TakesAtMost by t u
      loses = record {
        early = λ q e. less_e q ∙ not_this (is_register by q) (has_register t.early q) e;
        late = λ q e. less_l q ∙ not_this (is_register by q) (has_register t.late q) e;
      }
        where
          not_this : (b c : Bool) → b ≡ false → (not b && c) ≡ c
          not_this b c e = rw e refl

      after_it : HasEnoughRegs Named needed u old
      after_it c named = elim (cases_eq (class_code c) (class_code class)) [
        | inl e ↦ (
            let same : c ≡ class = class_codes c class e in
            let here : slice_index_or u.scratch (class_code c) None ≡ Some by = ap (λ (l : List (Option Register)). slice_index_or l (class_code c) None) set
            ∙ ap (slice_index_or (slice_set t.scratch (class_code class) (Some by)) (class_code c)) refl
            ∙ ap (λ (k : ℕ). slice_index_or (slice_set t.scratch (class_code class) (Some by)) k None) e
            ∙ get_or-set_same t.scratch (class_code class) (Some by) None (let s = class_code-lt class in omega (arith, s, three)) in
            let one : scratch_reserve_left old.fixed_stack old.dedicated_scratch t c ≡ 1 = scratch_reserve_is_one old.fixed_stack old.dedicated_scratch t c
            (subst (HasStack old.fixed_stack) (sym same) stack)
            (ap (λ (k : ℕ). slice_index_or old.dedicated_scratch k None) e ∙ none) (ap (λ (k : ℕ). slice_index_or t.scratch k None) e ∙ unset) in
            let none_left : scratch_reserve_left old.fixed_stack old.dedicated_scratch u c ≡ 0 = spare_is_none old.fixed_stack old.dedicated_scratch u c by here
            in
            let lost = free_but_one old.allocatable by t u c loses in
            let was = h c named in
            omega (arith, one, none_left, lost, was))
        | inr ne ↦ (
            let same : slice_index_or u.scratch (class_code c) None ≡ slice_index_or t.scratch (class_code c)
            None = ap (λ (l : List (Option Register)). slice_index_or l (class_code c) None) set
            ∙ get_or-set_other t.scratch (class_code class) (class_code c) (Some by) None ne in
            let scratch_reserve : scratch_reserve_left old.fixed_stack old.dedicated_scratch u c ≡ scratch_reserve_left old.fixed_stack old.dedicated_scratch t
            c = rw same refl in
            let kept = free_kept old.allocatable by t u c loses (λ k. absurd (ne (ap class_code (sym k ∙ may.of_class)))) in
            let was = h c named in
            omega (arith, scratch_reserve, kept, was))
      ]

  -- a class with a stack place has a scratch register
  some_scratch : (class : RegClass) (t : InstRegs) (old : StateValue) → LacksScratchReg class t old → Named class → HasStack old.fixed_stack class →
      HasEnoughRegs Named needed t old → ⊥
  some_scratch class t old s named stack h =
      let one : scratch_reserve_left old.fixed_stack old.dedicated_scratch t class ≡ 1 = scratch_reserve_is_one old.fixed_stack old.dedicated_scratch t class stack
      s.none_kept s.none_taken in
      let r = ample_some Named needed t old class named (omega (arith, one)) h in
      let a = (and_parts (has_register old.allocatable (register_number class r.0)) _ r.2).0 in
      let b = (and_parts (has_register old.allocatable (register_number class r.0)) _ r.2).1 in
      s.none_free (register_number class r.0) (record { of_class = refl; small = r.1; allocatable = a }) b

  -- a move; if both ends are on the stack, its class has fixed stack slots
  pub ample_add_move : {class : RegClass} {from to : Place} {t : InstRegs} {old : StateValue} {o : Outcome InstRegs} → AddMove point class from to t old o
      → Named class → length t.scratch ≡ 3
      → ((is_stack_in old from && is_stack_in old to) ≡ true → HasStack old.fixed_stack class) → HasEnoughRegs Named needed t old →
      LeavesEnoughRegs Named needed o
  ample_add_move {t} {old} (direct {u} {new} one eu en) named three stack h =
      subst (λ (y : InstRegs). HasEnoughRegs Named needed y new) (sym eu) (subst (HasEnoughRegs Named needed t) (sym en) h)
  ample_add_move {class} {t} {old} (through {u} {new} by m two scratches en) named three stack h =
      subst (HasEnoughRegs Named needed u) (sym en) (ample_allocs_scratch_reg class t u by old m scratches three (stack two) h)
  ample_add_move {class} {t} {old} (no_scratch two none) named three stack h = some_scratch class t old none named (stack two) h

-- The demand for registers: the named classes; how many registers of each are needed; the point of the moves; a
-- machine, whose kinds of registers are disjoint; and the known vregs, of named classes.
pub record Demand : Type 1 where
  pub Named : RegClass → Type 0
  pub needed : RegClass → ℕ
  pub point : ℕ
  pub env : MachineValue
  pub apart : AreKindsApart env
  pub Known : VirtualRegister → Type 0
  pub named : (v : VirtualRegister) → Known v → Named v.class

-- the record, built from its parts
abbrev pub demand_of : (Named : RegClass → Type 0) → (RegClass → ℕ) → ℕ → (env : MachineValue) → AreKindsApart env → (Known : VirtualRegister → Type 0) →
    ((v : VirtualRegister) → Known v → Named v.class) → Demand
demand_of Named needed point env apart Known named =
    record { Named = Named; needed = needed; point = point; env = env; apart = apart; Known = Known; named = named }

module _ (demand : Demand) where
  open demand use {Named, needed, point, env, apart, Known, named}

  -- a vreg's slot is no register: a move between it and a fixed stack slot is of a class with fixed stack slots
  slot_or_stack : (t : StateValue) (v : VirtualRegister) (from to : Place) → HasAll env t → IsEndOfMove env t.slots v from → IsEndOfMove env t.slots v to →
      (from ≡ to → ⊥)
      → (is_stack_in t from && is_stack_in t to) ≡ true → HasStack t.fixed_stack v.class
  slot_or_stack t v NoPlace to m f g differ two = absurd f
  slot_or_stack t v (InRegister r) to m f g differ two = at_register r ((and_parts (has_register t.fixed_stack r) (is_stack_in t to) two).0) f
    where
      at_register : (q : Register) → has_register t.fixed_stack q ≡ true → IsEndOfMove env t.slots v (InRegister q) → HasStack t.fixed_stack v.class
      at_register q stack (inl a) = subst (HasStack t.fixed_stack) a.1 (has_stack t.fixed_stack q (m.fit.small q (inr stack)) stack)
      at_register q stack (inr b) = absurd (apart.scratch v.class q b (m.machine.fixed_stack q stack))
  slot_or_stack t v (InSlot k) NoPlace m f g differ two = absurd g
  slot_or_stack t v (InSlot k) (InRegister r) m f g differ held = at_register r held g
    where
      at_register : (q : Register) → has_register t.fixed_stack q ≡ true → IsEndOfMove env t.slots v (InRegister q) → HasStack t.fixed_stack v.class
      at_register q stack (inl a) = subst (HasStack t.fixed_stack) a.1 (has_stack t.fixed_stack q (m.fit.small q (inr stack)) stack)
      at_register q stack (inr b) = absurd (apart.scratch v.class q b (m.machine.fixed_stack q stack))
  slot_or_stack t v (InSlot k) (InSlot n) m f g differ two = absurd (differ (sym f ∙ g))

  -- a move of a known vreg's value
  pub ample_add_move_between_ends : (v : VirtualRegister) {from to : Place} {t : InstRegs} {old : StateValue} {o : Outcome InstRegs} →
      AddMove point v.class from to t old o →
      Known v → HasAll env old → IsEndOfMove env old.slots v from → IsEndOfMove env old.slots v to → (from ≡ to → ⊥)
      → AreSafeRegs env t → HasEnoughRegs Named needed t old → LeavesEnoughRegs Named needed o
  ample_add_move_between_ends v {from} {to} {old} c known m f g differ ht h =
      ample_add_move Named needed point c (named v known) ht.three (slot_or_stack old v from to m f g differ) h

  -- a register or fixed stack slot is emptied
  pub ample_evict_preg : {r : Register} {t : InstRegs} {old : StateValue} {o : Outcome InstRegs} → EvictPReg point r t old o → AreHeld Known old →
      AreSafeRegs env t → HasEnoughRegs Named needed t old → LeavesEnoughRegs Named needed o
  ample_evict_preg {t} {old} (empty {u} {new} none eu en) held_by ht h = ample_none Named needed t u old new eu en h
  ample_evict_preg {r} {t} {old} (cleared v s m lt held gives sets_alloc edits machine order crosses) held_by ht h =
      let was = held_by r v lt held in
      ample_add_move Named needed point crosses (named v was.0) ht.three (at_stack r v m machine lt was.1 s)
      (ample_kept Named needed t old m (keeps_of old m machine) h)
    where
      at_stack : (q : Register) (w : VirtualRegister) (n : StateValue) → SameMachine old n → q.number < 64 → q.class ≡ w.class → (p : Place) →
          (is_stack_in n p && is_stack_in n (InRegister q)) ≡ true → HasStack n.fixed_stack w.class
      at_stack q w n machine lt same p both = subst (HasStack n.fixed_stack) same
          (has_stack n.fixed_stack q lt ((and_parts (is_stack_in n p) (has_register n.fixed_stack q) both).1))

  -- an eviction that spares one vreg
  pub ample_evict_other_vregs : {r : Register} {v : VirtualRegister} {t : InstRegs} {old : StateValue} {o : Outcome InstRegs} →
      EvictOtherVRegs point r v t old o →
      AreHeld Known old → AreSafeRegs env t → HasEnoughRegs Named needed t old → LeavesEnoughRegs Named needed o
  ample_evict_other_vregs {t} {old} (own {u} {new} w held same eu en) held_by ht h = ample_none Named needed t u old new eu en h
  ample_evict_other_vregs (others not_own clears) held_by ht h = ample_evict_preg clears held_by ht h

  -- a move, unless its target is none or its source
  pub ample_add_move_if : (v : VirtualRegister) {is_made : Bool} {from to : Place} {t : InstRegs} {old : StateValue} {o : Outcome InstRegs}
      → AddMoveIf point v.class is_made from to t old o → Known v
      → (is_made ≡ true → IsEndOfMove env old.slots v from × IsEndOfMove env old.slots v to × (from ≡ to → ⊥)) → HasAll env old → AreSafeRegs env t
      → HasEnoughRegs Named needed t old → LeavesEnoughRegs Named needed o
  ample_add_move_if v (sent made crosses) known ends m ht h = (let e = ends made in ample_add_move_between_ends v crosses known m e.0 e.1 e.2 ht h)
  ample_add_move_if v {t} {old} (unsent {u} {new} not_made eu en) known ends m ht h = ample_none Named needed t u old new eu en h
