-- An operand gets its place, and enough registers are left for the remaining operands.
use Rattle.regalloc2_parts.proofs.RegisterLaws.{class_codes}
use Rattle.std.proofs.Common.{ℕ, ◌≡◌, ◌+◌, ◌<◌, ◌≤◌, Bool, true, false, refl, sym, ap, ◌∙◌, subst, arith, inl, inr}
use Rattle.std.specs.Prelude.{not, ◌&&◌, Some}
use Rattle.std.proofs.lemmas.Bool.{cases_Bool, cases_eq, and_parts}
use Rattle.regalloc2_names.specs.declared.RegClass.{RegClass}
use Rattle.regalloc2_names.specs.declared.sets.PRegSet.{PRegSet}
use Rattle.regalloc2_names.specs.Register.{Register, VirtualRegister, class_code, has_register}
use Rattle.regalloc2_names.specs.Place.{Place, NoPlace, InRegister, is_place}
use Rattle.regalloc2_semantics.proofs.Cells.{is_place-same}
use Rattle.regalloc2_semantics.specs.Fits.{register_number}
use Rattle.regalloc2_function.specs.Machine.{MachineValue}
use Rattle.regalloc2_fastalloc_state.specs.declared.inst_regs.InstRegs.{InstRegs}
use Rattle.regalloc2_fastalloc_state.specs.declared.request.Requirement.TheVariants.{AnyReg}
use Rattle.regalloc2_fastalloc_state.specs.declared.request.OperandRequest.{OperandRequest}
use Rattle.regalloc2_fastalloc_state.specs.StateParts.{VRegAllocsValue, SetsAlloc, slot_name, vreg_of_preg, alloc_of}
use Rattle.regalloc2_fastalloc_state.specs.InstRegs.{is_free, free_count}
use Rattle.regalloc2_fastalloc_proofs.specs.InstSteps.{StateValue, SameMachine, is_stack_in, is_another, scratch_reserve_left, direct, through, EvictsPReg}
use Rattle.regalloc2_fastalloc_proofs.specs.InstSteps.{empty, AllocsOperand, FreesAlloc, AddsMoveIf, cleared, EvictsOtherVRegs, own, others, SelectsPlace}
use Rattle.regalloc2_fastalloc_proofs.specs.InstSteps.{ClaimsPlace, in_slot, in_register, no_register, AllocOperand, in_pick, in_clear, FreeAlloc}
use Rattle.regalloc2_fastalloc_proofs.specs.InstSteps.{to_expected, to_slot}
use Rattle.regalloc2_fastalloc_proofs.specs.InstSteps.SelectsPlace.{stays, fixed, slot, free}
use Rattle.regalloc2_fastalloc_proofs.specs.Safety.{MayBeLocatedAt, IsEndOfMove, AreSafeRegs}
use Rattle.regalloc2_fastalloc_proofs.proofs.Safety.StepsKeepSafe.{AreKindsApart, own_slot_is_end, may_be_located_is_end, may_be_located_if_place, adds_move_if_kept, rules_of}
use Rattle.regalloc2_fastalloc_proofs.proofs.Slots.SlotsGrow.{SlotsStay, same_stay, end_grows, changes_stay}
use Rattle.regalloc2_fastalloc_proofs.proofs.Moves.ScratchRegTaken.{Fit}
use Rattle.regalloc2_fastalloc_proofs.proofs.Safety.OperandKeepsSafe.{leaves_safe, another_is_place}
use Rattle.regalloc2_fastalloc_proofs.specs.Pressure.EnoughRegs.{HasEnoughRegs, AllWrite, AllMay, AreSafe}
use Rattle.regalloc2_fastalloc_proofs.proofs.Safety.StepsKeepMachine.{KeepsMachine, keeps_of, keeps_same, machine_stays}
use Rattle.regalloc2_fastalloc_proofs.proofs.Changes.InstChanges.{selects_place_changes, evicts_other_vregs_changes, adds_move_if_changes}
use Rattle.regalloc2_fastalloc_proofs.proofs.Pressure.TablesHaveAllRegs.{HasAll, all_kept}
use Rattle.regalloc2_fastalloc_proofs.proofs.Pressure.OneRegTaken.{free_but_one, free_kept, holds_loses, ample_same, ample_kept, ample_less, ample_some}
use Rattle.regalloc2_fastalloc_proofs.proofs.Pressure.StepsLeaveEnough.{AreHeld, ample_evict_other_vregs, ample_add_move_if, demand_of}
use Rattle.regalloc2_fastalloc_proofs.proofs.Changes.OneChange.{uses_rest}

-- a register that isn't a fixed stack slot is emptied without a scratch register
plain_evicts_preg : (point : ℕ) (r : Register) (t u : InstRegs) (old new : StateValue) → EvictsPReg point r t u old new → has_register old.fixed_stack r ≡ false
    → u ≡ t
plain_evicts_preg point r t u old new (empty none eu en) plain = eu
plain_evicts_preg point r t u old new (cleared v s m lt held gives sets_alloc edits machine order (direct one eu en)) plain = eu
plain_evicts_preg point r t u old new (cleared v s m lt held gives sets_alloc edits machine order (through by n two scratches en)) plain =
    let yes : has_register m.fixed_stack r ≡ true = (and_parts (is_stack_in m s) (has_register m.fixed_stack r) two).1 in
    let nay : has_register m.fixed_stack r ≡ false = ap (λ (x : PRegSet). has_register x r) machine.fixed_stack ∙ plain in absurd cc

plain_evicts_other_vregs : (point : ℕ) (r : Register) (v : VirtualRegister) (t u : InstRegs) (old new : StateValue) → EvictsOtherVRegs point r v t u old new →
    has_register old.fixed_stack r ≡ false → u ≡ t
plain_evicts_other_vregs point r v t u old new (own w held same eu en) plain = eu
plain_evicts_other_vregs point r v t u old new (others not_own clears) plain = plain_evicts_preg point r t u old new clears plain

selects_place_places : (t : InstRegs) (o : OperandRequest) (p : Place) (old new : StateValue) → SelectsPlace t o p old new → new.places ≡ old.places
selects_place_places t o p old new (stays there suits en) = ap (λ (x : StateValue). x.places) en
selects_place_places t o p old new (fixed r wants is en) = ap (λ (x : StateValue). x.places) en
selects_place_places t o p old new (slot wants gives places edits machine order) = places
selects_place_places t o p old new (free r wants away may is_free first is en) = ap (λ (x : StateValue). x.places) en

-- if locations stay, each register still has only a known vreg of its class, or none
pub held_same : (Known : VirtualRegister → Type 0) (old new : StateValue) → new.places ≡ old.places → AreHeld Known old → AreHeld Known new
held_same Known old new e h = subst (λ (x : VRegAllocsValue). (r : Register) (v : VirtualRegister) → r.number < 64 → vreg_of_preg x r ≡ Some v → Known v
    × (r.class ≡ v.class)) (sym e) h

-- An operand's register is paid for: if its place is a register that is free at both positions, enough are left without
-- it.
abbrev pub IsPaid : (RegClass → ℕ) → OperandRequest → Place → InstRegs → StateValue → Type 0
IsPaid needed o p t old = (r : Register) → p ≡ InRegister r → is_free old.allocatable t r ≡ true →
    needed r.class + scratch_reserve_left old.fixed_stack old.dedicated_scratch t r.class + 1 ≤ free_count old.allocatable t r.class

-- The named classes; a machine, whose kinds of registers are disjoint; the known vregs, of such classes; and the point
-- of the moves.
pub record Naming : Type 1 where
  pub Named : RegClass → Type 0
  pub env : MachineValue
  pub apart : AreKindsApart env
  pub Known : VirtualRegister → Type 0
  pub named : (v : VirtualRegister) → Known v → Named v.class
  pub point : ℕ

-- the record, built from its parts
abbrev pub naming_of : (Named : RegClass → Type 0) (env : MachineValue) → AreKindsApart env → (Known : VirtualRegister → Type 0) →
    ((v : VirtualRegister) → Known v → Named v.class) → ℕ → Naming
naming_of Named env apart Known named point = record { Named = Named; env = env; apart = apart; Known = Known; named = named; point = point }

module _ (naming : Naming) where
  open naming use {Named, env, apart, Known, named, point}

  -- an operand gets a place; needed: before, and less: after it
  pub ample_allocs_operand : (needed less : RegClass → ℕ) {o : OperandRequest} {p : Place} {t u : InstRegs} {old new : StateValue} →
      AllocsOperand point o p t u old new →
      ((c : RegClass) → less c ≤ needed c) → IsPaid less o p t old
      → AreHeld Known old → Fit old → AreSafeRegs env t → HasEnoughRegs Named needed t old → HasEnoughRegs Named less u new
  ample_allocs_operand needed less {o} {p} {t} {u} {old} {new} g fewer paid held_by fit ht h =
      subst (HasEnoughRegs Named less u) (sym (uses_rest g.takes.uses)) (by_case g.takes.claimed g.takes.occupies)
    where
      same : KeepsMachine old g.middle
      same = machine_stays (selects_place_changes tt g.picks)

      held_there : AreHeld Known g.middle
      held_there = held_same Known old g.middle (selects_place_places t o p old g.middle g.picks) held_by

      at_middle : HasEnoughRegs Named needed t g.middle
      at_middle = ample_kept Named needed t old g.middle same h

      by_case : (claimed : StateValue) → ClaimsPlace point o p t u g.middle claimed → HasEnoughRegs Named less u claimed
      by_case claimed (in_slot k is sets en) = ample_less Named needed less u claimed fewer
          (subst (HasEnoughRegs Named needed u) (sym en) (ample_same Named needed t u g.middle g.middle sets.early sets.late sets.scratch
          (keeps_same g.middle g.middle refl) at_middle))
      by_case claimed (in_register r m is clears holds) = after_it
        where
          then : KeepsMachine g.middle claimed
          then = machine_stays (evicts_other_vregs_changes (λ q s. tt) clears)

          emptied : HasEnoughRegs Named needed m claimed
          emptied = ample_evict_other_vregs (demand_of Named needed point env apart Known named) clears held_there ht at_middle

          sets : claimed.allocatable ≡ old.allocatable
          sets = then.allocatable ∙ same.allocatable

          stacks : claimed.fixed_stack ≡ old.fixed_stack
          stacks = then.fixed_stack ∙ same.fixed_stack

          own_ones : claimed.dedicated_scratch ≡ old.dedicated_scratch
          own_ones = then.dedicated_scratch ∙ same.dedicated_scratch

          -- the register was free before, as it is here
          same_turn : has_register old.allocatable r ≡ true → m ≡ t
          same_turn ok = plain_evicts_other_vregs point r o.vreg t m g.middle claimed clears
              (ap (λ (x : PRegSet). has_register x r) same.fixed_stack ∙ fit.stack_apart r ok)

          paid_here : is_free claimed.allocatable m r ≡ true →
              less r.class + scratch_reserve_left claimed.fixed_stack claimed.dedicated_scratch m r.class + 1 ≤ free_count
              claimed.allocatable m r.class
          paid_here f =
              let f2 : is_free old.allocatable m r ≡ true = ap (λ (x : PRegSet). is_free x m r) (sym sets) ∙ f in
              let e : m ≡ t = same_turn ((and_parts (has_register old.allocatable r) _ f2).0) in
              let q = paid r is (ap (λ (y : InstRegs). is_free old.allocatable y r) (sym e) ∙ f2) in
              subst (λ (y : InstRegs). less r.class + scratch_reserve_left claimed.fixed_stack claimed.dedicated_scratch y r.class + 1 ≤ free_count
              claimed.allocatable y
              r.class) (sym e) (rw (sets, stacks, own_ones) q)

          spare_same : (c : RegClass) → scratch_reserve_left claimed.fixed_stack claimed.dedicated_scratch u c ≡ scratch_reserve_left claimed.fixed_stack
              claimed.dedicated_scratch m c
          spare_same c = rw holds.scratch refl

          after_it : HasEnoughRegs Named less u claimed
          after_it c n = elim (cases_Bool (is_free claimed.allocatable m r)) [
            | inl f ↦ elim (cases_eq (class_code c) (class_code r.class)) [
              | inl e ↦ (let same_class : c ≡ r.class = class_codes c r.class e in
                  subst (λ (k : RegClass). less k + scratch_reserve_left claimed.fixed_stack claimed.dedicated_scratch u k ≤ free_count claimed.allocatable u k)
                  (sym same_class)
                  (let a = paid_here f in let b = free_but_one claimed.allocatable r m u r.class (holds_loses r o.positions m u holds) in
                  let s = spare_same r.class in omega (arith, a, b, s)))
              | inr ne ↦ (let a = emptied c n in let w = fewer c in let s = spare_same c in
                  let b = free_kept claimed.allocatable r m u c (holds_loses r o.positions m u holds) (λ k. absurd (ne (ap class_code (sym k)))) in
                  omega (arith, a, b, s, w))
            ]
            | inr f ↦ (let a = emptied c n in let w = fewer c in let s = spare_same c in
                let b = free_kept claimed.allocatable r m u c (holds_loses r o.positions m u holds) (λ k. f) in omega (arith, a, b, s, w))
          ]

  -- an operand finds a place if enough registers are left
  pub never_alloc_operand : (needed : RegClass → ℕ) (o : OperandRequest) (t : InstRegs) (old : StateValue) → AllocOperand point o t old no_register →
      Known o.vreg →
      (o.requirement ≡ AnyReg → 0 < needed o.vreg.class) → AreHeld Known old → AreSafeRegs env t → HasEnoughRegs Named needed t old → ⊥
  never_alloc_operand needed o t old (in_pick none) known some held_by ht h =
      let c : RegClass = o.vreg.class in
      let one = some none.0 in
      let r = ample_some Named needed t old c (named o.vreg known) (omega (arith, one)) h in
      let q : Register = register_number c r.0 in
      none.1 q (record { of_class = refl; small = r.1; allocatable = (and_parts (has_register old.allocatable q) _ r.2).0 })
      ((and_parts (has_register old.allocatable q) _ r.2).1)
  never_alloc_operand needed o t old (in_clear p m picks stops) known some held_by ht h =
      ample_evict_other_vregs (demand_of Named needed point env apart Known named) stops.2
      (held_same Known old m (selects_place_places t o p old m picks) held_by) ht
      (ample_kept Named needed t old m (machine_stays (selects_place_changes tt picks)) h)

another_differs : (p q : Place) → is_another p q ≡ true → q ≡ p → ⊥
another_differs p q h e =
    let same : is_place p q ≡ true = subst (λ (x : Place). is_place p x ≡ true) (sym e) (is_place-same p) in
    let other : not (is_place p q) ≡ true = (and_parts (not (is_place p NoPlace)) (not (is_place p q)) h).1 in
    let f : not true ≡ true = ap not (sym same) ∙ other in cc

-- in a safe state a vreg that is in a register is known, and of the class of the register
pub safe_held : (env : MachineValue) (Known : VirtualRegister → Type 0) (t : StateValue) → AreSafe env Known t → AreHeld Known t
safe_held env Known t h r v lt held = (let x = h.holders r v lt held in (x.0, x.2))

module _ (naming : Naming) (same : (v w : VirtualRegister) → naming.Known v → naming.Known w → v.number ≡ w.number → v ≡ w) where
  open naming use {Named, env, apart, Known, named, point}

  -- the moves of a definition
  module _ (needed : RegClass → ℕ) (v : VirtualRegister) (ends_block : Bool) (p : Place) (t : InstRegs) (old : StateValue) (known : Known v)
      (place : MayBeLocatedAt env old.slots v p) (h : AreSafe env Known old) (m : HasAll env old)
      (ht : AreSafeRegs env t) (a : HasEnoughRegs Named needed t old) where
    -- a vreg that is defined leaves the tables
    module _ (left : StateValue) (slots : left.slots ≡ old.slots) (machine : SameMachine old left) where
      left_all : HasAll env left
      left_all = all_kept env old left (keeps_of old left machine) m

      left_ample : HasEnoughRegs Named needed t left
      left_ample = ample_kept Named needed t old left (keeps_of old left machine) a

      stay : SlotsStay old.slots left.slots
      stay = same_stay old.slots left.slots slots

      from : IsEndOfMove env left.slots v p
      from = end_grows env old.slots left.slots v p stay (may_be_located_is_end env old.slots v p place)

      first_ends : (not ends_block && is_another (alloc_of old.places v.number) p) ≡ true → IsEndOfMove env left.slots v p
          × IsEndOfMove env left.slots v (alloc_of old.places v.number) × (p ≡ alloc_of old.places v.number → ⊥)
      first_ends made =
          let w : Place = alloc_of old.places v.number in
          let other : is_another w p ≡ true = (and_parts (not ends_block) (is_another w p) made).1 in (
            from,
            end_grows env old.slots left.slots v w stay (may_be_located_is_end env old.slots v w
                (may_be_located_if_place env old.slots v w (another_is_place w p other) (h.places v known))),
            another_differs w p other,
          )

      second_ends : (middle : StateValue) → SlotsStay left.slots middle.slots →
          (not ends_block && (is_another (slot_name old.slots v.number) p && not (is_place (slot_name old.slots v.number) (alloc_of old.places v.number)))) ≡ true
          → IsEndOfMove env middle.slots v p × IsEndOfMove env middle.slots v (slot_name old.slots v.number) × (p ≡ slot_name old.slots v.number → ⊥)
      second_ends middle more made =
          let s : Place = slot_name old.slots v.number in
          let other : is_another s p ≡ true = (and_parts (is_another s p) _ ((and_parts (not ends_block) _ made).1)).0 in (
            end_grows env left.slots middle.slots v p more from,
            end_grows env old.slots middle.slots v s (λ n k is. more n k (stay n k is))
                (own_slot_is_end env old.slots v s refl (another_is_place s p other) (h.slots v.number)),
            another_differs s p other,
          )

      -- once the first move is added
      record Sent (inst_regs : InstRegs) (middle : StateValue) : Type 0 where
        stay_too : SlotsStay left.slots middle.slots
        all : HasAll env middle
        ample : HasEnoughRegs Named needed inst_regs middle

      first_sent : (inst_regs : InstRegs) (middle : StateValue) → AddsMoveIf point v.class (not ends_block && is_another (alloc_of old.places v.number) p) p
          (alloc_of old.places v.number) t inst_regs left middle → Sent inst_regs middle
      first_sent inst_regs middle sends = (let w : Place = alloc_of old.places v.number in
          record {
            stay_too = changes_stay (adds_move_if_changes (λ q r. tt) (λ q. tt) sends);
            all = all_kept env left middle (machine_stays (adds_move_if_changes (λ q r. tt) (λ q. tt) sends)) left_all;
            ample = ample_add_move_if (demand_of Named needed point env apart Known named) v sends known first_ends left_all ht left_ample;
          })

    first_safe : (left : StateValue) → SetsAlloc old.places left.places v NoPlace → (slots : left.slots ≡ old.slots) → left.edits ≡ old.edits →
        (machine : SameMachine old left) → (inst_regs : InstRegs) (middle : StateValue) → AddsMoveIf point v.class
        (not ends_block && is_another (alloc_of old.places v.number) p) p (alloc_of old.places v.number) t inst_regs left middle → AreSafeRegs env inst_regs
    first_safe left sets_alloc slots edits machine inst_regs middle sends =
        (adds_move_if_kept (rules_of env apart Known AllWrite AllMay point tt) v _ p (alloc_of old.places v.number) t inst_regs left middle sends known
        (λ made. let e = first_ends left slots machine made in (e.0, e.1, λ n x. tt))
        (leaves_safe (rules_of env apart Known AllWrite AllMay point tt) same v old left sets_alloc slots edits machine h) ht).inst_regs

    -- if registers are enough, the moves of a definition lack none
    pub never_free_alloc : FreeAlloc point v ends_block p t old no_register → ⊥
    never_free_alloc (to_expected left sets_alloc slots edits machine stops) =
        ample_add_move_if (demand_of Named needed point env apart Known named) v stops known (first_ends left slots machine) (left_all left slots machine) ht
        (left_ample left slots machine)
    never_free_alloc (to_slot left middle inst_regs sets_alloc slots edits machine sends stops) =
        let s = first_sent left slots machine inst_regs middle sends in
        ample_add_move_if (demand_of Named needed point env apart Known named) v stops known (second_ends left slots machine middle s.stay_too) s.all
        (first_safe left sets_alloc slots edits machine inst_regs middle sends) s.ample

    -- freeing a definition and adding its moves leaves enough registers
    pub ample_frees_alloc : {u : InstRegs} {new : StateValue} → FreesAlloc point v ends_block p t u old new → HasEnoughRegs Named needed u new
    ample_frees_alloc {u} {new} d =
        let s = first_sent d.left d.slots d.machine d.inst_regs d.middle d.expected in
        ample_add_move_if (demand_of Named needed point env apart Known named) v d.stored known (second_ends d.left d.slots d.machine d.middle s.stay_too) s.all
        (first_safe d.left d.sets_alloc d.slots d.edits d.machine d.inst_regs d.middle d.expected) s.ample
