-- Functions of one block with registers for all vregs: no instruction makes a move or a slot.
use Rattle.std.proofs.Common.{ℕ, ◌≡◌, ◌≢◌, ◌+◌, ◌<◌, ◌≤◌, inl, inr, Bool, true, false, List, [], ◌∷◌, length, refl, arith, sym, ap, ◌∙◌, subst}
use Rattle.std.specs.Prelude.{None, Contains, IsSome, slice_index_or, not, if◌then◌else◌}
use Rattle.std.specs.List.{IsDistinct}
use Rattle.std.proofs.lemmas.Bool.{and_parts, cases_Bool, cases_eq}
use Rattle.std.proofs.lemmas.List.Elements.{Contains-append_right}
use Rattle.regalloc2_names.specs.declared.RegClass.{RegClass}
use Rattle.regalloc2_names.specs.declared.OperandConstraint.{OperandConstraint}
use Rattle.regalloc2_names.specs.declared.OperandConstraint.TheVariants.{Reg, FixedReg, Reuse}
use Rattle.regalloc2_names.specs.declared.sets.PRegSet.{PRegSet}
use Rattle.regalloc2_names.specs.Register.{Register, VirtualRegister, has_register, registers_of}
use Rattle.regalloc2_names.specs.Listed.{listed_is}
use Rattle.regalloc2_names.specs.Place.{after, Place, NoPlace, InRegister, is_place}
use Rattle.regalloc2_names.specs.Operand.{OperandValue, fixed_register, is_def, is_late, is_reading}
use Rattle.regalloc2_names.specs.Same.{is_place-same}
use Rattle.regalloc2_function.specs.FunctionValue.{FunctionValue, InstValue, block_at, inst_at, op_at, last_of}
use Rattle.regalloc2_function.specs.Machine.{MachineValue}
use Rattle.regalloc2_semantics.specs.Runs.{arguments_at}
use Rattle.regalloc2_function.specs.WellFormed.{IsWellFormed}
use Rattle.regalloc2_semantics.specs.Sound.{HasEdge, target_at}
use Rattle.regalloc2_analysis.specs.BranchDefs.BranchDefs.{IsEdgeInto, fixed_definition}
use Rattle.regalloc2_carry.proofs.SingleDef.{IsDefOperand, MadeBefore, by_earlier, by_param, made_before, one_operand, reads_defined}
use Rattle.regalloc2_semantics.proofs.Soundness.{well_formed_are_sound}
use Rattle.regalloc2_analysis.proofs.BranchDefsLemmas.BlockEnds.{last_within}
use Rattle.regalloc2_fastalloc_state.specs.declared.inst_regs.InstRegs.{InstRegs}
use Rattle.regalloc2_fastalloc_state.specs.ScratchPool.{Moves}
use Rattle.regalloc2_fastalloc_state.specs.StateParts.{IsLruOf, SpillSlotsValue, slot_name, alloc_of}
use Rattle.regalloc2_fastalloc_state.specs.InstRegs.{is_free_throughout}
use Rattle.regalloc2_fastalloc_proofs.specs.InstSteps.{StateValue, AllocsInst, EvictsEach, EvictsFixed, RemovesClobbers, MovesUses, ReservesRegs, order_of}
use Rattle.regalloc2_fastalloc_proofs.specs.InstSteps.{none_cleared, not_fixed, of_fixed, of_reuse, none_left, one_more, none_moved, not_moved, one_moved}
use Rattle.regalloc2_fastalloc_proofs.specs.InstSteps.{IsFresh, PreparesRegs}
use Rattle.regalloc2_fastalloc_proofs.specs.BranchSteps.{RegsAvoidStack, ClassMove, GathersMoves, GathersEdgeMoves, no_edge, none_gathered, of_class}
use Rattle.regalloc2_fastalloc_proofs.specs.BranchSteps.{one_edge, one_gathered, own_argument}
use Rattle.regalloc2_fastalloc_proofs.specs.BlockStart.{ReloadsParams, none_begun, one_begun}
use Rattle.regalloc2_fastalloc_proofs.specs.StoreSteps.{IsStoredFor, branch_operands, given as given_param, its_own}
use Rattle.regalloc2_fastalloc_proofs.proofs.Unspilled.OperandsSpillFree.{operands_placed, unsent_same}
use Rattle.regalloc2_fastalloc_proofs.specs.Unspilled.SpillFree.{ArePlaced, ArePlain, FitInRegs, HasRegOperandsOnly, IsDefinedByOperand, IsSpillFree}
use Rattle.regalloc2_fastalloc_proofs.specs.Unspilled.SpillFree.{IsSpillFreeFrom, IsSpillFreeIn, LeavesSpillFree, is_same_number}
use Rattle.regalloc2_fastalloc_proofs.specs.Safety.{IsWhole}
use Rattle.regalloc2_fastalloc_proofs.proofs.Slots.StepsKeepSlots.{cases_none}

-- the registers that weren't used are available at another instruction
with_turn : (names : List VirtualRegister) (gone : ℕ → Bool) (t : StateValue) (u w : InstRegs) → IsSpillFree names gone t u →
    ((r : Register) → has_register t.allocatable r ≡ true → is_free_throughout u r ≡ true → is_free_throughout w r ≡ true) → IsSpillFree names gone t w
with_turn names gone t u w h kept = record {
  no_moves = h.no_moves;
  no_slots = h.no_slots;
  no_units = h.no_units;
  whole = h.whole;
  apart = h.apart;
  lrus = h.lrus;
  stand = h.stand;
  named = h.named;
  nowhere = h.nowhere;
  each = λ class. (let e = h.each class in record {
    used = e.used;
    unused = e.unused;
    met = e.met;
    ring = e.ring;
    few = e.few;
    distinct = e.distinct;
    of_class = e.of_class;
    known = e.known;
    empty = e.empty;
    free = λ r c. kept r (allocatable class e r c) (e.free r c);
  });
}
  where
    allocatable : (class : RegClass) (e : IsSpillFreeIn names gone class (order_of t class) t u) (r : Register) → Contains e.unused r →
        has_register t.allocatable r ≡ true
    allocatable class e r c = (h.lrus class).has r (subst (λ (l : List Register). Contains l r) (sym e.ring) (Contains-append_right e.used e.unused r c))

-- all are free before an instruction
fresh_free : (old : StateValue) (began : InstRegs) → IsFresh began old → (r : Register) → has_register old.allocatable r ≡ true →
    is_free_throughout began r ≡ true
fresh_free old began fresh r has = rw (fresh.early r, fresh.late r, has) refl

-- nothing is reserved where all operands are under `Reg`
pub reserved_none : (names : List VirtualRegister) (gone : ℕ → Bool) (operands : List OperandValue) (t : StateValue) (u w : InstRegs) →
    ((k : ℕ) → k < length operands → (op_at operands k).constraint ≡ Reg) → ReservesRegs operands u w t → IsSpillFree names gone t u
    → IsSpillFree names gone t w
reserved_none names gone operands t u w reg reserves h = with_turn names gone t u w h (λ r has free. elim (cases_Bool (is_free_throughout w r)) [
  | inl e ↦ e
  | inr e ↦ (let fixed = reserves.only r free e in absurd (let wrong : FixedReg r ≡ Reg = sym fixed.2 ∙ reg fixed.0 fixed.1 in cc))
])

-- no register is held for clobbers if there are none
pub spill_free_without_clobbers : (names : List VirtualRegister) (gone : ℕ → Bool) (clobbers : PRegSet) (t : StateValue) (u w : InstRegs) →
    ((r : Register) → has_register clobbers r ≡ false) → RemovesClobbers clobbers u w → IsSpillFree names gone t u → IsSpillFree names gone t w
spill_free_without_clobbers names gone clobbers t u w none holds h = with_turn names gone t u w h (λ r has free.
    (let parts = and_parts (has_register u.early r) (has_register u.late r) free in rw (holds.early r, holds.late r, none r, parts.0, parts.1) refl))

-- nothing is cleared
pub cleared_none : (point : ℕ) (operands : List OperandValue) (t : InstRegs) (old : StateValue) (n : ℕ) (u : InstRegs) (new : StateValue) →
    n ≤ length operands → ((k : ℕ) → k < length operands → (op_at operands k).constraint ≡ Reg) → EvictsFixed point operands t old n u new → (u ≡ t)
    × (new ≡ old)
cleared_none point operands t old n u new le reg (none_cleared order used) = (
  refl,
  ap (λ (l : List (List Register)). record old { lrus = l }) (used (λ k r lt e. (let wrong : FixedReg r ≡ Reg = sym e ∙ reg k lt in cc))),
)
cleared_none point operands t old n u new le reg (not_fixed k x m before a b) = cleared_none point operands t old k u new (omega (arith, le)) reg before
cleared_none point operands t old n u new le reg (of_fixed k r x y m o before is clears) =
    absurd (let wrong : FixedReg r ≡ Reg = sym is ∙ reg k (omega (arith, le)) in cc)
cleared_none point operands t old n u new le reg (of_reuse k j r x y m o before is less fixed clears) =
    absurd (let wrong : Reuse j ≡ Reg = sym is ∙ reg k (omega (arith, le)) in cc)

-- evicting the registers of an empty list changes nothing
pub cleared_all_none : (point : ℕ) (rs : List Register) (t : InstRegs) (old : StateValue) (u : InstRegs) (new : StateValue) →
    ((r : Register) → Contains rs r → ⊥) → EvictsEach point rs t old u new → (u ≡ t) × (new ≡ old)
cleared_all_none point rs t old u new none (none_left x m) = (refl, refl)
cleared_all_none point rs t old u new none (one_more r more x y z a m b first rest) = absurd (none r (0, omega arith, refl))

-- a use whose vreg is at its place isn't moved
pub moved_none : (point : ℕ) (operands : List OperandValue) (here : List Place) (t : InstRegs) (old : StateValue) (n : ℕ) (u : InstRegs) (new : StateValue)
    → ((k : ℕ) → k < n → is_reading (op_at operands k) ≡ true → alloc_of old.places (op_at operands k).vreg.number ≡ slice_index_or here k NoPlace) →
    MovesUses point operands here t old n u new → new ≡ old
moved_none point operands here t old n u new at none_moved = refl
moved_none point operands here t old n u new at (not_moved k x m before silent) =
    moved_none point operands here t old k u new (λ j less reading. at j (omega (arith, less)) reading) before
moved_none point operands here t old n u new at (one_moved k x y m o before reading sends) =
    let rest : m ≡ old = moved_none point operands here t old k x m (λ j less r. at j (omega (arith, less)) r) before in
    let q : Place = alloc_of m.places (op_at operands k).vreg.number in
    let same : q ≡ slice_index_or here k NoPlace = ap (λ (z : StateValue). alloc_of z.places (op_at operands k).vreg.number) rest
    ∙ at k (omega arith) reading in
    let still : not (is_place q (slice_index_or here k NoPlace)) ≡ false = rw (same, is_place-same (slice_index_or here k NoPlace)) refl in
    (unsent_same point (op_at operands k).vreg.class (not (is_place q (slice_index_or here k NoPlace))) q (slice_index_or here k NoPlace) x u m new still
    sends).1 ∙ rest

-- before operands are allocated nothing changes but the instruction's registers
ready : {names : List VirtualRegister} {gone : ℕ → Bool} {i : ℕ} {operands : List OperandValue} {clobbers : PRegSet} {old new : StateValue}
    {u began quiet : InstRegs} → ((k : ℕ) → k < length operands → (op_at operands k).constraint ≡ Reg)
    → ((r : Register) → has_register clobbers r ≡ false) → IsFresh began old → PreparesRegs i operands clobbers began quiet old new →
    IsSpillFree names gone old u
    → (new ≡ old) × IsSpillFree names gone new quiet
ready {names} {gone} {i} {operands} {clobbers} {old} {new} {u} {began} {quiet} reg none fresh p h =
    let f = cleared_none (after i) operands p.held old (length operands) p.cleared p.middle (omega arith) reg p.fixed in
    let c = cleared_all_none (after i) (registers_of clobbers) p.cleared p.middle quiet new
    (λ r c. (let wrong : true ≡ false = sym (listed_is clobbers r c).1 ∙ none r in cc)) p.emptied in
    let tables : new ≡ old = c.1 ∙ f.1 in
    let inst_regs : quiet ≡ p.held = c.0 ∙ f.0 in (
      tables,
      rw (tables, inst_regs) (spill_free_without_clobbers names gone clobbers old p.reserved p.held none p.holds
          (reserved_none names gone operands old began p.reserved reg p.reserves
          (with_turn names gone old u began h (λ r has free. fresh_free old began fresh r has)))),
    )

-- early operands may be placed after late ones
pub early_plain : (names : List VirtualRegister) (gone : ℕ → Bool) (operands : List OperandValue) (here half : List Place) (old t : StateValue) (u : InstRegs) →
    ((late : Bool) → ArePlain names gone operands late) → (h : ArePlaced names gone operands true (length operands) here half old t u) →
    ArePlain names h.gone_now operands false
early_plain names gone operands here half old t u plain h = record {
  under_reg = (plain false).under_reg;
  named = (plain false).named;
  there = λ k lt at. elim (cases_Bool (h.gone_now (op_at operands k).vreg.number)) [
    | inl e ↦ elim (h.only (op_at operands k).vreg.number e) [
      | inl g ↦ absurd (let wrong : true ≡ false = sym g ∙ (plain false).there k lt at in cc)
      | inr x ↦ (let same : x.0 ≡ k = (plain false).apart x.0 k x.1 lt x.3 x.4 in
          absurd (let wrong : true ≡ false = sym x.2 ∙ ap (λ (j : ℕ). is_late (op_at operands j).position) same ∙ at in cc))
    ]
    | inr e ↦ e
  ];
  apart = (plain false).apart;
}

-- an instruction is done
inst_done : {names : List VirtualRegister} {gone : ℕ → Bool} {point : ℕ} {operands : List OperandValue} {here half places : List Place}
    {t0 t1 t2 t3 : StateValue} {u1 u2 u3 : InstRegs} → ((late : Bool) → ArePlain names gone operands late)
    → (h : ArePlaced names gone operands true (length operands) here half t0 t1 u1) →
    ArePlaced names h.gone_now operands false (length operands) half places t1 t2 u2 → MovesUses point operands places u2 t2 (length operands) u3 t3 →
    LeavesSpillFree names gone operands t3
inst_done {names} {point} {operands} {places} {t2} {t3} {u2} {u3} plain h e moves = record {
  gone_now = e.gone_now;
  only = λ n g. elim (e.only n g) [
    | inl x ↦ elim (h.only n x) [ inl y ↦ inl y | inr y ↦ inr (y.0, y.1, y.3, y.4) ]
    | inr x ↦ inr (x.0, x.1, x.3, x.4)
  ];
  stays = λ n g. e.stays n (h.stays n g);
  goes = λ n x. elim (cases_Bool (is_late (op_at operands x.0).position)) [
    | inl late ↦ e.stays n (h.goes n (x.0, x.1, late, x.2, x.3))
    | inr early ↦ e.goes n (x.0, x.1, early, x.2, x.3)
  ];
  inst_regs = u2;
  spill_free = subst (λ (x : StateValue). IsSpillFree names e.gone_now x u2) (sym same) e.spill_free;
}
  where
    early_not_late : (k : ℕ) → k < length operands → is_late (op_at operands k).position ≡ true → (j : ℕ) × (j < length operands)
        × (is_late (op_at operands j).position ≡ false) × (is_def (op_at operands j).kind ≡ true)
        × ((op_at operands j).vreg.number ≡ (op_at operands k).vreg.number) → ⊥
    early_not_late k lt late x = (let same : x.0 ≡ k = (plain true).apart x.0 k x.1 lt x.3 x.4 in let wrong : true ≡ false = sym late
        ∙ ap (λ (j : ℕ). is_late (op_at operands j).position) (sym same) ∙ x.2 in cc)

    place_at : (k : ℕ) → k < length operands → is_reading (op_at operands k) ≡ true →
        alloc_of t2.places (op_at operands k).vreg.number ≡ slice_index_or places k NoPlace
    place_at k lt reading = elim (cases_Bool (is_late (op_at operands k).position)) [
      | inl late ↦ (let was = h.uses k lt late reading in
          e.stand (op_at operands k).vreg.number (λ none. was.0 (sym was.1 ∙ none)) (λ x. early_not_late k lt late x) ∙ was.1
          ∙ sym (e.others k (λ early. absurd (let wrong : true ≡ false = sym late ∙ early in cc))))
      | inr early ↦ (e.uses k lt early reading).1
    ]

    same : t3 ≡ t2
    same = moved_none point operands places u2 t2 (length operands) u3 t3 place_at moves

-- An instruction is allocated without moves and slots, and the ones before it may be.
pub inst_spill_free : {names : List VirtualRegister} {gone : ℕ → Bool} {i : ℕ} (inst : InstValue) {blank places : List Place} {old new : StateValue}
    {u : InstRegs} → FitInRegs names old.allocatable → ((late : Bool) → ArePlain names gone inst.operands late) →
    ((r : Register) → has_register inst.clobbers r ≡ false) → AllocsInst i inst blank places old new → IsSpillFree names gone old u →
    LeavesSpillFree names gone inst.operands new
inst_spill_free {names} {gone} inst {blank} few plain none a h =
    let ops : List OperandValue = inst.operands in
    let begun = ready (plain true).under_reg none a.fresh a.prepares h in
    let few4 : FitInRegs names a.after_clobbers.allocatable = subst (λ (t : StateValue). FitInRegs names t.allocatable) (sym begun.0) few in
    let late = operands_placed few4 (plain true) a.long (λ j at. a.no_places j) begun.1 (omega arith) a.lates in
    let few5 : FitInRegs names a.after_late.allocatable = subst (FitInRegs names) (sym late.machine) few4 in
    let early = operands_placed few5 (early_plain names gone ops blank a.half a.after_clobbers a.after_late a.late plain late) (late.long ∙ a.long)
    (λ j at. late.others j (λ e. absurd (let no : true ≡ false = sym e ∙ at in cc)) ∙ a.no_places j) late.spill_free (omega arith) a.earlies in
    inst_done plain late early a.moves

-- what is read at an instruction is defined by an earlier one
reads_reg : (o : OperandValue) → is_def o.kind ≡ false → o.constraint ≡ Reg → is_reading o ≡ true
reads_reg o e reg = rw (e, reg) refl

-- in a function of one block that requires only registers, each use reads what an earlier instruction defines
pub defined_earlier : (f : FunctionValue) (env : MachineValue) (names : List VirtualRegister) → IsWellFormed env f → HasRegOperandsOnly names f → (i k : ℕ) →
    i < length f.insts → k < length (inst_at f i).operands → is_def (op_at (inst_at f i).operands k).kind ≡ false
    → (j l : ℕ) × (j < i) × IsDefOperand f (op_at (inst_at f i).operands k).vreg.number j l
defined_earlier f env names well asks i k lt less e =
    by (made_before f (op_at (inst_at f i).operands k).vreg i lt (reads_defined f (omega (arith, asks.one_block)) well.follow well.uses_defined i lt k less
    (reads_reg (op_at (inst_at f i).operands k) e (asks.under_reg i k lt less))))
  where
    by : MadeBefore f (op_at (inst_at f i).operands k).vreg i → (j l : ℕ) × (j < i) × IsDefOperand f (op_at (inst_at f i).operands k).vreg.number j l
    by (by_earlier j l before_it at same) = (j, l, before_it, at)
    by (by_param b l at same) =
        let zero_block : b ≡ 0 = omega (arith, at.block, asks.one_block) in
        let none : length (block_at f b).params ≡ 0 = ap (λ (x : ℕ). length (block_at f x).params) zero_block ∙ ap length well.entry.1 in
        absurd (omega (arith, at.param, none))

-- no later instruction defines a vreg that an instruction names, in a function whose operands are all under `Reg`
pub plain_at : (f : FunctionValue) (env : MachineValue) (names : List VirtualRegister) (i : ℕ) (t : StateValue) →
    IsWellFormed env f → HasRegOperandsOnly names f → i < length f.insts → (h : IsSpillFreeFrom names f (i + 1) t) → (late : Bool) →
    ArePlain names h.gone (inst_at f i).operands late
plain_at f env names i t well asks lt h late = record {
  under_reg = λ k less. asks.under_reg i k lt less;
  named = λ k less. asks.named i k lt less;
  there = λ k less at. elim (cases_Bool (h.gone (op_at (inst_at f i).operands k).vreg.number)) [
    | inl e ↦ (let x = h.only (op_at (inst_at f i).operands k).vreg.number e in absurd (not_behind k less x.0 x.1 x.2 x.3))
    | inr e ↦ e
  ];
  apart = λ j k less more def same. apart j k less more def same;
}
  where
    earlier : (k : ℕ) → k < length (inst_at f i).operands → is_def (op_at (inst_at f i).operands k).kind ≡ false → (j l : ℕ) × (j < i)
        × IsDefOperand f (op_at (inst_at f i).operands k).vreg.number j l
    earlier k less e = defined_earlier f env names well asks i k lt less e

    defined_at : (j k : ℕ) → j < length f.insts → k < length (inst_at f j).operands → is_def (op_at (inst_at f j).operands k).kind ≡ true →
        IsDefOperand f (op_at (inst_at f j).operands k).vreg.number j k
    defined_at j k a b c = record { inst = a; operand = b; definition = c; number = refl }

    at_number : (n m j k : ℕ) → n ≡ m → IsDefOperand f n j k → IsDefOperand f m j k
    at_number n m j k e x = subst (λ (y : ℕ). IsDefOperand f y j k) e x

    not_behind : (k : ℕ) → k < length (inst_at f i).operands → (j : ℕ) → i + 1 ≤ j → j < length f.insts →
        IsDefinedByOperand (inst_at f j).operands (op_at (inst_at f i).operands k).vreg.number → ⊥
    not_behind k less j past inside x =
        let there : IsDefOperand f (op_at (inst_at f i).operands k).vreg.number j x.0 = at_number (op_at (inst_at f j).operands x.0).vreg.number
        (op_at (inst_at f i).operands k).vreg.number j x.0 x.3 (defined_at j x.0 inside x.1 x.2) in
        elim (cases_Bool (is_def (op_at (inst_at f i).operands k).kind)) [
          | inl def ↦ (let one = one_operand f well.defined_once (op_at (inst_at f i).operands k).vreg.number i j k x.0 (defined_at i k lt less def) there in
              omega (arith, one.0, past))
          | inr use_it ↦ (let e = earlier k less use_it in let one = one_operand f well.defined_once (op_at (inst_at f i).operands k).vreg.number e.0 j e.1 x.0
              e.3 there in omega (arith, one.0, past, e.2))
        ]

    apart : (j k : ℕ) → j < length (inst_at f i).operands → k < length (inst_at f i).operands → is_def (op_at (inst_at f i).operands j).kind ≡ true →
        (op_at (inst_at f i).operands j).vreg.number ≡ (op_at (inst_at f i).operands k).vreg.number → j ≡ k
    apart j k less more def same =
        let there : IsDefOperand f (op_at (inst_at f i).operands k).vreg.number i j = at_number (op_at (inst_at f i).operands j).vreg.number
        (op_at (inst_at f i).operands k).vreg.number i j same (defined_at i j lt less def) in
        elim (cases_Bool (is_def (op_at (inst_at f i).operands k).kind)) [
          | inl other ↦ (one_operand f well.defined_once (op_at (inst_at f i).operands k).vreg.number i i j k there (defined_at i k lt more other)).1
          | inr use_it ↦ (let e = earlier k more use_it in let one = one_operand f well.defined_once (op_at (inst_at f i).operands k).vreg.number e.0 i e.1 j
              e.3 there in absurd (omega (arith, one.0, e.2)))
        ]

-- the walk is free of spills from i on if it is from i + 1 on and the instruction i leaves it so
pub from_next : (f : FunctionValue) (names : List VirtualRegister) (i : ℕ) (t u : StateValue) → i < length f.insts → (h : IsSpillFreeFrom names f (i + 1) t) →
    LeavesSpillFree names h.gone (inst_at f i).operands u → IsSpillFreeFrom names f i u
from_next f names i t u lt h l = record {
  gone = l.gone_now;
  only = λ n g. elim (l.only n g) [
    | inl x ↦ (let y = h.only n x in (y.0, omega (arith, y.1), y.2, y.3))
    | inr x ↦ (i, omega arith, lt, x)
  ];
  goes = λ j n past inside x. elim (cases_eq j i) [
    | inl e ↦ l.goes n (subst (λ (y : ℕ). IsDefinedByOperand (inst_at f y).operands n) e x)
    | inr ne ↦ l.stays n (h.goes j n (omega (arith, past, ne)) inside x)
  ];
  inst_regs = l.inst_regs;
  spill_free = l.spill_free;
}

-- at the first instruction no vreg has a location: each vreg was defined
pub no_location_at_first_inst : (f : FunctionValue) (env : MachineValue) (names : List VirtualRegister) (t : StateValue) → IsWellFormed env f →
    HasRegOperandsOnly names f → IsSpillFreeFrom names f 0 t → (n : ℕ) → alloc_of t.places n ≡ NoPlace
no_location_at_first_inst f env names t well asks h n = elim (cases_none (alloc_of t.places n)) [
  | inl e ↦ e
  | inr ne ↦ absurd (ne (stands_not ne))
]
  where
    u : IsSpillFree names h.gone t h.inst_regs
    u = h.spill_free

    stands_not : alloc_of t.places n ≢ NoPlace → alloc_of t.places n ≡ NoPlace
    stands_not ne =
        let named = u.named n ne in
        let at = asks.no_others named.0 named.1 in
        let number : (op_at (inst_at f at.0).operands at.1).vreg.number ≡ n = ap (λ (v : VirtualRegister). v.number) at.4 ∙ named.2 in
        elim (cases_Bool (is_def (op_at (inst_at f at.0).operands at.1).kind)) [
          | inl def ↦ u.nowhere n (h.goes at.0 n (omega arith) at.2 (at.1, at.3, def, number))
          | inr use_it ↦ (let e = defined_earlier f env names well asks at.0 at.1 at.2 at.3 use_it in
              u.nowhere n (h.goes e.0 n (omega arith) e.3.inst (e.1, e.3.operand, e.3.definition, e.3.number ∙ number)))
        ]

-- edges to blocks without parameters pass nothing
gathers_edge_moves_none : {Own : VirtualRegister → Type 0} (point : ℕ) (params arguments : List VirtualRegister) (t : InstRegs) (old : StateValue)
    (given : List ClassMove) (n : ℕ) (u : InstRegs) (new : StateValue) (more : List ClassMove) → n ≡ 0 →
    GathersEdgeMoves Own point params arguments t old given n u new more → (new ≡ old) × (more ≡ given)
gathers_edge_moves_none point params arguments t old given n u new more e none_gathered = (refl, refl)
gathers_edge_moves_none point params arguments t old given n u new more e (one_gathered j mid to from w x m k o lt before gives places edits machine order
    sets_alloc foreign) =
    absurd (omega (arith, e))
gathers_edge_moves_none point params arguments t old given n u new more e (own_argument j mid w m lt before own) = absurd (omega (arith, e))

-- edges to blocks without parameters gather no move, and leave the state unchanged
pub gathers_moves_none : (f : FunctionValue) (b point : ℕ) (t : InstRegs) (old : StateValue) (n : ℕ) (u : InstRegs) (new : StateValue)
    (given : List ClassMove) →
    ((k : ℕ) → HasEdge f b k → (block_at f (target_at f b k)).params ≡ []) → GathersMoves f b point t old n u new given → (new ≡ old) × (given ≡ [])
gathers_moves_none f b point t old n u new given empty no_edge = (refl, refl)
gathers_moves_none f b point t old n u new given empty (one_edge k mid more w x m o lt before edge) =
    let rest = gathers_moves_none f b point t old k w m mid empty before in
    let this = gathers_edge_moves_none point (block_at f (target_at f b k)).params (arguments_at f b k) w m mid
    (length (block_at f (target_at f b k)).params) u new given
    (ap length (empty k lt)) edge in
    (this.0 ∙ rest.0, this.1 ∙ rest.1)

-- if no moves are gathered, none are of a class
pub of_none : (c : RegClass) (given : List ClassMove) (ms : Moves) → given ≡ [] → ms ≡ of_class c given → ms ≡ []
unfolding of_class
of_none c given ms e is = is ∙ ap (of_class c) e

-- the only block has no parameters
pub no_params : (f : FunctionValue) (env : MachineValue) (names : List VirtualRegister) (b : ℕ) → IsWellFormed env f → HasRegOperandsOnly names f →
    b < length f.blocks → (block_at f b).params ≡ []
no_params f env names b well asks lt = (let zero_block : b ≡ 0 = omega (arith, lt, asks.one_block) in ap (λ (x : ℕ). (block_at f x).params) zero_block
    ∙ well.entry.1)

-- an operand under `Reg` defines in no fixed register
none_fixed : (o : OperandValue) → o.constraint ≡ Reg → IsSome (fixed_definition o) → ⊥
none_fixed o reg some = by (is_def o.kind) (subst (λ (x : OperandConstraint). IsSome (if is_def o.kind then fixed_register x else None)) reg some)
  where
    by : (b : Bool) → IsSome (if b then fixed_register Reg else None) → ⊥
    by true h = cc
    by false h = cc

-- a block's start stores nothing, because no definition of a branch is fixed
pub none_is_stored : (f : FunctionValue) (env : MachineValue) (names : List VirtualRegister) → IsWellFormed env f → HasRegOperandsOnly names f → (b e k j : ℕ)
    (v : VirtualRegister) (slots : SpillSlotsValue) → IsEdgeInto f b e k → IsStoredFor f e k slots j v → ⊥
none_is_stored f env names well asks b e k j v slots edge (its_own own is) =
    none_fixed (op_at (branch_operands f e) j) (asks.under_reg (last_of (block_at f e)) j (last_within f (env, well) e edge.block) own.operand) own.fixed
none_is_stored f env names well asks b e k j v slots edge (given_param n lt is d has) =
    let target = (well_formed_are_sound env f well).targets e k edge.edge in
    let none : length (block_at f (target_at f e k)).params ≡ 0 = ap (λ (l : List VirtualRegister). length l) (no_params f env names (target_at f e k) well asks
    target) in
    omega (arith, lt, none)

distinct_empty : IsDistinct is_same_number []
unfolding IsDistinct
distinct_empty = tt

-- before the walk
pub begins_uncrowded : (f : FunctionValue) (names : List VirtualRegister) (t : StateValue) → ((n : ℕ) → alloc_of t.places n ≡ NoPlace) → t.edits ≡ [] →
    ((n : ℕ) → slot_name t.slots n ≡ NoPlace) → t.slots.count ≡ 0 → IsWhole t → RegsAvoidStack t
    → ((class : RegClass) → IsLruOf t.allocatable class (order_of t class)) → IsSpillFreeFrom names f (length f.insts) t
begins_uncrowded f names t none_held edits slots count whole apart lrus = record {
  gone = λ n. false;
  only = λ n e. absurd cc;
  goes = λ j n past inside. absurd (omega (arith, past, inside));
  inst_regs = record { early = t.allocatable; late = t.allocatable; scratch = None ∷ None ∷ None ∷ []; awaited = 0 ∷ 0 ∷ 0 ∷ [] };
  spill_free = record {
    no_moves = edits;
    no_slots = slots;
    no_units = count;
    whole = whole;
    apart = apart;
    lrus = lrus;
    stand = λ n there. absurd (there (none_held n));
    named = λ n there. absurd (there (none_held n));
    nowhere = λ n e. none_held n;
    each = λ class. record {
      used = [];
      unused = order_of t class;
      met = [];
      ring = refl;
      few = omega arith;
      distinct = distinct_empty;
      of_class = λ k d lt. absurd (omega arith);
      known = λ v c. absurd (omega (arith, c.1));
      empty = λ n r at c. (let wrong : InRegister r ≡ NoPlace = sym at ∙ none_held n in cc);
      free = λ r c. (let has : has_register t.allocatable r ≡ true = (lrus class).has r c in rw has refl);
    };
  };
}

-- an edge leads to a block
pub edge_block : (f : FunctionValue) (env : MachineValue) → IsWellFormed env f → (b k : ℕ) → b < length f.blocks → HasEdge f b k →
    target_at f b k < length f.blocks
edge_block f env well b k lt edge = well.successors.1 b lt k 0 edge

-- reloading no parameters changes nothing
pub none_begun_none : (point : ℕ) (params : List VirtualRegister) (t : InstRegs) (old : StateValue) (n : ℕ) (u : InstRegs) (new : StateValue) → n ≡ 0 →
    ReloadsParams point params t old n u new → new ≡ old
none_begun_none point params t old n u new e none_begun = refl
none_begun_none point params t old n u new e (one_begun k x y m o lt before one) = absurd (omega (arith, e))
