-- The passes over an instruction's operands keep the tables safe and fill the places.
-- The fold in `Changes` serves its evictions alone: an operand's place is passed from its selection to the steps that
-- follow.
use Rattle.regalloc2_carry.proofs.Operands.{reads_use}
use Rattle.std.proofs.Common.{ℕ, ◌≡◌, ◌≢◌, ◌+◌, ◌<◌, ◌≤◌, List, Bool, true, false, refl, sym, ap, ◌∙◌, ◌⊎◌, inl, inr, subst, arith, length, set}
use Rattle.std.proofs.lemmas.Bool.{cases_eq, false_from_ne_true, true_from_ne_false, both_ways}
use Rattle.regalloc2_names.specs.declared.OperandConstraint.TheVariants.{FixedReg, Reuse}
use Rattle.regalloc2_names.specs.Register.{Register, VirtualRegister}
use Rattle.regalloc2_names.specs.Operand.{OperandValue, is_def, is_late, is_reading, is_fixed_nonallocatable}
use Rattle.regalloc2_names.specs.Place.{Place, NoPlace, InRegister, InSlot, after}
use Rattle.regalloc2_function.specs.Machine.{MachineValue}
use Rattle.regalloc2_function.specs.OutputValue.{place_at}
use Rattle.regalloc2_fastalloc_state.specs.declared.inst_regs.InstRegs.{InstRegs}
use Rattle.regalloc2_fastalloc_state.specs.declared.request.Requirement.TheVariants.{InPReg}
use Rattle.regalloc2_fastalloc_state.specs.StateParts.{SpillSlotsValue}
use Rattle.regalloc2_function.specs.FunctionValue.{op_at}
use Rattle.regalloc2_fastalloc_proofs.specs.InstSteps.{StateValue, use_request, def_request, reuse_request, AllocsDefOp, AllocsUse, ProcessesOperand}
use Rattle.regalloc2_fastalloc_proofs.specs.InstSteps.{a_register, a_use, a_def, a_reuse, ProcessesOperandsAt, none_placed, of_other, one_placed}
use Rattle.regalloc2_fastalloc_proofs.specs.Safety.{IsOfMachine, MayBeLocatedAt}
use Rattle.regalloc2_fastalloc_proofs.proofs.Changes.InstChanges.{allocs_def_op_changes, allocs_use_changes}
use Rattle.regalloc2_fastalloc_proofs.proofs.Slots.SlotsGrow.{changes_stay}
use Rattle.regalloc2_fastalloc_proofs.proofs.Slots.LocatedStaysLocated.{changes_last}
use Rattle.regalloc2_fastalloc_proofs.proofs.Safety.StepsKeepSafe.{AreKindsApart, rules_of}
use Rattle.regalloc2_fastalloc_proofs.proofs.Safety.OperandKeepsSafe.{allocs_def_op_kept, allocs_use_kept}
use Rattle.regalloc2_fastalloc_proofs.proofs.Operands.AllocsSoFar.{IsInRegister, MeetsByItself, IsGood, FillingContext, reads_allocated}
use Rattle.regalloc2_fastalloc_proofs.proofs.Operands.AllocsSoFar.{answer_meets, answer_named, reuse_meets, fixed_meets, requires_fixed_reg, reuse_requires_fixed_reg}
use Rattle.regalloc2_fastalloc_proofs.proofs.Operands.AllocsSoFar.{fixed_class, FixedAreKnown, Filled, DefsAreWritten, reuse_register, no_place_register}
use Rattle.regalloc2_fastalloc_proofs.proofs.Operands.AllocsSoFar.{OneMore, filled_same, filled_on, written, written_twice}

pub a_place_of : (p : Place) → IsInRegister p → (r : Register) × (p ≡ InRegister r)
a_place_of NoPlace h = absurd h
a_place_of (InRegister r) h = (r, refl)
a_place_of (InSlot n) h = absurd h

same_at : (q r : Register) → InPReg q ≡ InPReg r → q ≡ r
same_at q r e = cc

-- a register that may hold a vreg may hold every vreg of its class
shared_register : (env : MachineValue) (slots : SpillSlotsValue) (v w : VirtualRegister) (p : Place) → IsInRegister p → v.class ≡ w.class →
    MayBeLocatedAt env slots v p → MayBeLocatedAt env slots w p
shared_register env slots v w NoPlace h e place = place
shared_register env slots v w (InRegister r) h e place = (place.0, place.1 ∙ e)
shared_register env slots v w (InSlot n) h e place = absurd h

-- The two passes over an instruction's operands, on a machine whose kinds of registers are disjoint: the operands are
-- fixed to registers of the machine only; moves may follow the instruction, which ends its block or not, and its
-- definitions may be written.
pub record PassesContext : Type 1 where
  pub filling : FillingContext
  pub apart : AreKindsApart filling.env
  pub fixed : FixedAreKnown filling.env filling.ops
  pub i : ℕ
  pub ends_block : Bool
  pub can : filling.May (after i)
  pub writes : DefsAreWritten filling.Writes i filling.ops

-- the record, built from its parts
abbrev pub passes_of : (filling : FillingContext) → AreKindsApart filling.env → FixedAreKnown filling.env filling.ops → (i : ℕ) → Bool → filling.May (after i) →
    DefsAreWritten filling.Writes i filling.ops → PassesContext
passes_of filling apart fixed i ends_block can writes =
    record { filling = filling; apart = apart; fixed = fixed; i = i; ends_block = ends_block; can = can; writes = writes }

module _ (passes : PassesContext) where
  open passes use {filling, apart, fixed, i, ends_block, can, writes}
  open passes.filling use {env, Known, Writes, May, ops, sound_ops}

  -- an operand that names a register and no vreg
  register_kept : (D E : ℕ → Type 0) (k : ℕ) (r : Register) (here : List Place) (t : InstRegs) (old : StateValue) → k < length ops →
      OneMore filling D E k
      → is_fixed_nonallocatable (op_at ops k) ≡ true → (op_at ops k).constraint ≡ FixedReg r → Filled env Known Writes May ops D here t old →
      Filled env Known Writes May ops E (set here k (InRegister r)) t old
  register_kept D E k r here t old less more silent is h = written filling D E k (InRegister r) here t old less more
      (λ n e. (let x : FixedReg r ≡ Reuse n = sym is ∙ e in cc))
      (record { place = λ a. absurd (both_ways (is_fixed_nonallocatable (op_at ops k)) a silent); meets = fixed_meets env (op_at ops k).constraint r is })
      (λ reads. absurd (both_ways (is_fixed_nonallocatable (op_at ops k)) (reads_allocated (op_at ops k) reads) silent))
      (λ j within d names. absurd (both_ways (is_fixed_nonallocatable (op_at ops k)) (reads_allocated (op_at ops k) (sound_ops.named j k within names).2) silent))
      h

  -- a use that no reuse has chosen a register for
  use_kept : (D E : ℕ → Type 0) (k : ℕ) (p : Place) (here : List Place) (t u : InstRegs) (old new : StateValue) → k < length ops →
      OneMore filling D E k
      → is_reading (op_at ops k) ≡ true → place_at here k ≡ NoPlace → AllocsUse (after i) (use_request (op_at ops k) NoPlace) p t u old new
      → Filled env Known Writes May ops D here t old → Filled env Known Writes May ops E (set here k p) u new
  use_kept D E k p here t u old new less more reads none places h =
      let o : OperandValue = op_at ops k in
      let allocated : is_fixed_nonallocatable o ≡ false = reads_allocated o reads in
      let w = allocs_use_kept (rules_of env apart Known Writes May (after i) can) sound_ops.same (use_request o NoPlace) p t u old new places
      (sound_ops.known k less allocated)
      (λ r asks. (let e : o.constraint ≡ FixedReg r = requires_fixed_reg o.constraint r asks in
      (fixed k r less allocated e, fixed_class o.vreg.class o.constraint r (sound_ops.constraint k less) e))) h.safe h.inst_regs in
      let f = filled_on filling D here t u old new w.given.kept.safe w.given.kept.inst_regs (changes_stay (allocs_use_changes (λ q s. tt) tt tt places))
      (λ j within r there. changes_last (op_at ops j).vreg.number (allocs_use_changes (λ q s. tt) tt tt places) there) h in
      written filling D E k p here u new less more
      (λ n e. both_ways (is_def o.kind) (reads_use o reads) (sound_ops.late_reuse k n less e).0)
      (record {
        place = λ a. w.given.place;
        meets = answer_meets env o.constraint p
            (λ n e. both_ways (is_def o.kind) (reads_use o reads) (sound_ops.late_reuse k n less e).0) (λ n e. sound_ops.unlimited k n less e) w.given.answer;
      })
      (λ r. w.found)
      (λ j within d names. absurd (no_place_register (place_at here j) (h.shared j k within d names ∙ none)
      (reuse_register env (op_at ops j).constraint k (place_at here j) names (h.good j within d).meets)))
      f

  -- a use for which a reuse has chosen a register
  chosen_kept : (D E : ℕ → Type 0) (k : ℕ) (p : Place) (r : Register) (here : List Place) (t u : InstRegs) (old new : StateValue) → k < length ops →
      OneMore filling D E k
      → is_reading (op_at ops k) ≡ true → place_at here k ≡ InRegister r → IsGood env old.slots (op_at ops k) (place_at here k) →
      AllocsUse (after i) (use_request (op_at ops k) (InRegister r)) p t u old new
      → Filled env Known Writes May ops D here t old → Filled env Known Writes May ops E (set here k p) u new
  chosen_kept D E k p r here t u old new less more reads at_it good places h =
      let o : OperandValue = op_at ops k in
      let allocated : is_fixed_nonallocatable o ≡ false = reads_allocated o reads in
      let stand : MayBeLocatedAt env old.slots o.vreg (InRegister r) = subst (MayBeLocatedAt env old.slots o.vreg) at_it (good.place allocated) in
      let w = allocs_use_kept (rules_of env apart Known Writes May (after i) can) sound_ops.same (use_request o (InRegister r)) p t u old new places
      (sound_ops.known k less allocated)
      (λ q asks. subst (λ (x : Register). IsOfMachine env x × (x.class ≡ o.vreg.class)) (same_at r q asks) stand) h.safe h.inst_regs in
      let f = filled_on filling D here t u old new w.given.kept.safe w.given.kept.inst_regs (changes_stay (allocs_use_changes (λ q s. tt) tt tt places))
      (λ j within x there. changes_last (op_at ops j).vreg.number (allocs_use_changes (λ q s. tt) tt tt places) there) h in
      let as_chosen : p ≡ place_at here k = w.given.answer ∙ sym at_it in
      written filling D E k p here u new less more
      (λ n e. both_ways (is_def o.kind) (reads_use o reads) (sound_ops.late_reuse k n less e).0)
      (record { place = λ a. w.given.place; meets = subst (MeetsByItself env o.constraint) (sym as_chosen) good.meets })
      (λ x. w.found)
      (λ j within d names. as_chosen)
      f

  -- a definition that is no reuse
  def_kept : (D E : ℕ → Type 0) (k : ℕ) (p : Place) (here : List Place) (t u : InstRegs) (old new : StateValue) → k < length ops →
      OneMore filling D E k
      → is_def (op_at ops k).kind ≡ true → ((n : ℕ) → (op_at ops k).constraint ≡ Reuse n → ⊥) →
      AllocsDefOp (after i) (def_request (op_at ops k)) ends_block p t u old new
      → Filled env Known Writes May ops D here t old → Filled env Known Writes May ops E (set here k p) u new
  def_kept D E k p here t u old new less more def no_reuse places h =
      let o : OperandValue = op_at ops k in
      let allocated : is_fixed_nonallocatable o ≡ false = sound_ops.allocated k less def in
      let w = allocs_def_op_kept (rules_of env apart Known Writes May (after i) can) sound_ops.same (def_request o) ends_block p t u old new places
      (sound_ops.known k less allocated)
      (λ n. writes k n less def)
      (λ r asks. (let e : o.constraint ≡ FixedReg r = requires_fixed_reg o.constraint r asks in
      (fixed k r less allocated e, fixed_class o.vreg.class o.constraint r (sound_ops.constraint k less) e))) h.safe h.inst_regs in
      let f = filled_on filling D here t u old new w.kept.safe w.kept.inst_regs (changes_stay (allocs_def_op_changes (λ q s. tt) tt tt places))
      (λ j within r there. changes_last (op_at ops j).vreg.number (allocs_def_op_changes (λ q s. tt) tt (sound_ops.unread k j less within def r) places) there) h in
      written filling D E k p here u new less more no_reuse
      (record { place = λ a. w.place; meets = answer_meets env o.constraint p no_reuse (λ n e. sound_ops.unlimited k n less e) w.answer })
      (λ reads. absurd (both_ways (is_def o.kind) (reads_use o reads) def))
      (λ j within d names. absurd (both_ways (is_def o.kind) (reads_use o (sound_ops.named j k within names).2) def))
      f

  -- a reuse
  reuse_kept : (D E : ℕ → Type 0) (k n : ℕ) (p : Place) (here : List Place) (t u : InstRegs) (old new : StateValue) → k < length ops →
      OneMore filling D E k → (D n → ⊥)
      → is_def (op_at ops k).kind ≡ true → (op_at ops k).constraint ≡ Reuse n →
      AllocsDefOp (after i) (reuse_request (op_at ops k) (op_at ops n)) ends_block p t u old new
      → Filled env Known Writes May ops D here t old → Filled env Known Writes May ops E (set (set here k p) n p) u new
  reuse_kept D E k n p here t u old new less more not_n def reuses places h =
      let o : OperandValue = op_at ops k in
      let m : OperandValue = op_at ops n in
      let named = sound_ops.named k n less reuses in
      let w = allocs_def_op_kept (rules_of env apart Known Writes May (after i) can) sound_ops.same (reuse_request o m) ends_block p t u old new places
      (sound_ops.known k less (sound_ops.allocated k less def)) (λ x. writes k x less def)
      (λ r asks. (let e : m.constraint ≡ FixedReg r = reuse_requires_fixed_reg m.constraint r asks in
      (fixed n r named.0 (reads_allocated m named.2) e, fixed_class m.vreg.class m.constraint r (sound_ops.constraint n named.0) e ∙ named.3))) h.safe
      h.inst_regs in
      let f = filled_on filling D here t u old new w.kept.safe w.kept.inst_regs (changes_stay (allocs_def_op_changes (λ q s. tt) tt tt places))
      (λ j within r there. changes_last (op_at ops j).vreg.number (allocs_def_op_changes (λ q s. tt) tt (sound_ops.unread k j less within def r) places) there) h in
      let a = answer_named env m.constraint p (sound_ops.named_as k n less reuses) w.answer in
      written_twice filling n less more reuses not_n
      (record { place = λ x. w.place; meets = reuse_meets env o.constraint n p reuses a.1 })
      (record { place = λ x. shared_register env new.slots o.vreg m.vreg p a.1 (sym named.3) w.place; meets = a.0 })
      a.1 f

  -- an operand is allocated
  pub processes_operand_kept : (D E : ℕ → Type 0) (k : ℕ) (here there : List Place) (t u : InstRegs) (old new : StateValue) →
      ProcessesOperand i ends_block ops k here there t u old new → k < length ops → OneMore filling D E k
      → ((n : ℕ) → (op_at ops k).constraint ≡ Reuse n → D n → ⊥) → Filled env Known Writes May ops D here t old →
      Filled env Known Writes May ops E there u new
  processes_operand_kept D E k here there t u old new (a_register r silent is written_it eu en) less more not_n h =
      subst (λ l. Filled env Known Writes May ops E l u new) (sym written_it)
      (subst (λ x. Filled env Known Writes May ops E (set here k (InRegister r)) x new) (sym eu)
      (subst (Filled env Known Writes May ops E (set here k (InRegister r)) t) (sym en)
      (register_kept D E k r here t old less more silent is h)))
  processes_operand_kept D E k here there t u old new (a_use p reads places written_it) less more not_n h =
      subst (λ l. Filled env Known Writes May ops E l u new) (sym written_it) (elim (h.waits k less more.before_it) [
        | inl none ↦ use_kept D E k p here t u old new less more reads none
            (subst (λ x. AllocsUse (after i) (use_request (op_at ops k) x) p t u old new) none places) h
        | inr g ↦ (let r = a_place_of (place_at here k) g.1 in
            chosen_kept D E k p r.0 here t u old new less more reads r.1 g.0
            (subst (λ x. AllocsUse (after i) (use_request (op_at ops k) x) p t u old new) r.1 places) h)
      ])
  processes_operand_kept D E k here there t u old new (a_def p def no_reuse places written_it) less more not_n h =
      subst (λ l. Filled env Known Writes May ops E l u new) (sym written_it) (def_kept D E k p here t u old new less more def no_reuse places h)
  processes_operand_kept D E k here there t u old new (a_reuse n p def reuses places written_it) less more not_n h =
      subst (λ l. Filled env Known Writes May ops E l u new) (sym written_it)
      (reuse_kept D E k n p here t u old new less more (not_n n reuses) def reuses places h)

  -- which operands are done in the pass over late operands, and in that over early ones
  abbrev pub InLate : ℕ → ℕ → Type 0
  InLate k j = (j < k) × (is_late (op_at ops j).position ≡ true)

  -- in the pass over early operands all late ones are done, and the early ones before k
  abbrev pub InEarly : ℕ → ℕ → Type 0
  InEarly k j = (is_late (op_at ops j).position ≡ true) ⊎ (j < k)

  -- in the pass over late operands k is one more that is done, if it is late
  pub late_more : (k : ℕ) → is_late (op_at ops k).position ≡ true → OneMore filling (InLate k) (InLate (k + 1)) k
  late_more k late = record {
    before_it = λ d. (let a = d.0 in omega arith);
    at_it = (omega arith, late);
    back = λ j e. elim (cases_eq j k) [
      | inl same ↦ inr same
      | inr ne ↦ inl ((let a = e.0 in omega arith), e.1)
    ];
    forth = λ j d. ((let a = d.0 in omega arith), d.1);
  }

  -- in the pass over early operands k is one more that is done, if it is early
  pub early_more : (k : ℕ) → is_late (op_at ops k).position ≡ false → OneMore filling (InEarly k) (InEarly (k + 1)) k
  early_more k early = record {
    before_it = λ d. elim d [
      | inl late ↦ both_ways (is_late (op_at ops k).position) early late
      | inr less ↦ omega arith
    ];
    at_it = inr (omega arith);
    back = λ j e. elim e [
      | inl late ↦ inl (inl late)
      | inr less ↦ elim (cases_eq j k) [
        | inl same ↦ inr same
        | inr ne ↦ inl (inr (omega arith))
      ]
    ];
    forth = λ j d. elim d [
      | inl late ↦ inl late
      | inr less ↦ inr (omega arith)
    ];
  }

  -- the pass over late operands
  pub late_operands_kept : (blank : List Place) (t : InstRegs) (old : StateValue) → Filled env Known Writes May ops (InLate 0) blank t old
      → (k : ℕ) (there : List Place) (u : InstRegs) (m : StateValue) → ProcessesOperandsAt i ends_block true ops blank t old k there u m → k ≤ length ops →
      Filled env Known Writes May ops (InLate k) there u m
  late_operands_kept blank t old h k there u m none_placed le = h
  late_operands_kept blank t old h k there u m (of_other j l w s prev other) le =
      let early : is_late (op_at ops j).position ≡ false = false_from_ne_true (is_late (op_at ops j).position) other in
      filled_same filling (InLate j) (InLate (j + 1)) there u m
      (λ x less e. (
        (let ne : x ≢ j = λ same. both_ways (is_late (op_at ops j).position)
            early (ap (λ (y : ℕ). is_late (op_at ops y).position) (sym same) ∙ e.1) in let a = e.0 in omega (arith, ne, a)),
        e.1,
      ))
      (λ x less d. ((let a = d.0 in omega arith), d.1))
      (late_operands_kept blank t old h j there u m prev (omega arith))
  late_operands_kept blank t old h k there u m (one_placed j l next w x s n prev late one) le =
      processes_operand_kept (InLate j) (InLate (j + 1)) j l there w u s m one (omega arith) (late_more j late)
      (λ y reuses d. both_ways (is_late (op_at ops y).position) (sound_ops.named j y (omega arith) reuses).1 d.1)
      (late_operands_kept blank t old h j l w s prev (omega arith))

  -- the pass over early operands
  pub early_operands_kept : (half : List Place) (t : InstRegs) (old : StateValue) → Filled env Known Writes May ops (InEarly 0) half t old
      → (k : ℕ) (there : List Place) (u : InstRegs) (m : StateValue) → ProcessesOperandsAt i ends_block false ops half t old k there u m → k ≤ length ops →
      Filled env Known Writes May ops (InEarly k) there u m
  early_operands_kept half t old h k there u m none_placed le = h
  early_operands_kept half t old h k there u m (of_other j l w s prev other) le =
      let late : is_late (op_at ops j).position ≡ true = true_from_ne_false (is_late (op_at ops j).position) other in
      filled_same filling (InEarly j) (InEarly (j + 1)) there u m
      (λ x less e. elim e [
        | inl is ↦ inl is
        | inr below ↦ elim (cases_eq x j) [
          | inl same ↦ inl (ap (λ (y : ℕ). is_late (op_at ops y).position) same ∙ late)
          | inr ne ↦ inr (omega arith)
        ]
      ])
      (λ x less d. elim d [
        | inl is ↦ inl is
        | inr below ↦ inr (omega arith)
      ])
      (early_operands_kept half t old h j there u m prev (omega arith))
  early_operands_kept half t old h k there u m (one_placed j l next w x s n prev early one) le =
      processes_operand_kept (InEarly j) (InEarly (j + 1)) j l there w u s m one (omega arith) (early_more j early)
      (λ y reuses d. both_ways (is_late (op_at ops j).position) early (sound_ops.late_reuse j y (omega arith) reuses).1)
      (early_operands_kept half t old h j l w s prev (omega arith))
