-- Fixed registers and clobbers are emptied, and uses are moved, and enough registers are left.
use Rattle.std.proofs.Common.{ℕ, ◌≡◌, ◌≢◌, ◌<◌, ◌≤◌, true, false, List, length, refl, subst, arith, sym}
use Rattle.std.specs.Prelude.{not}
use Rattle.regalloc2_names.specs.Register.{Register, VirtualRegister}
use Rattle.regalloc2_names.specs.Operand.{OperandValue, is_reading}
use Rattle.regalloc2_names.specs.Place.{Place, NoPlace, is_place}
use Rattle.regalloc2_semantics.proofs.Cells.{is_place-same}
use Rattle.regalloc2_function.specs.OutputValue.{place_at}
use Rattle.regalloc2_fastalloc_state.specs.declared.inst_regs.InstRegs.{InstRegs}
use Rattle.regalloc2_fastalloc_state.specs.StateParts.{alloc_of}
use Rattle.regalloc2_function.specs.FunctionValue.{op_at}
use Rattle.regalloc2_fastalloc_proofs.specs.InstSteps.{StateValue, MovesUses, none_moved, not_moved, one_moved, no_register, EvictPReg, MoveUses}
use Rattle.regalloc2_fastalloc_proofs.specs.Safety.{MayBeLocatedAt, IsEndOfMove, AreSafeRegs}
use Rattle.regalloc2_fastalloc_proofs.proofs.Safety.StepsKeepSafe.{StepKept, evicts_preg_kept, may_be_located_is_end, may_be_located_if_place, rules_of, safe_used}
use Rattle.regalloc2_fastalloc_proofs.proofs.Slots.SlotsGrow.{end_grows, changes_stay}
use Rattle.regalloc2_fastalloc_proofs.proofs.Slots.LocatedStaysLocated.{changes_last}
use Rattle.regalloc2_fastalloc_proofs.proofs.Operands.AllocsSoFar.{AreSoundOperands, reads_allocated}
use Rattle.regalloc2_fastalloc_proofs.proofs.Safety.InstKeepsSafe.{moves_uses_kept as all_kept_safe}
use Rattle.regalloc2_fastalloc_proofs.specs.Pressure.EnoughRegs.{HasEnoughRegs, AllWrite, AllMay, AreSafe}
use Rattle.regalloc2_fastalloc_proofs.proofs.Safety.StepsKeepMachine.{machine_stays}
use Rattle.regalloc2_fastalloc_proofs.proofs.Changes.InstChanges.{moves_uses_changes}
use Rattle.regalloc2_fastalloc_proofs.proofs.Changes.Evictions.{Evictions, evictions_keep}
use Rattle.regalloc2_fastalloc_proofs.proofs.Pressure.TablesHaveAllRegs.{HasAll, all_kept}
use Rattle.regalloc2_fastalloc_proofs.proofs.Pressure.StepsLeaveEnough.{ample_evict_preg, ample_add_move_if, Demand}
use Rattle.regalloc2_fastalloc_proofs.proofs.Pressure.ClaimLeavesEnough.{safe_held}

-- a move that is made has a place as its target
pub not_is_place_differs : (p q : Place) → not (is_place p q) ≡ true → p ≡ q → ⊥
not_is_place_differs p q made e = (let same : is_place p q ≡ true = subst (λ (x : Place). is_place p x ≡ true) e (is_place-same p) in
    let none : not (is_place p q) ≡ false = rw same refl in cc)

module _ (demand : Demand) where
  open demand use {Named, needed, point, env, apart, Known, named}

  -- what evictions guarantee: safe tables, safe registers, and enough of them
  pub record LeavesEnough (u : InstRegs) (new : StateValue) : Type 0 where
    pub kept : StepKept env Known AllWrite AllMay u new
    pub ample : HasEnoughRegs Named needed u new

  abbrev pub KeepsEnough : InstRegs → StateValue → InstRegs → StateValue → Type 0
  KeepsEnough t old u new = AreSafe env Known old → AreSafeRegs env t → HasEnoughRegs Named needed t old → LeavesEnough u new

  -- any sequence of evictions leaves enough registers
  pub evictions_ample : {t u : InstRegs} {old new : StateValue} → Evictions point t old u new → KeepsEnough t old u new
  evictions_ample = evictions_keep {R = KeepsEnough} (record {
    same = λ t u old new eu en h ht a. record {
      kept = record { safe = safe_used env Known AllWrite AllMay old new en h; inst_regs = subst (AreSafeRegs env) (sym eu) ht };
      ample = subst (λ (w : InstRegs). HasEnoughRegs Named needed w new) (sym eu) (subst (HasEnoughRegs Named needed t) (sym en) a);
    };
    over = λ t u w a b c f g h ht enough. (let x = f h ht enough in g x.kept.safe x.kept.inst_regs x.ample);
    each = λ r t u old new clears h ht a. record {
      kept = evicts_preg_kept (rules_of env apart Known AllWrite AllMay point tt) r t u old new clears h ht;
      ample = ample_evict_preg demand clears (safe_held env Known old h) ht a;
    };
  })

  -- if registers are enough, no eviction after others lacks one
  pub never_after : {r : Register} {t u : InstRegs} {old m : StateValue} → Evictions point t old u m → EvictPReg point r u m no_register →
      AreSafe env Known old →
      AreSafeRegs env t → HasEnoughRegs Named needed t old → ⊥
  never_after {m = m} evicts stops h ht a =
      (let x = evictions_ample evicts h ht a in ample_evict_preg demand stops (safe_held env Known m x.kept.safe) x.kept.inst_regs x.ample)

  -- the moves of uses
  module _ (ops : List OperandValue) (sound_ops : AreSoundOperands Known ops) (here : List Place) (t : InstRegs) (old : StateValue) (h : AreSafe env Known old)
      (all : HasAll env old) (ht : AreSafeRegs env t)
      (good : (j : ℕ) → j < length ops → is_reading (op_at ops j) ≡ true → MayBeLocatedAt env old.slots (op_at ops j).vreg (place_at here j))
      (found : (j : ℕ) → j < length ops → is_reading (op_at ops j) ≡ true → alloc_of old.places (op_at ops j).vreg.number ≢ NoPlace)
      (a : HasEnoughRegs Named needed t old) where
    moves_uses_kept : (k : ℕ) (u : InstRegs) (m : StateValue) → MovesUses point ops here t old k u m → k ≤ length ops → StepKept env Known AllWrite AllMay u m
    moves_uses_kept k u m moves le = all_kept_safe apart tt sound_ops h ht (λ j n less reads e. tt) good found moves le

    -- the ends of a use's move
    ends : (j k : ℕ) (m : StateValue) (u : InstRegs) → MovesUses point ops here t old k u m → k ≤ length ops → j < length ops →
        is_reading (op_at ops j) ≡ true →
        not (is_place (alloc_of m.places (op_at ops j).vreg.number) (place_at here j)) ≡ true
        → IsEndOfMove env m.slots (op_at ops j).vreg (alloc_of m.places (op_at ops j).vreg.number)
        × IsEndOfMove env m.slots (op_at ops j).vreg (place_at here j) × (alloc_of m.places (op_at ops j).vreg.number ≡ place_at here j → ⊥)
    ends j k m u moves le less reads made =
        let v : VirtualRegister = (op_at ops j).vreg in
        let from : Place = alloc_of m.places v.number in (
          may_be_located_is_end env m.slots v from (may_be_located_if_place env m.slots v from
              (changes_last v.number (moves_uses_changes (λ q r. tt) (λ n lt is q. tt) moves) (found j less reads))
              ((moves_uses_kept k u m moves le).safe.places v (sound_ops.known j less (reads_allocated (op_at ops j) reads)))),
          end_grows env old.slots m.slots v (place_at here j) (changes_stay (moves_uses_changes (λ q r. tt) (λ n lt is q. tt) moves))
              (may_be_located_is_end env old.slots v (place_at here j) (good j less reads)),
          not_is_place_differs from (place_at here j) made,
        )

    -- moving the uses among the first k operands leaves enough registers
    pub ample_moves_uses : {k : ℕ} {u : InstRegs} {m : StateValue} → MovesUses point ops here t old k u m → k ≤ length ops → HasEnoughRegs Named needed u m
    ample_moves_uses none_moved le = a
    ample_moves_uses {u} {m} (not_moved j x s prev silent) le = ample_moves_uses prev (omega arith)
    ample_moves_uses {u} {m} (one_moved j x w s n prev reads sends) le =
        let p = moves_uses_kept j x s prev (omega arith) in
        ample_add_move_if demand (op_at ops j).vreg sends (sound_ops.known j (omega arith) (reads_allocated (op_at ops j) reads))
        (ends j j s x prev (omega arith) (omega arith) reads)
        (all_kept env old s (machine_stays (moves_uses_changes (λ q r. tt) (λ n lt reads q. tt) prev)) all) p.inst_regs (ample_moves_uses prev (omega arith))

    -- if registers are enough, moving uses before the instruction lacks none
    pub never_move_uses : MoveUses point ops here t old no_register → ⊥
    never_move_uses s =
        let lt : s.index < length ops = s.inside in
        ample_add_move_if demand (op_at ops s.index).vreg s.stops.1 (sound_ops.known s.index lt (reads_allocated (op_at ops s.index) s.stops.0))
        (ends s.index s.index s.middle s.given s.done (omega (arith, lt)) lt s.stops.0)
        (all_kept env old s.middle (machine_stays (moves_uses_changes (λ q r. tt) (λ n lt reads q. tt) s.done)) all)
        (moves_uses_kept s.index s.given s.middle s.done (omega (arith, lt))).inst_regs (ample_moves_uses s.done (omega (arith, lt)))
