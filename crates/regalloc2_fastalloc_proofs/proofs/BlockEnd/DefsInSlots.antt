-- At the end of a block, with no vreg in a register after it, a definition under `Any` or `Stack` is in no register.
-- The fold in `Changes` doesn't apply: what the listing carries, or the operands' record, differs from step to step.
use Rattle.regalloc2_carry.proofs.Operands.{reads_use}
use Rattle.std.proofs.Common.{ℕ, ◌≡◌, ◌≢◌, ◌<◌, ◌≤◌, ◌+◌, ◌⊎◌, List, Bool, true, false, refl, sym, ap, ◌∙◌, subst, inl, inr, arith, length, set}
use Rattle.std.proofs.Common.{get_or-set_same}
use Rattle.std.proofs.lemmas.Bool.{cases_eq, cases_Bool, both_ways}
use Rattle.std.proofs.lemmas.List.{get_or-set_other}
use Rattle.regalloc2_names.specs.declared.OperandConstraint.{OperandConstraint}
use Rattle.regalloc2_names.specs.declared.OperandConstraint.TheVariants.{Any, Stack, FixedReg, Reuse}
use Rattle.regalloc2_names.specs.Register.{Register, VirtualRegister}
use Rattle.regalloc2_names.specs.Operand.{OperandValue, is_def, is_late}
use Rattle.regalloc2_names.specs.Place.{Place, NoPlace, InRegister, after}
use Rattle.regalloc2_function.specs.FunctionValue.{InstValue, op_at}
use Rattle.regalloc2_function.specs.OutputValue.{MoveValue, place_at}
use Rattle.regalloc2_fastalloc_state.specs.declared.inst_regs.InstRegs.{InstRegs}
use Rattle.regalloc2_fastalloc_state.specs.declared.request.Requirement.{Requirement}
use Rattle.regalloc2_fastalloc_state.specs.declared.request.Requirement.TheVariants.{AnyPlace, AnyReg, OnStack, InPReg}
use Rattle.regalloc2_fastalloc_state.specs.StateParts.{alloc_of}
use Rattle.regalloc2_fastalloc_proofs.specs.InstSteps.{StateValue, SelectsPlace, AllocsDefOp, ProcessesOperand, a_register, a_use, a_def, a_reuse}
use Rattle.regalloc2_fastalloc_proofs.specs.InstSteps.{def_request, ProcessesOperandsAt, none_placed, of_other, one_placed, AllocsInst, ends_block}
use Rattle.regalloc2_fastalloc_proofs.specs.InstSteps.{requirement_of}
use Rattle.regalloc2_fastalloc_proofs.specs.InstSteps.SelectsPlace.{stays, fixed, slot, free}
use Rattle.regalloc2_fastalloc_proofs.proofs.Operands.AllocsSoFar.{AreSoundOperands}
use Rattle.regalloc2_fastalloc_proofs.proofs.BlockEnd.NoMoveForOperand.{IsOutside}
use Rattle.regalloc2_fastalloc_proofs.proofs.BlockEnd.NoMoveInPasses.{NoMoveSoFar}
use Rattle.regalloc2_fastalloc_proofs.proofs.BlockEnd.NoMoveInLastInst.{LateDone, EarlyDone, lates_no_move, earlies_no_move, other_pass, no_move_at_start}
use Rattle.regalloc2_fastalloc_proofs.proofs.Safety.StepsKeepState.{slot_no_register}

-- a constraint under which a definition may be anywhere, or on the stack
abbrev pub IsAnyOrStack : OperandConstraint → Type 0
IsAnyOrStack c = (c ≡ Any) ⊎ (c ≡ Stack)

no_fixed : (c : OperandConstraint) (r : Register) → IsAnyOrStack c → c ≡ FixedReg r → ⊥
no_fixed c r (inl a) e = (let x : Any ≡ FixedReg r = sym a ∙ e in cc)
no_fixed c r (inr s) e = (let x : Stack ≡ FixedReg r = sym s ∙ e in cc)

no_reuse : (c : OperandConstraint) (n : ℕ) → IsAnyOrStack c → c ≡ Reuse n → ⊥
no_reuse c n (inl a) e = (let x : Any ≡ Reuse n = sym a ∙ e in cc)
no_reuse c n (inr s) e = (let x : Stack ≡ Reuse n = sym s ∙ e in cc)

no_wish : (wants : Requirement) → wants ≡ OnStack → (wants ≡ AnyPlace) ⊎ (wants ≡ AnyReg) → ⊥
no_wish wants e (inl a) = (let x : OnStack ≡ AnyPlace = sym e ∙ a in cc)
no_wish wants e (inr a) = (let x : OnStack ≡ AnyReg = sym e ∙ a in cc)

module _ (Known : VirtualRegister → Type 0) (ops : List OperandValue) (sound_ops : AreSoundOperands Known ops) (i : ℕ) (ends_block : Bool)
    (only_at_end : (k : ℕ) → k < length ops → is_def (op_at ops k).kind ≡ true → ends_block ≡ true) (edits : List (ℕ × MoveValue)) where
  -- the definitions that are done are in no register
  abbrev InNone : (ℕ → Type 0) → List Place → Type 0
  InNone D there = (k : ℕ) → k < length ops → D k → is_def (op_at ops k).kind ≡ true → IsAnyOrStack (op_at ops k).constraint → (r : Register) →
      place_at there k ≡ InRegister r → ⊥

  -- an `Any` or `Stack` definition whose vreg is in no register gets no register
  placed_none : (j : ℕ) (p : Place) (t u : InstRegs) (old new : StateValue) → j < length ops → is_def (op_at ops j).kind ≡ true →
      ((r : Register) → alloc_of old.places (op_at ops j).vreg.number ≡ InRegister r → ⊥) →
      AllocsDefOp (after i) (def_request (op_at ops j)) ends_block p t u old new →
      (c : OperandConstraint) → (op_at ops j).constraint ≡ c → IsAnyOrStack c → (r : Register) → p ≡ InRegister r → ⊥
  placed_none j p t u old new less def away d c is (inl any) r at =
      let q = d.gets.expected_in refl (ap requirement_of (is ∙ any)) r at in
      away q.0 q.1
  placed_none j p t u old new less def away d c is (inr stack) r at = by_place (ap requirement_of (is ∙ stack)) d.gets.picks
    where
      by_place : requirement_of (op_at ops j).constraint ≡ OnStack → SelectsPlace t (def_request (op_at ops j)) p old d.gets.middle → ⊥
      by_place wish (stays there suits en) = away r (there ∙ at)
      by_place wish (fixed q wants same en) = (let x : OnStack ≡ InPReg q = sym wish ∙ wants in cc)
      by_place wish (slot wants gives places es machine order) = slot_no_register d.gets.middle.slots.count p r gives.below at
      by_place wish (free q wants away may is_free first same en) = no_wish (requirement_of (op_at ops j).constraint) wish wants

  processes_operand_none : (D E : ℕ → Type 0) (j : ℕ) (here there : List Place) (t u : InstRegs) (old new : StateValue) →
      ProcessesOperand i ends_block ops j here there t u old new →
      j < length ops → ((k : ℕ) → E k → k ≢ j → D k) → length here ≡ length ops →
      ((r : Register) → is_def (op_at ops j).kind ≡ true → alloc_of old.places (op_at ops j).vreg.number ≡ InRegister r → ⊥) → InNone D here → InNone E there
  processes_operand_none D E j here there t u old new (a_register q silent is written eu en) less back long away h k lk done def kind r at = elim
      (cases_eq k j) [
        | inl e ↦ no_fixed (op_at ops k).constraint q kind (ap (λ (x : ℕ). (op_at ops x).constraint) e ∙ is)
        | inr ne ↦ h k lk (back k done ne) def kind r (sym (get_or-set_other here j k (InRegister q) NoPlace ne) ∙ ap (λ l. place_at l k) (sym written) ∙ at)
      ]
  processes_operand_none D E j here there t u old new (a_use p reads places written) less back long away h k lk done def kind r at = elim (cases_eq k j) [
    | inl e ↦ both_ways (is_def (op_at ops k).kind) (ap (λ (x : ℕ). is_def (op_at ops x).kind) e ∙ reads_use (op_at ops j) reads) def
    | inr ne ↦ h k lk (back k done ne) def kind r (sym (get_or-set_other here j k p NoPlace ne) ∙ ap (λ l. place_at l k) (sym written) ∙ at)
  ]
  processes_operand_none D E j here there t u old new (a_def p defines plain places written) less back long away h k lk done def kind r at = elim
      (cases_eq k j) [
        | inl e ↦ placed_none j p t u old new less defines (λ q. away q defines) places (op_at ops j).constraint refl
            (subst (λ (x : ℕ). IsAnyOrStack (op_at ops x).constraint) e kind) r
            (sym (get_or-set_same here j p NoPlace (omega (arith, long, less))) ∙ ap (place_at (set here j p)) (sym e) ∙ ap (λ l. place_at l k) (sym written) ∙ at)
        | inr ne ↦ h k lk (back k done ne) def kind r (sym (get_or-set_other here j k p NoPlace ne) ∙ ap (λ l. place_at l k) (sym written) ∙ at)
      ]
  processes_operand_none D E j here there t u old new (a_reuse n p defines reuses places written) less back long away h k lk done def kind r at = elim
      (cases_eq k j) [
        | inl e ↦ no_reuse (op_at ops k).constraint n kind (ap (λ (x : ℕ). (op_at ops x).constraint) e ∙ reuses)
        | inr ne ↦ elim (cases_eq k n) [
          | inl e ↦ both_ways (is_def (op_at ops k).kind) (ap (λ (x : ℕ). is_def (op_at ops x).kind) e
              ∙ reads_use (op_at ops n) (sound_ops.named j n less reuses).2) def
          | inr other ↦ h k lk (back k done ne) def kind r (sym (get_or-set_other here j k p NoPlace ne) ∙ sym (get_or-set_other (set here j p) n k p NoPlace other)
              ∙ ap (λ l. place_at l k) (sym written) ∙ at)
        ]
      ]

  late_none : (blank : List Place) (t : InstRegs) (old : StateValue) → NoMoveSoFar Known ops sound_ops i ends_block only_at_end true edits (LateDone ops 0) blank t old →
      (k : ℕ) (there : List Place) (u : InstRegs) (m : StateValue) → ProcessesOperandsAt i ends_block true ops blank t old k there u m → k ≤ length ops →
      InNone (LateDone ops k) there
  late_none blank t old c k there u m none_placed le = λ x lx done. absurd (let a = done.0 in omega arith)
  late_none blank t old c k there u m (of_other j l w s prev other) le = λ x lx done.
      late_none blank t old c j there u m prev (omega (arith, le)) x lx (elim (cases_eq x j) [
        | inl e ↦ absurd (other (ap (λ (y : ℕ). is_late (op_at ops y).position) (sym e) ∙ done.1))
        | inr ne ↦ ((let a = done.0 in omega (arith, a, ne)), done.1)
      ])
  late_none blank t old c k there u m (one_placed j l next w x s n prev late one) le =
      let no_move = lates_no_move Known ops sound_ops i ends_block only_at_end edits c prev (omega (arith, le)) in
      processes_operand_none (LateDone ops j) (LateDone ops (j + 1)) j l there w u s m one (omega (arith, le))
      (λ y done ne. ((let a = done.0 in omega (arith, a, ne)), done.1))
      no_move.2 (λ q def. no_move.0.away j q (omega (arith, le)) def) (late_none blank t old c j l w s prev (omega (arith, le)))

  early_none : (half : List Place) (t : InstRegs) (old : StateValue) → NoMoveSoFar Known ops sound_ops i ends_block only_at_end false edits (EarlyDone ops 0) half t old →
      InNone (EarlyDone ops 0) half →
      (k : ℕ) (there : List Place) (u : InstRegs) (m : StateValue) → ProcessesOperandsAt i ends_block false ops half t old k there u m → k ≤ length ops →
      InNone (EarlyDone ops k) there
  early_none half t old c h k there u m none_placed le = h
  early_none half t old c h k there u m (of_other j l w s prev other) le = λ x lx done.
      early_none half t old c h j there u m prev (omega (arith, le)) x lx (elim done [
        | inl late ↦ inl late
        | inr below ↦ elim (cases_eq x j) [
          | inl e ↦ inl (elim (cases_Bool (is_late (op_at ops x).position)) [
            | inl yes_late ↦ yes_late
            | inr early ↦ absurd (other (ap (λ (y : ℕ). is_late (op_at ops y).position) (sym e) ∙ early))
          ])
          | inr ne ↦ inr (omega (arith, below, ne))
        ]
      ])
  early_none half t old c h k there u m (one_placed j l next w x s n prev early one) le =
      let no_move = earlies_no_move Known ops sound_ops i ends_block only_at_end edits c prev (omega (arith, le)) in
      processes_operand_none (EarlyDone ops j) (EarlyDone ops (j + 1)) j l there w u s m one (omega (arith, le))
      (λ y done ne. elim done [ inl late ↦ inl late | inr below ↦ inr (omega (arith, below, ne)) ])
      no_move.2 (λ q def. no_move.0.away j q (omega (arith, le)) def) (early_none half t old c h j l w s prev (omega (arith, le)))

-- at an instruction that ends its block, no `Any` or `Stack` definition is in a register
pub defs_in_slots : {Known : VirtualRegister → Type 0} {i : ℕ} (inst : InstValue) {blank places : List Place} {old new : StateValue} →
    AreSoundOperands Known inst.operands → ends_block inst ≡ true → AllocsInst i inst blank places old new → IsOutside old → (k : ℕ) → k < length inst.operands →
    is_def (op_at inst.operands k).kind ≡ true → IsAnyOrStack (op_at inst.operands k).constraint → (r : Register) → place_at places k ≡ InRegister r → ⊥
defs_in_slots {Known} {i} inst {blank} {places} {old} {new} sound_ops ends a bare k less =
    let ops : List OperandValue = inst.operands in
    let only_at_end : (j : ℕ) → j < length ops → is_def (op_at ops j).kind ≡ true → ends_block inst ≡ true = λ j lj def. ends in
    let start = no_move_at_start Known i inst blank places old new sound_ops only_at_end a bare in
    let late = lates_no_move Known ops sound_ops i (ends_block inst) only_at_end old.edits start a.lates
    (omega arith) in
    early_none Known ops sound_ops i (ends_block inst) only_at_end old.edits a.half a.late a.after_late
    (other_pass Known ops sound_ops i (ends_block inst) only_at_end old.edits a.half a.late a.after_late late)
    (λ x lx done. late_none Known ops sound_ops i (ends_block inst) only_at_end old.edits blank a.quiet a.after_clobbers start (length ops) a.half a.late a.after_late
    a.lates (omega arith) x lx (elim done [ inl yes_late ↦ (lx, yes_late) | inr below ↦ absurd (omega (arith, below)) ]))
    (length ops) places a.early a.after_early a.earlies (omega arith) k less (inr less)
