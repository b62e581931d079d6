-- An output without errors is a faithful one.
use Rattle.std.proofs.Common.{ℕ, zero, suc, ◌≡◌, ◌+◌, ◌-◌, ◌<◌, ◌≤◌, inl, inr, true, List, [], ◌∷◌, ◌++◌, length, refl, sym, ap, ◌∙◌, subst, arith}
use Rattle.std.specs.Prelude.{◌↔◌, All, Option, None, Some, IsSome}
use Rattle.std.specs.Option.{option_to_list}
use Rattle.std.proofs.lemmas.Bool.{cases_lt}
use Rattle.std.proofs.lemmas.List.{get_or_default}
use Rattle.std.proofs.lemmas.List.Elements.{All-cons}
use Rattle.regalloc2_names.specs.declared.OperandConstraint.{OperandConstraint}
use Rattle.regalloc2_names.specs.declared.OperandConstraint.TheVariants.{Any, Reg, Stack, FixedReg, Reuse, Limit}
use Rattle.regalloc2_names.specs.declared.OperandPos.{OperandPos}
use Rattle.regalloc2_names.specs.declared.OperandPos.TheVariants.{Early, Late}
use Rattle.regalloc2_names.specs.Register.{VirtualRegister}
use Rattle.regalloc2_names.specs.Operand.{OperandValue, is_reading}
use Rattle.regalloc2_names.specs.Place.{Place, NoPlace, InRegister, InSlot}
use Rattle.regalloc2_function.specs.FunctionValue.{FunctionValue, block_at, inst_at, no_operand, op_at}
use Rattle.regalloc2_function.specs.Machine.{MachineValue}
use Rattle.regalloc2_function.specs.OutputValue.{OutputValue, MoveValue, allocs_of, place_at}
use Rattle.regalloc2_semantics.specs.Runs.{Way, Location, end_of, IsPath, source_read, moves_at, allocated_read, IsReached}
use Rattle.regalloc2_semantics.specs.Laws.{ReadsAgree}
use Rattle.regalloc2_semantics.specs.Faithful.{Meets, ConstraintsMet, IsStackToStack, IsFaithful, HoldsOnPaths, cell_at}
use Rattle.regalloc2_function.specs.WellFormed.{IsFramed}
use Rattle.regalloc2_checker.specs.declared.errors.CheckerError.{CheckerError}
use Rattle.regalloc2_checker.specs.Fixpoint.{IsReachedBlock, nth_of}
use Rattle.regalloc2_checker.specs.Report.{IsValueFault, IsConstraintFault, IsOperandFault, IsFine, IsFineAt, AreFineBelow, AreOperandsJudged}
use Rattle.regalloc2_checker.specs.Report.{AreMoveFaults, InstReport, InstReports, BlockReport, BlockReports, IsReport}
use Rattle.regalloc2_checker.proofs.Fixpoint.{reached_block, from_first, located, reached_within}
use Rattle.regalloc2_checker.proofs.FixpointDecides.{block_within, before_end}

-- lists that append to the empty list are empty
left_none : {X : Type 0} (xs ys : List X) → xs ++ ys ≡ [] → xs ≡ []
left_none [] ys e = refl
left_none (x ∷ xs) ys e = absurd (let z : suc (length (xs ++ ys)) ≡ 0 = ap length e in omega arith)

right_none : {X : Type 0} (xs ys : List X) → xs ++ ys ≡ [] → ys ≡ []
right_none [] ys e = e
right_none (x ∷ xs) ys e = absurd (let z : suc (length (xs ++ ys)) ≡ 0 = ap length e in omega arith)

is_none : {X : Type 0} (x : Option X) → option_to_list x ≡ [] → x ≡ None
is_none None e = refl
is_none (Some x) e = absurd (let z : ◌≡◌ {A = ℕ} 1 0 = ap length e in omega (arith, z))

-- moves without errors
no_move_faults : {A : Type 0} (env : MachineValue) (ms : List MoveValue) (es : List (CheckerError A)) → AreMoveFaults env ms es → es ≡ [] →
    All (λ m. IsStackToStack env m → ⊥) ms
no_move_faults env [] es AreMoveFaults.none e = λ k d less. absurd (omega arith)
no_move_faults env (m ∷ ms) es (AreMoveFaults.fault _ _ fs s rest) e = absurd (let z : suc (length fs) ≡ 0 = ap length e in omega arith)
no_move_faults env (m ∷ ms) es (AreMoveFaults.fine _ _ _ free rest) e = All-cons (λ m. IsStackToStack env m → ⊥) m ms free (no_move_faults env ms es rest e)

fine_moves : {A : Type 0} (env : MachineValue) (ms : List MoveValue) (es : List (CheckerError A)) → AreMoveFaults env ms es →
    All (λ m. IsStackToStack env m → ⊥) ms → es ≡ []
fine_moves env [] es AreMoveFaults.none h = refl
fine_moves env (m ∷ ms) es (AreMoveFaults.fault _ _ fs s rest) h = absurd (h 0 m (omega arith) s)
fine_moves env (m ∷ ms) es (AreMoveFaults.fine _ _ _ free rest) h = fine_moves env ms es rest (λ k d less. h (suc k) d (omega arith))

-- a missing place meets no constraint
missing_unmet : (env : MachineValue) (count : ℕ) (places : List Place) (c : OperandConstraint) → Meets env count places c NoPlace → ⊥
missing_unmet env count places Any m = m refl
missing_unmet env count places Reg m = m
missing_unmet env count places Stack m = m
missing_unmet env count places (FixedReg r) m = absurd cc
missing_unmet env count places (Reuse n) m = m.0
missing_unmet env count places (Limit n) m = m.0

unmet : {A : Type 0} (env : MachineValue) (inst : ℕ) (op : OperandValue) (count : ℕ) (places : List Place) (p : Place) (c : OperandConstraint)
    (e : CheckerError A) →
    IsConstraintFault env inst op count places p c e → Meets env count places c p → ⊥
unmet env inst op count places p c e (IsConstraintFault.no_register h) m = h m
unmet env inst op count places p c e (IsConstraintFault.no_stack h) m = h m
unmet env inst op count places p c e (IsConstraintFault.not_fixed r h) m = h m
unmet env inst op count places NoPlace c e (IsConstraintFault.reuses_no_register n q) m = m.0
unmet env inst op count places (InRegister r) c e (IsConstraintFault.reuses_no_register n q) m = absurd cc
unmet env inst op count places (InSlot s) c e (IsConstraintFault.reuses_no_register n q) m = m.0
unmet env inst op count places p c e (IsConstraintFault.reuses_no_operand n q le) m = (let l : n < count = m.1 in omega arith)
unmet env inst op count places p c e (IsConstraintFault.not_reused n q l h) m = h m.2
unmet env inst op count places p c e (IsConstraintFault.limits_no_register n h) m = h m.0
unmet env inst op count places NoPlace c e (IsConstraintFault.past_limit n plain h) m = m.1
unmet env inst op count places (InRegister r) c e (IsConstraintFault.past_limit n plain h) m = h m.1
unmet env inst op count places (InSlot s) c e (IsConstraintFault.past_limit n plain h) m = m.1

no_value_fault : {A : Type 0} (inst : ℕ) (op : OperandValue) (p : Place) (Has : VirtualRegister → Type 0) (e : CheckerError A) → IsValueFault inst op p Has e →
    Has op.vreg → ⊥
no_value_fault inst op p Has e (IsValueFault.unknown none) h = none op.vreg h
no_value_fault inst op p Has e (IsValueFault.incorrect none v other actual are) h = none h

-- an operand has an error or none
fault_fine : {A : Type 0} (env : MachineValue) (inst : ℕ) (op : OperandValue) (count : ℕ) (places : List Place) (p : Place) (Has : VirtualRegister → Type 0)
    (e : CheckerError A) →
    IsOperandFault env inst op count places p Has e → IsFine env op count places p Has → ⊥
fault_fine env inst op count places p Has e (IsOperandFault.missing q) h = missing_unmet env count places op.constraint
    (subst (λ (x : Place). Meets env count places op.constraint x) q h.constraint)
fault_fine env inst op count places p Has e (IsOperandFault.of_value _ n r v) h = no_value_fault inst op p Has e v (h.value r)
fault_fine env inst op count places p Has e (IsOperandFault.of_constraint _ n r c) h = unmet env inst op count places p op.constraint e c h.constraint

none_judged : {A : Type 0} (env : MachineValue) (inst : ℕ) (ops : List OperandValue) (places : List Place) (position : OperandPos)
    (Has : OperandPos → Place → VirtualRegister → Type 0) (r : Option (CheckerError A)) →
    ((k : ℕ) → k < length ops → IsFineAt env ops places (Has (op_at ops k).position) k) → AreOperandsJudged env inst ops places position (Has position)
    r → r ≡ None
none_judged env inst ops places position Has None h j = refl
none_judged env inst ops places position Has (Some e) h (k, less, at, below, fault) =
    absurd (fault_fine env inst (op_at ops k) (length ops) places (place_at places k) (Has position (place_at places k)) e fault
    (subst (λ (q : OperandPos). IsFineAt env ops places (Has q) k) at (h k less)))

-- an instruction without errors
fine_at : {A : Type 0} (f : FunctionValue) (env : MachineValue) (o : OutputValue) (l : Location) (r : InstReport {A = A} f env o l []) → (k : ℕ) →
    k < length (inst_at f l.inst).operands →
    IsFineAt env (inst_at f l.inst).operands (allocs_of o l.inst) (HoldsOnPaths f o l (op_at (inst_at f l.inst).operands k).position) k
fine_at f env o l r k less =
    let operands : List OperandValue = (inst_at f l.inst).operands in
    let none = right_none r.of_moves (option_to_list r.of_early ++ option_to_list r.of_late) (sym r.all) in
    let early = subst (λ (x : Option (CheckerError _)). AreOperandsJudged env l.inst operands (allocs_of o l.inst) Early (HoldsOnPaths f o l Early) x)
    (is_none r.of_early (left_none _ _ none)) r.early in
    let late = subst (λ (x : Option (CheckerError _)). AreOperandsJudged env l.inst operands (allocs_of o l.inst) Late (HoldsOnPaths f o l Late) x)
    (is_none r.of_late (right_none (option_to_list r.of_early) _ none)) r.late in
    pick f env o l k less early late (op_at operands k).position refl
  where
    pick : (f : FunctionValue) (env : MachineValue) (o : OutputValue) (l : Location) (k : ℕ) → k < length (inst_at f l.inst).operands →
        AreFineBelow env (inst_at f l.inst).operands (allocs_of o l.inst) Early (HoldsOnPaths f o l Early) (length (inst_at f l.inst).operands) →
        AreFineBelow env (inst_at f l.inst).operands (allocs_of o l.inst) Late (HoldsOnPaths f o l Late) (length (inst_at f l.inst).operands) →
        (p : OperandPos) → (op_at (inst_at f l.inst).operands k).position ≡ p →
        IsFineAt env (inst_at f l.inst).operands (allocs_of o l.inst) (HoldsOnPaths f o l p) k
    pick f env o l k less early late Early e = early k less e
    pick f env o l k less early late Late e = late k less e

step_faithful : {A : Type 0} (f : FunctionValue) (env : MachineValue) (o : OutputValue) (ws : List Way) → IsPath f ws →
    InstReport {A = A} f env o (end_of f ws) [] →
    ReadsAgree f o ws × ConstraintsMet f env o (end_of f ws).inst × All (λ m. IsStackToStack env m → ⊥) (moves_at f o (end_of f ws))
step_faithful f env o ws h r =
    let l : Location = end_of f ws in (
      λ k less reads. let x = (fine_at f env o l r k less).value reads ws h refl in (rw x.1 at x.0, x.1),
      λ k less. (fine_at f env o l r k less).constraint,
      no_move_faults env (moves_at f o l) r.of_moves r.moves (left_none r.of_moves _ (sym r.all)),
    )

inst_moved : {A : Type 0} (f : FunctionValue) (env : MachineValue) (o : OutputValue) (l m : Location) → l ≡ m → InstReport {A = A} f env o l [] →
    InstReport {A = A} f env o m []
inst_moved f env o l m e r = rw (← e) r

block_moved : {A : Type 0} (f : FunctionValue) (env : MachineValue) (o : OutputValue) (b c : ℕ) → b ≡ c → BlockReport {A = A} f env o b [] →
    BlockReport {A = A} f env o c []
block_moved f env o b c e r = rw (← e) r

-- the report of an instruction, of a block
nth_report : {A : Type 0} (f : FunctionValue) (env : MachineValue) (o : OutputValue) (b n : ℕ) (es : List (CheckerError A)) → InstReports f env o b n es →
    es ≡ [] → (k : ℕ) → k < n → InstReport {A = A} f env o (nth_of f b k) []
nth_report f env o b zero es InstReports.none e k less = absurd (omega arith)
nth_report f env o b (suc n) es (InstReports.next _ xs ys rs r) e k less = elim (cases_lt k n) [
  | inl l ↦ nth_report f env o b n xs rs (left_none xs ys e) k l
  | inr l ↦ (let q : n ≡ k = omega arith in
      inst_moved f env o (nth_of f b n) (nth_of f b k) (rw q refl) (subst (λ (zs : List (CheckerError _)). InstReport f env o (nth_of f b n) zs)
      (right_none xs ys e) r))
]

block_report : {A : Type 0} (f : FunctionValue) (env : MachineValue) (o : OutputValue) (n : ℕ) (es : List (CheckerError A)) → BlockReports f env o n es →
    es ≡ [] → (b : ℕ) → b < n → BlockReport {A = A} f env o b []
block_report f env o zero es BlockReports.none e b less = absurd (omega arith)
block_report f env o (suc n) es (BlockReports.next _ xs ys rs r) e b less = elim (cases_lt b n) [
  | inl l ↦ block_report f env o n xs rs (left_none xs ys e) b l
  | inr l ↦ (let q : n ≡ b = omega arith in
      block_moved f env o n b q (subst (λ (zs : List (CheckerError _)). BlockReport f env o n zs) (right_none xs ys e) r))
]

report_steps : {A : Type 0} (f : FunctionValue) (env : MachineValue) (o : OutputValue) (es : List (CheckerError A)) → IsFramed f → IsReport f env o es →
    es ≡ [] → (ws : List Way) → IsPath f ws →
    ReadsAgree f o ws × ConstraintsMet f env o (end_of f ws).inst × All (λ m. IsStackToStack env m → ⊥) (moves_at f o (end_of f ws))
report_steps f env o es ok r e ws h =
    let l : Location = end_of f ws in
    let first : ℕ = (block_at f l.block).range.first in
    let low : first ≤ l.inst = from_first f ws h in
    let high : l.inst < (block_at f l.block).range.end = before_end f ok ws h in
    let n : ℕ = l.inst - first in
    let at : nth_of f l.block n ≡ l = located l.block (first + n) l.inst (omega arith) in
    let block = block_report f env o (length f.blocks) es r e l.block (block_within f ok ws h) in
    let inst = nth_report f env o l.block ((block_at f l.block).range.end - first) [] (block.reached (reached_block f ws h)) refl n (omega arith) in
    step_faithful f env o ws h (inst_moved f env o (nth_of f l.block n) l at inst)

report_faithful : {A : Type 0} (f : FunctionValue) (env : MachineValue) (o : OutputValue) (es : List (CheckerError A)) → IsFramed f → IsReport f env o es →
    es ≡ [] → IsFaithful f env o
report_faithful f env o es ok r e =
    let s = report_steps f env o es ok r e in record { reads = λ ws h. (s ws h).0; constraints = λ ws h. (s ws h).1; moves = λ ws h. (s ws h).2 }

-- an instruction that a path reaches, of a faithful output
fine_reached : (f : FunctionValue) (env : MachineValue) (o : OutputValue) → IsFaithful f env o → (l : Location) → IsReached f l → (k : ℕ) →
    k < length (inst_at f l.inst).operands →
    IsFineAt env (inst_at f l.inst).operands (allocs_of o l.inst) (HoldsOnPaths f o l (op_at (inst_at f l.inst).operands k).position) k
fine_reached f env o h l r k less = record {
  value = λ reads ws p e. held ws p e reads;
  constraint = subst (λ (m : Location). k < length (inst_at f m.inst).operands →
      Meets env (length (inst_at f m.inst).operands) (allocs_of o m.inst) (op_at (inst_at f m.inst).operands k).constraint
      (place_at (allocs_of o m.inst) k)) r.2
      (h.constraints r.0 r.1 k) less;
}
  where
    held : (ws : List Way) → IsPath f ws → (e : end_of f ws ≡ l) → is_reading (op_at (inst_at f l.inst).operands k) ≡ true →
        IsSome (cell_at f o ws (op_at (inst_at f l.inst).operands k).position (place_at (allocs_of o l.inst) k))
        × (cell_at f o ws (op_at (inst_at f l.inst).operands k).position (place_at (allocs_of o l.inst) k) ≡ source_read f ws
        (op_at (inst_at f l.inst).operands k))
    held ws p e reads = subst (λ (m : Location). k < length (inst_at f m.inst).operands → is_reading (op_at (inst_at f m.inst).operands k) ≡ true →
        IsSome (cell_at f o ws (op_at (inst_at f m.inst).operands k).position (place_at (allocs_of o m.inst) k))
        × (cell_at f o ws (op_at (inst_at f m.inst).operands k).position (place_at (allocs_of o m.inst) k) ≡ source_read f ws
        (op_at (inst_at f m.inst).operands k))) e
        (λ less reads. let x = h.reads ws p k less reads in (rw (sym x.1) at x.0, x.1)) less reads

no_inst_errors : {A : Type 0} (f : FunctionValue) (env : MachineValue) (o : OutputValue) → IsFaithful f env o → (l : Location) → IsReached f l →
    (es : List (CheckerError A)) → InstReport f env o l es → es ≡ []
no_inst_errors f env o h l w es r =
    let operands : List OperandValue = (inst_at f l.inst).operands in
    let moves : All (λ m. IsStackToStack env m → ⊥) (moves_at f o l) = subst (λ (m : Location). All (λ m. IsStackToStack env m → ⊥) (moves_at f o m)) w.2
    (h.moves w.0 w.1) in
    let early = none_judged env l.inst operands (allocs_of o l.inst) Early (HoldsOnPaths f o l) r.of_early (fine_reached f env o h l w) r.early in
    let late = none_judged env l.inst operands (allocs_of o l.inst) Late (HoldsOnPaths f o l) r.of_late (fine_reached f env o h l w) r.late in
    r.all ∙ rw (fine_moves env (moves_at f o l) r.of_moves r.moves moves, early, late) refl

no_errors_within : {A : Type 0} (f : FunctionValue) (env : MachineValue) (o : OutputValue) → IsFaithful f env o → (b : ℕ) → IsReachedBlock f b → (n : ℕ) →
    (block_at f b).range.first + n ≤ (block_at f b).range.end →
    (es : List (CheckerError A)) → InstReports f env o b n es → es ≡ []
no_errors_within f env o h b w zero le es InstReports.none = refl
no_errors_within f env o h b w (suc n) le es (InstReports.next _ xs ys rs r) =
    rw (no_errors_within f env o h b w n (omega arith) xs rs, no_inst_errors f env o h (nth_of f b n) (reached_within f b w n (omega arith)) ys r) refl

no_block_errors : {A : Type 0} (f : FunctionValue) (env : MachineValue) (o : OutputValue) → IsFramed f → IsFaithful f env o → (b : ℕ) → b < length f.blocks →
    (es : List (CheckerError A)) → BlockReport f env o b es → es ≡ []
no_block_errors f env o ok h b less [] r = refl
no_block_errors f env o ok h b less (x ∷ xs) r = r.unreached (λ w.
    let some = (ok.follow b less).0 in
    let none : (x ∷ xs) ≡ [] = no_errors_within f env o h b w ((block_at f b).range.end - (block_at f b).range.first) (omega arith) (x ∷ xs) (r.reached w) in
    let z : suc (length xs) ≡ 0 = ap length none in omega arith)

faithful_report : {A : Type 0} (f : FunctionValue) (env : MachineValue) (o : OutputValue) → IsFramed f → IsFaithful f env o → (n : ℕ) → n ≤ length f.blocks →
    (es : List (CheckerError A)) → BlockReports f env o n es → es ≡ []
faithful_report f env o ok h zero le es BlockReports.none = refl
faithful_report f env o ok h (suc n) le es (BlockReports.next _ xs ys rs r) =
    rw (faithful_report f env o ok h n (omega arith) xs rs, no_block_errors f env o ok h n (omega arith) ys r) refl

-- an output of a structurally valid function (`IsFramed`) is faithful exactly where its report has no errors
pub report_verdict : {A : Type 0} (f : FunctionValue) (env : MachineValue) (o : OutputValue) (es : List (CheckerError A)) → IsFramed f → IsReport f env o es →
    (es ≡ []) ↔ IsFaithful f env o
report_verdict f env o es ok r = (report_faithful f env o es ok r, λ h. faithful_report f env o ok h (length f.blocks) (omega arith) es r)
