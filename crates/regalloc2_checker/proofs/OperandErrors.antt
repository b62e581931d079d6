-- What the check of operands finds.
use Rattle.std.proofs.Common.{ℕ, ◌≡◌, ◌≢◌, ◌+◌, ◌<◌, ◌≤◌, Bool, true, false, refl, arith, sym, ap, ◌∙◌, subst, List, [], ◌∷◌, ◌++◌, append_assoc, map, take}
use Rattle.std.proofs.Common.{length, get_or, inl, inr}
use Rattle.std.specs.Prelude.{◌↔◌, IsTrue, Contains, Option, None, Some, MatchOption}
use Rattle.std.specs.Option.{is_some}
use Rattle.std.specs.declared.vec.Vec.{Vec}
use Rattle.std.proofs.lemmas.Bool.{cases_lt}
use Rattle.std.proofs.lemmas.List.{get_or_default, append-nil, take_all}
use Rattle.regalloc2_function.specs.FunctionValue.{no_operand, op_at}
use Rattle.regalloc2_names.specs.declared.OperandPos.{OperandPos}
use Rattle.regalloc2_names.specs.Register.{VirtualRegister}
use Rattle.regalloc2_names.specs.Operand.{OperandValue, is_reading}
use Rattle.regalloc2_names.specs.Place.{Place, NoPlace, InRegister, InSlot, is_no_place}
use Rattle.regalloc2_function.specs.declared.listing.Edit.{Edit}
use Rattle.regalloc2_checker.specs.Listing.{listed_move}
use Rattle.regalloc2_function.specs.Machine.{MachineValue}
use Rattle.regalloc2_function.specs.OutputValue.{MoveValue, place_at}
use Rattle.regalloc2_semantics.specs.Faithful.{Meets, IsStackToStack}
use Rattle.regalloc2_checker.specs.declared.errors.CheckerError.{CheckerError}
use Rattle.regalloc2_checker.specs.declared.errors.CheckerError.TheVariants.{MissingAllocation, UnknownValueInAllocation, IncorrectValuesInAllocation}
use Rattle.regalloc2_checker.specs.declared.errors.CheckerError.TheVariants.{StackToStackMove}
use Rattle.regalloc2_checker.specs.Report.{AreVRegsInValue, IsValueFault, IsConstraintFault, IsFineAt, IsFaultAt, AreFineBelow}
use Rattle.regalloc2_checker.specs.Report.{AreOperandsJudged, AreMoveFaults}
use Rattle.regalloc2_checker.specs.Report.IsValueFault.{unknown, incorrect}
use Rattle.regalloc2_checker.specs.Report.IsOperandFault.{missing, of_value, of_constraint}
use Rattle.regalloc2_checker.specs.Report.AreMoveFaults.{none, fault, fine}
use Rattle.regalloc2_checker.proofs.Members.{take_one}

-- a test that fails refutes what it tests
pub not_so : (b : Bool) (P : Type 0) → IsTrue b ↔ P → b ≡ false → P → ⊥
not_so true P h e p = absurd cc
not_so false P h e p = (let z = h.1 p in absurd cc)

-- the place holds no vreg's value, or some vreg's
pub unknown_fault : {A : Type 0} (inst : ℕ) (op : OperandValue) (p : Place) (Has : VirtualRegister → Type 0) (vs : List VirtualRegister) → length vs ≡ 0 →
    AreVRegsInValue Has vs →
    IsValueFault {A = A} inst op p Has (UnknownValueInAllocation inst op p)
unknown_fault inst op p Has vs e h = unknown (λ v x. empty v ((h.members v).1 x))
  where
    empty : (v : VirtualRegister) → Contains vs v → ⊥
    empty v (k, less, at) = omega (arith, less, e)

-- a place that holds some vregs' values but not the operand's vreg is the error that lists these vregs
pub incorrect_fault : {A : Type 0} (inst : ℕ) (op : OperandValue) (p : Place) (Has : VirtualRegister → Type 0) (actual : Vec VirtualRegister A) →
    (length actual.items ≡ 0 → ⊥) → (Has op.vreg → ⊥) → AreVRegsInValue Has actual.items →
    IsValueFault inst op p Has (IncorrectValuesInAllocation inst op p actual)
incorrect_fault inst op p Has actual some other h = by_items actual.items refl
  where
    by_items : (vs : List VirtualRegister) → actual.items ≡ vs → IsValueFault inst op p Has (IncorrectValuesInAllocation inst op p actual)
    by_items [] e = absurd (some (ap length e))
    by_items (v ∷ vs) e = incorrect other v ((h.members v).0 (subst (λ (xs : List VirtualRegister). Contains xs v) (sym e) (0, omega arith, refl))) actual h

-- the operand that was read
pub operand_is : (os : List OperandValue) (k : ℕ) (op : OperandValue) → k < length os → op ≡ get_or os k op → op ≡ op_at os k
operand_is os k op less is = is ∙ get_or_default os k op no_operand less

-- a place that the test for a missing place accepts is the missing one
pub is_missing : (p : Place) → is_no_place p ≡ true → p ≡ NoPlace
is_missing NoPlace h = refl
is_missing (InRegister r) h = absurd cc
is_missing (InSlot n) h = absurd cc

-- a place that the test for a missing place rejects is not the missing one
pub is_there : (p : Place) → is_no_place p ≡ false → p ≢ NoPlace
is_there NoPlace h e = absurd cc
is_there (InRegister r) h e = absurd cc
is_there (InSlot n) h e = absurd cc

module _ {A : Type 0} (env : MachineValue) (inst : ℕ) (os : List OperandValue) (ps : List Place) (Has : Place → VirtualRegister → Type 0) (k : ℕ)
    (op : OperandValue) (p : Place) (eo : op ≡ op_at os k) (ep : p ≡ place_at ps k) where
  -- an operand whose place is missing has the error for that
  pub missing_at : is_no_place p ≡ true → IsFaultAt {A = A} env inst os ps Has k (MissingAllocation inst op)
  missing_at h = rw eo (missing (sym ep ∙ is_missing p h))

  -- an error found in what an operand's place holds is the operand's error
  pub value_at : (r : Option (CheckerError A)) → is_some r ≡ true → p ≢ NoPlace →
      MatchOption r (is_reading op ≡ true → Has p op.vreg) (λ e. (is_reading op ≡ true) × IsValueFault inst op p (Has p) e) →
      MatchOption r (IsFineAt env os ps Has k) (λ e. IsFaultAt env inst os ps Has k e)
  value_at None s there h = absurd cc
  value_at (Some e) s there h = rw (← eo, ← ep) (of_value e there h.0 h.1)

  -- where what the place holds is right, the check of the constraint decides whether the operand is fine or has an error
  pub constraint_at : (q r : Option (CheckerError A)) → is_some q ≡ false → p ≢ NoPlace →
      MatchOption q (is_reading op ≡ true → Has p op.vreg) (λ e. (is_reading op ≡ true) × IsValueFault inst op p (Has p) e) →
      MatchOption r (Meets env (length os) ps op.constraint p) (λ e. IsConstraintFault env inst op (length os) ps p op.constraint e) →
      MatchOption r (IsFineAt env os ps Has k) (λ e. IsFaultAt env inst os ps Has k e)
  constraint_at (Some e) r s there h m = absurd cc
  constraint_at None None s there h m = rw (← eo, ← ep) (record { value = h; constraint = m })
  constraint_at None (Some e) s there h m = rw (← eo, ← ep) (of_constraint e there h m)

-- one operand more
pub fine_more : (env : MachineValue) (os : List OperandValue) (ps : List Place) (position : OperandPos) (Has : Place → VirtualRegister → Type 0) (k : ℕ) →
    AreFineBelow env os ps position Has k →
    ((op_at os k).position ≡ position → IsFineAt env os ps Has k) → AreFineBelow env os ps position Has (k + 1)
fine_more env os ps position Has k h here j less at = elim (cases_lt j k) [
  | inl l ↦ h j l at
  | inr g ↦ (
      let e : k ≡ j = omega arith in
      subst (λ (n : ℕ). (op_at os n).position ≡ position → IsFineAt env os ps Has n) e here at
      )
]

-- where a check finds no error, what it checks for is so
pub fine_of : {A : Type 0} (P : Type 0) (Q : CheckerError A → Type 0) (r : Option (CheckerError A)) → is_some r ≡ false → MatchOption r P Q → P
fine_of P Q None s h = h
fine_of P Q (Some e) s h = absurd cc

-- an error of an operand is the first of its position, if all operands of that position before it are fine
pub judged_some : {A : Type 0} (env : MachineValue) (inst : ℕ) (os : List OperandValue) (ps : List Place) (position : OperandPos)
    (Has : Place → VirtualRegister → Type 0) (k : ℕ) (r : Option (CheckerError A)) → is_some r ≡ true →
    k < length os → (op_at os k).position ≡ position → AreFineBelow env os ps position Has k →
    MatchOption r (IsFineAt env os ps Has k) (λ e. IsFaultAt env inst os ps Has k e) → AreOperandsJudged env inst os ps position Has r
judged_some env inst os ps position Has k None s less at h m = absurd cc
judged_some env inst os ps position Has k (Some e) s less at h m = (k, less, at, h, m)

-- one more move, which is an error or not
faults_more : {A : Type 0} (env : MachineValue) (ms : List MoveValue) (es : List (CheckerError A)) (m : MoveValue) → IsStackToStack env m →
    AreMoveFaults env ms es → AreMoveFaults env (ms ++ (m ∷ [])) (es ++ (StackToStackMove m.to m.from ∷ []))
faults_more env _ _ m s none = fault m [] [] s none
faults_more env _ _ m s (fault n ns es h r) = fault n (ns ++ (m ∷ [])) _ h (faults_more env ns es m s r)
faults_more env _ _ m s (fine n ns es h r) = fine n (ns ++ (m ∷ [])) _ h (faults_more env ns es m s r)

fine_more_moves : {A : Type 0} (env : MachineValue) (ms : List MoveValue) (es : List (CheckerError A)) (m : MoveValue) → (IsStackToStack env m → ⊥) →
    AreMoveFaults env ms es → AreMoveFaults env (ms ++ (m ∷ [])) es
fine_more_moves env _ _ m s none = fine m [] [] s none
fine_more_moves env _ _ m s (fault n ns es h r) = fault n (ns ++ (m ∷ [])) _ h (fine_more_moves env ns es m s r)
fine_more_moves env _ _ m s (fine n ns es h r) = fine n (ns ++ (m ∷ [])) _ h (fine_more_moves env ns es m s r)

-- what was added to a list of errors by moves
pub record AreAdded {A : Type 0} (env : MachineValue) (ms : List MoveValue) (old new : List (CheckerError A)) : Type 0 where
  pub added : List (CheckerError A)
  pub all : new ≡ old ++ added
  pub faults : AreMoveFaults env ms added

-- before any move is checked no error is added
pub added_none : {A : Type 0} (env : MachineValue) (old : List (CheckerError A)) → AreAdded env [] old old
added_none env old = record { added = []; all = sym (append-nil old); faults = none }

moves_one : (es : List (ℕ × Edit)) (k : ℕ) (e : ℕ × Edit) → k < length es → e ≡ get_or es k e → map listed_move (take (k + 1) es) ≡ map listed_move (take k es)
    ++ (listed_move e ∷ [])
moves_one es k e less is = ap (λ (xs : List (ℕ × Edit)). map listed_move xs) (take_one es k e less is) ∙ mapped (take k es)
  where
    mapped : (xs : List (ℕ × Edit)) → map listed_move (xs ++ (e ∷ [])) ≡ map listed_move xs ++ (listed_move e ∷ [])
    mapped [] = refl
    mapped (x ∷ xs) = ap (λ (ys : List MoveValue). listed_move x ∷ ys) (mapped xs)

-- checking one move more that is not between two stack places adds no error
pub added_fine : {A : Type 0} (env : MachineValue) (es : List (ℕ × Edit)) (k : ℕ) (e : ℕ × Edit) (old new : List (CheckerError A)) → k < length es → e ≡ get_or es k e →
    (IsStackToStack env (listed_move e) → ⊥) →
    AreAdded env (map listed_move (take k es)) old new → AreAdded env (map listed_move (take (k + 1) es)) old new
added_fine env es k e old new less is other h = rw (moves_one es k e less is)
    (record { added = h.added; all = h.all; faults = fine_more_moves env (map listed_move (take k es)) h.added (listed_move e) other h.faults })

-- checking one move more that is between two stack places appends its error
pub added_fault : {A : Type 0} (env : MachineValue) (es : List (ℕ × Edit)) (k : ℕ) (e : ℕ × Edit) (old new newer : List (CheckerError A)) → k < length es →
    e ≡ get_or es k e → IsStackToStack env (listed_move e) →
    newer ≡ new ++ (StackToStackMove (listed_move e).to (listed_move e).from ∷ []) → AreAdded env (map listed_move (take k es)) old new →
    AreAdded env (map listed_move (take (k + 1) es)) old newer
added_fault env es k e old new newer less is so pushed h = rw (moves_one es k e less is) (record {
  added = h.added ++ (StackToStackMove (listed_move e).to (listed_move e).from ∷ []);
  all = pushed ∙ ap (λ (xs : List (CheckerError _)). xs ++ (StackToStackMove (listed_move e).to (listed_move e).from ∷ [])) h.all ∙ append_assoc old h.added _;
  faults = faults_more env (map listed_move (take k es)) h.added (listed_move e) so h.faults;
})

-- once as many moves are checked as there are, the errors of all of them are added
pub added_all : {A : Type 0} (env : MachineValue) (es : List (ℕ × Edit)) (k : ℕ) (old new : List (CheckerError A)) → length es ≤ k →
    AreAdded env (map listed_move (take k es)) old new → AreAdded env (map listed_move es) old new
added_all env es k old new less h = subst (λ (xs : List (ℕ × Edit)). AreAdded env (map listed_move xs) old new) (take_all k es less) h
