-- The errors of an instruction, by what holds on every path.
use Rattle.std.proofs.Common.{ℕ, ◌≡◌, true, refl, sym, ap, ◌∙◌, subst, List, ◌++◌, append_assoc, length}
use Rattle.std.specs.Prelude.{◌↔◌, Option, None, Some}
use Rattle.std.specs.Option.{option_to_list}
use Rattle.regalloc2_names.specs.declared.OperandPos.{OperandPos}
use Rattle.regalloc2_names.specs.declared.OperandPos.TheVariants.{Early, Late}
use Rattle.regalloc2_names.specs.Register.{VirtualRegister}
use Rattle.regalloc2_names.specs.Operand.{OperandValue}
use Rattle.regalloc2_names.specs.Place.{Place}
use Rattle.regalloc2_function.specs.FunctionValue.{FunctionValue, inst_at, op_at}
use Rattle.regalloc2_function.specs.Machine.{MachineValue}
use Rattle.regalloc2_function.specs.OutputValue.{OutputValue, MoveValue, allocs_of, place_at}
use Rattle.regalloc2_semantics.specs.Runs.{Location, moves_at}
use Rattle.regalloc2_semantics.specs.Faithful.{HoldsOnPaths}
use Rattle.regalloc2_checker.specs.declared.errors.CheckerError.{CheckerError}
use Rattle.regalloc2_checker.specs.Facts.{Facts, facts_early, facts_after, facts_after_moves, facts_after_early_defs, facts_for}
use Rattle.regalloc2_checker.specs.CheckInputs.{AreFactsKnown}
use Rattle.regalloc2_checker.proofs.TransferFollowsFacts.{IsReadAt}
use Rattle.regalloc2_checker.specs.Report.{AreVRegsInValue, IsValueFault, IsOperandFault, IsFine, AreOperandsJudged, AreMoveFaults, InstReport}
use Rattle.regalloc2_checker.specs.Report.IsValueFault.{unknown, incorrect}
use Rattle.regalloc2_checker.specs.Report.IsOperandFault.{missing, of_value, of_constraint}

-- what places hold, said in two ways
module _ (A B : VirtualRegister → Type 0) (h : (v : VirtualRegister) → A v ↔ B v) where
  holders_as : (vs : List VirtualRegister) → AreVRegsInValue A vs → AreVRegsInValue B vs
  holders_as vs a = record { members = λ v. (λ c. (h v).0 ((a.members v).0 c), λ b. (a.members v).1 ((h v).1 b)); rising = a.rising }

  value_as : {T : Type 0} (inst : ℕ) (op : OperandValue) (p : Place) (e : CheckerError T) → IsValueFault inst op p A e → IsValueFault inst op p B e
  value_as inst op p _ (unknown n) = unknown (λ v b. n v ((h v).1 b))
  value_as inst op p _ (incorrect n v x actual a) = incorrect (λ b. n ((h op.vreg).1 b)) v ((h v).0 x) actual (holders_as actual.items a)

  fault_as : {T : Type 0} (env : MachineValue) (inst : ℕ) (op : OperandValue) (count : ℕ) (places : List Place) (p : Place) (e : CheckerError T) →
      IsOperandFault env inst op count places p A e → IsOperandFault env inst op count places p B e
  fault_as env inst op count places p _ (missing m) = missing m
  fault_as env inst op count places p _ (of_value e there reads v) = of_value e there reads (value_as inst op p e v)
  fault_as env inst op count places p _ (of_constraint e there held c) = of_constraint e there (λ r. (h op.vreg).0 (held r)) c

  fine_as : (env : MachineValue) (op : OperandValue) (count : ℕ) (places : List Place) (p : Place) → IsFine env op count places p A →
      IsFine env op count places p B
  fine_as env op count places p f = record { value = λ r. (h op.vreg).0 (f.value r); constraint = f.constraint }

-- the first error among a position's operands depends on what places hold only by which vregs' values they hold
pub judged_as : {T : Type 0} (env : MachineValue) (inst : ℕ) (os : List OperandValue) (ps : List Place) (position : OperandPos)
    (A B : Place → VirtualRegister → Type 0) (h : (p : Place) (v : VirtualRegister) → A p v ↔ B p v)
    (r : Option (CheckerError T)) → AreOperandsJudged env inst os ps position A r → AreOperandsJudged env inst os ps position B r
judged_as env inst os ps position A B h None j = λ k less at. fine_as (A (place_at ps k)) (B (place_at ps k)) (h (place_at ps k)) env (op_at os k)
    (length os) ps (place_at ps k) (j k less at)
judged_as env inst os ps position A B h (Some e) (k, less, at, before, f) = (
  k,
  less,
  at,
  λ i l a. fine_as (A (place_at ps i)) (B (place_at ps i)) (h (place_at ps i)) env (op_at os i) (length os) ps (place_at ps i) (before i l a),
  fault_as (A (place_at ps k)) (B (place_at ps k)) (h (place_at ps k)) env inst (op_at os k) (length os) ps (place_at ps k) e f,
)

-- what holds where early uses are read
pub early_run : (f : FunctionValue) (o : OutputValue) (b i : ℕ) (F E : Facts) (ms : List MoveValue) (ps : List Place) (os : List OperandValue) →
    ms ≡ moves_at f o (record { block = b; inst = i }) → ps ≡ allocs_of o i → os ≡ (inst_at f i).operands →
    E ≡ facts_after_early_defs ps 0 os (facts_after_moves ms F) → E ≡ facts_early f o (record { block = b; inst = i }) F
early_run f o b i F E ms ps os em ep eo e = rw (e, em, ep, eo) refl

-- what is known holds
known_early : (f : FunctionValue) (o : OutputValue) (l : Location) (E F : Facts) → E ≡ facts_early f o l F →
    AreFactsKnown f o l F → (p : Place) (v : VirtualRegister) → (E p v ≡ true) ↔ HoldsOnPaths f o l Early p v
unfolding facts_for
known_early f o l E F same known p v =
    let at : E p v ≡ facts_early f o l F p v = ap (λ (X : Facts). X p v) same in (λ t. (known Early p v).0 (sym at ∙ t), λ h. at ∙ (known Early p v).1 h)

known_late : (f : FunctionValue) (o : OutputValue) (l : Location) (E F : Facts) → E ≡ facts_after f o l F →
    AreFactsKnown f o l F → (p : Place) (v : VirtualRegister) → (E p v ≡ true) ↔ HoldsOnPaths f o l Late p v
unfolding facts_for
known_late f o l E F same known p v =
    let at : E p v ≡ facts_after f o l F p v = ap (λ (X : Facts). X p v) same in (λ t. (known Late p v).0 (sym at ∙ t), λ h. at ∙ (known Late p v).1 h)

-- an instruction, as it was checked: the errors of its moves, and the one of its operands at each position, with the facts E and L there
pub record InstJudged (T : Type 0) (env : MachineValue) (i : ℕ) (ms : List MoveValue) (ps : List Place) (os : List OperandValue) (E L : Facts) : Type 0 where
  pub of_moves : List (CheckerError T)
  pub early : Option (CheckerError T)
  pub late : Option (CheckerError T)
  pub moves : AreMoveFaults env ms of_moves
  pub at_early : AreOperandsJudged env i os ps Early (λ p v. E p v ≡ true) early
  pub at_late : AreOperandsJudged env i os ps Late (λ p v. L p v ≡ true) late

-- the errors of an instruction, as they were found
pub inst_report : {T : Type 0} (f : FunctionValue) (env : MachineValue) (o : OutputValue) (l : Location) (E L F : Facts) (ms : List MoveValue) (ps : List Place)
    (os : List OperandValue) → IsReadAt f o l ms ps os → (j : InstJudged T env l.inst ms ps os E L) → E ≡ facts_early f o l F → L ≡ facts_after f o l F →
    AreFactsKnown f o l F → InstReport f env o l (j.of_moves ++ (option_to_list j.early ++ option_to_list j.late))
inst_report f env o l E L F ms ps os r j se sl known = record {
  of_moves = j.of_moves;
  of_early = j.early;
  of_late = j.late;
  moves = subst (λ (xs : List MoveValue). AreMoveFaults env xs j.of_moves) r.moves j.moves;
  early = rw (← r.operands, ← r.places)
      (judged_as env l.inst os ps Early (λ p v. E p v ≡ true) (HoldsOnPaths f o l Early) (known_early f o l E F se known) j.early j.at_early);
  late = rw (← r.operands, ← r.places)
      (judged_as env l.inst os ps Late (λ p v. L p v ≡ true) (HoldsOnPaths f o l Late) (known_late f o l L F sl known) j.late j.at_late);
  all = refl;
}

-- errors added one after the other
pub added_in_turn : {T : Type 0} (old one two three a b c : List T) → one ≡ old ++ a → two ≡ one ++ b → three ≡ two ++ c → three ≡ old ++ (a ++ (b ++ c))
added_in_turn old one two three a b c ea eb ec =
    ec ∙ ap (λ (xs : List _). xs ++ c) (eb ∙ ap (λ (xs : List _). xs ++ b) ea) ∙ append_assoc (old ++ a) b c ∙ append_assoc old a (b ++ c)
