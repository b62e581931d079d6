-- Why an output isn't accepted, from what the checker and the test of cells find.
use Rattle.std.proofs.Common.{ℕ, suc, ◌≡◌, ◌⊎◌, inl, inr, List, [], ◌∷◌, length, Result, Ok, Err, refl, sym, subst, ap, arith, true, false, nat_eq, eqb-true}
use Rattle.std.specs.Prelude.{OnOk, IfOk, IfErr}
use Rattle.std.specs.Global.{Vec}
use Rattle.std.specs.declared.alloc.Global.{Global}
use Rattle.regalloc2.specs.FunctionValue.{FunctionValue}
use Rattle.regalloc2.specs.Machine.{MachineValue}
use Rattle.regalloc2.specs.OutputValue.{OutputValue, IsInOrder}
use Rattle.regalloc2.specs.Faithful.{IsFaithful}
use Rattle.regalloc2.specs.Report.{IsReport}
use Rattle.regalloc2.specs.Stored.{NamesValues}
use Rattle.regalloc2_checker.specs.Cells.{AreCells}
use Rattle.regalloc2_checker.specs.CellFaults.{IsCellFault}
use Rattle.regalloc2_checker.specs.declared.cells.CellFault.{CellFault}
use Rattle.regalloc2_checker.specs.declared.cells.CellFault.TheVariants.{Operand, MoveEnd, OtherClass, Location, Slot, Shared, Memory as CellMemory}
use Rattle.regalloc2_checker.specs.declared.errors.CheckerError.{CheckerError}
use Rattle.regalloc2_checker.specs.declared.errors.CheckerError.TheVariants.{MalformedOutput, Memory as CheckerMemory}
use Rattle.regalloc2_function.specs.declared.serialize.StoredOutput.{StoredOutput}
use Rattle.regalloc2_c.specs.Faults.{IsFaultsTold, IsPrepareFailure, IsErrorsFailure, IsCellsTold, IsCheckerVerdict, IsVerdict, faults_words, malformed_words}
use Rattle.regalloc2_c.specs.Outcome.{NumbersNameOutput, IsOutput, IsAcceptedOutput, IsCheckFailure, IsNoStoredOutput, NamesNoOutput}
use Rattle.regalloc2_c.specs.declared.failure.Failure.{Failure}
use Rattle.regalloc2_c.specs.declared.failure.Failure.TheVariants.{Unreadable, BadMachine, NoRoom, Faults, NoMemory, NotFramed, BadOutput}
use Rattle.regalloc2_c.specs.declared.failure.Failure.TheVariants.{ReadBeforeWritten, BadText, BadFunction, Refused}

-- a list of errors is empty, or isn't, by a test of its length
pub no_errors : {X : Type 0} (xs : List X) (n : ℕ) → length xs ≡ n → nat_eq n 0 ≡ true → xs ≡ []
no_errors [] n l e = refl
no_errors (x ∷ xs) n l e = absurd (let z : n ≡ 0 = eqb-true n 0 e in omega arith)

pub some_errors : {X : Type 0} (xs : List X) (n : ℕ) → length xs ≡ n → nat_eq n 0 ≡ false → xs ≡ [] → ⊥
some_errors [] n l e z = (let q : nat_eq 0 0 ≡ false = subst (λ (k : ℕ). nat_eq k 0 ≡ false) (sym l) e in absurd cc)
some_errors (x ∷ xs) n l e z = (let q : suc (length xs) ≡ 0 = ap length z in omega arith)

-- an output that isn't in order
malformed : (f : FunctionValue) (env : MachineValue) (out : OutputValue) (failure : Failure) → (IsInOrder f out → ⊥) →
    IsFaultsTold malformed_words failure → IsCheckerVerdict f env out failure
malformed f env out failure bad (inl lost) = inl lost
malformed f env out failure bad (inr t) = inr (t.0, t.1, inl (bad, t.2))

pub unprepared : (f : FunctionValue) (env : MachineValue) (out : OutputValue) (e : CheckerError Global) (failure : Failure) →
    ((e ≡ MalformedOutput) × (IsInOrder f out → ⊥)) ⊎ ((e ≡ CheckerMemory) × IsInOrder f out) → IsPrepareFailure e failure →
    IsCheckerVerdict f env out failure
unprepared f env out e failure m (inl lost) = inl lost.1
unprepared f env out e failure (inl m) (inr q) = malformed f env out failure m.1 q.1
unprepared f env out e failure (inr m) (inr q) = absurd (q.0 m.0)

-- an output that isn't faithful
unfaithful : (f : FunctionValue) (env : MachineValue) (out : OutputValue) (es : List (CheckerError Global)) (failure : Failure) → IsInOrder f out →
    (IsFaithful f env out → ⊥) → IsReport f env out es → IsFaultsTold (faults_words f out es) failure → IsCheckerVerdict f env out failure
unfaithful f env out es failure order bad report (inl lost) = inl lost
unfaithful f env out es failure order bad report (inr t) = inr (t.0, t.1, inr (order, bad, es, report, t.2))

pub told : (f : FunctionValue) (env : MachineValue) (out : OutputValue) (es : List (CheckerError Global)) (failure : Failure) → IsInOrder f out →
    (es ≡ CheckerMemory ∷ []) ⊎ ((IsFaithful f env out → ⊥) × IsReport f env out es) → IsErrorsFailure f out es failure →
    IsCheckerVerdict f env out failure
told f env out es failure order p (inl q) = inl q.1
told f env out es failure order (inl e) (inr q) = absurd (q.0 e)
told f env out es failure order (inr r) (inr q) = unfaithful f env out es failure order r.0 r.1 q.1

-- what the checker doesn't accept isn't accepted
faulty : (f : FunctionValue) (env : MachineValue) (out : OutputValue) (e : Failure) (v : Vec ℕ) → e ≡ Faults v →
    ((IsInOrder f out → ⊥) × (v.items ≡ malformed_words))
    ⊎ (IsInOrder f out × (IsFaithful f env out → ⊥) × (es : List (CheckerError Global)) × IsReport f env out es × (v.items ≡ faults_words f out es)) →
    IsVerdict f env out e
faulty f env out e v same (inl p) = inr (v, same, (λ h. p.0 h.0), inl p)
faulty f env out e v same (inr p) = inr (v, same, (λ h. p.1 h.1), inr (inl p))

pub not_accepted : (f : FunctionValue) (env : MachineValue) (out : OutputValue) (e : Failure) → IsCheckerVerdict f env out e → IsVerdict f env out e
not_accepted f env out e (inl lost) = inl lost
not_accepted f env out e (inr t) = faulty f env out e t.0 t.1 t.2

-- a fault of places keeps them from being cells
pub not_cells : (f : FunctionValue) (env : MachineValue) (out : OutputValue) (fault : CellFault) → IsCellFault f env out fault → (fault ≡ CellMemory → ⊥) →
    AreCells f env out → ⊥
not_cells f env out (Operand i k) h spared cells = h.2 (cells.places.operands i h.0 k h.1)
not_cells f env out (MoveEnd k) h spared cells = h.1 (cells.places.moves k h.0)
not_cells f env out (OtherClass k) h spared cells = h.1 (cells.places.classes k h.0)
not_cells f env out (Location k) h spared cells = let p = cells.places.locations k h.0 in h.1 p.0 p.1
not_cells f env out (Slot n) h spared cells = h.2 (cells.frame n h.0 h.1)
not_cells f env out (Shared m n) h spared cells = h.5 (cells.apart m h.0 n h.1 h.2 h.3 h.4)
not_cells f env out CellMemory h spared cells = spared refl

pub apart : (f : FunctionValue) (env : MachineValue) (out : OutputValue) (fault : CellFault) (failure : Failure) → IsInOrder f out → IsFaithful f env out →
    IsCellFault f env out fault → IsCellsTold fault failure → IsVerdict f env out failure
apart f env out fault failure order faithful h (inl lost) = inl lost
apart f env out fault failure order faithful h (inr t) =
    let bad = not_cells f env out fault h t.0 in
    inr (t.1, t.2, (λ x. bad x.2), inr (inr (order, faithful, bad, fault, h, t.0, t.3)))

-- numbers that name no output
pub unnamed : (f : FunctionValue) (env : MachineValue) (numbers : StoredOutput Global) (e : Failure) →
    (e ≡ NoMemory) ⊎ ((e ≡ BadOutput) × (NamesValues numbers → ⊥)) → IsCheckFailure (λ o. o ≡ numbers) f env e
unnamed f env numbers e (inl lost) = subst (λ x. IsCheckFailure (λ o. o ≡ numbers) f env x) (sym lost) tt
unnamed f env numbers e (inr t) = subst (λ x. IsCheckFailure (λ o. o ≡ numbers) f env x) (sym t.0) (numbers, refl, t.1)

-- an output that isn't accepted
pub rejected_of : (Outs : StoredOutput Global → Type 0) (f : FunctionValue) (env : MachineValue) (out : OutputValue) (e : Failure) →
    IsOutput Outs out → IsVerdict f env out e → IsCheckFailure Outs f env e
rejected_of Outs f env out e is (inl lost) = subst (λ x. IsCheckFailure Outs f env x) (sym lost) tt
rejected_of Outs f env out e is (inr t) = subst (λ x. IsCheckFailure Outs f env x) (sym t.1) (out, is, t.2, t.3)

pub rejected : (numbers : StoredOutput Global) (f : FunctionValue) (env : MachineValue) (out : OutputValue) (e : Failure) →
    NumbersNameOutput numbers out → IsVerdict f env out e → IsCheckFailure (λ o. o ≡ numbers) f env e
rejected numbers f env out e names verdict =
    rejected_of (λ o. o ≡ numbers) f env out e (record { stored = numbers; laid_out = refl; names = names }) verdict

-- an input that gives no output
pub no_output : (Outs : StoredOutput Global → Type 0) (f : FunctionValue) (env : MachineValue) (e : Failure) → NamesNoOutput Outs e →
    IsCheckFailure Outs f env e
no_output Outs f env e (inl lost) = subst (λ x. IsCheckFailure Outs f env x) (sym lost) tt
no_output Outs f env e (inr (inl t)) = subst (λ x. IsCheckFailure Outs f env x) (sym t.0) t.1
no_output Outs f env e (inr (inr t)) = subst (λ x. IsCheckFailure Outs f env x) (sym t.0) (t.1, t.2, t.3)

-- what is laid out is an output, if its numbers are
output_for : (Outs : StoredOutput Global → Type 0) (numbers : StoredOutput Global) → Outs numbers → (out : OutputValue) → IsOutput (λ o. o ≡ numbers) out →
    IsOutput Outs out
output_for Outs numbers laid out o = record { stored = o.stored; laid_out = subst Outs (sym o.laid_out) laid; names = o.names }

pub accepted_for : (Outs : StoredOutput Global → Type 0) (numbers : StoredOutput Global) → Outs numbers → (f : FunctionValue) (env : MachineValue) →
    IsAcceptedOutput (λ o. o ≡ numbers) f env → IsAcceptedOutput Outs f env
accepted_for Outs numbers laid f env a = record {
  out = a.out;
  output = output_for Outs numbers laid a.out a.output;
  in_order = a.in_order;
  faithful = a.faithful;
  cells = a.cells;
}

pub failure_for : (Outs : StoredOutput Global → Type 0) (numbers : StoredOutput Global) → Outs numbers → (f : FunctionValue) (env : MachineValue)
    (e : Failure) → IsCheckFailure (λ o. o ≡ numbers) f env e → IsCheckFailure Outs f env e
failure_for Outs numbers laid f env Unreadable h = absurd (h numbers refl)
failure_for Outs numbers laid f env (BadMachine m) h = h
failure_for Outs numbers laid f env NoRoom h = h
failure_for Outs numbers laid f env (Faults v) h = (h.0, output_for Outs numbers laid h.0 h.1, h.2, h.3)
failure_for Outs numbers laid f env NoMemory h = tt
failure_for Outs numbers laid f env NotFramed h = h
failure_for Outs numbers laid f env BadOutput h = (numbers, laid, λ n. h.2 (subst NamesValues (sym h.1) n))
failure_for Outs numbers laid f env ReadBeforeWritten h = h
failure_for Outs numbers laid f env (BadText line column) h = h
failure_for Outs numbers laid f env (BadFunction fault) h = h
failure_for Outs numbers laid f env (Refused error) h = h

-- an output that isn't read
pub unread : (Outs : StoredOutput Global → Type 0) (f : FunctionValue) (env : MachineValue) (e : Failure) → IsNoStoredOutput Outs e →
    IsCheckFailure Outs f env e
unread Outs f env Unreadable h = h
unread Outs f env (BadMachine m) h = h
unread Outs f env NoRoom h = h
unread Outs f env (Faults v) h = absurd h
unread Outs f env NoMemory h = tt
unread Outs f env NotFramed h = absurd h
unread Outs f env BadOutput h = absurd h
unread Outs f env ReadBeforeWritten h = h
unread Outs f env (BadText line column) h = h
unread Outs f env (BadFunction fault) h = h
unread Outs f env (Refused error) h = h

-- what follows from a result's value or error follows of the result
pub on_ok : {A E P Q : Type 0} → (P → Q) → (r : Result A E) → OnOk r P → OnOk r Q
on_ok f (Ok x) h = f h
on_ok f (Err e) h = tt

pub if_ok : {A E : Type 0} {P Q : A → Type 0} → ((x : A) → P x → Q x) → (r : Result A E) → IfOk r P → IfOk r Q
if_ok f (Ok x) h = f x h
if_ok f (Err e) h = tt

pub if_err : {A E : Type 0} {P Q : E → Type 0} → ((e : E) → P e → Q e) → (r : Result A E) → IfErr r P → IfErr r Q
if_err f (Ok x) h = tt
if_err f (Err e) h = f e h

-- an output that is accepted
pub accepted_of : (Outs : StoredOutput Global → Type 0) (f : FunctionValue) (env : MachineValue) (out : OutputValue) → IsOutput Outs out →
    IsInOrder f out × IsFaithful f env out × AreCells f env out → IsAcceptedOutput Outs f env
accepted_of Outs f env out is h = record { out = out; output = is; in_order = h.0; faithful = h.1; cells = h.2 }

pub accepted : (numbers : StoredOutput Global) (f : FunctionValue) (env : MachineValue) (out : OutputValue) → NumbersNameOutput numbers out →
    IsInOrder f out × IsFaithful f env out × AreCells f env out → IsAcceptedOutput (λ o. o ≡ numbers) f env
accepted numbers f env out names h = accepted_of (λ o. o ≡ numbers) f env out (record { stored = numbers; laid_out = refl; names = names }) h
