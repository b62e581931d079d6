-- Where reads agree, both runs read the same numbers.
use Rattle.std.proofs.Common.{ℕ, suc, ◌≡◌, ◌+◌, ◌<◌, Bool, true, false, cond, List, [], ◌∷◌, length, refl, arith, ap}
use Rattle.std.specs.Prelude.{Option}
use Rattle.regalloc2_names.specs.Operand.{OperandValue, is_reading}
use Rattle.regalloc2_function.specs.FunctionValue.{FunctionValue, op_at}
use Rattle.regalloc2_function.specs.Machine.{MachineValue}
use Rattle.regalloc2_function.specs.OutputValue.{OutputValue}
use Rattle.regalloc2_semantics.specs.Runs.{Way, IsPath, last_inst, Stamp, source_read, allocated_read}
use Rattle.regalloc2_semantics.specs.Faithful.{IsFaithful}
use Rattle.regalloc2_semantics.specs.Laws.{ReadsAgree}
use Rattle.regalloc2_semantics.specs.Laws.{ReadsGiveNumbers}
use Rattle.regalloc2_semantics.specs.Values.{Meaning, Numbers, reads_from, numbers, SameNumbers}

pick : (b : Bool) (x y : Option Stamp) (xs ys : List (Option Stamp)) → (b ≡ true → x ≡ y) → xs ≡ ys → cond b (x ∷ xs) xs ≡ cond b (y ∷ ys) ys
pick true x y xs ys h e = rw (h refl, e) refl
pick false x y xs ys h e = e

-- reads that agree at each operand make one list
reads_from-same : (r t : ℕ → OperandValue → Option Stamp) (n : ℕ) (os : List OperandValue) →
    ((k : ℕ) → k < length os → is_reading (op_at os k) ≡ true → r (k + n) (op_at os k) ≡ t (k + n) (op_at os k)) →
    reads_from r n os ≡ reads_from t n os
unfolding reads_from
reads_from-same r t n [] h = refl
reads_from-same r t n (o ∷ os) h =
    let e : 0 + n ≡ n = omega arith in
    pick (is_reading o) _ _ _ _ (λ yes. rw e at (h 0 (omega arith) yes))
    (reads_from-same r t (n + 1) os (λ k less yes. let s : suc k + n ≡ k + (n + 1) = omega arith in rw s at (h (suc k) (omega arith) yes)))

-- what the last step of a path reads, in each of the two runs
abbrev pub source_reads : FunctionValue → List Way → List (Option Stamp)
source_reads f ws = reads_from (λ k o. source_read f ws o) 0 (last_inst f ws).operands

abbrev pub allocated_reads : FunctionValue → OutputValue → List Way → List (Option Stamp)
allocated_reads f out ws = reads_from (allocated_read f out ws) 0 (last_inst f ws).operands

reads-same : (f : FunctionValue) (out : OutputValue) (ws : List Way) → ReadsAgree f out ws → allocated_reads f out ws ≡ source_reads f ws
reads-same f out ws h =
    reads_from-same (allocated_read f out ws) (λ k o. source_read f ws o) 0 (last_inst f ws).operands
    (λ k less yes. let e : k + 0 ≡ k = omega arith in rw e (h k less yes).1)

numbers-same : (f : FunctionValue) (meaning : Meaning) (r t : List Way → ℕ → OperandValue → Option Stamp) (ws : List Way) → IsPath f ws →
    ((vs : List Way) → IsPath f vs → reads_from (r vs) 0 (last_inst f vs).operands ≡ reads_from (t vs) 0 (last_inst f vs).operands) →
    numbers f meaning r ws ≡ numbers f meaning t ws
unfolding numbers
numbers-same f meaning r t [] p h = rw (h [] tt) refl
numbers-same f meaning r t (w ∷ ws) p h = rw (numbers-same f meaning r t ws p.0 h, h (w ∷ ws) p) refl

-- where reads agree, the numbers are the same
pub reads_give_numbers : ReadsGiveNumbers
reads_give_numbers f out h meaning ws p =
    ap (λ (n : Numbers). n.history) (numbers-same f meaning (allocated_read f out) (λ vs k o. source_read f vs o) ws p (λ vs q. reads-same f out vs (h vs q)))

-- a faithful output reads the function's numbers
pub same_numbers : (f : FunctionValue) (env : MachineValue) (out : OutputValue) → IsFaithful f env out → SameNumbers f out
same_numbers f env out h = reads_give_numbers f out h.reads
