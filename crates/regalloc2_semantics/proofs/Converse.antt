-- If both runs read the same numbers, whatever the instructions compute, reads agree.
-- For each write that the function's run reads there is an interpretation (`Meaning`) that gives the number 1 to that write alone.
use Rattle.std.proofs.Common.{ℕ, zero, suc, ◌≡◌, ◌+◌, ◌<◌, Bool, true, false, cond, List, [], ◌∷◌, length, map, refl, arith, sym, ◌∙◌, eq-eqb, eqb-true}
use Rattle.std.proofs.Common.{nat_eq, inl, inr}
use Rattle.std.specs.Prelude.{Option, None, Some, IsSome, ◌&&◌}
use Rattle.std.specs.Option.{option_map}
use Rattle.std.proofs.lemmas.Bool.{cases_eq, ne_eqb}
use Rattle.regalloc2_names.specs.Operand.{OperandValue, is_reading}
use Rattle.regalloc2_function.specs.FunctionValue.{FunctionValue, op_at}
use Rattle.regalloc2_function.specs.OutputValue.{OutputValue}
use Rattle.regalloc2_semantics.specs.Runs.{Way, IsPath, last_inst, Stamp, source_read, allocated_read}
use Rattle.regalloc2_semantics.specs.Laws.{NumbersGiveReads}
use Rattle.regalloc2_semantics.specs.Values.{Meaning, reads_from, numbers, SameNumbers}
use Rattle.regalloc2_semantics.proofs.ValueLaws.{source_reads, allocated_reads}

-- the interpretation that gives one write the number 1, and all others 0
abbrev marking : Stamp → Meaning
marking t = λ inst step history k. cond (nat_eq step t.step && nat_eq k t.operand) 1 0

-- the numbers of writes under it
abbrev marked : FunctionValue → Stamp → (List Way → ℕ → OperandValue → Option Stamp) → List Way → Stamp → ℕ
marked f t read ws = (numbers f (marking t) read ws).written

abbrev IsOne : ℕ → Type 0
IsOne n = n ≡ 1

marks : (b c : Bool) → IsOne (cond (b && c) 1 0) → (b ≡ true) × (c ≡ true)
marks true true h = (refl, refl)
marks true false h = absurd cc
marks false c h = absurd cc

stamps : (m n j k : ℕ) → m ≡ n → j ≡ k → ◌≡◌ {A = Stamp} (record { step = m; operand = j }) (record { step = n; operand = k })
stamps m n j k e d = rw (e, d) refl

either : {P : Type 0} (b : Bool) (x y : ℕ) → (b ≡ true → IsOne x → P) → (IsOne y → P) → IsOne (cond b x y) → P
either true x y f g e = f refl e
either false x y f g e = g e

-- no other write has the number 1
no_other_marked : (f : FunctionValue) (t : Stamp) (reads : List Way → ℕ → OperandValue → Option Stamp) (ws : List Way) (s : Stamp) → IsOne (marked f t reads ws s) → s ≡ t
unfolding numbers
no_other_marked f t reads [] s e = absurd cc
no_other_marked f t reads (w ∷ ws) s e =
    either (nat_eq s.step (length ws)) (cond (nat_eq (length ws) t.step && nat_eq s.operand t.operand) 1 0) (marked f t reads ws s)
    (λ here one.
    let both = marks (nat_eq (length ws) t.step) (nat_eq s.operand t.operand) one in
    stamps s.step t.step s.operand t.operand (eqb-true s.step (length ws) here ∙ eqb-true (length ws) t.step both.0) (eqb-true s.operand t.operand both.1))
    (λ one. no_other_marked f t reads ws s one) e

-- the marked write has the number 1 once its step is past
marked_here : (f : FunctionValue) (t : Stamp) (reads : List Way → ℕ → OperandValue → Option Stamp) (ws : List Way) → t.step < length ws → IsOne (marked f t reads ws t)
unfolding numbers
marked_here f t reads [] lt = absurd (omega arith)
marked_here f t reads (w ∷ ws) lt = elim (cases_eq t.step (length ws)) [
  | inl e ↦ rw (eq-eqb t.step (length ws) e, eq-eqb (length ws) t.step (sym e), eq-eqb t.operand t.operand refl) refl
  | inr ne ↦ rw (ne_eqb t.step (length ws) ne) (marked_here f t reads ws (omega arith))
]

-- one list of reads for all operands, taken apart
same_first : (b : Bool) (n m : Option Stamp → Option ℕ) (r t : Option Stamp) (rs ts : List (Option Stamp)) → b ≡ true →
    map n (cond b (r ∷ rs) rs) ≡ map m (cond b (t ∷ ts) ts) → n r ≡ m t
same_first true n m r t rs ts e h = cc
same_first false n m r t rs ts e h = absurd cc

same_rest : (b : Bool) (n m : Option Stamp → Option ℕ) (r t : Option Stamp) (rs ts : List (Option Stamp)) →
    map n (cond b (r ∷ rs) rs) ≡ map m (cond b (t ∷ ts) ts) → map n rs ≡ map m ts
same_rest true n m r t rs ts h = cc
same_rest false n m r t rs ts h = h

at_operand : (n m : Option Stamp → Option ℕ) (r t : ℕ → OperandValue → Option Stamp) (i : ℕ) (os : List OperandValue) →
    map n (reads_from r i os) ≡ map m (reads_from t i os) →
    (k : ℕ) → k < length os → is_reading (op_at os k) ≡ true → n (r (k + i) (op_at os k)) ≡ m (t (k + i) (op_at os k))
unfolding reads_from
at_operand n m r t i [] h k lt e = absurd (omega arith)
at_operand n m r t i (o ∷ os) h zero lt e =
    let z : 0 + i ≡ i = omega arith in
    rw z (same_first (is_reading o) n m (r i o) (t i o) (reads_from r (i + 1) os) (reads_from t (i + 1) os) e h)
at_operand n m r t i (o ∷ os) h (suc k) lt e =
    let z : suc k + i ≡ k + (i + 1) = omega arith in
    rw z (at_operand n m r t (i + 1) os (same_rest (is_reading o) n m (r i o) (t i o) (reads_from r (i + 1) os) (reads_from t (i + 1) os) h) k (omega arith)
    e)

-- the heads of the two histories
heads : (x y : List (Option ℕ)) (xs ys : List (List (Option ℕ))) → x ∷ xs ≡ y ∷ ys → x ≡ y
heads x y xs ys e = cc

-- what is read where the write's number is 1 is that write
same_read : (a b : Stamp → ℕ) (x y : Option Stamp) (t : Stamp) → y ≡ Some t → IsOne (b t) → ((s : Stamp) → IsOne (a s) → s ≡ t) →
    option_map a x ≡ option_map b y → x ≡ y
same_read a b None y t e one only h = let u = rw e at h in absurd cc
same_read a b (Some s) y t e one only h =
    let u = rw e at h in
    let v : a s ≡ b t = cc in
    let w : s ≡ t = only s (v ∙ one) in
    rw (e, w) refl

some_of : (x : Option Stamp) (t : Stamp) → x ≡ Some t → IsSome x
some_of x t e = rw e refl

-- an operand whose read is of an earlier step reads the same on both sides
agree : (f : FunctionValue) (out : OutputValue) → SameNumbers f out → (ws : List Way) → IsPath f ws → (k : ℕ) →
    k < length (last_inst f ws).operands →
    is_reading (op_at (last_inst f ws).operands k) ≡ true → (t : Stamp) → source_read f ws (op_at (last_inst f ws).operands k) ≡ Some t →
    t.step < length ws →
    allocated_read f out ws k (op_at (last_inst f ws).operands k) ≡ source_read f ws (op_at (last_inst f ws).operands k)
unfolding numbers
agree f out same [] p k lt reads t e less = absurd (omega arith)
agree f out same (w ∷ ws) p k lt reads t e less =
    let os : List OperandValue = (last_inst f (w ∷ ws)).operands in
    let a : Stamp → ℕ = marked f t (allocated_read f out) (w ∷ ws) in
    let b : Stamp → ℕ = marked f t (λ vs j o. source_read f vs o) (w ∷ ws) in
    let h : map (option_map a) (allocated_reads f out (w ∷ ws)) ≡ map (option_map b) (source_reads f (w ∷ ws)) = heads _ _ _ _ (same (marking t) (w ∷ ws) p) in
    let z : k + 0 ≡ k = omega arith in
    let here : option_map a (allocated_read f out (w ∷ ws) k (op_at os k)) ≡ option_map b (source_read f (w ∷ ws) (op_at os k)) =
    rw z at (at_operand (option_map a) (option_map b) (allocated_read f out (w ∷ ws)) (λ j o. source_read f (w ∷ ws) o) 0 os h k lt reads) in
    same_read a b _ _ t e (marked_here f t (λ vs j o. source_read f vs o) (w ∷ ws) less) (no_other_marked f t (allocated_read f out) (w ∷ ws)) here

-- reads agree if each use finds an earlier write and both runs read the same numbers, whatever the instructions compute
pub numbers_give_reads : NumbersGiveReads
numbers_give_reads f out earlier same ws p k lt reads =
    let found = earlier ws p k lt reads in
    (some_of (source_read f ws (op_at (last_inst f ws).operands k)) found.0 found.1, agree f out same ws p k lt reads found.0 found.1 found.2)
