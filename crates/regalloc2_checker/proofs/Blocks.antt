-- The errors of a block, instruction by instruction, and of an output, block by block.
use Rattle.std.proofs.Common.{ℕ, zero, suc, ◌≡◌, ◌+◌, ◌-◌, ◌<◌, ◌≤◌, true, false, List, [], ◌++◌, refl, sym, ap, ◌∙◌, subst, arith}
use Rattle.std.proofs.lemmas.List.{append_assoc, append-nil}
use Rattle.regalloc2_function.specs.FunctionValue.{FunctionValue, block_at}
use Rattle.regalloc2_function.specs.Machine.{MachineValue}
use Rattle.regalloc2_function.specs.OutputValue.{OutputValue}
use Rattle.regalloc2_semantics.specs.Runs.{Location}
use Rattle.regalloc2_function.specs.WellFormed.{IsFramed}
use Rattle.regalloc2_checker.specs.declared.errors.CheckerError.{CheckerError}
use Rattle.regalloc2_checker.specs.Facts.{Facts, facts_after}
use Rattle.regalloc2_checker.specs.Fixpoint.{IsReachedBlock, nth_of, facts_within}
use Rattle.regalloc2_checker.specs.CheckInputs.{AreFactsKnown}
use Rattle.regalloc2_checker.specs.Blocks.{IsKnownWithin, IsBlockJudged}
use Rattle.regalloc2_checker.specs.Report.{InstReport, InstReports, BlockReport, BlockReports}
use Rattle.regalloc2_checker.specs.Tables.{BlockView, IsSolved, facts_at, view_at}
use Rattle.regalloc2_checker.proofs.FactsFollowMaps.{AreEarlier}
use Rattle.regalloc2_checker.proofs.Fixpoint.{located}
use Rattle.regalloc2_checker.proofs.TransferFollowsFacts.{within_none, within_more}
use Rattle.regalloc2_checker.proofs.FixpointDecides.{facts_are_held}

-- the instructions of block b before instruction i are checked: their errors are added, and the facts are the facts after them
pub record IsJudgedTo {A : Type 0} (f : FunctionValue) (env : MachineValue) (o : OutputValue) (b i : ℕ) (F : Facts) (old new : List (CheckerError A))
    (G : Facts) : Type 0 where
  pub errors : List (CheckerError A)
  pub whole : new ≡ old ++ errors
  pub reports : InstReports f env o b (i - (block_at f b).range.first) errors
  pub now : G ≡ facts_within f o b F (i - (block_at f b).range.first)

no_reports : {A : Type 0} (f : FunctionValue) (env : MachineValue) (o : OutputValue) (b n : ℕ) → n ≡ 0 → InstReports {A = A} f env o b n []
no_reports f env o b zero e = InstReports.none
no_reports f env o b (suc n) e = absurd (omega arith)

-- before a block's first instruction no error is added, and the facts are the facts at the block's beginning
pub judged_first : {A : Type 0} (f : FunctionValue) (env : MachineValue) (o : OutputValue) (b i : ℕ) (F G : Facts) (old : List (CheckerError A)) →
    i ≡ (block_at f b).range.first → G ≡ F → IsJudgedTo f env o b i F old old G
judged_first f env o b i F G old e at = record {
  errors = [];
  whole = sym (append-nil old);
  reports = no_reports f env o b (i - (block_at f b).range.first) (omega arith);
  now = at ∙ within_none f o b (i - (block_at f b).range.first) F (omega arith);
}

next_reports : {A : Type 0} (f : FunctionValue) (env : MachineValue) (o : OutputValue) (b i n : ℕ) (es fs : List (CheckerError A)) → n ≡ i →
    (block_at f b).range.first ≤ i →
    InstReports f env o b (i - (block_at f b).range.first) es → InstReport f env o (record { block = b; inst = n }) fs →
    InstReports f env o b (i + 1 - (block_at f b).range.first) (es ++ fs)
next_reports f env o b i n es fs e low rs r =
    let first : ℕ = (block_at f b).range.first in
    let one : suc (i - first) ≡ i + 1 - first = omega arith in
    let here : InstReport f env o (nth_of f b (i - first)) fs = subst (λ (l : Location). InstReport f env o l fs)
    (located b n (first + (i - first)) (omega arith)) r in
    subst (λ (k : ℕ). InstReports f env o b k (es ++ fs)) one (InstReports.next (i - first) es fs rs here)

-- the instruction i of a block is run, by its number n, from the facts G to H
pub record IsRunIn (f : FunctionValue) (o : OutputValue) (b i n : ℕ) (G H : Facts) : Type 0 where
  pub number : n ≡ i
  pub low : (block_at f b).range.first ≤ i
  pub high : i < (block_at f b).range.end
  pub run : H ≡ facts_after f o (record { block = b; inst = n }) G

-- checking one instruction more appends that instruction's errors and goes on past it
pub judged_next : {A : Type 0} (f : FunctionValue) (env : MachineValue) (o : OutputValue) (b i n : ℕ) (F : Facts) (old mid new : List (CheckerError A))
    (G H : Facts) → IsRunIn f o b i n G H → IsKnownWithin f o b F →
    (AreFactsKnown f o (record { block = b; inst = n }) G → (es : List (CheckerError A)) × (new ≡ mid ++ es)
    × InstReport f env o (record { block = b; inst = n }) es) →
    IsJudgedTo f env o b i F old mid G → IsJudgedTo f env o b (i + 1) F old new H
judged_next f env o b i n F old mid new G H here known judge j =
    let e = here.number in
    let low = here.low in
    let high = here.high in
    let run = here.run in
    let first : ℕ = (block_at f b).range.first in
    let there : AreFactsKnown f o (record { block = b; inst = n }) (facts_within f o b F (i - first)) =
    subst (λ (l : Location). AreFactsKnown f o l (facts_within f o b F (i - first))) (located b (first + (i - first)) n (omega arith))
    (known (i - first) (omega arith)) in
    let r = judge (subst (λ (X : Facts). AreFactsKnown f o (record { block = b; inst = n }) X) (sym j.now) there) in
    record {
      errors = j.errors ++ r.0;
      whole = r.1 ∙ ap (λ (es : List (CheckerError _)). es ++ r.0) j.whole ∙ append_assoc old j.errors r.0;
      reports = next_reports f env o b i n j.errors r.0 e low j.reports r.2;
      now = within_more f o b i n F G H e low j.now run;
    }

-- at a block's end, the errors of all its instructions are appended
pub judged_end : {A : Type 0} (f : FunctionValue) (env : MachineValue) (o : OutputValue) (b i : ℕ) (F : Facts) (old new : List (CheckerError A)) (G : Facts) →
    i ≡ (block_at f b).range.end → IsJudgedTo f env o b i F old new G →
    (es : List (CheckerError A)) × (new ≡ old ++ es) × InstReports f env o b ((block_at f b).range.end - (block_at f b).range.first) es
judged_end f env o b i F old new G e j =
    (j.errors, j.whole, subst (λ (k : ℕ). InstReports f env o b (k - (block_at f b).range.first) j.errors) e j.reports)

-- what a solved table claims at a marked block is known within the block
known_within : AreEarlier → (f : FunctionValue) (o : OutputValue) (t : List BlockView) → IsFramed f → IsSolved f o t → (b : ℕ) → IsReachedBlock f b →
    IsKnownWithin f o b (facts_at t b)
known_within law f o t ok s b r n less position p v = facts_are_held law f o (facts_at t) ok s.settled s.refuted b n r less position p v

-- the block b of a table is marked, and has the facts with which the block n was checked
pub record IsMarkedWith (t : List BlockView) (b n : ℕ) (have : Facts) : Type 0 where
  pub number : n ≡ b
  pub marked : (view_at t b).reached ≡ true
  pub facts : facts_at t b ≡ have

-- a block that is marked
pub blocks_marked : AreEarlier → {A : Type 0} (f : FunctionValue) (env : MachineValue) (o : OutputValue) (t : List BlockView) (b n : ℕ) (have : Facts)
    (old new : List (CheckerError A)) → IsFramed f → IsSolved f o t → IsMarkedWith t b n have → IsBlockJudged f env o n have old new →
    BlockReports f env o b old → BlockReports f env o (b + 1) new
blocks_marked law f env o t b n have old new ok s here judged rs =
    let at = here.number in
    let marked = here.marked in
    let e = here.facts in
    let reached : IsReachedBlock f b = (s.reached b).0 marked in
    let r = subst (λ (k : ℕ). IsBlockJudged f env o k have old new) at judged
    (subst (λ (X : Facts). IsKnownWithin f o b X) e (known_within law f o t ok s b reached)) in
    let one : suc b ≡ b + 1 = omega arith in
    let here : BlockReport f env o b r.0 = record { reached = λ _. r.2; unreached = λ no. absurd (no reached) } in
    subst (λ (n : ℕ). BlockReports f env o n new) one
    (subst (λ (es : List (CheckerError _)). BlockReports f env o (suc b) es) (sym r.1) (BlockReports.next b old r.0 rs here))

-- a block that isn't
pub blocks_unmarked : {A : Type 0} (f : FunctionValue) (env : MachineValue) (o : OutputValue) (t : List BlockView) (b : ℕ) (old : List (CheckerError A)) →
    IsSolved f o t →
    (view_at t b).reached ≡ false → BlockReports f env o b old → BlockReports f env o (b + 1) old
blocks_unmarked f env o t b old s unmarked rs =
    let no : IsReachedBlock f b → ⊥ = λ r. (let m = (s.reached b).1 r in absurd cc) in
    let one : suc b ≡ b + 1 = omega arith in
    let here : BlockReport f env o b [] = record { reached = λ r. absurd (no r); unreached = λ _. refl } in
    subst (λ (n : ℕ). BlockReports f env o n old) one
    (subst (λ (es : List (CheckerError _)). BlockReports f env o (suc b) es) (append-nil old) (BlockReports.next b old [] rs here))

-- the report of no blocks is empty
pub no_blocks : {A : Type 0} (f : FunctionValue) (env : MachineValue) (o : OutputValue) (es : List (CheckerError A)) → es ≡ [] → BlockReports f env o 0 es
no_blocks f env o es e = subst (λ (xs : List (CheckerError _)). BlockReports f env o 0 xs) (sym e) BlockReports.none
