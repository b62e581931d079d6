-- What a walk over a block finds is needed at its beginning.
use Rattle.std.proofs.Common.{ℕ, zero, suc, ◌≡◌, ◌+◌, ◌-◌, ◌<◌, ◌≤◌, ◌⊎◌, Bool, true, false, List, [], length, refl, sym, ap, ◌∙◌, subst, arith, inl, inr}
use Rattle.std.proofs.Common.{nat_eq, eqb-true}
use Rattle.std.specs.Prelude.{◌&&◌, ◌||◌, not, Contains}
use Rattle.std.proofs.lemmas.Bool.{cases_Bool, and_parts, ne_eqb, not-true, or_cases, or_parts, or_right}
use Rattle.regalloc2_index.proofs.Numbers.{below_or_last, nat_eq-self}
use Rattle.regalloc2_names.specs.Register.{VirtualRegister}
use Rattle.regalloc2_names.specs.Operand.{OperandValue}
use Rattle.regalloc2_function.specs.FunctionValue.{FunctionValue, block_at, inst_at}
use Rattle.regalloc2_semantics.specs.Runs.{Onward, first_of, arguments_at}
use Rattle.regalloc2_carry.specs.Blocks.{IsUnwritten}
use Rattle.regalloc2_semantics.specs.Sound.{names, Undefined}
use Rattle.regalloc2_carry.specs.Listing.{defines}
use Rattle.regalloc2_carry.proofs.UnwrittenPlaces.{defines_none}
use Rattle.regalloc2_analysis.specs.Liveness.LiveIn.{IsRead, IsNeeded, read, passed_on, later, IsUnwrittenTo}
use Rattle.regalloc2_analysis.specs.Liveness.BlockVRegPairs.{Pair, lists, BlockSets, holds, Gains, Grows}
use Rattle.regalloc2_analysis.specs.Liveness.BlockWalk.{asks_for_vreg, IsBlockWalkedTo, PassesNeeds, IsBlockWalked, AreWrites, AreAsked, AreParameters}
use Rattle.regalloc2_analysis.proofs.LivenessLemmas.PairLists.{lists_empty}
use Rattle.regalloc2_analysis.proofs.LivenessLemmas.PairSets.{holds_nothing}
use Rattle.regalloc2_analysis.proofs.LivenessLemmas.WalkSteps.{asked_read, read_asked, defines_not, names_found, names_there}

module _ (f : FunctionValue) (b : ℕ) (v : VirtualRegister) where
  -- a vreg that is needed at an instruction, and isn't defined by an instruction before it, is needed at the block's beginning
  needed_from : (k : ℕ) → (block_at f b).range.first + k < (block_at f b).range.end →
      IsNeeded f v (record { block = b; inst = (block_at f b).range.first + k }) → IsUnwrittenTo f b ((block_at f b).range.first + k) v →
      IsNeeded f v (first_of f b)
  needed_from zero less n free = subst (λ (i : ℕ). IsNeeded f v (record { block = b; inst = i })) (omega arith) n
  needed_from (suc k) less n free =
      let i : ℕ = (block_at f b).range.first + k in
      let next : (block_at f b).range.first + suc k ≡ i + 1 = omega arith in
      needed_from k (omega arith)
      (later (record { block = b; inst = i }) Onward (omega arith) (free i (omega arith) (omega arith)) tt
      (subst (λ (j : ℕ). IsNeeded f v (record { block = b; inst = j })) next n))
      (λ j low high. free j low (omega arith))

  -- a vreg needed at an instruction, and not written before it in its block, is needed at the block's beginning
  pub needed_first : (i : ℕ) → (block_at f b).range.first ≤ i → i < (block_at f b).range.end → IsNeeded f v (record { block = b; inst = i }) →
      IsUnwrittenTo f b i v → IsNeeded f v (first_of f b)
  needed_first i low high n free =
      let e : i ≡ (block_at f b).range.first + (i - (block_at f b).range.first) = omega arith in
      needed_from (i - (block_at f b).range.first) (omega arith) (subst (λ (j : ℕ). IsNeeded f v (record { block = b; inst = j })) e n)
      (λ j lo hi. free j lo (omega arith))

  -- one instruction more that doesn't define it
  pub unwritten_more : (i : ℕ) → IsUnwrittenTo f b i v → Undefined (inst_at f i).operands v → IsUnwrittenTo f b (i + 1) v
  unwritten_more i free here j low high = elim (below_or_last j i high) [
    | inl less ↦ free j low less
    | inr e ↦ subst (λ (m : ℕ). Undefined (inst_at f m).operands v) (sym e) here
  ]

-- a block's walk begins
pub walked_start : (f : FunctionValue) (b i : ℕ) (written : BlockSets) (needs : List Pair) → i ≡ (block_at f b).range.first →
    ((v : VirtualRegister) → holds written (b, v) ≡ false) → IsBlockWalkedTo f b i written needs written needs
walked_start f b i written needs e fresh = record {
  writes = record { others = λ p ne. refl; unwritten = λ v none j low high. absurd (omega arith); unlisted = λ v free. fresh v };
  finds = record { kept = λ p h. h; sound = λ h. h };
  read = λ j v low high. absurd (omega arith);
}

gains_here : (b : ℕ) (test : VirtualRegister → Bool) (old new : Pair → Bool) (v : VirtualRegister) → Gains b test old new → new (b, v) ≡ (old (b, v) || test v)
gains_here b test old new v g = g (b, v) ∙ ap (λ x. old (b, v) || (x && test v)) (nat_eq-self b)

gains_keeps : (b : ℕ) (test : VirtualRegister → Bool) (old new : Pair → Bool) → Gains b test old new → (p : Pair) → old p ≡ true → new p ≡ true
gains_keeps b test old new g p h = g p ∙ ap (λ x. x || (nat_eq b p.0 && test p.1)) h

or_no : (a b : Bool) → b ≡ false → (a || b) ≡ a
or_no true b e = refl
or_no false b e = e

gains_aside : (b : ℕ) (test : VirtualRegister → Bool) (old new : Pair → Bool) → Gains b test old new → (p : Pair) → nat_eq b p.0 ≡ false → new p ≡ old p
gains_aside b test old new g p ne = g p ∙ or_no (old p) (nat_eq b p.0 && test p.1) (rw ne refl)

-- what is new is the block's, and passes the test
gained : (b : ℕ) (test : VirtualRegister → Bool) (old new : Pair → Bool) → Gains b test old new → (p : Pair) → new p ≡ true → (old p ≡ true)
    ⊎ ((b ≡ p.0) × (test p.1 ≡ true))
gained b test old new g p h = elim (or_cases (old p) (nat_eq b p.0 && test p.1) (sym (g p) ∙ h)) [
  | inl there ↦ inl there
  | inr more ↦ (let s = and_parts (nat_eq b p.0) (test p.1) more in inr (eqb-true b p.0 s.0, s.1))
]

-- one instruction more
pub walked_more : (f : FunctionValue) (b i : ℕ) (w0 : BlockSets) (n0 : List Pair) (w : BlockSets) (n : List Pair) (w' : BlockSets) (n' : List Pair) →
    b < length f.blocks → (block_at f b).range.first ≤ i → i < (block_at f b).range.end → IsBlockWalkedTo f b i w0 n0 w n →
    Gains b (λ v. defines v (inst_at f i).operands) (holds w) (holds w') → Grows b (asks_for_vreg (inst_at f i).operands w b) n n' →
    IsBlockWalkedTo f b (i + 1) w0 n0 w' n'
walked_more f b i w0 n0 w n w' n' lb low high h wrote grew =
    let ops : List OperandValue = (inst_at f i).operands in
    let dtest : VirtualRegister → Bool = λ v. defines v ops in
    record {
      writes = record {
        others = λ p ne. gains_aside b dtest (holds w) (holds w') wrote p ne ∙ h.writes.others p ne;
        unwritten = λ v none. let s = or_parts (holds w (b, v)) (defines v ops) (sym (gains_here b dtest (holds w) (holds w') v wrote) ∙ none) in
            unwritten_more f b v i (h.writes.unwritten v s.0) (defines_not ops v s.1);
        unlisted = λ v free.
            let before : holds w (b, v) ≡ false = h.writes.unlisted v (λ j lo hi. free j lo (omega arith)) in
            let here : defines v ops ≡ false = defines_none ops v (free i low (omega arith)) in
            gains_here b dtest (holds w) (holds w') v wrote ∙ rw (before, here) refl;
      };
      finds = record {
        kept = λ p e. gains_keeps b (asks_for_vreg ops w b) (lists n) (lists n') grew.gains p (h.finds.kept p e);
        sound = λ all p e. elim (gained b (asks_for_vreg ops w b) (lists n) (lists n') grew.gains p e) [
          | inl there ↦ h.finds.sound all p there
          | inr more ↦ (let s = asked_read ops w b p.1 more.1 in
              let n : IsNeeded f p.1 (first_of f b) = needed_first f b p.1 i low high (read (record { block = b; inst = i }) s.1)
              (h.writes.unwritten p.1 s.0) in
              (subst (λ m. m < length f.blocks) more.0 lb, subst (λ m. IsNeeded f p.1 (first_of f m)) more.0 n))
        ];
      };
      read = λ j v lo hi is free. elim (below_or_last j i hi) [
        | inl less ↦ gains_keeps b (asks_for_vreg ops w b) (lists n) (lists n') grew.gains (b, v) (h.read j v lo less is free)
        | inr e ↦ (let unwritten : holds w (b, v) ≡ false = h.writes.unlisted v (subst (λ m. IsUnwrittenTo f b m v) e free) in
            let asked : asks_for_vreg ops w b v ≡ true = read_asked ops w b v unwritten (subst (λ m. IsRead v (inst_at f m).operands) e is) in
            gains_here b (asks_for_vreg ops w b) (lists n) (lists n') v grew.gains ∙ or_right (lists n (b, v)) (asks_for_vreg ops w b v) asked)
      ];
    }

-- a list that gains what a block passes to its successor k and doesn't write has that of its first k + 1 successors
pub passes_more : (f : FunctionValue) (b k : ℕ) (written : BlockSets) (old mid new : List Pair) → PassesNeeds f b k written old mid →
    Grows b (λ v. names v (arguments_at f b k) && not (holds written (b, v))) mid new → PassesNeeds f b (k + 1) written old new
passes_more f b k written old mid new h grew =
    let test : VirtualRegister → Bool = λ v. names v (arguments_at f b k) && not (holds written (b, v)) in
    record {
      kept = λ p e. gains_keeps b test (lists mid) (lists new) grew.gains p (h.kept p e);
      only = λ p does not_so. elim (gained b test (lists mid) (lists new) grew.gains p does) [
        | inl there ↦ (let r = h.only p there not_so in (r.0, r.1, (r.2.0, omega (arith, r.2.1), r.2.2)))
        | inr more ↦ (let s = and_parts (names p.1 (arguments_at f b k)) (not (holds written (b, p.1))) more.1 in (
          more.0,
          subst (λ m. holds written (m, p.1) ≡ false) more.0 (not-true (holds written (b, p.1)) s.1),
          (k, omega arith, names_found p.1 (arguments_at f b k) s.0),
        ))
      ];
      passed = λ j v less has free. elim (below_or_last j k less) [
        | inl before ↦ gains_keeps b test (lists mid) (lists new) grew.gains (b, v) (h.passed j v before has free)
        | inr e ↦ (let named : names v (arguments_at f b k) ≡ true = names_there v (arguments_at f b k) (subst (λ m. Contains (arguments_at f b m) v) e has) in
            gains_here b test (lists mid) (lists new) v grew.gains ∙ or_right (lists mid (b, v)) (test v) (rw (named, free) refl))
      ];
    }

-- instructions, and then what is passed
pub walked_whole : (f : FunctionValue) (b : ℕ) (w0 : BlockSets) (n0 : List Pair) (w : BlockSets) (n n' : List Pair) → b < length f.blocks →
    (block_at f b).range.first < (block_at f b).range.end → IsBlockWalkedTo f b (block_at f b).range.end w0 n0 w n →
    PassesNeeds f b (length (block_at f b).succs) w n n' → IsBlockWalked f b w0 n0 w n'
walked_whole f b w0 n0 w n n' lb some h passes = record {
  walked = record {
    writes = h.writes;
    finds = record {
      kept = λ p e. passes.kept p (h.finds.kept p e);
      sound = λ all p e. elim (cases_Bool (lists n p)) [
        | inl there ↦ h.finds.sound all p there
        | inr none ↦ (let r = passes.only p e none in
            let free : IsUnwrittenTo f b (block_at f b).range.end p.1 = h.writes.unwritten p.1 (subst (λ m. holds w (m, p.1) ≡ false) (sym r.0) r.1) in
            let i : ℕ = (block_at f b).range.end - 1 in
            let here : IsNeeded f p.1 (record { block = b; inst = i }) = passed_on (record { block = b; inst = i }) (free i (omega arith) (omega arith))
            (r.2.0, (omega arith, r.2.1), r.2.2) in
            let n : IsNeeded f p.1 (first_of f b) = needed_first f b p.1 i (omega arith) (omega arith) here (λ j lo hi. free j lo (omega arith)) in
            (subst (λ m. m < length f.blocks) r.0 lb, subst (λ m. IsNeeded f p.1 (first_of f m)) r.0 n))
      ];
    };
    read = λ j v lo hi is free. passes.kept (b, v) (h.read j v lo hi is free);
  };
  passed = λ k v less has free. passes.passed k v less has (h.writes.unlisted v free);
}

-- no block yet, and one more
pub writes_start : (f : FunctionValue) (n : ℕ) (written : BlockSets) → n ≡ 0 → written ≡ [] → AreWrites f n written
writes_start f n written e none = record {
  unwritten = λ b v less. absurd (omega arith);
  unlisted = λ b v less. absurd (omega arith);
  fresh = λ p le. rw none (holds_nothing p);
}

-- once block n is walked, the sets of the first n + 1 blocks are what they write
pub writes_more : (f : FunctionValue) (n : ℕ) (w0 : BlockSets) (n0 : List Pair) (w : BlockSets) (n' : List Pair) → AreWrites f n w0 →
    IsBlockWalked f n w0 n0 w n' →
    AreWrites f (n + 1) w
writes_more f n w0 n0 w n' h here = record {
  unwritten = λ b v less none. elim (below_or_last b n less) [
    | inl before ↦ h.unwritten b v before (sym (here.walked.writes.others (b, v) (ne_eqb n b (λ e. omega (arith, e)))) ∙ none)
    | inr e ↦ subst (λ m. IsUnwritten f m v) (sym e) (here.walked.writes.unwritten v (subst (λ m. holds w (m, v) ≡ false) e none))
  ];
  unlisted = λ b v less free. elim (below_or_last b n less) [
    | inl before ↦ here.walked.writes.others (b, v) (ne_eqb n b (λ e. omega (arith, e))) ∙ h.unlisted b v before free
    | inr e ↦ subst (λ m. holds w (m, v) ≡ false) (sym e) (here.walked.writes.unlisted v (subst (λ m. IsUnwritten f m v) e free))
  ];
  fresh = λ p le. here.walked.writes.others p (ne_eqb n p.0 (λ e. omega (arith, e))) ∙ h.fresh p (omega arith);
}

-- an empty list has the upward-exposed uses of no blocks
pub asked_start : (f : FunctionValue) (n : ℕ) (needs : List Pair) → n ≡ 0 → needs ≡ [] → AreAsked f n needs
asked_start f n needs e none = record {
  sound = λ p h. let not_so : lists needs p ≡ false = rw none (lists_empty p) in absurd cc;
  read = λ b j v less. absurd (omega arith);
  passed = λ b k v less. absurd (omega arith);
}

-- once block n is walked, the list has the upward-exposed uses of the first n + 1 blocks, and only what is needed
pub asked_more : (f : FunctionValue) (n : ℕ) (w0 : BlockSets) (n0 : List Pair) (w : BlockSets) (n' : List Pair) → AreAsked f n n0 →
    IsBlockWalked f n w0 n0 w n' →
    AreAsked f (n + 1) n'
asked_more f n w0 n0 w n' h here = record {
  sound = here.walked.finds.sound h.sound;
  read = λ b j v less lo hi is free. elim (below_or_last b n less) [
    | inl before ↦ here.walked.finds.kept (b, v) (h.read b j v before lo hi is free)
    | inr e ↦ subst (λ m. lists n' (m, v) ≡ true) (sym e) (here.walked.read j v (subst (λ m. (block_at f m).range.first ≤ j) e lo)
        (subst (λ m. j < (block_at f m).range.end) e hi) is (subst (λ m. IsUnwrittenTo f m j v) e free))
  ];
  passed = λ b k v less lk has free. elim (below_or_last b n less) [
    | inl before ↦ here.walked.finds.kept (b, v) (h.passed b k v before lk has free)
    | inr e ↦ subst (λ m. lists n' (m, v) ≡ true) (sym e) (here.passed k v (subst (λ m. k < length (block_at f m).succs) e lk)
        (subst (λ m. Contains (arguments_at f m k) v) e has) (subst (λ m. IsUnwritten f m v) e free))
  ];
}

-- parameters, block by block
pub params_start : (f : FunctionValue) (params : BlockSets) → params ≡ [] → AreParameters f 0 params
params_start f params none = record { listed = λ p less. absurd (omega arith); fresh = λ p le. rw none (holds_nothing p) }

-- sets that gain the parameters of block n have the parameters of the first n + 1 blocks
pub params_more : (f : FunctionValue) (n : ℕ) (old new : BlockSets) → AreParameters f n old →
    Gains n (λ v. names v (block_at f n).params) (holds old) (holds new) → AreParameters f (n + 1) new
params_more f n old new h g =
    let test : VirtualRegister → Bool = λ v. names v (block_at f n).params in
    record {
      listed = λ p less. elim (below_or_last p.0 n less) [
        | inl before ↦ gains_aside n test (holds old) (holds new) g p (ne_eqb n p.0 (λ e. omega (arith, e))) ∙ h.listed p before
        | inr e ↦ (let none : holds old p ≡ false = h.fresh p (omega arith) in
            let same : nat_eq n p.0 ≡ true = subst (λ m. nat_eq n m ≡ true) (sym e) (nat_eq-self n) in
            g p ∙ rw (none, same) (ap (λ m. names p.1 (block_at f m).params) (sym e)))
      ];
      fresh = λ p le. gains_aside n test (holds old) (holds new) g p (ne_eqb n p.0 (λ e. omega (arith, e))) ∙ h.fresh p (omega arith);
    }
