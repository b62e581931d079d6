-- What the walk finds of one instruction more.
use Rattle.std.proofs.Common.{ℕ, ◌≡◌, ◌+◌, ◌<◌, ◌≤◌, ◌⊎◌, ◌&&◌, ◌++◌, ◌∷◌, [], inl, inr, Bool, true, not, List, length, refl, sym, ap, ◌∙◌, subst, arith}
use Rattle.std.specs.Prelude.{◌↔◌, ◌-◌, false, if◌then◌else◌, All, reverse, slice_index_or}
use Rattle.std.proofs.lemmas.Bool.{and_from, and_parts}
use Rattle.std.proofs.lemmas.List.{get_or-reverse, get_or_append_left, length-append, length-reverse}
use Rattle.std.proofs.Math.Seq.{get_or-append_seam}
use Rattle.regalloc2_index.proofs.Numbers.{below_or_last}
use Rattle.regalloc2_function.specs.FunctionValue.{FunctionValue, InstValue, inst_at}
use Rattle.regalloc2_analysis.specs.LiveRanges.WalkInvariant.{AddsNothing, ListsAdding}
use Rattle.regalloc2_function.specs.WellFormed.{BranchDefinesInPlace}
use Rattle.regalloc2_fastalloc_state.specs.Validate.NoLimits.{IsTakenOperand}
use Rattle.regalloc2_fastalloc_walk.specs.declared.walk.Found.{Found}
use Rattle.regalloc2_fastalloc_walk.specs.Findings.{IsFound, ListsAddingFrom, PassesTests}

first_or_later : (i k : ℕ) → i ≤ k → (k ≡ i) ⊎ (i + 1 ≤ k)
first_or_later i k le = grind arith

-- the instructions from `i` on pass their tests
abbrev pub PassFrom : FunctionValue → ℕ → Type 0
PassFrom f i = (k : ℕ) → i ≤ k → k < length f.insts → PassesTests (inst_at f k)

-- an instruction that is no branch passes if no operand has a limit; a branch, if what it defines passes too
pub passes_inst : (i : InstValue) (b : Bool) → i.is_branch ≡ false → (b ≡ true) ↔ All IsTakenOperand i.operands → (b ≡ true) ↔ PassesTests i
passes_inst i b no_branch taken = (
  λ e. record { taken = taken.0 e; branch = λ is. absurd (let z : true ≡ false = sym is ∙ no_branch in cc) },
  λ p. taken.1 p.taken,
)

pub passes_branch : (i : InstValue) (a b : Bool) → (a ≡ true) ↔ All IsTakenOperand i.operands → (b ≡ true) ↔ BranchDefinesInPlace i →
    ((a && b) ≡ true) ↔ PassesTests i
passes_branch i a b taken sound = (
  λ e. let both = and_parts a b e in record { taken = taken.0 both.0; branch = sound.0 both.1 },
  λ p. and_from a b (taken.1 p.taken) (sound.1 p.branch),
)

-- past the last instruction, nothing is found
pub none_fail : (f : FunctionValue) (i : ℕ) → i ≡ length f.insts → (true ≡ true) ↔ PassFrom f i
none_fail f i end = (λ e k le lt. absurd (omega (arith, le, lt, end)), λ h. refl)

pub none_listed : (f : FunctionValue) (Asked : ℕ → Type 0) (i : ℕ) → i ≡ length f.insts → ListsAddingFrom f Asked i []
none_listed f Asked i end = record {
  falling = λ j k l r. absurd (omega (arith, r));
  from = λ j l. absurd (omega (arith, l));
  below = λ j l. absurd (omega (arith, l));
  all = λ k le lt. absurd (omega (arith, le, lt, end));
}

-- whether the instructions from `i` on pass their tests
pub passes_more : (f : FunctionValue) (i : ℕ) (a b : Bool) → i < length f.insts → (a ≡ true) ↔ PassFrom f (i + 1) →
    (b ≡ true) ↔ PassesTests (inst_at f i) → ((a && b) ≡ true) ↔ PassFrom f i
passes_more f i a b inside later here = (
  λ e k le lt. elim (first_or_later i k le) [
    | inl same ↦ subst (λ (n : ℕ). PassesTests (inst_at f n)) (sym same) (here.0 (and_parts a b e).1)
    | inr more ↦ later.0 (and_parts a b e).0 k more lt
  ],
  λ h. and_from a b (later.1 (λ k le lt. h k (omega (arith, le)) lt)) (here.1 (h i (omega arith) inside)),
)

module _ (f : FunctionValue) (Asked : ℕ → Type 0) (i : ℕ) (listed : List ℕ) (h : ListsAddingFrom f Asked (i + 1) listed) where
  -- one instruction more, which adds nothing
  pub listed_same : AddsNothing f Asked i → ListsAddingFrom f Asked i listed
  listed_same nothing = record {
    falling = h.falling;
    from = λ j l. let le = h.from j l in omega (arith, le);
    below = h.below;
    all = λ k le lt. elim (first_or_later i k le) [
      | inl same ↦ inl (subst (AddsNothing f Asked) (sym same) nothing)
      | inr more ↦ h.all k more lt
    ];
  }

  before_it : (n : ℕ) → n < length listed → slice_index_or (listed ++ i ∷ []) n 0 ≡ slice_index_or listed n 0
  before_it n lt = get_or_append_left listed (i ∷ []) 0 n lt

  at_it : (n : ℕ) → n ≡ length listed → slice_index_or (listed ++ i ∷ []) n 0 ≡ i
  at_it n same = ap (λ (m : ℕ). slice_index_or (listed ++ i ∷ []) m 0) same ∙ get_or-append_seam listed i [] 0

  -- one instruction more, which is listed
  pub listed_more : i < length f.insts → ListsAddingFrom f Asked i (listed ++ i ∷ [])
  listed_more inside =
      let long : length (listed ++ i ∷ []) ≡ length listed + 1 = length-append listed (i ∷ []) in
      record {
        falling = λ j k l r. elim (below_or_last k (length listed) (omega (arith, r, long))) [
          | inl less ↦ (let b = before_it j (omega (arith, l, less)) in let c = before_it k less in let down = h.falling j k l less in omega (arith, b, c, down))
          | inr same ↦ (let b = before_it j (omega (arith, l, same)) in let c = at_it k same in let low = h.from j (omega (arith, l, same)) in
              omega (arith, b, c, low))
        ];
        from = λ j l. elim (below_or_last j (length listed) (omega (arith, l, long))) [
          | inl less ↦ (let b = before_it j less in let low = h.from j less in omega (arith, b, low))
          | inr same ↦ (let b = at_it j same in omega (arith, b))
        ];
        below = λ j l. elim (below_or_last j (length listed) (omega (arith, l, long))) [
          | inl less ↦ (let b = before_it j less in let top = h.below j less in omega (arith, b, top))
          | inr same ↦ (let b = at_it j same in omega (arith, b, inside))
        ];
        all = λ k le lt. elim (first_or_later i k le) [
          | inl same ↦ inr (length listed, omega (arith, long), at_it (length listed) refl ∙ sym same)
          | inr more ↦ elim (h.all k more lt) [
            | inl nothing ↦ inl nothing
            | inr s ↦ (let less = s.1 in inr (s.0, omega (arith, less, long), before_it s.0 s.1 ∙ s.2))
          ]
        ];
      }

-- a negation that is false
pub not_false : (b : Bool) → not b ≡ false → b ≡ true
not_false true e = refl
not_false false e = absurd cc

-- what is found with one instruction more
pub found_more : {A : Type 0} (f : FunctionValue) (Asked : ℕ → Type 0) (i : ℕ) (old new : Found A) (passes changed : Bool) → i < length f.insts →
    IsFound f Asked (i + 1) old → (passes ≡ true) ↔ PassesTests (inst_at f i) → (changed ≡ false → AddsNothing f Asked i) →
    new.passes ≡ (old.passes && passes) → new.changed.items ≡ (if changed then old.changed.items ++ i ∷ [] else old.changed.items) →
    IsFound f Asked i new
found_more f Asked i old new passes changed inside h one nothing is lists = record {
  passes = rw is (passes_more f i old.passes passes inside h.passes one);
  changed = rw lists (by_test changed nothing);
}
  where
    by_test : (b : Bool) → (b ≡ false → AddsNothing f Asked i) → ListsAddingFrom f Asked i (if b then old.changed.items ++ i ∷ [] else old.changed.items)
    by_test true none = listed_more f Asked i old.changed.items h.changed inside
    by_test false none = listed_same f Asked i old.changed.items h.changed (none refl)

-- once the walk has come to the first instruction, its list in reverse is one of rising instructions
pub lists_reversed : (f : FunctionValue) (Asked : ℕ → Type 0) (listed : List ℕ) → ListsAddingFrom f Asked 0 listed →
    ListsAdding f Asked (reverse listed) (length (reverse listed)) (length f.insts)
lists_reversed f Asked listed h =
    let long : length (reverse listed) ≡ length listed = length-reverse listed in
    let at : (k : ℕ) → k < length listed → slice_index_or (reverse listed) k 0 ≡ slice_index_or listed (length listed - 1 - k) 0 =
    λ k lt. get_or-reverse listed k 0 lt in
    record {
      within = omega arith;
      rising = λ j k less lt.
          let a = at j (omega (arith, less, lt, long)) in
          let b = at k (omega (arith, lt, long)) in
          let down = h.falling (length listed - 1 - k) (length listed - 1 - j) (omega (arith, less, lt, long)) (omega (arith, less, lt, long)) in
          omega (arith, a, b, down);
      below = λ j lt.
          let a = at j (omega (arith, lt, long)) in
          let top = h.below (length listed - 1 - j) (omega (arith, lt, long)) in
          omega (arith, a, top);
      all = λ k lt. elim (h.all k (omega arith) lt) [
        | inl nothing ↦ inl nothing
        | inr s ↦ (
            let less : s.0 < length listed = s.1 in
            let back : length listed - 1 - (length listed - 1 - s.0) ≡ s.0 = omega (arith, less) in
            inr (
              length listed - 1 - s.0,
              omega (arith, less, long),
              at (length listed - 1 - s.0) (omega (arith, less)) ∙ ap (λ (n : ℕ). slice_index_or listed n 0) back ∙ s.2,
            ))
      ];
    }
