-- The labels that are kept, one by one, and as debug locations.
use Rattle.std.proofs.Common.{ℕ, suc, ◌≡◌, ◌+◌, ◌*◌, ◌/◌, true, take, ◌<◌, ◌≤◌, inl, inr, List, [], ◌∷◌, ◌++◌, length, map, refl, sym, ap, ◌∙◌, subst, arith}
use Rattle.std.proofs.Common.{append-nil}
use Rattle.std.specs.Prelude.{Option, Some, nat_eq, slice_index_or, All}
use Rattle.std.specs.List.{Any}
use Rattle.std.proofs.lemmas.List.Elements.{All-cons, All-nil, All-weaker}
use Rattle.std.proofs.lemmas.Bool.{lt-ltb}
use Rattle.std.proofs.lemmas.Bool.Decides.{Decides-eqb}
use Rattle.std.proofs.lemmas.List.{map-append, take_more}
use Rattle.regalloc2_names.specs.Place.{Place, inst_of_point}
use Rattle.regalloc2_names.specs.Register.{VirtualRegister, class_code}
use Rattle.regalloc2_names.specs.Same.{same_class}
use Rattle.regalloc2_names.specs.declared.RegClass.{RegClass}
use Rattle.regalloc2_function.specs.FunctionValue.{FunctionValue, IsLimited, Label}
use Rattle.regalloc2_function.specs.OutputValue.{DebugLocation}
use Rattle.regalloc2_semantics.specs.Debug.{AreLocationsOf, IsFirstPoint, IsKept, IsLastPoint, UsesAt}
use Rattle.regalloc2_semantics.specs.Debug.AreLocationsOf.{none as no_more, kept as located, left_out as omitted}
use Rattle.regalloc2_semantics.specs.Debug.IsFirstPoint.{of_definition as begins_at_definition, of_parameter}
use Rattle.regalloc2_semantics.specs.Debug.IsLastPoint.{of_late_use, of_early_use, of_argument, of_definition as ends_at_definition}
use Rattle.regalloc2_semantics.proofs.Soundness.{edge_within}
use Rattle.regalloc2_carry.proofs.Order.{ends_within}
use Rattle.regalloc2_analysis.specs.declared.live_ranges.KeptLabel.{KeptLabel}
use Rattle.regalloc2_analysis.specs.declared.live_ranges.LiveRange.{LiveRange}
use Rattle.regalloc2_analysis.specs.LiveRanges.LiveRanges.{AreKeptLabels, AreLiveRanges, IsKeptRange, IsLabelled, IsSSA, IsShownBy, range_at}
use Rattle.regalloc2_analysis.specs.LiveRanges.LiveRanges.AreKeptLabels.{none, kept, left_out}
use Rattle.regalloc2_analysis.proofs.LiveRangesLemmas.FirstAndLastPoints.{one_first_point, one_last_point}

-- the kept labels of two lists, one after the other, are the kept labels of the first list and then of the second
pub kept_append : {f : FunctionValue} {ls ms : List Label} {ks ns : List KeptLabel} → AreKeptLabels f ls ks → AreKeptLabels f ms ns →
    AreKeptLabels f (ls ++ ms) (ks ++ ns)
kept_append none b = b
kept_append (kept l k is range rest) b = kept l k is range (kept_append rest b)
kept_append (left_out l never rest) b = left_out l never (kept_append rest b)

-- a debug location from a label that is kept, and a place for it
abbrev pub location_at : (KeptLabel → Place) → KeptLabel → DebugLocation
location_at place k = record { label = k.label; start = k.range.first; end = k.range.last; place = place k }

-- If each place meets what is required of it, the locations of the labels that are kept are the function's debug locations, as listed.
pub located_labels : {f : FunctionValue} {ls : List Label} {ks : List KeptLabel} (Asked : Label → DebugLocation → Type 0) (place : KeptLabel → Place) →
    ((l : Label) (k : KeptLabel) → k.label ≡ l.label → IsKeptRange f l k.range → Asked l (location_at place k))
    → AreKeptLabels f ls ks → AreLocationsOf f Asked ls (map (location_at place) ks)
located_labels Asked place each none = no_more
located_labels Asked place each (kept l k is range rest) = located l (location_at place k) is range.kept (each l k is range)
    (located_labels Asked place each rest)
located_labels Asked place each (left_out l never rest) = omitted l never (located_labels Asked place each rest)

-- one label more
pub kept_more : (f : FunctionValue) (ls : List Label) (ks : List KeptLabel) (l : Label) (k : KeptLabel) → AreKeptLabels f ls ks → k.label ≡ l.label →
    IsKeptRange f l k.range → AreKeptLabels f (ls ++ l ∷ []) (ks ++ k ∷ [])
kept_more f ls ks l k h is range = kept_append h (kept l k is range none)

-- a label more that isn't kept with any two points leaves the kept labels as they were
pub kept_same : (f : FunctionValue) (ls : List Label) (ks : List KeptLabel) (l : Label) → AreKeptLabels f ls ks → ((start end : ℕ) → IsKept f l start end → ⊥) →
    AreKeptLabels f (ls ++ l ∷ []) ks
kept_same f ls ks l h never = subst (AreKeptLabels f (ls ++ l ∷ [])) (append-nil ks) (kept_append h (left_out l never none))

-- the instruction of a point of the function
inst_is : (p : ℕ) → p < 2147483648 → inst_of_point p ≡ p / 2
inst_is p lt = rw (lt-ltb p 2147483648 lt) refl

-- points are small
first_small : (f : FunctionValue) → IsLimited f → IsSSA f → (v : VirtualRegister) {p : ℕ} → IsFirstPoint f v p → p < 2147483648
first_small f limited ssa v (begins_at_definition i d) = omega (arith, d.1.0, limited.insts)
first_small f limited ssa v (of_parameter b lt h) = let within = ends_within f ssa.follow b lt in let some = (ssa.follow b lt).0 in
    omega (arith, within, some, limited.insts)

use_small : (f : FunctionValue) → IsSSA f → (v : VirtualRegister) (i : ℕ) → UsesAt f v i → i < length f.insts
use_small f ssa v i (inl r) = r.1.0
use_small f ssa v i (inr (inl r)) = r.1.0
use_small f ssa v i (inr (inr (b, (k, (end, edge), has, other)))) = let within = ends_within f ssa.follow b (edge_within f b k edge) in
    omega (arith, within, end)

last_small : (f : FunctionValue) → IsLimited f → IsSSA f → (v : VirtualRegister) {p : ℕ} → IsLastPoint f v p → p < 2147483648
last_small f limited ssa v (of_late_use i a l) = let small = use_small f ssa v i a.0 in omega (arith, small, limited.insts)
last_small f limited ssa v (of_early_use i a never l) = let small = use_small f ssa v i a.0 in omega (arith, small, limited.insts)
last_small f limited ssa v (of_argument i a never nor) = let small = use_small f ssa v i a.0 in omega (arith, small, limited.insts)
last_small f limited ssa v (ends_at_definition i d never) = omega (arith, d.1.0, limited.insts)

module _ (f : FunctionValue) (limited : IsLimited f) (ssa : IsSSA f) (t : List (Option LiveRange)) (are : AreLiveRanges f (IsLabelled f) t) (l : Label)
    (named : IsLabelled f l.vreg.number) (r : LiveRange) (is : range_at t l.vreg.number ≡ Some r) where
  -- a label that lies within is kept
  pub kept_right : r.vreg ≡ l.vreg → inst_of_point r.first ≤ l.start → l.end ≤ inst_of_point r.last + 1 → IsKeptRange f l r
  kept_right same from upto =
      let live = (are.found l.vreg.number r is).1 in
      let first : inst_of_point r.first ≡ r.first / 2 = inst_is r.first (first_small f limited ssa r.vreg live.first) in
      let last : inst_of_point r.last ≡ r.last / 2 = inst_is r.last (last_small f limited ssa r.vreg live.last) in
      record {
        vreg = same;
        kept = (
          subst (λ (v : VirtualRegister). IsFirstPoint f v r.first) same live.first,
          subst (λ (v : VirtualRegister). IsLastPoint f v r.last) same live.last,
          rw (← first) from,
          rw (← last) upto,
        );
        by = subst (λ (v : VirtualRegister). IsShownBy f v r.by) same live.by;
      }

  -- a label that is kept lies within its live range
  pub kept_within : (start end : ℕ) → IsKept f l start end → (r.vreg ≡ l.vreg) × (inst_of_point r.first ≤ l.start) × (l.end ≤ inst_of_point r.last + 1)
  kept_within start end k =
      let there = are.all l.vreg start end named k.0 k.1 in
      let one : Some there.0 ≡ Some r = sym there.1 ∙ is in
      let same : r.vreg ≡ l.vreg = let e : there.0 ≡ r = cc in ap (λ (x : LiveRange). x.vreg) (sym e) ∙ there.2 in
      let live = (are.found l.vreg.number r is).1 in
      let first : inst_of_point r.first ≡ r.first / 2 = inst_is r.first (first_small f limited ssa r.vreg live.first) in
      let last : inst_of_point r.last ≡ r.last / 2 = inst_is r.last (last_small f limited ssa r.vreg live.last) in
      let p : start ≡ r.first = one_first_point f ssa l.vreg k.0 (subst (λ (v : VirtualRegister). IsFirstPoint f v r.first) same live.first) in
      let q : end ≡ r.last = one_last_point f ssa l.vreg k.1 (subst (λ (v : VirtualRegister). IsLastPoint f v r.last) same live.last) in
      (same, rw (first, ← p) k.2, rw (last, ← q) k.3)

-- vregs of one number and one encoding are the same
pub same_word : (a b : VirtualRegister) → a.number ≡ b.number → nat_eq (a.number * 4 + class_code a.class) (b.number * 4 + class_code b.class) ≡ true → a ≡ b
same_word a b number word =
    let words = (Decides-eqb (a.number * 4 + class_code a.class) (b.number * 4 + class_code b.class)).0 word in
    let codes : class_code a.class ≡ class_code b.class = omega (arith, words, number) in
    let class : a.class ≡ b.class = same_class a.class b.class ((Decides-eqb (class_code a.class) (class_code b.class)).1 codes) in
    ap (λ (n : ℕ). record { number = n; class = a.class }) number ∙ ap (λ (c : RegClass). record { number = b.number; class = c }) class

-- equal vregs have one encoding
pub one_word : (a b : VirtualRegister) → a ≡ b → nat_eq (a.number * 4 + class_code a.class) (b.number * 4 + class_code b.class) ≡ true
one_word a b same = (Decides-eqb (a.number * 4 + class_code a.class) (b.number * 4 + class_code b.class)).1
    (ap (λ (v : VirtualRegister). v.number * 4 + class_code v.class) same)

-- the first i + 1 items, mapped, are the first i mapped and then the image of the item at i
pub map_more : {X Y : Type 0} (h : X → Y) (xs : List X) (i : ℕ) (x : X) → i < length xs → x ≡ slice_index_or xs i x →
    map h (take (i + 1) xs) ≡ map h (take i xs) ++ h x ∷ []
map_more h xs i x less is = ap (map h) (take_more xs i x less ∙ ap (λ y. take i xs ++ y ∷ []) (sym is)) ∙ map-append h (take i xs) (x ∷ [])

-- a list whose length is 0 is mapped to the empty list
pub nothing_mapped : {X Y : Type 0} (h : X → Y) (xs : List X) → nat_eq (length xs) 0 ≡ true → map h xs ≡ []
nothing_mapped h [] empty = refl
nothing_mapped h (x ∷ xs) empty = let some = (Decides-eqb (length (x ∷ xs)) 0).0 empty in absurd (omega (arith, some))

-- each label that is kept is one of the list
abbrev pub IsKeptLabelOf : FunctionValue → List Label → KeptLabel → Type 0
IsKeptLabelOf f ls k = Any (λ l. (k.label ≡ l.label) × IsKeptRange f l k.range) ls

one_later : (f : FunctionValue) (l : Label) (ls : List Label) (k : KeptLabel) → IsKeptLabelOf f ls k → IsKeptLabelOf f (l ∷ ls) k
one_later f l ls k h = (suc h.0, h.1, omega (arith, h.2), h.3, h.4)

-- each kept label is one of the listed labels, kept with its live range
pub kept_from : {f : FunctionValue} {ls : List Label} {ks : List KeptLabel} → AreKeptLabels f ls ks → All (IsKeptLabelOf f ls) ks
kept_from {f = f} none = All-nil (IsKeptLabelOf f [])
kept_from {f = f} (kept {ls = ls} {ks = ks} l k is range rest) = All-cons (IsKeptLabelOf f (l ∷ ls)) k ks (0, l, omega arith, refl, (is, range))
    (All-weaker (IsKeptLabelOf f ls) (IsKeptLabelOf f (l ∷ ls)) (one_later f l ls) ks (kept_from rest))
kept_from {f = f} (left_out {ls = ls} {ks = ks} l never rest) = All-weaker (IsKeptLabelOf f ls) (IsKeptLabelOf f (l ∷ ls)) (one_later f l ls) ks (kept_from rest)
