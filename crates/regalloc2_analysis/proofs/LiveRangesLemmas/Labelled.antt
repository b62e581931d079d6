-- The numbers that labels name, marked in a table.
use Rattle.std.proofs.Common.{ℕ, zero, suc, nat_eq, ◌≡◌, ◌+◌, ◌<◌, inl, inr, Bool, true, false, List, [], ◌∷◌, length, map, refl, sym, ap, ◌∙◌, subst, arith}
use Rattle.std.specs.Prelude.{Option, Result, Ok, Err, Vec, IfOk, slice_index_or, ◌↔◌}
use Rattle.std.specs.List.{Any}
use Rattle.std.proofs.lemmas.Bool.{cases_eq, eqb-true}
use Rattle.regalloc2_names.specs.Register.{VirtualRegister}
use Rattle.regalloc2_function.specs.FunctionValue.{FunctionValue, Label, label_of}
use Rattle.regalloc2_semantics.specs.Debug.{IsFirstPoint}
use Rattle.regalloc2_semantics.specs.Debug.IsFirstPoint.{of_definition, of_parameter}
use Rattle.regalloc2_function.specs.Inside.TableLength.{CoversDefinitions}
use Rattle.regalloc2_function.specs.Inside.MarkedNumbers.{Marks}
use Rattle.regalloc2_analysis.specs.declared.live_ranges.LiveRange.{LiveRange}
use Rattle.regalloc2_analysis.specs.LiveRanges.LiveRanges.{AreLabelsMarked, AreLiveRanges, IsLabelled, IsSSA, IsWanted}
use Rattle.regalloc2_analysis.specs.LiveRanges.Marks.{NamedAmong}
use Rattle.regalloc2_analysis.proofs.MarkedItems.{marks_then, same_item}
use Rattle.regalloc2_analysis.proofs.LiveRangesLemmas.UsesInSSA.{defined_small, parameter_small}

-- labels as a client gives them
abbrev Given : Type 0
Given = VirtualRegister × ℕ × ℕ × ℕ

as_many : (items : List Given) → length (map label_of items) ≡ length items
as_many [] = refl
as_many (x ∷ xs) = ap suc (as_many xs)

-- a list that isn't empty has some labels
pub some_given : (items : List Given) → nat_eq (length items) 0 ≡ false → 0 < length (map label_of items)
some_given [] e = absurd (let x : true ≡ false = e in cc)
some_given (x ∷ xs) e = omega arith

mapped_at : (items : List Given) (j : ℕ) (l : Given) → j < length items → slice_index_or items j l ≡ l →
    slice_index_or (map label_of items) j (label_of l) ≡ label_of l
mapped_at [] j l lt at = absurd (omega arith)
mapped_at (x ∷ xs) zero l lt at = ap label_of at
mapped_at (x ∷ xs) (suc j) l lt at = mapped_at xs j l (omega arith) at

given_at : (items : List Given) (k : ℕ) (x : Label) → k < length (map label_of items) → slice_index_or (map label_of items) k x ≡ x →
    (l : Given) × (k < length items) × (slice_index_or items k l ≡ l) × (label_of l ≡ x)
given_at [] k x lt at = absurd (omega arith)
given_at (y ∷ ys) zero x lt at = (y, omega arith, refl, at)
given_at (y ∷ ys) (suc k) x lt at = let r = given_at ys k x (omega arith) at in (r.0, omega (arith, r.1), r.2, r.3)

-- a label of the list names a number that is labelled
pub labelled_at : (f : FunctionValue) (items : List Given) (k : ℕ) (x : Given) → map label_of items ≡ f.labels → k < length items →
    x ≡ slice_index_or items k x → IsLabelled f (label_of x).vreg.number
labelled_at f items k x same lt is =
    let many = as_many items in
    subst (λ (ls : List Label). Any (λ (l : Label). l.vreg.number ≡ x.0.number) ls) same
    (k, label_of x, omega (arith, many, lt), mapped_at items k x lt (sym is), refl)

-- once the numbers of all labels are marked, the requested numbers are the labelled ones
pub labelled_are : (f : FunctionValue) (items : List Given) (old new : List Bool) → ((n : ℕ) → slice_index_or old n false ≡ false) →
    map label_of items ≡ f.labels → Marks (NamedAmong items (length items)) old new → (n : ℕ) → n < length old → IsWanted new n ↔ IsLabelled f n
labelled_are f items old new none same m n lt = (
  λ w. elim (m.marked n w) [
    | inl was ↦ absurd (let no = none n in let x : true ≡ false = sym was ∙ no in cc)
    | inr h ↦
        (let many = as_many items in let x = h.1 in
        subst (λ (ls : List Label). Any (λ (l : Label). l.vreg.number ≡ n) ls) same
        (x.0, label_of x.1, omega (arith, many, x.2), mapped_at items x.0 x.1 x.2 x.3, x.4))
  ],
  λ h. (
      let x = subst (λ (ls : List Label). Any (λ (l : Label). l.vreg.number ≡ n) ls) (sym same) h in
      let g = given_at items x.0 x.1 x.2 x.3 in
      m.marks n lt (x.0, g.0, g.1, g.2, ap (λ (l : Label). l.vreg.number) g.3 ∙ x.4)),
)

-- the live ranges of the requested numbers are the live ranges of what labels name
pub ranges_of_labelled : (f : FunctionValue) → IsSSA f → (wanted : List Bool) (t : List (Option LiveRange)) → CoversDefinitions f (length wanted) →
    ((n : ℕ) → n < length wanted → IsWanted wanted n ↔ IsLabelled f n) → AreLiveRanges f (IsWanted wanted) t → AreLiveRanges f (IsLabelled f) t
ranges_of_labelled f ssa wanted t room same are = record {
  room = are.room;
  found = are.found;
  all = λ v start end named p q. are.all v start end ((same v.number (small v p)).1 named) p q;
}
  where
    small : (v : VirtualRegister) {start : ℕ} → IsFirstPoint f v start → v.number < length wanted
    small v (of_definition i d) = defined_small f ssa (length wanted) room v i d
    small v (of_parameter b lt h) = parameter_small f ssa (length wanted) room v b lt h

-- the number of one label more is marked
pub named_more : (labels : List Given) (j : ℕ) (l : Given) (old mid new : List Bool) → j < length labels → l ≡ slice_index_or labels j l →
    length mid ≡ length old → Marks (NamedAmong labels j) old mid → Marks (λ n. l.0.number ≡ n) mid new → Marks (NamedAmong labels (j + 1)) old new
named_more labels j l old mid new lt is long a m =
    marks_then (NamedAmong labels j) (λ n. l.0.number ≡ n) (NamedAmong labels (j + 1)) old mid new long a m
    (λ n. (
      λ r. elim (cases_eq r.0 j) [
        | inl same ↦ inr (ap (λ (x : Given). x.0.number) (same_item labels j r.0 l r.1 lt is r.3 same) ∙ r.4)
        | inr ne ↦ (let less = r.2 in inl (r.0, r.1, omega (arith, less, ne), r.3, r.4))
      ],
      λ e. elim e [ inl p ↦ (let less = p.2 in (p.0, p.1, omega (arith, less), p.3, p.4)) | inr q ↦ (j, l, omega arith, sym is, q) ],
    ))

-- without labels no number is marked, in a table without entries
pub marked_none : (f : FunctionValue) (items : List Given) (marks : List Bool) → map label_of items ≡ f.labels → nat_eq (length items) 0 ≡ true →
    marks ≡ [] → AreLabelsMarked f marks
marked_none f items marks same empty none =
    let long : length f.labels ≡ length items = ap (λ (ls : List Label). length ls) (sym same) ∙ as_many items in
    let no : length items ≡ 0 = eqb-true (length items) 0 empty in
    let nil : length marks ≡ 0 = ap (λ (bs : List Bool). length bs) none in
    record { room = λ lt. absurd (omega (arith, lt, long, no)); marks = λ n lt. absurd (omega (arith, lt, nil)) }

-- a table that is made has both
pub marked_some : {A E : Type 0} (f : FunctionValue) (r : Result (Vec Bool A) E) → IfOk r (λ w. CoversDefinitions f (length w.items)) →
    IfOk r (λ w. (n : ℕ) → n < length w.items → IsWanted w.items n ↔ IsLabelled f n) → IfOk r (λ w. AreLabelsMarked f w.items)
marked_some f (Ok w) room marks = record { room = λ _. room; marks = marks }
marked_some f (Err e) room marks = tt
