-- The edges out of blocks whose branches define are noted one after another, with what is stored behind them.
use Rattle.std.proofs.Common.{ℕ, ◌≡◌, ◌+◌, ◌-◌, ◌<◌, ◌≤◌, inl, inr, Bool, true, false, List, [], ◌∷◌, ◌++◌, length, refl, sym, ap, ◌∙◌, subst, arith}
use Rattle.std.proofs.Common.{length-append, append_assoc, take, drop, length-drop}
use Rattle.std.specs.Prelude.{Option, None, Some, IsSome, slice_index, slice_index_or, slice_range, Contains, ◌↔◌, ◌||◌}
use Rattle.std.proofs.lemmas.Bool.{cases_eq, cases_lt, cases_Bool, or_cases, or_left, or_right}
use Rattle.std.proofs.lemmas.List.{append-nil, get_or_append_left, get_or-append-add, drop-append-le, take-append-le}
use Rattle.std.proofs.lemmas.List.Elements.{Contains-append_left, Contains-append_right, Contains-append_cases, Contains-get_or}
use Rattle.std.proofs.Math.Seq.{drop-append_seam}
use Rattle.std.proofs.lemmas.Grind.{common_steps}
use Rattle.regalloc2_names.specs.declared.sets.PRegSet.{PRegSet}
use Rattle.regalloc2_names.specs.Operand.{OperandValue, is_def}
use Rattle.regalloc2_names.specs.Register.{Register, is_register, has_register}
use Rattle.regalloc2_names.specs.Same.{is_register-true, is_register-same}
use Rattle.regalloc2_function.specs.FunctionValue.{FunctionValue, block_at, inst_at, last_of, op_at}
use Rattle.regalloc2_semantics.specs.Sound.{target_at}
use Rattle.regalloc2_analysis.specs.BranchDefs.BranchDefs.{EndsInDefinitions, IsEdgeInto}
use Rattle.regalloc2_carry.proofs.SingleDef.{IsDefOperand, one_made}
use Rattle.regalloc2_carry.proofs.SingleDef.Made.{by_operand}
use Rattle.regalloc2_analysis.specs.BranchDefs.BranchDefs.{AreStoredOperands, IsHeld, IsUsedElsewhere, MayHaveTables, fixed_definition}
use Rattle.regalloc2_analysis.specs.BranchDefs.Notes.{AreUsed, IsMarkedDefinition, ListsStored, NotesEdges}
use Rattle.regalloc2_analysis.specs.BranchDefs.Tables.{AreEdges, IsEdgeOf}
use Rattle.regalloc2_analysis.specs.declared.branch_defs.EdgeInto.{EdgeInto}
use Rattle.regalloc2_analysis.proofs.BranchDefsLemmas.UseNotes.{used_made}

-- the registers to which definitions among the first operands are fixed
abbrev pub IsHeldAmong : List OperandValue → ℕ → Register → Type 0
IsHeldAmong operands count r = (k : ℕ) × (k < count) × (fixed_definition (op_at operands k) ≡ Some r)

abbrev pub HasHeldAmong : List OperandValue → ℕ → PRegSet → Type 0
HasHeldAmong operands count held = (r : Register) → (has_register held r ≡ true) ↔ IsHeldAmong operands count r

-- one fixed definition more
pub holds_more : (ops : List OperandValue) (k : ℕ) (p : Register) (old new : PRegSet) → fixed_definition (op_at ops k) ≡ Some p →
    ((r : Register) → has_register new r ≡ is_register p r || has_register old r) → HasHeldAmong ops k old → HasHeldAmong ops (k + 1) new
holds_more ops k p old new is now h r = (
  λ t. elim (or_cases (is_register p r) (has_register old r) (sym (now r) ∙ t)) [
    | inl mine ↦ (k, omega arith, is ∙ ap Some (is_register-true p r mine))
    | inr was ↦ (let x = (h r).0 was in let lt = x.1 in (x.0, omega (arith, lt), x.2))
  ],
  λ x. elim (cases_eq x.0 k) [
    | inl same ↦ (
        let at : fixed_definition (op_at ops k) ≡ Some r = subst (λ (m : ℕ). fixed_definition (op_at ops m) ≡ Some r) same x.2 in
        let one : Some p ≡ Some r = sym is ∙ at in
        let reg : p ≡ r = cc in
        now r ∙ or_left (is_register p r) (has_register old r) (subst (λ (q : Register). is_register p q ≡ true) reg (is_register-same p)))
    | inr ne ↦ (let lt = x.1 in now r ∙ or_right (is_register p r) (has_register old r) ((h r).1 (x.0, omega (arith, lt, ne), x.2)))
  ],
)

-- one operand more that is none
pub holds_same : (ops : List OperandValue) (k : ℕ) (held : PRegSet) → fixed_definition (op_at ops k) ≡ None → HasHeldAmong ops k held → HasHeldAmong ops (k + 1) held
holds_same ops k held is h r = (
  λ t. let x = (h r).0 t in let lt = x.1 in (x.0, omega (arith, lt), x.2),
  λ x. elim (cases_eq x.0 k) [
    | inl same ↦ absurd (
        let at : fixed_definition (op_at ops k) ≡ Some r = subst (λ (m : ℕ). fixed_definition (op_at ops m) ≡ Some r) same x.2 in
        let no : None ≡ Some r = sym is ∙ at in cc)
    | inr ne ↦ (let lt = x.1 in (h r).1 (x.0, omega (arith, lt, ne), x.2))
  ],
)

-- the one element of a list
only : (x y : ℕ) → Contains (x ∷ []) y → x ≡ y
only x y h = elim (cases_eq h.0 0) [
  | inl same ↦ subst (λ (i : ℕ). slice_index_or (x ∷ []) i y ≡ y) same h.2
  | inr ne ↦ absurd (let lt = h.1 in omega (arith, lt, ne))
]

-- of the first none nothing is listed
pub lists_none : (used : List Bool) (ops : List OperandValue) (old : List ℕ) → ListsStored used ops 0 old old
lists_none used ops old = record {
  added = [];
  is = sym (append-nil old);
  rising = λ i j less lt. absurd (omega (arith, lt));
  members = λ k. (λ h. absurd (let lt = h.1 in omega (arith, lt)), λ h. absurd (let lt = h.0 in omega (arith, lt)));
}

-- what is fixed is fixed to a register
fixed_to : (o : Option Register) → IsSome o → ((r : Register) → o ≡ Some r → ⊥) → ⊥
fixed_to None h none = absurd cc
fixed_to (Some r) h none = none r refl

-- where no register is held, nothing is listed
pub lists_nothing : (used : List Bool) (ops : List OperandValue) (held : PRegSet) → ((r : Register) → (has_register held r ≡ true) ↔ IsHeld ops r) →
    ((r : Register) → has_register held r ≡ false) → (old : List ℕ) → ListsStored used ops (length ops) old old
lists_nothing used ops held is none old = record {
  added = [];
  is = sym (append-nil old);
  rising = λ i j less lt. absurd (omega (arith, lt));
  members = λ k. (
    λ h. absurd (let lt = h.1 in omega (arith, lt)),
    λ h. absurd (fixed_to (fixed_definition (op_at ops k)) h.1.0
        (λ r e. let yes : has_register held r ≡ true = (is r).1 (k, h.0, e) in let no = none r in absurd cc)),
  );
}

-- one operand more that is listed
pub lists_more : (used : List Bool) (ops : List OperandValue) (k : ℕ) (old mid : List ℕ) → IsMarkedDefinition used (op_at ops k) →
    ListsStored used ops k old mid → ListsStored used ops (k + 1) old (mid ++ k ∷ [])
lists_more used ops k old mid marked h =
    let n : ℕ = length h.added in
    let below : (i : ℕ) → i < n → slice_index h.added i < k = λ i lt. ((h.members (slice_index h.added i)).0 (Contains-get_or h.added i 0 lt)).0 in
    let left : (i : ℕ) → i < n → slice_index (h.added ++ k ∷ []) i ≡ slice_index h.added i = λ i lt. get_or_append_left h.added (k ∷ []) 0 i lt in
    let last : slice_index (h.added ++ k ∷ []) n ≡ k = subst (λ (m : ℕ). slice_index (h.added ++ k ∷ []) m ≡ k) (let e : n + 0 ≡ n = omega arith in e)
    (get_or-append-add h.added (k ∷ []) 0 0) in
    let all : length (h.added ++ k ∷ []) ≡ n + 1 = length-append h.added (k ∷ []) in
    record {
      added = h.added ++ k ∷ [];
      is = ap (λ (xs : List ℕ). xs ++ k ∷ []) h.is ∙ append_assoc old h.added (k ∷ []);
      rising = λ i j less lt. elim (cases_lt j n) [
        | inl inside ↦ subst (λ (m : ℕ). m < slice_index (h.added ++ k ∷ []) j) (sym (left i (omega (arith, less, inside))))
            (subst (λ (m : ℕ). slice_index h.added i < m) (sym (left j inside)) (h.rising i j less inside))
        | inr past ↦ (
            let at : j ≡ n = omega (arith, past, lt, all) in
            let small : i < n = omega (arith, less, at) in
            let end : slice_index (h.added ++ k ∷ []) j ≡ k = subst (λ (m : ℕ). slice_index (h.added ++ k ∷ []) m ≡ k) (sym at) last in
            let low = below i small in let same = left i small in omega (arith, low, same, end))
      ];
      members = λ x. (
        λ c. elim (Contains-append_cases h.added (k ∷ []) x c) [
          | inl was ↦ (let y = (h.members x).0 was in let lt = y.0 in (omega (arith, lt), y.1))
          | inr now ↦ (let e = only k x now in (omega (arith, e), subst (λ (m : ℕ). IsMarkedDefinition used (op_at ops m)) e marked))
        ],
        λ y. elim (cases_eq x k) [
          | inl e ↦ Contains-append_right h.added (k ∷ []) x (0, omega arith, sym e)
          | inr ne ↦ (let lt = y.0 in Contains-append_left h.added (k ∷ []) x ((h.members x).1 (omega (arith, lt, ne), y.1)))
        ],
      );
    }

-- one operand more that isn't
pub lists_same : (used : List Bool) (ops : List OperandValue) (k : ℕ) (old mid : List ℕ) → (IsMarkedDefinition used (op_at ops k) → ⊥) →
    ListsStored used ops k old mid → ListsStored used ops (k + 1) old mid
lists_same used ops k old mid not_marked h = record {
  added = h.added;
  is = h.is;
  rising = h.rising;
  members = λ x. (
    λ c. let y = (h.members x).0 c in let lt = y.0 in (omega (arith, lt), y.1),
    λ y. elim (cases_eq x k) [
      | inl e ↦ absurd (not_marked (subst (λ (m : ℕ). IsMarkedDefinition used (op_at ops m)) e y.1))
      | inr ne ↦ (let lt = y.0 in (h.members x).1 (omega (arith, lt, ne), y.1))
    ],
  );
}

-- a fixed definition defines
pub fixed_defines : (o : OperandValue) → IsSome (fixed_definition o) → is_def o.kind ≡ true
fixed_defines o h = elim (cases_Bool (is_def o.kind)) [ inl def ↦ def | inr isnt ↦ absurd (let e : false ≡ true = rw isnt at h in cc) ]

-- all of an instruction's operands
pub lists_stored : (f : FunctionValue) → MayHaveTables f → (used : List Bool) → AreUsed f used → (i : ℕ) → i < length f.insts → (old new : List ℕ)
    (h : ListsStored used (inst_at f i).operands (length (inst_at f i).operands) old new) → AreStoredOperands f (inst_at f i).operands h.added
lists_stored f w used are i lt old new h =
    let ops : List OperandValue = (inst_at f i).operands in
    record {
      rising = h.rising;
      members = λ k. (
        λ c. let y = (h.members k).0 c in
            let u = are.marked (op_at ops k).vreg.number y.1.1 in
            let d : IsDefOperand f (op_at ops k).vreg.number i k = record {
              inst = lt;
              operand = y.0;
              definition = fixed_defines (op_at ops k) y.1.0;
              number = refl;
            } in
            let same : u.0 ≡ (op_at ops k).vreg = one_made f w.1.defined_once u.0 (op_at ops k).vreg (used_made f w u.0 u.2) (by_operand i k d refl) u.1 in
            record { operand = y.0; fixed = y.1.0; used = subst (IsUsedElsewhere f) same u.2 },
        λ s. (h.members k).1 (s.operand, (s.fixed, are.marks (op_at ops k).vreg s.used)),
      );
    }

-- what was listed stays
range_before : (xs ys : List ℕ) (a b : ℕ) → a ≤ b → b ≤ length xs → slice_range (xs ++ ys) a b ≡ slice_range xs a b
range_before xs ys a b le within =
    ap (take (b - a)) (drop-append-le a xs ys (omega arith)) ∙ take-append-le (b - a) (drop a xs) ys (let l = length-drop a xs in omega (arith, l, le, within))

take_all : (ys : List ℕ) (n : ℕ) → n ≡ length ys → take n ys ≡ ys
take_all ys n e = grind (arith, common_steps)

-- the range behind a list has what is appended to it
range_behind : (xs ys : List ℕ) → slice_range (xs ++ ys) (length xs) (length (xs ++ ys)) ≡ ys
range_behind xs ys =
    ap (take (length (xs ++ ys) - length xs)) (drop-append_seam xs ys) ∙ take_all ys (length (xs ++ ys) - length xs)
    (let l = length-append xs ys in omega (arith, l))

-- what an entry says of an edge still holds if more is listed
edge_stays : (f : FunctionValue) (b : ℕ) (listed added : List ℕ) (e : EdgeInto) → IsEdgeOf f b listed e → IsEdgeOf f b (listed ++ added) e
edge_stays f b listed added e h = record {
  edge = h.edge;
  branch = h.branch;
  held = h.held;
  within = (h.within.0, let x = h.within.1 in let l = length-append listed added in omega (arith, x, l));
  stored = subst (AreStoredOperands f (inst_at f e.branch).operands) (sym (range_before listed added e.first e.end h.within.0 h.within.1)) h.stored;
}

-- the edge at a position out of a block that ends in definitions
pub record IsFrom (f : FunctionValue) (b : ℕ) (edge : EdgeInto) (listed added : List ℕ) : Type 0 where
  pub block : b < length f.blocks
  pub definitions : EndsInDefinitions f b
  pub from : edge.from ≡ b
  pub branch : edge.branch ≡ last_of (block_at f b)
  pub held : (r : Register) → (has_register edge.held r ≡ true) ↔ IsHeld (inst_at f (last_of (block_at f b))).operands r
  pub first : edge.first ≡ length listed
  pub end : edge.end ≡ length (listed ++ added)
  pub stored : AreStoredOperands f (inst_at f (last_of (block_at f b))).operands added

edge_at : (f : FunctionValue) (b p : ℕ) (edge : EdgeInto) (listed added : List ℕ) → IsFrom f b edge listed added → p < length (block_at f b).succs →
    IsEdgeOf f (target_at f b p) (listed ++ added) (record edge { position = p })
edge_at f b p edge listed added h lt = record {
  edge = subst (λ (m : ℕ). IsEdgeInto f (target_at f b p) m p) (sym h.from) (record { block = h.block; edge = lt; target = refl; definitions = h.definitions });
  branch = h.branch ∙ ap (λ (m : ℕ). last_of (block_at f m)) (sym h.from);
  held = subst (λ (m : ℕ). (r : Register) → (has_register edge.held r ≡ true) ↔ IsHeld (inst_at f m).operands r) (sym h.branch) h.held;
  within = (let a = h.first in let b = h.end in let l = length-append listed added in omega (arith, a, b, l), let b = h.end in omega (arith, b));
  stored = subst (λ (m : ℕ). AreStoredOperands f (inst_at f m).operands (slice_range (listed ++ added) edge.first edge.end)) (sym h.branch)
      (subst (λ (m : ℕ). AreStoredOperands f (inst_at f (last_of (block_at f b))).operands (slice_range (listed ++ added) m edge.end)) (sym h.first)
      (subst (λ (m : ℕ). AreStoredOperands f (inst_at f (last_of (block_at f b))).operands (slice_range (listed ++ added) (length listed) m)) (sym h.end)
      (subst (AreStoredOperands f (inst_at f (last_of (block_at f b))).operands) (sym (range_behind listed added)) h.stored)));
}

-- before the first block there is no edge
pub edges_none : (f : FunctionValue) (edges : List (Option EdgeInto)) (stored : List ℕ) → length edges ≡ length f.blocks →
    ((n : ℕ) → slice_index_or edges n None ≡ None) → AreEdges f 0 edges stored
edges_none f edges stored long none = record {
  long = long;
  edge = λ b e is. absurd (let no : None ≡ Some e = sym (none b) ∙ is in cc);
  no_edge = λ b is from position less. absurd (omega (arith, less));
}

-- one block more that ends in definitions
pub edges_more : (f : FunctionValue) (b : ℕ) (succs : List ℕ) (edge : EdgeInto) (old new : List (Option EdgeInto)) (listed added more : List ℕ) →
    succs ≡ (block_at f b).succs → length new ≡ length old → more ≡ listed ++ added → IsFrom f b edge listed added → AreEdges f b old listed →
    NotesEdges succs edge (length succs) old new → AreEdges f (b + 1) new more
edges_more f b succs edge old new listed added more is long also from h told =
    let notes : NotesEdges (block_at f b).succs edge (length (block_at f b).succs) old new
    = subst (λ (xs : List ℕ). NotesEdges xs edge (length xs) old new) is told in
    subst (AreEdges f (b + 1) new) (sym also) (record {
      long = long ∙ h.long;
      edge = λ c e x. elim (notes.from c e x) [
        | inl was ↦ edge_stays f c listed added e (h.edge c e was)
        | inr now ↦ subst (λ (d : EdgeInto). IsEdgeOf f c (listed ++ added) d) (sym now.3)
            (subst (λ (m : ℕ). IsEdgeOf f m (listed ++ added) (record edge { position = now.0 })) now.2 (edge_at f b now.0 edge listed added from now.1))
      ];
      no_edge = λ c x into position less at. elim (cases_eq into b) [
        | inl same ↦ (
            let has : position < length (block_at f b).succs = subst (λ (m : ℕ). position < length (block_at f m).succs) same at.edge in
            let goal : slice_index (block_at f b).succs position ≡ c = subst (λ (m : ℕ). target_at f m position ≡ c) same at.target in
            notes.noted position has (subst (λ (m : ℕ). slice_index_or new m None ≡ None) (sym goal) x))
        | inr ne ↦ h.no_edge c (notes.kept c x) into position (omega (arith, less, ne)) at
      ];
    })
