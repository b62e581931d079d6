-- A vreg is used elsewhere, or it isn't.
use Rattle.std.proofs.Common.{ℕ, zero, suc, ◌≡◌, ◌<◌, ◌⊎◌, inl, inr, Bool, true, false, [], length, refl, sym, subst, arith}
use Rattle.std.specs.Prelude.{slice_index_or}
use Rattle.std.proofs.lemmas.Bool.{cases_eq, cases_lt}
use Rattle.regalloc2_names.specs.declared.OperandPos.{OperandPos}
use Rattle.regalloc2_names.specs.declared.OperandPos.TheVariants.{Early, Late}
use Rattle.regalloc2_names.specs.Operand.{is_def, is_reading}
use Rattle.regalloc2_names.specs.Register.{VirtualRegister, is_vreg}
use Rattle.regalloc2_function.specs.FunctionValue.{FunctionValue, block_at, inst_at, last_of, op_at}
use Rattle.regalloc2_semantics.specs.Live.{DefinesAt, ReadsAt}
use Rattle.regalloc2_semantics.specs.Debug.{UsesAt}
use Rattle.regalloc2_semantics.proofs.Cells.{is_vreg-true, is_vreg-same}
use Rattle.regalloc2_semantics.proofs.Soundness.{edge_within}
use Rattle.regalloc2_analysis.specs.BranchDefs.BranchDefs.{IsUsedElsewhere}
use Rattle.regalloc2_analysis.proofs.BranchDefsLemmas.UseNotes.{reads_here}

-- a statement holds, or it doesn't
abbrev pub Decided : Type 0 → Type 0
Decided P = P ⊎ (P → ⊥)

-- whether it holds of some number below a bound
pub below : (P : ℕ → Type 0) → ((k : ℕ) → Decided (P k)) → (n : ℕ) → Decided ((k : ℕ) × (k < n) × P k)
below P d zero = inr (λ h. absurd (let lt = h.1 in omega (arith, lt)))
below P d (suc n) = elim (d n) [
  | inl p ↦ inl (n, omega arith, p)
  | inr not_last ↦ elim (below P d n) [
    | inl h ↦ (let lt = h.1 in inl (h.0, omega (arith, lt), h.2))
    | inr none ↦ inr (λ h. elim (cases_eq h.0 n) [
      | inl e ↦ not_last (subst P e h.2)
      | inr ne ↦ (let lt = h.1 in none (h.0, omega (arith, lt, ne), h.2))
    ])
  ]
]

-- of two
pub both : (P Q : Type 0) → Decided P → Decided Q → Decided (P × Q)
both P Q (inl p) (inl q) = inl (p, q)
both P Q (inl p) (inr n) = inr (λ h. n h.1)
both P Q (inr n) d = inr (λ h. n h.0)

neither : (P : Type 0) → Decided P → Decided (P → ⊥)
neither P (inl p) = inr (λ n. n p)
neither P (inr n) = inl n

-- whether a value is true
pub is_so : (b : Bool) → Decided (b ≡ true)
is_so true = inl refl
is_so false = inr (λ e. cc)

-- whether two vregs are the same
pub same_vreg : (v w : VirtualRegister) → Decided (v ≡ w)
same_vreg v w = elim (is_so (is_vreg v w)) [
  | inl t ↦ inl (is_vreg-true v w t)
  | inr n ↦ inr (λ e. n (subst (λ (u : VirtualRegister). is_vreg v u ≡ true) e (is_vreg-same v)))
]

-- an operand reads v, or defines it
abbrev pub ReadsIt : FunctionValue → VirtualRegister → ℕ → ℕ → Type 0
ReadsIt f v i k = (is_reading (op_at (inst_at f i).operands k) ≡ true) × ((op_at (inst_at f i).operands k).vreg ≡ v)

abbrev pub DefinesIt : FunctionValue → VirtualRegister → ℕ → ℕ → Type 0
DefinesIt f v i k = (is_def (op_at (inst_at f i).operands k).kind ≡ true) × ((op_at (inst_at f i).operands k).vreg ≡ v)

-- some operand of an instruction does
abbrev pub SomeReads : FunctionValue → VirtualRegister → ℕ → Type 0
SomeReads f v i = (k : ℕ) × (k < length (inst_at f i).operands) × ReadsIt f v i k

abbrev pub SomeDefines : FunctionValue → VirtualRegister → ℕ → Type 0
SomeDefines f v i = (i < length f.insts) × ((k : ℕ) × (k < length (inst_at f i).operands) × DefinesIt f v i k)

-- v is among the arguments of an edge, whose branch doesn't define it
abbrev pub PassesOnEdge : FunctionValue → VirtualRegister → ℕ → ℕ → Type 0
PassesOnEdge f v b k = ((j : ℕ) × (j < length (slice_index_or (block_at f b).arguments k []))
    × (slice_index_or (slice_index_or (block_at f b).arguments k []) j v ≡ v))
    × (SomeDefines f v (last_of (block_at f b)) → ⊥)

-- at some edge out of a block, which isn't empty
abbrev pub SomePasses : FunctionValue → VirtualRegister → ℕ → Type 0
SomePasses f v b = (0 < (block_at f b).range.end) × ((k : ℕ) × (k < length (block_at f b).succs) × PassesOnEdge f v b k)

some_reads : (f : FunctionValue) (v : VirtualRegister) (i : ℕ) → Decided (SomeReads f v i)
some_reads f v i = below (ReadsIt f v i) (λ k. both _ _ (is_so (is_reading (op_at (inst_at f i).operands k)))
    (same_vreg (op_at (inst_at f i).operands k).vreg v)) (length (inst_at f i).operands)

is_below : (i n : ℕ) → Decided (i < n)
is_below i n = elim (cases_lt i n) [ inl lt ↦ inl lt | inr ge ↦ inr (λ lt. absurd (omega (arith, lt, ge))) ]

some_defines : (f : FunctionValue) (v : VirtualRegister) (i : ℕ) → Decided (SomeDefines f v i)
some_defines f v i = both _ _ (is_below i (length f.insts)) (below (DefinesIt f v i) (λ k. both _ _ (is_so (is_def (op_at (inst_at f i).operands k).kind))
    (same_vreg (op_at (inst_at f i).operands k).vreg v)) (length (inst_at f i).operands))

some_passes : (f : FunctionValue) (v : VirtualRegister) (b : ℕ) → Decided (SomePasses f v b)
some_passes f v b = both _ _ (is_below 0 (block_at f b).range.end) (below (PassesOnEdge f v b) (λ k. both _ _
    (below (λ j. slice_index_or (slice_index_or (block_at f b).arguments k []) j v ≡ v)
    (λ j. same_vreg (slice_index_or (slice_index_or (block_at f b).arguments k []) j v) v) (length (slice_index_or (block_at f b).arguments k [])))
    (neither _ (some_defines f v (last_of (block_at f b))))) (length (block_at f b).succs))

-- a definition at an instruction, as one of its operands, and back
defines_of : (f : FunctionValue) (v : VirtualRegister) (i : ℕ) → DefinesAt f v i → SomeDefines f v i
defines_of f v i d = (d.1.0, (d.0, d.1.1, (d.2, d.1.2)))

defines_at : (f : FunctionValue) (v : VirtualRegister) (i : ℕ) → SomeDefines f v i → DefinesAt f v i
defines_at f v i s = (s.1.0, (s.0, s.1.1, s.1.2.1), s.1.2.0)

reads_of : (f : FunctionValue) (v : VirtualRegister) (p : OperandPos) (i : ℕ) → ReadsAt f v p i → SomeReads f v i
reads_of f v p i r = (r.0, r.1.1, (r.2, r.1.2))

-- an instruction that reads v uses it
pub by_read : (f : FunctionValue) (v : VirtualRegister) → ((i : ℕ) × (i < length f.insts) × SomeReads f v i) → IsUsedElsewhere f v
by_read f v h = (h.0, subst (λ (w : VirtualRegister). UsesAt f w h.0) h.2.2.1 (reads_here f h.0 h.2.0 h.1 h.2.1 h.2.2.0))

-- a branch that passes a vreg and doesn't define it uses it elsewhere
pub by_pass : (f : FunctionValue) (v : VirtualRegister) → ((b : ℕ) × (b < length f.blocks) × SomePasses f v b) → IsUsedElsewhere f v
by_pass f v (b, lt, (some, (k, edge, (has, other)))) = (
  last_of (block_at f b),
  inr (inr (b, (k, (omega (arith, some), edge), has, λ d. other (defines_of f v (last_of (block_at f b)) d)))),
)

some_use : (f : FunctionValue) (v : VirtualRegister) (i : ℕ) → UsesAt f v i →
    ((j : ℕ) × (j < length f.insts) × SomeReads f v j) ⊎ ((b : ℕ) × (b < length f.blocks) × SomePasses f v b)
some_use f v i (inl r) = inl (i, r.1.0, reads_of f v Early i r)
some_use f v i (inr (inl r)) = inl (i, r.1.0, reads_of f v Late i r)
some_use f v i (inr (inr (b, (k, (end, edge), has, other)))) =
    let at : i ≡ last_of (block_at f b) = omega (arith, end) in
    let some : 0 < (block_at f b).range.end = omega (arith, end) in
    inr (b, edge_within f b k edge, (some, (k, edge, (has, λ s. other (subst (DefinesAt f v) (sym at) (defines_at f v (last_of (block_at f b)) s))))))

-- a vreg is used elsewhere, or it isn't
pub used_or_not : (f : FunctionValue) (v : VirtualRegister) → IsUsedElsewhere f v ⊎ (IsUsedElsewhere f v → ⊥)
used_or_not f v = elim (below (SomeReads f v) (some_reads f v) (length f.insts)) [
  | inl r ↦ inl (by_read f v r)
  | inr unread ↦ elim (below (SomePasses f v) (some_passes f v) (length f.blocks)) [
    | inl p ↦ inl (by_pass f v p)
    | inr unpassed ↦ inr (λ u. elim (some_use f v u.0 u.1) [ inl r ↦ unread r | inr p ↦ unpassed p ])
  ]
]
