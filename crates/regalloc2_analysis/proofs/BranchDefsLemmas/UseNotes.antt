-- What instructions use is marked: what they read, and what they pass and don't define.
use Rattle.std.proofs.Common.{ℕ, ◌≡◌, ◌+◌, ◌<◌, ◌⊎◌, inl, inr, Bool, true, false, List, [], length, refl, sym, ap, ◌∙◌, subst, arith}
use Rattle.std.specs.Prelude.{Option, None, Some, slice_index_or, Contains}
use Rattle.std.proofs.lemmas.Bool.{cases_eq}
use Rattle.regalloc2_names.specs.declared.OperandPos.{OperandPos}
use Rattle.regalloc2_names.specs.declared.OperandPos.TheVariants.{Early, Late}
use Rattle.regalloc2_names.specs.Operand.{OperandValue, is_reading}
use Rattle.regalloc2_names.specs.Register.{VirtualRegister}
use Rattle.regalloc2_function.specs.FunctionValue.{FunctionValue, block_at, inst_at, last_of, op_at}
use Rattle.regalloc2_semantics.specs.Runs.{Location}
use Rattle.regalloc2_semantics.specs.Debug.{UsesAt}
use Rattle.regalloc2_carry.proofs.SingleDef.{Made, is_made, made_before, one_made, one_operand, reads_defined, IsDefOperand}
use Rattle.regalloc2_carry.proofs.SingleDef.Made.{by_operand}
use Rattle.regalloc2_carry.proofs.Order.{passed_made}
use Rattle.regalloc2_function.specs.Inside.TableLength.{CoversDefinitions}
use Rattle.regalloc2_function.specs.Inside.MarkedNumbers.{Marks}
use Rattle.regalloc2_semantics.specs.Live.{DefinesAt, ReadsAt, PassesAt}
use Rattle.regalloc2_analysis.specs.BranchDefs.BranchDefs.{DefinesNumber, IsSite, IsUsedElsewhere, MayHaveTables}
use Rattle.regalloc2_semantics.proofs.Soundness.{edge_within}
use Rattle.regalloc2_analysis.specs.BranchDefs.Notes.{AreUsed, IsSiteAt, PassesAmong, PassesIn, PassesOut, ReadsAmong, ReadsIn}
use Rattle.regalloc2_analysis.specs.BranchDefs.Tables.{AreDefSites}
use Rattle.regalloc2_analysis.specs.declared.branch_defs.DefSite.{DefSite}
use Rattle.regalloc2_analysis.proofs.MarkedItems.{marks_then, same_item}
use Rattle.regalloc2_analysis.proofs.BranchDefsLemmas.BlockEnds.{goes_on_by_branch, read_operand, site_defines}
use Rattle.regalloc2_analysis.proofs.BranchDefsLemmas.RoomForNumbers.{made_room}

-- one of the first count + 1 is one of the first count, or the last
last_or_before : (P : ℕ → Type 0) (count : ℕ) → ((k : ℕ) × (k < count + 1) × P k) → ((k : ℕ) × (k < count) × P k) ⊎ P count
last_or_before P count h = elim (cases_eq h.0 count) [
  | inl same ↦ inr (subst P same h.2)
  | inr ne ↦ (let lt = h.1 in inl (h.0, omega (arith, lt, ne), h.2))
]

-- one operand more
pub reads_more : (ops : List OperandValue) (k : ℕ) (o : OperandValue) (old mid new : List Bool) → k < length ops → o ≡ slice_index_or ops k o →
    length mid ≡ length old → Marks (ReadsAmong ops k) old mid → Marks (λ n. (is_reading o ≡ true) × (o.vreg.number ≡ n)) mid new →
    Marks (ReadsAmong ops (k + 1)) old new
reads_more ops k o old mid new lt is long a m =
    let Here : ℕ → Type 0 = λ n. (is_reading (op_at ops k) ≡ true) × ((op_at ops k).vreg.number ≡ n) in
    let here : Marks Here mid new
    = subst (λ (p : OperandValue). Marks (λ n. (is_reading p ≡ true) × (p.vreg.number ≡ n)) mid new) (read_operand ops k o lt is) m in
    marks_then (ReadsAmong ops k) Here (ReadsAmong ops (k + 1)) old mid new long a here
    (λ n. (
      λ r. elim (last_or_before (λ (x : ℕ). (is_reading (op_at ops x) ≡ true) × ((op_at ops x).vreg.number ≡ n)) k (r.0, r.1, (r.2, r.3))) [
        | inl p ↦ inl (p.0, p.1, p.2.0, p.2.1)
        | inr q ↦ inr q
      ],
      λ e. elim e [ inl p ↦ (let less = p.1 in (p.0, omega (arith, less), p.2, p.3)) | inr q ↦ (k, omega arith, q.0, q.1) ],
    ))

-- one argument more
pub arguments_more : (sites : List (Option DefSite)) (inst : ℕ) (arguments : List VirtualRegister) (j : ℕ) (v : VirtualRegister) (old mid new : List Bool) →
    j < length arguments → v ≡ slice_index_or arguments j v → length mid ≡ length old → Marks (PassesAmong sites inst arguments j) old mid →
    Marks (λ n. (v.number ≡ n) × (IsSiteAt sites n inst → ⊥)) mid new → Marks (PassesAmong sites inst arguments (j + 1)) old new
arguments_more sites inst arguments j v old mid new lt is long a m =
    marks_then (PassesAmong sites inst arguments j) (λ n. (v.number ≡ n) × (IsSiteAt sites n inst → ⊥)) (PassesAmong sites inst arguments (j + 1)) old mid new
    long a m
    (λ n. (
      λ r. elim (cases_eq r.0 j) [
        | inl same ↦ (let it = same_item arguments j r.0 v r.1 lt is r.3 same in
            inr (ap (λ (w : VirtualRegister). w.number) it ∙ r.4, r.5))
        | inr ne ↦ (let less = r.2 in inl (r.0, r.1, omega (arith, less, ne), r.3, r.4, r.5))
      ],
      λ e. elim e [ inl p ↦ (let less = p.2 in (p.0, p.1, omega (arith, less), p.3, p.4, p.5)) | inr q ↦ (j, v, omega arith, sym is, q.0, q.1) ],
    ))

-- one edge more
pub edges_more : (f : FunctionValue) (sites : List (Option DefSite)) (b k inst : ℕ) (arguments : List VirtualRegister) (old mid new : List Bool) →
    inst ≡ last_of (block_at f b)
    → arguments ≡ slice_index_or (block_at f b).arguments k [] → length mid ≡ length old → Marks (PassesOut f sites b k) old mid →
    Marks (PassesAmong sites inst arguments (length arguments)) mid new → Marks (PassesOut f sites b (k + 1)) old new
edges_more f sites b k inst arguments old mid new last is long a m =
    let Here : ℕ → Type 0 = PassesAmong sites (last_of (block_at f b)) (slice_index_or (block_at f b).arguments k [])
    (length (slice_index_or (block_at f b).arguments k [])) in
    let there : Marks (PassesAmong sites (last_of (block_at f b)) arguments (length arguments)) mid new
    = subst (λ (i : ℕ). Marks (PassesAmong sites i arguments (length arguments)) mid new) last m in
    let here : Marks Here mid new
    = subst (λ (xs : List VirtualRegister). Marks (PassesAmong sites (last_of (block_at f b)) xs (length xs)) mid new) is there in
    marks_then (PassesOut f sites b k) Here (PassesOut f sites b (k + 1)) old mid new long a here
    (λ n. (
      λ r. last_or_before (λ (x : ℕ). PassesAmong sites (last_of (block_at f b)) (slice_index_or (block_at f b).arguments x [])
          (length (slice_index_or (block_at f b).arguments x [])) n) k r,
      λ e. elim e [ inl p ↦ (let lt = p.1 in (p.0, omega (arith, lt), p.2)) | inr q ↦ (k, omega arith, q) ],
    ))

-- one block more
pub blocks_more : (f : FunctionValue) (sites : List (Option DefSite)) (b : ℕ) (old mid new : List Bool) → length mid ≡ length old →
    Marks (PassesIn f sites b) old mid
    → Marks (PassesOut f sites b (length (block_at f b).succs)) mid new → Marks (PassesIn f sites (b + 1)) old new
blocks_more f sites b old mid new long a m =
    marks_then (PassesIn f sites b) (PassesOut f sites b (length (block_at f b).succs)) (PassesIn f sites (b + 1)) old mid new long a m
    (λ n. (
      λ r. last_or_before (λ (x : ℕ). PassesOut f sites x (length (block_at f x).succs) n) b r,
      λ e. elim e [ inl p ↦ (let lt = p.1 in (p.0, omega (arith, lt), p.2)) | inr q ↦ (b, omega arith, q) ],
    ))

-- one instruction more
pub insts_more : (f : FunctionValue) (i : ℕ) (old mid new : List Bool) → length mid ≡ length old → Marks (ReadsIn f i) old mid →
    Marks (ReadsAmong (inst_at f i).operands (length (inst_at f i).operands)) mid new → Marks (ReadsIn f (i + 1)) old new
insts_more f i old mid new long a m =
    marks_then (ReadsIn f i) (ReadsAmong (inst_at f i).operands (length (inst_at f i).operands)) (ReadsIn f (i + 1)) old mid new long a m
    (λ n. (
      λ r. last_or_before (λ (x : ℕ). ReadsAmong (inst_at f x).operands (length (inst_at f x).operands) n) i r,
      λ e. elim e [ inl p ↦ (let lt = p.1 in (p.0, omega (arith, lt), p.2)) | inr q ↦ (i, omega arith, q) ],
    ))

-- by its position
used_at : (f : FunctionValue) (v : VirtualRegister) (i : ℕ) (p : OperandPos) → ReadsAt f v p i → UsesAt f v i
used_at f v i Early r = inl r
used_at f v i Late r = inr (inl r)

-- an operand that reads
pub reads_here : (f : FunctionValue) (i k : ℕ) → i < length f.insts → k < length (inst_at f i).operands → is_reading (op_at (inst_at f i).operands k) ≡ true →
    UsesAt f (op_at (inst_at f i).operands k).vreg i
reads_here f i k lt few reads =
    let o : OperandValue = op_at (inst_at f i).operands k in
    used_at f o.vreg i o.position (k, (lt, few, refl), reads, refl)

-- a definition of a number at an instruction, as one of a vreg
defines_there : (f : FunctionValue) (v : VirtualRegister) (i : ℕ) (d : DefinesAt f v i) → DefinesNumber (inst_at f i).operands v.number d.0
defines_there f v i d = record { operand = d.1.1; definition = d.2; number = ap (λ (w : VirtualRegister). w.number) d.1.2 }

-- where a branch defines v, it is noted as the one that does
noted_there : (f : FunctionValue) → MayHaveTables f → (sites : List (Option DefSite)) → AreDefSites f sites → (v : VirtualRegister) (i : ℕ) →
    (inst_at f i).is_branch ≡ true → DefinesAt f v i → IsSiteAt sites v.number i
noted_there f w sites are v i branch d =
    let s : IsSite f v.number i d.0 = record { inst = d.1.0; is_branch = branch; defines = defines_there f v i d } in
    by_answer s (slice_index_or sites v.number None) refl
  where
    by_answer : IsSite f v.number i d.0 → (x : Option DefSite) → slice_index_or sites v.number None ≡ x → IsSiteAt sites v.number i
    by_answer s None e = absurd (are.no_site v.number e i d.0 s)
    by_answer s (Some t) e =
        let same = (one_operand f w.1.defined_once v.number t.branch i t.index d.0 (site_defines f v.number t.branch t.index (are.site v.number t e))
        (site_defines f v.number i d.0 s)).0 in
        (t.index, e ∙ ap (λ (m : ℕ). Some (record { branch = m; index = t.index })) same)

-- what a branch passes and isn't noted to define is used elsewhere
passed_used : (f : FunctionValue) → MayHaveTables f → (sites : List (Option DefSite)) → AreDefSites f sites → (b k : ℕ) → b < length f.blocks →
    k < length (block_at f b).succs → (v : VirtualRegister) → Contains (slice_index_or (block_at f b).arguments k []) v →
    (IsSiteAt sites v.number (last_of (block_at f b)) → ⊥) → IsUsedElsewhere f v
passed_used f w sites are b k lt edge v has free =
    let i : ℕ = last_of (block_at f b) in
    let some = (w.1.follow b lt).0 in
    (i, inr (inr (b, (k, (omega (arith, some), edge), has, λ d. free (noted_there f w sites are v i (goes_on_by_branch f w b k lt edge) d)))))

-- what a branch passes and doesn't define isn't noted as its definition
not_noted : (f : FunctionValue) → MayHaveTables f → (sites : List (Option DefSite)) → AreDefSites f sites → (b k : ℕ) → b < length f.blocks →
    k < length (block_at f b).succs → (v : VirtualRegister) → Contains (slice_index_or (block_at f b).arguments k []) v →
    (DefinesAt f v (last_of (block_at f b)) → ⊥) → IsSiteAt sites v.number (last_of (block_at f b)) → ⊥
not_noted f w sites are b k lt edge v has free at =
    let i : ℕ = last_of (block_at f b) in
    let s : IsSite f v.number i at.0 = are.site v.number (record { branch = i; index = at.0 }) at.1 in
    let o : OperandValue = op_at (inst_at f i).operands at.0 in
    let number : o.vreg.number ≡ v.number = s.defines.number in
    let d : IsDefOperand f o.vreg.number i at.0 = record { inst = s.inst; operand = s.defines.operand; definition = s.defines.definition; number = refl } in
    let made : Made f o.vreg = by_operand i at.0 d refl in
    let same : o.vreg ≡ v = one_made f w.1.defined_once o.vreg v made (passed_made f w.1.defined_once b k v w.1.follow w.1.uses_defined lt edge has) number in
    free (at.0, (s.inst, s.defines.operand, same), s.defines.definition)

-- what is read has an entry
read_room : (f : FunctionValue) → MayHaveTables f → (n : ℕ) → CoversDefinitions f n → (i k : ℕ) → i < length f.insts → k < length (inst_at f i).operands →
    is_reading (op_at (inst_at f i).operands k) ≡ true → (op_at (inst_at f i).operands k).vreg.number < n
read_room f w n room i k lt few reads =
    let some : 0 < length f.blocks = let e = w.1.successors.0 in omega (arith, e) in
    made_room f w.1.defined_once n room (op_at (inst_at f i).operands k).vreg (is_made f (op_at (inst_at f i).operands k).vreg i
    (made_before f (op_at (inst_at f i).operands k).vreg i lt (reads_defined f some w.1.follow w.1.uses_defined i lt k few reads)))

module _ (f : FunctionValue) (w : MayHaveTables f) (sites : List (Option DefSite)) (are : AreDefSites f sites) (none mid new : List Bool)
    (room : CoversDefinitions f (length none)) (middle : length mid ≡ length none) (blank : (n : ℕ) → slice_index_or none n false ≡ false)
    (reads : Marks (ReadsIn f (length f.insts)) none mid) (passes : Marks (PassesIn f sites (length f.blocks)) mid new) where
  -- what is marked as passed
  by_pass : (n : ℕ) → PassesIn f sites (length f.blocks) n → (v : VirtualRegister) × (v.number ≡ n) × IsUsedElsewhere f v
  by_pass n p =
      let b : ℕ = p.0 in let k : ℕ = p.2.0 in let x = p.2.2 in
      let v : VirtualRegister = x.1 in (
        v,
        x.4,
        passed_used f w sites are b k p.1 p.2.1 v (x.0, x.2, x.3)
            (subst (λ (m : ℕ). IsSiteAt sites m (last_of (block_at f b)) → ⊥) (sym x.4) x.5),
      )

  -- what is marked as read
  by_read : (n : ℕ) → ReadsIn f (length f.insts) n → (v : VirtualRegister) × (v.number ≡ n) × IsUsedElsewhere f v
  by_read n r =
      let x = r.2 in
      ((op_at (inst_at f r.0).operands x.0).vreg, x.3, (r.0, reads_here f r.0 x.0 r.1 x.1 x.2))

  -- what is read is marked
  of_read : (v : VirtualRegister) (i : ℕ) (p : OperandPos) → ReadsAt f v p i → slice_index_or new v.number false ≡ true
  of_read v i p r =
      let number : (op_at (inst_at f i).operands r.0).vreg.number ≡ v.number = ap (λ (u : VirtualRegister). u.number) r.1.2 in
      let small = read_room f w (length none) room i r.0 r.1.0 r.1.1 r.2 in
      passes.kept v.number (reads.marks v.number (omega (arith, small, number)) (i, r.1.0, (r.0, r.1.1, r.2, number)))

  -- what is passed is
  of_pass : (v : VirtualRegister) (l : Location) → PassesAt f v l → slice_index_or new v.number false ≡ true
  of_pass v l (k, (end, edge), has, other) =
      let b : ℕ = l.block in
      let lt : b < length f.blocks = edge_within f b k edge in
      let at : l.inst ≡ last_of (block_at f b) = omega (arith, end) in
      let made = passed_made f w.1.defined_once b k v w.1.follow w.1.uses_defined lt edge has in
      let small = made_room f w.1.defined_once (length none) room v made in
      let free : IsSiteAt sites v.number (last_of (block_at f b)) → ⊥ = not_noted f w sites are b k lt edge v has
      (subst (λ (m : ℕ). DefinesAt f v m → ⊥) at other) in
      passes.marks v.number (omega (arith, small, middle)) (b, lt, (k, edge, (has.0, v, has.1, has.2, refl, free)))

  of_use : (v : VirtualRegister) (i : ℕ) → UsesAt f v i → slice_index_or new v.number false ≡ true
  of_use v i (inl r) = of_read v i Early r
  of_use v i (inr (inl r)) = of_read v i Late r
  of_use v i (inr (inr p)) = of_pass v (record { block = p.0; inst = i }) p.1

  -- what is marked is what is used elsewhere
  pub are_used : AreUsed f new
  are_used = record {
    marked = λ n e. elim (passes.marked n e) [
      | inr p ↦ by_pass n p.1
      | inl was ↦ elim (reads.marked n was) [ inr r ↦ by_read n r.1 | inl first ↦ absurd (let x : false ≡ true = sym (blank n) ∙ first in cc) ]
    ];
    marks = λ v u. of_use v u.0 u.1;
  }

-- what is used elsewhere is made
pub used_made : (f : FunctionValue) → MayHaveTables f → (v : VirtualRegister) → IsUsedElsewhere f v → Made f v
used_made f w v u = by_use u.0 u.1
  where
    by_read : (i : ℕ) (p : OperandPos) → ReadsAt f v p i → Made f v
    by_read i p r =
        let some : 0 < length f.blocks = let e = w.1.successors.0 in omega (arith, e) in
        subst (Made f) r.1.2 (is_made f (op_at (inst_at f i).operands r.0).vreg i
        (made_before f (op_at (inst_at f i).operands r.0).vreg i r.1.0 (reads_defined f some w.1.follow w.1.uses_defined i r.1.0 r.0 r.1.1 r.2)))

    by_use : (i : ℕ) → UsesAt f v i → Made f v
    by_use i (inl r) = by_read i Early r
    by_use i (inr (inl r)) = by_read i Late r
    by_use i (inr (inr (b, (k, way, has, other)))) =
        passed_made f w.1.defined_once b k v w.1.follow w.1.uses_defined (edge_within f b k way.1) way.1 has
