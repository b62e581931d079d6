-- Definitions precede uses: what a block writes and another block uses is used in a later block, and has a location at
-- the writing block's end.
use Rattle.std.proofs.Common.{ℕ, ◌≡◌, ◌≢◌, ◌+◌, ◌<◌, ◌≤◌, inl, inr, true, List, [], length, refl, sym, ap, ◌∙◌, subst, arith}
use Rattle.std.specs.Prelude.{slice_index_or}
use Rattle.std.proofs.lemmas.Bool.{cases_Bool, cases_lt}
use Rattle.regalloc2_names.specs.Register.{VirtualRegister, no_vreg}
use Rattle.regalloc2_names.specs.Place.{Place, NoPlace, before, after}
use Rattle.std.proofs.lemmas.List.{get_or_default, get_or_past}
use Rattle.regalloc2_function.specs.FunctionValue.{FunctionValue, BlockValue, InstValue, block_at, no_block, inst_at, no_inst, op_at, last_of, EachBlock}
use Rattle.regalloc2_function.specs.WellFormed.{BlocksFollow, DefinedOnce, IsDefinedUpTo, UsesAreDefined, EndsAt}
use Rattle.regalloc2_carry.specs.Blocks.{IsUsedIn, IsUnwritten, IsUsed}
use Rattle.regalloc2_carry.proofs.SingleDef.{Made, IsDefOperand, TakesAt, one_made, one_operand, one_param, not_both, reads_defined, made_before, is_made}
use Rattle.regalloc2_carry.proofs.Order.{ends_before, ends_within, stands_later, reads_later, passes_later, passed_made}
use Rattle.regalloc2_fastalloc_proofs.specs.InstSteps.{StateValue}
use Rattle.regalloc2_fastalloc_proofs.specs.BlockSteps.{AllocsBlocks}
use Rattle.regalloc2_fastalloc_proofs.proofs.Safety.StepsKeepState.{place_in}
use Rattle.regalloc2_fastalloc_proofs.proofs.Operands.DefinedNumbers.{defined_by}
use Rattle.regalloc2_fastalloc_proofs.proofs.Inst.OneInstCarries.{IsBetweenInsts}
use Rattle.regalloc2_fastalloc_proofs.proofs.Walk.InstsBeforeLastCarry.{defined_from}
use Rattle.regalloc2_fastalloc_proofs.proofs.Walk.BlockObligations.{defined_from-some, defines_at}
use Rattle.regalloc2_fastalloc_proofs.proofs.Walk.InstBoundaries.{IsUsedAt, allocs_blocks_live, kept_code_of}
use Rattle.regalloc2_fastalloc_proofs.proofs.Walk.FunctionLaws.{FunctionLaws}

-- where a block uses a number
pub used_at : (f : FunctionValue) → BlocksFollow f → EachBlock f (EndsAt f) → (c : ℕ) (v : VirtualRegister) → c < length f.blocks → IsUsedIn f c v →
    (l : ℕ) × ((block_at f c).range.first ≤ l) × (l < (block_at f c).range.end) × IsUsedAt f c l v.number
used_at f follow ends c v lc (inl r) = (r.0, r.2, r.3, inl (r.1, r.4, r.5, ap (λ (w : VirtualRegister). w.number) r.6))
used_at f follow ends c v lc (inr p) =
    let some : (block_at f c).range.first < (block_at f c).range.end = (follow c lc).0 in
    let branch : (inst_at f (last_of (block_at f c))).is_branch ≡ true = elim (ends c lc).0
    [ inl b ↦ b.0 | inr r ↦ (let none : length (block_at f c).succs ≡ 0 = r.2 in let edge = p.1 in absurd (omega (arith, none, edge))) ] in
    (last_of (block_at f c), omega (arith, some), omega (arith, some), inr (branch, (p.0, v, p.1, p.2, refl, refl)))

module _ (f : FunctionValue) (once : DefinedOnce f) (follow : BlocksFollow f) (uses : UsesAreDefined f) where
  -- a use is after the definition, or at the branch that defines and passes the vreg
  use_later : (v : VirtualRegister) (i k : ℕ) → IsDefOperand f v.number i k → (c : ℕ) → c < length f.blocks → IsUsedIn f c v → (l : ℕ) × (i ≤ l)
      × ((block_at f c).range.first ≤ l) × (l < (block_at f c).range.end)
  use_later v i k d c lc (inl r) =
      let within = ends_within f follow c lc in
      let lt : r.0 < length f.insts = omega (arith, r.3, within) in
      let later = reads_later f once v.number i k r.0 r.1 d lt (reads_defined f (omega (arith, lc)) follow uses r.0 lt) r.4 r.5
      (ap (λ (w : VirtualRegister). w.number) r.6) in
      (r.0, omega (arith, later), r.2, r.3)
  use_later v i k d c lc (inr p) =
      let some : (block_at f c).range.first < (block_at f c).range.end = (follow c lc).0 in
      (last_of (block_at f c), passes_later f once v.number i k c p.0 v d follow uses lc p.1 p.2 refl, omega (arith, some), omega (arith, some))

  -- a used vreg is defined
  pub used_made : (v : VirtualRegister) (c : ℕ) → c < length f.blocks → IsUsedIn f c v → Made f v
  used_made v c lc (inl r) =
      let within = ends_within f follow c lc in
      let lt : r.0 < length f.insts = omega (arith, r.3, within) in
      subst (Made f) r.6 (is_made f (op_at (inst_at f r.0).operands r.1).vreg r.0
      (made_before f (op_at (inst_at f r.0).operands r.1).vreg r.0 lt (reads_defined f (omega (arith, lc)) follow uses r.0 lt r.1 r.4 r.5)))
  used_made v c lc (inr p) =
      passed_made f once c p.0 v follow uses lc p.1 p.2

module _ (laws : FunctionLaws) (b : ℕ) (lb : b < length laws.f.blocks) (v : VirtualRegister) (n : ℕ)
    (count : (block_at laws.f b).range.first + n ≡ (block_at laws.f b).range.end)
    (written : defined_from laws.f v.number (block_at laws.f b).range.first n ≡ true) where
  open laws use {f, once, follow, ends, uses, proper, kept}
  open laws.proper use {knows}

  -- the instruction or block that writes it
  writer : (i k : ℕ) × ((block_at f b).range.first ≤ i) × (i < (block_at f b).range.end) × IsDefOperand f v.number i k
  writer =
      let d = defined_from-some f v.number (block_at f b).range.first n written in
      let within = ends_within f follow b lb in
      let less : d.0 < (block_at f b).range.end = omega (arith, d.2, count) in
      let a = defines_at f v.number d.0 (omega (arith, less, within)) d.3 in
      (d.0, a.0, d.1, less, a.1)

  -- a vreg that a block writes isn't unwritten there
  pub written_there : Made f v → IsUnwritten f b v → ⊥
  written_there made unwritten =
      let w = writer in
      let at = w.4 in
      unwritten w.0 w.2 w.3 w.1 at.operand at.definition (one_made f once (op_at (inst_at f w.0).operands w.1).vreg v
      ((knows w.0 at.inst).definition w.1 at.operand at.definition) made at.number)

  -- if another block uses it, it has a location at this block's end
  pub stands_behind : (c : ℕ) → c < length f.blocks → c ≢ b → IsUsedIn f c v → {blank : List Place} {begin : StateValue} → IsBetweenInsts (length f.insts) begin →
      {places : List Place} {t : StateValue} → AllocsBlocks f blank begin (b + 1) places t → place_in t v.number ≢ NoPlace
  stands_behind c lc ne used {blank} {begin} start {places} {t} walk =
      let w = writer in
      let at = w.4 in
      let x : ℕ = v.number in
      let later = use_later f once follow uses v w.0 w.1 at c lc used in
      let order : b ≤ c = stands_later f follow b c w.0 later.0 lb lc w.2 w.3 later.2 later.3 later.1 in
      let u = used_at f follow ends c v lc used in
      let more : b + 1 < length f.blocks = omega (arith, order, ne, lc) in
      let apart : (block_at f b).range.end ≤ (block_at f (b + 1)).range.first = ends_before f follow b (b + 1) (omega arith) more in
      allocs_blocks_live (kept_code_of (Made f) f proper kept) follow blank begin start x c u.0
      (λ d k ld few is. not_both f once x w.0 w.1 d k at (record { block = ld; param = few; number = sym is }))
      lc u.1 u.2 u.3 walk (omega (arith, order, ne))
      (λ k ge less. elim (cases_Bool (defined_by (inst_at f k).operands x)) [
        | inr free ↦ free
        | inl is ↦ (
            let a = defines_at f x k less is in
            let same = (one_operand f once x w.0 k w.1 a.0 at a.1).0 in
            let early = w.3 in
            absurd (omega (arith, same, early, apart, ge)))
      ])

-- a block that uses a vreg
pub used_in_some_block : (f : FunctionValue) (v : VirtualRegister) → IsUsed f v → (c : ℕ) × (c < length f.blocks) × IsUsedIn f c v
used_in_some_block f v (inl r) = elim (cases_lt r.0 (length f.blocks)) [
  | inl lt ↦ (r.0, lt, inl r.1)
  | inr le ↦ (let none : (block_at f r.0).range.end ≡ 0 = ap (λ (b : BlockValue). b.range.end) (get_or_past f.blocks r.0 no_block le) in let less = r.1.3 in
      absurd (omega (arith, none, less)))
]
used_in_some_block f v (inr p) = elim (cases_lt p.0 (length f.blocks)) [
  | inl lt ↦ (p.0, lt, inr (p.1, p.2, p.3))
  | inr le ↦ (let none : length (block_at f p.0).succs ≡ 0 = ap (λ (b : BlockValue). length b.succs) (get_or_past f.blocks p.0 no_block le) in let less = p.2 in
      absurd (omega (arith, none, less)))
]

module _ (f : FunctionValue) (once : DefinedOnce f) (follow : BlocksFollow f) (uses : UsesAreDefined f) (b m : ℕ) (v : VirtualRegister)
    (takes : TakesAt f v.number b m) where
  -- a parameter's definition is at its block's start
  defined_behind : (point : ℕ) → IsDefinedUpTo f v point → before (block_at f b).range.first ≤ point
  defined_behind point (inl p) =
      let is : slice_index_or (block_at f p.0).params p.3.0 no_vreg ≡ v = get_or_default (block_at f p.0).params p.3.0 no_vreg v p.3.1 ∙ p.3.2 in
      let same : p.0 ≡ b = (one_param f once v.number p.0 b p.3.0 m
      (record { block = p.1; param = p.3.1; number = ap (λ (w : VirtualRegister). w.number) is }) takes).0 in
      subst (λ c. before (block_at f c).range.first ≤ point) same p.2
  defined_behind point (inr o) =
      let inside : o.0 < length f.insts = elim (cases_lt o.0 (length f.insts)) [
        | inl lt ↦ lt
        | inr past ↦ (let none : (inst_at f o.0).operands ≡ [] = ap (λ (x : InstValue). x.operands) (get_or_past f.insts o.0 no_inst past) in
            let few : length (inst_at f o.0).operands ≡ 0 = ap length none in let some = o.3 in absurd (omega (arith, few, some)))
      ] in
      absurd (not_both f once v.number o.0 o.1 b m (record {
        inst = inside;
        operand = o.3;
        definition = o.4;
        number = ap (λ (w : VirtualRegister). w.number) o.5;
      }) takes)

  -- a parameter is used in its block or in a later one
  pub param_before : b < length f.blocks → (c : ℕ) → c < length f.blocks → IsUsedIn f c v → b ≤ c
  param_before lb c lc (inl r) =
      let by : IsDefinedUpTo f v (before r.0) = subst (λ w. IsDefinedUpTo f w (before r.0)) r.6 ((uses c lc).0 r.0 r.2 r.3 r.1 r.4 r.5) in
      let h = defined_behind (before r.0) by in
      let some = (follow b lb).0 in
      stands_later f follow b c (block_at f b).range.first r.0 lb lc (omega arith) some r.2 r.3 (omega (arith, h))
  param_before lb c lc (inr p) =
      let last : ℕ = last_of (block_at f c) in
      let by : IsDefinedUpTo f v (after last) = subst (λ w. IsDefinedUpTo f w (after last)) p.2.2 ((uses c lc).1 p.0 p.1 p.2.0 v p.2.1) in
      let h = defined_behind (after last) by in
      let some = (follow b lb).0 in
      let more = (follow c lc).0 in
      stands_later f follow b c (block_at f b).range.first last lb lc (omega arith) some (omega (arith, more)) (omega (arith, more)) (omega (arith, h))
