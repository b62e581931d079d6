-- First and last points: a vreg has one of each, and the walk finds them.
use Rattle.std.proofs.Common.{ℕ, ◌≡◌, ◌+◌, ◌<◌, ◌≤◌, ◌⊎◌, inl, inr, true, false, length, refl, sym, ap, subst, eq-eqb, arith}
use Rattle.std.proofs.lemmas.Bool.{cases_Bool, cases_lt}
use Rattle.std.proofs.lemmas.Bool.Decides.{Decides-eqb}
use Rattle.std.specs.Prelude.{Contains, MatchOption, Option, None, Some, nat_eq}
use Rattle.regalloc2_names.specs.declared.OperandPos.{OperandPos}
use Rattle.regalloc2_names.specs.declared.OperandPos.TheVariants.{Early, Late}
use Rattle.regalloc2_names.specs.Register.{VirtualRegister}
use Rattle.regalloc2_names.specs.Place.{before, after}
use Rattle.regalloc2_function.specs.FunctionValue.{FunctionValue, block_at, inst_at, op_at}
use Rattle.regalloc2_semantics.specs.Runs.{Location}
use Rattle.regalloc2_semantics.specs.Live.{DefinesAt, ReadsAt, PassesAt}
use Rattle.regalloc2_semantics.specs.Debug.{IsFirstPoint, IsLastPoint, IsLastUse, UsesAt}
use Rattle.regalloc2_semantics.specs.Debug.IsFirstPoint.{of_definition as begins_at_definition, of_parameter}
use Rattle.regalloc2_semantics.specs.Debug.IsLastPoint.{of_late_use, of_early_use, of_argument, of_definition as ends_at_definition}
use Rattle.regalloc2_carry.proofs.SingleDef.{Made, not_both, one_operand, one_param}
use Rattle.regalloc2_analysis.specs.declared.live_ranges.InstOperand.{InstOperand}
use Rattle.regalloc2_analysis.specs.declared.live_ranges.ends.RangeEnd.{RangeEnd}
use Rattle.regalloc2_analysis.specs.LiveRanges.LiveRanges.{IsDefiner, IsFirstReader, IsLiveRange, IsSSA, IsShownBy}
use Rattle.regalloc2_analysis.specs.LiveRanges.LiveRanges.IsShownBy.{by_late_use, by_early_use, by_argument, by_definition}
use Rattle.regalloc2_analysis.specs.LiveRanges.LastUses.{EndsFrom, EndsUse, ReadsFirst, Unread, UsesNumber, end_behind}
use Rattle.regalloc2_analysis.specs.LiveRanges.LastUses.EndsUse.{late, early, passed}
use Rattle.regalloc2_analysis.proofs.LiveRangesLemmas.UsesInSSA.{definer_defines, IsDefOperand-from_DefinesAt, is_reader, made_by_definition}
use Rattle.regalloc2_analysis.proofs.LiveRangesLemmas.UsesInSSA.{made_by_parameter, passes_it, read_number, reader_reads, takes_number, use_after, use_within}
use Rattle.regalloc2_analysis.proofs.LiveRangesLemmas.UsesInSSA.{used_number}

one_last : (f : FunctionValue) (v : VirtualRegister) (i j : ℕ) → IsLastUse f v i → IsLastUse f v j → i ≡ j
one_last f v i j a b = let x : i ≤ j = b.1 i a.0 in let y : j ≤ i = a.1 j b.0 in omega (arith, x, y)

-- the operand whose place shows a vreg is one of the function's; where there is none, the vreg is passed
pub shown_within : (f : FunctionValue) (v : VirtualRegister) {by : Option InstOperand} → IsShownBy f v by →
    MatchOption by ((l : Location) × PassesAt f v l) (λ o. (o.inst < length f.insts) × (o.index < length (inst_at f o.inst).operands)
    × ((op_at (inst_at f o.inst).operands o.index).vreg ≡ v))
shown_within f v (by_late_use o last reader) = (reader.reader.inst, reader.reader.index, reader.reader.vreg)
shown_within f v (by_early_use o last never reader) = (reader.reader.inst, reader.reader.index, reader.reader.vreg)
shown_within f v (by_argument i last never nor) = elim last.0 [
  | inl r ↦ absurd (nor r)
  | inr rest ↦ elim rest [ inl r ↦ absurd (never r) | inr p ↦ (record { block = p.0; inst = i }, p.1) ]
]
shown_within f v (by_definition o never definer) = (definer.inst, definer.index, definer.vreg)

module _ (f : FunctionValue) (ssa : IsSSA f) where
  -- one instruction defines a vreg
  one_definition : (v : VirtualRegister) (i j : ℕ) → DefinesAt f v i → DefinesAt f v j → i ≡ j
  one_definition v i j a b = (one_operand f ssa.once v.number i j a.0 b.0 (IsDefOperand-from_DefinesAt f v i a) (IsDefOperand-from_DefinesAt f v j b)).0

  no_both : (v : VirtualRegister) (i b : ℕ) → DefinesAt f v i → b < length f.blocks → Contains (block_at f b).params v → ⊥
  no_both v i b d lt h = not_both f ssa.once v.number i d.0 b h.0 (IsDefOperand-from_DefinesAt f v i d) (takes_number f v b lt h)

  -- a vreg has one first point
  pub one_first_point : (v : VirtualRegister) {p q : ℕ} → IsFirstPoint f v p → IsFirstPoint f v q → p ≡ q
  one_first_point v (begins_at_definition i a) (begins_at_definition j b) = ap after (one_definition v i j a b)
  one_first_point v (begins_at_definition i a) (of_parameter b lt h) = absurd (no_both v i b a lt h)
  one_first_point v (of_parameter b lt h) (begins_at_definition i a) = absurd (no_both v i b a lt h)
  one_first_point v (of_parameter b lt h) (of_parameter c less k) =
      ap (λ (n : ℕ). before (block_at f n).range.first) (one_param f ssa.once v.number b c h.0 k.0 (takes_number f v b lt h) (takes_number f v c less k)).0

  -- a vreg has one last point
  pub one_last_point : (v : VirtualRegister) {p q : ℕ} → IsLastPoint f v p → IsLastPoint f v q → p ≡ q
  one_last_point v (of_late_use i a l) (of_late_use j b m) = ap (λ (n : ℕ). before (n + 1)) (one_last f v i j a b)
  one_last_point v (of_late_use i a l) (of_early_use j b never m) = absurd (never (subst (ReadsAt f v Late) (one_last f v i j a b) l))
  one_last_point v (of_late_use i a l) (of_argument j b never m) = absurd (never (subst (ReadsAt f v Late) (one_last f v i j a b) l))
  one_last_point v (of_late_use i a l) (ends_at_definition j d never) = absurd (never i a.0)
  one_last_point v (of_early_use i a never l) (of_late_use j b m) = absurd (never (subst (ReadsAt f v Late) (sym (one_last f v i j a b)) m))
  one_last_point v (of_early_use i a never l) (of_early_use j b none m) = ap after (one_last f v i j a b)
  one_last_point v (of_early_use i a never l) (of_argument j b none m) = absurd (m (subst (ReadsAt f v Early) (one_last f v i j a b) l))
  one_last_point v (of_early_use i a never l) (ends_at_definition j d none) = absurd (none i a.0)
  one_last_point v (of_argument i a never l) (of_late_use j b m) = absurd (never (subst (ReadsAt f v Late) (sym (one_last f v i j a b)) m))
  one_last_point v (of_argument i a never l) (of_early_use j b none m) = absurd (l (subst (ReadsAt f v Early) (sym (one_last f v i j a b)) m))
  one_last_point v (of_argument i a never l) (of_argument j b none m) = ap before (one_last f v i j a b)
  one_last_point v (of_argument i a never l) (ends_at_definition j d none) = absurd (none i a.0)
  one_last_point v (ends_at_definition i d never) (of_late_use j b m) = absurd (never j b.0)
  one_last_point v (ends_at_definition i d never) (of_early_use j b none m) = absurd (never j b.0)
  one_last_point v (ends_at_definition i d never) (of_argument j b none m) = absurd (never j b.0)
  one_last_point v (ends_at_definition i d never) (ends_at_definition j e none) = ap (λ (n : ℕ). before (n + 1)) (one_definition v i j d e)

  -- the first operand that reads the number is the first that reads its vreg
  first_reader : (v : VirtualRegister) → Made f v → (at : OperandPos) (i k : ℕ) → i < length f.insts → ReadsFirst (inst_at f i).operands v.number at k →
      IsFirstReader f v at (record { inst = i; index = k })
  first_reader v made at i k lt r = record {
    reader = is_reader f ssa v made at i k lt r.reads;
    first = λ j less s. r.first j less (record {
      within = s.index;
      reading = s.reading;
      position = s.position;
      number = ap (λ (w : VirtualRegister). w.number) s.vreg;
    });
  }

  unread : (v : VirtualRegister) (at : OperandPos) (i : ℕ) → Unread f v.number at i → ReadsAt f v at i → ⊥
  unread v at i never r = never r.0 (read_number f v at i r)

  greatest : (v : VirtualRegister) (j : ℕ) → ((m : ℕ) → j < m → UsesNumber f v.number m → ⊥) → (m : ℕ) → UsesAt f v m → m ≤ j
  greatest v j none m u = elim (cases_lt j m) [ inl lt ↦ absurd (none m lt (used_number f v m u)) | inr le ↦ le ]

  -- what the walk notes is the last point, and the operand whose place shows the value
  found_end : (v : VirtualRegister) → Made f v → (j : ℕ) {e : RangeEnd} → (DefinesAt f v j → ⊥) → EndsUse f v.number j e →
      ((m : ℕ) → j < m → UsesNumber f v.number m → ⊥) → IsLastPoint f v e.last × IsShownBy f v e.by
  found_end v made j other (late k lt r) none =
      let reader = first_reader v made Late j k lt r in
      let here : ReadsAt f v Late j = reader_reads f v Late (record { inst = j; index = k }) reader.reader in
      let last : IsLastUse f v j = (inr (inl here), greatest v j none) in
      (of_late_use j last here, by_late_use (record { inst = j; index = k }) last reader)
  found_end v made j other (early k lt never r) none =
      let reader = first_reader v made Early j k lt r in
      let here : ReadsAt f v Early j = reader_reads f v Early (record { inst = j; index = k }) reader.reader in
      let last : IsLastUse f v j = (inl here, greatest v j none) in
      (of_early_use j last (unread v Late j never) here, by_early_use (record { inst = j; index = k }) last (unread v Late j never) reader)
  found_end v made j other (passed never nor p) none =
      let last : IsLastUse f v j = (inr (inr (passes_it f ssa v made j other p)), greatest v j none) in
      (of_argument j last (unread v Late j never) (unread v Early j nor), by_argument j last (unread v Late j never) (unread v Early j nor))

  -- where nothing uses it, a definition is the last point's
  unused_range : (v : VirtualRegister) (i k : ℕ) (unused : RangeEnd) → unused ≡ record { last = before (i + 1); by = Some (record { inst = i; index = k }) } →
      IsDefiner f v (record { inst = i; index = k }) → ((j : ℕ) → UsesAt f v j → ⊥) →
      IsLiveRange f (record { vreg = v; first = after i; last = unused.last; by = unused.by })
  unused_range v i k unused is d never =
      let here : DefinesAt f v i = definer_defines f v (record { inst = i; index = k }) d in
      record {
        first = begins_at_definition i here;
        last = subst (λ (e : RangeEnd). IsLastPoint f v e.last) (sym is) (ends_at_definition i here never);
        by = subst (λ (e : RangeEnd). IsShownBy f v e.by) (sym is) (by_definition (record { inst = i; index = k }) never d);
      }

  -- where the last use is at the instruction that defines, it is an argument that it passes, and ends before it
  own_end : (v : VirtualRegister) (i : ℕ) {e : RangeEnd} → DefinesAt f v i → EndsUse f v.number i e → e.last ≡ before i
  own_end v i here (late k lt r) =
      let reader = is_reader f ssa v (made_by_definition f v i here) Late i k lt r.reads in
      let sooner = use_after f ssa v i i here (inr (inl (reader_reads f v Late (record { inst = i; index = k }) reader))) in
      absurd (omega (arith, sooner))
  own_end v i here (early k lt never r) =
      let reader = is_reader f ssa v (made_by_definition f v i here) Early i k lt r.reads in
      let sooner = use_after f ssa v i i here (inl (reader_reads f v Early (record { inst = i; index = k }) reader)) in
      absurd (omega (arith, sooner))
  own_end v i here (passed never nor p) = refl

  -- no other use of an instruction ends before it
  end_from : (n j : ℕ) {e : RangeEnd} → EndsUse f n j e → before j ≤ e.last
  end_from n j (late k lt r) = omega arith
  end_from n j (early k lt never r) = omega arith
  end_from n j (passed never nor p) = omega arith

  -- a use from a definition on, or nothing after the definition
  pub range_of_definition : (v : VirtualRegister) (i k : ℕ) (o : Option RangeEnd) (unused : RangeEnd) →
      unused ≡ record { last = before (i + 1); by = Some (record { inst = i; index = k }) } → IsDefiner f v (record { inst = i; index = k }) →
      EndsFrom f i v.number o
      → IsLiveRange f (record { vreg = v; first = after i; last = (end_behind i o unused).last; by = (end_behind i o unused).by })
  range_of_definition v i k None unused is d h =
      let here : DefinesAt f v i = definer_defines f v (record { inst = i; index = k }) d in
      unused_range v i k unused is d (λ j u. h j (let x = use_after f ssa v i j here u in omega (arith, x)) (used_number f v j u))
  range_of_definition v i k (Some e) unused is d h =
      let here : DefinesAt f v i = definer_defines f v (record { inst = i; index = k }) d in
      elim (cases_lt i h.0) [
        | inl less ↦ (
            let other : DefinesAt f v h.0 → ⊥ = λ x. (let same = one_definition v i h.0 here x in omega (arith, less, same)) in
            let found = found_end v (made_by_definition f v i here) h.0 {e = e} other h.2 h.3 in
            let from = end_from v.number h.0 h.2 in
            let past : nat_eq e.last (before i) ≡ false = differ e.last (before i) (omega (arith, from, less)) in
            rw past (record { first = begins_at_definition i here; last = found.0; by = found.1 }))
        | inr le ↦ (
            let same : h.0 ≡ i = let low = h.1 in omega (arith, low, le) in
            let own : e.last ≡ before i = own_end v i here (subst (λ (j : ℕ). EndsUse f v.number j e) same h.2) in
            let test : nat_eq e.last (before i) ≡ true = eq-eqb e.last (before i) own in
            let never : (j : ℕ) → UsesAt f v j → ⊥ = λ j u. (let x = use_after f ssa v i j here u in h.3 j (omega (arith, x, same)) (used_number f v j u)) in
            rw test (unused_range v i k unused is d never))
      ]
    where
      differ : (a b : ℕ) → b < a → nat_eq a b ≡ false
      differ a b lt = elim (cases_Bool (nat_eq a b)) [ inl e ↦ absurd (let same = (Decides-eqb a b).0 e in omega (arith, lt, same)) | inr e ↦ e ]

  -- in SSA form, a parameter with a last use from its block's beginning on is live from there to that use
  pub range_of_parameter : (v : VirtualRegister) (b : ℕ) (e : RangeEnd) → b < length f.blocks → Contains (block_at f b).params v →
      EndsFrom f (block_at f b).range.first v.number (Some e)
      → IsLiveRange f (record { vreg = v; first = before (block_at f b).range.first; last = e.last; by = e.by })
  range_of_parameter v b e lt h ends =
      let found = found_end v (made_by_parameter f v b lt h) ends.0 {e = e} (λ d. no_both v ends.0 b d lt h) ends.2 ends.3 in
      record { first = of_parameter b lt h; last = found.0; by = found.1 }

  -- a parameter that is used has an end
  pub used_ends : (v : VirtualRegister) (b j : ℕ) (o : Option RangeEnd) → b < length f.blocks → Contains (block_at f b).params v → UsesAt f v j →
      EndsFrom f (block_at f b).range.first v.number o → o ≡ None → ⊥
  used_ends v b j o lt h u ends is =
      let none : EndsFrom f (block_at f b).range.first v.number None = subst (EndsFrom f (block_at f b).range.first v.number) is ends in
      none j (use_within f ssa v b j lt h u) (used_number f v j u)

  -- what has both points is used, or defined by an instruction
  pub is_used : (v : VirtualRegister) {q : ℕ} → IsLastPoint f v q → ((j : ℕ) × UsesAt f v j) ⊎ ((i : ℕ) × DefinesAt f v i)
  is_used v (of_late_use i a l) = inl (i, a.0)
  is_used v (of_early_use i a never l) = inl (i, a.0)
  is_used v (of_argument i a never l) = inl (i, a.0)
  is_used v (ends_at_definition i d never) = inr (i, d)
