-- The moves before an instruction leave a vreg's slot alone, or the instruction reads it there.
use Rattle.std.proofs.Common.{ℕ, suc, ◌≡◌, ◌≢◌, ◌+◌, ◌<◌, ◌≤◌, Bool, true, false, List, [], ◌∷◌, length, map, nat_eq, nat_lt, refl, sym, ap, ◌∙◌, ◌⊎◌, inl}
use Rattle.std.proofs.Common.{inr, subst, arith, eqb-true}
use Rattle.std.specs.Prelude.{All, filter, ◌&&◌}
use Rattle.std.proofs.lemmas.Bool.{and_parts, ltb-true, or_cases}
use Rattle.regalloc2_names.specs.Register.{VirtualRegister}
use Rattle.regalloc2_names.specs.Place.{Place, InSlot, before}
use Rattle.regalloc2_function.specs.FunctionValue.{FunctionValue, block_at, inst_at, op_at}
use Rattle.regalloc2_function.specs.OutputValue.{OutputValue, MoveValue, allocs_of, is_listed_at}
use Rattle.regalloc2_semantics.specs.Runs.{Way, Onward, end_of, IsPath}
use Rattle.regalloc2_function.specs.WellFormed.{BlocksFollow}
use Rattle.regalloc2_carry.specs.Listing.{with_moves}
use Rattle.regalloc2_carry.specs.Carry.{Spares, Untouched}
use Rattle.regalloc2_semantics.specs.Sound.{Undefined}
use Rattle.regalloc2_semantics.proofs.Cells.{cases_place}
use Rattle.regalloc2_carry.proofs.Order.{stands_later}
use Rattle.regalloc2_carry.proofs.UnwrittenPlaces.{NoMoveTo}
use Rattle.regalloc2_fastalloc_proofs.specs.Debug.SlotHoldsValue.{ReadsInPlace, IsKeptInSlot}
use Rattle.regalloc2_fastalloc_proofs.specs.Debug.SlotWrites.{MayWrite, after_definition, before_read, before_branch, at_begin, IsSlotOfValue}

-- the points that are listed before an instruction
listed_at_points : (first i q : ℕ) → is_listed_at first i q ≡ true → (q ≡ before i) ⊎ ((first < i) × (q + 1 ≡ before i))
listed_at_points first i q h = by (or_cases (nat_eq q (before i)) (nat_lt first i && nat_eq (q + 1) (before i)) h)
  where
    by : (nat_eq q (before i) ≡ true) ⊎ ((nat_lt first i && nat_eq (q + 1) (before i)) ≡ true) → (q ≡ before i) ⊎ ((first < i) × (q + 1 ≡ before i))
    by (inl e) = inl (eqb-true q (before i) e)
    by (inr b) = (let s = and_parts (nat_lt first i) (nat_eq (q + 1) (before i)) b in inr (ltb-true first i s.0, eqb-true (q + 1) (before i) s.1))

module _ (f : FunctionValue) (out : OutputValue) (v : VirtualRegister) (p : Place) where
  -- the instruction before i in its block doesn't define v
  abbrev Quiet : ℕ → ℕ → Type 0
  Quiet first i = first < i → (j : ℕ) → j + 1 ≡ i → Undefined (inst_at f j).operands v

  -- no block begins at i
  abbrev Inner : ℕ → Type 0
  Inner i = (b : ℕ) → b < length f.blocks → (block_at f b).range.first ≢ i

  -- a move that is listed before an instruction and may write the place is there for a read
  listed_reads : (first i q : ℕ) → (inst_at f i).is_branch ≡ false → Inner i → Quiet first i → MayWrite f out v p q → (q ≡ before i)
      ⊎ ((first < i) × (q + 1 ≡ before i)) → (k : ℕ) × ReadsInPlace f out v p i k
  listed_reads first i q plain inner quiet (after_definition j k lt def is) (inl e) = absurd (omega (arith, e))
  listed_reads first i q plain inner quiet (after_definition j k lt def is) (inr (less, e)) = absurd (quiet less j (omega (arith, e)) k lt def is)
  listed_reads first i q plain inner quiet (before_read j k r) (inl e) = (let same : j ≡ i = omega (arith, e) in
      (k, subst (λ (m : ℕ). ReadsInPlace f out v p m k) same r))
  listed_reads first i q plain inner quiet (before_read j k r) (inr (less, e)) = absurd (omega (arith, e))
  listed_reads first i q plain inner quiet (before_branch j b) (inl e) =
      let same : j ≡ i = omega (arith, e) in
      let t : (inst_at f i).is_branch ≡ true = subst (λ (m : ℕ). (inst_at f m).is_branch ≡ true) same b in
      let n : true ≡ false = sym t ∙ plain in cc
  listed_reads first i q plain inner quiet (before_branch j b) (inr (less, e)) = absurd (omega (arith, e))
  listed_reads first i q plain inner quiet (at_begin b lb stored) (inl e) = absurd (inner b lb (omega (arith, e)))
  listed_reads first i q plain inner quiet (at_begin b lb stored) (inr (less, e)) = absurd (omega (arith, e))

  abbrev Fine : ℕ → List MoveValue → Type 0
  Fine i ms = NoMoveTo p ms ⊎ ((k : ℕ) × ReadsInPlace f out v p i k)

  -- moves stay fine with one more that doesn't go to the slot
  one_more : (i : ℕ) (m : MoveValue) (ms : List MoveValue) → (p ≡ m.to → ⊥) → Fine i ms → Fine i (m ∷ ms)
  unfolding Untouched with_moves
  one_more i m ms ne (inl h) = inl (ne, h)
  one_more i m ms ne (inr r) = inr r

  no_moves : NoMoveTo p []
  unfolding Untouched with_moves
  no_moves = tt

  -- the moves listed before an instruction leave the place alone, or an operand of the instruction reads v in it
  pub moves_fine : (first i : ℕ) → (inst_at f i).is_branch ≡ false → Inner i → Quiet first i → (es : List (ℕ × MoveValue)) →
      All (λ e. e.1.to ≡ p → MayWrite f out v p e.0) es → Fine i (map (λ e. e.1) (filter (λ e. is_listed_at first i e.0) es))
  moves_fine first i plain inner quiet [] h = inl no_moves
  moves_fine first i plain inner quiet (e ∷ es) h = by (is_listed_at first i e.0) refl (moves_fine first i plain inner quiet es (λ k d lt. h (suc k) d
      (omega arith)))
    where
      by : (b : Bool) → is_listed_at first i e.0 ≡ b → Fine i (map (λ x. x.1) (filter (λ x. is_listed_at first i x.0) es)) →
          Fine i (map (λ x. x.1) (filter (λ x. is_listed_at first i x.0) (e ∷ es)))
      by false is rest = rw is rest
      by true is rest = rw is (elim (cases_place p e.1.to) [
        | inl same ↦ inr (listed_reads first i e.0 plain inner quiet (h 0 e (omega arith) (sym same)) (listed_at_points first i e.0 is))
        | inr ne ↦ one_more i e.1 (map (λ x. x.1) (filter (λ x. is_listed_at first i x.0) es)) ne rest
      ])

-- no block begins after another block's first instruction and before its end
pub inside_block : (f : FunctionValue) → BlocksFollow f → (c i : ℕ) → c < length f.blocks → (block_at f c).range.first < i → i < (block_at f c).range.end →
    (b : ℕ) → b < length f.blocks → (block_at f b).range.first ≢ i
inside_block f follow c i lc ge less b lb is =
    let some : (block_at f b).range.first < (block_at f b).range.end = (follow b lb).0 in
    let to : c ≤ b = stands_later f follow c b i i lc lb (omega (arith, ge)) less (omega (arith, is)) (omega (arith, is, some)) (omega arith) in
    let from : b ≤ c = stands_later f follow b c i i lb lc (omega (arith, is)) (omega (arith, is, some)) (omega (arith, ge)) less (omega arith) in
    let same : b ≡ c = omega (arith, to, from) in
    let one : (block_at f b).range.first ≡ (block_at f c).range.first = ap (λ (x : ℕ). (block_at f x).range.first) same in
    omega (arith, is, ge, one)

module _ (f : FunctionValue) (out : OutputValue) (v : VirtualRegister) (n : ℕ) (inst_lt : (ws : List Way) → IsPath f ws → (end_of f ws).inst < length f.insts)
    (inner : (ws : List Way) → IsPath f (Onward ∷ ws) → (b : ℕ) → b < length f.blocks → (block_at f b).range.first ≢ (end_of f ws).inst + 1)
    (slot : IsSlotOfValue f out v n) where
  -- an instruction that doesn't define v has no operand that writes its slot
  spares_slot : (i : ℕ) → i < length f.insts → Undefined (inst_at f i).operands v →
      Spares (inst_at f i).operands (allocs_of out i) (inst_at f i).clobbers (InSlot n)
  spares_slot i lt undefined = record {
    no_definition = λ j less def is. undefined j less def (slot.own (op_at (inst_at f i).operands j).vreg i j (lt, less, refl) is);
    no_clobber = refl;
  }

  -- v's own slot keeps its value, where v is live, from a definition on
  pub kept_in_slot : IsKeptInSlot f out v (InSlot n)
  kept_in_slot = record {
    entered = slot.entered;
    defined = slot.defined;
    written = λ ws path before_it undefined plain. moves_fine f out v (InSlot n) (block_at f (end_of f ws).block).range.first ((end_of f ws).inst + 1) plain
        (inner ws path) (λ less j e. (let same : (end_of f ws).inst ≡ j = omega (arith, e) in
        subst (λ (m : ℕ). Undefined (inst_at f m).operands v) same before_it)) out.edits slot.moves;
    spared = λ ws path undefined. spares_slot (end_of f ws).inst (inst_lt ws path) undefined;
  }
