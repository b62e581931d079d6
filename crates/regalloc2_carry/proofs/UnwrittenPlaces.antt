-- Places that hold a vreg's value all through: nothing writes them, or only moves for the vreg's own uses.
use Rattle.std.proofs.Common.{ℕ, zero, suc, ◌≡◌, ◌+◌, ◌<◌, ◌≤◌, Bool, true, false, List, [], ◌∷◌, length, refl, arith, sym, ◌∙◌, inl, inr, ◌⊎◌, subst}
use Rattle.std.specs.Prelude.{◌&&◌}
use Rattle.std.proofs.lemmas.Bool.{cases_Bool}
use Rattle.regalloc2_names.specs.declared.sets.PRegSet.{PRegSet}
use Rattle.regalloc2_names.specs.Register.{VirtualRegister, is_vreg}
use Rattle.regalloc2_names.specs.Operand.{OperandValue, is_def, is_late, is_reading}
use Rattle.regalloc2_names.specs.Place.{Place, before, after}
use Rattle.regalloc2_function.specs.FunctionValue.{InstValue, op_at}
use Rattle.regalloc2_function.specs.OutputValue.{MoveValue, place_at}
use Rattle.regalloc2_semantics.specs.Runs.{after_defs, stored, after_moves, write_at}
use Rattle.regalloc2_carry.specs.Listing.{Item, exec_item, with_moves, defines, writes}
use Rattle.regalloc2_carry.specs.Listing.Item.{Exec}
use Rattle.regalloc2_carry.specs.BlockByPoints.{walked}
use Rattle.regalloc2_carry.specs.Carry.{CarriesFrom, Carries, Finds, early_cells, late_cells, Spares, Untouched}
use Rattle.regalloc2_semantics.specs.Sound.{Undefined}
use Rattle.regalloc2_semantics.proofs.Cells.{is_vreg-true, stored-other}
use Rattle.regalloc2_semantics.proofs.AfterWrites.{after_defs-other}
use Rattle.regalloc2_carry.proofs.BothRuns.{early-other, late-spared}
use Rattle.regalloc2_carry.proofs.CarryRules.{from_moves, after_their_moves, from_fresh}
use Rattle.regalloc2_semantics.specs.Laws.{Cells, Source}

-- no move of a list goes to the place
abbrev pub NoMoveTo : Place → List MoveValue → Type 0
NoMoveTo p ms = Untouched p (with_moves ms [])

-- a list of moves leaves the content of a place that none of them goes to
pub moves_kept : (p : Place) (ms : List MoveValue) (c : Cells) → NoMoveTo p ms → after_moves ms c p ≡ c p
unfolding Untouched with_moves after_moves
moves_kept p [] c h = refl
moves_kept p (m ∷ ms) c h = moves_kept p ms (stored c m.to (c m.from)) h.1 ∙ stored-other c m.to p (c m.from) h.0

-- a place that no move of a list goes to, and that the listing after it leaves alone, is left alone by both together
pub untouched_moves : (p : Place) (ms : List MoveValue) (L : List Item) → NoMoveTo p ms → Untouched p L → Untouched p (with_moves ms L)
unfolding Untouched with_moves
untouched_moves p [] L h g = g
untouched_moves p (m ∷ ms) L h g = (h.0, untouched_moves p ms L h.1 g)

-- a listing by points leaves a place alone if no move of its points goes there, and no instruction of it writes or
-- clobbers it
pub untouched_walked : (p : Place) (insts : ℕ → InstValue) (at : ℕ → List MoveValue) (places : ℕ → List Place) (i n : ℕ) →
    ((q : ℕ) → before i ≤ q → q < before (i + n) → NoMoveTo p (at q)) →
    ((j : ℕ) → i ≤ j → j < i + n → Spares (insts j).operands (places j) (insts j).clobbers p) →
    Untouched p (walked insts at places i n)
unfolding Untouched walked
untouched_walked p insts at places i zero h g = tt
untouched_walked p insts at places i (suc n) h g =
    let rest : Untouched p (walked insts at places (i + 1) n) = untouched_walked p insts at places (i + 1) n (λ q le lt. h q (omega arith) (omega arith))
    (λ j le lt. g j (omega arith) (omega arith)) in
    let after_it : Untouched p (with_moves (at (after i)) (walked insts at places (i + 1) n)) = untouched_moves p (at (after i))
    (walked insts at places (i + 1) n) (h (after i) (omega arith) (omega arith)) rest in
    untouched_moves p (at (before i)) (exec_item (insts i) (places i) ∷ with_moves (at (after i)) (walked insts at places (i + 1) n))
    (h (before i) (omega arith) (omega arith)) (g i (omega arith) (omega arith), after_it)

-- no operand defines v, as a test
neither : (a b : Bool) → (a ≡ true → b ≡ true → ⊥) → (a && b) ≡ false
neither true true h = absurd (h refl refl)
neither true false h = refl
neither false b h = refl

-- if v is not the vreg of any def, the test says that no operand defines v
pub defines_none : (ops : List OperandValue) (v : VirtualRegister) → Undefined ops v → defines v ops ≡ false
unfolding defines
defines_none [] v h = refl
defines_none (o ∷ os) v h =
    rw (neither (is_def o.kind) (is_vreg o.vreg v) (λ d e. h 0 (omega arith) d (is_vreg-true o.vreg v e)))
    (defines_none os v (λ j lt d e. h (suc j) (omega arith) d e))

-- moves in front of a listing don't change whether it writes v, since a move writes places alone
pub writes_moves : (v : VirtualRegister) (ms : List MoveValue) (L : List Item) → writes v (with_moves ms L) ≡ writes v L
unfolding writes with_moves
writes_moves v [] L = refl
writes_moves v (m ∷ ms) L = writes_moves v ms L

-- a stretch of a block none of whose instructions writes v
pub unwritten_walked : (v : VirtualRegister) (insts : ℕ → InstValue) (at : ℕ → List MoveValue) (places : ℕ → List Place) (i n : ℕ) →
    ((j : ℕ) → i ≤ j → j < i + n → Undefined (insts j).operands v) →
    writes v (walked insts at places i n) ≡ false
unfolding writes walked
unwritten_walked v insts at places i zero h = refl
unwritten_walked v insts at places i (suc n) h =
    let rest : writes v (walked insts at places (i + 1) n) ≡ false = unwritten_walked v insts at places (i + 1) n
    (λ j le lt. h j (omega arith) (omega arith)) in
    writes_moves v (at (before i)) (exec_item (insts i) (places i) ∷ with_moves (at (after i)) (walked insts at places (i + 1) n))
    ∙ rw (defines_none (insts i).operands v (h i (omega arith) (omega arith)), writes_moves v (at (after i)) (walked insts at places (i + 1) n), rest) refl

-- an operand reads v at the place
abbrev pub IsReadInPlace : List OperandValue → List Place → VirtualRegister → Place → Type 0
IsReadInPlace operands places v p = (k : ℕ) × (k < length operands) × (is_reading (op_at operands k) ≡ true) × ((op_at operands k).vreg ≡ v)
    × (place_at places k ≡ p)

-- An instruction and its moves leave in the place what v has: nothing else is written to it. Where a move before the
-- instruction writes it, an operand reads v there.
pub record Keeps (operands : List OperandValue) (places : List Place) (clobbers : PRegSet) (sooner later : List MoveValue) (v : VirtualRegister)
    (p : Place) : Type 0 where
  pub spared : Spares operands places clobbers p
  pub no_move_later : NoMoveTo p later
  pub before_it : NoMoveTo p sooner ⊎ IsReadInPlace operands places v p

module _ (v : VirtualRegister) (ops : List OperandValue) (places : List Place) (clobbers : PRegSet) (sooner later : List MoveValue)
    (undefined : Undefined ops v) where
  -- v's value is there when the instruction begins
  kept_before : (p : Place) (s : Source) (c : Cells) (n : ℕ) → Keeps ops places clobbers sooner later v p → c p ≡ s v →
      Finds v false ops places (s v) (early_cells ops places (after_moves sooner c)) →
      Finds v true ops places (after_defs (write_at n) 0 ops s v) (late_cells n ops places clobbers (after_moves sooner c)) →
      after_moves sooner c p ≡ s v
  kept_before p s c n k holds early late = elim k.before_it [
    | inl none ↦ moves_kept p sooner c none ∙ holds
    | inr (j, lt, reads, is, at) ↦ elim (cases_Bool (is_late (op_at ops j).position)) [
      | inl l ↦ (
          sym (late-spared n ops places clobbers (after_moves sooner c) p k.spared)
          ∙ subst (λ q. late_cells n ops places clobbers (after_moves sooner c) q ≡ after_defs (write_at n) 0 ops s v) at (late j lt reads l is)
          ∙ after_defs-other ops n 0 s v undefined)
      | inr e ↦ (
          sym (early-other ops places (after_moves sooner c) p (λ i less d x y. k.spared.no_definition i less d y))
          ∙ subst (λ q. early_cells ops places (after_moves sooner c) q ≡ s v) at (early j lt reads e is))
    ]
  ]

  -- v's value is there when all has run
  pub carries_kept : (P E R : Place → Type 0) → ((p : Place) → R p → Keeps ops places clobbers sooner later v p) →
      Carries v (with_moves sooner (Exec ops places clobbers ∷ with_moves later [])) P E →
      Carries v (with_moves sooner (Exec ops places clobbers ∷ with_moves later [])) (λ p. P p ⊎ R p) (λ p. E p ⊎ R p)
  unfolding Carries CarriesFrom writes
  carries_kept P E R keeps g = λ s c n holds.
      let M : List Item = with_moves later [] in
      let x : CarriesFrom v E (Exec ops places clobbers ∷ M) s (after_moves sooner c) n = after_their_moves sooner v E (Exec ops places clobbers ∷ M) s c n
      (g s c n (λ p w. holds p (inl w))) in
      let unwritten : writes v M ≡ false = writes_moves v later [] in
      from_moves sooner v (λ p. E p ⊎ R p) (Exec ops places clobbers ∷ M) s c n (
        x.0,
        x.1,
        from_fresh v M E R (after_defs (write_at n) 0 ops s) (late_cells n ops places clobbers (after_moves sooner c)) (suc n) (λ p r. (keeps p r).no_move_later) unwritten
            (λ p r. late-spared n ops places clobbers (after_moves sooner c) p (keeps p r).spared ∙ kept_before p s c n (keeps p r) (holds p (inr r)) x.0 x.1
            ∙ sym (after_defs-other ops n 0 s v undefined))
            x.2,
      )

-- v's value is kept by an instruction that was walked
pub carries_kept_walked : (v : VirtualRegister) (insts : ℕ → InstValue) (at : ℕ → List MoveValue) (places : ℕ → List Place) (i : ℕ) (P E R : Place → Type 0) →
    Undefined (insts i).operands v →
    ((p : Place) → R p → Keeps (insts i).operands (places i) (insts i).clobbers (at (before i)) (at (after i)) v p) →
    Carries v (walked insts at places i 1) P E → Carries v (walked insts at places i 1) (λ p. P p ⊎ R p) (λ p. E p ⊎ R p)
unfolding walked
carries_kept_walked v insts at places i P E R undefined keeps g =
    carries_kept v (insts i).operands (places i) (insts i).clobbers (at (before i)) (at (after i)) undefined P E R keeps g
