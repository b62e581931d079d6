-- Facts that stand still are exactly the facts that hold on every path.
use Rattle.std.proofs.Common.{ℕ, zero, suc, ◌≡◌, ◌+◌, ◌-◌, ◌<◌, ◌≤◌, true, false, List, [], ◌∷◌, refl, arith, sym, ap, ◌∙◌, subst}
use Rattle.std.specs.Prelude.{slice_index}
use Rattle.regalloc2_names.specs.Register.{VirtualRegister}
use Rattle.regalloc2_names.specs.Place.{Place}
use Rattle.regalloc2_function.specs.FunctionValue.{FunctionValue, block_at}
use Rattle.regalloc2_function.specs.OutputValue.{OutputValue}
use Rattle.regalloc2_semantics.specs.Runs.{Way, Onward, ToSuccessor, Location, first_of, next_of, end_of, HasWay, IsPath, IsReached}
use Rattle.regalloc2_checker.specs.Facts.{Facts, facts_over_edge, facts_after, true_facts, Origin, Told, Held, judged, IsTraced}
use Rattle.regalloc2_checker.specs.Fixpoint.{nth_of, IsReachedBlock, facts_within, IsRefuted, IsFixpoint}
use Rattle.regalloc2_checker.proofs.FactsTraced.{traced-after, traced-edge, change-fewer}
use Rattle.regalloc2_checker.proofs.FactsFollowMaps.{AreEarlier, true_facts-way}

-- where paths end

-- a block in which a path ends is one whose first instruction a path reaches
pub reached_block : (f : FunctionValue) (ws : List Way) → IsPath f ws → IsReachedBlock f (end_of f ws).block
reached_block f [] h = ([], tt, refl)
reached_block f (Onward ∷ ws) h = reached_block f ws h.0
reached_block f (ToSuccessor k ∷ ws) h = (ToSuccessor k ∷ ws, h, refl)

-- a path ends at the first instruction of its last block, or after it
pub from_first : (f : FunctionValue) (ws : List Way) → IsPath f ws → (block_at f (end_of f ws).block).range.first ≤ (end_of f ws).inst
from_first f [] h = omega arith
from_first f (Onward ∷ ws) h = let less = from_first f ws h.0 in omega arith
from_first f (ToSuccessor k ∷ ws) h = omega arith

-- facts within a block

within-none : (f : FunctionValue) (o : OutputValue) (b : ℕ) (F : Facts) (n : ℕ) → n ≡ 0 → facts_within f o b F n ≡ F
unfolding facts_within
within-none f o b F n e = ap (facts_within f o b F) e

-- the facts n + 1 instructions into a block are the facts n instructions into it, transferred over the instruction there
pub within-suc : (f : FunctionValue) (o : OutputValue) (b : ℕ) (F : Facts) (m n i : ℕ) → m ≡ suc n → (block_at f b).range.first + n ≡ i →
    facts_within f o b F m ≡ facts_after f o (record { block = b; inst = i }) (facts_within f o b F n)
unfolding facts_within
within-suc f o b F m n i e d = ap (facts_within f o b F) e ∙ ap (λ (j : ℕ). facts_after f o (record { block = b; inst = j }) (facts_within f o b F n)) d

-- the facts at a location, from the facts at its block's beginning
abbrev facts_on : FunctionValue → OutputValue → (ℕ → Facts) → Location → Facts
facts_on f o F l = facts_within f o l.block (F l.block) (l.inst - (block_at f l.block).range.first)

-- what is claimed holds on each path
pub covered : AreEarlier → (f : FunctionValue) (o : OutputValue) (F : ℕ → Facts) → IsFixpoint f o F → (ws : List Way) → IsPath f ws →
    (p : Place) (v : VirtualRegister) → facts_on f o F (end_of f ws) p v ≡ true → true_facts f o ws p v ≡ true
unfolding facts_over_edge
covered law f o F s [] h p v y =
    let e = within-none f o f.entry (F f.entry) ((block_at f f.entry).range.first - (block_at f f.entry).range.first) (omega arith) in
    let n = s.entry p v in
    let z : F f.entry p v ≡ true = subst (λ (G : Facts). G p v ≡ true) e y in
    absurd cc
covered law f o F s (Onward ∷ ws) h p v y =
    let l : Location = end_of f ws in
    let first : ℕ = (block_at f l.block).range.first in
    let less : first ≤ l.inst = from_first f ws h.0 in
    let e = within-suc f o l.block (F l.block) (l.inst + 1 - first) (l.inst - first) l.inst (omega arith) (omega arith) in
    let z : facts_after f o l (facts_on f o F l) p v ≡ true = subst (λ (G : Facts). G p v ≡ true) e y in
    true_facts-way law f o Onward ws p v ∙ change-fewer (facts_after f o l) (traced-after f o l) (facts_on f o F l) (true_facts f o ws)
    (covered law f o F s ws h.0) p v z
covered law f o F s (ToSuccessor k ∷ ws) h p v y =
    let l : Location = end_of f ws in
    let first : ℕ = (block_at f l.block).range.first in
    let end : ℕ = (block_at f l.block).range.end in
    let t : ℕ = slice_index (block_at f l.block).succs k in
    let less : first ≤ l.inst = from_first f ws h.0 in
    let last : l.inst + 1 ≡ end = h.1.0 in
    let n = within-none f o t (F t) ((block_at f t).range.first - (block_at f t).range.first) (omega arith) in
    let x : F t p v ≡ true = subst (λ (G : Facts). G p v ≡ true) n y in
    let e = within-suc f o l.block (F l.block) (end - first) (l.inst - first) l.inst (omega arith) (omega arith) in
    let z : facts_over_edge f l (ToSuccessor k) (facts_after f o l (facts_on f o F l)) p v ≡ true =
    subst (λ (G : Facts). facts_over_edge f l (ToSuccessor k) G p v ≡ true) e (s.edges l.block k (reached_block f ws h.0) h.1.1 p v x) in
    true_facts-way law f o (ToSuccessor k) ws p v
    ∙ change-fewer (facts_over_edge f l (ToSuccessor k)) (traced-edge f l (ToSuccessor k)) (facts_after f o l (facts_on f o F l))
    (facts_after f o l (true_facts f o ws))
    (change-fewer (facts_after f o l) (traced-after f o l) (facts_on f o F l) (true_facts f o ws) (covered law f o F s ws h.0)) p v z

-- Witnesses: what is not claimed fails on a path, and so does what a traced change makes of it.

refuted_origin : (f : FunctionValue) (o : OutputValue) (l : Location) (F : Facts) → IsReached f l →
    ((p : Place) (v : VirtualRegister) → F p v ≡ false → IsRefuted f o l p v) →
    (x : Origin) → judged x F ≡ false → (ws : List Way) × IsPath f ws × (end_of f ws ≡ l) × (judged x (true_facts f o ws) ≡ false)
refuted_origin f o l F r h (Told b) n = (r.0, r.1, r.2, n)
refuted_origin f o l F r h (Held q u) n = h q u n

-- if each fact not claimed at a reached location fails on a path to it, so does each that a traced change doesn't claim there
pub refuted_change : (f : FunctionValue) (o : OutputValue) (l : Location) (F : Facts) (t : Facts → Facts) → IsTraced t → IsReached f l →
    ((p : Place) (v : VirtualRegister) → F p v ≡ false → IsRefuted f o l p v) →
    (p : Place) (v : VirtualRegister) → t F p v ≡ false → (ws : List Way) × IsPath f ws × (end_of f ws ≡ l) × (t (true_facts f o ws) p v ≡ false)
refuted_change f o l F t h r g p v n =
    let w = refuted_origin f o l F r g (h.origin p v) (sym (h.decides F p v) ∙ n) in
    (w.0, w.1, w.2, h.decides (true_facts f o w.0) p v ∙ w.3)

-- two locations in one block are equal if their instructions are
pub located : (b i j : ℕ) → i ≡ j → ◌≡◌ {A = Location} (record { block = b; inst = i }) (record { block = b; inst = j })
located b i j e = rw e refl

-- each instruction of a reached block is reached by a path
pub reached_within : (f : FunctionValue) (b : ℕ) → IsReachedBlock f b → (n : ℕ) → (block_at f b).range.first + n < (block_at f b).range.end →
    IsReached f (nth_of f b n)
reached_within f b r zero less = (r.0, r.1, r.2 ∙ located b _ _ (omega arith))
reached_within f b r (suc n) less =
    let w = reached_within f b r n (omega arith) in
    let way : HasWay f (nth_of f b n) Onward = omega arith in (
      Onward ∷ w.0,
      (w.1, subst (λ (l : Location). HasWay f l Onward) (sym w.2) way),
      ap (λ (l : Location). next_of f l Onward) w.2
          ∙ located b _ _ (omega arith),
    )

-- if each fact not claimed at a block's beginning fails on a path to it, the same is so at each of the block's instructions
pub refuted_within : AreEarlier → (f : FunctionValue) (o : OutputValue) (b : ℕ) (F : Facts) → IsReachedBlock f b →
    ((p : Place) (v : VirtualRegister) → F p v ≡ false → IsRefuted f o (first_of f b) p v) →
    (n : ℕ) → (block_at f b).range.first + n < (block_at f b).range.end → (p : Place) (v : VirtualRegister) → facts_within f o b F n p v ≡ false →
    IsRefuted f o (nth_of f b n) p v
unfolding facts_within facts_over_edge
refuted_within law f o b F r h zero less p v x = let w = h p v x in (w.0, w.1, w.2 ∙ located b _ _ (omega arith), w.3)
refuted_within law f o b F r h (suc n) less p v x =
    let l : Location = nth_of f b n in
    let w = refuted_change f o l (facts_within f o b F n) (facts_after f o l) (traced-after f o l) (reached_within f b r n (omega arith))
    (refuted_within law f o b F r h n (omega arith)) p v x in
    let way : HasWay f l Onward = omega arith in
    let e = true_facts-way law f o Onward w.0 p v in
    let d : facts_after f o (end_of f w.0) (true_facts f o w.0) p v ≡ false = subst (λ (m : Location). facts_after f o m (true_facts f o w.0) p v ≡ false)
    (sym w.2) w.3 in (
      Onward ∷ w.0,
      (w.1, subst (λ (m : Location). HasWay f m Onward) (sym w.2) way),
      ap (λ (m : Location). next_of f m Onward) w.2
          ∙ located b _ _ (omega arith),
      e ∙ d,
    )
