-- What an instruction's definitions write, and what they leave as it was.
use Rattle.std.proofs.Common.{ℕ, zero, suc, ◌≡◌, ◌+◌, ◌<◌, Bool, true, false, cond, List, [], ◌∷◌, length, refl, arith, sym, ◌∙◌, subst}
use Rattle.std.specs.Prelude.{Option, None, Some, ◌&&◌, not}
use Rattle.std.proofs.lemmas.Bool.{and_parts}
use Rattle.regalloc2_names.specs.declared.OperandPos.{OperandPos}
use Rattle.regalloc2_names.specs.declared.OperandPos.TheVariants.{Early, Late}
use Rattle.regalloc2_names.specs.Register.{VirtualRegister}
use Rattle.regalloc2_names.specs.Operand.{OperandValue, is_def, is_late}
use Rattle.regalloc2_names.specs.Place.{Place, NoPlace}
use Rattle.regalloc2_function.specs.OutputValue.{place_at}
use Rattle.regalloc2_function.specs.FunctionValue.{op_at}
use Rattle.regalloc2_semantics.specs.Runs.{Stamp, assigned, after_defs, stored, after_early_defs, after_writes, write_at}
use Rattle.regalloc2_semantics.proofs.Cells.{stored-same, stored-other, assigned-same, assigned-other}
use Rattle.regalloc2_semantics.specs.Sound.{Undefined}
use Rattle.regalloc2_semantics.specs.Laws.{Cells, Source}

-- one operand
defined_not : (b : Bool) (m : Source) (w v : VirtualRegister) (x : Option Stamp) → (b ≡ true → w ≡ v → ⊥) → (cond b (assigned m w x) m) v ≡ m v
defined_not true m w v x h = assigned-other m w v x (h refl)
defined_not false m w v x h = refl

defined_here : (b : Bool) (m : Source) (w v : VirtualRegister) (x : Option Stamp) → b ≡ true → w ≡ v → (cond b (assigned m w x) m) v ≡ x
defined_here true m w v x d e = subst (λ u. assigned m w x u ≡ x) e (assigned-same m w x)
defined_here false m w v x d e = absurd cc

written_not : (b : Bool) (c : Cells) (q p : Place) (x : Option Stamp) → (b ≡ true → q ≡ p → ⊥) → (cond b (stored c q x) c) p ≡ c p
written_not true c q p x h = stored-other c q p x (λ e. h refl (sym e))
written_not false c q p x h = refl

written_here : (b : Bool) (c : Cells) (q p : Place) (x : Option Stamp) → b ≡ true → q ≡ p → (p ≡ NoPlace → ⊥) → (cond b (stored c q x) c) p ≡ x
written_here true c q p x d e n = subst (λ u. stored c q x u ≡ x) e (stored-same c q x (λ z. n (sym e ∙ z)))
written_here false c q p x d e n = absurd cc

-- a vreg that no operand defines
pub after_defs-other : (ops : List OperandValue) (t k : ℕ) (s : Source) (v : VirtualRegister) → Undefined ops v → after_defs (write_at t) k ops s v ≡ s v
unfolding after_defs
after_defs-other [] t k s v h = refl
after_defs-other (o ∷ os) t k s v h =
    after_defs-other os t (k + 1) _ v (λ j lt d e. h (suc j) (omega arith) d e)
    ∙ defined_not (is_def o.kind) s o.vreg v _ (λ d e. h 0 (omega arith) d e)

-- a vreg that some operand defines last holds its write
pub after_defs-at : (ops : List OperandValue) (t k : ℕ) (s : Source) (v : VirtualRegister) (j : ℕ) → j < length ops → is_def (op_at ops j).kind ≡ true →
    (op_at ops j).vreg ≡ v →
    ((i : ℕ) → i < length ops → j < i → is_def (op_at ops i).kind ≡ true → (op_at ops i).vreg ≡ v → ⊥) →
    after_defs (write_at t) k ops s v ≡ Some (record { step = t; operand = j + k })
unfolding after_defs
after_defs-at [] t k s v j lt d e last = absurd (omega arith)
after_defs-at (o ∷ os) t k s v zero lt d e last =
    let i : 0 + k ≡ k = omega arith in
    after_defs-other os t (k + 1) _ v (λ j less f g. last (suc j) (omega arith) (omega arith) f g)
    ∙ rw i (defined_here (is_def o.kind) s o.vreg v _ d e)
after_defs-at (o ∷ os) t k s v (suc j) lt d e last =
    let i : suc j + k ≡ j + (k + 1) = omega arith in
    rw i (after_defs-at os t (k + 1) _ v j (omega arith) d e (λ x less over f g. last (suc x) (omega arith) (omega arith) f g))

-- a place that no early definition has
pub after_early_defs-other : (ops : List OperandValue) (places : List Place) (k : ℕ) (c : Cells) (p : Place) →
    ((j : ℕ) → j < length ops → is_def (op_at ops j).kind ≡ true → is_late (op_at ops j).position ≡ false → place_at places (j + k) ≡ p → ⊥) →
    after_early_defs (λ p. None) places k ops c p ≡ c p
unfolding after_early_defs
after_early_defs-other [] places k c p h = refl
after_early_defs-other (o ∷ os) places k c p h =
    after_early_defs-other os places (k + 1) _ p (λ j lt d l e. let i : suc j + k ≡ j + (k + 1) = omega arith in h (suc j) (omega arith) d l (rw i e))
    ∙ written_not (is_def o.kind && not (is_late o.position)) c (place_at places k) p None
    (λ b e. let parts = and_parts _ _ b in let i : 0 + k ≡ k = omega arith in h 0 (omega arith) parts.0 (not_late o.position parts.1) (rw i e))
  where
    not_late : (q : OperandPos) → not (is_late q) ≡ true → is_late q ≡ false
    not_late Early h = refl
    not_late Late h = absurd cc

-- a place that no definition has
pub after_writes-other : (ops : List OperandValue) (places : List Place) (t k : ℕ) (c : Cells) (p : Place) →
    ((j : ℕ) → j < length ops → is_def (op_at ops j).kind ≡ true → place_at places (j + k) ≡ p → ⊥) → after_writes (write_at t) places k ops c p ≡ c p
unfolding after_writes
after_writes-other [] places t k c p h = refl
after_writes-other (o ∷ os) places t k c p h =
    after_writes-other os places t (k + 1) _ p (λ j lt d e. let i : suc j + k ≡ j + (k + 1) = omega arith in h (suc j) (omega arith) d (rw i e))
    ∙ written_not (is_def o.kind) c (place_at places k) p _ (λ d e. let i : 0 + k ≡ k = omega arith in h 0 (omega arith) d (rw i e))

-- a place that some definition has last holds its write
pub after_writes-at : (ops : List OperandValue) (places : List Place) (t k : ℕ) (c : Cells) (p : Place) (j : ℕ) → (p ≡ NoPlace → ⊥) → j < length ops →
    is_def (op_at ops j).kind ≡ true → place_at places (j + k) ≡ p →
    ((i : ℕ) → i < length ops → j < i → is_def (op_at ops i).kind ≡ true → place_at places (i + k) ≡ p → ⊥) →
    after_writes (write_at t) places k ops c p ≡ Some (record { step = t; operand = j + k })
unfolding after_writes
after_writes-at [] places t k c p j n lt d e last = absurd (omega arith)
after_writes-at (o ∷ os) places t k c p zero n lt d e last =
    let i : 0 + k ≡ k = omega arith in
    after_writes-other os places t (k + 1) _ p (λ j less f g. let x : suc j + k ≡ j + (k + 1) = omega arith in
    last (suc j) (omega arith) (omega arith) f (rw x g))
    ∙ rw i (written_here (is_def o.kind) c (place_at places k) p _ d (rw i at e) n)
after_writes-at (o ∷ os) places t k c p (suc j) n lt d e last =
    let i : suc j + k ≡ j + (k + 1) = omega arith in
    rw i (after_writes-at os places t (k + 1) _ p j n (omega arith) d (rw i at e)
    (λ x less over f g. let y : suc x + k ≡ x + (k + 1) = omega arith in last (suc x) (omega arith) (omega arith) f (rw y g)))
