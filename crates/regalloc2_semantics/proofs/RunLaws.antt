-- Writes are found only after they are made.
use Rattle.std.proofs.Common.{ℕ, suc, ◌≡◌, ◌+◌, ◌<◌, Bool, true, false, cond, List, [], ◌∷◌, length, refl, arith, ◌∙◌}
use Rattle.std.specs.Prelude.{Option, None, Some, ◌&&◌, not}
use Rattle.regalloc2_names.specs.declared.sets.PRegSet.{PRegSet}
use Rattle.regalloc2_names.specs.Register.{VirtualRegister, is_vreg, has_register}
use Rattle.regalloc2_names.specs.Operand.{OperandValue, is_def, is_late}
use Rattle.regalloc2_names.specs.Place.{Place, NoPlace, InRegister, InSlot, is_place}
use Rattle.regalloc2_function.specs.FunctionValue.{FunctionValue}
use Rattle.regalloc2_function.specs.OutputValue.{OutputValue, MoveValue, place_at}
use Rattle.regalloc2_semantics.specs.Runs.{Way, Onward, ToSuccessor, Location, end_of, last_inst, Stamp, assigned, after_defs, passed, over_edge, write_at}
use Rattle.regalloc2_semantics.specs.Runs.{source_before, stored, after_moves, after_early_defs, after_writes, after_clobbers, cells_early}
use Rattle.regalloc2_semantics.specs.Runs.{cells_before}
use Rattle.regalloc2_semantics.specs.Laws.{SourceIsEarlier, CellsAreEarlier, MissingHoldsNothing, Cells, Source}

-- every write that `m` holds was made before step n
record WrittenBefore {K : Type 0} (n : ℕ) (m : K → Option Stamp) : Type 0 where
  below : (q : K) (s : Stamp) → m q ≡ Some s → s.step < n

-- a choice of two that were both made before step n
chosen : {K : Type 0} (b : Bool) (n : ℕ) (m l : K → Option Stamp) → WrittenBefore n m → WrittenBefore n l → WrittenBefore n (cond b m l)
chosen true n m l h g = h
chosen false n m l h g = g

either : (b : Bool) (n : ℕ) (x y : Option Stamp) (s : Stamp) → ((s : Stamp) → x ≡ Some s → s.step < n) → ((s : Stamp) → y ≡ Some s → s.step < n) →
    cond b x y ≡ Some s → s.step < n
either true n x y s h g e = h s e
either false n x y s h g e = g s e

some_below : (n : ℕ) (t s : Stamp) → t.step < n → Some t ≡ Some s → s.step < n
some_below n t s h e = let q : t ≡ s = cc in rw (← q) h

assigned-written_before : (n : ℕ) (m : Source) (v : VirtualRegister) (x : Option Stamp) → WrittenBefore n m → ((s : Stamp) → x ≡ Some s → s.step < n) → WrittenBefore n (assigned m v x)
assigned-written_before n m v x h g = record { below = λ q s e. either (is_vreg v q) n x (m q) s g (h.below q) e }

after_defs-written_before : (n k : ℕ) (os : List OperandValue) (m : Source) → WrittenBefore (suc n) m → WrittenBefore (suc n) (after_defs (write_at n) k os m)
unfolding after_defs
after_defs-written_before n k [] m h = h
after_defs-written_before n k (o ∷ os) m h =
    after_defs-written_before n (k + 1) os _ (chosen (is_def o.kind) (suc n) _ m
    (assigned-written_before (suc n) m o.vreg _ h (λ s e. some_below (suc n) (record { step = n; operand = k }) s (omega arith) e)) h)

passed-written_before : (n : ℕ) (ps xs : List VirtualRegister) (old new : Source) → WrittenBefore n old → WrittenBefore n new → WrittenBefore n (passed ps xs old new)
unfolding passed
passed-written_before n [] xs old new h g = g
passed-written_before n (p ∷ ps) [] old new h g = g
passed-written_before n (p ∷ ps) (x ∷ xs) old new h g = passed-written_before n ps xs old (assigned new p (old x)) h (assigned-written_before n new p (old x) g (h.below x))

over_edge-written_before : (n : ℕ) (f : FunctionValue) (l : Location) (w : Way) (m : Source) → WrittenBefore n m → WrittenBefore n (over_edge f l w m)
unfolding over_edge
over_edge-written_before n f l Onward m h = h
over_edge-written_before n f l (ToSuccessor k) m h = passed-written_before n _ _ m m h h

more : {K : Type 0} (n : ℕ) (m : K → Option Stamp) → WrittenBefore n m → WrittenBefore (suc n) m
more n m h = record { below = λ q s e. omega (arith, h.below q s e) }

source_before-written_before : (f : FunctionValue) (ws : List Way) → WrittenBefore (length ws) (source_before f ws)
unfolding source_before
source_before-written_before f [] = record { below = λ q s e. absurd cc }
source_before-written_before f (w ∷ ws) =
    let h : WrittenBefore (suc (length ws)) (after_defs (write_at (length ws)) 0 (last_inst f ws).operands (source_before f ws)) = after_defs-written_before (length ws) 0 _ _
    (more (length ws) _ (source_before-written_before f ws)) in
    over_edge-written_before (suc (length ws)) f (end_of f ws) w _ h

-- in the source run, the last write of a vreg before a step was made at an earlier step
pub source_is_earlier : SourceIsEarlier
source_is_earlier f ws v s e = (source_before-written_before f ws).below v s e

-- the cells

stored-written_before : (n : ℕ) (c : Cells) (p : Place) (x : Option Stamp) → WrittenBefore n c → ((s : Stamp) → x ≡ Some s → s.step < n) → WrittenBefore n (stored c p x)
unfolding stored
stored-written_before n c NoPlace x h g = h
stored-written_before n c (InRegister r) x h g = record { below = λ q s e. either (is_place (InRegister r) q) n x (c q) s g (h.below q) e }
stored-written_before n c (InSlot k) x h g = record { below = λ q s e. either (is_place (InSlot k) q) n x (c q) s g (h.below q) e }

after_moves-written_before : (n : ℕ) (ms : List MoveValue) (c : Cells) → WrittenBefore n c → WrittenBefore n (after_moves ms c)
unfolding after_moves
after_moves-written_before n [] c h = h
after_moves-written_before n (m ∷ ms) c h = after_moves-written_before n ms _ (stored-written_before n c m.to (c m.from) h (h.below m.from))

after_early_defs-written_before : (n : ℕ) (ps : List Place) (k : ℕ) (os : List OperandValue) (c : Cells) → WrittenBefore n c → WrittenBefore n (after_early_defs (λ p. None) ps k os c)
unfolding after_early_defs
after_early_defs-written_before n ps k [] c h = h
after_early_defs-written_before n ps k (o ∷ os) c h =
    after_early_defs-written_before n ps (k + 1) os _ (chosen (is_def o.kind && not (is_late o.position)) n _ c
    (stored-written_before n c (place_at ps k) None h (λ s e. absurd cc)) h)

after_writes-written_before : (n : ℕ) (ps : List Place) (k : ℕ) (os : List OperandValue) (c : Cells) → WrittenBefore (suc n) c → WrittenBefore (suc n) (after_writes (write_at n) ps k os c)
unfolding after_writes
after_writes-written_before n ps k [] c h = h
after_writes-written_before n ps k (o ∷ os) c h =
    after_writes-written_before n ps (k + 1) os _
    (chosen (is_def o.kind) (suc n) _ c (stored-written_before (suc n) c (place_at ps k) _ h
    (λ s e. some_below (suc n) (record { step = n; operand = k }) s (omega arith) e)) h)

after_clobbers-written_before : (n : ℕ) (clobbers : PRegSet) (c : Cells) → WrittenBefore n c → WrittenBefore n (after_clobbers clobbers (λ p. None) c)
unfolding after_clobbers
after_clobbers-written_before n clobbers c h = record { below = at }
  where
    at : (q : Place) (s : Stamp) → after_clobbers clobbers (λ p. None) c q ≡ Some s → s.step < n
    at NoPlace s e = h.below NoPlace s e
    at (InRegister r) s e = either (has_register clobbers r) n None (c (InRegister r)) s (λ t d. absurd cc) (h.below (InRegister r)) e
    at (InSlot k) s e = h.below (InSlot k) s e

cells_before-written_before : (f : FunctionValue) (o : OutputValue) (ws : List Way) → WrittenBefore (length ws) (cells_before f o ws)
unfolding cells_before
cells_before-written_before f o [] = record { below = λ q s e. absurd cc }
cells_before-written_before f o (w ∷ ws) =
    let h : WrittenBefore (length ws) (cells_early f o (end_of f ws) (cells_before f o ws)) = after_early_defs-written_before (length ws) _ 0 _ _
    (after_moves-written_before (length ws) _ _ (cells_before-written_before f o ws)) in
    after_clobbers-written_before (suc (length ws)) _ _ (after_writes-written_before (length ws) _ 0 _ _ (more (length ws) _ h))

-- in the allocated run, the write that a place holds before a step was made at an earlier step
pub cells_are_earlier : CellsAreEarlier
cells_are_earlier f o ws p s e = (cells_before-written_before f o ws).below p s e

-- missing places

stored-missing : (c : Cells) (p : Place) (x : Option Stamp) → stored c p x NoPlace ≡ c NoPlace
unfolding stored
stored-missing c NoPlace x = refl
stored-missing c (InRegister r) x = refl
stored-missing c (InSlot n) x = refl

cond-missing : (b : Bool) (c d : Cells) → c NoPlace ≡ d NoPlace → (cond b c d) NoPlace ≡ d NoPlace
cond-missing true c d e = e
cond-missing false c d e = refl

after_moves-missing : (ms : List MoveValue) (c : Cells) → after_moves ms c NoPlace ≡ c NoPlace
unfolding after_moves
after_moves-missing [] c = refl
after_moves-missing (m ∷ ms) c = after_moves-missing ms _ ∙ stored-missing c m.to (c m.from)

after_early_defs-missing : (ps : List Place) (k : ℕ) (os : List OperandValue) (c : Cells) → after_early_defs (λ p. None) ps k os c NoPlace ≡ c NoPlace
unfolding after_early_defs
after_early_defs-missing ps k [] c = refl
after_early_defs-missing ps k (o ∷ os) c = after_early_defs-missing ps (k + 1) os _
    ∙ cond-missing (is_def o.kind && not (is_late o.position)) _ c (stored-missing c (place_at ps k) None)

after_writes-missing : (ps : List Place) (n k : ℕ) (os : List OperandValue) (c : Cells) → after_writes (write_at n) ps k os c NoPlace ≡ c NoPlace
unfolding after_writes
after_writes-missing ps n k [] c = refl
after_writes-missing ps n k (o ∷ os) c = after_writes-missing ps n (k + 1) os _ ∙ cond-missing (is_def o.kind) _ c (stored-missing c (place_at ps k) _)

-- in the allocated run, the place that is none never holds a value
pub missing_holds_nothing : MissingHoldsNothing
unfolding cells_before after_clobbers
missing_holds_nothing f o [] = refl
missing_holds_nothing f o (w ∷ ws) =
    after_writes-missing _ (length ws) 0 _ _ ∙ after_early_defs-missing _ 0 _ _ ∙ after_moves-missing _ _ ∙ missing_holds_nothing f o ws
