-- What an item does to the facts of two maps is what it does to the maps.
use Rattle.std.proofs.Common.{ℕ, ◌≡◌, ◌+◌, ◌<◌, ◌≤◌, Bool, true, false, cond, List, [], ◌∷◌, length, refl, arith, sym, ap, ◌∙◌, eqb-true, eq-eqb, nat_eq}
use Rattle.std.specs.Prelude.{Option, None, Some, IsSome, ◌&&◌, not}
use Rattle.std.proofs.lemmas.Bool.{and_parts}
use Rattle.regalloc2_names.specs.declared.OperandPos.{OperandPos}
use Rattle.regalloc2_names.specs.declared.OperandPos.TheVariants.{Early, Late}
use Rattle.regalloc2_names.specs.declared.sets.PRegSet.{PRegSet}
use Rattle.regalloc2_names.specs.Register.{VirtualRegister, is_vreg, has_register}
use Rattle.regalloc2_names.specs.Operand.{OperandValue, is_def, is_late}
use Rattle.regalloc2_names.specs.Place.{Place, NoPlace, InRegister, InSlot, is_place}
use Rattle.regalloc2_function.specs.FunctionValue.{FunctionValue, inst_at}
use Rattle.regalloc2_function.specs.OutputValue.{OutputValue, MoveValue, place_at}
use Rattle.regalloc2_semantics.specs.Runs.{Way, Onward, ToSuccessor, Location, end_of, Stamp, assigned, after_defs, passed, over_edge, source_before, write_at}
use Rattle.regalloc2_semantics.specs.Runs.{source_after, read_of, stored, after_moves, after_early_defs, after_writes, after_clobbers, cells_early}
use Rattle.regalloc2_semantics.specs.Runs.{cells_late, cells_before}
use Rattle.regalloc2_semantics.specs.Faithful.{cell_at}
use Rattle.regalloc2_semantics.specs.Laws.{SourceIsEarlier, CellsAreEarlier, Cells, Source}
use Rattle.regalloc2_checker.specs.Facts.{Facts, is_stamp, same_write, facts_of, placed, defined, facts_after_moves, facts_after_early_defs, facts_after_defs}
use Rattle.regalloc2_checker.specs.Facts.{facts_after_clobbers, renaming, facts_over_edge, facts_early, facts_late, facts_after, facts_for, true_facts}

-- one write

is_stamp-true : (s t : Stamp) → is_stamp s t ≡ true → s ≡ t
is_stamp-true s t h =
    let e = and_parts (nat_eq s.step t.step) (nat_eq s.operand t.operand) h in
    stamps s.step t.step s.operand t.operand (eqb-true s.step t.step e.0) (eqb-true s.operand t.operand e.1)
  where
    stamps : (m n j k : ℕ) → m ≡ n → j ≡ k → ◌≡◌ {A = Stamp} (record { step = m; operand = j }) (record { step = n; operand = k })
    stamps m n j k e d = rw (e, d) refl

is_stamp-same : (s : Stamp) → is_stamp s s ≡ true
is_stamp-same s = rw (eq-eqb s.step s.step refl, eq-eqb s.operand s.operand refl) refl

-- two optional writes that the test finds to be one write are both present, and equal
pub same_write-true : (x y : Option Stamp) → same_write x y ≡ true → IsSome y × (x ≡ y)
same_write-true None y h = absurd cc
same_write-true (Some s) None h = absurd cc
same_write-true (Some s) (Some t) h = (refl, ap Some (is_stamp-true s t h))

-- two optional writes that are equal, and present, pass the test for one write
pub same_write-same : (x y : Option Stamp) → IsSome y → x ≡ y → same_write x y ≡ true
same_write-same x None h e = absurd cc
same_write-same x (Some t) h e = rw e (is_stamp-same t)

same_write-not : (b : Bool) (x y : Option Stamp) → same_write x y ≡ b → (x ≡ y → ⊥) → b ≡ false
same_write-not true x y e h = absurd (h (same_write-true x y e).1)
same_write-not false x y e h = refl

same_write-apart : (x y : Option Stamp) → (x ≡ y → ⊥) → same_write x y ≡ false
same_write-apart x y h = same_write-not (same_write x y) x y refl h

-- every write that a run finds was made at an earlier step
pub record AreEarlier : Type 0 where
  pub source : SourceIsEarlier
  pub cells : CellsAreEarlier

-- what is found was made before step n
pub record Below {K : Type 0} (n : ℕ) (m : K → Option Stamp) : Type 0 where
  pub below : (q : K) (s : Stamp) → m q ≡ Some s → s.step < n

step-below : (b : Bool) (n : ℕ) (x y : Option Stamp) (s : Stamp) → ((s : Stamp) → x ≡ Some s → s.step < n) → ((s : Stamp) → y ≡ Some s → s.step < n) →
    cond b x y ≡ Some s → s.step < n
step-below true n x y s h g e = h s e
step-below false n x y s h g e = g s e

chosen-Below : {K : Type 0} (b : Bool) (n : ℕ) (m l : K → Option Stamp) → Below n m → Below n l → Below n (cond b m l)
chosen-Below true n m l h g = h
chosen-Below false n m l h g = g

stored-Below : (n : ℕ) (c : Cells) (p : Place) (x : Option Stamp) → Below n c → ((s : Stamp) → x ≡ Some s → s.step < n) → Below n (stored c p x)
unfolding stored
stored-Below n c NoPlace x h g = h
stored-Below n c (InRegister r) x h g = record { below = λ q s e. step-below (is_place (InRegister r) q) n x (c q) s g (h.below q) e }
stored-Below n c (InSlot k) x h g = record { below = λ q s e. step-below (is_place (InSlot k) q) n x (c q) s g (h.below q) e }

after_moves-Below : (n : ℕ) (ms : List MoveValue) (c : Cells) → Below n c → Below n (after_moves ms c)
unfolding after_moves
after_moves-Below n [] c h = h
after_moves-Below n (m ∷ ms) c h = after_moves-Below n ms _ (stored-Below n c m.to (c m.from) h (h.below m.from))

after_early_defs-Below : (n : ℕ) (ps : List Place) (k : ℕ) (os : List OperandValue) (c : Cells) → Below n c → Below n (after_early_defs (λ p. None) ps k os c)
unfolding after_early_defs
after_early_defs-Below n ps k [] c h = h
after_early_defs-Below n ps k (o ∷ os) c h =
    after_early_defs-Below n ps (k + 1) os _
    (chosen-Below (is_def o.kind && not (is_late o.position)) n _ c (stored-Below n c (place_at ps k) None h (λ s e. absurd cc)) h)

-- no write of step n from operand k on
record Fresh {K : Type 0} (n k : ℕ) (m : K → Option Stamp) : Type 0 where
  fresh : (q : K) (j : ℕ) → k ≤ j → m q ≡ Some (record { step = n; operand = j }) → ⊥

fresh_below : {K : Type 0} (n : ℕ) (m : K → Option Stamp) → Below n m → Fresh n 0 m
fresh_below n m h = record { fresh = λ q j less e. let l = h.below q (record { step = n; operand = j }) e in absurd (omega arith) }

later-Fresh : {K : Type 0} (n k : ℕ) (m : K → Option Stamp) → Fresh n k m → Fresh n (k + 1) m
later-Fresh n k m h = record { fresh = λ q j less e. h.fresh q j (omega arith) e }

neither-chosen : (b : Bool) (x y z : Option Stamp) → (x ≡ z → ⊥) → (y ≡ z → ⊥) → cond b x y ≡ z → ⊥
neither-chosen true x y z h g e = h e
neither-chosen false x y z h g e = g e

operands_apart : (n k j : ℕ) → k < j → ◌≡◌ {A = Option Stamp} (Some (record { step = n; operand = k })) (Some (record { step = n; operand = j })) → ⊥
operands_apart n k j less e =
    let d : ◌≡◌ {A = Stamp} (record { step = n; operand = k }) (record { step = n; operand = j }) = cc in
    let i : k ≡ j = ap (λ (s : Stamp). s.operand) d in omega arith

assigned-Fresh : (n k : ℕ) (m : Source) (v : VirtualRegister) → Fresh n k m → Fresh n (k + 1) (assigned m v (Some (record { step = n; operand = k })))
assigned-Fresh n k m v h = record { fresh = λ q j less e. neither-chosen (is_vreg v q) _ (m q) _ (operands_apart n k j (omega arith)) (h.fresh q j (omega arith)) e }

stored-Fresh : (n k : ℕ) (c : Cells) (p : Place) → Fresh n k c → Fresh n (k + 1) (stored c p (Some (record { step = n; operand = k })))
unfolding stored
stored-Fresh n k c NoPlace h = later-Fresh n k c h
stored-Fresh n k c (InRegister r) h = record {
  fresh = λ q j less e. neither-chosen (is_place (InRegister r) q) _ (c q) _ (operands_apart n k j (omega arith))
      (h.fresh q j (omega arith)) e;
}
stored-Fresh n k c (InSlot i) h = record {
  fresh = λ q j less e. neither-chosen (is_place (InSlot i) q) _ (c q) _ (operands_apart n k j (omega arith))
      (h.fresh q j (omega arith)) e;
}

chosen-Fresh : {K : Type 0} (b : Bool) (n k : ℕ) (m l : K → Option Stamp) → Fresh n k m → Fresh n k l → Fresh n k (cond b m l)
chosen-Fresh true n k m l h g = h
chosen-Fresh false n k m l h g = g

-- the facts follow the two maps
pub record Exact (c : Cells) (m : Source) (F : Facts) : Type 0 where
  pub same : (p : Place) (v : VirtualRegister) → facts_of c m p v ≡ F p v

same_write-stored : (b : Bool) (s x y : Option Stamp) (g h : Bool) → same_write s y ≡ g → same_write x y ≡ h → same_write (cond b s x) y ≡ cond b g h
same_write-stored true s x y g h e d = e
same_write-stored false s x y g h e d = d

stored-Exact : (c : Cells) (m : Source) (F : Facts) (p : Place) (s : Option Stamp) (x : VirtualRegister → Bool) → Exact c m F →
    ((v : VirtualRegister) → same_write s (m v) ≡ x v) → Exact (stored c p s) m (placed p x F)
unfolding stored placed
stored-Exact c m F NoPlace s x h e = h
stored-Exact c m F (InRegister r) s x h e = record { same = λ q v. same_write-stored (is_place (InRegister r) q) s (c q) (m v) (x v) (F q v) (e v) (h.same q v) }
stored-Exact c m F (InSlot n) s x h e = record { same = λ q v. same_write-stored (is_place (InSlot n) q) s (c q) (m v) (x v) (F q v) (e v) (h.same q v) }

chosen-Exact : (b : Bool) (c d : Cells) (m n : Source) (F G : Facts) → Exact c m F → Exact d n G → Exact (cond b c d) (cond b m n) (cond b F G)
chosen-Exact true c d m n F G h g = h
chosen-Exact false c d m n F G h g = g

same_source : (b : Bool) (c d : Cells) (m : Source) (F G : Facts) → Exact c m F → Exact d m G → Exact (cond b c d) m (cond b F G)
same_source true c d m F G h g = h
same_source false c d m F G h g = g

after_moves-Exact : (ms : List MoveValue) (c : Cells) (m : Source) (F : Facts) → Exact c m F → Exact (after_moves ms c) m (facts_after_moves ms F)
unfolding after_moves facts_after_moves
after_moves-Exact [] c m F h = h
after_moves-Exact (x ∷ xs) c m F h = after_moves-Exact xs _ m _ (stored-Exact c m F x.to (c x.from) (F x.from) h (h.same x.from))

after_early_defs-Exact : (ps : List Place) (k : ℕ) (os : List OperandValue) (c : Cells) (m : Source) (F : Facts) → Exact c m F →
    Exact (after_early_defs (λ p. None) ps k os c) m (facts_after_early_defs ps k os F)
unfolding after_early_defs facts_after_early_defs
after_early_defs-Exact ps k [] c m F h = h
after_early_defs-Exact ps k (o ∷ os) c m F h =
    after_early_defs-Exact ps (k + 1) os _ m _
    (same_source (is_def o.kind && not (is_late o.position)) _ c m _ F (stored-Exact c m F (place_at ps k) None (λ v. false) h (λ v. refl)) h)

same_write-cleared : (b : Bool) (x s y : Option Stamp) (g : Bool) → (x ≡ s → ⊥) → same_write x y ≡ g → same_write x (cond b s y) ≡ cond b false g
same_write-cleared true x s y g h e = same_write-apart x s h
same_write-cleared false x s y g h e = e

same_write-defined : (b : Bool) (s : Stamp) (y : Option Stamp) → (y ≡ Some s → ⊥) → same_write (Some s) (cond b (Some s) y) ≡ b
same_write-defined true s y h = is_stamp-same s
same_write-defined false s y h = same_write-apart (Some s) y (λ e. h (sym e))

defined-Exact : (c : Cells) (m : Source) (F : Facts) (p : Place) (v : VirtualRegister) (s : Stamp) → Exact c m F →
    ((q : Place) → c q ≡ Some s → ⊥) → ((u : VirtualRegister) → m u ≡ Some s → ⊥) → Exact (stored c p (Some s)) (assigned m v (Some s)) (defined p v F)
defined-Exact c m F p v s h fc fm =
    stored-Exact c (assigned m v (Some s)) (λ q u. cond (is_vreg v u) false (F q u)) p (Some s) (is_vreg v)
    (record { same = λ q u. same_write-cleared (is_vreg v u) (c q) (Some s) (m u) (F q u) (fc q) (h.same q u) })
    (λ u. same_write-defined (is_vreg v u) s (m u) (fm u))

defs-Exact : (ps : List Place) (n k : ℕ) (os : List OperandValue) (c : Cells) (m : Source) (F : Facts) → Fresh n k c → Fresh n k m → Exact c m F →
    Exact (after_writes (write_at n) ps k os c) (after_defs (write_at n) k os m) (facts_after_defs ps k os F)
unfolding after_writes after_defs facts_after_defs
defs-Exact ps n k [] c m F fc fm h = h
defs-Exact ps n k (o ∷ os) c m F fc fm h =
    defs-Exact ps n (k + 1) os _ _ _
    (chosen-Fresh (is_def o.kind) n (k + 1) _ c (stored-Fresh n k c (place_at ps k) fc) (later-Fresh n k c fc))
    (chosen-Fresh (is_def o.kind) n (k + 1) _ m (assigned-Fresh n k m o.vreg fm) (later-Fresh n k m fm))
    (chosen-Exact (is_def o.kind) _ c _ m _ F
    (defined-Exact c m F (place_at ps k) o.vreg (record { step = n; operand = k }) h (λ q. fc.fresh q k (omega arith)) (λ u. fm.fresh u k (omega arith)))
    h)

after_clobbers-Exact : (clobbers : PRegSet) (c : Cells) (m : Source) (F : Facts) → Exact c m F →
    Exact (after_clobbers clobbers (λ p. None) c) m (facts_after_clobbers clobbers F)
unfolding after_clobbers facts_after_clobbers
after_clobbers-Exact clobbers c m F h = record { same = at }
  where
    at : (p : Place) (v : VirtualRegister) → facts_of (after_clobbers clobbers (λ p. None) c) m p v ≡ facts_after_clobbers clobbers F p v
    at NoPlace v = h.same NoPlace v
    at (InRegister r) v = same_write-stored (has_register clobbers r) None (c (InRegister r)) (m v) false (F (InRegister r) v) refl (h.same (InRegister r) v)
    at (InSlot n) v = h.same (InSlot n) v

-- edges

assigned-renamed : (b : Bool) (m : Source) (x y : VirtualRegister) (z : Option Stamp) → z ≡ m y → cond b (m x) z ≡ m (cond b x y)
assigned-renamed true m x y z e = refl
assigned-renamed false m x y z e = e

passed-renamed : (ps xs : List VirtualRegister) (m after : Source) (r : VirtualRegister → VirtualRegister) → ((u : VirtualRegister) → after u ≡ m (r u)) →
    (v : VirtualRegister) → passed ps xs m after v ≡ m (renaming ps xs r v)
unfolding passed renaming
passed-renamed [] xs m after r e v = e v
passed-renamed (p ∷ ps) [] m after r e v = e v
passed-renamed (p ∷ ps) (x ∷ xs) m after r e v =
    passed-renamed ps xs m (assigned after p (m x)) (λ q. cond (is_vreg p q) x (r q)) (λ u. assigned-renamed (is_vreg p u) m x (r u) (after u) (e u)) v

-- facts read off the two maps stay exact over a step of a path: on an edge, parameters take their arguments' writes
pub over_edge-Exact : (f : FunctionValue) (l : Location) (w : Way) (c : Cells) (m : Source) (F : Facts) → Exact c m F →
    Exact c (over_edge f l w m) (facts_over_edge f l w F)
unfolding over_edge facts_over_edge
over_edge-Exact f l Onward c m F h = h
over_edge-Exact f l (ToSuccessor k) c m F h = record { same = λ p v. ap (same_write (c p)) (passed-renamed _ _ m m (λ u. u) (λ u. refl) v) ∙ h.same p _ }

-- instructions

-- facts read off the two maps stay exact over an instruction's moves and the clearing of its early definitions' places
pub early-Exact : (f : FunctionValue) (o : OutputValue) (l : Location) (c : Cells) (m : Source) (F : Facts) → Exact c m F →
    Exact (cells_early f o l c) m (facts_early f o l F)
early-Exact f o l c m F h = after_early_defs-Exact _ 0 _ _ m _ (after_moves-Exact _ c m F h)

-- facts read off the two maps, which have only writes of earlier steps, stay exact over an instruction's definitions and clobbers
pub late-Exact : (f : FunctionValue) (o : OutputValue) (l : Location) (n : ℕ) (c : Cells) (m : Source) (F : Facts) → Below n c → Below n m → Exact c m F →
    Exact (cells_late f o l n c) (after_defs (write_at n) 0 (inst_at f l.inst).operands m) (facts_late f o l F)
late-Exact f o l n c m F bc bm h = after_clobbers-Exact _ _ _ _ (defs-Exact _ n 0 _ c m F (fresh_below n c bc) (fresh_below n m bm) h)

-- an instruction's moves and the clearing of its early definitions' places bring no newer write into a place
pub early-Below : (f : FunctionValue) (o : OutputValue) (l : Location) (n : ℕ) (c : Cells) → Below n c → Below n (cells_early f o l c)
early-Below f o l n c h = after_early_defs-Below n _ 0 _ _ (after_moves-Below n _ c h)

true_early : (f : FunctionValue) (o : OutputValue) (ws : List Way) →
    Exact (cells_early f o (end_of f ws) (cells_before f o ws)) (source_before f ws) (facts_early f o (end_of f ws) (true_facts f o ws))
true_early f o ws = early-Exact f o (end_of f ws) (cells_before f o ws) (source_before f ws) (true_facts f o ws) (record { same = λ p v. refl })

true_late : AreEarlier → (f : FunctionValue) (o : OutputValue) (ws : List Way) →
    Exact (cells_late f o (end_of f ws) (length ws) (cells_early f o (end_of f ws) (cells_before f o ws))) (source_after f ws)
    (facts_after f o (end_of f ws) (true_facts f o ws))
unfolding facts_after
true_late law f o ws =
    late-Exact f o (end_of f ws) (length ws) _ (source_before f ws) _
    (early-Below f o (end_of f ws) (length ws) _ (record { below = law.cells f o ws }))
    (record { below = law.source f ws })
    (true_early f o ws)

-- a fact after one more edge or fall-through (`Way`) is decided by the facts before
pub true_facts-way : AreEarlier → (f : FunctionValue) (o : OutputValue) (w : Way) (ws : List Way) (p : Place) (v : VirtualRegister) →
    true_facts f o (w ∷ ws) p v ≡ facts_over_edge f (end_of f ws) w (facts_after f o (end_of f ws) (true_facts f o ws)) p v
unfolding cells_before source_before
true_facts-way law f o w ws p v = (over_edge-Exact f (end_of f ws) w _ _ _ (true_late law f o ws)).same p v

-- what a use finds is decided by the facts before
pub true_facts-read : AreEarlier → (f : FunctionValue) (o : OutputValue) (ws : List Way) (position : OperandPos) (p : Place) (v : VirtualRegister) →
    same_write (cell_at f o ws position p) (read_of position (source_before f ws v) (source_after f ws v)) ≡ facts_for f o (end_of f ws) position
    (true_facts f o ws) p v
unfolding facts_for
true_facts-read law f o ws Early p v = (true_early f o ws).same p v
true_facts-read law f o ws Late p v = (true_late law f o ws).same p v
