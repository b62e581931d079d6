-- A place or vreg that holds a write holds the number of the write.
use Rattle.std.proofs.Common.{ℕ, ◌≡◌, ◌+◌, ◌<◌, Bool, true, false, cond, None, Some, List, [], ◌∷◌, refl, sym, ap, arith, nat_eq, eq-eqb, subst, ◌∙◌}
use Rattle.std.specs.Prelude.{Option, ◌&&◌, not}
use Rattle.regalloc2_names.specs.Register.{VirtualRegister, is_vreg, has_register}
use Rattle.regalloc2_names.specs.declared.sets.PRegSet.{PRegSet}
use Rattle.regalloc2_names.specs.Operand.{OperandValue, is_def, is_late}
use Rattle.regalloc2_names.specs.Place.{Place, NoPlace, InRegister, InSlot, is_place}
use Rattle.regalloc2_function.specs.FunctionValue.{FunctionValue}
use Rattle.regalloc2_function.specs.OutputValue.{MoveValue, place_at}
use Rattle.regalloc2_semantics.specs.Runs.{Way, Onward, ToSuccessor, Location, Stamp, assigned, after_defs, passed, over_edge, stored, write_at}
use Rattle.regalloc2_semantics.specs.Runs.{after_moves, after_early_defs, after_writes, after_clobbers}
use Rattle.regalloc2_semantics.specs.Laws.{Cells, Source}

-- which number a write made
abbrev pub Value : Type 1
Value = Stamp → ℕ → Type 0

-- each place that holds a write has a number that it made
abbrev pub Stands : Value → Cells → (Place → ℕ) → Type 0
Stands R c m = (p : Place) (s : Stamp) → c p ≡ Some s → R s (m p)

-- each vreg that holds a write has a number that it made
abbrev pub HoldNumbers : Value → Source → (VirtualRegister → ℕ) → Type 0
HoldNumbers R c m = (v : VirtualRegister) (s : Stamp) → c v ≡ Some s → R s (m v)

-- one of two, chosen by a test
chosen : (R : Value) (b : Bool) (x y : Option Stamp) (n k : ℕ) (s : Stamp) → ((t : Stamp) → x ≡ Some t → R t n) → ((t : Stamp) → y ≡ Some t → R t k) →
    cond b x y ≡ Some s → R s (cond b n k)
chosen R true x y n k s h g e = h s e
chosen R false x y n k s h g e = g s e

-- None is no write
none_stands : (R : Value) (n : ℕ) (t : Stamp) → ◌≡◌ {A = Option Stamp} None (Some t) → R t n
none_stands R n t e = absurd cc

-- a place takes a write and its number
set_stands : (R : Value) (c : Cells) (m : Place → ℕ) (to : Place) (x : Option Stamp) (n : ℕ) → Stands R c m → ((t : Stamp) → x ≡ Some t → R t n) →
    Stands R (stored c to x) (stored m to n)
unfolding stored
set_stands R c m NoPlace x n h g = h
set_stands R c m (InRegister r) x n h g = λ q s e. chosen R (is_place (InRegister r) q) x (c q) n (m q) s g (h q) e
set_stands R c m (InSlot k) x n h g = λ q s e. chosen R (is_place (InSlot k) q) x (c q) n (m q) s g (h q) e

pub moves_stand : (R : Value) (es : List MoveValue) (c : Cells) (m : Place → ℕ) → Stands R c m → Stands R (after_moves es c) (after_moves es m)
unfolding after_moves
moves_stand R [] c m h = h
moves_stand R (e ∷ es) c m h = moves_stand R es _ _ (set_stands R c m e.to (c e.from) (m e.from) h (h e.from))

pub early_stand : (R : Value) (noise : Place → ℕ) (places : List Place) (k : ℕ) (os : List OperandValue) (c : Cells) (m : Place → ℕ) → Stands R c m →
    Stands R (after_early_defs (λ p. None) places k os c) (after_early_defs noise places k os m)
unfolding after_early_defs
early_stand R noise places k [] c m h = h
early_stand R noise places k (o ∷ os) c m h = early_stand R noise places (k + 1) os _ _ (pick (is_def o.kind && not (is_late o.position)))
  where
    pick : (b : Bool) → Stands R (cond b (stored c (place_at places k) None) c) (cond b (stored m (place_at places k) (noise (place_at places k))) m)
    pick true = set_stands R c m (place_at places k) None _ h (none_stands R _)
    pick false = h

-- the write of an operand, and its number
one : (R : Value) (step k n : ℕ) → R (record { step = step; operand = k }) n → (t : Stamp) →
    ◌≡◌ {A = Option Stamp} (Some (record { step = step; operand = k })) (Some t) → R t n
one R step k n g t e = let i : ◌≡◌ {A = Stamp} (record { step = step; operand = k }) t = cc in subst (λ (x : Stamp). R x n) i g

pub writes_stand : (R : Value) (written : ℕ → ℕ) (places : List Place) (step k : ℕ) (os : List OperandValue) (c : Cells) (m : Place → ℕ) →
    ((j : ℕ) → R (record { step = step; operand = j }) (written j)) → Stands R c m →
    Stands R (after_writes (write_at step) places k os c) (after_writes written places k os m)
unfolding after_writes
writes_stand R written places step k [] c m g h = h
writes_stand R written places step k (o ∷ os) c m g h = writes_stand R written places step (k + 1) os _ _ g (pick (is_def o.kind))
  where
    pick : (b : Bool) → Stands R (cond b (stored c (place_at places k) (Some (record { step = step; operand = k }))) c)
        (cond b (stored m (place_at places k) (written k)) m)
    pick true = set_stands R c m (place_at places k) _ (written k) h (one R step k (written k) (g k))
    pick false = h

pub clobbers_stand : (R : Value) (set : PRegSet) (noise : Place → ℕ) (c : Cells) (m : Place → ℕ) → Stands R c m →
    Stands R (after_clobbers set (λ p. None) c) (after_clobbers set noise m)
unfolding after_clobbers
clobbers_stand R set noise c m h NoPlace s e = h NoPlace s e
clobbers_stand R set noise c m h (InRegister r) s e = chosen R (has_register set r) None (c (InRegister r)) (noise (InRegister r)) (m (InRegister r)) s
    (none_stands R _) (h (InRegister r)) e
clobbers_stand R set noise c m h (InSlot n) s e = h (InSlot n) s e

-- a vreg takes a write and its number
assigned_hold : (R : Value) (c : Source) (m : VirtualRegister → ℕ) (v : VirtualRegister) (x : Option Stamp) (n : ℕ) → HoldNumbers R c m →
    ((t : Stamp) → x ≡ Some t → R t n) → HoldNumbers R (assigned c v x) (assigned m v n)
assigned_hold R c m v x n h g q s e = chosen R (is_vreg v q) x (c q) n (m q) s g (h q) e

pub defs_hold : (R : Value) (written : ℕ → ℕ) (step k : ℕ) (os : List OperandValue) (c : Source) (m : VirtualRegister → ℕ) →
    ((j : ℕ) → R (record { step = step; operand = j }) (written j)) → HoldNumbers R c m → HoldNumbers R (after_defs (write_at step) k os c) (after_defs written k os m)
unfolding after_defs
defs_hold R written step k [] c m g h = h
defs_hold R written step k (o ∷ os) c m g h = defs_hold R written step (k + 1) os _ _ g (pick (is_def o.kind))
  where
    pick : (b : Bool) → HoldNumbers R (cond b (assigned c o.vreg (Some (record { step = step; operand = k }))) c) (cond b (assigned m o.vreg (written k)) m)
    pick true = assigned_hold R c m o.vreg _ (written k) h (one R step k (written k) (g k))
    pick false = h

passed_hold : (R : Value) (ps arguments : List VirtualRegister) (before after : Source) (b a : VirtualRegister → ℕ) → HoldNumbers R before b → HoldNumbers R after a →
    HoldNumbers R (passed ps arguments before after) (passed ps arguments b a)
unfolding passed
passed_hold R [] arguments before after b a h g = g
passed_hold R (p ∷ ps) [] before after b a h g = g
passed_hold R (p ∷ ps) (x ∷ rest) before after b a h g = passed_hold R ps rest before _ b _ h (assigned_hold R after a p (before x) (b x) g (h x))

pub edge_holds : (R : Value) (f : FunctionValue) (l : Location) (w : Way) (c : Source) (m : VirtualRegister → ℕ) → HoldNumbers R c m →
    HoldNumbers R (over_edge f l w c) (over_edge f l w m)
unfolding over_edge
edge_holds R f l Onward c m h = h
edge_holds R f l (ToSuccessor k) c m h = passed_hold R _ _ c c m m h h

-- a write of an earlier step, and its number
abbrev pub Made : ℕ → (Stamp → ℕ) → Value
Made n number s k = (s.step < n) × (k ≡ number s)

-- one step more: the writes of the last step have new numbers
abbrev pub more : ℕ → (ℕ → ℕ) → (Stamp → ℕ) → Stamp → ℕ
more n written number s = cond (nat_eq s.step n) (written s.operand) (number s)

apart : (b : Bool) (m n : ℕ) → nat_eq m n ≡ b → m < n → b ≡ false
apart true m n e l = absurd (omega (arith, Rattle.std.proofs.Common.eqb-true m n e, l))
apart false m n e l = refl

pub still : (n : ℕ) (written : ℕ → ℕ) (number : Stamp → ℕ) (s : Stamp) (k : ℕ) → Made n number s k → Made (n + 1) (more n written number) s k
still n written number s k h = (omega (arith, h.0), h.1 ∙ sym (rw (apart (nat_eq s.step n) s.step n refl h.0) refl))

pub newest : (n : ℕ) (written : ℕ → ℕ) (number : Stamp → ℕ) (j : ℕ) → Made (n + 1) (more n written number) (record { step = n; operand = j }) (written j)
newest n written number j = (omega arith, rw (eq-eqb n n refl) refl)

-- a write of an earlier step that is found after a step's definitions was there before them
older : (b : Bool) (step k : ℕ) (x : Option Stamp) (s : Stamp) → s.step < step → cond b (Some (record { step = step; operand = k })) x ≡ Some s → x ≡ Some s
older true step k x s l e = let i : ◌≡◌ {A = Stamp} (record { step = step; operand = k }) s = cc in
    let j : step ≡ s.step = ap (λ (t : Stamp). t.step) i in absurd (omega (arith, l, j))
older false step k x s l e = e

pub before_defs : (step k : ℕ) (os : List OperandValue) (c : Source) (v : VirtualRegister) (s : Stamp) → s.step < step → after_defs (write_at step) k os c v ≡ Some s →
    c v ≡ Some s
unfolding after_defs
before_defs step k [] c v s l e = e
before_defs step k (o ∷ os) c v s l e = pick (is_def o.kind) (before_defs step (k + 1) os _ v s l e)
  where
    pick : (b : Bool) → (cond b (assigned c o.vreg (Some (record { step = step; operand = k }))) c) v ≡ Some s → c v ≡ Some s
    pick true g = older (is_vreg o.vreg v) step k (c v) s l g
    pick false g = g

before_store : (step k : ℕ) (c : Cells) (to p : Place) (s : Stamp) → s.step < step → stored c to (Some (record { step = step; operand = k })) p ≡ Some s →
    c p ≡ Some s
unfolding stored
before_store step k c NoPlace p s l e = e
before_store step k c (InRegister r) p s l e = older (is_place (InRegister r) p) step k (c p) s l e
before_store step k c (InSlot n) p s l e = older (is_place (InSlot n) p) step k (c p) s l e

pub before_writes : (places : List Place) (step k : ℕ) (os : List OperandValue) (c : Cells) (p : Place) (s : Stamp) → s.step < step →
    after_writes (write_at step) places k os c p ≡ Some s → c p ≡ Some s
unfolding after_writes
before_writes places step k [] c p s l e = e
before_writes places step k (o ∷ os) c p s l e = pick (is_def o.kind) (before_writes places step (k + 1) os _ p s l e)
  where
    pick : (b : Bool) → (cond b (stored c (place_at places k) (Some (record { step = step; operand = k }))) c) p ≡ Some s → c p ≡ Some s
    pick true g = before_store step k c (place_at places k) p s l g
    pick false g = g

-- a place that holds a write after the clobbers held it before them
pub before_clobbers : (set : PRegSet) (c : Cells) (p : Place) (s : Stamp) → after_clobbers set (λ p. None) c p ≡ Some s → c p ≡ Some s
unfolding after_clobbers
before_clobbers set c NoPlace s e = e
before_clobbers set c (InRegister r) s e = pick (has_register set r) e
  where
    pick : (b : Bool) → cond b None (c (InRegister r)) ≡ Some s → c (InRegister r) ≡ Some s
    pick true e = absurd cc
    pick false e = e
before_clobbers set c (InSlot n) s e = e
