-- Each item of a listing decides a fact by one before it, or by none.
use Rattle.std.proofs.Common.{ℕ, ◌≡◌, ◌+◌, Bool, true, false, cond, List, [], ◌∷◌, refl, sym, ◌∙◌}
use Rattle.std.specs.Prelude.{◌&&◌, not}
use Rattle.regalloc2_names.specs.declared.OperandPos.{OperandPos}
use Rattle.regalloc2_names.specs.declared.OperandPos.TheVariants.{Early, Late}
use Rattle.regalloc2_names.specs.declared.sets.PRegSet.{PRegSet}
use Rattle.regalloc2_names.specs.Register.{VirtualRegister, is_vreg, has_register}
use Rattle.regalloc2_names.specs.Operand.{OperandValue, is_def, is_late}
use Rattle.regalloc2_names.specs.Place.{Place, NoPlace, InRegister, InSlot, is_place}
use Rattle.regalloc2_function.specs.FunctionValue.{FunctionValue, inst_at}
use Rattle.regalloc2_function.specs.OutputValue.{OutputValue, MoveValue, allocs_of, place_at}
use Rattle.regalloc2_semantics.specs.Runs.{Way, Onward, ToSuccessor, Location, moves_at}
use Rattle.regalloc2_checker.specs.Facts.{Facts, placed, defined, facts_after_moves, facts_after_early_defs, facts_after_defs, facts_after_clobbers}
use Rattle.regalloc2_checker.specs.Facts.{facts_over_edge, facts_early, facts_late, facts_after, facts_for, Origin, Told, Held, judged, IsTraced}
use Rattle.regalloc2_checker.specs.Facts.{FactsAreTraced}

-- leaving all facts as they are is a traced change: each is decided by itself
pub traced-same : IsTraced (λ F. F)
traced-same = record { origin = λ p v. Held p v; decides = λ F p v. refl }

-- an origin, through an earlier change
back : (Place → VirtualRegister → Origin) → Origin → Origin
back g (Told b) = Told b
back g (Held q u) = g q u

judged-back : (t : Facts → Facts) (h : IsTraced t) (x : Origin) (F : Facts) → judged x (t F) ≡ judged (back h.origin x) F
unfolding back
judged-back t h (Told b) F = refl
judged-back t h (Held q u) F = h.decides F q u

-- one change after another
pub traced-then : (t s : Facts → Facts) → IsTraced t → IsTraced s → IsTraced (λ F. s (t F))
traced-then t s h g = record { origin = λ p v. back h.origin (g.origin p v); decides = λ F p v. g.decides (t F) p v ∙ judged-back t h (g.origin p v) F }

judged-cond : (b : Bool) (x y : Origin) (F : Facts) → cond b (judged x F) (judged y F) ≡ judged (cond b x y) F
judged-cond true x y F = refl
judged-cond false x y F = refl

-- a choice between changes that the facts do not decide
pub traced-choice : (b : Bool) (t s : Facts → Facts) → IsTraced t → IsTraced s → IsTraced (λ F. cond b (t F) (s F))
traced-choice true t s h g = h
traced-choice false t s h g = g

cond-both : (b : Bool) (x x' y y' : Bool) → x ≡ x' → y ≡ y' → cond b x y ≡ cond b x' y'
cond-both true x x' y y' e d = e
cond-both false x x' y y' e d = d

-- a place gets facts that are traced
pub traced-placed : (p : Place) (x : Facts → VirtualRegister → Bool) (o : VirtualRegister → Origin) (t : Facts → Facts) →
    ((F : Facts) (v : VirtualRegister) → x F v ≡ judged (o v) F) → IsTraced t → IsTraced (λ F. placed p (x F) (t F))
unfolding placed
traced-placed NoPlace x o t e h = h
traced-placed (InRegister r) x o t e h = record {
  origin = λ q v. cond (is_place (InRegister r) q) (o v) (h.origin q v);
  decides = λ F q v. cond-both (is_place (InRegister r) q) _ _ _ _ (e F v) (h.decides F q v) ∙ judged-cond (is_place (InRegister r) q) (o v) (h.origin q v) F;
}
traced-placed (InSlot n) x o t e h = record {
  origin = λ q v. cond (is_place (InSlot n) q) (o v) (h.origin q v);
  decides = λ F q v. cond-both (is_place (InSlot n) q) _ _ _ _ (e F v) (h.decides F q v) ∙ judged-cond (is_place (InSlot n) q) (o v) (h.origin q v) F;
}

-- after a move each fact is decided by at most one before it
pub traced-move : (m : MoveValue) → IsTraced (λ F. placed m.to (F m.from) F)
traced-move m = traced-placed m.to (λ F. F m.from) (λ v. Held m.from v) (λ F. F) (λ F v. refl) traced-same

-- after a list of moves each fact is decided by at most one before them
pub traced-moves : (ms : List MoveValue) → IsTraced (facts_after_moves ms)
unfolding facts_after_moves
traced-moves [] = traced-same
traced-moves (m ∷ ms) = traced-then (λ F. placed m.to (F m.from) F) (facts_after_moves ms) (traced-move m) (traced-moves ms)

traced-emptied : (p : Place) → IsTraced (λ F. placed p (λ v. false) F)
traced-emptied p = traced-placed p (λ F v. false) (λ v. Told false) (λ F. F) (λ F v. refl) traced-same

-- once the places of early definitions are cleared, each fact is decided by at most one before
pub traced-early_defs : (ps : List Place) (k : ℕ) (os : List OperandValue) → IsTraced (facts_after_early_defs ps k os)
unfolding facts_after_early_defs
traced-early_defs ps k [] = traced-same
traced-early_defs ps k (o ∷ os) =
    traced-then (λ F. cond (is_def o.kind && not (is_late o.position)) (placed (place_at ps k) (λ v. false) F) F) (facts_after_early_defs ps (k + 1) os)
    (traced-choice (is_def o.kind && not (is_late o.position)) (λ F. placed (place_at ps k) (λ v. false) F) (λ F. F) (traced-emptied (place_at ps k))
    traced-same)
    (traced-early_defs ps (k + 1) os)

-- after one vreg is defined in a place, each fact is decided by at most one before
pub traced-defined : (p : Place) (v : VirtualRegister) → IsTraced (defined p v)
traced-defined p v = traced-placed p (λ F. is_vreg v) (λ u. Told (is_vreg v u)) (λ F q u. cond (is_vreg v u) false (F q u)) (λ F u. refl) (record {
  origin = λ q u. cond (is_vreg v u) (Told false) (Held q u);
  decides = λ F q u. judged-cond (is_vreg v u) (Told false) (Held q u) F;
})

-- after all definitions of an instruction each fact is decided by at most one before them
pub traced-defs : (ps : List Place) (k : ℕ) (os : List OperandValue) → IsTraced (facts_after_defs ps k os)
unfolding facts_after_defs
traced-defs ps k [] = traced-same
traced-defs ps k (o ∷ os) =
    traced-then (λ F. cond (is_def o.kind) (defined (place_at ps k) o.vreg F) F) (facts_after_defs ps (k + 1) os)
    (traced-choice (is_def o.kind) (defined (place_at ps k) o.vreg) (λ F. F) (traced-defined (place_at ps k) o.vreg) traced-same)
    (traced-defs ps (k + 1) os)

-- once the clobbered registers are cleared, each fact is decided by at most one before
pub traced-clobbers : (clobbers : PRegSet) → IsTraced (facts_after_clobbers clobbers)
unfolding facts_after_clobbers
traced-clobbers clobbers = record { origin = origin; decides = decides }
  where
    origin : Place → VirtualRegister → Origin
    origin NoPlace v = Held NoPlace v
    origin (InRegister r) v = cond (has_register clobbers r) (Told false) (Held (InRegister r) v)
    origin (InSlot n) v = Held (InSlot n) v

    decides : (F : Facts) (p : Place) (v : VirtualRegister) → facts_after_clobbers clobbers F p v ≡ judged (origin p v) F
    decides F NoPlace v = refl
    decides F (InRegister r) v = judged-cond (has_register clobbers r) (Told false) (Held (InRegister r) v) F
    decides F (InSlot n) v = refl

-- over a step of a path, where an edge renames parameters to arguments, each fact is decided by at most one before
pub traced-edge : (f : FunctionValue) (l : Location) (w : Way) → IsTraced (facts_over_edge f l w)
unfolding facts_over_edge
traced-edge f l Onward = traced-same
traced-edge f l (ToSuccessor k) = record { origin = λ p v. Held p _; decides = λ F p v. refl }

-- where early uses are read, each fact is decided by at most one before the instruction's moves
pub traced-early : (f : FunctionValue) (o : OutputValue) (l : Location) → IsTraced (facts_early f o l)
traced-early f o l = traced-then (facts_after_moves (moves_at f o l)) (facts_after_early_defs (allocs_of o l.inst) 0 (inst_at f l.inst).operands)
    (traced-moves _) (traced-early_defs _ _ _)

-- after an instruction's definitions and clobbers, each fact is decided by at most one where early uses are read
pub traced-late : (f : FunctionValue) (o : OutputValue) (l : Location) → IsTraced (facts_late f o l)
traced-late f o l = traced-then (facts_after_defs (allocs_of o l.inst) 0 (inst_at f l.inst).operands) (facts_after_clobbers (inst_at f l.inst).clobbers)
    (traced-defs _ _ _) (traced-clobbers _)

-- after an instruction each fact is decided by at most one before its moves
pub traced-after : (f : FunctionValue) (o : OutputValue) (l : Location) → IsTraced (facts_after f o l)
unfolding facts_after
traced-after f o l = traced-then (facts_early f o l) (facts_late f o l) (traced-early f o l) (traced-late f o l)

-- where the uses of a given position are read, each fact is decided by at most one before the instruction's moves
pub traced-for : (f : FunctionValue) (o : OutputValue) (l : Location) (position : OperandPos) → IsTraced (facts_for f o l position)
unfolding facts_for
traced-for f o l Early = traced-early f o l
traced-for f o l Late = traced-after f o l

-- what a traced change keeps

judged-same : (x : Origin) (F G : Facts) → ((p : Place) (v : VirtualRegister) → F p v ≡ G p v) → judged x F ≡ judged x G
judged-same (Told b) F G e = refl
judged-same (Held q u) F G e = e q u

-- equal facts before a change are equal facts after it
pub change-same : (t : Facts → Facts) → IsTraced t → (F G : Facts) → ((p : Place) (v : VirtualRegister) → F p v ≡ G p v) → (p : Place) (v : VirtualRegister) →
    t F p v ≡ t G p v
change-same t h F G e p v = h.decides F p v ∙ judged-same (h.origin p v) F G e ∙ sym (h.decides G p v)

judged-fewer : (x : Origin) (F G : Facts) → ((p : Place) (v : VirtualRegister) → F p v ≡ true → G p v ≡ true) → judged x F ≡ true → judged x G ≡ true
judged-fewer (Told b) F G e h = h
judged-fewer (Held q u) F G e h = e q u h

-- fewer facts before, fewer facts after
pub change-fewer : (t : Facts → Facts) → IsTraced t → (F G : Facts) → ((p : Place) (v : VirtualRegister) → F p v ≡ true → G p v ≡ true) →
    (p : Place) (v : VirtualRegister) → t F p v ≡ true → t G p v ≡ true
change-fewer t h F G e p v y = h.decides G p v ∙ judged-fewer (h.origin p v) F G e (sym (h.decides F p v) ∙ y)

-- the whole transfer is traced: at moves, where uses are read, and from an instruction on to the next or over an edge
pub facts_are_traced : FactsAreTraced
facts_are_traced = record {
  move = traced-move;
  uses = traced-for;
  onward = λ f o l w. traced-then (facts_after f o l) (facts_over_edge f l w) (traced-after f o l) (traced-edge f l w);
}
