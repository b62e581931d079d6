-- What is left of a list of moves, operands or parameters after one more.
use Rattle.std.proofs.Common.{◌≡◌, ℕ, suc, ◌+◌, ◌-◌, ◌<◌, ◌≤◌, List, [], ◌∷◌, ◌++◌, Bool, length, get_or, take, drop, map, refl, sym, ap, ◌∙◌, subst, arith}
use Rattle.std.proofs.Common.{cond, true, false, inl, inr, zero}
use Rattle.std.specs.Prelude.{◌&&◌, ◌⊎◌, not, min, Contains, All}
use Rattle.std.specs.declared.vec.Vec.{Vec}
use Rattle.std.proofs.Math.Seq.{drop-cons}
use Rattle.std.proofs.Math.ListN.{length-append}
use Rattle.std.proofs.lemmas.List.{drop_all, get_or_default, get_or_append_left, get_or-append_right, take_more}
use Rattle.std.proofs.lemmas.Bool.{cases_lt}
use Rattle.regalloc2_names.specs.Register.{VirtualRegister, Register, is_vreg, has_register}
use Rattle.regalloc2_names.specs.Listed.{IsWalkOf}
use Rattle.regalloc2_names.specs.declared.sets.PRegSet.{PRegSet}
use Rattle.regalloc2_names.specs.Place.{Place, NoPlace, InRegister, InSlot, is_place}
use Rattle.regalloc2_names.specs.Operand.{OperandValue, is_def, is_late}
use Rattle.regalloc2_function.specs.declared.listing.Edit.{Edit}
use Rattle.regalloc2_checker.specs.Listing.{listed_move}
use Rattle.regalloc2_function.specs.OutputValue.{MoveValue, place_at}
use Rattle.regalloc2_checker.specs.Facts.{Facts, placed, defined, facts_after_moves, facts_after_early_defs, facts_after_defs, facts_after_clobbers, renaming}
use Rattle.regalloc2_checker.specs.Renamed.{facts_renamed, HoldersAre, AreHoldersOf, TakesArgument, AreOthersKept, facts_forgotten, facts_without}
use Rattle.regalloc2_checker.specs.TableFacts.{IsListed, IsListedVReg}
use Rattle.regalloc2_names.specs.Same.{is_register-true, is_register-same}
use Rattle.regalloc2_checker.proofs.TableSteps.{one-facts}

drop_at : (ms : List (ℕ × Edit)) (k : ℕ) (e : ℕ × Edit) → k < length ms → e ≡ get_or ms k e → drop k ms ≡ e ∷ drop (k + 1) ms
drop_at ms k e l is =
    let s : suc k ≡ k + 1 = omega arith in
    rw (← s) (drop-cons ms k e l ∙ ap (λ (x : ℕ × Edit). x ∷ drop (suc k) ms) (sym is))

-- the effect of the moves from the k-th on is the effect of the k-th, then of the moves after it
pub moves_step : (ms : List (ℕ × Edit)) (k : ℕ) (e : ℕ × Edit) (F G : Facts) → k < length ms → e ≡ get_or ms k e →
    G ≡ placed (listed_move e).to (F (listed_move e).from) F →
    facts_after_moves (map listed_move (drop k ms)) F ≡ facts_after_moves (map listed_move (drop (k + 1) ms)) G
unfolding facts_after_moves
moves_step ms k e F G l is h =
    ap (λ (xs : List (ℕ × Edit)). facts_after_moves (map listed_move xs) F) (drop_at ms k e l is)
    ∙ ap (λ (x : Facts). facts_after_moves (map listed_move (drop (k + 1) ms)) x) (sym h)

-- past the last move the facts are what they are
pub moves_done : (ms : List (ℕ × Edit)) (k : ℕ) (F : Facts) → length ms ≤ k → facts_after_moves (map listed_move (drop k ms)) F ≡ F
unfolding facts_after_moves
moves_done ms k F l = let e : drop k ms ≡ [] = drop_all k ms l in rw e refl

-- clearing early definitions' places from operand k on clears the place of operand k, if it is one, then the places of the operands after
-- it
pub early_step : (places : List Place) (os : List OperandValue) (k : ℕ) (o : OperandValue) (F G : Facts) → k < length os → o ≡ get_or os k o →
    G ≡ cond (is_def o.kind && not (is_late o.position)) (placed (place_at places k) (λ v. false) F) F →
    facts_after_early_defs places k (drop k os) F ≡ facts_after_early_defs places (k + 1) (drop (k + 1) os) G
unfolding facts_after_early_defs
early_step places os k o F G l is e =
    let split : drop k os ≡ get_or os k o ∷ drop (suc k) os = drop-cons os k o l in
    let s : suc k ≡ k + 1 = omega arith in
    rw (split, s, ← is, e) refl

-- past the last operand no place of an early definition is left to clear
pub early_done : (places : List Place) (os : List OperandValue) (k : ℕ) (F : Facts) → length os ≤ k → facts_after_early_defs places k (drop k os) F ≡ F
unfolding facts_after_early_defs
early_done places os k F l = let e : drop k os ≡ [] = drop_all k os l in rw e refl

-- the definitions from operand k on are the definition of operand k, if it is one, then the definitions after it
pub defs_step : (places : List Place) (os : List OperandValue) (k : ℕ) (o : OperandValue) (F G : Facts) → k < length os → o ≡ get_or os k o →
    G ≡ cond (is_def o.kind) (defined (place_at places k) o.vreg F) F →
    facts_after_defs places k (drop k os) F ≡ facts_after_defs places (k + 1) (drop (k + 1) os) G
unfolding facts_after_defs
defs_step places os k o F G l is e =
    let split : drop k os ≡ get_or os k o ∷ drop (suc k) os = drop-cons os k o l in
    let s : suc k ≡ k + 1 = omega arith in
    rw (split, s, ← is, e) refl

-- past the last operand nothing is left to define
pub defs_done : (places : List Place) (os : List OperandValue) (k : ℕ) (F : Facts) → length os ≤ k → facts_after_defs places k (drop k os) F ≡ F
unfolding facts_after_defs
defs_done places os k F l = let e : drop k os ≡ [] = drop_all k os l in rw e refl

-- the first k parameters took what their arguments had: what each vreg has now one had before, but for parameters that are still to take
-- theirs
pub record AreRenamedTo (params arguments : List VirtualRegister) (k : ℕ) (F G : Facts) : Type 0 where
  pub before : VirtualRegister → VirtualRegister
  pub same : (p : Place) (v : VirtualRegister) → (G p v ≡ F p (before v)) ⊎ TakesArgument (drop k params) (drop k arguments) v
  pub rest : (v : VirtualRegister) → renaming (drop k params) (drop k arguments) before v ≡ renaming params arguments (λ u. u) v

-- one more vreg is taken out
pub forgotten-more : (us : List VirtualRegister) (u : VirtualRegister) (F : Facts) →
    facts_without (us ++ u ∷ []) F ≡ facts_forgotten u (facts_without us F)
unfolding facts_without
forgotten-more [] u F = refl
forgotten-more (w ∷ us) u F = forgotten-more us u (facts_forgotten w F)

-- none is taken out
pub without-none : (ps : List VirtualRegister) (F : Facts) → F ≡ facts_without (take 0 ps) F
unfolding facts_without
without-none ps F = refl

-- one more member of a list is taken out
pub without-more : (ps : List VirtualRegister) (k : ℕ) (x : VirtualRegister) (F G H : Facts) → k < length ps → x ≡ get_or ps k x →
    G ≡ facts_without (take k ps) F → H ≡ facts_forgotten x G → H ≡ facts_without (take (k + 1) ps) F
without-more ps k x F G H l is g h =
    let one : take k ps ++ x ∷ [] ≡ take (k + 1) ps = ap (λ y. take k ps ++ y ∷ []) is ∙ sym (take_more ps k x l) in
    h ∙ ap (facts_forgotten x) g ∙ sym (forgotten-more (take k ps) x F) ∙ ap (λ (us : List VirtualRegister). facts_without us F) one

-- none did
pub renamed_none : (params arguments : List VirtualRegister) (F G : Facts) → AreOthersKept params arguments F G → AreRenamedTo params arguments 0 F G
renamed_none params arguments F G h = record { before = λ u. u; same = h; rest = λ v. refl }

-- a vreg is renamed as what it would be otherwise says
renaming-at : (ps as' : List VirtualRegister) (r s : VirtualRegister → VirtualRegister) (v : VirtualRegister) → r v ≡ s v →
    renaming ps as' r v ≡ renaming ps as' s v
unfolding renaming
renaming-at [] as' r s v e = e
renaming-at (p ∷ ps) [] r s v e = e
renaming-at (p ∷ ps) (a ∷ as') r s v e =
    renaming-at ps as' (λ q. cond (is_vreg p q) a (r q)) (λ q. cond (is_vreg p q) a (s q)) v (ap (λ u. cond (is_vreg p v) a u) e)

-- a parameter that has an argument takes it
pub takes-at : (ps as' : List VirtualRegister) (k : ℕ) (p v : VirtualRegister) → k < length ps → k < length as' → p ≡ get_or ps k p → is_vreg p v ≡ true →
    TakesArgument ps as' v
unfolding renaming
takes-at [] as' k p v lp la ip is r s = absurd (omega arith)
takes-at (q ∷ ps) [] k p v lp la ip is r s = absurd (omega arith)
takes-at (q ∷ ps) (a ∷ as') zero p v lp la ip is r s =
    let h : is_vreg q v ≡ true = ap (λ x. is_vreg x v) (sym ip) ∙ is in
    renaming-at ps as' (λ u. cond (is_vreg q u) a (r u)) (λ u. cond (is_vreg q u) a (s u)) v
    (ap (λ b. cond b a (r v)) h ∙ sym (ap (λ b. cond b a (s v)) h))
takes-at (q ∷ ps) (a ∷ as') (suc k) p v lp la ip is r s =
    takes-at ps as' k p v (omega arith) (omega arith) ip is (λ u. cond (is_vreg q u) a (r u)) (λ u. cond (is_vreg q u) a (s u))

-- nothing is changed yet
pub others-kept : (params arguments : List VirtualRegister) (F : Facts) → AreOthersKept params arguments F F
others-kept params arguments F p v = inl refl

-- one more parameter is forgotten
pub others-more : (params arguments : List VirtualRegister) (k : ℕ) (p : VirtualRegister) (F G H : Facts) → k < length params → k < length arguments →
    p ≡ get_or params k p → ((q : Place) (v : VirtualRegister) → is_vreg p v ≡ false → H q v ≡ G q v) → AreOthersKept params arguments F G →
    AreOthersKept params arguments F H
others-more params arguments k p F G H lp la ip h o q v = by_test (is_vreg p v) refl (o q v)
  where
    by_test : (b : Bool) → is_vreg p v ≡ b → (G q v ≡ F q v) ⊎ TakesArgument params arguments v → (H q v ≡ F q v) ⊎ TakesArgument params arguments v
    by_test true is x = inr (takes-at params arguments k p v lp la ip is)
    by_test false is (inl e) = inl (h q v is ∙ e)
    by_test false is (inr t) = inr t

renaming_step : (ps as' : List VirtualRegister) (k : ℕ) (p a : VirtualRegister) (r : VirtualRegister → VirtualRegister) (v : VirtualRegister) →
    k < length ps → k < length as' → p ≡ get_or ps k p → a ≡ get_or as' k a →
    renaming (drop k ps) (drop k as') r v ≡ renaming (drop (k + 1) ps) (drop (k + 1) as') (λ q. cond (is_vreg p q) a (r q)) v
unfolding renaming
renaming_step ps as' k p a r v lp la ip ia =
    let x : drop k ps ≡ get_or ps k p ∷ drop (suc k) ps = drop-cons ps k p lp in
    let y : drop k as' ≡ get_or as' k a ∷ drop (suc k) as' = drop-cons as' k a la in
    let s : suc k ≡ k + 1 = omega arith in
    rw (x, y, s, ← ip, ← ia) refl

-- one more did
pub renamed_more : (params arguments : List VirtualRegister) (k : ℕ) (p a : VirtualRegister) (F G H : Facts) → k < length params → k < length arguments →
    p ≡ get_or params k p → a ≡ get_or arguments k a →
    ((q : Place) (v : VirtualRegister) → H q v ≡ cond (is_vreg p v) (F q a) (G q v)) → AreRenamedTo params arguments k F G →
    AreRenamedTo params arguments (k + 1) F H
renamed_more params arguments k p a F G H lp la ip ia h r = record {
  before = λ q. cond (is_vreg p q) a (r.before q);
  same = λ q v. by_test q v (is_vreg p v) refl (r.same q v);
  rest = λ v. sym (renaming_step params arguments k p a r.before v lp la ip ia) ∙ r.rest v;
}
  where
    later : (v : VirtualRegister) → is_vreg p v ≡ false → TakesArgument (drop k params) (drop k arguments) v →
        TakesArgument (drop (k + 1) params) (drop (k + 1) arguments) v
    later v not t x y =
        renaming-at (drop (k + 1) params) (drop (k + 1) arguments) x (λ q. cond (is_vreg p q) a (x q)) v (sym (ap (λ b. cond b a (x v)) not))
        ∙ sym (renaming_step params arguments k p a x v lp la ip ia) ∙ t x y ∙ renaming_step params arguments k p a y v lp la ip ia
        ∙ renaming-at (drop (k + 1) params) (drop (k + 1) arguments) (λ q. cond (is_vreg p q) a (y q)) y v (ap (λ b. cond b a (y v)) not)

    by_test : (q : Place) (v : VirtualRegister) (b : Bool) → is_vreg p v ≡ b →
        (G q v ≡ F q (r.before v)) ⊎ TakesArgument (drop k params) (drop k arguments) v →
        (H q v ≡ F q (cond (is_vreg p v) a (r.before v))) ⊎ TakesArgument (drop (k + 1) params) (drop (k + 1) arguments) v
    by_test q v true is x =
        inl (h q v ∙ ap (λ b. cond b (F q a) (G q v)) is ∙ sym (ap (λ b. F q (cond b a (r.before v))) is))
    by_test q v false is (inl e) =
        inl (h q v ∙ ap (λ b. cond b (F q a) (G q v)) is ∙ e ∙ sym (ap (λ b. F q (cond b a (r.before v))) is))
    by_test q v false is (inr t) = inr (later v is t)

-- a number that is at least the smaller of two is at least one of them
either_short : (a b k : ℕ) → min a b ≤ k → (a ≤ k) ⊎ (b ≤ k)
either_short a b k h = elim (cases_lt k a) [ inl l ↦ inr (omega arith) | inr l ↦ inl l ]

renaming_none : (ps : List VirtualRegister) (r : VirtualRegister → VirtualRegister) (v : VirtualRegister) → renaming ps [] r v ≡ r v
unfolding renaming
renaming_none [] r v = refl
renaming_none (p ∷ ps) r v = refl

renaming_done : (ps as' : List VirtualRegister) (k : ℕ) (r : VirtualRegister → VirtualRegister) (v : VirtualRegister) → (length ps ≤ k) ⊎ (length as' ≤ k) →
    renaming (drop k ps) (drop k as') r v ≡ r v
unfolding renaming
renaming_done ps as' k r v (inl h) = let e : drop k ps ≡ [] = drop_all k ps h in rw e refl
renaming_done ps as' k r v (inr h) = let e : drop k as' ≡ [] = drop_all k as' h in rw e (renaming_none (drop k ps) r v)

-- no vreg takes an argument where none is left
takes-none : (ps as' : List VirtualRegister) (k : ℕ) (v : VirtualRegister) → (length ps ≤ k) ⊎ (length as' ≤ k) → TakesArgument (drop k ps) (drop k as') v → ⊥
takes-none ps as' k v short t =
    let next : VirtualRegister = record { number = v.number + 1; class = v.class } in
    let e : v ≡ next =
    sym (renaming_done ps as' k (λ u. u) v short) ∙ t (λ u. u) (λ u. next) ∙ renaming_done ps as' k (λ u. next) v short in
    let n : v.number ≡ v.number + 1 = ap (λ (u : VirtualRegister). u.number) e in
    omega arith

-- all did
pub renamed_all : (params arguments : List VirtualRegister) (k : ℕ) (F G : Facts) → min (length params) (length arguments) ≤ k →
    AreRenamedTo params arguments k F G → G ≡ facts_renamed params arguments F
renamed_all params arguments k F G h r = one-facts G (facts_renamed params arguments F) (λ p v. by p v (r.same p v))
  where
    short : (length params ≤ k) ⊎ (length arguments ≤ k)
    short = either_short _ _ k h

    by : (p : Place) (v : VirtualRegister) → (G p v ≡ F p (r.before v)) ⊎ TakesArgument (drop k params) (drop k arguments) v →
        G p v ≡ facts_renamed params arguments F p v
    by p v (inl e) = e ∙ ap (F p) (sym (renaming_done params arguments k r.before v short) ∙ r.rest v)
    by p v (inr t) = absurd (takes-none params arguments k v short t)

-- the registers of a list are emptied
unfoldable pub emptied : List Register → Facts → Facts
emptied [] F = F
emptied (r ∷ rs) F = emptied rs (placed (InRegister r) (λ v. false) F)

-- clearing no registers leaves the facts
pub emptied_none : (F : Facts) → emptied [] F ≡ F
unfolding emptied
emptied_none F = refl

-- clearing a list of registers with one more at its end clears the list, then the last register
pub emptied_more : (rs : List Register) (r : Register) (F : Facts) → emptied (rs ++ (r ∷ [])) F ≡ placed (InRegister r) (λ v. false) (emptied rs F)
unfolding emptied
emptied_more [] r F = refl
emptied_more (x ∷ rs) r F = emptied_more rs r (placed (InRegister x) (λ v. false) F)

elsewhere : (rs : List Register) (F : Facts) (q : Place) (v : VirtualRegister) → ((r : Register) → is_place (InRegister r) q ≡ false) →
    emptied rs F q v ≡ F q v
unfolding emptied placed
elsewhere [] F q v h = refl
elsewhere (r ∷ rs) F q v h = elsewhere rs _ q v h ∙ ap (λ b. cond b false (F q v)) (h r)

later : (x y : Register) (xs : List Register) → Contains xs x → Contains (y ∷ xs) x
later x y xs (k, less, at) = (suc k, omega arith, at)

gone : (rs : List Register) (F : Facts) (r : Register) (v : VirtualRegister) → F (InRegister r) v ≡ false → emptied rs F (InRegister r) v ≡ false
unfolding emptied placed
gone [] F r v h = h
gone (x ∷ rs) F r v h = gone rs _ r v (elim (is_place (InRegister x) (InRegister r)) as (λ b. cond b false (F (InRegister r) v) ≡ false)
    [ true ↦ refl | false ↦ h ])

listed_gone : (rs : List Register) (F : Facts) (r : Register) (v : VirtualRegister) → Contains rs r → emptied rs F (InRegister r) v ≡ false
unfolding emptied placed
listed_gone [] F r v (k, less, at) = absurd (omega arith)
listed_gone (x ∷ rs) F r v (zero, less, at) =
    let e : x ≡ r = at in
    gone rs _ r v (ap (λ b. cond b false (F (InRegister r) v))
    (subst (λ (y : Register). is_place (InRegister x) (InRegister y) ≡ true) e (is_register-same x)))
listed_gone (x ∷ rs) F r v (suc k, less, at) = listed_gone rs _ r v (k, omega arith, at)

unlisted_stays : (rs : List Register) (F : Facts) (r : Register) (v : VirtualRegister) → (Contains rs r → ⊥) →
    emptied rs F (InRegister r) v ≡ F (InRegister r) v
unfolding emptied placed
unlisted_stays [] F r v h = refl
unlisted_stays (x ∷ rs) F r v h = unlisted_stays rs _ r v (λ m. h (later r x rs m)) ∙ by_test (is_place (InRegister x) (InRegister r)) refl
  where
    by_test : (b : Bool) → is_place (InRegister x) (InRegister r) ≡ b → cond b false (F (InRegister r) v) ≡ F (InRegister r) v
    by_test true e = absurd (h (0, omega arith, is_register-true x r e))
    by_test false e = refl

-- clearing the registers of a walk over a set clears the set
pub emptied_set : (s : PRegSet) (rs : List Register) (F : Facts) → IsWalkOf s rs → emptied rs F ≡ facts_after_clobbers s F
unfolding facts_after_clobbers
emptied_set s rs F w = one-facts _ _ at
  where
    by_test : (r : Register) (v : VirtualRegister) (b : Bool) → has_register s r ≡ b → emptied rs F (InRegister r) v ≡ cond b false (F (InRegister r) v)
    by_test r v true e = listed_gone rs F r v ((w.members r).0 e)
    by_test r v false e = unlisted_stays rs F r v (λ m. let t = (w.members r).1 m in absurd cc)

    at : (q : Place) (v : VirtualRegister) → emptied rs F q v ≡ facts_after_clobbers s F q v
    at NoPlace v = elsewhere rs F NoPlace v (λ r. refl)
    at (InRegister r) v = by_test r v (has_register s r) refl
    at (InSlot n) v = elsewhere rs F (InSlot n) v (λ r. refl)

-- a walk that has come to its end
nothing_more : (xs : List Register) → xs ++ [] ≡ xs
nothing_more [] = refl
nothing_more (x ∷ xs) = ap (λ (ys : List Register). x ∷ ys) (nothing_more xs)

-- a walk over a set that has nothing left to visit has visited the whole set
pub walk_end : (s : PRegSet) (xs ys : List Register) → ys ≡ [] → IsWalkOf s (xs ++ ys) → IsWalkOf s xs
walk_end s xs ys e w = subst (λ (zs : List Register). IsWalkOf s zs) (ap (λ (zs : List Register). xs ++ zs) e ∙ nothing_more xs) w

-- what is listed of each item is listed of the one at an index
mapped-at : (ms : List (ℕ × Edit)) (k : ℕ) (e : ℕ × Edit) (d : MoveValue) → k < length ms → e ≡ get_or ms k e → get_or (map listed_move ms) k d ≡ listed_move e
mapped-at [] k e d less is = absurd (omega arith)
mapped-at (m ∷ ms) zero e d less is = ap listed_move (sym is)
mapped-at (m ∷ ms) (suc k) e d less is = mapped-at ms k e d (omega arith) is

mapped-long : (ms : List (ℕ × Edit)) → length (map listed_move ms) ≡ length ms
mapped-long [] = refl
mapped-long (m ∷ ms) = ap suc (mapped-long ms)

-- the destination of a move of the list is listed, where all are
pub listed-at : (places : List ℕ) (ms : List (ℕ × Edit)) (k : ℕ) (e : ℕ × Edit) → k < length ms → e ≡ get_or ms k e →
    All (λ (m : MoveValue). IsListed places m.to) (map listed_move ms) → IsListed places (listed_move e).to
listed-at places ms k e less is h =
    subst (λ (m : MoveValue). IsListed places m.to) (mapped-at ms k e (listed_move e) less is) (h k (listed_move e) (omega (arith, mapped-long ms, less)))

-- the vreg of an operand of the list is listed, where all are
pub operand-listed : (vregs : List ℕ) (os : List OperandValue) (k : ℕ) (o : OperandValue) → k < length os → o ≡ get_or os k o →
    All (λ (op : OperandValue). IsListedVReg vregs op.vreg) os → IsListedVReg vregs o.vreg
operand-listed vregs os k o less is h = subst (λ (op : OperandValue). IsListedVReg vregs op.vreg) (sym is) (h k o less)

-- a vreg of the list is listed, where all are
pub vreg-listed : (vregs : List ℕ) (vs : List VirtualRegister) (k : ℕ) (v : VirtualRegister) → k < length vs → v ≡ get_or vs k v →
    All (IsListedVReg vregs) vs → IsListedVReg vregs v
vreg-listed vregs vs k v less is h = subst (IsListedVReg vregs) (sym is) (h k v less)

-- past the list's end there is no place
pub place-listed : (places : List ℕ) (ps : List Place) (k : ℕ) → All (IsListed places) ps → IsListed places (place_at ps k)
place-listed places ps k h = elim (cases_lt k (length ps)) [
  | inl l ↦ h k NoPlace l
  | inr g ↦ λ some. absurd (some (past ps k (omega (arith, g))))
]
  where
    past : (qs : List Place) (n : ℕ) → length qs ≤ n → get_or qs n NoPlace ≡ NoPlace
    past [] n l = refl
    past (q ∷ qs) zero l = absurd (omega arith)
    past (q ∷ qs) (suc n) l = past qs n (omega arith)

-- the holders of the first k vregs, and of one more
pub record HoldersSoFar {A : Type 0} (places : List ℕ) (has : ℕ → ℕ → Bool) (vs : List VirtualRegister) (had : List (Vec ℕ A)) (k : ℕ) : Type 0 where
  pub long : length had ≡ k
  pub holders : AreHoldersOf places has vs had

pub holders-more : {A : Type 0} (places : List ℕ) (has : ℕ → ℕ → Bool) (vs : List VirtualRegister) (had new : List (Vec ℕ A)) (x : Vec ℕ A) (k : ℕ)
    (v : VirtualRegister) → new ≡ had ++ (x ∷ []) → length had ≡ k → v ≡ get_or vs k v → k < length vs → HoldersAre places has v x.items →
    AreHoldersOf places has vs had → HoldersSoFar places has vs new (k + 1)
holders-more places has vs had new x k v e long is less here h = record {
  long = ap (λ (zs : List (Vec ℕ _)). length zs) e ∙ length-append had (x ∷ []) ∙ (omega (arith, long));
  holders = λ j d u l. elim (cases_lt j k) [
    | inl b ↦ (
        let there : get_or new j d ≡ get_or had j d =
        ap (λ (zs : List (Vec ℕ _)). get_or zs j d) e ∙ get_or_append_left had (x ∷ []) d j (omega (arith, b, long)) in
        subst (λ (z : Vec ℕ _). HoldersAre places has (get_or vs j u) z.items) (sym there) (h j d u (omega (arith, b, long)))
        )
    | inr g ↦ (
        let size : length new ≡ length had + 1 = ap (λ (zs : List (Vec ℕ _)). length zs) e ∙ length-append had (x ∷ []) in
        let at : j ≡ k = omega (arith, g, l, size, long) in
        let zero-is : j - length had ≡ 0 = omega (arith, at, long) in
        let there : get_or new j d ≡ x =
        ap (λ (zs : List (Vec ℕ _)). get_or zs j d) e ∙ get_or-append_right had (x ∷ []) (length had) j d refl (omega (arith, at, long))
        ∙ ap (λ (n : ℕ). get_or (x ∷ []) n d) zero-is in
        let reg : get_or vs j u ≡ v = ap (λ (n : ℕ). get_or vs n u) at ∙ get_or_default vs k u v less ∙ sym is in
        subst (λ (z : Vec ℕ _). HoldersAre places has (get_or vs j u) z.items) (sym there)
        (subst (λ (w : VirtualRegister). HoldersAre places has w x.items) (sym reg) here)
        )
  ];
}
