-- Queues of blocks, and what is passed on from them.
use Rattle.std.proofs.Common.{ℕ, zero, suc, ◌≡◌, ◌+◌, ◌-◌, ◌<◌, ◌≤◌, inl, inr, arith, Bool, true}
use Rattle.std.proofs.Common.{false, cond, List, [], ◌∷◌, length, get_or, set, refl, sym, ap, ◌∙◌, subst}
use Rattle.std.specs.Prelude.{◌⊎◌, Contains, sum_by, slice_index}
use Rattle.std.specs.List.Sorted.{IsPermutation}
use Rattle.std.specs.declared.cmp.Reverse.{Reverse}
use Rattle.std.proofs.lemmas.Bool.{cases_eq}
use Rattle.std.proofs.lemmas.List.{length-set, get_or-set_same, get_or-set_other}
use Rattle.std.proofs.lemmas.List.Elements.{All-cons, All-head, All-tail, All-weaker}
use Rattle.std.proofs.lemmas.List.Sorted.{All-permutation, Contains-permutation}
use Rattle.regalloc2_index.proofs.Bools.{from_both}
use Rattle.regalloc2_function.specs.FunctionValue.{FunctionValue, block_at}
use Rattle.regalloc2_function.specs.OutputValue.{OutputValue}
use Rattle.regalloc2_checker.specs.Showing.{Showing, AreTablesKept, ShowsNow, shows_in}
use Rattle.regalloc2_checker.specs.Facts.{Facts}
use Rattle.regalloc2_checker.specs.Fixpoint.{facts_within}
use Rattle.regalloc2_checker.specs.TableFacts.{facts_now}
use Rattle.regalloc2_checker.specs.Propagation.{IsBlockEnd}
use Rattle.regalloc2_checker.specs.Propagation.{mark_at, over, queued_block, IsQueue, AreReached}
use Rattle.regalloc2_checker.specs.Propagation.{AreSized, IsPropagatedOver, ArePropagated, IsUnderWay, IsReady, UnmarkedAreSolved}
use Rattle.regalloc2_checker.specs.Tables.{BlockView, view_at, facts_at, views, weight, ListTheSame, IsMeet, IsUpdated, AllSolved}
use Rattle.regalloc2_checker.proofs.TableSteps.{now-as}
use Rattle.regalloc2_checker.proofs.Updates.{set-again, views-same, facts-is}
use Rattle.regalloc2_checker.proofs.UnmarkedStaySolved.{EdgesPassed, mark-taken, all-kept}

more : (x y : Reverse (ℕ × ℕ)) (xs : List (Reverse (ℕ × ℕ))) → Contains xs x → Contains (y ∷ xs) x
more x y xs (k, less, at) = (suc k, omega arith, at)

first : (x : Reverse (ℕ × ℕ)) (xs : List (Reverse (ℕ × ℕ))) → Contains (x ∷ xs) x
first x xs = (0, omega arith, refl)

either : (x y : Reverse (ℕ × ℕ)) (xs : List (Reverse (ℕ × ℕ))) → Contains (y ∷ xs) x → (y ≡ x) ⊎ Contains xs x
either x y xs (zero, less, at) = inl at
either x y xs (suc k, less, at) = inr (k, omega arith, at)

-- a block is put into the queue
pub queue-pushed : (marks : List Bool) (entries new : List (Reverse (ℕ × ℕ))) (x : Reverse (ℕ × ℕ)) (b : ℕ) → queued_block x ≡ b → b < length marks →
    IsPermutation (x ∷ entries) new → IsQueue marks entries → IsQueue (set marks b true) new
queue-pushed marks entries new x b is less p q = record {
  marked = λ c low m. elim (cases_eq c b) [
    | inl e ↦ (x, Contains-permutation (x ∷ entries) new x p (first x entries), is ∙ sym e)
    | inr n ↦ (
        let w = q.marked c (omega (arith, low, length-set marks b true)) (sym (get_or-set_other marks b c true true n) ∙ m) in
        (w.0, Contains-permutation (x ∷ entries) new w.0 p (more w.0 x entries w.1), w.2)
        )
  ];
  small = All-permutation (λ y. queued_block y < length (set marks b true)) (x ∷ entries) new p
      (All-cons (λ y. queued_block y < length (set marks b true)) x entries (omega (arith, is, less, length-set marks b true))
      (All-weaker (λ y. queued_block y < length marks) (λ y. queued_block y < length (set marks b true)) (λ y l. omega (arith, l, length-set marks b true))
      entries
      q.small));
}

-- if the block is in the queue already, the marks stay
pub queue-again : (marks : List Bool) (b : ℕ) → b < length marks → mark_at marks b ≡ true → marks ≡ set marks b true
queue-again marks b less m = sym (set-again marks b true true less m)

-- the first is taken from the queue
pub queue-popped : (marks : List Bool) (entries rest : List (Reverse (ℕ × ℕ))) (x : Reverse (ℕ × ℕ)) (b : ℕ) → queued_block x ≡ b →
    IsPermutation entries (x ∷ rest) → IsQueue marks entries → (b < length marks) × IsQueue (set marks b false) rest
queue-popped marks entries rest x b is p q =
    let small = All-permutation (λ y. queued_block y < length marks) entries (x ∷ rest) p q.small in
    let here : queued_block x < length marks = All-head (λ y. queued_block y < length marks) x rest small in (
      omega (arith, is, here),
      record {
        marked = λ c low m. elim (cases_eq c b) [
          | inl e ↦ from_both (mark_at (set marks b false) b) (subst (λ (n : ℕ). mark_at (set marks b false) n ≡ true) e m)
              (get_or-set_same marks b false true (omega (arith, is, here)))
          | inr n ↦ (
              let w = q.marked c (omega (arith, low, length-set marks b false)) (sym (get_or-set_other marks b c false true n) ∙ m) in
              elim (either w.0 x rest (Contains-permutation entries (x ∷ rest) w.0 p w.1)) [
                | inl e ↦ absurd (n (sym w.2 ∙ ap queued_block (sym e) ∙ is))
                | inr d ↦ (w.0, d, w.2)
              ]
              )
        ];
        small = All-weaker (λ y. queued_block y < length marks) (λ y. queued_block y < length (set marks b false))
            (λ y l. omega (arith, l, length-set marks b false)) rest
            (All-tail (λ y. queued_block y < length marks) x rest small);
      },
    )

-- with the entry of a reached block pushed, each entry is of a reached block
pub reached-pushed : (t : List BlockView) (entries new : List (Reverse (ℕ × ℕ))) (x : Reverse (ℕ × ℕ)) (b : ℕ) → queued_block x ≡ b →
    (view_at t b).reached ≡ true → IsPermutation (x ∷ entries) new → AreReached t entries → AreReached t new
reached-pushed t entries new x b is r p h =
    All-permutation (λ y. (view_at t (queued_block y)).reached ≡ true) (x ∷ entries) new p
    (All-cons (λ y. (view_at t (queued_block y)).reached ≡ true) x entries (subst (λ (n : ℕ). (view_at t n).reached ≡ true) (sym is) r) h)

-- an entry that is popped is of a reached block, and so are the rest
pub reached-popped : (t : List BlockView) (entries rest : List (Reverse (ℕ × ℕ))) (x : Reverse (ℕ × ℕ)) (b : ℕ) → queued_block x ≡ b →
    IsPermutation entries (x ∷ rest) → AreReached t entries → ((view_at t b).reached ≡ true) × AreReached t rest
reached-popped t entries rest x b is p h =
    let all = All-permutation (λ y. (view_at t (queued_block y)).reached ≡ true) entries (x ∷ rest) p h in (
      subst (λ (n : ℕ). (view_at t n).reached ≡ true) is (All-head (λ y. (view_at t (queued_block y)).reached ≡ true) x rest all),
      All-tail (λ y. (view_at t (queued_block y)).reached ≡ true) x rest all,
    )

-- an update leaves what is reached
still : (t new : List BlockView) (target : ℕ) (passed : Facts) → IsUpdated t new target passed → (s : ℕ) → (view_at t s).reached ≡ true →
    (view_at new s).reached ≡ true
still t new target passed u s r = elim (cases_eq s target) [
  | inl e ↦ subst (λ (n : ℕ). (view_at new n).reached ≡ true) (sym e) u.reached
  | inr n ↦ ap (λ (x : BlockView). x.reached) (u.others s n) ∙ r
]

-- entries are of blocks that are reached still after something was passed to a block
pub reached-on : (t new : List BlockView) (target : ℕ) (passed : Facts) (entries : List (Reverse (ℕ × ℕ))) → IsUpdated t new target passed →
    AreReached t entries → AreReached new entries
reached-on t new target passed entries u h =
    All-weaker (λ y. (view_at t (queued_block y)).reached ≡ true) (λ y. (view_at new (queued_block y)).reached ≡ true)
    (λ y. still t new target passed u (queued_block y)) entries h

-- tables that are kept have the views that they had
pub views-kept : (t u : Showing) (rs : List Bool) → AreTablesKept t u → views u rs ≡ views t rs
views-kept t u rs h = views-same t u 0 rs h.places (λ j i y low high less. h.tables j i y less)

-- tables that are kept and then list what they did list what they did
pub alike-after : (t u w : Showing) → AreTablesKept t u → ListTheSame u w → ListTheSame t w
alike-after t u w a b = record { places = b.places ∙ a.places; vregs = b.vregs ∙ a.vregs; count = b.count ∙ a.count }

-- tables list what they did after two steps over each of which they do
pub alike-twice : (t u w : Showing) → ListTheSame t u → ListTheSame u w → ListTheSame t w
alike-twice t u w a b = record { places = b.places ∙ a.places; vregs = b.vregs ∙ a.vregs; count = b.count ∙ a.count }

-- tables that stay list what they did
pub alike-same : (t : Showing) → ListTheSame t t
alike-same t = record { places = refl; vregs = refl; count = refl }

-- an edge is gone over: its target, the tables, which stay, and the facts M that come of F
pub record IsOver (f : FunctionValue) (b k : ℕ) (F M : Facts) (old mid : List BlockView) (target : ℕ) : Type 0 where
  pub aimed : target ≡ slice_index (block_at f b).succs k
  pub tables : mid ≡ old
  pub facts : M ≡ over f b k F

-- an edge, as it was gone over
pub over-is : (f : FunctionValue) (b k : ℕ) (F M : Facts) (old mid new : List BlockView) (marks after : List Bool) (target : ℕ) (changed : Bool) →
    IsOver f b k F M old mid target → IsMeet mid new target M changed → after ≡ cond changed (set marks target true) marks →
    IsPropagatedOver f b k F old new marks after changed
over-is f b k F M old mid new marks after target changed w m e = record {
  met = subst (λ (n : ℕ). IsMeet old new n (over f b k F) changed) w.aimed
      (subst (λ (X : Facts). IsMeet old new target X changed) w.facts (subst (λ (t : List BlockView). IsMeet t new target M changed) w.tables m));
  marked = e ∙ ap (λ (n : ℕ). cond changed (set marks n true) marks) w.aimed;
}

-- how much is left falls where something changed
pub left-falls : (old mid new : List BlockView) (target m n : ℕ) (passed : Facts) → mid ≡ old → IsMeet mid new target passed true → n ≤ m + 1 →
    sum_by weight new + n ≤ sum_by weight old + m
left-falls old mid new target m n passed e h less =
    let d = ap (λ (t : List BlockView). sum_by weight t) e in
    let l = h.falls refl in
    omega (arith, d, l, less)

-- how much is left stays where nothing changed
pub left-stays : (old mid new : List BlockView) (target m : ℕ) (passed : Facts) → mid ≡ old → IsMeet mid new target passed false →
    sum_by weight new + m ≤ sum_by weight old + m
left-stays old mid new target m passed e h =
    let d = ap (λ (t : List BlockView). sum_by weight t) ((h.same refl).0 ∙ e) in
    omega (arith, d)

-- a block is taken from the queue, to be passed on
pub ready-popped : (f : FunctionValue) (o : OutputValue) (t : List BlockView) (marks : List Bool) (entries rest : List (Reverse (ℕ × ℕ)))
    (x : Reverse (ℕ × ℕ)) (b : ℕ) → queued_block x ≡ b → IsPermutation entries (x ∷ rest) → IsUnderWay f o t marks entries →
    IsReady f o t (set marks b false) rest b
ready-popped f o t marks entries rest x b is p w =
    let r = reached-popped t entries rest x b is p w.reached in
    record {
      sound = w.sound;
      here = r.0;
      none = mark-taken f o t marks b w.kept;
      queue = (queue-popped marks entries rest x b is p w.queue).1;
      reached = r.1;
    }

-- when the queue is empty all is solved
pub all-settled : (f : FunctionValue) (o : OutputValue) (t : List BlockView) (marks : List Bool) → UnmarkedAreSolved f o t marks →
    ((b : ℕ) → b < length marks → mark_at marks b ≡ false) → AllSolved f o t
all-settled f o t marks k none = λ b less. k.settled b less (none b (omega (arith, less, k.size)))

-- what is passed on leaves the sizes
pub sized-on : (f : FunctionValue) (t u : Showing) (rs qs marks after : List Bool) → ListTheSame t u → length qs ≡ length rs → length after ≡ length marks →
    AreSized f t rs marks → AreSized f u qs after
sized-on f t u rs qs marks after a r m s = record { reached = r ∙ s.reached; count = a.count ∙ s.count; marks = m ∙ s.marks }

-- what is reached after a block was put into the queue, or was there already
pub reached-either : (t new : List BlockView) (target : ℕ) (passed : Facts) (entries later : List (Reverse (ℕ × ℕ))) →
    IsUpdated t new target passed → AreReached t entries →
    (later ≡ entries) ⊎ ((x : Reverse (ℕ × ℕ)) × (queued_block x ≡ target) × IsPermutation (x ∷ entries) later) → AreReached new later
reached-either t new target passed entries later u h (inl e) = subst (AreReached new) (sym e) (reached-on t new target passed entries u h)
reached-either t new target passed entries later u h (inr (x, is, p)) =
    reached-pushed new entries later x target is u.reached p (reached-on t new target passed entries u h)

-- all edges of a block are passed on
pub way-done : (f : FunctionValue) (o : OutputValue) (old t : List BlockView) (marks : List Bool) (entries : List (Reverse (ℕ × ℕ))) (b k : ℕ) →
    k ≡ length (block_at f b).succs → EdgesPassed f o old t marks b k → IsQueue marks entries → AreReached t entries → IsUnderWay f o t marks entries
way-done f o old t marks entries b k e d q r = record {
  sound = d.sound;
  kept = all-kept f o old t marks b (subst (λ (n : ℕ). ArePropagated f o old t marks b n) e d.kept);
  queue = q;
  reached = r;
}

-- none are to be
pub way-none : (f : FunctionValue) (o : OutputValue) (t : List BlockView) (marks : List Bool) (entries : List (Reverse (ℕ × ℕ))) (b : ℕ) →
    0 ≡ length (block_at f b).succs → IsReady f o t marks entries b → IsUnderWay f o t marks entries
way-none f o t marks entries b e r = record {
  sound = r.sound;
  kept = all-kept f o t t marks b (subst (λ (n : ℕ). ArePropagated f o t t marks b n) e r.none);
  queue = r.queue;
  reached = r.reached;
}

-- the facts at a block's end, from the facts of its table
pub block-end : (f : FunctionValue) (o : OutputValue) (b : ℕ) (t m w : Showing) (rs : List Bool) → b < length rs → m.places ≡ t.places →
    ShowsNow m (shows_in t b) →
    facts_now w ≡ facts_within f o b (facts_now m) ((block_at f b).range.end - (block_at f b).range.first) →
    IsBlockEnd f o b (facts_at (views t rs) b) (facts_now w)
block-end f o b t m w rs less e h run = λ p v.
    ap (λ (F : Facts). F p v) (run
    ∙ ap (λ (F : Facts). facts_within f o b F ((block_at f b).range.end - (block_at f b).range.first))
    (now-as t m (shows_in t b) e h ∙ sym (facts-is t rs b less)))

-- a queue of no blocks
pub queue-none : (marks : List Bool) (entries : List (Reverse (ℕ × ℕ))) → entries ≡ [] →
    ((b : ℕ) (d : Bool) → b < length marks → get_or marks b d ≡ false) → IsQueue marks entries
queue-none marks entries e none = subst (IsQueue marks) (sym e) (record {
  marked = λ b less m. from_both (mark_at marks b) m (none b true less);
  small = λ k d less. absurd (omega (arith, less));
})

-- a queue of one block at most
pub reached-one : (t : List BlockView) (old new : List (Reverse (ℕ × ℕ))) (b : ℕ) → old ≡ [] → (view_at t b).reached ≡ true →
    (new ≡ old) ⊎ ((x : Reverse (ℕ × ℕ)) × (queued_block x ≡ b) × IsPermutation (x ∷ old) new) → AreReached t new
reached-one t old new b e r (inl s) = subst (AreReached t) (sym (s ∙ e)) (λ k d less. absurd (omega (arith, less)))
reached-one t old new b e r (inr (x, is, p)) =
    reached-pushed t old new x b is r p (subst (AreReached t) (sym e) (λ k d less. absurd (omega (arith, less))))
