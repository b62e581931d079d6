-- A walk with a stack of its own, and the order in which it leaves blocks.
use Rattle.std.proofs.Common.{ℕ, zero, suc, ◌≡◌, ◌+◌, ◌-◌, ◌<◌, ◌≤◌, Bool, true, false, List, [], ◌∷◌, ◌++◌, length, drop, set, get_or, refl, sym, ap}
use Rattle.std.proofs.Common.{◌∙◌, subst, append_assoc, add-one, arith}
use Rattle.std.specs.Prelude.{◌||◌, nat_eq, replicate, reverse, All}
use Rattle.std.proofs.lemmas.Bool.{cases_eq, ne_eqb}
use Rattle.std.proofs.Common.{inl, inr, eq-eqb, ◌≢◌}
use Rattle.std.proofs.Math.Seq.{drop-cons}
use Rattle.std.proofs.lemmas.List.Elements.{All-append, All-cons, All-nil}
use Rattle.std.proofs.lemmas.List.{length-append, append-nil, reverse-append, get_or_default, get_or_append_left, get_or_push, drop_all}
use Rattle.std.proofs.lemmas.List.{get_or-replicate, get_or-set_same, get_or-set_other, length-set, length-replicate}
use Rattle.regalloc2_function.specs.declared.postorder.Frame.{Frame}
use Rattle.regalloc2_function.specs.Leaves.{met, Leaves}
use Rattle.regalloc2_function.specs.Leaves.Leaves.{done, again, enter}

-- two lists with the same numbers
abbrev pub SameMet : List ℕ → List ℕ → Type 0
SameMet s t = (x : ℕ) → met s x ≡ met t x

same-append : (xs s t : List ℕ) → SameMet s t → SameMet (xs ++ s) (xs ++ t)
unfolding met
same-append [] s t e x = e x
same-append (y ∷ ys) s t e x = ap (λ v. nat_eq y x || v) (same-append ys s t e x)

or_assoc : (a b c : Bool) → (a || (b || c)) ≡ ((a || b) || c)
or_assoc true b c = refl
or_assoc false b c = refl

met-append : (xs ys : List ℕ) (x : ℕ) → met (xs ++ ys) x ≡ (met xs x || met ys x)
unfolding met
met-append [] ys x = refl
met-append (y ∷ xs) ys x = ap (λ v. nat_eq y x || v) (met-append xs ys x) ∙ or_assoc (nat_eq y x) (met xs x) (met ys x)

or_mix : (a e b d : Bool) → (b || (a || (e || d))) ≡ ((a || (e || b)) || d)
or_mix true e true d = refl
or_mix true e false d = refl
or_mix false true true d = refl
or_mix false true false d = refl
or_mix false false true d = refl
or_mix false false false d = refl

-- the walk meets the same blocks, whatever the order in which they are noted
pub same_mix : (i j s : List ℕ) (b : ℕ) → SameMet (j ++ (i ++ b ∷ s)) ((i ++ b ∷ j) ++ s)
unfolding met
same_mix i j s b x =
    met-append j (i ++ b ∷ s) x
    ∙ ap (λ v. met j x || v) (met-append i (b ∷ s) x)
    ∙ or_mix (met i x) (nat_eq b x) (met j x) (met s x)
    ∙ ap (λ v. v || met s x) (sym (met-append i (b ∷ j) x))
    ∙ sym (met-append (i ++ b ∷ j) s x)

-- the order in which a walk leaves blocks depends only on which blocks it has met
pub leaves-same : (succs : ℕ → List ℕ) (t : List ℕ) {s bs order : List ℕ} → SameMet s t → Leaves succs s bs order → Leaves succs t bs order
unfolding met
leaves-same succs t e done = done
leaves-same succs t e (again {b = b} m l) = again (sym (e b) ∙ m) (leaves-same succs t e l)
leaves-same succs t {s = s} e (enter {b = b} {inner = inner} m i r) =
    enter (sym (e b) ∙ m) (leaves-same succs (b ∷ t) (λ x. ap (λ v. nat_eq b x || v) (e x)) i)
    (leaves-same succs (inner ++ b ∷ t) (same-append inner (b ∷ s) (b ∷ t) (λ x. ap (λ v. nat_eq b x || v) (e x))) r)

-- how a walk with this stack, the last entered block first, goes on: it leaves these blocks
unfoldable pub Finish : (ℕ → List ℕ) → List ℕ → List Frame → List ℕ → Type 0
Finish succs seen [] rest = rest ≡ []
Finish succs seen (f ∷ fs) rest =
    (inner after : List ℕ) × Leaves succs seen (drop f.next (succs f.block)) inner × Finish succs (inner ++ seen) fs after × (rest ≡ inner ++ f.block ∷ after)

finish-same : (succs : ℕ → List ℕ) (fs : List Frame) (s t rest : List ℕ) → SameMet s t → Finish succs s fs rest → Finish succs t fs rest
unfolding Finish
finish-same succs [] s t rest e h = h
finish-same succs (f ∷ fs) s t rest e h =
    (h.0, h.1, leaves-same succs t e h.2, finish-same succs fs (h.0 ++ s) (h.0 ++ t) h.1 (same-append h.0 s t e) h.3, h.4)

-- the next successor was met
pub finish_again : (succs : ℕ → List ℕ) (seen : List ℕ) (b n x : ℕ) (fs : List Frame) (rest : List ℕ) → n < length (succs b) → get_or (succs b) n 0 ≡ x →
    met seen x ≡ true →
    Finish succs seen (record { block = b; next = n + 1 } ∷ fs) rest → Finish succs seen (record { block = b; next = n } ∷ fs) rest
unfolding Finish
finish_again succs seen b n x fs rest less is m h =
    let e : drop n (succs b) ≡ x ∷ drop (n + 1) (succs b) = rw (← is, add-one) (drop-cons (succs b) n 0 less) in
    (h.0, h.1, rw e (again m h.2), h.3, h.4)

-- the next successor is entered
pub finish_enter : (succs : ℕ → List ℕ) (seen : List ℕ) (b n x : ℕ) (fs : List Frame) (rest : List ℕ) → n < length (succs b) → get_or (succs b) n 0 ≡ x →
    met seen x ≡ false →
    Finish succs (x ∷ seen) (record { block = x; next = 0 } ∷ record { block = b; next = n + 1 } ∷ fs) rest →
    Finish succs seen (record { block = b; next = n } ∷ fs) rest
unfolding Finish
finish_enter succs seen b n x fs rest less is m h =
    let e : drop n (succs b) ≡ x ∷ drop (n + 1) (succs b) = rw (← is, add-one) (drop-cons (succs b) n 0 less) in
    let inside = h.3 in (
      h.0 ++ x ∷ inside.0,
      inside.1,
      rw e (enter m h.2 inside.2),
      finish-same succs fs (inside.0 ++ (h.0 ++ x ∷ seen)) ((h.0 ++ x ∷ inside.0) ++ seen) inside.1 (same_mix h.0 inside.0 seen x) inside.3,
      h.4 ∙ ap (λ l. h.0 ++ x ∷ l) inside.4 ∙ sym (append_assoc h.0 (x ∷ inside.0) (b ∷ inside.1)),
    )

-- a block without further successors is left
pub finish_leave : (succs : ℕ → List ℕ) (seen : List ℕ) (b n : ℕ) (fs : List Frame) (rest : List ℕ) → length (succs b) ≤ n → Finish succs seen fs rest →
    Finish succs seen (record { block = b; next = n } ∷ fs) (b ∷ rest)
unfolding Finish
finish_leave succs seen b n fs rest less h =
    let e : drop n (succs b) ≡ [] = drop_all n (succs b) less in
    ([], rest, rw e done, h, refl)

-- a walk that has only entered the first block
pub finish_start : (succs : ℕ → List ℕ) (b : ℕ) (rest : List ℕ) → Finish succs (b ∷ []) (record { block = b; next = 0 } ∷ []) rest →
    Leaves succs [] (b ∷ []) rest
unfolding Finish met
finish_start succs b rest h = rw (h.4, h.3) (enter refl h.2 done)

-- how many successors a list has at most
pub most : ℕ
most = 18446744073709551616

-- a number that fits in 64 bits is below the bound on how many successors a list has
pub below_most : (n : ℕ) → n < 18446744073709551616 → n < most
unfolding most
below_most n less = less

-- how much a walk with this stack still does at most
unfoldable pub frames_work : ℕ → List Frame → ℕ
frames_work top [] = 0
frames_work top (f ∷ fs) = suc (top - f.next) + frames_work top fs

-- the work that the blocks without a mark may add
unfoldable pub pending : ℕ → List Bool → ℕ
pending top [] = 0
pending top (true ∷ vs) = pending top vs
pending top (false ∷ vs) = suc top + pending top vs

pending-set : (top b : ℕ) (vs : List Bool) → b < length vs → get_or vs b false ≡ false → pending top (set vs b true) + suc top ≡ pending top vs
unfolding pending
pending-set top b [] less is = absurd (omega arith)
pending-set top zero (true ∷ vs) less is = absurd cc
pending-set top zero (false ∷ vs) less is = omega arith
pending-set top (suc b) (true ∷ vs) less is = pending-set top b vs (omega arith) is
pending-set top (suc b) (false ∷ vs) less is = let h = pending-set top b vs (omega arith) is in omega (arith, h)

-- a step that looks at a successor that was met
work_again : (top b n : ℕ) (fs : List Frame) → n < top → frames_work top (record { block = b; next = n + 1 } ∷ fs) < frames_work top
    (record { block = b; next = n } ∷ fs)
unfolding frames_work
work_again top b n fs less = omega arith

-- a step that enters a block
work_enter : (top b n x : ℕ) (fs : List Frame) (vs : List Bool) → n < top → x < length vs → get_or vs x false ≡ false →
    pending top (set vs x true) + frames_work top (record { block = x; next = 0 } ∷ record { block = b; next = n + 1 } ∷ fs) < pending top vs + frames_work top
    (record { block = b; next = n } ∷ fs)
unfolding frames_work
work_enter top b n x fs vs less in_range is = let h = pending-set top x vs in_range is in omega (arith, h)

-- a step that leaves a block
work_leave : (top b n : ℕ) (fs : List Frame) → frames_work top fs < frames_work top (record { block = b; next = n } ∷ fs)
unfolding frames_work
work_leave top b n fs = omega arith

-- the marks of the blocks that were met
abbrev pub MarksMet : List Bool → List ℕ → Type 0
MarksMet vs seen = (k : ℕ) → k < length vs → get_or vs k false ≡ met seen k

-- where no block is marked, the marks are of a walk that has met no block
pub marks_none : (n : ℕ) → MarksMet (replicate n false) []
unfolding met
marks_none n k less = get_or-replicate n k false false (simp length-replicate at less)

-- to mark a block is to add it to the blocks that the walk has met
pub marks_more : (vs : List Bool) (seen : List ℕ) (x : ℕ) → x < length vs → MarksMet vs seen → MarksMet (set vs x true) (x ∷ seen)
unfolding met
marks_more vs seen x in_range m k less =
    elim (cases_eq x k) [
      | inl e ↦ subst (λ z. get_or (set vs x true) z false ≡ (nat_eq x z || met seen z)) e (rw (get_or-set_same, eq-eqb x x refl) refl)
      | inr ne ↦ let other : k ≢ x = λ q. ne (sym q) in rw (get_or-set_other) (rw (ne_eqb x k ne) (m k (simp length-set at less)))
    ]

-- each entry of a walk's stack is of one of `num` blocks
abbrev pub Framed : ℕ → List Frame → Type 0
Framed num fs = All (λ (f : Frame). f.block < num) fs

framed_front : (num : ℕ) (fs : List Frame) (f : Frame) → Framed num (fs ++ f ∷ []) → Framed num fs
framed_front num fs f h k d less =
    subst (λ (z : Frame). z.block < num) (get_or_append_left fs (f ∷ []) d k less) (h k d (simp length-append (omega arith)))

-- the entry on top of the stack is of one of `num` blocks
pub framed_last : (num : ℕ) (fs : List Frame) (f : Frame) → Framed num (fs ++ f ∷ []) → f.block < num
framed_last num fs f h =
    subst (λ (z : Frame). z.block < num) (get_or_push fs f f (length fs) refl) (h (length fs) f (simp length-append (omega arith)))

framed_more : (num : ℕ) (fs : List Frame) (f : Frame) → Framed num fs → f.block < num → Framed num (fs ++ f ∷ [])
framed_more num fs f h less = All-append (λ (z : Frame). z.block < num) fs (f ∷ []) h
    (All-cons (λ (z : Frame). z.block < num) f [] less (All-nil (λ (z : Frame). z.block < num)))

reverse-push : (fs : List Frame) (f : Frame) → reverse (fs ++ f ∷ []) ≡ f ∷ reverse fs
reverse-push fs f = reverse-append fs (f ∷ [])

-- Whatever order the rest of the walk leaves blocks in, the whole walk leaves `out` and then that order.
pub record Walked (succs : ℕ → List ℕ) (num entry : ℕ) (vs : List Bool) (fs : List Frame) (out : List ℕ) : Type 0 where
  pub long : length vs ≡ num
  pub framed : Framed num fs
  pub seen : List ℕ
  pub marks : MarksMet vs seen
  pub goes : (rest : List ℕ) → Finish succs seen (reverse fs) rest → Leaves succs [] (entry ∷ []) (out ++ rest)

-- a block on the stack is one of `num` blocks
pub walked_frame : {succs : ℕ → List ℕ} {num entry : ℕ} {vs : List Bool} {before : List Frame} {out : List ℕ} (popped : List Frame) (f : Frame) →
    Walked succs num entry vs before out → before ≡ popped ++ f ∷ [] → f.block < num
walked_frame {num = num} popped f w top = framed_last num popped f (subst (Framed num) top w.framed)

-- an upper bound of what is still to do
abbrev pub work : List Bool → List Frame → ℕ
work vs fs = pending most vs + frames_work most (reverse fs)

-- a walk begins with the entry marked and alone on the stack, and with no block left
pub walked_start : (succs : ℕ → List ℕ) (num entry : ℕ) (vs ws : List Bool) (fs : List Frame) (out : List ℕ) → vs ≡ replicate num false → entry < num →
    ws ≡ set vs entry true → fs ≡ [] ++ record { block = entry; next = 0 } ∷ [] → out ≡ [] → Walked succs num entry ws fs out
walked_start succs num entry vs ws fs out e less w f o =
    rw (w, e, f, o) (record {
      long = simp (length-set, length-replicate) refl;
      framed = framed_more num [] (record { block = entry; next = 0 }) (All-nil (λ (z : Frame). z.block < num)) less;
      seen = entry ∷ [];
      marks = marks_more (replicate num false) [] entry (simp length-replicate less) (marks_none num);
      goes = λ rest h. finish_start succs entry rest h;
    })

-- a walk is at the block f on top of its stack, over the popped ones; xs are the block's successors
pub record StandsAt (succs : ℕ → List ℕ) (num entry : ℕ) (vs : List Bool) (out : List ℕ) (before popped : List Frame) (f : Frame) (xs : List ℕ) : Type 0 where
  pub top : before ≡ popped ++ f ∷ []
  pub is : xs ≡ succs f.block
  pub w : Walked succs num entry vs before out

-- x is the next of the successors `xs`, and one of `num` blocks
pub record IsNext (num : ℕ) (xs : List ℕ) (f : Frame) (x : ℕ) : Type 0 where
  pub less : f.next < length xs
  pub at : get_or xs f.next 0 ≡ x
  pub within : x < num

module _ (succs : ℕ → List ℕ) (num entry : ℕ) (vs : List Bool) (out : List ℕ) (before popped : List Frame) (f : Frame) (xs : List ℕ)
    (stands : StandsAt succs num entry vs out before popped f xs) where
  open stands use {top, is, w}

  -- passing by a successor that is marked only moves on in the block on top of the stack
  pub again_step : {pushed : List Frame} (x : ℕ) → pushed ≡ popped ++ record { block = f.block; next = f.next + 1 } ∷ [] → IsNext num xs f x →
      get_or vs x false ≡ true → Walked succs num entry vs pushed out
  again_step x p n m = rw p (record {
    long = w.long;
    framed = (let h = subst (Framed num) top w.framed in framed_more num popped (record { block = f.block; next = f.next + 1 }) (framed_front num popped f h)
        (framed_last num popped f h));
    seen = w.seen;
    marks = w.marks;
    goes = λ rest h. w.goes rest (rw (top, reverse-push) (finish_again succs w.seen f.block f.next x (reverse popped) rest (rw (← is) n.less) (rw (← is) n.at)
        (sym (w.marks x (rw w.long n.within)) ∙ m) (rw reverse-push at h)));
  })

  -- entering a successor that isn't marked marks it and puts it on top of the stack
  pub enter_step : {pushed after : List Frame} (x : ℕ) → pushed ≡ popped ++ record { block = f.block; next = f.next + 1 } ∷ [] → after ≡ pushed
      ++ record { block = x; next = 0 } ∷ [] → IsNext num xs f x → get_or vs x false ≡ false → Walked succs num entry (set vs x true) after out
  enter_step x p q n m = rw (q, p) (record {
    long = simp length-set w.long;
    framed = (let h = subst (Framed num) top w.framed in framed_more num (popped ++ record { block = f.block; next = f.next + 1 } ∷ [])
        (record { block = x; next = 0 }) (framed_more num popped (record { block = f.block; next = f.next + 1 }) (framed_front num popped f h)
        (framed_last num popped f h)) n.within);
    seen = x ∷ w.seen;
    marks = marks_more vs w.seen x (rw w.long n.within) w.marks;
    goes = λ rest h. w.goes rest (rw (top, reverse-push) (finish_enter succs w.seen f.block f.next x (reverse popped) rest (rw (← is) n.less)
        (rw (← is) n.at) (sym (w.marks x (rw w.long n.within)) ∙ m)
        (rw (
          reverse-push (popped ++ record { block = f.block; next = f.next + 1 } ∷ []) (record { block = x; next = 0 }),
          reverse-push popped (record { block = f.block; next = f.next + 1 }),
        ) at h)));
  })

  -- a block on top of the stack without further successors is taken off and is the next that the walk leaves
  pub leave_step : {left : List ℕ} → left ≡ out ++ f.block ∷ [] → length xs ≤ f.next → Walked succs num entry vs popped left
  leave_step o less = rw o (record {
    long = w.long;
    framed = framed_front num popped f (subst (Framed num) top w.framed);
    seen = w.seen;
    marks = w.marks;
    goes = λ rest h. rw append_assoc (w.goes (f.block ∷ rest) (rw (top, reverse-push)
        (finish_leave succs w.seen f.block f.next (reverse popped) rest (rw (← is) less) h)));
  })

-- each step leaves less to do
module _ (vs : List Bool) (before popped : List Frame) (f : Frame) (top : before ≡ popped ++ f ∷ []) where
  -- passing by a successor that was met leaves less to do
  pub again_less : (pushed : List Frame) → pushed ≡ popped ++ record { block = f.block; next = f.next + 1 } ∷ [] → f.next < 18446744073709551616 →
      work vs pushed < work vs before
  again_less pushed p less = rw (p, top, reverse-push, reverse-push) (let h = work_again most f.block f.next (reverse popped) (below_most f.next less) in
      omega (arith, h))

  -- entering a block that wasn't marked leaves less to do
  pub enter_less : (pushed after : List Frame) (x : ℕ) → pushed ≡ popped ++ record { block = f.block; next = f.next + 1 } ∷ [] → after ≡ pushed
      ++ record { block = x; next = 0 } ∷ [] → f.next < 18446744073709551616 → x < length vs → get_or vs x false ≡ false →
      work (set vs x true) after < work vs before
  enter_less pushed after x p q less within m =
      rw (
        q,
        p,
        top,
        reverse-push (popped ++ record { block = f.block; next = f.next + 1 } ∷ []) (record { block = x; next = 0 }),
        reverse-push popped (record { block = f.block; next = f.next + 1 }),
        reverse-push popped f,
      )
      (work_enter most f.block f.next x (reverse popped) vs (below_most f.next less) within m)

  -- taking a block off the stack leaves less to do
  pub leave_less : work vs popped < work vs before
  leave_less = rw (top, reverse-push) (let h = work_leave most f.block f.next (reverse popped) in omega (arith, h))

-- nothing is left to do
pub walked_end : (succs : ℕ → List ℕ) (num entry : ℕ) (vs : List Bool) (fs : List Frame) (out : List ℕ) → fs ≡ [] → Walked succs num entry vs fs out →
    Leaves succs [] (entry ∷ []) out
unfolding Finish
walked_end succs num entry vs fs out e w = rw append-nil at (w.goes [] (rw e refl))

-- an item that was read within a list is what a read with default 0 gives
pub read_zero : (xs : List ℕ) (k x : ℕ) → k < length xs → x ≡ get_or xs k x → get_or xs k 0 ≡ x
read_zero xs k x less r = get_or_default xs k 0 x less ∙ sym r
