-- What changes of links make of the list that they lead along.
use Rattle.std.proofs.Common.{ℕ, zero, suc, ◌≡◌, ◌<◌, ◌∙◌, arith, sym, ap, subst, List, [], ◌∷◌, ◌++◌, true, false, nat_eq, eq-eqb, length}
use Rattle.std.specs.Prelude.{Contains, reverse, slice_index, slice_set}
use Rattle.std.specs.List.{AllByRecursion, IsDistinct}
use Rattle.std.proofs.lemmas.List.{get_or-set_same, get_or-set_other, length-set, reverse-append}
use Rattle.std.proofs.lemmas.Map.Keys.{IsDistinct-head, IsDistinct-tail}
use Rattle.regalloc2_parts.specs.Links.{LacksNumber, Leads, LeadsOneWay}
use Rattle.regalloc2_parts.proofs.Numbers.{all_kept, flip, of_member, without}

-- the link that was written, and another
here : (l : List ℕ) (i v : ℕ) → i < length l → slice_index (slice_set l i v) i ≡ v
here l i v lt = get_or-set_same l i v 0 lt

apart : (l : List ℕ) (i j v : ℕ) → nat_eq i j ≡ false → slice_index (slice_set l i v) j ≡ slice_index l j
apart l i j v h = get_or-set_other l i j v 0 (λ e. let t : nat_eq i j ≡ true = eq-eqb i j (sym e) in cc)

beside : (l : List ℕ) (i j v : ℕ) → nat_eq j i ≡ false → slice_index (slice_set l i v) j ≡ slice_index l j
beside l i j v h = apart l i j v (flip j i h)

-- where the links before the end, before a member and after it lead
prev_of_end : (P : ℕ → Type 0) (ns ps : List ℕ) (a : ℕ) (xs : List ℕ) (b : ℕ) → Leads ns ps a xs b → P a → AllByRecursion P xs → P (slice_index ps b)
unfolding Leads
prev_of_end P ns ps a [] b h e l = subst P (sym h.1) e
prev_of_end P ns ps a (x ∷ xs) b h e l = prev_of_end P ns ps x xs b h.2 l.0 l.1

-- what holds of the start and of each number of the list holds of the one before each of these numbers
pub prev_of_member : (P : ℕ → Type 0) (ns ps : List ℕ) (a : ℕ) (xs : List ℕ) (b p : ℕ) → Leads ns ps a xs b → P a → AllByRecursion P xs → Contains xs p →
    P (slice_index ps p)
unfolding Leads
prev_of_member P ns ps a [] b p h e l (k, less, at) = absurd (omega arith)
prev_of_member P ns ps a (x ∷ xs) b p h e l (zero, less, at) = subst P (sym h.1 ∙ ap (λ i. slice_index ps i) at) e
prev_of_member P ns ps a (x ∷ xs) b p h e l (suc k, less, at) = prev_of_member P ns ps x xs b p h.2 l.0 l.1 (k, omega arith, at)

next_of_first : (P : ℕ → Type 0) (ns ps : List ℕ) (a : ℕ) (xs : List ℕ) (b : ℕ) → Leads ns ps a xs b → AllByRecursion P xs → P b → P (slice_index ns a)
unfolding Leads
next_of_first P ns ps a [] b h l e = subst P (sym h.0) e
next_of_first P ns ps a (x ∷ xs) b h l e = subst P (sym h.0) l.0

-- what holds of the end and of each number of the list holds of the one after each of these numbers
pub next_of_member : (P : ℕ → Type 0) (ns ps : List ℕ) (a : ℕ) (xs : List ℕ) (b p : ℕ) → Leads ns ps a xs b → AllByRecursion P xs → P b → Contains xs p →
    P (slice_index ns p)
unfolding Leads
next_of_member P ns ps a [] b p h l e (k, less, at) = absurd (omega arith)
next_of_member P ns ps a (x ∷ xs) b p h l e (zero, less, at) =
    subst (λ i. P (slice_index ns i)) at (next_of_first P ns ps x xs b h.2 l.1 e)
next_of_member P ns ps a (x ∷ xs) b p h l e (suc k, less, at) = next_of_member P ns ps x xs b p h.2 l.1 e (k, omega arith, at)

-- links of numbers that the list passes over change nothing
next_kept : (ns ps : List ℕ) (a : ℕ) (xs : List ℕ) (b i v : ℕ) → Leads ns ps a xs b → nat_eq i a ≡ false → LacksNumber i xs → Leads (slice_set ns i v) ps a xs b
unfolding Leads
next_kept ns ps a [] b i v h e l = (apart ns i a v e ∙ h.0, h.1)
next_kept ns ps a (x ∷ xs) b i v h e l = (apart ns i a v e ∙ h.0, h.1, next_kept ns ps x xs b i v h.2 l.0 l.1)

prev_kept : (ns ps : List ℕ) (a : ℕ) (xs : List ℕ) (b i v : ℕ) → Leads ns ps a xs b → LacksNumber i xs → nat_eq i b ≡ false → Leads ns (slice_set ps i v) a xs b
unfolding Leads
prev_kept ns ps a [] b i v h l e = (h.0, apart ps i b v e ∙ h.1)
prev_kept ns ps a (x ∷ xs) b i v h l e = (h.0, apart ps i x v l.0 ∙ h.1, prev_kept ns ps x xs b i v h.2 l.1 e)

-- one more number `x` before the end
ended : (ns ps : List ℕ) (a : ℕ) (xs : List ℕ) (x b : ℕ) → Leads ns ps a xs x → slice_index ns x ≡ b → slice_index ps b ≡ x → Leads ns ps a (xs ++ x ∷ []) b
unfolding Leads
ended ns ps a [] x b h e f = (h.0, h.1, (e, f))
ended ns ps a (y ∷ ys) x b h e f = (h.0, h.1, ended ns ps y ys x b h.2 e f)

split_end : (ns ps : List ℕ) (a : ℕ) (xs : List ℕ) (x b : ℕ) → Leads ns ps a (xs ++ x ∷ []) b →
    Leads ns ps a xs x × (slice_index ns x ≡ b) × (slice_index ps b ≡ x)
unfolding Leads
split_end ns ps a [] x b h = ((h.0, h.1), h.2.0, h.2.1)
split_end ns ps a (y ∷ ys) x b h = let s = split_end ns ps y ys x b h.2 in ((h.0, h.1, s.0), s.1, s.2)

-- a ring may begin at its last number
pub begun_at_last : (ns ps : List ℕ) (h : ℕ) (xs : List ℕ) (p : ℕ) → Leads ns ps h (xs ++ p ∷ []) h → Leads ns ps p (h ∷ xs) p
unfolding Leads
begun_at_last ns ps h xs p l = let s = split_end ns ps h xs p h l in (s.1, s.2, s.0)

-- the way back
pub reversed : (ns ps : List ℕ) (a : ℕ) (xs : List ℕ) (b : ℕ) → Leads ns ps a xs b → Leads ps ns b (reverse xs) a
unfolding Leads
reversed ns ps a [] b h = (h.1, h.0)
reversed ns ps a (x ∷ xs) b h = rw (reverse-append (x ∷ []) xs) (ended ps ns b (reverse xs) x a (reversed ns ps x xs b h.2) h.1 h.0)

-- the links of one direction alone
pub passes : (ns ps : List ℕ) (a : ℕ) (xs : List ℕ) (b : ℕ) → Leads ns ps a xs b → LeadsOneWay ns (slice_index ns a) xs b
unfolding Leads LeadsOneWay
passes ns ps a [] b h = h.0
passes ns ps a (x ∷ xs) b h = (h.0, passes ns ps x xs b h.2)

-- a member goes: its neighbours become neighbours
removed_first : (ns ps : List ℕ) (a p : ℕ) (xs : List ℕ) (b r : ℕ) → Leads ns ps a (p ∷ xs) b → LacksNumber a (p ∷ xs) → IsDistinct nat_eq xs →
    LacksNumber b xs →
    slice_index ns p ≡ r → a < length ns → r < length ps → Leads (slice_set ns a r) (slice_set ps r a) a xs b
unfolding Leads
removed_first ns ps a p [] b r h la d lb er fa fr =
    let e : b ≡ r = sym h.2.0 ∙ er in
    (here ns a r fa ∙ sym e, rw e (here ps r a fr))
removed_first ns ps a p (y ∷ ys) b r h la d lb er fa fr =
    let e : y ≡ r = sym h.2.0 ∙ er in
    let fy : y < length ps = omega arith in
    subst (λ q. Leads (slice_set ns a q) (slice_set ps q a) a (y ∷ ys) b) e (
      here ns a y fa,
      here ps y a fy,
      prev_kept (slice_set ns a y) ps y ys b y a (next_kept ns ps y ys b a y h.2.2 la.1.0 la.1.1) (IsDistinct-head nat_eq y ys d) (flip b y lb.0),
    )

-- links that lead over a list lead over it without one of its numbers, once the two neighbours of the number are linked
pub removed : (ns ps : List ℕ) (a : ℕ) (xs : List ℕ) (b p l r : ℕ) → Leads ns ps a xs b → IsDistinct nat_eq (a ∷ xs) → LacksNumber b xs → Contains xs p →
    slice_index ps p ≡ l → slice_index ns p ≡ r → l < length ns → r < length ps → Leads (slice_set ns l r) (slice_set ps r l) a (without p xs) b
unfolding Leads
removed ns ps a [] b p l r h d lb (k, less, at) el er fl fr = absurd (omega arith)
removed ns ps a (x ∷ xs) b p l r h d lb (zero, less, at) el er fl fr =
    let e : a ≡ l = sym h.1 ∙ ap (λ i. slice_index ps i) at ∙ el in
    let same : nat_eq p x ≡ true = eq-eqb p x (sym at) in
    let rest : IsDistinct nat_eq (x ∷ xs) = IsDistinct-tail nat_eq a (x ∷ xs) d in
    let kept = all_kept p xs (subst (λ i. LacksNumber i xs) at (IsDistinct-head nat_eq x xs rest)) in
    let fa : a < length ns = omega arith in
    rw (same, kept, ← e)
    (removed_first ns ps a x xs b r h (IsDistinct-head nat_eq a (x ∷ xs) d) (IsDistinct-tail nat_eq x xs rest) lb.1 (ap (λ i. slice_index ns i) at ∙ er) fa fr)
removed ns ps a (x ∷ xs) b p l r h d lb (suc k, less, at) el er fl fr =
    let mem : Contains xs p = (k, omega arith, at) in
    let la = IsDistinct-head nat_eq a (x ∷ xs) d in
    let rest : IsDistinct nat_eq (x ∷ xs) = IsDistinct-tail nat_eq a (x ∷ xs) d in
    let lx = IsDistinct-head nat_eq x xs rest in
    let other : nat_eq p x ≡ false = flip x p (of_member (λ (n : ℕ). nat_eq x n ≡ false) xs p lx mem) in
    let before : nat_eq a l ≡ false = subst (λ i. nat_eq a i ≡ false) el (prev_of_member (λ (n : ℕ). nat_eq a n ≡ false) ns ps x xs b p h.2 la.0 la.1 mem) in
    let after : nat_eq x r ≡ false = subst (λ i. nat_eq x i ≡ false) er
    (next_of_member (λ (n : ℕ). nat_eq x n ≡ false) ns ps x xs b p h.2 lx (flip b x lb.0) mem) in
    rw other (beside ns l a r before ∙ h.0, beside ps r x l after ∙ h.1, removed ns ps x xs b p l r h.2 rest lb.1 mem el er fl fr)

-- another end
retargeted : (ns ps : List ℕ) (a : ℕ) (xs : List ℕ) (b p l : ℕ) → Leads ns ps a xs b → IsDistinct nat_eq (a ∷ xs) → LacksNumber p xs → slice_index ps b ≡ l →
    l < length ns → p < length ps → Leads (slice_set ns l p) (slice_set ps p l) a xs p
unfolding Leads
retargeted ns ps a [] b p l h d lp el fl fp = let e : a ≡ l = sym h.1 ∙ el in (rw e (here ns l p fl), here ps p l fp ∙ sym e)
retargeted ns ps a (x ∷ xs) b p l h d lp el fl fp =
    let la = IsDistinct-head nat_eq a (x ∷ xs) d in
    let before : nat_eq a l ≡ false = subst (λ i. nat_eq a i ≡ false) el (prev_of_end (λ (n : ℕ). nat_eq a n ≡ false) ns ps x xs b h.2 la.0 la.1) in (
      beside ns l a p before ∙ h.0,
      apart ps p x l lp.0 ∙ h.1,
      retargeted ns ps x xs b p l h.2 (IsDistinct-tail nat_eq a (x ∷ xs) d) lp.1 el fl fp,
    )

-- one more number p, between the last of a ring and its head
pub appended : (ns ps : List ℕ) (h : ℕ) (xs : List ℕ) (p l : ℕ) → Leads ns ps h xs h → IsDistinct nat_eq (h ∷ xs) → LacksNumber p (h ∷ xs) →
    slice_index ps h ≡ l → l < length ns → p < length ns → p < length ps → h < length ps →
    Leads (slice_set (slice_set ns l p) p h) (slice_set (slice_set ps p l) h p) h (xs ++ p ∷ []) h
appended ns ps h xs p l leads d lp el fl fp gp gh =
    let nexts = slice_set ns l p in
    let prevs = slice_set ps p l in
    let to_it = retargeted ns ps h xs h p l leads d lp.1 el fl gp in
    let on = next_kept nexts prevs h xs p p h to_it lp.0 lp.1 in
    let back = prev_kept (slice_set nexts p h) prevs h xs p h p on (IsDistinct-head nat_eq h xs d) (flip p h lp.0) in
    let fits : p < length nexts = rw (length-set ns l p) fp in
    let fits_back : h < length prevs = rw (length-set ps p l) gh in
    ended (slice_set nexts p h) (slice_set prevs h p) h xs p h back (here nexts p h fits) (here prevs h p fits_back)

-- a number is neither end of a list, and not in it
pub record IsApart (a : ℕ) (xs : List ℕ) (b v : ℕ) : Type 0 where
  pub first : nat_eq v a ≡ false
  pub last : nat_eq v b ≡ false
  pub within : LacksNumber v xs

-- the numbers that are linked anew, v between a and r, have links
pub record HaveLinks (ns ps : List ℕ) (a v r : ℕ) : Type 0 where
  pub from_next : a < length ns
  pub next : v < length ns
  pub prev : v < length ps
  pub to_prev : r < length ps

-- one more number v, between the beginning and the first
pub inserted : (ns ps : List ℕ) (a : ℕ) (xs : List ℕ) (b v r : ℕ) → Leads ns ps a xs b → LacksNumber a xs → LacksNumber b xs → IsDistinct nat_eq xs →
    IsApart a xs b v → slice_index ns a ≡ r → HaveLinks ns ps a v r →
    Leads (slice_set (slice_set ns v r) a v) (slice_set (slice_set ps r v) v a) a (v ∷ xs) b
unfolding Leads
inserted ns ps a [] b v r h la lb d w er f =
    let e : b ≡ r = sym h.0 ∙ er in
    let fits : a < length (slice_set ns v r) = rw (length-set ns v r) f.from_next in
    let fits_back : v < length (slice_set ps r v) = rw (length-set ps r v) f.prev in (
      here (slice_set ns v r) a v fits,
      here (slice_set ps r v) v a fits_back,
      (beside (slice_set ns v r) a v v w.first ∙ here ns v r f.next ∙ sym e, apart (slice_set ps r v) v b a w.last ∙ rw e (here ps r v f.to_prev)),
    )
inserted ns ps a (y ∷ ys) b v r h la lb d w er f =
    let e : y ≡ r = sym h.0 ∙ er in
    let gy : y < length ps = omega arith in
    let nexts = slice_set ns v y in
    let prevs = slice_set ps y v in
    let fits : a < length nexts = rw (length-set ns v y) f.from_next in
    let fits_back : v < length prevs = rw (length-set ps y v) f.prev in
    let on = next_kept nexts ps y ys b a v (next_kept ns ps y ys b v y h.2 w.within.0 w.within.1) la.0 la.1 in
    let back = prev_kept (slice_set nexts a v) prevs y ys b v a
    (prev_kept (slice_set nexts a v) ps y ys b y v on (IsDistinct-head nat_eq y ys d) (flip b y lb.0)) w.within.1 w.last in
    subst (λ q. Leads (slice_set (slice_set ns v q) a v) (slice_set (slice_set ps q v) v a) a (v ∷ (y ∷ ys)) b) e (
      here nexts a v fits,
      here prevs v a fits_back,
      (beside nexts a v v w.first ∙ here ns v y f.next, apart prevs v y a w.within.0 ∙ here ps y v gy, back),
    )

-- where the link back from the end names a number of the list, it is the last of them
pub last_out : (ns ps : List ℕ) (a : ℕ) (xs : List ℕ) (b p : ℕ) → Leads ns ps a xs b → IsDistinct nat_eq (a ∷ xs) → slice_index ps b ≡ p → nat_eq p a ≡ false →
    xs ≡ without p xs ++ p ∷ []
unfolding Leads
last_out ns ps a [] b p h d e other = absurd (let t : nat_eq p a ≡ true = eq-eqb p a (sym e ∙ h.1) in cc)
last_out ns ps a (x ∷ []) b p h d e other =
    let same : x ≡ p = sym h.2.1 ∙ e in
    let t : nat_eq p x ≡ true = eq-eqb p x (sym same) in
    rw t (ap (λ z. z ∷ []) same)
last_out ns ps a (x ∷ (y ∷ ys)) b p h d e other =
    let rest : IsDistinct nat_eq (x ∷ (y ∷ ys)) = IsDistinct-tail nat_eq a (x ∷ (y ∷ ys)) d in
    let lx = IsDistinct-head nat_eq x (y ∷ ys) rest in
    let stays : nat_eq p x ≡ false = flip x p
    (subst (λ i. nat_eq x i ≡ false) e (prev_of_end (λ (n : ℕ). nat_eq x n ≡ false) ns ps y ys b h.2.2 lx.0 lx.1)) in
    rw stays (ap (λ l. x ∷ l) (last_out ns ps x (y ∷ ys) b p h.2 rest e stays))
