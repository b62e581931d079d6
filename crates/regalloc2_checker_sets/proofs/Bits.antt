-- Members that are bits, as a walk over a set finds them.
use Rattle.std.proofs.Common.{inl, inr, ℕ, ◌≡◌, ◌<◌, ◌≤◌, arith, Bool, true}
use Rattle.std.proofs.Common.{false, cond, nat_eq, nat_lt, eq-eqb, List, [], ◌∷◌, ◌++◌, refl, sym, ap, ◌∙◌}
use Rattle.std.specs.Prelude.{◌&&◌, if◌then◌else◌}
use Rattle.std.proofs.lemmas.Bool.{cases_eq, cases_lt, le-ltb, lt-ltb as below, ne_eqb}
use Rattle.std.proofs.Math.Bool.{and-false}
use Rattle.regalloc2_index.proofs.Bools.{not_both}
use Rattle.regalloc2_function.specs.Numbers.{NumberSet, has_number, times_listed, ListsMembers}
use Rattle.std.proofs.Common.{length, get_or, ◌-◌, zero, suc}
use Rattle.std.specs.Prelude.{Result, Ok, Err, IfOk}
use Rattle.std.proofs.Math.ListN.{length-append}
use Rattle.std.proofs.lemmas.List.{get_or-append_right, get_or_append_left}
use Rattle.regalloc2_checker_sets.specs.EntrySets.{has_bits, is_member, ListsBits, IsSetOf, AreMore}
use Rattle.regalloc2_checker_sets.proofs.Walked.{times-append, times-one, walked-all}

-- small numbers are bits where they are members
pub bits-is : (s : NumberSet) (y : ℕ) → y < 4294967296 → has_bits s y ≡ has_number s y
bits-is s y h = rw (below y 4294967296 h) refl

-- a member below 2^32 is among a set's bits
pub bits-in : (s : NumberSet) (y : ℕ) → y < 4294967296 → has_number s y ≡ true → has_bits s y ≡ true
bits-in s y h m = bits-is s y h ∙ m

-- numbers from 2^32 on are not among a set's bits
pub bits-out : (s : NumberSet) (y : ℕ) → 4294967296 ≤ y → has_bits s y ≡ false
bits-out s y h = rw (le-ltb y 4294967296 h) refl

-- a set's bits are its members below 2^32
pub bits-small : (s : NumberSet) (y : ℕ) → has_bits s y ≡ true → (y < 4294967296) × (has_number s y ≡ true)
bits-small s y h = elim (cases_lt y 4294967296) [
  | inl l ↦ (l, sym (bits-is s y l) ∙ h)
  | inr g ↦ absurd (not_both (has_bits s y) h (bits-out s y g))
]

-- appending another number
pub other-times : (done : List ℕ) (x y : ℕ) → (y ≡ x → ⊥) → times_listed (done ++ x ∷ []) y ≡ times_listed done y
other-times done x y n =
    let a = times-append done (x ∷ []) y in
    let b = times-one x y in
    let c : ◌≡◌ {A = ℕ} (cond (nat_eq x y) 1 0) 0 = ap (λ t. cond t 1 0) (ne_eqb x y (λ q. n (sym q))) in
    omega arith

-- a list with a number at its end has that number
pub same-times : (done : List ℕ) (x : ℕ) → 0 < times_listed (done ++ x ∷ []) x
same-times done x =
    let a = times-append done (x ∷ []) x in
    let b = times-one x x in
    let c : ◌≡◌ {A = ℕ} (cond (nat_eq x x) 1 0) 1 = ap (λ t. cond t 1 0) (eq-eqb x x refl) in
    omega arith

-- the list is what both sets have: one more visited member, which the other set has
pub both-more : (old new other : NumberSet) (done : List ℕ) (x : ℕ) → x < 4294967296 →
    ((i : ℕ) → has_number new i ≡ cond (nat_eq i x) true (has_number old i)) → has_bits other x ≡ true →
    ((y : ℕ) → has_bits old y ≡ (nat_lt 0 (times_listed done y) && has_bits other y)) → (y : ℕ) →
    has_bits new y ≡ (nat_lt 0 (times_listed (done ++ x ∷ []) y) && has_bits other y)
both-more old new other done x small set is h y = elim (cases_eq y x) [
  | inl e ↦
      let a : has_bits new y ≡ true = bits-in new y (omega arith) (set y ∙ ap (λ t. cond t true (has_number old y)) (eq-eqb y x e)) in
      let b : nat_lt 0 (times_listed (done ++ x ∷ []) y) ≡ true = below 0 _ (rw e (same-times done x)) in
      a ∙ sym (ap (λ t. t && has_bits other y) b ∙ ap (λ n. has_bits other n) e ∙ is)
  | inr n ↦
      let a : has_number new y ≡ has_number old y = set y ∙ ap (λ t. cond t true (has_number old y)) (ne_eqb y x n) in
      ap (λ t. nat_lt y 4294967296 && t) a ∙ h y ∙ ap (λ k. nat_lt 0 k && has_bits other y) (sym (other-times done x y n))
]

-- the list is what both sets have: one more visited member, which the other set lacks
pub both-skip : (old other : NumberSet) (done : List ℕ) (x : ℕ) → has_bits other x ≡ false →
    ((y : ℕ) → has_bits old y ≡ (nat_lt 0 (times_listed done y) && has_bits other y)) → (y : ℕ) →
    has_bits old y ≡ (nat_lt 0 (times_listed (done ++ x ∷ []) y) && has_bits other y)
both-skip old other done x is h y = elim (cases_eq y x) [
  | inl e ↦
      let f : has_bits other y ≡ false = ap (λ n. has_bits other n) e ∙ is in
      h y ∙ ap (λ t. nat_lt 0 (times_listed done y) && t) f ∙ and-false _ ∙ sym (ap (λ t. nat_lt 0 (times_listed (done ++ x ∷ []) y) && t) f ∙ and-false _)
  | inr n ↦ h y ∙ ap (λ k. nat_lt 0 k && has_bits other y) (sym (other-times done x y n))
]

-- at the end
pub both-all : (set both other : NumberSet) (done left : List ℕ) → ListsMembers set (done ++ left) → left ≡ [] →
    ((y : ℕ) → has_bits both y ≡ (nat_lt 0 (times_listed done y) && has_bits other y)) → (y : ℕ) → has_bits both y ≡ (has_bits set y && has_bits other y)
both-all set both other done left all e h y = elim (cases_lt y 4294967296) [
  | inl l ↦
      let t : nat_lt 0 (times_listed done y) ≡ has_number set y = ap (λ n. nat_lt 0 n) (walked-all set done left y all e) ∙ some (has_number set y) in
      h y ∙ ap (λ b. b && has_bits other y) (t ∙ sym (bits-is set y l))
  | inr g ↦
      h y ∙ ap (λ b. nat_lt 0 (times_listed done y) && b) (bits-out other y g) ∙ and-false _
      ∙ sym (ap (λ b. has_bits set y && b) (bits-out other y g) ∙ and-false _)
]
  where
    some : (b : Bool) → nat_lt 0 (if b then 1 else 0) ≡ b
    some true = refl
    some false = refl

-- listed bits: one more
pub listed-more : (members done : List ℕ) (x : ℕ) → x < 4294967296 →
    ((y : ℕ) → times_listed members y ≡ (if nat_lt y 4294967296 then times_listed done y else 0)) → (y : ℕ) →
    times_listed (members ++ x ∷ []) y ≡ (if nat_lt y 4294967296 then times_listed (done ++ x ∷ []) y else 0)
listed-more members done x small h y = elim (cases_eq y x) [
  | inl e ↦
      let b : nat_lt y 4294967296 ≡ true = below y 4294967296 (omega arith) in
      let a = times-append members (x ∷ []) y in
      let c = times-append done (x ∷ []) y in
      let d : times_listed members y ≡ times_listed done y = h y ∙ ap (λ t. if t then times_listed done y else 0) b in
      let f : times_listed (members ++ x ∷ []) y ≡ times_listed (done ++ x ∷ []) y = omega arith in
      f ∙ sym (ap (λ t. if t then times_listed (done ++ x ∷ []) y else 0) b)
  | inr n ↦ other-times members x y n ∙ h y ∙ ap (λ k. if nat_lt y 4294967296 then k else 0) (sym (other-times done x y n))
]

-- listed bits: one more, which is too great
pub listed-skip : (members done : List ℕ) (x : ℕ) → 4294967296 ≤ x →
    ((y : ℕ) → times_listed members y ≡ (if nat_lt y 4294967296 then times_listed done y else 0)) → (y : ℕ) →
    times_listed members y ≡ (if nat_lt y 4294967296 then times_listed (done ++ x ∷ []) y else 0)
listed-skip members done x great h y = elim (cases_eq y x) [
  | inl e ↦
      let b : nat_lt y 4294967296 ≡ false = le-ltb y 4294967296 (omega arith) in
      h y ∙ ap (λ t. if t then times_listed done y else 0) b ∙ sym (ap (λ t. if t then times_listed (done ++ x ∷ []) y else 0) b)
  | inr n ↦ h y ∙ ap (λ k. if nat_lt y 4294967296 then k else 0) (sym (other-times done x y n))
]

-- at the end
pub listed-all : (set : NumberSet) (members done left : List ℕ) → ListsMembers set (done ++ left) → left ≡ [] →
    ((y : ℕ) → times_listed members y ≡ (if nat_lt y 4294967296 then times_listed done y else 0)) → ListsBits (has_bits set) members
listed-all set members done left all e h y =
    h y ∙ ap (λ k. if nat_lt y 4294967296 then k else 0) (walked-all set done left y all e) ∙ either (nat_lt y 4294967296) (has_number set y)
  where
    either : (a b : Bool) → ◌≡◌ {A = ℕ} (if a then (if b then 1 else 0) else 0) (if a && b then 1 else 0)
    either true b = refl
    either false b = refl

-- an empty set has the bits of the other that were walked, before any were
pub both-none : (both other : NumberSet) → ((i : ℕ) → has_number both i ≡ false) → (y : ℕ) →
    has_bits both y ≡ (nat_lt 0 (times_listed [] y) && has_bits other y)
unfolding times_listed
both-none both other h y = ap (λ t. nat_lt y 4294967296 && t) (h y) ∙ and-false _

-- an empty list has each bit as often as none that were walked
pub listed-none : (items : List ℕ) → items ≡ [] → (y : ℕ) → times_listed items y ≡ (if nat_lt y 4294967296 then times_listed [] y else 0)
unfolding times_listed
listed-none items e y = ap (λ (l : List ℕ). times_listed l y) e ∙ zeros (nat_lt y 4294967296)
  where
    zeros : (b : Bool) → ◌≡◌ {A = ℕ} 0 (if b then 0 else 0)
    zeros true = refl
    zeros false = refl

-- one number is made a member, or none
pub changed-is : (s t : NumberSet) (x : ℕ) (b : Bool) → x < 4294967296 → ((i : ℕ) → has_number t i ≡ cond (nat_eq i x) b (has_number s i)) → (y : ℕ) →
    has_bits t y ≡ (if nat_eq y x then b else has_bits s y)
changed-is s t x b small h y = elim (cases_eq y x) [
  | inl e ↦
      bits-is t y (omega arith) ∙ h y ∙ ap (λ c. cond c b (has_number s y)) (eq-eqb y x e)
      ∙ sym (ap (λ c. if c then b else has_bits s y) (eq-eqb y x e))
  | inr n ↦
      ap (λ c. nat_lt y 4294967296 && c) (h y ∙ ap (λ c. cond c b (has_number s y)) (ne_eqb y x n))
      ∙ sym (ap (λ c. if c then b else has_bits s y) (ne_eqb y x n))
]

-- a set is put at the end
pub added-is : (sets new : List NumberSet) (n : ℕ) (s : NumberSet) (has : ℕ → Bool) → n ≡ length sets → new ≡ sets ++ s ∷ [] →
    ((y : ℕ) → has_bits s y ≡ has y) → IsSetOf new n has
added-is sets new n s has en e h =
    let l = length-append sets (s ∷ []) in
    let k : length new ≡ length (sets ++ s ∷ []) = ap length e in
    record {
      below = omega arith;
      members = λ y. ap (λ (l : List NumberSet). is_member l n y) e ∙ ap (λ (x : NumberSet). has_bits x y) (last sets s n en) ∙ h y;
    }
  where
    last : (sets : List NumberSet) (s : NumberSet) (n : ℕ) → n ≡ length sets → get_or (sets ++ s ∷ []) n [] ≡ s
    last sets s n e = get_or-append_right sets (s ∷ []) n n [] (sym e) (omega arith) ∙ ap (λ k. get_or (s ∷ []) k []) (self n)
      where
        self : (n : ℕ) → n - n ≡ 0
        self n = omega arith

-- with a set pushed, the sets that were there stay
pub added-more : (sets new : List NumberSet) (s : NumberSet) → new ≡ sets ++ s ∷ [] → AreMore sets new
added-more sets new s e =
    let l = length-append sets (s ∷ []) in
    let k : length new ≡ length (sets ++ s ∷ []) = ap length e in
    record {
      longer = omega arith;
      kept = λ n y less. ap (λ (l : List NumberSet). is_member l n y) e ∙ ap (λ (x : NumberSet). has_bits x y) (get_or_append_left sets (s ∷ []) [] n less);
    }

-- sets that stay are there still
pub same-sets : (sets new : List NumberSet) → new ≡ sets → AreMore sets new
same-sets sets new e =
    let k : length new ≡ length sets = ap length e in
    record { longer = omega arith; kept = λ n y less. ap (λ (l : List NumberSet). is_member l n y) e }

-- a set that another contains is what both have
pub within-and : (has other : ℕ → Bool) → ((y : ℕ) → has y ≡ true → other y ≡ true) → (y : ℕ) → has y ≡ (has y && other y)
within-and has other h y = by (has y) (h y)
  where
    by : (a : Bool) → (a ≡ true → other y ≡ true) → a ≡ (a && other y)
    by true g = sym (g refl)
    by false g = refl

-- a set without members has no bits
pub none-is : (s : NumberSet) → ((i : ℕ) → has_number s i ≡ false) → (y : ℕ) → has_bits s y ≡ false
none-is s h y = ap (λ t. nat_lt y 4294967296 && t) (h y) ∙ and-false _

-- a choice between true and false is its condition
pub if-true_false : (b : Bool) → (if b then true else false) ≡ b
if-true_false true = refl
if-true_false false = refl

-- what follows from a result
pub ok-as : {T E : Type 0} (P Q : T → Type 0) (r : Result T E) → ((x : T) → P x → Q x) → IfOk r P → IfOk r Q
ok-as P Q (Ok x) f h = f x h
ok-as P Q (Err e) f h = tt

-- what is read from a list, whatever stands for no item
pub read-is : {X : Type 0} (l whole : List X) (i : ℕ) (x d : X) → l ≡ whole → i < length whole → x ≡ get_or l i x → x ≡ get_or whole i d
read-is l whole i x d e less h = h ∙ ap (λ (k : List _). get_or k i x) e ∙ any whole i x d less
  where
    any : {X : Type 0} (l : List X) (i : ℕ) (x d : X) → i < length l → get_or l i x ≡ get_or l i d
    any [] i x d less = absurd (omega arith)
    any (y ∷ l) zero x d less = refl
    any (y ∷ l) (suc i) x d less = any l i x d (omega arith)

-- sets of which each has the other's members are one
pub same-members : (has other : ℕ → Bool) → ((y : ℕ) → has y ≡ true → other y ≡ true) → ((y : ℕ) → other y ≡ true → has y ≡ true) → (y : ℕ) → has y ≡ other y
same-members has other h k y = both (has y) (other y) (h y) (k y)
  where
    both : (a b : Bool) → (a ≡ true → b ≡ true) → (b ≡ true → a ≡ true) → a ≡ b
    both true b h k = sym (h refl)
    both false true h k = k refl
    both false false h k = refl
