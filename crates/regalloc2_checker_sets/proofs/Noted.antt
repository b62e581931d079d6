-- What is noted of sets that were made of others.
use Rattle.std.proofs.Common.{inl, inr, ℕ, ◌≡◌, ◌<◌, arith, Bool, true, false, nat_eq, List, [], refl, sym, ap, ◌∙◌, get_or, length, subst}
use Rattle.std.specs.Prelude.{◌&&◌, ◌⊎◌, if◌then◌else◌, Option, None, Some, IfSome}
use Rattle.std.proofs.lemmas.Bool.{cases_lt}
use Rattle.std.proofs.lemmas.List.{get_or_past}
use Rattle.regalloc2_function.specs.Numbers.{NumberSet}
use Rattle.regalloc2_checker_sets.specs.EntrySets.{is_member, IsSetOf, AreMore, IsLess, IsChangeOf, IsMeetOf, AreNoted, AreNotes}
use Rattle.regalloc2_checker_sets.specs.declared.notes.Noted.{Noted}

-- a list of nothing has nothing, also past its end
pub none-noted : (l : List (Option Noted)) (n : ℕ) → length l ≡ n → ((k : ℕ) → k < n → get_or l k None ≡ None) → (i : ℕ) (e : Noted) →
    get_or l i None ≡ Some e → ⊥
none-noted l n long h i e at = elim (cases_lt i n) [
  | inl low ↦ none-some (sym (h i low) ∙ at)
  | inr high ↦ none-some (sym (get_or_past l i None (omega arith)) ∙ at)
]
  where
    none-some : ◌≡◌ {A = Option Noted} None (Some e) → ⊥
    none-some q = absurd cc

-- a value that is no `Some` is `None`
pub only_none : {X : Type 0} (H : Option X → Type 0) → ((x : X) → H (Some x) → ⊥) → (y : Option X) → H y → y ≡ None
only_none H none None h = refl
only_none H none (Some x) h = absurd (none x h)

-- nothing is noted
pub noted-none : (Is : ℕ → ℕ → ℕ → Type 0) → AreNoted Is []
noted-none Is i e h = absurd cc

-- one more is noted
pub noted-one : (Is : ℕ → ℕ → ℕ → Type 0) (old new : List (Option Noted)) (set other number : ℕ) → Is set other number → AreNoted Is old →
    ((i : ℕ) (e : Noted) → get_or new i None ≡ Some e →
    ((j : ℕ) × (get_or old j None ≡ Some e)) ⊎ (e ≡ record { from = set; other = other; number = number })) → AreNoted Is new
noted-one Is old new set other number is h more i e at = elim (more i e at) [
  | inl was ↦ h was.0 e was.1
  | inr now ↦ subst (λ (x : Noted). Is x.from x.other x.number) (sym now) is
]

-- what is so of a set that is noted
pub noted-at : (Is : ℕ → ℕ → ℕ → Type 0) (notes : List (Option Noted)) (set other number : ℕ) → AreNoted Is notes →
    (i : ℕ) × (get_or notes i None ≡ Some record { from = set; other = other; number = number }) → Is set other number
noted-at Is notes set other number h at = h at.0 record { from = set; other = other; number = number } at.1

-- where sets are added, changes and meets stay
pub change-more : (b : Bool) (sets new : List NumberSet) → AreMore sets new → (set bits number : ℕ) → IsChangeOf b sets set bits number →
    IsChangeOf b new set bits number
change-more b sets new m set bits number k =
    let longer = m.longer in
    let low = k.below in
    let is = k.is in
    let below = is.below in
    record {
      below = omega (arith, low, longer);
      is = record {
        below = omega (arith, below, longer);
        members = λ y. m.kept number y below ∙ is.members y ∙ sym (ap (λ t. if nat_eq y bits then b else t) (m.kept set y low));
      };
    }

pub meet-more : (sets new : List NumberSet) → AreMore sets new → (set other number : ℕ) → IsMeetOf sets set other number → IsMeetOf new set other number
meet-more sets new m set other number k =
    let longer = m.longer in
    let low = k.below in
    let low-other = k.other_below in
    let is = k.is in
    let below = is.below in
    record {
      below = omega (arith, low, longer);
      other_below = omega (arith, low-other, longer);
      is = record {
        below = omega (arith, below, longer);
        members = λ y. m.kept number y below ∙ is.members y
            ∙ sym (ap (λ t. t && is_member new other y) (m.kept set y low) ∙ ap (λ t. is_member sets set y && t) (m.kept other y low-other));
      };
      less = λ n. less-more (k.less n) low low-other;
    }
  where
    less-more : IsLess (is_member sets set) (is_member sets other) → set < length sets → other < length sets → IsLess (is_member new set) (is_member new other)
    less-more l a c = record {
      bits = l.bits;
      small = l.small;
      here = m.kept set l.bits a ∙ l.here;
      not_there = m.kept other l.bits c ∙ l.not_there;
    }

pub noted-more : (P Q : ℕ → ℕ → ℕ → Type 0) (notes : List (Option Noted)) → ((set other number : ℕ) → P set other number → Q set other number) →
    AreNoted P notes → AreNoted Q notes
noted-more P Q notes f h i e at = f e.from e.other e.number (h i e at)

-- a set that was made of another one, with bits put in or taken out, in terms of the sets that there are then
pub change-now : (b : Bool) (old new : List NumberSet) (set bits number : ℕ) → AreMore old new → set < length old →
    IsSetOf new number (λ y. if nat_eq y bits then b else is_member old set y) → IsChangeOf b new set bits number
change-now b old new set bits number m low is =
    let longer = m.longer in
    record {
      below = omega (arith, low, longer);
      is = record {
        below = is.below;
        members = λ y. is.members y ∙ sym (ap (λ t. if nat_eq y bits then b else t) (m.kept set y low));
      };
    }

pub meet-now : (old new : List NumberSet) (set other number : ℕ) → AreMore old new → set < length old → other < length old →
    IsSetOf new number (λ y. is_member old set y && is_member old other y) → ((number ≡ set → ⊥) → IsLess (is_member old set) (is_member old other)) →
    IsMeetOf new set other number
meet-now old new set other number m low low-other is less =
    let longer = m.longer in
    record {
      below = omega (arith, low, longer);
      other_below = omega (arith, low-other, longer);
      is = record {
        below = is.below;
        members = λ y. is.members y
            ∙ sym (ap (λ t. t && is_member new other y) (m.kept set y low) ∙ ap (λ t. is_member old set y && t) (m.kept other y low-other));
      };
      less = λ n. less-more (less n);
    }
  where
    less-more : IsLess (is_member old set) (is_member old other) → IsLess (is_member new set) (is_member new other)
    less-more l = record {
      bits = l.bits;
      small = l.small;
      here = m.kept set l.bits low ∙ l.here;
      not_there = m.kept other l.bits low-other ∙ l.not_there;
    }

pub notes-none : (sets : List NumberSet) → AreNotes sets [] [] []
notes-none sets = record { puts = noted-none _; takes = noted-none _; meets = noted-none _ }

pub notes-more : (sets new : List NumberSet) (grown shrunk met : List (Option Noted)) → AreMore sets new → AreNotes sets grown shrunk met →
    AreNotes new grown shrunk met
notes-more sets new grown shrunk met m n = record {
  puts = noted-more (IsChangeOf true sets) (IsChangeOf true new) grown (change-more true sets new m) n.puts;
  takes = noted-more (IsChangeOf false sets) (IsChangeOf false new) shrunk (change-more false sets new m) n.takes;
  meets = noted-more (IsMeetOf sets) (IsMeetOf new) met (meet-more sets new m) n.meets;
}

-- where sets are added, what a memo notes stays so
pub memo-more : {M : Type 0} (grown shrunk met : M → List (Option Noted)) (memo : Option M) (sets new : List NumberSet) → AreMore sets new →
    IfSome memo (λ m. AreNotes sets (grown m) (shrunk m) (met m)) → IfSome memo (λ m. AreNotes new (grown m) (shrunk m) (met m))
memo-more grown shrunk met None sets new m h = h
memo-more grown shrunk met (Some x) sets new m h = notes-more sets new (grown x) (shrunk x) (met x) m h

-- what a memo notes, where there is one
pub memo-at : {M : Type 0} (P : M → Type 0) (memo : Option M) (x : M) → memo ≡ Some x → IfSome memo P → P x
memo-at {M} P memo x e h = subst (λ (o : Option M). IfSome o P) e h
