-- Arrays and saved copies whose kept sets get new numbers.
use Rattle.std.proofs.Common.{ℕ, ◌≡◌, ◌+◌, ◌*◌, ◌%◌, ◌-◌, ◌<◌, ◌≤◌, inl, inr, arith, List, length, get_or, sym, ap, ◌∙◌, subst}
use Rattle.std.proofs.Common.{Bool, true, false}
use Rattle.std.specs.Prelude.{◌⊎◌, Contains}
use Rattle.std.proofs.lemmas.Bool.{cases_lt}
use Rattle.std.proofs.lemmas.List.{get_or_default}
use Rattle.std.proofs.lemmas.List.Elements.{Contains-get_or}
use Rattle.regalloc2_index.proofs.Bools.{not_both}
use Rattle.regalloc2_function.specs.Numbers.{NumberSet}
use Rattle.regalloc2_checker_sets.specs.EntrySets.{is_member, IsSetOf}
use Rattle.regalloc2_checker_sets.specs.SavedCopies.{Copies, number_in_cell}
use Rattle.regalloc2_checker_sets.specs.SavedNumbers.{NumberCopies, copy_count, saved_number, number_now, AreChunksKept}
use Rattle.regalloc2_checker_sets.specs.Renumbering.{renamed, IsMarked, AreMarkedKept, AppearsIn, AreOfSets, HaveSameMembers}
use Rattle.regalloc2_checker_sets.proofs.MovedDown.{renamed-few}

-- the new number of one in a list is in the new list
pub contains-renamed : (old new numbers : List ℕ) (n : ℕ) → length new ≡ length old →
    ((i : ℕ) → get_or new i 0 ≡ renamed numbers (get_or old i 0)) → Contains old n → Contains new (renamed numbers n)
contains-renamed old new numbers n long h (k, less, e) =
    subst (Contains new) (h k ∙ ap (renamed numbers) (get_or_default old k 0 n less ∙ e)) (Contains-get_or new k 0 (omega (arith, less, long)))

pub appears-renamed : (e : NumberCopies) (words ws xs cells cs ys numbers : List ℕ) (n : ℕ) → e.words ≡ words → e.cells ≡ cells → xs ≡ ws → ys ≡ cs →
    length ws ≡ length words → length cs ≡ length cells → ((i : ℕ) → get_or ws i 0 ≡ renamed numbers (get_or words i 0)) →
    ((i : ℕ) → get_or cs i 0 ≡ renamed numbers (get_or cells i 0)) → AppearsIn e n → Contains xs (renamed numbers n) ⊎ Contains ys (renamed numbers n)
appears-renamed e words ws xs cells cs ys numbers n w c wn cn wl cl wr cr (inl a) =
    inl (subst (λ (l : List ℕ). Contains l (renamed numbers n)) (sym wn)
    (contains-renamed words ws numbers n wl wr (subst (λ (l : List ℕ). Contains l n) w a)))
appears-renamed e words ws xs cells cs ys numbers n w c wn cn wl cl wr cr (inr a) =
    inr (subst (λ (l : List ℕ). Contains l (renamed numbers n)) (sym cn)
    (contains-renamed cells cs numbers n cl cr (subst (λ (l : List ℕ). Contains l n) c a)))

-- a number of a list is the new one, under other names of the lists
pub back-renamed : (words w ws xs numbers : List ℕ) (i : ℕ) → words ≡ w → xs ≡ ws → ((i : ℕ) → get_or ws i 0 ≡ renamed numbers (get_or w i 0)) →
    get_or xs i 0 ≡ renamed numbers (get_or words i 0)
back-renamed words w ws xs numbers i e d h =
    ap (λ (l : List ℕ). get_or l i 0) d ∙ h i ∙ ap (λ (l : List ℕ). renamed numbers (get_or l i 0)) (sym e)

-- the chunks of an array are where they were
pub chunks-renamed : (words w ws xs cells c cs ys numbers : List ℕ) (bases : Copies) → words ≡ w → cells ≡ c → xs ≡ ws → ys ≡ cs → length ws ≡ length w →
    length cs ≡ length c → ((i : ℕ) → get_or ws i 0 ≡ renamed numbers (get_or w i 0)) → ((i : ℕ) → get_or cs i 0 ≡ renamed numbers (get_or c i 0)) →
    AreChunksKept words cells bases → AreChunksKept xs ys bases
chunks-renamed words w ws xs cells c cs ys numbers bases we ce xe ye wl cl wr cr h =
    let long : length ys ≡ length cells = ap (λ (l : List ℕ). length l) ye ∙ cl ∙ ap (λ (l : List ℕ). length l) (sym ce) in
    let longs : length xs ≡ length words = ap (λ (l : List ℕ). length l) xe ∙ wl ∙ ap (λ (l : List ℕ). length l) (sym we) in
    record {
      whole = subst (λ (n : ℕ). n % 64 ≡ 0) (sym long) h.whole;
      long = omega (arith, long, h.long);
      within = λ k j l. (let o = h.within k j l in omega (arith, longs, o));
      small = h.small;
      known = λ j l small.
          let o = h.known j l small in
          let b = number_in_cell bases j in
          record {
            within = omega (arith, longs, o.within);
            same = λ t lt. ap (λ (l : List ℕ). get_or l (64 * j + t) 0) ye ∙ cr (64 * j + t)
                ∙ ap (λ (l : List ℕ). renamed numbers (get_or l (64 * j + t) 0)) (sym ce) ∙ ap (renamed numbers) (o.same t lt)
                ∙ ap (λ (l : List ℕ). renamed numbers (get_or l (b + t) 0)) we ∙ sym (wr (b + t))
                ∙ ap (λ (l : List ℕ). get_or l (b + t) 0) (sym xe);
          };
      past_now = λ j high l. h.past_now j (omega (arith, high, long)) l;
      past_saved = λ k j high l. h.past_saved k j (omega (arith, high, long)) l;
    }

-- sets got new numbers
pub members-renamed : (s t : List NumberSet) (e f : NumberCopies) (marks : List Bool) (numbers : List ℕ) → AreOfSets s e → IsSetOf s 0 (λ y. false) →
    AreMarkedKept marks s t numbers → copy_count f ≡ copy_count e → length f.cells ≡ length e.cells →
    ((i : ℕ) → i < length e.cells → IsMarked marks (number_now e i)) → ((k i : ℕ) → i < length e.cells → IsMarked marks (saved_number e k i)) →
    ((i : ℕ) → number_now f i ≡ renamed numbers (number_now e i)) → ((k i : ℕ) → saved_number f k i ≡ renamed numbers (saved_number e k i)) →
    HaveSameMembers s e t f
members-renamed s t e f marks numbers h z m count long now_marked saved_marked now_renamed saved_renamed =
    let few : IsMarked marks 0 = λ high. absurd (omega (arith, high)) in
    record {
      count = count;
      long = long;
      below = record {
        now = λ i l. subst (λ (n : ℕ). n < length t) (sym (now_renamed i))
            (m.below (number_now e i) (h.now i (omega (arith, l, long))) (now_marked i (omega (arith, l, long))));
        tables = λ k i l. subst (λ (n : ℕ). n < length t) (sym (saved_renamed k i))
            (m.below (saved_number e k i) (h.tables k i (omega (arith, l, long))) (saved_marked k i (omega (arith, l, long))));
      };
      empty = record {
        below = subst (λ (n : ℕ). n < length t) (renamed-few numbers 0 (omega arith)) (m.below 0 z.below few);
        members = λ y. ap (λ n. is_member t n y) (sym (renamed-few numbers 0 (omega arith))) ∙ m.members 0 y z.below few ∙ z.members y;
      };
      now = λ i y l. ap (λ n. is_member t n y) (now_renamed i) ∙ m.members (number_now e i) y (h.now i l) (now_marked i l);
      tables = λ k i y l. ap (λ n. is_member t n y) (saved_renamed k i) ∙ m.members (saved_number e k i) y (h.tables k i l) (saved_marked k i l);
    }

-- each set that is still kept has a number that appears
pub kept-appears : (s t : List NumberSet) (e f : NumberCopies) (blank marks : List Bool) (numbers : List ℕ) → AreMarkedKept marks s t numbers →
    length s ≡ 2147483648 + length blank → ((j : ℕ) → j < length blank → get_or blank j true ≡ false) →
    ((j : ℕ) → get_or marks j true ≡ true → (get_or blank j true ≡ true) ⊎ AppearsIn e (2147483648 + j)) →
    ((n : ℕ) → AppearsIn e n → AppearsIn f (renamed numbers n)) → (n : ℕ) → 2147483648 ≤ n → n < length t → AppearsIn f n
kept-appears s t e f blank marks numbers m long none only all n high l =
    let (o, less, is, number) = m.each n l in
    elim (cases_lt o 2147483648) [
      | inl low ↦ absurd (small o n (sym (renamed-few numbers o low) ∙ number) low high)
      | inr big ↦ elim (only (o - 2147483648) (is big)) [
        | inl q ↦ absurd (not_both (get_or blank (o - 2147483648) true) q (none (o - 2147483648) (omega (arith, less, long, big))))
        | inr a ↦ subst (AppearsIn f) number (all o (subst (AppearsIn e) (back o big) a))
      ]
    ]
  where
    small : (o n : ℕ) → o ≡ n → o < 2147483648 → 2147483648 ≤ n → ⊥
    small o n e low high = absurd (omega (arith, e, low, high))

    back : (o : ℕ) → 2147483648 ≤ o → 2147483648 + (o - 2147483648) ≡ o
    back o high = omega (arith, high)

-- equal marks keep the same sets
pub kept-as : (marks new_marks : List Bool) (s t : List NumberSet) (numbers new_numbers : List ℕ) → marks ≡ new_marks → numbers ≡ new_numbers →
    AreMarkedKept marks s t numbers → AreMarkedKept new_marks s t new_numbers
kept-as marks new_marks s t numbers new_numbers e d h =
    subst (λ (m : List Bool). AreMarkedKept m s t new_numbers) e (subst (AreMarkedKept marks s t) d h)
