-- Lemmas on the search for the move that writes a place.
use Rattle.std.proofs.Common.{◌≡◌, ◌≢◌, ℕ, ◌+◌, ◌<◌, ◌≤◌, List, [], ◌∷◌, ◌++◌, length, get_or, Ok, Err, sym, ap, ◌∙◌, subst, ⊎_elim, arith, eqb}
use Rattle.std.specs.Prelude.{IsTrue, ◌↔◌}
use Rattle.std.specs.List.Sorted.{IsBinarySearchResult, IsNonDecreasingBy}
use Rattle.std.specs.Ordering.{nat_cmp, ordering_index}
use Rattle.std.proofs.lemmas.Cmp.{ranked}
use Rattle.std.proofs.lemmas.Bool.Decides.{nat_tests}
use Rattle.std.proofs.lemmas.Bool.{cases_lt, eqb-true, eq-eqb}
use Rattle.std.proofs.lemmas.List.{get_or-map}
use Rattle.std.proofs.lemmas.List.Elements.{Contains-get_or}
use Rattle.regalloc2_names.specs.Place.{Place}
use Rattle.regalloc2_names.specs.PlaceBits.{bits_of_place, place_of_bits}
use Rattle.regalloc2_parts.specs.AtOnce.{Ends, ends, ends_of, IsPlace, no_move}
use Rattle.regalloc2_parts.specs.Giving.{from_at, to_at, number_at, IsWriterOf, AreNexts, AreProper}
use Rattle.regalloc2_parts.proofs.Chains.{length_push, at_left, at_last}
use Rattle.regalloc2_parts.proofs.Lists.{length_ends}
use Rattle.regalloc2_parts.proofs.Places.{same_word}

-- what is written by the move of an index, under any default
written_at : {T : Type 0} (ms : List (Place × Place × T)) (k : ℕ) (d : Place × Place × T) → k < length ms → to_at (ends_of ms) k ≡ (get_or ms k d).1
written_at ms k d r = ap (λ (m : Ends). m.to) (get_or-map ends ms k d no_move r)

-- whether the move of an index writes a place, by the words of both
pub writes_by_word : {T : Type 0} (ms : List (Place × Place × T)) (at : ℕ) (d : Place × Place × T) (place : Place) (a b : ℕ) → at < length ms →
    a ≡ bits_of_place (get_or ms at d).1 → place_of_bits a ≡ (get_or ms at d).1 → b ≡ bits_of_place place → place_of_bits b ≡ place →
    IsTrue (eqb a b) ↔ ((at < length ms) × (to_at (ends_of ms) at ≡ place))
writes_by_word ms at d place a b low word_a place_a word_b place_b = (
  λ e. (low, written_at ms at d low ∙ sym place_a ∙ ap place_of_bits (eqb-true a b e) ∙ place_b),
  λ h. eq-eqb a b (word_a ∙ ap bits_of_place (sym (written_at ms at d low) ∙ h.1) ∙ sym word_b),
)

-- a list that is not empty has a first element
some_in : {M : Type 0} (ms : List M) (k : ℕ) → k < length ms → M
some_in [] k r = absurd (omega arith)
some_in (m ∷ ms) k r = m

module _ {T : Type 0} (ms : List (Place × Place × T)) (proper : AreProper (ends_of ms))
    (sorted : IsNonDecreasingBy (λ (m : Place × Place × T). bits_of_place m.1) ms) (place : Place) (real : IsPlace place) (word : ℕ)
    (is_word : word ≡ bits_of_place place) where
  comparisons_rise : IsNonDecreasingBy (λ (m : Place × Place × T). ordering_index (nat_cmp (bits_of_place m.1) word)) ms
  comparisons_rise i j d le in_range =
      let rise : bits_of_place (get_or ms i d).1 ≤ bits_of_place (get_or ms j d).1 = sorted i j d le in_range in
      grind (arith, nat_tests)

  -- a search that finds a move by its destination's word has found the move that writes the place
  pub found_writer : (at : ℕ) → at < length ms → IsBinarySearchResult (λ (m : Place × Place × T). nat_cmp (bits_of_place m.1) word) ms (Ok at) →
      IsWriterOf (ends_of ms) place at
  found_writer at in_range equal =
      let many : length (ends_of ms) ≡ length ms = length_ends ms in
      let d : Place × Place × T = some_in ms at in_range in
      let words : bits_of_place (get_or ms at d).1 ≡ word = ranked (bits_of_place (get_or ms at d).1) word _ (sym (equal d)) in
      let to_is : to_at (ends_of ms) at ≡ (get_or ms at d).1 = written_at ms at d in_range in
      let low : at < length (ends_of ms) = omega arith in
      record {
        within = omega arith;
        writes = λ l. same_word (to_at (ends_of ms) at) place (proper (get_or (ends_of ms) at no_move) (Contains-get_or (ends_of ms) at no_move low)).1 real
            (ap bits_of_place to_is ∙ words ∙ is_word);
        absent = λ n. absurd (n low);
      }

  -- where it finds none, no move writes the place
  pub no_writer : (at : ℕ) → at ≤ length ms → IsBinarySearchResult (λ (m : Place × Place × T). nat_cmp (bits_of_place m.1) word) ms (Err at) →
      IsWriterOf (ends_of ms) place (length ms)
  no_writer at in_range parted =
      let many : length (ends_of ms) ≡ length ms = length_ends ms in
      record {
        within = omega arith;
        writes = λ l. absurd (omega arith);
        absent = λ n j inside e.
            let low : j < length ms = omega arith in
            let d : Place × Place × T = some_in ms j low in
            let same : bits_of_place (get_or ms j d).1 ≡ word = sym (ap bits_of_place (written_at ms j d low)) ∙ ap bits_of_place e ∙ sym is_word in
            ⊎_elim
            (λ l. let less : bits_of_place (get_or ms j d).1 < word = ranked (bits_of_place (get_or ms j d).1) word _
            (sym ((parted comparisons_rise).0 j d (omega arith) l)) in omega arith)
            (λ h. let more : word < bits_of_place (get_or ms j d).1 = ranked (bits_of_place (get_or ms j d).1) word _
            (sym ((parted comparisons_rise).1 j d h low)) in omega arith)
            (cases_lt j at);
      }

  -- a place whose word no destination has is written by no move
  pub unwritten : ((j : ℕ) (d : Place × Place × T) → j < length ms → bits_of_place (get_or ms j d).1 ≢ bits_of_place place) →
      IsWriterOf (ends_of ms) place (length ms)
  unwritten none =
      let many : length (ends_of ms) ≡ length ms = length_ends ms in
      record {
        within = omega arith;
        writes = λ l. absurd (omega arith);
        absent = λ n j inside e.
            let low : j < length ms = omega arith in
            let d : Place × Place × T = some_in ms j low in
            none j d low (sym (ap bits_of_place (written_at ms j d low)) ∙ ap bits_of_place e);
      }

-- the writers of the first moves' sources
pub record AreNextsTo (ms : List Ends) (nexts : List ℕ) (end : ℕ) : Type 0 where
  pub as_many : length nexts ≡ end
  pub each : (k : ℕ) → k < end → IsWriterOf ms (from_at ms k) (number_at nexts k)

-- a table of all moves' writers
pub nexts_all : (ms : List Ends) (nexts : List ℕ) (end : ℕ) → AreNextsTo ms nexts end → end ≡ length ms → AreNexts ms nexts
nexts_all ms nexts end had all = record {
  as_many = had.as_many ∙ all;
  found = λ k less here. (had.each k (omega (arith, less, all))).writes here;
  absent = λ k less past. (had.each k (omega (arith, less, all))).absent past;
}

-- finding the writer of one more move's source extends the table of writers by one entry
pub nexts_more : (ms : List Ends) (nexts : List ℕ) (end next : ℕ) → AreNextsTo ms nexts end → IsWriterOf ms (from_at ms end) next →
    AreNextsTo ms (nexts ++ next ∷ []) (end + 1)
nexts_more ms nexts end next had is =
    let many : length nexts ≡ end = had.as_many in
    record {
      as_many = length_push nexts next ∙ ap (λ x. x + 1) many;
      each = λ k r. ⊎_elim
          (λ l. subst (λ x. IsWriterOf ms (from_at ms k) x) (sym (at_left nexts next k (omega arith))) (had.each k l))
          (λ h. let e : k ≡ end = omega arith in
          subst (λ x. IsWriterOf ms (from_at ms k) x) (sym (at_last nexts next k (omega arith)))
          (subst (λ x. IsWriterOf ms (from_at ms x) next) (sym e) is))
          (cases_lt k end);
    }
