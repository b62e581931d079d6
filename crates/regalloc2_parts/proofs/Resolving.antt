-- Lemmas on the moves that are returned.
use Rattle.std.proofs.Common.{◌≡◌, ◌≢◌, ℕ, ◌+◌, ◌-◌, ◌<◌, ◌≤◌, Bool, true, false, IsTrue, List, [], ◌∷◌, ◌++◌, length, reverse, get_or, inl, inr}
use Rattle.std.proofs.Common.{refl, sym, ap, ◌∙◌, subst, ⊎_elim, arith}
use Rattle.std.specs.List.{All}
use Rattle.std.specs.Prelude.{Contains}
use Rattle.std.proofs.lemmas.List.{get_or-map, get_or-reverse, length-reverse, map-append, reverse-append}
use Rattle.std.proofs.lemmas.List.Elements.{All-contains, Contains-get_or}
use Rattle.regalloc2_names.specs.Place.{Place, NoPlace}
use Rattle.regalloc2_parts.specs.AtOnce.{Ends, ends, ends_of, own_names, in_turn, AreAtOnce, AreReal, IsRealMove, IsPlace, HasOneSourceEach, IsOfMoves}
use Rattle.regalloc2_parts.specs.AtOnce.{WritesNoneFirst}
use Rattle.regalloc2_parts.specs.Cycles.{IsCounted}
use Rattle.regalloc2_parts.specs.Resolved.{IsResolution, AreBetweenPlaces}
use Rattle.regalloc2_parts.specs.Giving.{number_at, AreMovesApart, AreFair, AreProper, AreNexts, AreBetween, IsTidied, IsOrder}
use Rattle.regalloc2_parts.proofs.Lists.{length_ends, of_itself}
use Rattle.regalloc2_parts.proofs.Tidying.{tidied_apart}
use Rattle.regalloc2_parts.proofs.Runs.{apart_at_once, tidied_at_once, short_apart, free_apart, ordered_at_once, written_first}
use Rattle.regalloc2_parts.proofs.Counting.{order_counted, more_cycle, no_more_cycle, free_no_cycle, free_counted, short_no_cycle}

some_of : {M : Type 0} (ms : List M) (k : ℕ) → k < length ms → M
some_of [] k r = absurd (omega arith)
some_of (m ∷ ms) k r = m

pub All-reversed : {M : Type 0} (P : M → Type 0) (xs : List M) → All P xs → All P (reverse xs)
All-reversed P xs had k d r =
    let same : length (reverse xs) ≡ length xs = length-reverse xs in
    let low : k < length xs = omega arith in
    subst P (sym (get_or-reverse xs k d low)) (had (length xs - 1 - k) d (omega arith))

decided : (b : Bool) → (b ≡ false → ⊥) → IsTrue b
decided true f = refl
decided false f = absurd (f refl)

module _ {T : Type 0} where
  -- what holds of each move holds of each pair of ends
  of_ends : (P : Ends → Type 0) (ms : List (Place × Place × T)) → All (λ m. P (ends m)) ms → (m : Ends) → Contains (ends_of ms) m → P m
  of_ends P ms had m h =
      let many : length (ends_of ms) ≡ length ms = length_ends ms in
      let low : h.0 < length (ends_of ms) = h.1 in
      let within : h.0 < length ms = omega arith in
      let d : Place × Place × T = some_of ms h.0 within in
      subst P (sym (get_or-map ends ms h.0 d m within) ∙ h.2) (had h.0 d within)

  -- the words of the places of real moves give these back
  pub real_proper : (ms : List (Place × Place × T)) → AreReal ms → AreProper (ends_of ms)
  real_proper ms real m h = of_ends (λ (m : Ends). IsPlace m.from × IsPlace m.to) ms
      (λ k d r. let one : IsRealMove (get_or ms k d) = real k d r in (one.0, one.1)) m h

  -- real moves with one source for each destination are fair
  pub real_fair : (ms : List (Place × Place × T)) → HasOneSourceEach (ends_of ms) → AreReal ms → AreFair (ends_of ms)
  real_fair ms one real = record {
    one_source = one;
    real = λ m h. of_ends (λ (m : Ends). (m.from ≡ NoPlace → ⊥) × (m.to ≡ NoPlace → ⊥)) ms
        (λ k d r. let it : IsRealMove (get_or ms k d) = real k d r in (it.2, it.3)) m h;
  }

  between_fair : (ms : List (Place × Place × T)) → AreReal ms → AreBetweenPlaces ms
  between_fair ms real k d r = let it : IsRealMove (get_or ms k d) = real k d r in (it.2, it.3)

  -- what the ends say of each move
  of_between : (ms : List (Place × Place × T)) → AreBetween (ends_of ms) → AreBetweenPlaces ms
  of_between ms had k d r =
      let many : length (ends_of ms) ≡ length ms = length_ends ms in
      let low : k < length (ends_of ms) = omega arith in
      subst (λ (m : Ends). (m.from ≢ NoPlace) × (m.to ≢ NoPlace)) (get_or-map ends ms k d (ends d) r) (had k (ends d) low)

  ends_reverse : (ms : List (Place × Place × T)) → ends_of (reverse ms) ≡ reverse (ends_of ms)
  ends_reverse [] = refl
  ends_reverse (m ∷ ms) = ap ends_of (reverse-append (m ∷ []) ms) ∙ map-append ends (reverse ms) (m ∷ []) ∙ ap (λ xs. xs ++ ends m ∷ []) (ends_reverse ms)
      ∙ sym (reverse-append (ends m ∷ []) (ends_of ms))

  of_all : (ms : List (Place × Place × T)) → All (IsOfMoves ms) ms
  of_all ms k d r = of_itself ms (get_or ms k d) (Contains-get_or ms k d r)

  -- a move of some of the moves is one of them all
  of_more : (old new : List (Place × Place × T)) → ((m : Place × Place × T) → Contains new m → Contains old m) → (m : Place × Place × T) → IsOfMoves new m →
      IsOfMoves old m
  of_more old new given m h = ⊎_elim
      (λ a. inl (a.0, a.1, given a.1 a.2, a.3))
      (λ b. inr (b.0, given b.0 b.1, b.2, b.3, b.4))
      h

  all_tidied : (old new : List (Place × Place × T)) → ((m : Place × Place × T) → Contains new m → Contains old m) → (P : Place × Place × T → Type 0) →
      All P old → All P new
  all_tidied old new given P had k d r = All-contains P old (get_or new k d) had (given (get_or new k d) (Contains-get_or new k d r))

  -- no move, or one
  pub resolves_short : (ms : List (Place × Place × T)) → HasOneSourceEach (ends_of ms) → AreReal ms → length ms ≤ 1 → IsResolution ms false ms
  resolves_short ms one real short =
      let many : length (ends_of ms) ≡ length ms = length_ends ms in
      let fair : AreFair (ends_of ms) = real_fair ms one real in
      record {
        at_once = apart_at_once (ends_of ms) own_names (short_apart (ends_of ms) (omega arith));
        cyclic = (λ e. absurd cc, λ has. absurd (short_no_cycle (ends_of ms) (omega arith) has));
        counted = λ long. absurd (omega arith);
        short = λ s. refl;
        of_moves = of_all ms;
        plain = λ e. between_fair ms real;
        written = written_first (ends_of ms) fair.real;
      }

  -- moves of which no source is a destination
  pub resolves_free : (old new : List (Place × Place × T)) (nexts : List ℕ) → HasOneSourceEach (ends_of old) → AreReal old → 1 < length old →
      IsTidied (ends_of old) (ends_of new) → ((m : Place × Place × T) → Contains new m → Contains old m) → AreNexts (ends_of new) nexts →
      ((k : ℕ) → k < length nexts → length nexts ≤ number_at nexts k) → IsResolution old false new
  resolves_free old new nexts one real long tidied given ns free =
      let fair : AreFair (ends_of old) = real_fair old one real in
      let apart : AreMovesApart (ends_of new) = tidied_apart (ends_of old) (ends_of new) fair tidied in
      let many : length (ends_of new) ≡ length new = length_ends new in
      record {
        at_once = tidied_at_once (ends_of old) (ends_of new) own_names (in_turn (ends_of new) own_names) fair tidied
            (apart_at_once (ends_of new) own_names (free_apart (ends_of new) nexts apart ns free));
        cyclic = (λ e. absurd cc, λ has. absurd (free_no_cycle (ends_of old) (ends_of new) nexts fair tidied apart ns free has));
        counted = λ l. subst (λ n. IsCounted (ends_of old) n) many (free_counted (ends_of old) (ends_of new) nexts fair tidied apart ns free);
        short = λ s. absurd (omega arith);
        of_moves = λ k d r. of_more old new given (get_or new k d) (of_all new k d r);
        plain = λ e. all_tidied old new given (λ m. (m.0 ≢ NoPlace) × (m.1 ≢ NoPlace)) (between_fair old real);
        written = written_first (ends_of new) (λ m h. fair.real m (tidied.of_old m h));
      }

  -- a scratch place is used where there are more moves than were tidied, and nowhere else
  pub record TellsScratch (scratch : Bool) (new made : List (Place × Place × T)) : Type 0 where
    pub more : scratch ≡ true → length new < length made
    pub few : scratch ≡ false → length made ≤ length new

  -- the emitted moves, reversed
  pub resolves_order : (old new given made : List (Place × Place × T)) (nexts : List ℕ) (scratch : Bool) → HasOneSourceEach (ends_of old) → AreReal old →
      1 < length old → IsTidied (ends_of old) (ends_of new) → ((m : Place × Place × T) → Contains new m → Contains old m) → AreNexts (ends_of new) nexts →
      IsOrder (ends_of new) nexts (ends_of given) → All (IsOfMoves new) given → made ≡ reverse given → TellsScratch scratch new made →
      IsResolution old scratch made
  resolves_order old new given made nexts scratch one real long tidied of_old ns order of_moves turned t =
      let fair : AreFair (ends_of old) = real_fair old one real in
      let apart : AreMovesApart (ends_of new) = tidied_apart (ends_of old) (ends_of new) fair tidied in
      let many : length (ends_of new) ≡ length new = length_ends new in
      let size : length (ends_of given) ≡ length given = length_ends given in
      let same : length made ≡ length given = ap length turned ∙ length-reverse given in
      let made_ends : ends_of made ≡ reverse (ends_of given) = ap ends_of turned ∙ ends_reverse given in
      let counted : length (ends_of given) ≡ length (ends_of new) + length order.rings = order.counted in
      record {
        at_once = subst (λ xs. AreAtOnce (ends_of old) own_names (in_turn xs own_names)) (sym made_ends)
            (ordered_at_once (ends_of old) (ends_of new) (ends_of given) own_names fair tidied order.takes);
        cyclic = (
          λ e. more_cycle (ends_of old) (ends_of new) nexts fair tidied apart ns (ends_of given) order
              (let l : length new < length made = t.more e in omega arith),
          λ has. decided scratch (λ e. no_more_cycle (ends_of old) (ends_of new) nexts fair tidied apart ns (ends_of given) order
              (let l : length made ≤ length new = t.few e in omega arith) has),
        );
        counted = λ l. subst (λ n. IsCounted (ends_of old) n) (size ∙ sym same)
            (order_counted (ends_of old) (ends_of new) nexts fair tidied apart ns (ends_of given) order);
        short = λ s. absurd (omega arith);
        of_moves = subst (λ xs. All (IsOfMoves old) xs) (sym turned) (All-reversed (IsOfMoves old) given
            (λ k d r. of_more old new of_old (get_or given k d) (of_moves k d r)));
        plain = λ e. let l : length made ≤ length new = t.few e in
            subst (λ xs. AreBetweenPlaces xs) (sym turned) (All-reversed (λ (m : Place × Place × T). (m.0 ≢ NoPlace) × (m.1 ≢ NoPlace)) given
            (of_between given (order.plain (omega arith))));
        written = subst (λ xs. WritesNoneFirst xs) (sym made_ends) order.written;
      }
