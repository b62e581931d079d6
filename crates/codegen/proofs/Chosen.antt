-- Runs by choices are runs of the interpreters.
use Rattle.std.proofs.Common.{ℕ, zero, suc, ◌≡◌, ◌<◌, ◌≤◌, Bool, true, false, cond, List, [], ◌∷◌, length, Option, Some, None, refl, sym, ap, ◌∙◌, subst}
use Rattle.std.proofs.Common.{arith, nat_eq, eq-eqb, eqb-true}
use Rattle.std.specs.Prelude.{option_map, option_and_then}
use Rattle.regalloc2_names.specs.Register.{VirtualRegister}
use Rattle.regalloc2_names.specs.Place.{Place}
use Rattle.regalloc2_function.specs.FunctionValue.{FunctionValue, inst_at}
use Rattle.regalloc2_function.specs.OutputValue.{OutputValue, allocs_of, place_at}
use Rattle.regalloc2_semantics.specs.Runs.{Way, next_of, over_edge}
use Rattle.regalloc2_semantics.specs.Interpreters.{History, InstMeaning, State, read_by, is_late_use, way_on, source_told, vreg_written}
use Rattle.regalloc2_semantics.specs.Interpreters.{source_run, source_step, place_told, place_written, place_run, place_step}
use Rattle.regalloc2_semantics.specs.Alike.{AreAlike, HaveRunAlike, RunAlike}
use Rattle.codegen.proofs.Choices.{Choice, nothing, choice_at, meaning_by, noise_by, leavings, source_next, place_next, place_after, source_reads}
use Rattle.codegen.proofs.Choices.{found_reads, Together, StepsOn, ReadAlike, AlikeByChoices, ChoicesRunAlike}

not_same : (m n : ℕ) → m < n → nat_eq m n ≡ false
not_same m n less = pick (nat_eq m n) refl
  where
    pick : (b : Bool) → nat_eq m n ≡ b → b ≡ false
    pick false e = refl
    pick true e = let same : m ≡ n = eqb-true m n e in absurd (omega (arith, same))

choice_new : (x : Choice) (xs : List Choice) (n : ℕ) → n ≡ suc (length xs) → choice_at (x ∷ xs) n ≡ x
unfolding choice_at
choice_new x xs n e = ap (λ (b : Bool). cond b x (choice_at xs n)) (eq-eqb n (suc (length xs)) e)

choice_old : (x : Choice) (xs : List Choice) (n : ℕ) → n ≤ length xs → choice_at (x ∷ xs) n ≡ choice_at xs n
unfolding choice_at
choice_old x xs n le = ap (λ (b : Bool). cond b x (choice_at xs n)) (not_same n (suc (length xs)) (omega arith))

choice_left : (xs : List Choice) → (choice_at xs (length xs)).leaves ≡ leavings xs
unfolding choice_at
choice_left [] = refl
choice_left (x ∷ xs) = ap (λ (y : Choice). y.leaves) (choice_new x xs (suc (length xs)) refl)

module _ (f : FunctionValue) (out : OutputValue) (virtual : VirtualRegister → ℕ) (places : Place → ℕ) where
  -- a state has read as often as there were steps
  source_longer : (m : InstMeaning) (n : ℕ) (b c : State VirtualRegister) (o : Option Way) → length b.history ≡ n →
      option_map (λ w. record { at = next_of f b.at w; history = source_told f m b; numbers = over_edge f b.at w (vreg_written f m b) }) o ≡ Some c →
      length c.history ≡ suc n
  source_longer m n b c None long g = absurd cc
  source_longer m n b c (Some w) long g =
      let same : record { at = next_of f b.at w; history = source_told f m b; numbers = over_edge f b.at w (vreg_written f m b) } ≡ c = cc in
      ap (λ (s : State VirtualRegister). length s.history) (sym same) ∙ ap suc long

  source_step_long : (m : InstMeaning) (n : ℕ) (x : Option (State VirtualRegister)) (c : State VirtualRegister) →
      ((b : State VirtualRegister) → x ≡ Some b → length b.history ≡ n) → option_and_then (source_step f m) x ≡ Some c → length c.history ≡ suc n
  source_step_long m n None c long g = absurd cc
  source_step_long m n (Some b) c long g = source_longer m n b c (way_on f b.at (m.takes (source_told f m b))) (long b refl) g

  source_long : (m : InstMeaning) (n : ℕ) (c : State VirtualRegister) → source_run f m virtual n ≡ Some c → length c.history ≡ n
  unfolding source_run
  source_long m zero c e = some e refl
    where
      some : {s : State VirtualRegister} → Some s ≡ Some c → length s.history ≡ 0 → length c.history ≡ 0
      some {s} e z = let same : s ≡ c = cc in ap (λ (s : State VirtualRegister). length s.history) (sym same) ∙ z
  source_long m (suc n) c e = source_step_long m n (source_run f m virtual n) c (source_long m n) e

  -- a later choice doesn't affect the steps before it
  source_step_same : (x : Choice) (xs : List Choice) (n : ℕ) → n < length xs → (y z : Option (State VirtualRegister)) → y ≡ z →
      ((b : State VirtualRegister) → z ≡ Some b → length b.history ≡ n) →
      option_and_then (source_step f (meaning_by (x ∷ xs))) y ≡ option_and_then (source_step f (meaning_by xs)) z
  source_step_same x xs n less y z same long =
      ap (option_and_then (source_step f (meaning_by (x ∷ xs)))) same ∙ pick z long
    where
      pick : (z : Option (State VirtualRegister)) → ((b : State VirtualRegister) → z ≡ Some b → length b.history ≡ n) →
          option_and_then (source_step f (meaning_by (x ∷ xs))) z ≡ option_and_then (source_step f (meaning_by xs)) z
      pick None long = refl
      pick (Some b) long =
          let n_is : length b.history ≡ n = long b refl in
          ap (λ (c : Choice). source_next f out c b) (choice_old x xs (suc (length b.history)) (omega (arith, n_is)))

  source_same : (x : Choice) (xs : List Choice) (n : ℕ) → n ≤ length xs → source_run f (meaning_by (x ∷ xs)) virtual n ≡ source_run f (meaning_by xs) virtual n
  unfolding source_run
  source_same x xs zero le = refl
  source_same x xs (suc n) le =
      source_step_same x xs n (omega arith) (source_run f (meaning_by (x ∷ xs)) virtual n) (source_run f (meaning_by xs) virtual n)
      (source_same x xs n (omega arith)) (source_long (meaning_by xs) n)

  -- a step of the interpreter of places adds one entry to its history
  place_longer : (m : InstMeaning) (noise : History → Place → ℕ) (n : ℕ) (b c : State Place) (o : Option Way) → length b.history ≡ n →
      option_map (λ w. record { at = next_of f b.at w; history = place_told f out m noise b; numbers = place_written f out m noise b }) o ≡ Some c →
      length c.history ≡ suc n
  place_longer m noise n b c None long g = absurd cc
  place_longer m noise n b c (Some w) long g =
      let same : record { at = next_of f b.at w; history = place_told f out m noise b; numbers = place_written f out m noise b } ≡ c = cc in
      ap (λ (s : State Place). length s.history) (sym same) ∙ ap suc long

  place_step_long : (m : InstMeaning) (noise : History → Place → ℕ) (n : ℕ) (x : Option (State Place)) (c : State Place) →
      ((b : State Place) → x ≡ Some b → length b.history ≡ n) → option_and_then (place_step f out m noise) x ≡ Some c → length c.history ≡ suc n
  place_step_long m noise n None c long g = absurd cc
  place_step_long m noise n (Some b) c long g = place_longer m noise n b c (way_on f b.at (m.takes (place_told f out m noise b))) (long b refl) g

  place_long : (m : InstMeaning) (noise : History → Place → ℕ) (n : ℕ) (c : State Place) → place_run f out m noise places n ≡ Some c → length c.history ≡ n
  unfolding place_run
  place_long m noise zero c e = some e refl
    where
      some : {s : State Place} → Some s ≡ Some c → length s.history ≡ 0 → length c.history ≡ 0
      some {s} e z = let same : s ≡ c = cc in ap (λ (s : State Place). length s.history) (sym same) ∙ z
  place_long m noise (suc n) c e = place_step_long m noise n (place_run f out m noise places n) c (place_long m noise n) e

  -- a step of places, by two choices: the numbers that the previous one left, and its own
  abbrev place_by : Choice → Choice → State Place → Option (State Place)
  place_by e x d = place_next f out e.leaves x d

  place_step_same : (x : Choice) (xs : List Choice) (n : ℕ) → n < length xs → (y z : Option (State Place)) → y ≡ z →
      ((b : State Place) → z ≡ Some b → length b.history ≡ n) →
      option_and_then (place_step f out (meaning_by (x ∷ xs)) (noise_by (x ∷ xs))) y ≡ option_and_then (place_step f out (meaning_by xs) (noise_by xs)) z
  place_step_same x xs n less y z same long =
      ap (option_and_then (place_step f out (meaning_by (x ∷ xs)) (noise_by (x ∷ xs)))) same ∙ pick z long
    where
      pick : (z : Option (State Place)) → ((b : State Place) → z ≡ Some b → length b.history ≡ n) →
          option_and_then (place_step f out (meaning_by (x ∷ xs)) (noise_by (x ∷ xs))) z ≡ option_and_then (place_step f out (meaning_by xs) (noise_by xs)) z
      pick None long = refl
      pick (Some b) long =
          let n_is : length b.history ≡ n = long b refl in
          ap (λ (e : Choice). place_by e (choice_at (x ∷ xs) (suc (length b.history))) b) (choice_old x xs (length b.history) (omega (arith, n_is)))
          ∙ ap (λ (c : Choice). place_by (choice_at xs (length b.history)) c b) (choice_old x xs (suc (length b.history)) (omega (arith, n_is)))

  place_same : (x : Choice) (xs : List Choice) (n : ℕ) → n ≤ length xs →
      place_run f out (meaning_by (x ∷ xs)) (noise_by (x ∷ xs)) places n ≡ place_run f out (meaning_by xs) (noise_by xs) places n
  unfolding place_run
  place_same x xs zero le = refl
  place_same x xs (suc n) le =
      place_step_same x xs n (omega arith) (place_run f out (meaning_by (x ∷ xs)) (noise_by (x ∷ xs)) places n)
      (place_run f out (meaning_by xs) (noise_by xs) places n) (place_same x xs n (omega arith)) (place_long (meaning_by xs) (noise_by xs) n)

  module _ (alike : RunAlike f out) where
    -- the states at the next choice are alike
    then_alike : (xs : List Choice) (c : State VirtualRegister) (d : State Place) → Together f out virtual places xs c d → (x : Choice) →
        AreAlike f out (meaning_by (x ∷ xs)) (noise_by (x ∷ xs)) c d
    then_alike xs c d t x = pick _ _
        (source_same x xs (length xs) (omega arith) ∙ t.source) (place_same x xs (length xs) (omega arith) ∙ t.place)
        (alike (meaning_by (x ∷ xs)) (noise_by (x ∷ xs)) virtual places (length xs))
      where
        pick : (y : Option (State VirtualRegister)) (z : Option (State Place)) → y ≡ Some c → z ≡ Some d →
            HaveRunAlike f out (meaning_by (x ∷ xs)) (noise_by (x ∷ xs)) y z → AreAlike f out (meaning_by (x ∷ xs)) (noise_by (x ∷ xs)) c d
        pick y z e g h =
            subst (λ (z : Option (State Place)). HaveRunAlike f out (meaning_by (x ∷ xs)) (noise_by (x ∷ xs)) (Some c) z) g
            (subst (λ (y : Option (State VirtualRegister)). HaveRunAlike f out (meaning_by (x ∷ xs)) (noise_by (x ∷ xs)) y z) e h)

    lengths : (xs : List Choice) (c : State VirtualRegister) (d : State Place) → Together f out virtual places xs c d →
        (length c.history ≡ length xs) × (length d.history ≡ length xs)
    lengths xs c d t = (source_long (meaning_by xs) (length xs) c t.source, place_long (meaning_by xs) (noise_by xs) (length xs) d t.place)

    -- the numbers left before the next choice
    left_then : (xs : List Choice) (x : Choice) (n : ℕ) → n ≡ length xs → (choice_at (x ∷ xs) n).leaves ≡ leavings xs
    left_then xs x n e =
        ap (λ (y : Choice). y.leaves) (choice_old x xs n (omega (arith, e))) ∙ ap (λ (k : ℕ). (choice_at xs k).leaves) e ∙ choice_left xs

    reads_alike : (xs : List Choice) (c : State VirtualRegister) (d : State Place) → Together f out virtual places xs c d → ReadAlike f out (leavings xs) c d
    reads_alike xs c d t = record {
      at = (then_alike xs c d t nothing).at;
      reads = subst (λ (e : Place → ℕ). found_reads f out e d ≡ source_reads f out c) (left_then xs nothing (length d.history) (lengths xs c d t).1)
          (then_alike xs c d t nothing).reads;
      late = λ x.
          let a = then_alike xs c d t x in
          let own : choice_at (x ∷ xs) (suc (length d.history)) ≡ x = choice_new x xs (suc (length d.history)) (ap suc (lengths xs c d t).1) in
          let before : (choice_at (x ∷ xs) (length d.history)).leaves ≡ leavings xs = left_then xs x (length d.history) (lengths xs c d t).1 in
          subst (λ (e : Place → ℕ). read_by is_late_use (λ k o. place_after f out e x d (place_at (allocs_of out d.at.inst) k)) 0 (inst_at f d.at.inst).operands
          ≡ read_by is_late_use (λ k o. c.numbers o.vreg) 0 (inst_at f c.at.inst).operands) before
          (subst (λ (y : Choice). read_by is_late_use (λ k o. place_after f out (choice_at (x ∷ xs) (length d.history)).leaves y d (place_at (allocs_of out d.at.inst) k)) 0
          (inst_at f d.at.inst).operands ≡ read_by is_late_use (λ k o. c.numbers o.vreg) 0 (inst_at f c.at.inst).operands) own (a.late ∙ a.still));
    }

    -- both steps
    steps_on : (xs : List Choice) (c : State VirtualRegister) (d : State Place) → Together f out virtual places xs c d → (x : Choice) →
        StepsOn f out virtual places (x ∷ xs) (source_next f out x c) (place_next f out (leavings xs) x d)
    unfolding source_run place_run
    steps_on xs c d t x = pick _ _ source place (alike (meaning_by (x ∷ xs)) (noise_by (x ∷ xs)) virtual places (suc (length xs)))
      where
        source : source_run f (meaning_by (x ∷ xs)) virtual (suc (length xs)) ≡ source_next f out x c
        source = ap (option_and_then (source_step f (meaning_by (x ∷ xs)))) (source_same x xs (length xs) (omega arith) ∙ t.source)
            ∙ ap (λ (y : Choice). source_next f out y c) (choice_new x xs (suc (length c.history)) (ap suc (lengths xs c d t).0))

        place : place_run f out (meaning_by (x ∷ xs)) (noise_by (x ∷ xs)) places (suc (length xs)) ≡ place_next f out (leavings xs) x d
        place = ap (option_and_then (place_step f out (meaning_by (x ∷ xs)) (noise_by (x ∷ xs)))) (place_same x xs (length xs) (omega arith) ∙ t.place)
            ∙ ap (λ (e : Place → ℕ). place_next f out e (choice_at (x ∷ xs) (suc (length d.history))) d) (left_then xs x (length d.history) (lengths xs c d t).1)
            ∙ ap (λ (y : Choice). place_next f out (leavings xs) y d) (choice_new x xs (suc (length d.history)) (ap suc (lengths xs c d t).1))

        pick : (y : Option (State VirtualRegister)) (z : Option (State Place)) →
            source_run f (meaning_by (x ∷ xs)) virtual (suc (length xs)) ≡ y → place_run f out (meaning_by (x ∷ xs)) (noise_by (x ∷ xs)) places (suc (length xs)) ≡ z →
            HaveRunAlike f out (meaning_by (x ∷ xs)) (noise_by (x ∷ xs)) (source_run f (meaning_by (x ∷ xs)) virtual (suc (length xs)))
            (place_run f out (meaning_by (x ∷ xs)) (noise_by (x ∷ xs)) places (suc (length xs))) → StepsOn f out virtual places (x ∷ xs) y z
        pick y z e g h = ends y z e g (subst (λ (z : Option (State Place)). HaveRunAlike f out (meaning_by (x ∷ xs)) (noise_by (x ∷ xs)) y z) g
            (subst (λ (y : Option (State VirtualRegister)). HaveRunAlike f out (meaning_by (x ∷ xs)) (noise_by (x ∷ xs)) y
            (place_run f out (meaning_by (x ∷ xs)) (noise_by (x ∷ xs)) places (suc (length xs)))) e h))
          where
            ends : (y : Option (State VirtualRegister)) (z : Option (State Place)) →
                source_run f (meaning_by (x ∷ xs)) virtual (suc (length xs)) ≡ y →
                place_run f out (meaning_by (x ∷ xs)) (noise_by (x ∷ xs)) places (suc (length xs)) ≡ z →
                HaveRunAlike f out (meaning_by (x ∷ xs)) (noise_by (x ∷ xs)) y z → StepsOn f out virtual places (x ∷ xs) y z
            ends None None e g h = tt
            ends None (Some b) e g h = h
            ends (Some a) None e g h = h
            ends (Some a) (Some b) e g h = record { source = e; place = g }

    by_choices : AlikeByChoices f out virtual places
    unfolding source_run place_run
    by_choices = record {
      begin = record { source = refl; place = refl };
      alike = reads_alike;
      on = steps_on;
    }

pub chosen_run_alike : ChoicesRunAlike
chosen_run_alike f out alike virtual places = by_choices f out virtual places alike
