-- Closures that return two places in turn, and what a resolver requires of them.
use Rattle.std.proofs.Common.{◌≡◌, ◌≢◌, Bool, true, false, List, Option, None, Some, sym, ap, ◌∙◌, inl, inr}
use Rattle.std.specs.Prelude.{◌⊎◌}
use Rattle.std.proofs.lemmas.Bool.{both_ways}
use Rattle.regalloc2_names.specs.Place.{Place, NoPlace, InRegister, is_in_slot}
use Rattle.regalloc2_names.specs.Register.{Register}
use Rattle.regalloc2_parts.specs.Computed.{Owes, MayAnswer, AnswersDiffer}
use Rattle.regalloc2_parts.specs.Resolved.{IsUnnamed}
use Rattle.regalloc2_tests.specs.Serving.{AreApart, Serves}

-- a call returns the first place, or none if there is none, and the next call the second one
abbrev pub IsHandedInTurn : {G : Type 0} → (G → Option Place → G → Type 0) → G → Option Place → Option Place → Type 0
IsHandedInTurn {G} step s first second = (a : Option Place) (t : G) → step s a t → (a ≡ first) × ((b : Option Place) (u : G) → step t b u → b ≡ second)

module _ {G : Type 0} (step : G → Option Place → G → Type 0) (s : G) (first second : Option Place) (in_turn : IsHandedInTurn step s first second) where
  answered : (p : Place) → MayAnswer step s p → (first ≡ Some p) ⊎ (second ≡ Some p)
  answered p (inl (t, k)) = inl (sym (in_turn (Some p) t k).0)
  answered p (inr (a, m, t, k, l)) = inr (sym ((in_turn a m k).1 (Some p) t l))

  differ : AreApart first second → AnswersDiffer step s
  differ apart p q m t k l e = apart p q (sym (in_turn (Some p) m k).0) (sym ((in_turn (Some p) m k).1 (Some q) t l)) e

  -- where both places serve, each that is returned does
  served : {T : Type 0} (ms : List (Place × Place × T)) (is_slot : Bool) → Serves ms first is_slot → Serves ms second is_slot → (p : Place) →
      MayAnswer step s p → (is_in_slot p ≡ is_slot) × (p ≢ NoPlace) × IsUnnamed p ms
  served ms is_slot one two p a = elim (answered p a) [
    | inl e ↦ one p e
    | inr e ↦ two p e
  ]

-- a resolver whose closures return a register and two slots that serve is given what it requires
pub owes_in_turn : {F G T : Type 0} (registers : F → Option Place → F → Type 0) (slots : G → Option Place → G → Type 0) (stack : Place → Bool → Type 0)
    (register slot last : Option Place) (f : F) (g : G) (ms : List (Place × Place × T)) (borrowed : Register) → IsHandedInTurn registers f register None →
    IsHandedInTurn slots g slot last → Serves ms register false → Serves ms slot true → Serves ms last true → AreApart slot last →
    ((p : Place) (b : Bool) → stack p b → b ≡ is_in_slot p) → Owes registers slots stack (InRegister borrowed) ms f g
owes_in_turn registers slots stack register slot last f g ms borrowed one two serves serves_slot serves_last apart tells =
    let free = served registers f register None one ms false serves (λ p e. let no : None ≡ Some p = e in absurd cc) in
    let unused = served slots g slot last two ms true serves_slot serves_last in
    record {
      free = λ p a. ((free p a).1, (free p a).2);
      unused = λ p a. ((unused p a).1, (unused p a).2);
      registers_differ = differ registers f register None one (λ p q e no. absurd cc);
      slots_differ = differ slots g slot last two apart;
      apart = λ p q a b e. both_ways (is_in_slot p) (free p a).0 (ap is_in_slot e ∙ (unused q b).0);
      no_memory = λ p a yes. both_ways (is_in_slot p) (free p a).0 (sym (tells p true yes));
      borrowed_no_memory = λ yes. let e : true ≡ false = tells (InRegister borrowed) true yes in cc;
    }
