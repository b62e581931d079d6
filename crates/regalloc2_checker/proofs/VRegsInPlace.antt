-- The vregs that a place holds, as they are found.
use Rattle.std.proofs.Common.{ℕ, zero, suc, ◌≡◌, ◌≢◌, ◌+◌, ◌-◌, ◌<◌, ◌≤◌, inl, inr, arith, Bool}
use Rattle.std.proofs.Common.{true, false, List, [], ◌∷◌, ◌++◌, length, get_or, map, refl, sym, ap, ◌∙◌, subst}
use Rattle.std.specs.Prelude.{◌⊎◌, ◌↔◌, ◌&&◌, Contains, None, Some}
use Rattle.std.specs.List.Sorted.{IsStrictlyIncreasing}
use Rattle.std.proofs.lemmas.Bool.{cases_lt, lt-ltb}
use Rattle.std.proofs.lemmas.List.{map-append, length-map, get_or_default, get_or_append_left, get_or-append_right}
use Rattle.std.proofs.lemmas.List.Elements.{Contains-append_left, Contains-append_right, Contains-append_cases}
use Rattle.std.proofs.Math.ListN.{length-append}
use Rattle.regalloc2_index.proofs.Bools.{and_second}
use Rattle.regalloc2_names.specs.Register.{VirtualRegister}
use Rattle.regalloc2_names.specs.RegisterBits.{bits_of_vreg, vreg_of_bits}
use Rattle.regalloc2_names.specs.Place.{Place}
use Rattle.regalloc2_checker.specs.Showing.{Showing, shows_now}
use Rattle.regalloc2_checker.proofs.Positions.{rising}
use Rattle.regalloc2_checker.specs.Report.{AreVRegsInValue}
use Rattle.regalloc2_checker.specs.TableFacts.{is_packed, is_packed_vreg, place_in, facts_now}
use Rattle.regalloc2_checker.proofs.Keys.{vreg_back}
use Rattle.regalloc2_checker.proofs.TableSteps.{facts-at, unlisted-holds}

-- bits are among the first of a list
abbrev pub IsAmong : List ℕ → ℕ → ℕ → Type 0
IsAmong members k y = (i : ℕ) × (i < k) × (get_or members i 0 ≡ y)

-- the vregs of the first k bits of a list are found
pub record AreFound (members : List ℕ) (k : ℕ) (found : List VirtualRegister) : Type 0 where
  pub members_are : (v : VirtualRegister) → Contains found v ↔ IsAmong members k (bits_of_vreg v)
  pub found_rise : IsStrictlyIncreasing (map bits_of_vreg found)
  pub below : (j m : ℕ) → j < length found → k ≤ m → m < length members → get_or (map bits_of_vreg found) j 0 < get_or members m 0
  pub packed : (v : VirtualRegister) → Contains found v → is_packed_vreg v ≡ true

-- none is found yet
pub found_none : (members : List ℕ) (found : List VirtualRegister) → found ≡ [] → AreFound members 0 found
found_none members found e = subst (λ (vs : List VirtualRegister). AreFound members 0 vs) (sym e) (record {
  members_are = λ v. (λ c. absurd (omega (arith, c.1)), λ a. absurd (omega (arith, a.1)));
  found_rise = λ i less. absurd (omega (arith, less));
  below = λ j m less low high. absurd (omega (arith, less));
  packed = λ v c. absurd (omega (arith, c.1));
})

-- bits that encode no vreg
pub found_skip : (members : List ℕ) (k y : ℕ) (found : List VirtualRegister) → k < length members → y ≡ get_or members k y →
    ((v : VirtualRegister) → bits_of_vreg v ≢ y) →
    AreFound members k found → AreFound members (k + 1) found
found_skip members k y found less was other h = let is : y ≡ get_or members k 0 = was ∙ get_or_default members k y 0 less in record {
  members_are = λ v. (
    λ c. let a = (h.members_are v).0 c in (a.0, omega (arith, a.1), a.2),
    λ a. elim (cases_lt a.0 k) [
      | inl l ↦ (h.members_are v).1 (a.0, l, a.2)
      | inr g ↦ (
          let e : a.0 ≡ k = omega (arith, a.1) in
          absurd (other v (sym a.2 ∙ ap (λ n. get_or members n 0) e ∙ sym is))
          )
    ],
  );
  found_rise = h.found_rise;
  below = λ j m less low high. h.below j m less (omega (arith, low)) high;
  packed = h.packed;
}

-- a vreg with small bits has a packed name
packed_small : (v : VirtualRegister) → bits_of_vreg v < 4294967296 → is_packed_vreg v ≡ true
packed_small v small = lt-ltb v.number 1073741824 (omega (arith, small))

only_one : (x v : VirtualRegister) → Contains (x ∷ []) v → x ≡ v
only_one x v (zero, less, at) = at
only_one x v (suc k, less, at) = absurd (omega arith)

-- bits of one
pub found_more : (members : List ℕ) (k y : ℕ) (x : VirtualRegister) (found new : List VirtualRegister) → IsStrictlyIncreasing members → k < length members →
    y ≡ get_or members k y → bits_of_vreg x ≡ y → y < 4294967296 → new ≡ found ++ (x ∷ []) → AreFound members k found → AreFound members (k + 1) new
found_more members k y x found new rise less was bits small e h = subst (λ (vs : List VirtualRegister). AreFound members (k + 1) vs) (sym e) (record {
  members_are = λ v. (
    λ c. there v (Contains-append_cases found (x ∷ []) v c),
    λ a. elim (cases_lt a.0 k) [
      | inl l ↦ Contains-append_left found (x ∷ []) v ((h.members_are v).1 (a.0, l, a.2))
      | inr g ↦ (
          let d : a.0 ≡ k = omega (arith, a.1) in
          let q : bits_of_vreg x ≡ bits_of_vreg v = bits ∙ is ∙ sym (ap (λ n. get_or members n 0) d) ∙ a.2 in
          let s : x ≡ v = sym (vreg_back x) ∙ ap vreg_of_bits q ∙ vreg_back v in
          Contains-append_right found (x ∷ []) v (subst (λ (w : VirtualRegister). Contains (x ∷ []) w) s (0, omega arith, refl))
          )
    ],
  );
  found_rise = λ i l. rises i (omega (arith, l, long));
  below = λ j m l low high. under j m (omega (arith, l, length-append found (x ∷ []))) low high;
  packed = λ v c. both v (Contains-append_cases found (x ∷ []) v c);
})
  where
    is : y ≡ get_or members k 0
    is = was ∙ get_or_default members k y 0 less

    there : (v : VirtualRegister) → Contains found v ⊎ Contains (x ∷ []) v → IsAmong members (k + 1) (bits_of_vreg v)
    there v (inl c) = (let a = (h.members_are v).0 c in (a.0, omega (arith, a.1), a.2))
    there v (inr c) = (k, omega arith, sym is ∙ sym bits ∙ ap bits_of_vreg (only_one x v c))

    both : (v : VirtualRegister) → Contains found v ⊎ Contains (x ∷ []) v → is_packed_vreg v ≡ true
    both v (inl c) = h.packed v c
    both v (inr c) = subst (λ (w : VirtualRegister). is_packed_vreg w ≡ true) (only_one x v c) (packed_small x (omega (arith, bits, small)))

    whole : map bits_of_vreg (found ++ (x ∷ [])) ≡ map bits_of_vreg found ++ (bits_of_vreg x ∷ [])
    whole = map-append bits_of_vreg found (x ∷ [])

    size : length (map bits_of_vreg found) ≡ length found
    size = length-map found bits_of_vreg

    long : length (map bits_of_vreg (found ++ (x ∷ []))) ≡ length found + 1
    long = length-map (found ++ (x ∷ [])) bits_of_vreg ∙ length-append found (x ∷ [])

    early : (j : ℕ) → j < length found → get_or (map bits_of_vreg (found ++ (x ∷ []))) j 0 ≡ get_or (map bits_of_vreg found) j 0
    early j l = ap (λ (ns : List ℕ). get_or ns j 0) whole ∙ get_or_append_left (map bits_of_vreg found) (bits_of_vreg x ∷ []) 0 j (omega (arith, size, l))

    last : (j : ℕ) → j ≡ length found → get_or (map bits_of_vreg (found ++ (x ∷ []))) j 0 ≡ get_or members k 0
    last j q =
        ap (λ (ns : List ℕ). get_or ns j 0) whole
        ∙ get_or-append_right (map bits_of_vreg found) (bits_of_vreg x ∷ []) (length found) j 0 size (omega (arith, q))
        ∙ (let z : j - length found ≡ 0 = omega (arith, q) in ap (λ n. get_or (bits_of_vreg x ∷ []) n 0) z)
        ∙ bits ∙ is

    rises : (i : ℕ) → i + 1 < length found + 1 →
        get_or (map bits_of_vreg (found ++ (x ∷ []))) i 0 < get_or (map bits_of_vreg (found ++ (x ∷ []))) (i + 1) 0
    rises i l = elim (cases_lt (i + 1) (length found)) [
      | inl b ↦ (
          let p = early i (omega (arith, b)) in
          let q = early (i + 1) b in
          let r : get_or (map bits_of_vreg found) i 0 < get_or (map bits_of_vreg found) (i + 1) 0 = h.found_rise i (omega (arith, size, b)) in
          omega (arith, p, q, r)
          )
      | inr g ↦ (
          let p = early i (omega (arith, l)) in
          let q = last (i + 1) (omega (arith, l, g)) in
          let r = h.below i k (omega (arith, l)) (omega arith) less in
          omega (arith, p, q, r)
          )
    ]

    under : (j m : ℕ) → j < length found + 1 → k + 1 ≤ m → m < length members →
        get_or (map bits_of_vreg (found ++ (x ∷ []))) j 0 < get_or members m 0
    under j m l low high = elim (cases_lt j (length found)) [
      | inl b ↦ (let p = early j b in let r = h.below j m b (omega (arith, low)) high in omega (arith, p, r))
      | inr g ↦ (let p = last j (omega (arith, l, g)) in let r = rising members rise k m (omega (arith, low)) high in omega (arith, p, r))
    ]

-- what a listed place holds
pub holds_at : (t : Showing) (p : Place) (i : ℕ) (v : VirtualRegister) → place_in t.places p ≡ Some i → is_packed p ≡ true → is_packed_vreg v ≡ true →
    shows_now t i (bits_of_vreg v) ≡ facts_now t p v
holds_at t p i v at packed pv =
    sym (facts-at t.places (shows_now t) p v (Some i) at ∙ ap (λ b. b && (is_packed_vreg v && shows_now t i (bits_of_vreg v))) packed
    ∙ ap (λ b. b && shows_now t i (bits_of_vreg v)) pv)

-- what is a fact is shown
shown_of : (t : Showing) (p : Place) (i : ℕ) (v : VirtualRegister) → place_in t.places p ≡ Some i → facts_now t p v ≡ true →
    shows_now t i (bits_of_vreg v) ≡ true
shown_of t p i v at e = and_second _ _ (and_second _ _ (sym (facts-at t.places (shows_now t) p v (Some i) at) ∙ e))

-- all are found
pub found_all : (t : Showing) (p : Place) (i : ℕ) (members : List ℕ) (k : ℕ) (found : List VirtualRegister) → place_in t.places p ≡ Some i →
    is_packed p ≡ true → ((y : ℕ) → Contains members y ↔ (shows_now t i y ≡ true)) → length members ≤ k → k ≤ length members → AreFound members k found →
    AreVRegsInValue (λ v. facts_now t p v ≡ true) found
found_all t p i members k found at packed listed long short h = record {
  members = λ v. (
    λ c. let a = (h.members_are v).0 c in
        sym (holds_at t p i v at packed (h.packed v c))
        ∙ (listed (bits_of_vreg v)).0 (a.0, omega (arith, a.1, short), any a.0 (bits_of_vreg v) (omega (arith, a.1, short)) a.2),
    λ e. let c = (listed (bits_of_vreg v)).1 (shown_of t p i v at e) in
        (h.members_are v).1 (c.0, omega (arith, c.1, long), back c.0 (bits_of_vreg v) c.1 c.2),
  );
  rising = h.found_rise;
}
  where
    any_in : (xs : List ℕ) (n d e : ℕ) → n < length xs → get_or xs n d ≡ get_or xs n e
    any_in [] n d e l = absurd (omega arith)
    any_in (x ∷ xs) zero d e l = refl
    any_in (x ∷ xs) (suc n) d e l = any_in xs n d e (omega arith)

    any : (n y : ℕ) → n < length members → get_or members n 0 ≡ y → get_or members n y ≡ y
    any n y l e = any_in members n y 0 l ∙ e

    back : (n y : ℕ) → n < length members → get_or members n y ≡ y → get_or members n 0 ≡ y
    back n y l e = any_in members n 0 y l ∙ e

-- a place that isn't listed holds nothing
pub found_nowhere : (t : Showing) (p : Place) (found : List VirtualRegister) → place_in t.places p ≡ None → found ≡ [] →
    AreVRegsInValue (λ v. facts_now t p v ≡ true) found
found_nowhere t p found at e = subst (λ (vs : List VirtualRegister). AreVRegsInValue (λ v. facts_now t p v ≡ true) vs) (sym e) (record {
  members = λ v. (λ c. absurd (omega (arith, c.1)), λ h. absurd (both _ h (unlisted-holds t.places (shows_now t) p v at)));
  rising = λ i less. absurd (omega (arith, less));
})
  where
    both : (b : Bool) → b ≡ true → b ≡ false → ⊥
    both true h g = absurd cc
    both false h g = absurd cc
