-- The bits of registers in a set, and of slots beside them.
use Rattle.std.proofs.Common.{ℕ, ◌≡◌, ◌<◌, inl, inr, List, [], ◌∷◌, ◌++◌, map, true, false, refl, sym, ap, ◌∙◌, subst, append-nil, None, Some, Bool, ◌||◌, arith}
use Rattle.std.specs.Prelude.{◌⊎◌, ◌↔◌, Contains}
use Rattle.std.specs.List.{flat_map}
use Rattle.std.proofs.lemmas.List.Elements.{Contains-append_left, Contains-append_right, Contains-append_cases}
use Rattle.std.proofs.lemmas.Bool.{or_right}
use Rattle.std.proofs.lemmas.List.{map-append}
use Rattle.std.proofs.lemmas.Grind.{flat_map-append}
use Rattle.regalloc2_names.specs.declared.sets.PRegSet.{PRegSet}
use Rattle.regalloc2_names.specs.Place.{Place, NoPlace, InRegister, InSlot, is_no_place, is_in_slot, register_of_place}
use Rattle.regalloc2_names.specs.PlaceBits.{bits_of_place}
use Rattle.regalloc2_names.specs.Register.{Register, is_register, has_register, registers_of}
use Rattle.regalloc2_names.specs.Same.{is_register-true, is_register-same}
use Rattle.regalloc2_names.specs.Listed.{is_listed, listed_is}
use Rattle.regalloc2_checker.specs.NamedBits.{ArePlacesAdded}
use Rattle.regalloc2_checker.specs.NamedPlaces.{bits_unless_missing}
use Rattle.regalloc2_checker.proofs.Members.{only_item}
use Rattle.regalloc2_checker.proofs.NamedPlaces.{contains-flat, from-flat, contains-map, from-map}

-- the bits of a set's registers
abbrev pub bits_of_registers : PRegSet → List ℕ
bits_of_registers s = flat_map bits_unless_missing (map InRegister (registers_of s))

-- bits of a register that is in a set, and the register of bits
of-register : (s : PRegSet) (n : ℕ) → Contains (bits_of_registers s) n →
    (r : Register) × (r.number < 64) × (has_register s r ≡ true) × Contains (bits_unless_missing (InRegister r)) n
of-register s n h =
    let f = from-flat bits_unless_missing (map InRegister (registers_of s)) n h in
    let m = from-map InRegister (registers_of s) f.0 f.1 in
    let l = listed_is s m.0 m.1 in
    (m.0, l.0, l.1, subst (λ (p : Place). Contains (bits_unless_missing p) n) (sym m.2) f.2)

is-register : (s : PRegSet) (r : Register) (n : ℕ) → r.number < 64 → has_register s r ≡ true → Contains (bits_unless_missing (InRegister r)) n →
    Contains (bits_of_registers s) n
is-register s r n small has h = contains-flat bits_unless_missing (map InRegister (registers_of s)) (InRegister r) n
    (contains-map InRegister (registers_of s) r (is_listed s r small has)) h

-- a set gets the registers of some places beside the registers that it has
pub registers-added : (s t : PRegSet) (P : Register → Type 0) (ps : List Place) (os : List ℕ) →
    ((r : Register) → has_register t r ≡ true → (has_register s r ≡ true) ⊎ P r) →
    ((r : Register) → has_register s r ≡ true → has_register t r ≡ true) →
    ((r : Register) → r.number < 64 → P r → Contains ps (InRegister r)) →
    ((p : Place) → Contains ps p → (r : Register) × (InRegister r ≡ p) × (r.number < 64) × (has_register t r ≡ true)) →
    ArePlacesAdded (bits_of_registers s ++ os) (bits_of_registers t ++ os) ps
registers-added s t P ps os new old listed named n = (λ h. forth (Contains-append_cases (bits_of_registers t) os n h), back)
  where
    by_register : (r : Register) → r.number < 64 → Contains (bits_unless_missing (InRegister r)) n → (has_register s r ≡ true) ⊎ P r →
        Contains (bits_of_registers s ++ os) n ⊎ Contains (flat_map bits_unless_missing ps) n
    by_register r small h (inl has) = inl (Contains-append_left (bits_of_registers s) os n (is-register s r n small has h))
    by_register r small h (inr p) = inr (contains-flat bits_unless_missing ps (InRegister r) n (listed r small p) h)

    forth : Contains (bits_of_registers t) n ⊎ Contains os n → Contains (bits_of_registers s ++ os) n ⊎ Contains (flat_map bits_unless_missing ps) n
    forth (inl h) = let r = of-register t n h in by_register r.0 r.1 r.3 (new r.0 r.2)
    forth (inr h) = inl (Contains-append_right (bits_of_registers s) os n h)

    before : Contains (bits_of_registers s) n ⊎ Contains os n → Contains (bits_of_registers t ++ os) n
    before (inl h) = let r = of-register s n h in Contains-append_left (bits_of_registers t) os n (is-register t r.0 n r.1 (old r.0 r.2) r.3)
    before (inr h) = Contains-append_right (bits_of_registers t) os n h

    back : Contains (bits_of_registers s ++ os) n ⊎ Contains (flat_map bits_unless_missing ps) n → Contains (bits_of_registers t ++ os) n
    back (inl h) = before (Contains-append_cases (bits_of_registers s) os n h)
    back (inr h) =
        let f = from-flat bits_unless_missing ps n h in
        let r = named f.0 f.1 in
        Contains-append_left (bits_of_registers t) os n
        (is-register t r.0 n r.2 r.3 (subst (λ (p : Place). Contains (bits_unless_missing p) n) (sym r.1) f.2))

-- a number that is beside others is beside them after more
pub beside-after : (rs xs ys : List ℕ) (x : ℕ) → ((n : ℕ) → Contains ys n ↔ (Contains xs n ⊎ (n ≡ x))) → (n : ℕ) →
    Contains (rs ++ ys) n ↔ (Contains (rs ++ xs) n ⊎ (n ≡ x))
beside-after rs xs ys x h n = (λ c. forth (Contains-append_cases rs ys n c), back)
  where
    later : Contains xs n ⊎ (n ≡ x) → Contains (rs ++ xs) n ⊎ (n ≡ x)
    later (inl c) = inl (Contains-append_right rs xs n c)
    later (inr e) = inr e

    forth : Contains rs n ⊎ Contains ys n → Contains (rs ++ xs) n ⊎ (n ≡ x)
    forth (inl c) = inl (Contains-append_left rs xs n c)
    forth (inr c) = later ((h n).0 c)

    among : Contains rs n ⊎ Contains xs n → Contains (rs ++ ys) n
    among (inl c) = Contains-append_left rs ys n c
    among (inr c) = Contains-append_right rs ys n ((h n).1 (inl c))

    back : Contains (rs ++ xs) n ⊎ (n ≡ x) → Contains (rs ++ ys) n
    back (inl c) = among (Contains-append_cases rs xs n c)
    back (inr e) = Contains-append_right rs ys n ((h n).1 (inr e))

-- a place that is neither a register nor a slot is missing
pub neither-is-missing : (p : Place) → register_of_place p ≡ None → is_in_slot p ≡ false → is_no_place p ≡ true
neither-is-missing NoPlace r s = refl
neither-is-missing (InRegister q) r s = absurd cc
neither-is-missing (InSlot n) r s = absurd cc

-- a place in a register
pub register-is : (p : Place) (q : Register) → register_of_place p ≡ Some q → InRegister q ≡ p
register-is NoPlace q e = absurd cc
register-is (InRegister r) q e = ap InRegister (sym (just e))
  where
    just : Some r ≡ Some q → r ≡ q
    just f = cc
register-is (InSlot n) q e = absurd cc

-- one register is added to a set
pub register-listed : (s t : PRegSet) (q : Register) (os : List ℕ) → q.number < 64 →
    ((r : Register) → has_register t r ≡ is_register q r || has_register s r) →
    ArePlacesAdded (bits_of_registers s ++ os) (bits_of_registers t ++ os) (InRegister q ∷ [])
register-listed s t q os small members = registers-added s t (λ r. q ≡ r) (InRegister q ∷ []) os new old
    (λ r low e. subst (λ (x : Register). Contains (InRegister q ∷ []) (InRegister x)) e (0, omega arith, refl))
    (λ p h. (q, only_item (InRegister q) p h, small, members q ∙ ap (λ (b : Bool). b || has_register s q) (is_register-same q)))
  where
    by_test : (b : Bool) (r : Register) → is_register q r ≡ b → has_register t r ≡ b || has_register s r → has_register t r ≡ true →
        (has_register s r ≡ true) ⊎ (q ≡ r)
    by_test true r e m h = inr (is_register-true q r e)
    by_test false r e m h = inl (sym m ∙ h)

    new : (r : Register) → has_register t r ≡ true → (has_register s r ≡ true) ⊎ (q ≡ r)
    new r h = by_test (is_register q r) r refl (members r) h

    old : (r : Register) → has_register s r ≡ true → has_register t r ≡ true
    old r h = members r ∙ or_right (is_register q r) (has_register s r) h

-- the registers of a set are added to another
pub set-listed : (s t u : PRegSet) (os : List ℕ) → ((r : Register) → has_register t r ≡ has_register s r || has_register u r) →
    ArePlacesAdded (bits_of_registers s ++ os) (bits_of_registers t ++ os) (map InRegister (registers_of u))
set-listed s t u os members = registers-added s t (λ r. has_register u r ≡ true) (map InRegister (registers_of u)) os new old
    (λ r small h. contains-map InRegister (registers_of u) r (is_listed u r small h)) named
  where
    by_test : (b : Bool) (r : Register) → has_register s r ≡ b → has_register t r ≡ b || has_register u r → has_register t r ≡ true →
        (has_register s r ≡ true) ⊎ (has_register u r ≡ true)
    by_test true r e m h = inl e
    by_test false r e m h = inr (sym m ∙ h)

    new : (r : Register) → has_register t r ≡ true → (has_register s r ≡ true) ⊎ (has_register u r ≡ true)
    new r h = by_test (has_register s r) r refl (members r) h

    old : (r : Register) → has_register s r ≡ true → has_register t r ≡ true
    old r h = members r ∙ ap (λ (b : Bool). b || has_register u r) h

    named : (p : Place) → Contains (map InRegister (registers_of u)) p →
        (r : Register) × (InRegister r ≡ p) × (r.number < 64) × (has_register t r ≡ true)
    named p h =
        let m = from-map InRegister (registers_of u) p h in
        let l = listed_is u m.0 m.1 in
        (m.0, m.2, l.0, members m.0 ∙ or_right (has_register s m.0) (has_register u m.0) l.1)

-- one register more of a walk over a set
pub bits-more : (rs : List Register) (r : Register) (ns : List ℕ) (n : ℕ) → ns ≡ flat_map bits_unless_missing (map InRegister rs) →
    n ≡ bits_of_place (InRegister r) → ns ++ (n ∷ []) ≡ flat_map bits_unless_missing (map InRegister (rs ++ (r ∷ [])))
bits-more rs r ns n e is = ap (λ (l : List ℕ). l ++ (n ∷ [])) e ∙ ap (λ (m : ℕ). flat_map bits_unless_missing (map InRegister rs) ++ (m ∷ [])) is
    ∙ sym (ap (λ (ps : List Place). flat_map bits_unless_missing ps) (map-append InRegister rs (r ∷ []))
    ∙ flat_map-append bits_unless_missing (map InRegister rs) (InRegister r ∷ []))

-- a place in a slot is there
pub slot-is-some : (p : Place) → is_in_slot p ≡ true → is_no_place p ≡ false
slot-is-some NoPlace e = absurd cc
slot-is-some (InRegister r) e = absurd cc
slot-is-some (InSlot n) e = refl

-- a walk that has come to its end gave all
pub walked : (xs left all : List Register) → left ≡ [] → xs ++ left ≡ all → xs ≡ all
walked xs left all none e = sym (append-nil xs) ∙ ap (λ (l : List Register). xs ++ l) (sym none) ∙ e

-- a set without a register lists none
pub none-listed : (s : PRegSet) → ((r : Register) → has_register s r ≡ false) → bits_of_registers s ≡ []
none-listed s empty = ap (λ (rs : List Register). flat_map bits_unless_missing (map InRegister rs)) (none (registers_of s) refl)
  where
    none : (rs : List Register) → registers_of s ≡ rs → registers_of s ≡ []
    none [] e = e
    none (r ∷ rs) e =
        let l = listed_is s r (subst (λ (qs : List Register). Contains qs r) (sym e) (0, omega arith, refl)) in
        let f : has_register s r ≡ false = empty r in
        let t : has_register s r ≡ true = l.1 in
        absurd cc
