-- LRU lists whose unused registers are at the end.
use Rattle.std.proofs.Common.{ℕ, zero, suc, ◌≡◌, ◌+◌, ◌<◌, ◌≤◌, inl, inr, Bool, true, false, List, [], ◌∷◌, ◌++◌, cond, slice_index_or, length, refl, arith}
use Rattle.std.proofs.Common.{sym, ap, ◌∙◌, subst}
use Rattle.std.specs.Prelude.{Some, Contains, filter, find, not, reverse, ◌↔◌}
use Rattle.std.proofs.lemmas.Bool.{cases_Bool}
use Rattle.std.proofs.lemmas.List.{append_assoc, reverse-append}
use Rattle.std.proofs.lemmas.List.Elements.{All-contains, All-contains_itself, All-filter, Contains-append_right, filter-append}
use Rattle.regalloc2_names.specs.declared.RegClass.{RegClass}
use Rattle.regalloc2_names.specs.Register.{Register, is_register}
use Rattle.regalloc2_names.specs.Same.{is_register-same, is_register-true}
use Rattle.regalloc2_semantics.specs.Fits.{register_number}
use Rattle.regalloc2_function.specs.Machine.{count_below}
use Rattle.regalloc2_fastalloc_state.specs.Choice.{chosen}

-- a list without a given register
abbrev pub without_register : Register → List Register → List Register
without_register r xs = filter (λ q. not (is_register r q)) xs

-- the list without a register is no longer than before
pub but_most : (r : Register) (xs : List Register) → length (without_register r xs) ≤ length xs
but_most r [] = omega arith
but_most r (x ∷ xs) = by (is_register r x) (but_most r xs)
  where
    by : (b : Bool) → length (without_register r xs) ≤ length xs → length (cond (not b) (x ∷ without_register r xs) (without_register r xs)) ≤ length (x ∷ xs)
    by true h = omega (arith, h)
    by false h = omega (arith, h)

-- a list without a register is shorter if it had the register
pub but_less : (r : Register) (xs : List Register) → Contains xs r → length (without_register r xs) + 1 ≤ length xs
but_less r [] (k, less, at) = absurd (omega arith)
but_less r (x ∷ xs) (zero, less, at) =
    let same : is_register r x ≡ true = subst (λ (y : Register). is_register r y ≡ true) (sym at) (is_register-same r) in
    let most : length (without_register r xs) ≤ length xs = but_most r xs in
    rw same (omega (arith, most))
but_less r (x ∷ xs) (suc k, less, at) = by (is_register r x) (but_less r xs (k, omega arith, at))
  where
    by : (b : Bool) → length (without_register r xs) + 1 ≤ length xs → length (cond (not b) (x ∷ without_register r xs) (without_register r xs)) + 1 ≤ length (x ∷ xs)
    by true h = omega (arith, h)
    by false h = omega (arith, h)

contains_after_cond : (b : Bool) (x q : Register) (xs : List Register) → Contains xs q → Contains (cond b (x ∷ xs) xs) q
contains_after_cond true x q xs (k, less, at) = (suc k, omega arith, at)
contains_after_cond false x q xs h = h

-- without one register a list still has each other one that it had
pub but_others : (r q : Register) (xs : List Register) → Contains xs q → is_register r q ≡ false → Contains (without_register r xs) q
but_others r q [] (k, less, at) e = absurd (omega arith)
but_others r q (x ∷ xs) (zero, less, at) e =
    let here : is_register r x ≡ false = subst (λ (y : Register). is_register r y ≡ false) (sym at) e in
    rw here (0, omega arith, at)
but_others r q (x ∷ xs) (suc k, less, at) e = contains_after_cond (not (is_register r x)) x q (without_register r xs) (but_others r q xs (k, omega arith, at) e)

-- what is in a list without one register is in the list
pub but_from : (r q : Register) (xs : List Register) → Contains (without_register r xs) q → Contains xs q
but_from r q xs h =
    All-contains (Contains xs) (without_register r xs) q (All-filter (λ x. not (is_register r x)) (Contains xs) xs (All-contains_itself xs)) h

-- a list with one of its members moved to the front has the same members
pub same_members : (r : Register) (xs : List Register) → Contains xs r → (q : Register) → Contains (r ∷ without_register r xs) q ↔ Contains xs q
same_members r xs there q = (onward, back (is_register r q) refl)
  where
    onward : Contains (r ∷ without_register r xs) q → Contains xs q
    onward (zero, less, at) = subst (λ (y : Register). Contains xs y) at there
    onward (suc k, less, at) = but_from r q xs (k, omega arith, at)

    back : (b : Bool) → is_register r q ≡ b → Contains xs q → Contains (r ∷ without_register r xs) q
    back true e h = (0, omega arith, is_register-true r q e)
    back false e h = contains_after_cond true r q (without_register r xs) (but_others r q xs h e)

-- a list without a register doesn't have that register
pub but_not : (r : Register) (xs : List Register) → Contains (without_register r xs) r → ⊥
but_not r [] (k, less, at) = omega arith
but_not r (x ∷ xs) h = by (but_not r xs) (is_register r x) refl h
  where
    past : (Contains (without_register r xs) r → ⊥) → (k : ℕ) → is_register r x ≡ false → (k < length (x ∷ without_register r xs)) → slice_index_or (x ∷ without_register r xs) k r ≡ r → ⊥
    past rest zero e less at = (let same : is_register r x ≡ true = subst (λ (y : Register). is_register r y ≡ true) (sym at) (is_register-same r) in
        let wrong : true ≡ false = sym same ∙ e in cc)
    past rest (suc k) e less at = rest (k, omega arith, at)

    by : (Contains (without_register r xs) r → ⊥) → (b : Bool) → is_register r x ≡ b → Contains (cond (not b) (x ∷ without_register r xs) (without_register r xs)) r → ⊥
    by rest true e c = rest c
    by rest false e (k, less, at) = past rest k e less at

-- a list that isn't empty has a last member
last_split : (x : Register) (xs : List Register) → (front : List Register) × (last : Register) × ((x ∷ xs) ≡ front ++ (last ∷ []))
last_split x [] = ([], x, refl)
last_split x (y ∷ ys) = (let r = last_split y ys in (x ∷ r.0, r.1, ap (λ (l : List Register). x ∷ l) r.2))

-- the chosen register, the last one that passes the test, is one of the last ones if these all pass
pub found_last : (test : Register → Bool) (used unused : List Register) (r : Register) → 0 < length unused →
    ((q : Register) → Contains unused q → test q ≡ true) → chosen test (used ++ unused) ≡ Some r → Contains unused r
unfolding chosen
found_last test used [] r some all found = absurd (omega arith)
found_last test used (x ∷ xs) r some all found = at (last_split x xs).0 (last_split x xs).1 (last_split x xs).2
  where
    at : (front : List Register) (last : Register) → (x ∷ xs) ≡ front ++ (last ∷ []) → Contains (x ∷ xs) r
    at front last e =
        let there : Contains (x ∷ xs) last = subst (λ (l : List Register). Contains l last) (sym e)
        (Contains-append_right front (last ∷ []) last (0, omega arith, refl)) in
        let turned : reverse (used ++ (x ∷ xs)) ≡ last ∷ reverse (used ++ front) =
        ap (λ (l : List Register). reverse (used ++ l)) e ∙ ap reverse (sym (append_assoc used front (last ∷ [])))
        ∙ reverse-append (used ++ front) (last ∷ []) in
        let now : find test (last ∷ reverse (used ++ front)) ≡ Some r = ap (find test) (sym turned) ∙ found in
        let is : Some last ≡ Some r = by_last (all last there) now in
        subst (Contains (x ∷ xs)) (some_same last r is) there
      where
        by_last : test last ≡ true → find test (last ∷ reverse (used ++ front)) ≡ Some r → Some last ≡ Some r
        by_last yes_it h = rw yes_it at h

        some_same : (a b : Register) → Some a ≡ Some b → a ≡ b
        some_same a b e = cc

-- a list with all registers of a class that pass a test is as long as their number
pub counted : (p : ℕ → Bool) (class : RegClass) (n : ℕ) (rs : List Register) → ((k : ℕ) → k < n → p k ≡ true → Contains rs (register_number class k)) →
    count_below p n ≤ length rs
unfolding count_below
counted p class zero rs h = omega arith
counted p class (suc n) rs h = elim (cases_Bool (p n)) [
  | inl e ↦ (
      let less : length (without_register (register_number class n) rs) + 1 ≤ length rs = but_less (register_number class n) rs (h n (omega arith) e) in
      let rest : count_below p n ≤ length (without_register (register_number class n) rs) = counted p class n (without_register (register_number class n) rs)
      (λ k lt f. but_others (register_number class n) (register_number class k) rs (h k (omega arith) f) (other k lt)) in
      rw e (omega (arith, less, rest)))
  | inr e ↦ (let rest : count_below p n ≤ length rs = counted p class n rs (λ k lt f. h k (omega arith) f) in rw e (omega (arith, rest)))
]
  where
    other : (k : ℕ) → k < n → is_register (register_number class n) (register_number class k) ≡ false
    other k lt = elim (cases_Bool (is_register (register_number class n) (register_number class k))) [
      | inl e ↦ (let same : register_number class n ≡ register_number class k = is_register-true (register_number class n) (register_number class k) e in
          let q : n ≡ k = ap (λ (r : Register). r.number) same in absurd (omega (arith, q, lt)))
      | inr e ↦ e
    ]

-- a register becomes the most recently used: it and the used ones are at the front, the others after them
pub newest_first : (r : Register) (used unused ring : List Register) → ring ≡ used ++ unused → r ∷ filter (λ q. not (is_register r q)) ring ≡ (r ∷ without_register r used)
    ++ without_register r unused
newest_first r used unused ring e = ap (λ (l : List Register). r ∷ filter (λ q. not (is_register r q)) l) e
    ∙ ap (λ (l : List Register). r ∷ l) (filter-append (λ q. not (is_register r q)) used unused)
