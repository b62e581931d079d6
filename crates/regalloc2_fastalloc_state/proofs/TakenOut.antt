-- Lists of which some members are taken out, and to which one comes in front.
use Rattle.std.proofs.Common.{ℕ, zero, suc, ◌≡◌, ◌≢◌, ◌<◌, ◌≤◌, ◌⊎◌, inl, inr, Bool, true, false, cond, not, List, [], ◌∷◌, length, refl, sym, ap}
use Rattle.std.proofs.Common.{arith, slice_index_or, eq-eqb, nat_eq}
use Rattle.std.specs.Prelude.{Contains, All, filter}
use Rattle.std.proofs.lemmas.List.Elements.{All-contains, All-filter, All-contains_itself, filter_passes}
use Rattle.std.proofs.lemmas.Bool.{not_from_false, ne_eqb}
use Rattle.regalloc2_names.specs.Register.{VirtualRegister}
use Rattle.regalloc2_fastalloc_state.specs.StateParts.{without, in_front_if}

module _ {X : Type 0} (p : X → Bool) where
  -- a member that passes stays
  pub member_kept : (xs : List X) (x : X) → Contains xs x → p x ≡ true → Contains (filter p xs) x
  member_kept [] x (k, less, at) h = absurd (omega (arith, less))
  member_kept (y ∷ ys) x (zero, less, at) h = rw (at, h) (0, omega arith, refl)
  member_kept (y ∷ ys) x (suc k, less, at) h = behind (p y) (filter p ys) y x (member_kept ys x (k, omega (arith, less), at) h)
    where
      behind : (b : Bool) (zs : List X) (y x : X) → Contains zs x → Contains (cond b (y ∷ zs) zs) x
      behind true zs y x (k, less, at) = (suc k, omega (arith, less), at)
      behind false zs y x rest = rest

  no_longer : (b : Bool) (y : X) (zs : List X) (n : ℕ) → length zs ≤ n → length (cond b (y ∷ zs) zs) ≤ suc n
  no_longer true y zs n h = omega (arith, h)
  no_longer false y zs n h = omega (arith, h)

  -- no list grows by what is taken out
  pub length_kept : (xs : List X) → length (filter p xs) ≤ length xs
  length_kept [] = omega arith
  length_kept (y ∷ ys) = no_longer (p y) y (filter p ys) (length ys) (length_kept ys)

  one_shorter : (b : Bool) (y : X) (zs : List X) (n : ℕ) → length zs < n → length (cond b (y ∷ zs) zs) < suc n
  one_shorter true y zs n h = omega (arith, h)
  one_shorter false y zs n h = omega (arith, h)

  -- the list is shorter where a member was taken out
  pub shorter : (xs : List X) (x : X) → Contains xs x → p x ≡ false → length (filter p xs) < length xs
  shorter [] x (k, less, at) h = absurd (omega (arith, less))
  shorter (y ∷ ys) x (zero, less, at) h = rw (at, h) (omega (arith, length_kept ys))
  shorter (y ∷ ys) x (suc k, less, at) h = one_shorter (p y) y (filter p ys) (length ys) (shorter ys x (k, omega (arith, less), at) h)

  -- where all pass, none is taken out
  pub all_kept : (xs : List X) → All (λ x. p x ≡ true) xs → filter p xs ≡ xs
  all_kept [] h = refl
  all_kept (y ∷ ys) h = rw (h 0 y (omega arith)) (ap (λ l. y ∷ l) (all_kept ys (λ k d less. h (suc k) d (omega (arith, less)))))

-- a vreg that is left in a list without a number was in the list, and has another number
pub left_in : (n : ℕ) (vs : List VirtualRegister) (w : VirtualRegister) → Contains (without n vs) w → Contains vs w × (w.number ≢ n)
left_in n vs w h = (
  All-contains (Contains vs) (without n vs) w (All-filter (λ v. not (nat_eq v.number n)) (Contains vs) vs (All-contains_itself vs)) h,
  λ e. let t : not (nat_eq w.number n) ≡ true =
      All-contains (λ v. not (nat_eq v.number n) ≡ true) (without n vs) w (filter_passes (λ v. not (nat_eq v.number n)) vs) h in
      let s : nat_eq w.number n ≡ true = eq-eqb w.number n e in absurd cc,
)

-- no vreg of a list without a number has it
pub all_other : (n : ℕ) (vs : List VirtualRegister) → All (λ w. w.number ≢ n) (without n vs)
all_other n vs k d less e =
    let w : VirtualRegister = slice_index_or (without n vs) k d in
    let t : not (nat_eq w.number n) ≡ true = filter_passes (λ v. not (nat_eq v.number n)) vs k d less in
    let s : nat_eq w.number n ≡ true = eq-eqb w.number n e in absurd cc

-- a vreg of another number stays
pub passes_other : (n : ℕ) (w : VirtualRegister) → w.number ≢ n → not (nat_eq w.number n) ≡ true
passes_other n w d = not_from_false (nat_eq w.number n) (ne_eqb w.number n d)

-- where no vreg has the number, none is taken out
pub without_absent : (n : ℕ) (vs : List VirtualRegister) → All (λ w. w.number ≢ n) vs → without n vs ≡ vs
without_absent n vs h = all_kept (λ v. not (nat_eq v.number n)) vs (λ k d less. passes_other n (slice_index_or vs k d) (h k d less))

-- the members of a list with one in front, on a condition
pub in_front : (b : Bool) (v : VirtualRegister) (vs : List VirtualRegister) (w : VirtualRegister) → ((w ≡ v) × (b ≡ true)) ⊎ Contains vs w →
    Contains (in_front_if b v vs) w
in_front true v vs w (inl h) = (0, omega arith, sym h.0)
in_front false v vs w (inl h) = absurd (let e = h.1 in cc)
in_front true v vs w (inr h) = (suc h.0, omega (arith, h.1), h.2)
in_front false v vs w (inr h) = h

-- what is in a list with v perhaps put in front is v or was there
pub front_or_rest : (b : Bool) (v : VirtualRegister) (vs : List VirtualRegister) (w : VirtualRegister) → Contains (in_front_if b v vs) w →
    ((w ≡ v) × (b ≡ true)) ⊎ Contains vs w
front_or_rest true v vs w (zero, less, at) = inl (sym at, refl)
front_or_rest true v vs w (suc k, less, at) = inr (k, omega (arith, less), at)
front_or_rest false v vs w h = inr h
