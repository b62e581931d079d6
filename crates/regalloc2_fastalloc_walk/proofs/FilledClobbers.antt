-- Emptying the registers of a set that hold vregs is emptying all registers of the set.
use Rattle.std.proofs.Common.{ℕ, zero, suc, ◌≡◌, ◌+◌, ◌<◌, Bool, true, false, cond, ◌&&◌, List, [], ◌∷◌, ◌++◌, refl, sym, ap, ◌∙◌, subst, arith, nat_eq}
use Rattle.std.proofs.Common.{slice_index, slice_index_or}
use Rattle.std.specs.Prelude.{All, Contains, None, filter}
use Rattle.std.specs.Int.{bit_at}
use Rattle.std.proofs.lemmas.List.Elements.{Contains-get_or, filter-append}
use Rattle.regalloc2_names.specs.Listed.{listed_is}
use Rattle.regalloc2_names.specs.declared.RegClass.{RegClass}
use Rattle.regalloc2_names.specs.declared.RegClass.TheVariants.{Int, Float, Vector}
use Rattle.regalloc2_names.specs.declared.sets.PRegSet.{PRegSet}
use Rattle.regalloc2_names.specs.Register.{Register, has_register, registers_of, registers_of_words, word_members}
use Rattle.regalloc2_fastalloc_state.specs.StateParts.{vreg_of_preg}
use Rattle.regalloc2_fastalloc_state.specs.declared.inst_regs.InstRegs.{InstRegs}
use Rattle.regalloc2_fastalloc_proofs.specs.InstSteps.{StateValue, EvictsPReg, empty, EvictsEach, none_left, one_more}
use Rattle.regalloc2_fastalloc_proofs.proofs.Evictions.PushedAndRemoved.{evicts_preg_empty}

-- the members of a word that pass a test are the members of the word that has only their bits
kept_step : {X : Type 0} (p : X → Bool) (b : Bool) (x : X) (xs ys : List X) → ys ≡ filter p xs →
    cond (b && p x) (x ∷ ys) ys ≡ filter p (cond b (x ∷ xs) xs)
kept_step p true x xs ys e = ap (λ l. cond (p x) (x ∷ l) l) e
kept_step p false x xs ys e = e

members_kept : (class : RegClass) (p : Register → Bool) (n k w v : ℕ) →
    ((j : ℕ) → nat_eq (bit_at v j) 1 ≡ (nat_eq (bit_at w j) 1 && p (record { number = j; class = class }))) →
    word_members class k n v ≡ filter p (word_members class k n w)
unfolding word_members
members_kept class p zero k w v h = refl
members_kept class p (suc n) k w v h =
    ap (λ b. cond b (record { number = k; class = class } ∷ word_members class (k + 1) n v) (word_members class (k + 1) n v)) (h k)
    ∙ kept_step p (nat_eq (bit_at w k) 1) (record { number = k; class = class }) (word_members class (k + 1) n w) (word_members class (k + 1) n v)
    (members_kept class p n (k + 1) w v h)

three : {X : Type 0} (p : X → Bool) (ks ls ms xs ys zs : List X) → xs ≡ filter p ks → ys ≡ filter p ls → zs ≡ filter p ms →
    xs ++ ys ++ zs ≡ filter p (ks ++ ls ++ ms)
three p ks ls ms xs ys zs d e f = rw (d, e, f, filter-append p (ks ++ ls) ms, filter-append p ks ls) refl

-- the registers that two sets share are the registers of the first set that the second set has
pub shared_are : (s a b : PRegSet) → ((r : Register) → has_register s r ≡ (has_register a r && has_register b r)) →
    registers_of s ≡ filter (has_register b) (registers_of a)
unfolding has_register registers_of_words
shared_are s a b h =
    three (has_register b) (word_members Int 0 64 (slice_index a.bits 0)) (word_members Float 0 64 (slice_index a.bits 1))
    (word_members Vector 0 64 (slice_index a.bits 2)) (word_members Int 0 64 (slice_index s.bits 0)) (word_members Float 0 64 (slice_index s.bits 1))
    (word_members Vector 0 64 (slice_index s.bits 2))
    (members_kept Int (has_register b) 64 0 (slice_index a.bits 0) (slice_index s.bits 0) (λ j. h (record { number = j; class = Int })))
    (members_kept Float (has_register b) 64 0 (slice_index a.bits 1) (slice_index s.bits 1) (λ j. h (record { number = j; class = Float })))
    (members_kept Vector (has_register b) 64 0 (slice_index a.bits 2) (slice_index s.bits 2) (λ j. h (record { number = j; class = Vector })))

-- the registers of a set have numbers of six bits
pub are_small : (s : PRegSet) → All (λ (r : Register). r.number < 64) (registers_of s)
are_small s k d lt = (listed_is s (slice_index_or (registers_of s) k d) (Contains-get_or (registers_of s) k d lt)).0

-- a set that has no register lists no register
pub none_listed : (s : PRegSet) → ((r : Register) → has_register s r ≡ false) → registers_of s ≡ []
none_listed s h = by (registers_of s) (λ r c. let yes = (listed_is s r c).1 in let wrong : true ≡ false = sym yes ∙ h r in cc)
  where
    by : (rs : List Register) → ((r : Register) → Contains rs r → ⊥) → rs ≡ []
    by [] never = refl
    by (r ∷ rs) never = absurd (never r (Contains-get_or (r ∷ rs) 0 r (omega arith)))

module _ (point : ℕ) (p : Register → Bool) where
  -- no vreg is in a register that the test leaves out
  abbrev pub AreLeftOut : StateValue → Type 0
  AreLeftOut t = (r : Register) → r.number < 64 → p r ≡ false → vreg_of_preg t.places r ≡ None

  -- a list that begins with a register, which is emptied first
  with_one : (r : Register) (rs kept xs : List Register) (t u : InstRegs) (old new : StateValue) → xs ≡ r ∷ kept → AreLeftOut old →
      ((v : InstRegs) (m : StateValue) → AreLeftOut m → EvictsEach point kept v m u new → EvictsEach point rs v m u new) →
      EvictsEach point xs t old u new → EvictsEach point (r ∷ rs) t old u new
  with_one r rs kept xs t u old new e h rest (none_left v l) = absurd cc
  with_one r rs kept xs t u old new e h rest (one_more q qs a b d k l n first more) =
      let head : q ≡ r = cc in
      let tail : qs ≡ kept = cc in
      let now : EvictsPReg point r a b k l = subst (λ (x : Register). EvictsPReg point x a b k l) head first in
      one_more r rs a b d k l n now (rest b l (λ x lt out. evicts_preg_empty point r a b k l now x lt (h x lt out))
      (subst (λ ys. EvictsEach point ys b l d n) tail more))

  -- emptying the registers that pass the test is emptying all
  pub evicts_all : (rs : List Register) (t u : InstRegs) (old new : StateValue) → All (λ (r : Register). r.number < 64) rs → AreLeftOut old →
      EvictsEach point (filter p rs) t old u new → EvictsEach point rs t old u new
  evicts_all [] t u old new small h c = c
  evicts_all (r ∷ rs) t u old new small h c = by (p r) refl c (λ v m left more. evicts_all rs v u m new below left more)
    where
      below : All (λ (q : Register). q.number < 64) rs
      below k d lt = small (suc k) d (omega arith)

      by : (b : Bool) → p r ≡ b → EvictsEach point (cond b (r ∷ filter p rs) (filter p rs)) t old u new →
          ((v : InstRegs) (m : StateValue) → AreLeftOut m → EvictsEach point (filter p rs) v m u new → EvictsEach point rs v m u new) →
          EvictsEach point (r ∷ rs) t old u new
      by true e c rest = with_one r rs (filter p rs) (r ∷ filter p rs) t u old new refl h rest c
      by false e c rest = one_more r rs t t u old old new (empty (h r (small 0 r (omega arith)) e) refl refl) (rest t old h c)
