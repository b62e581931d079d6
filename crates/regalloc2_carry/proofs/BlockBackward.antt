-- A block that is walked from its end: what its listing carries for one vreg, from what each instruction carries by
-- itself.
use Rattle.std.proofs.Common.{◌≡◌, Bool, true, false, ◌⊎◌, inl, inr, List, ◌++◌, refl, sym, ◌∙◌}
use Rattle.std.specs.Prelude.{Option, None, Some, ◌||◌}
use Rattle.regalloc2_names.specs.Register.{VirtualRegister}
use Rattle.regalloc2_names.specs.Place.{Place}
use Rattle.regalloc2_carry.specs.Listing.{Item}
use Rattle.regalloc2_carry.specs.Carry.{Carries}
use Rattle.regalloc2_carry.proofs.CarryRules.{carries_append, carries_weaken}

-- Where v's value may be assumed to be at a boundary between instructions: at its current location (T) and in its slot
-- (S), if nothing later in the block writes v; and in the slot that v has after the whole walk (F), if the block
-- doesn't write v at all.
abbrev pub Relied : (later block : Bool) (T S F : Option Place) → Place → Type 0
Relied later block T S F p = (later ≡ false) × ((T ≡ Some p) ⊎ (S ≡ Some p) ⊎ ((block ≡ false) × (F ≡ Some p)))

-- What one instruction guarantees: T and S are v's location and slot before it, U and R after it; later: something
-- later in the block writes v.
pub record StepOf (v : VirtualRegister) (step : List Item) (written later : Bool) (T S U R F : Option Place) : Type 1 where
  -- the step carries v by itself, and from no place if it writes v
  pub law : Carries v step (λ p. (T ≡ Some p) ⊎ ((written ≡ false) × (S ≡ Some p))) (λ p. (U ≡ Some p) ⊎ (R ≡ Some p))
  pub gone : written ≡ true → T ≡ None
  -- a slot that v has stays to the end of the walk
  pub stays : (p : Place) → R ≡ Some p → F ≡ Some p
  -- if v gets its slot now or later, the instruction carries v in that slot too
  pub left : (s : Place) → written ≡ false → R ≡ None → F ≡ Some s → (P E : Place → Type 0) → Carries v step P E →
      Carries v step (λ p. P p ⊎ (p ≡ s)) (λ p. E p ⊎ (p ≡ s))
  -- if something later writes v, nothing need hold v before the instruction
  pub silent : later ≡ true → (L : List Item) (E : Place → Type 0) → Carries v L (λ p. ⊥) E → Carries v (step ++ L) (λ p. ⊥) E

module _ (v : VirtualRegister) (step L : List Item) (written later block : Bool) (T S U R F : Option Place) (E : Place → Type 0)
    (within : block ≡ false → written ≡ false)
    (k : StepOf v step written later T S U R F) where
  -- if something later writes v
  silent_on : later ≡ true → Carries v L (Relied later block U R F) E → Carries v (step ++ L) (Relied (written || later) block T S F) E
  silent_on e c =
      carries_weaken v (step ++ L) (λ p. ⊥) (Relied (written || later) block T S F) E E (λ p h. absurd h) (λ p h. h)
      (k.silent e L E (carries_weaken v L (Relied later block U R F) (λ p. ⊥) E E (λ p h. (let x : later ≡ false = h.0 in absurd cc)) (λ p h. h) c))

  -- if nothing later does, by the instruction alone
  by_step : later ≡ false → (P : Place → Type 0) → Carries v step P (λ p. (U ≡ Some p) ⊎ (R ≡ Some p) ⊎ ((block ≡ false) × (F ≡ Some p))) →
      ((p : Place) → P p → Relied (written || later) block T S F p)
      → Carries v L (Relied later block U R F) E → Carries v (step ++ L) (Relied (written || later) block T S F) E
  by_step e P here relied c =
      carries_append v step L (Relied (written || later) block T S F) (λ p. (U ≡ Some p) ⊎ (R ≡ Some p) ⊎ ((block ≡ false) × (F ≡ Some p))) E
      (carries_weaken v step P (Relied (written || later) block T S F) (λ p. (U ≡ Some p) ⊎ (R ≡ Some p) ⊎ ((block ≡ false) × (F ≡ Some p)))
      (λ p. (U ≡ Some p) ⊎ (R ≡ Some p) ⊎ ((block ≡ false) × (F ≡ Some p))) relied (λ p h. h) here)
      (carries_weaken v L (Relied later block U R F) (λ p. (U ≡ Some p) ⊎ (R ≡ Some p) ⊎ ((block ≡ false) × (F ≡ Some p))) E E (λ p h. h.1) (λ p h. h) c)

  -- the places from which `law` carries v may be assumed
  by_law : later ≡ false → (p : Place) → (T ≡ Some p) ⊎ ((written ≡ false) × (S ≡ Some p)) → Relied (written || later) block T S F p
  by_law e p h = by_test written refl h
    where
      by_test : (w : Bool) → written ≡ w → (T ≡ Some p) ⊎ ((written ≡ false) × (S ≡ Some p)) → Relied (written || later) block T S F p
      by_test true is (inl t) = (let n : None ≡ Some p = sym (k.gone is) ∙ t in absurd cc)
      by_test true is (inr s) = (let n : written ≡ false = s.0 in absurd cc)
      by_test false is (inl t) = (rw (is, e) refl, inl t)
      by_test false is (inr s) = (rw (is, e) refl, inr (inl s.1))

  -- if v has its slot after the instruction, or never gets one
  law_on : later ≡ false → ((p : Place) → block ≡ false → F ≡ Some p → R ≡ Some p) → Carries v L (Relied later block U R F) E →
      Carries v (step ++ L) (Relied (written || later) block T S F) E
  law_on e there c =
      by_step e (λ p. (T ≡ Some p) ⊎ ((written ≡ false) × (S ≡ Some p)))
      (carries_weaken v step (λ p. (T ≡ Some p) ⊎ ((written ≡ false) × (S ≡ Some p))) (λ p. (T ≡ Some p) ⊎ ((written ≡ false) × (S ≡ Some p)))
      (λ p. (U ≡ Some p) ⊎ (R ≡ Some p)) (λ p. (U ≡ Some p) ⊎ (R ≡ Some p) ⊎ ((block ≡ false) × (F ≡ Some p)))
      (λ p h. h) (λ p h. elim h [ inl u ↦ inl u | inr x ↦ inr (elim x [ inl r ↦ r | inr b ↦ there p b.0 b.1 ]) ]) k.law)
      (by_law e) c

  -- if v gets it now or later, and the block doesn't write v
  left_on : later ≡ false → block ≡ false → R ≡ None → (s : Place) → F ≡ Some s → Carries v L (Relied later block U R F) E →
      Carries v (step ++ L) (Relied (written || later) block T S F) E
  left_on e free none s comes c =
      let unwritten : written ≡ false = within free in
      by_step e (λ p. ((T ≡ Some p) ⊎ ((written ≡ false) × (S ≡ Some p))) ⊎ (p ≡ s))
      (carries_weaken v step (λ p. ((T ≡ Some p) ⊎ ((written ≡ false) × (S ≡ Some p))) ⊎ (p ≡ s))
      (λ p. ((T ≡ Some p) ⊎ ((written ≡ false) × (S ≡ Some p))) ⊎ (p ≡ s))
      (λ p. ((U ≡ Some p) ⊎ (R ≡ Some p)) ⊎ (p ≡ s)) (λ p. (U ≡ Some p) ⊎ (R ≡ Some p) ⊎ ((block ≡ false) × (F ≡ Some p))) (λ p h. h)
      (λ p h. elim h [
        | inl u ↦ inl (inl u)
        | inr x ↦ elim x [
          | inl r ↦ inl (inr r)
          | inr b ↦ inr (let same : Some p ≡ Some s = sym b.1 ∙ comes in cc)
        ]
      ])
      (k.left s unwritten none comes (λ p. (T ≡ Some p) ⊎ ((written ≡ false) × (S ≡ Some p))) (λ p. (U ≡ Some p) ⊎ (R ≡ Some p)) k.law))
      (λ p h. elim h [
        | inl x ↦ by_law e p x
        | inr i ↦ (rw (unwritten, e) refl, inr (inr (free, rw i comes)))
      ])
      c

  -- one instruction more
  pub step_carried : Carries v L (Relied later block U R F) E → Carries v (step ++ L) (Relied (written || later) block T S F) E
  step_carried = by_later later refl
    where
      by_slot : later ≡ false → block ≡ false → (r f : Option Place) → R ≡ r → F ≡ f → Carries v L (Relied later block U R F) E →
          Carries v (step ++ L) (Relied (written || later) block T S F) E
      by_slot e free (Some p) f is fs = law_on e (λ q b g. is ∙ sym (k.stays p is) ∙ g)
      by_slot e free None None is fs = law_on e (λ q b g. (let n : None ≡ Some q = sym fs ∙ g in absurd cc))
      by_slot e free None (Some s) is fs = left_on e free is s fs

      by_block : later ≡ false → (b : Bool) → block ≡ b → Carries v L (Relied later block U R F) E →
          Carries v (step ++ L) (Relied (written || later) block T S F) E
      by_block e true is = law_on e (λ q b g. (let n : true ≡ false = sym is ∙ b in absurd cc))
      by_block e false is = by_slot e is R F refl refl

      by_later : (l : Bool) → later ≡ l → Carries v L (Relied later block U R F) E → Carries v (step ++ L) (Relied (written || later) block T S F) E
      by_later true e = silent_on e
      by_later false e = by_block e block refl
