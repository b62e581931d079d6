-- From one boundary of instructions to the next, and the places held at the two positions.
use Rattle.std.proofs.Common.{◌≡◌, ℕ, Bool, true, false, Option, Some, is_some, ⊎_elim, refl, sym, ap, ◌∙◌}
use Rattle.std.proofs.lemmas.Bool.{cases_Bool}
use Rattle.regalloc2_names.specs.Place.{Place}
use Rattle.regalloc2_carry.specs.OperandsPlaced.{What, Progress, Placed, Puts, Held, Free, at_begin}

-- when an instruction begins, the numbers with a location are the numbers that lived, and no operand is placed
pub begin_all : (what : ℕ → What) (here : ℕ → Place) (lived : ℕ → Bool) (T S : ℕ → Option Place) → ((w : ℕ) → lived w ≡ is_some (T w)) →
    Placed what (at_begin here lived) T S
begin_all what here lived T S is = record {
  there = λ j c. absurd cc;
  apart = λ i j c d e. absurd cc;
  def_alone = λ j w c d l e. absurd cc;
  use_alone = λ j w c d e. absurd cc;
  slot_own = λ j w c e. absurd cc;
  kept = λ j c h. refl;
  cleared = λ w q l e. refl;
  claims = λ j d. absurd cc;
  found = λ j d u. absurd cc;
  newly = λ w q l e. let a : lived w ≡ true = is w ∙ ap is_some e in absurd cc;
  lives = λ w l e. let a : lived w ≡ false = is w ∙ ap is_some e in absurd cc;
  gone = λ w o. absurd cc;
  defined = λ w o. absurd cc;
  outs = λ j d f. absurd cc;
  makes = λ q w x. absurd cc;
}

-- the positions include the positions of the operand
pub record Covers (w : What) (at_early at_late : Bool) : Type 0 where
  pub early_use : w.is_def ≡ false → at_early ≡ true
  pub early_def : w.is_late ≡ false → at_early ≡ true
  pub late_def : w.is_def ≡ true → at_late ≡ true
  pub late_use : w.is_late ≡ true → at_late ≡ true

-- the place is free at the requested positions
pub record FreeAt (early late : Place → Bool) (at_early at_late : Bool) (r : Place) : Type 0 where
  pub free_early : at_early ≡ true → early r ≡ false
  pub free_late : at_late ≡ true → late r ≡ false

-- the place is held from now on, if the position is requested
pub record IsHeldAsAsked (before_it after_it : Place → Bool) (asked : Bool) (r : Place) : Type 0 where
  pub keeps : (q : Place) → before_it q ≡ true → after_it q ≡ true
  pub holds : asked ≡ true → after_it r ≡ true

-- an operand's place is held from now on, at positions that cover the operand's
pub record Takes (w : What) (early late early2 late2 : Place → Bool) (r : Place) : Type 0 where
  pub at_early : Bool
  pub at_late : Bool
  pub covers : Covers w at_early at_late
  pub in_early : IsHeldAsAsked early early2 at_early r
  pub in_late : IsHeldAsAsked late late2 at_late r

-- a place that is free at positions that cover an operand's is free for the operand
pub free_of : (w : What) (early late : Place → Bool) (at_early at_late : Bool) (r : Place) → Covers w at_early at_late → FreeAt early late at_early at_late r →
    Free w early late r
free_of w early late at_early at_late r c f = record {
  early_use = λ e. f.free_early (c.early_use e);
  early_def = λ e. f.free_early (c.early_def e);
  late_def = λ e. f.free_late (c.late_def e);
  late_use = λ e. f.free_late (c.late_use e);
}

-- one more operand claims, and what it claims is held
pub held_more : (what : ℕ → What) (here there : ℕ → Place) (claimed claimed2 : ℕ → Bool) (early late early2 late2 : Place → Bool) (k : ℕ) (r : Place)
    → Puts here there claimed claimed2 k r → Takes (what k) early late early2 late2 r
    → Held what here claimed early late → Held what there claimed2 early2 late2
held_more what here there claimed claimed2 early late early2 late2 k r u t h =
    let other : (j : ℕ) → claimed j ≡ true → there j ≡ here j = λ j x. u.at_j j (λ e. let y : claimed k ≡ true = ap claimed (sym e) ∙ x in
    let z = u.fresh in cc) in
    let at : (j : ℕ) → j ≡ k → there j ≡ r = λ j e. ap there e ∙ u.at_k in
    record {
      early_uses = λ i x d. ⊎_elim
          (λ (e : i ≡ k). ap early2 (at i e) ∙ t.in_early.holds (t.covers.early_use (ap (λ (z : ℕ). (what z).is_def) (sym e) ∙ d)))
          (λ (y : claimed i ≡ true). ap early2 (other i y) ∙ t.in_early.keeps (here i) (h.early_uses i y d))
          (u.grows i x);
      early_defs = λ i x d. ⊎_elim
          (λ (e : i ≡ k). ap early2 (at i e) ∙ t.in_early.holds (t.covers.early_def (ap (λ (z : ℕ). (what z).is_late) (sym e) ∙ d)))
          (λ (y : claimed i ≡ true). ap early2 (other i y) ∙ t.in_early.keeps (here i) (h.early_defs i y d))
          (u.grows i x);
      late_defs = λ i x d. ⊎_elim
          (λ (e : i ≡ k). ap late2 (at i e) ∙ t.in_late.holds (t.covers.late_def (ap (λ (z : ℕ). (what z).is_def) (sym e) ∙ d)))
          (λ (y : claimed i ≡ true). ap late2 (other i y) ∙ t.in_late.keeps (here i) (h.late_defs i y d))
          (u.grows i x);
      late_uses = λ i x d. ⊎_elim
          (λ (e : i ≡ k). ap late2 (at i e) ∙ t.in_late.holds (t.covers.late_use (ap (λ (z : ℕ). (what z).is_late) (sym e) ∙ d)))
          (λ (y : claimed i ≡ true). ap late2 (other i y) ∙ t.in_late.keeps (here i) (h.late_uses i y d))
          (u.grows i x);
    }

-- a scratch register, free at both positions: any vreg that is there lived, and no definition is placed there
pub scratch_idle : (what : ℕ → What) (p : Progress) (T S : ℕ → Option Place) (early late : Place → Bool) (b : Place)
    → Held what p.here p.claimed early late → FreeAt early late true true b → Placed what p T S
    → ((w : ℕ) → T w ≡ Some b → p.lived w ≡ true) × ((u : ℕ) → p.made_at b u ≡ false)
scratch_idle what p T S early late b h f s = (
  (λ w e. ⊎_elim
      (λ (l : p.lived w ≡ true). l)
      (λ (l : p.lived w ≡ false).
      let n = s.newly w b l e in
      let x : early b ≡ true = ap early (sym n.4) ∙ h.early_uses n.0 (s.claims n.0 n.1) n.2 in
      let y = f.free_early refl in absurd cc)
      (cases_Bool (p.lived w))),
  (λ u. ⊎_elim
      (λ (a : p.made_at b u ≡ true).
      let n = s.makes b u a in
      let x : late b ≡ true = ap late (sym n.4) ∙ h.late_defs n.0 (s.claims n.0 n.1) n.2 in
      let y = f.free_late refl in absurd cc)
      (λ (a : p.made_at b u ≡ false). a)
      (cases_Bool (p.made_at b u))),
)
