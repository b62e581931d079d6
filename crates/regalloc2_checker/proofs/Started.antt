-- What is known at first: the entry alone is reached, and nothing holds there.
use Rattle.std.proofs.Common.{ℕ, zero, suc, ◌≡◌, ◌<◌, ◌≤◌, inl, inr, arith, Bool, true, false, nat_eq, eq-eqb, eqb-true, ne_eqb, List, [], ◌∷◌, length}
use Rattle.std.proofs.Common.{get_or, set, refl, sym, ap, ◌∙◌, subst}
use Rattle.std.specs.declared.cmp.Reverse.{Reverse}
use Rattle.std.proofs.lemmas.Bool.{cases_lt, cases_eq}
use Rattle.std.proofs.lemmas.List.{get_or-set_same, get_or-set_other}
use Rattle.regalloc2_index.proofs.Bools.{from_both_at}
use Rattle.regalloc2_names.specs.Register.{VirtualRegister}
use Rattle.regalloc2_names.specs.Place.{Place}
use Rattle.regalloc2_function.specs.FunctionValue.{FunctionValue}
use Rattle.regalloc2_function.specs.OutputValue.{OutputValue}
use Rattle.regalloc2_semantics.specs.Runs.{first_of, cells_before}
use Rattle.regalloc2_checker.specs.Showing.{Showing, shows_in}
use Rattle.regalloc2_checker.specs.Fixpoint.{IsReachedBlock, IsRefuted}
use Rattle.regalloc2_checker.specs.Facts.{Facts}
use Rattle.regalloc2_checker.specs.Propagation.{mark_at, IsQueue, AreReached, IsUnderWay, UnmarkedAreSolved}
use Rattle.regalloc2_checker.specs.Tables.{BlockView, view_at, views, AreSoundViews}
use Rattle.regalloc2_checker.proofs.Updates.{reached-is, facts-is, facts-none, views-length}

-- a list of which one item alone is set
pub one-set : (xs : List Bool) (entry b : ℕ) (d : Bool) → b < length xs → ((j : ℕ) (e : Bool) → j < length xs → get_or xs j e ≡ false) →
    get_or (set xs entry true) b d ≡ nat_eq b entry
one-set xs entry b d less none = elim (cases_eq b entry) [
  | inl e ↦ subst (λ (n : ℕ). get_or (set xs entry true) n d ≡ nat_eq n entry) (sym e)
      (get_or-set_same xs entry true d (subst (λ (n : ℕ). n < length xs) e less) ∙ sym (eq-eqb entry entry refl))
  | inr n ↦ get_or-set_other xs entry b true d n ∙ none b d less ∙ sym (ne_eqb b entry n)
]

refuted_at_entry : (f : FunctionValue) (o : OutputValue) (p : Place) (v : VirtualRegister) → IsRefuted f o (first_of f f.entry) p v
unfolding cells_before
refuted_at_entry f o p v = ([], tt, refl, refl)

past : (t : List BlockView) (b : ℕ) → length t ≤ b → (view_at t b).reached ≡ false
past [] b less = refl
past (x ∷ t) zero less = absurd (omega arith)
past (x ∷ t) (suc b) less = past t b (omega arith)

module _ (f : FunctionValue) (o : OutputValue) (t : Showing) (rs marks : List Bool) (entries : List (Reverse (ℕ × ℕ))) (there : f.entry < length f.blocks)
    (long : length rs ≡ length f.blocks) (at : (b : ℕ) (d : Bool) → b < length rs → get_or rs b d ≡ nat_eq b f.entry)
    (size : length marks ≡ length f.blocks) (marked : (b : ℕ) (d : Bool) → b < length marks → get_or marks b d ≡ nat_eq b f.entry)
    (empty : (k i y : ℕ) → shows_in t k i y ≡ false) where
  reached-only : (b : ℕ) → (view_at (views t rs) b).reached ≡ true → b ≡ f.entry
  reached-only b h = elim (cases_lt b (length f.blocks)) [
    | inl l ↦ (
        let less : b < length rs = omega (arith, l, long) in
        eqb-true b f.entry (sym (reached-is t rs b true (nat_eq b f.entry) less (at b true less)) ∙ h)
        )
    | inr g ↦ from_both_at _ _ h (past (views t rs) b (omega (arith, g, long, views-length t 0 rs)))
  ]

  entry-reached : (view_at (views t rs) f.entry).reached ≡ true
  entry-reached =
      let less : f.entry < length rs = omega (arith, there, long) in
      reached-is t rs f.entry true true less (at f.entry true less ∙ eq-eqb f.entry f.entry refl)

  started-sound : AreSoundViews f o (views t rs)
  started-sound = record {
    size = views-length t 0 rs ∙ long;
    started = entry-reached;
    nothing = λ p v. ap (λ (F : Facts). F p v) (facts-is t rs f.entry (omega (arith, there, long)))
        ∙ facts-none t.places (shows_in t f.entry) (empty f.entry) p v;
    reached = λ b h. subst (IsReachedBlock f) (sym (reached-only b h)) ([], tt, refl);
    refuted = λ b p v h x. subst (λ (c : ℕ). IsRefuted f o (first_of f c) p v) (sym (reached-only b h)) (refuted_at_entry f o p v);
  }

  started-kept : UnmarkedAreSolved f o (views t rs) marks
  started-kept = record {
    size = size;
    settled = λ b less m r. from_both_at (mark_at marks b) _
        (marked b true (omega (arith, less, size)) ∙ eq-eqb b f.entry (reached-only b r)) m;
  }

  -- an analysis begins
  pub started : IsQueue marks entries → AreReached (views t rs) entries → IsUnderWay f o (views t rs) marks entries
  started q r = record { sound = started-sound; kept = started-kept; queue = q; reached = r }

  -- at the start the entry is reached
  pub started-entry : (view_at (views t rs) f.entry).reached ≡ true
  started-entry = entry-reached
