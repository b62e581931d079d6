-- What each step does to the record of the operands placed so far.
use Rattle.std.proofs.Common.{◌≡◌, ◌≢◌, ℕ, Bool, true, false, Option, Some, None, ◌⊎◌, ⊎_elim, inl, inr, refl, sym, ap, subst, ◌∙◌}
use Rattle.std.proofs.lemmas.Bool.{cases_eq, cases_Bool}
use Rattle.regalloc2_names.specs.Place.{Place, NoPlace}
use Rattle.regalloc2_carry.specs.OperandsPlaced.{What, Share, Progress, Placed, Sets, GoesToSlot, Puts, IsVacant, Places, PlacesDefinition, Clear}
use Rattle.regalloc2_carry.proofs.SharedPlace.{share_uses, share_turn}

-- a slot is made, at a place that no vreg claims
pub step_slot : (what : ℕ → What) (p : Progress) (T S S2 : ℕ → Option Place)
    → ((x : ℕ) (q : Place) → S2 x ≡ Some q → (S x ≡ Some q) ⊎ ((j : ℕ) → p.claimed j ≡ true → p.here j ≡ q → ⊥))
    → Placed what p T S → Placed what p T S2
step_slot what p T S S2 fresh s = record {
  there = s.there;
  apart = s.apart;
  def_alone = s.def_alone;
  use_alone = s.use_alone;
  slot_own = λ j w c e. ⊎_elim (λ h. s.slot_own j w c h) (λ h. absurd (h j c refl)) (fresh w (p.here j) e);
  kept = s.kept;
  cleared = s.cleared;
  claims = s.claims;
  found = s.found;
  newly = s.newly;
  lives = s.lives;
  gone = s.gone;
  defined = s.defined;
  outs = s.outs;
  makes = s.makes;
}

-- w, which lived, goes from its register to its slot
pub step_evict : (what : ℕ → What) (p : Progress) (T U S : ℕ → Option Place) (w : ℕ) (r to : Place)
    → GoesToSlot T U S w r to → p.lived w ≡ true → p.clobbered to ≡ false → Placed what p T S → Placed what p U S
step_evict what p T U S w r to m l free s =
    let own : (x : ℕ) (q : Place) → U x ≡ Some q → (T x ≡ Some q) ⊎ ((S x ≡ Some q) × (q ≡ to)) = λ x q e. ⊎_elim
    (λ (i : x ≡ w). let a : U w ≡ Some q = ap U (sym i) ∙ e in let b : q ≡ to = cc in inr (ap S i ∙ m.own ∙ ap Some (sym b), b))
    (λ (n : x ≡ w → ⊥). inl (sym (m.sets.same x n) ∙ e))
    (cases_eq x w) in
    record {
      there = s.there;
      apart = s.apart;
      def_alone = λ j x c d a e. ⊎_elim (λ h. s.def_alone j x c d a h) (λ h. s.slot_own j x c h.0) (own x (p.here j) e);
      use_alone = λ j x c d e. ⊎_elim (λ h. s.use_alone j x c d h) (λ h. s.slot_own j x c h.0) (own x (p.here j) e);
      slot_own = s.slot_own;
      kept = s.kept;
      cleared = λ x q a e. ⊎_elim (λ h. s.cleared x q a h) (λ h. ap p.clobbered h.1 ∙ free) (own x q e);
      claims = s.claims;
      found = λ j d reads. ⊎_elim
          (λ (i : (what j).number ≡ w). (to, ap U i ∙ m.sets.now))
          (λ (n : (what j).number ≡ w → ⊥). let f = s.found j d reads in (f.0, m.sets.same (what j).number n ∙ f.1))
          (cases_eq (what j).number w);
      newly = λ x q a e.
          let n : x ≡ w → ⊥ = λ i. let b : p.lived x ≡ true = ap p.lived i ∙ l in cc in
          s.newly x q a (sym (m.sets.same x n) ∙ e);
      lives = λ x a e.
          let n : x ≡ w → ⊥ = λ i. let b : U x ≡ Some to = ap U i ∙ m.sets.now in cc in
          s.lives x a (sym (m.sets.same x n) ∙ e);
      gone = λ x a.
          let n : x ≡ w → ⊥ = λ i. let b : T x ≡ Some r = ap T i ∙ m.was in let c = s.gone x a in cc in
          m.sets.same x n ∙ s.gone x a;
      defined = s.defined;
      outs = s.outs;
      makes = s.makes;
    }

-- the operand k claims the place r
pub step_claim : (what : ℕ → What) (p : Progress) (there : ℕ → Place) (claimed2 : ℕ → Bool) (T S : ℕ → Option Place) (k : ℕ) (r : Place)
    → Puts p.here there p.claimed claimed2 k r → Clear what p.here p.claimed k r → IsVacant (what k) p.lived T S r
    → (((what k).is_def ≡ true) ⊎ ((what k).is_late ≡ true) → p.clobbered r ≡ false) → r ≢ NoPlace
    → Placed what p T S → Placed what (record p { here = there; claimed = claimed2 }) T S
step_claim what p there claimed2 T S k r u clear v unclobbered real s =
    let other : (j : ℕ) → p.claimed j ≡ true → there j ≡ p.here j = λ j c. u.at_j j (λ e. let a : p.claimed k ≡ true = ap p.claimed (sym e) ∙ c in cc) in
    let at : (j : ℕ) → j ≡ k → there j ≡ r = λ j e. ap there e ∙ u.at_k in
    record {
      there = λ j cj. ⊎_elim
          (λ (jk : j ≡ k). λ e. real (sym (at j jk) ∙ e))
          (λ (c : p.claimed j ≡ true). λ e. s.there j c (sym (other j c) ∙ e))
          (u.grows j cj);
      apart = λ i j ci cj e. ⊎_elim
          (λ (ik : i ≡ k). ⊎_elim
          (λ (jk : j ≡ k). inl (ik ∙ sym jk))
          (λ (c : p.claimed j ≡ true). ⊎_elim
          (λ (jk : j ≡ k). inl (ik ∙ sym jk))
          (λ sh. inr (subst (λ x. Share (what x) (what j)) (sym ik) (share_turn (what j) (what k) sh)))
          (clear j c (sym (other j c) ∙ (sym e ∙ at i ik))))
          (u.grows j cj))
          (λ (c : p.claimed i ≡ true). ⊎_elim
          (λ (jk : j ≡ k). ⊎_elim
          (λ (ik : i ≡ k). inl (ik ∙ sym jk))
          (λ sh. inr (subst (λ x. Share (what i) (what x)) (sym jk) sh))
          (clear i c (sym (other i c) ∙ (e ∙ at j jk))))
          (λ (d : p.claimed j ≡ true). s.apart i j c d (sym (other i c) ∙ (e ∙ other j d)))
          (u.grows j cj))
          (u.grows i ci);
      def_alone = λ j w cj d a e. ⊎_elim
          (λ (jk : j ≡ k). v.for_def (ap (λ (x : ℕ). (what x).is_def) (sym jk) ∙ d) w a (e ∙ ap Some (at j jk)) ∙ ap (λ (x : ℕ). (what x).number) (sym jk))
          (λ (c : p.claimed j ≡ true). s.def_alone j w c d a (e ∙ ap Some (other j c)))
          (u.grows j cj);
      use_alone = λ j w cj d e. ⊎_elim
          (λ (jk : j ≡ k). v.for_use (ap (λ (x : ℕ). (what x).is_def) (sym jk) ∙ d) w (e ∙ ap Some (at j jk)) ∙ ap (λ (x : ℕ). (what x).number) (sym jk))
          (λ (c : p.claimed j ≡ true). s.use_alone j w c d (e ∙ ap Some (other j c)))
          (u.grows j cj);
      slot_own = λ j w cj e. ⊎_elim
          (λ (jk : j ≡ k). v.of_slots w (e ∙ ap Some (at j jk)) ∙ ap (λ (x : ℕ). (what x).number) (sym jk))
          (λ (c : p.claimed j ≡ true). s.slot_own j w c (e ∙ ap Some (other j c)))
          (u.grows j cj);
      kept = λ j cj h. ⊎_elim
          (λ (jk : j ≡ k). ap p.clobbered (at j jk)
          ∙ unclobbered (⊎_elim (λ d. inl (ap (λ (x : ℕ). (what x).is_def) (sym jk) ∙ d)) (λ l. inr (ap (λ (x : ℕ). (what x).is_late) (sym jk) ∙ l)) h))
          (λ (c : p.claimed j ≡ true). ap p.clobbered (other j c) ∙ s.kept j c h)
          (u.grows j cj);
      cleared = s.cleared;
      claims = λ j d. u.keeps j (s.claims j d);
      found = s.found;
      newly = λ w q a e. let n = s.newly w q a e in (n.0, n.1, n.2, n.3, other n.0 (s.claims n.0 n.1) ∙ n.4);
      lives = s.lives;
      gone = s.gone;
      defined = s.defined;
      outs = s.outs;
      makes = λ q w x. let n = s.makes q w x in (n.0, n.1, n.2, n.3, other n.0 (s.claims n.0 n.1) ∙ n.4);
    }

-- a definition that claimed its place is placed, and its vreg leaves the table
pub step_def : (what : ℕ → What) (p : Progress) (done2 out2 : ℕ → Bool) (Y : Place → ℕ → Bool) (T U S : ℕ → Option Place) (k : ℕ)
    → p.claimed k ≡ true → (what k).is_def ≡ true
    → ((j : ℕ) → p.done j ≡ true → (what j).is_def ≡ false → (what k).number ≡ (what j).number → ⊥)
    → Places p.done done2 k → PlacesDefinition what p.here p.out out2 p.made_at Y k → Sets T U (what k).number None
    → Placed what p T S → Placed what (record p { done = done2; out = out2; made_at = Y }) U S
step_def what p done2 out2 Y T U S k claim def unread u m z s =
    let v : ℕ = (what k).number in
    let back : (x : ℕ) (q : Place) → U x ≡ Some q → T x ≡ Some q = λ x q e.
    sym (z.same x (λ i. let a : U x ≡ None = ap U i ∙ z.now in cc)) ∙ e in
    record {
      there = s.there;
      apart = s.apart;
      def_alone = λ j x c d a e. s.def_alone j x c d a (back x (p.here j) e);
      use_alone = λ j x c d e. s.use_alone j x c d (back x (p.here j) e);
      slot_own = s.slot_own;
      kept = s.kept;
      cleared = λ x q a e. s.cleared x q a (back x q e);
      claims = λ j d. ⊎_elim (λ (e : j ≡ k). ap p.claimed e ∙ claim) (λ h. s.claims j h) (u.grows j d);
      found = λ j d reads. ⊎_elim
          (λ (e : j ≡ k). let a : (what k).is_def ≡ false = ap (λ (x : ℕ). (what x).is_def) (sym e) ∙ reads in absurd cc)
          (λ h. let f = s.found j h reads in (f.0, z.same (what j).number (λ i. unread j h reads (sym i)) ∙ f.1))
          (u.grows j d);
      newly = λ x q a e. let n = s.newly x q a (back x q e) in (n.0, u.keeps n.0 n.1, n.2, n.3, n.4);
      lives = λ x a e. ⊎_elim
          (λ (i : x ≡ v). ap out2 i ∙ m.is_out)
          (λ (n : x ≡ v → ⊥). m.out_keeps x (s.lives x a (sym (z.same x n) ∙ e)))
          (cases_eq x v);
      gone = λ x a. ⊎_elim
          (λ (i : x ≡ v). ap U i ∙ z.now)
          (λ (n : x ≡ v → ⊥). ⊎_elim (λ i. absurd (n i)) (λ o. z.same x n ∙ s.gone x o) (m.out_grows x a))
          (cases_eq x v);
      defined = λ x a. ⊎_elim (λ i. (k, u.places, def, sym i)) (λ o. let n = s.defined x o in (n.0, u.keeps n.0 n.1, n.2, n.3)) (m.out_grows x a);
      outs = λ j d f. ⊎_elim (λ (e : j ≡ k). ap (λ (x : ℕ). out2 (what x).number) e ∙ m.is_out) (λ h. m.out_keeps _ (s.outs j h f)) (u.grows j d);
      makes = λ q w x. ⊎_elim
          (λ h. (k, u.places, def, sym h.1, sym h.0))
          (λ h. let n = s.makes q w h in (n.0, u.keeps n.0 n.1, n.2, n.3, n.4))
          (m.grows q w x);
    }

-- a use that claimed its place is placed, where its vreg has a location
pub step_use : (what : ℕ → What) (p : Progress) (done2 : ℕ → Bool) (T S : ℕ → Option Place) (k : ℕ) (q : Place)
    → p.claimed k ≡ true → (what k).is_def ≡ false → T (what k).number ≡ Some q → Places p.done done2 k
    → Placed what p T S → Placed what (record p { done = done2 }) T S
step_use what p done2 T S k q claim is_use was_located u s = record {
  there = s.there;
  apart = s.apart;
  def_alone = s.def_alone;
  use_alone = s.use_alone;
  slot_own = s.slot_own;
  kept = s.kept;
  cleared = s.cleared;
  claims = λ j d. ⊎_elim (λ (e : j ≡ k). ap p.claimed e ∙ claim) (λ h. s.claims j h) (u.grows j d);
  found = λ j d reads. ⊎_elim (λ (e : j ≡ k). (q, ap (λ (x : ℕ). T (what x).number) e ∙ was_located)) (λ h. s.found j h reads) (u.grows j d);
  newly = λ x o a e. let n = s.newly x o a e in (n.0, u.keeps n.0 n.1, n.2, n.3, n.4);
  lives = s.lives;
  gone = s.gone;
  defined = λ x a. let n = s.defined x a in (n.0, u.keeps n.0 n.1, n.2, n.3);
  outs = λ j d f. ⊎_elim
      (λ (e : j ≡ k). let a : (what k).is_def ≡ true = ap (λ (x : ℕ). (what x).is_def) (sym e) ∙ f in absurd cc)
      (λ h. s.outs j h f) (u.grows j d);
  makes = λ o w x. let n = s.makes o w x in (n.0, u.keeps n.0 n.1, n.2, n.3, n.4);
}

-- a use whose vreg had no location gives it its place
pub step_new : (what : ℕ → What) (p : Progress) (done2 : ℕ → Bool) (T U S : ℕ → Option Place) (k : ℕ)
    → p.claimed k ≡ true → (what k).is_def ≡ false → T (what k).number ≡ None
    → ((j : ℕ) → p.done j ≡ true → (what j).is_def ≡ true → (what j).number ≡ (what k).number → ⊥)
    → Places p.done done2 k → Sets T U (what k).number (Some (p.here k))
    → Placed what p T S → Placed what (record p { done = done2 }) U S
step_new what p done2 T U S k claim is_use none unmade u z s =
    let v : ℕ = (what k).number in
    let inside : p.out v ≡ false = ⊎_elim
    (λ (a : p.out v ≡ true). let n = s.defined v a in absurd (unmade n.0 n.1 n.2 n.3))
    (λ (a : p.out v ≡ false). a) (cases_Bool (p.out v)) in
    let dead : p.lived v ≡ false = ⊎_elim
    (λ (a : p.lived v ≡ true). let b = s.lives v a none in absurd cc)
    (λ (a : p.lived v ≡ false). a) (cases_Bool (p.lived v)) in
    let from : (x : ℕ) (q : Place) → U x ≡ Some q → ((x ≡ v) × (q ≡ p.here k)) ⊎ (T x ≡ Some q) = λ x q e. ⊎_elim
    (λ (i : x ≡ v). let a : U v ≡ Some q = ap U (sym i) ∙ e in let b : q ≡ p.here k = cc in inl (i, b))
    (λ (n : x ≡ v → ⊥). inr (sym (z.same x n) ∙ e))
    (cases_eq x v) in
    record {
      there = s.there;
      apart = s.apart;
      def_alone = λ j x c d a e. ⊎_elim
          (λ h. let b : p.lived v ≡ true = ap p.lived (sym h.0) ∙ a in absurd cc)
          (λ h. s.def_alone j x c d a h) (from x (p.here j) e);
      use_alone = λ j x c d e. ⊎_elim
          (λ h. ⊎_elim
          (λ (i : j ≡ k). h.0 ∙ ap (λ (y : ℕ). (what y).number) (sym i))
          (λ sh. h.0 ∙ sym (share_uses (what j) (what k) sh d is_use))
          (s.apart j k c claim h.1))
          (λ h. s.use_alone j x c d h) (from x (p.here j) e);
      slot_own = s.slot_own;
      kept = s.kept;
      cleared = λ x q a e. ⊎_elim
          (λ h. let b : p.lived v ≡ true = ap p.lived (sym h.0) ∙ a in absurd cc)
          (λ h. s.cleared x q a h) (from x q e);
      claims = λ j d. ⊎_elim (λ (e : j ≡ k). ap p.claimed e ∙ claim) (λ h. s.claims j h) (u.grows j d);
      found = λ j d reads. ⊎_elim
          (λ (i : (what j).number ≡ v). (p.here k, ap U i ∙ z.now))
          (λ (n : (what j).number ≡ v → ⊥). ⊎_elim
          (λ (e : j ≡ k). absurd (n (ap (λ (y : ℕ). (what y).number) e)))
          (λ h. let f = s.found j h reads in (f.0, z.same (what j).number n ∙ f.1)) (u.grows j d))
          (cases_eq (what j).number v);
      newly = λ x q a e. ⊎_elim
          (λ h. (k, u.places, is_use, sym h.0, sym h.1))
          (λ h. let n = s.newly x q a h in (n.0, u.keeps n.0 n.1, n.2, n.3, n.4)) (from x q e);
      lives = λ x a e.
          let n : x ≡ v → ⊥ = λ i. let b : U x ≡ Some (p.here k) = ap U i ∙ z.now in cc in
          s.lives x a (sym (z.same x n) ∙ e);
      gone = λ x a.
          let n : x ≡ v → ⊥ = λ i. let b : p.out v ≡ true = ap p.out (sym i) ∙ a in cc in
          z.same x n ∙ s.gone x a;
      defined = λ x a. let n = s.defined x a in (n.0, u.keeps n.0 n.1, n.2, n.3);
      outs = λ j d f. ⊎_elim
          (λ (e : j ≡ k). let a : (what k).is_def ≡ true = ap (λ (x : ℕ). (what x).is_def) (sym e) ∙ f in absurd cc)
          (λ h. s.outs j h f) (u.grows j d);
      makes = λ q w x. let n = s.makes q w x in (n.0, u.keeps n.0 n.1, n.2, n.3, n.4);
    }
