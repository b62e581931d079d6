-- Where an operand may be placed, given what is held and its vreg's current location.
use Rattle.std.proofs.Common.{◌≡◌, ℕ, Bool, true, false, Option, Some, None, ◌⊎◌, ⊎_elim, inl, inr, sym, ap, ◌∙◌}
use Rattle.std.proofs.lemmas.Bool.{cases_Bool}
use Rattle.regalloc2_names.specs.Place.{Place}
use Rattle.regalloc2_carry.specs.OperandsPlaced.{What, uses, read_first, written_after, Progress, Placed, Once, Clear, Held, Free}
use Rattle.regalloc2_carry.proofs.SharedPlace.{share_late, share_early, share_uses, share_turn}

-- an operand may claim a place that is free at its positions
pub clear_free : (what : ℕ → What) (here : ℕ → Place) (claimed : ℕ → Bool) (early late : Place → Bool) (k : ℕ) (r : Place)
    → Held what here claimed early late → Free (what k) early late r → Clear what here claimed k r
clear_free what here claimed early late k r h f i c e =
    let at_early : early (here i) ≡ early r = ap early e in
    let at_late : late (here i) ≡ late r = ap late e in
    inr (⊎_elim
    (λ (di : (what i).is_def ≡ true). ⊎_elim
    (λ (dk : (what k).is_def ≡ true). let a = h.late_defs i c di in let b = f.late_def dk in absurd cc)
    (λ (uk : (what k).is_def ≡ false). ⊎_elim
    (λ (lk : (what k).is_late ≡ true). let a = h.late_defs i c di in let b = f.late_use lk in absurd cc)
    (λ (ek : (what k).is_late ≡ false). ⊎_elim
    (λ (li : (what i).is_late ≡ true). written_after di li uk ek)
    (λ (ei : (what i).is_late ≡ false). let a = h.early_defs i c ei in let b = f.early_use uk in absurd cc)
    (cases_Bool (what i).is_late))
    (cases_Bool (what k).is_late))
    (cases_Bool (what k).is_def))
    (λ (ui : (what i).is_def ≡ false). ⊎_elim
    (λ (dk : (what k).is_def ≡ true). ⊎_elim
    (λ (li : (what i).is_late ≡ true). let a = h.late_uses i c li in let b = f.late_def dk in absurd cc)
    (λ (ei : (what i).is_late ≡ false). ⊎_elim
    (λ (lk : (what k).is_late ≡ true). read_first ui ei dk lk)
    (λ (ek : (what k).is_late ≡ false). let a = h.early_uses i c ui in let b = f.early_def ek in absurd cc)
    (cases_Bool (what k).is_late))
    (cases_Bool (what i).is_late))
    (λ (uk : (what k).is_def ≡ false). let a = h.early_uses i c ui in let b = f.early_use uk in absurd cc)
    (cases_Bool (what k).is_def))
    (cases_Bool (what i).is_def))

-- a use may stay at its vreg's current location; a late one is placed before all early uses
pub clear_kept_use : (counts : ℕ → Type 0) (what : ℕ → What) (p : Progress) (T S : ℕ → Option Place) (k : ℕ) (r : Place)
    → Placed what p T S → Once counts what → ((j : ℕ) → p.claimed j ≡ true → counts j) → counts k
    → (what k).is_def ≡ false → T (what k).number ≡ Some r
    → ((what k).is_late ≡ true → (j : ℕ) → p.done j ≡ true → (what j).is_def ≡ false → (what j).is_late ≡ true)
    → Clear what p.here p.claimed k r
clear_kept_use counts what p T S k r s once within lt is_use was_located phase i c e =
    inr (⊎_elim
    (λ (di : (what i).is_def ≡ true). ⊎_elim
    (λ (l : p.lived (what k).number ≡ true).
    let a : (what k).number ≡ (what i).number = s.def_alone i (what k).number c di l (was_located ∙ ap Some (sym e)) in
    absurd (once.unread i k (within i c) lt di is_use (sym a)))
    (λ (n : p.lived (what k).number ≡ false).
    let w = s.newly (what k).number r n was_located in
    ⊎_elim
    (λ (x : i ≡ w.0). let y : (what i).is_def ≡ false = ap (λ (z : ℕ). (what z).is_def) x ∙ w.2 in absurd cc)
    (λ sh. ⊎_elim
    (λ (lk : (what k).is_late ≡ true). absurd (share_late (what i) (what w.0) sh di w.2 (phase lk w.0 w.1 w.2)))
    (λ (ek : (what k).is_late ≡ false). ⊎_elim
    (λ (li : (what i).is_late ≡ true). written_after di li is_use ek)
    (λ (ei : (what i).is_late ≡ false). absurd (share_early (what i) (what w.0) sh di ei w.2))
    (cases_Bool (what i).is_late))
    (cases_Bool (what k).is_late))
    (s.apart i w.0 c (s.claims w.0 w.1) (e ∙ sym w.4)))
    (cases_Bool (p.lived (what k).number)))
    (λ (ui : (what i).is_def ≡ false). uses ui is_use (sym (s.use_alone i (what k).number c ui (was_located ∙ ap Some (sym e)))))
    (cases_Bool (what i).is_def))

-- a definition may stay at its vreg's current location
pub clear_kept_def : (counts : ℕ → Type 0) (what : ℕ → What) (p : Progress) (T S : ℕ → Option Place) (k : ℕ) (r : Place)
    → Placed what p T S → Once counts what → ((j : ℕ) → p.claimed j ≡ true → counts j) → counts k
    → (what k).is_def ≡ true → T (what k).number ≡ Some r
    → Clear what p.here p.claimed k r
clear_kept_def counts what p T S k r s once within lt def was_located i c e =
    let l : p.lived (what k).number ≡ true = ⊎_elim
    (λ (a : p.lived (what k).number ≡ true). a)
    (λ (a : p.lived (what k).number ≡ false). let w = s.newly (what k).number r a was_located in
    absurd (once.unread k w.0 lt (within w.0 (s.claims w.0 w.1)) def w.2 (sym w.3)))
    (cases_Bool (p.lived (what k).number)) in
    inl (⊎_elim
    (λ (di : (what i).is_def ≡ true). once.one i k (within i c) lt di def (sym (s.def_alone i (what k).number c di l (was_located ∙ ap Some (sym e)))))
    (λ (ui : (what i).is_def ≡ false). absurd (once.unread k i lt (within i c) def ui (s.use_alone i (what k).number c ui (was_located ∙ ap Some (sym e)))))
    (cases_Bool (what i).is_def))

-- a vreg that the operand k evicts from the register that it claims lived, and no definition is placed there
pub evictable : (what : ℕ → What) (p : Progress) (T S : ℕ → Option Place) (k : ℕ) (r : Place) (w : ℕ)
    → Placed what p T S
    → Clear what p.here p.claimed k r → p.done k ≡ false → T w ≡ Some r → (w ≡ (what k).number → ⊥)
    → ((what k).is_def ≡ true → (what k).is_late ≡ true → (j : ℕ) → p.done j ≡ true → (what j).is_def ≡ false → (what j).is_late ≡ true)
    → (p.lived w ≡ true) × ((u : ℕ) → p.made_at r u ≡ false)
evictable what p T S k r w s clear new was_located other phase =
    let l : p.lived w ≡ true = ⊎_elim
    (λ (a : p.lived w ≡ true). a)
    (λ (a : p.lived w ≡ false). let n = s.newly w r a was_located in
    ⊎_elim
    (λ (e : n.0 ≡ k). let b : p.done k ≡ true = ap p.done (sym e) ∙ n.1 in absurd cc)
    (λ sh. ⊎_elim
    (λ (dk : (what k).is_def ≡ true). ⊎_elim
    (λ (lk : (what k).is_late ≡ true). absurd (share_late (what k) (what n.0) (share_turn (what n.0) (what k) sh) dk n.2 (phase dk lk n.0 n.1 n.2)))
    (λ (ek : (what k).is_late ≡ false). absurd (share_early (what k) (what n.0) (share_turn (what n.0) (what k) sh) dk ek n.2))
    (cases_Bool (what k).is_late))
    (λ (uk : (what k).is_def ≡ false). absurd (other (sym n.3 ∙ share_uses (what n.0) (what k) sh n.2 uk)))
    (cases_Bool (what k).is_def))
    (clear n.0 (s.claims n.0 n.1) n.4))
    (cases_Bool (p.lived w)) in (
      l,
      λ u. ⊎_elim
          (λ (a : p.made_at r u ≡ true). let n = s.makes r u a in
          let b : w ≡ (what n.0).number = s.def_alone n.0 w (s.claims n.0 n.1) n.2 l (was_located ∙ ap Some (sym n.4)) in
          let c : T w ≡ None = ap T b ∙ s.gone (what n.0).number (s.outs n.0 n.1 n.2) in absurd cc)
          (λ (a : p.made_at r u ≡ false). a)
          (cases_Bool (p.made_at r u)),
    )

-- a definition that reuses an input claims its place for that use too
pub clear_reuse : (what : ℕ → What) (here there : ℕ → Place) (claimed claimed2 : ℕ → Bool) (d k : ℕ) (r : Place)
    → (what d).is_def ≡ true → (what d).is_late ≡ true → (what k).is_def ≡ false → (what k).is_late ≡ false
    → ((j : ℕ) → claimed2 j ≡ true → (j ≡ d) ⊎ ((claimed j ≡ true) × (there j ≡ here j)))
    → Clear what here claimed k r → Clear what there claimed2 k r
clear_reuse what here there claimed claimed2 d k r dd dl uk ek grows clear i c e = ⊎_elim
    (λ (x : i ≡ d). inr (written_after (ap (λ (z : ℕ). (what z).is_def) x ∙ dd) (ap (λ (z : ℕ). (what z).is_late) x ∙ dl) uk ek))
    (λ x. clear i x.0 (sym x.1 ∙ e))
    (grows i c)

-- after the reuse is placed, and before all early uses are, no vreg is in its place
pub reuse_alone : (what : ℕ → What) (p : Progress) (T S : ℕ → Option Place) (d w : ℕ)
    → Placed what p T S → p.done d ≡ true → (what d).is_def ≡ true
    → ((j : ℕ) → p.done j ≡ true → (what j).is_def ≡ false → (what j).is_late ≡ true)
    → T w ≡ Some (p.here d) → ⊥
reuse_alone what p T S d w s dd def phase was_located = ⊎_elim
    (λ (l : p.lived w ≡ true).
    let a : w ≡ (what d).number = s.def_alone d w (s.claims d dd) def l was_located in
    let b : T w ≡ None = ap T a ∙ s.gone (what d).number (s.outs d dd def) in cc)
    (λ (l : p.lived w ≡ false).
    let n = s.newly w (p.here d) l was_located in
    ⊎_elim
    (λ (e : d ≡ n.0). let x : (what d).is_def ≡ false = ap (λ (z : ℕ). (what z).is_def) e ∙ n.2 in cc)
    (λ sh. share_late (what d) (what n.0) sh def n.2 (phase n.0 n.1 n.2))
    (s.apart d n.0 (s.claims d dd) (s.claims n.0 n.1) (sym n.4)))
    (cases_Bool (p.lived w))
