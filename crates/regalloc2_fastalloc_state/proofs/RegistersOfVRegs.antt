-- The set of the registers at which the vregs of a list are located.
use Rattle.std.proofs.Common.{◌≡◌, ◌<◌, ◌++◌, [], ◌∷◌, Bool, true, false, List, refl, sym, ap, ◌∙◌, subst, ⊎_elim, arith}
use Rattle.std.specs.Prelude.{Some, Contains, ◌↔◌, ◌||◌, slice_index_or}
use Rattle.std.proofs.lemmas.List.Elements.{Contains-append_left, Contains-append_right, Contains-push, Contains-push_cases}
use Rattle.std.proofs.lemmas.Bool.{or_left, or_right, cases_Bool}
use Rattle.regalloc2_names.specs.Place.{Place, NoPlace, InRegister}
use Rattle.regalloc2_names.specs.Register.{Register, VirtualRegister, is_register, has_register}
use Rattle.regalloc2_names.specs.declared.sets.PRegSet.{PRegSet}
use Rattle.regalloc2_semantics.proofs.Cells.{is_register-true, is_register-same}
use Rattle.regalloc2_carry.proofs.Forms.{same_register}
use Rattle.regalloc2_fastalloc_state.specs.FilledRegs.{AreRegistersOf}
use Rattle.regalloc2_fastalloc_state.specs.StateParts.{VRegAllocsValue, IsInverse, vreg_of_preg}

-- of a true disjunction whose first part is false, the second is true
or_false : (b c : Bool) → b ≡ false → (b || c) ≡ true → c ≡ true
or_false true c e h = absurd cc
or_false false c e h = h

-- a set with the register of one vreg more
pub one_found : (allocs : List Place) (vregs : List VirtualRegister) (x : VirtualRegister) (r : Register) (set new : PRegSet) →
    slice_index_or allocs x.number NoPlace ≡ InRegister r → ((q : Register) → has_register new q ≡ (is_register r q || has_register set q)) →
    AreRegistersOf allocs vregs set → AreRegistersOf allocs (vregs ++ x ∷ []) new
one_found allocs vregs x r set new at members old = record {
  has = λ q v c e. ⊎_elim
      (λ (d : Contains vregs v). members q ∙ or_right (is_register r q) (has_register set q) (old.has q v d e))
      (λ (d : x ≡ v).
      let same : r ≡ q = same_register r q (sym at ∙ ap (λ (w : VirtualRegister). slice_index_or allocs w.number NoPlace) d ∙ e) in
      members q ∙ or_left (is_register r q) (has_register set q) (subst (λ (y : Register). is_register r y ≡ true) same (is_register-same r)))
      (Contains-push_cases vregs x v c);
  only = λ q h. ⊎_elim
      (λ (t : is_register r q ≡ true). (
        x,
        Contains-push vregs x,
        subst (λ (y : Register). slice_index_or allocs x.number NoPlace ≡ InRegister y) (is_register-true r q t) at,
      ))
      (λ (f : is_register r q ≡ false).
      let o = old.only q (or_false (is_register r q) (has_register set q) f (sym (members q) ∙ h)) in (
        o.0,
        Contains-append_left vregs (x ∷ []) o.0 o.1,
        o.2,
      ))
      (cases_Bool (is_register r q));
}

-- the vreg that a walk comes to is in the list
pub is_met : (walked rest from all : List VirtualRegister) (x : VirtualRegister) → from ≡ x ∷ rest → walked ++ from ≡ all → Contains all x
is_met walked rest from all x e left =
    subst (λ (l : List VirtualRegister). Contains l x) (ap (λ (l : List VirtualRegister). walked ++ l) (sym e) ∙ left)
    (Contains-append_right walked (x ∷ rest) x (0, omega arith, refl))

-- the set stays if one vreg more is in no register
pub none_more : (allocs : List Place) (vregs : List VirtualRegister) (x : VirtualRegister) (set : PRegSet) →
    ((r : Register) → slice_index_or allocs x.number NoPlace ≡ InRegister r → ⊥) →
    AreRegistersOf allocs vregs set → AreRegistersOf allocs (vregs ++ x ∷ []) set
none_more allocs vregs x set never old = record {
  has = λ q v c e. ⊎_elim
      (λ (d : Contains vregs v). old.has q v d e)
      (λ (d : x ≡ v). absurd (never q (ap (λ (w : VirtualRegister). slice_index_or allocs w.number NoPlace) d ∙ e)))
      (Contains-push_cases vregs x v c);
  only = λ q h. let o = old.only q h in (o.0, Contains-append_left vregs (x ∷ []) o.0 o.1, o.2);
}

-- of the vregs that are in registers, it has the registers in which vregs are
pub filled_are : (t : VRegAllocsValue) (set : PRegSet) → IsInverse t → AreRegistersOf t.vreg_allocs t.in_registers set → (r : Register) → r.number < 64 →
    (has_register set r ≡ true) ↔ ((v : VirtualRegister) × (vreg_of_preg t r ≡ Some v))
filled_are t set i are r lt = (
  λ h.
      let o = are.only r h in
      let x = i.only o.0 o.1 in
      let same : x.0 ≡ r = same_register x.0 r (sym (i.holds x.0 o.0 x.1 x.2) ∙ o.2) in (
        o.0,
        subst (λ (q : Register). vreg_of_preg t q ≡ Some o.0) same x.2,
      ),
  λ w. are.has r w.0 (i.listed r w.0 lt w.1) (i.holds r w.0 lt w.1),
)
