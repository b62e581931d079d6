-- The two tables of places stay inverse.
use Rattle.std.proofs.Common.{ℕ, ◌≡◌, ◌≢◌, ◌<◌, Bool, true, false, cond, List, ◌∷◌, not, length, refl, sym, ap, ◌∙◌, ◌⊎◌, inl, inr, ⊎_elim, nat_eq}
use Rattle.std.proofs.Common.{slice_index_or, set, subst, get_or-set_same, arith}
use Rattle.std.specs.Prelude.{Option, None, Some, Contains}
use Rattle.std.proofs.lemmas.List.{get_or-set_other}
use Rattle.std.proofs.Math.ListN.{length-set}
use Rattle.regalloc2_names.specs.Register.{Register, VirtualRegister}
use Rattle.regalloc2_names.specs.RegisterBits.{bits_of_register}
use Rattle.std.proofs.lemmas.List.Elements.{Contains-get_or}
use Rattle.std.proofs.lemmas.Bool.{cases_eq}
use Rattle.regalloc2_names.specs.Place.{Place, NoPlace, InRegister, InSlot, is_in_register, is_place, register_of_place}
use Rattle.regalloc2_semantics.proofs.Cells.{is_place-true, is_place-same, is_place-other}
use Rattle.regalloc2_carry.proofs.Plain.{chosen, no_some}
use Rattle.regalloc2_fastalloc_state.specs.StateParts.{VRegAllocsValue, IsInverse, SetsAlloc, SetsVRegInPReg, HasIf, IsNewest, alloc_of, vreg_of_preg}
use Rattle.regalloc2_fastalloc_state.specs.StateParts.{without, in_front_if, count_after}
use Rattle.regalloc2_fastalloc_state.proofs.TakenOut.{left_in, in_front, front_or_rest, member_kept, passes_other}

-- two equal options that have values have equal values
pub same_some : {X : Type 0} (x y : X) → Some x ≡ Some y → x ≡ y
same_some x y h = cc

-- a place that is a register
pub in_register_of : (p : Place) → is_in_register p ≡ true → (r : Register) × (p ≡ InRegister r)
in_register_of NoPlace e = absurd cc
in_register_of (InRegister r) e = (r, refl)
in_register_of (InSlot n) e = absurd cc

-- the tables after a vreg's location was set, read from the register
pub after_settling : (t u : VRegAllocsValue) (v w : VirtualRegister) (p : Place) (r : Register) → r.number < 64 → IsInverse t → SetsAlloc t u v p →
    vreg_of_preg u r ≡ Some w
    → ((w ≡ v) × (p ≡ InRegister r)) ⊎ ((w.number ≢ v.number) × (vreg_of_preg t r ≡ Some w))
after_settling t u v w p r lt i s h =
    let e = sym (s.holders r lt) ∙ h in
    ⊎_elim
    (λ (a : (is_place p (InRegister r) ≡ true) × (Some v ≡ Some w)). inl (sym (same_some v w a.1), is_place-true p (InRegister r) a.0))
    (λ (o : ((is_place p (InRegister r) ≡ false) × (is_place (alloc_of t v.number) (InRegister r) ≡ true) × (None ≡ Some w))
    ⊎ ((is_place p (InRegister r) ≡ false) × (is_place (alloc_of t v.number) (InRegister r) ≡ false) × (vreg_of_preg t r ≡ Some w))). ⊎_elim
    (λ (a : (is_place p (InRegister r) ≡ false) × (is_place (alloc_of t v.number) (InRegister r) ≡ true) × (None ≡ Some w)). absurd (no_some w a.2))
    (λ (a : (is_place p (InRegister r) ≡ false) × (is_place (alloc_of t v.number) (InRegister r) ≡ false) × (vreg_of_preg t r ≡ Some w)). inr (
      (λ (n : w.number ≡ v.number).
          let there : alloc_of t v.number ≡ InRegister r = ap (alloc_of t) (sym n) ∙ i.holds r w lt a.2 in
          let yes : is_place (alloc_of t v.number) (InRegister r) ≡ true = ap (λ (q : Place). is_place q (InRegister r)) there ∙ is_place-same (InRegister r) in
          absurd (let no : is_place (alloc_of t v.number) (InRegister r) ≡ false = a.1 in cc)),
      a.2,
    ))
    o)
    (chosen (is_place p (InRegister r)) (is_place (alloc_of t v.number) (InRegister r)) (Some v) None (vreg_of_preg t r) (Some w) e)

-- `vreg_allocs` and `vreg_in_preg` stay inverse if a vreg gets a location that is no preg, or a preg that is empty or
-- its own
pub inverse_kept : (t u : VRegAllocsValue) (v : VirtualRegister) (p : Place) → v.number < length t.vreg_allocs → length u.vreg_in_preg ≡ 256
    → ((r : Register) → p ≡ InRegister r → r.number < 64)
    → ((r : Register) → p ≡ InRegister r → (vreg_of_preg t r ≡ None) ⊎ (vreg_of_preg t r ≡ Some v))
    → IsInverse t → SetsAlloc t u v p → IsInverse u
inverse_kept t u v p known long small alone i s = record {
  registers = long;
  small = λ n r e. ⊎_elim
      (λ (q : n ≡ v.number). small r (sym s.here ∙ ap (alloc_of u) (sym q) ∙ e))
      (λ (q : n ≢ v.number). i.small n r (sym (s.others n q) ∙ e))
      (cases_eq n v.number);
  known = λ r w lt h. ⊎_elim
      (λ (a : (w ≡ v) × (p ≡ InRegister r)). rw (s.long, ap (λ (x : VirtualRegister). x.number) a.0) known)
      (λ (a : (w.number ≢ v.number) × (vreg_of_preg t r ≡ Some w)). rw s.long (i.known r w lt a.1))
      (after_settling t u v w p r lt i s h);
  holds = λ r w lt h. ⊎_elim
      (λ (a : (w ≡ v) × (p ≡ InRegister r)). ap (λ (x : VirtualRegister). alloc_of u x.number) a.0 ∙ s.here ∙ a.1)
      (λ (a : (w.number ≢ v.number) × (vreg_of_preg t r ≡ Some w)). s.others w.number a.0 ∙ i.holds r w lt a.1)
      (after_settling t u v w p r lt i s h);
  vreg_allocs = λ n r e. ⊎_elim
      (λ (q : n ≡ v.number).
      let there : p ≡ InRegister r = sym s.here ∙ ap (alloc_of u) (sym q) ∙ e in
      let yes : is_place p (InRegister r) ≡ true = ap (λ (x : Place). is_place x (InRegister r)) there ∙ is_place-same (InRegister r) in (
        v,
        sym q,
        s.holders r (small r there) ∙ ap
            (λ (b : Bool). cond b (Some v) (cond (is_place (alloc_of t v.number) (InRegister r)) None (vreg_of_preg t r))) yes,
      ))
      (λ (q : n ≢ v.number).
      let was : alloc_of t n ≡ InRegister r = sym (s.others n q) ∙ e in
      let w = i.vreg_allocs n r was in
      (w.0, w.1, still t u v w.0 p n r (i.small n r was) alone i s q w.1 w.2))
      (cases_eq n v.number);
  listed = λ r w lt h. subst (λ (vs : List VirtualRegister). Contains vs w) (sym s.order)
      (in_front (is_in_register p) v (without v.number t.in_registers) w (⊎_elim
      (λ (a : (w ≡ v) × (p ≡ InRegister r)). inl (a.0, ap is_in_register a.1))
      (λ (a : (w.number ≢ v.number) × (vreg_of_preg t r ≡ Some w)). inr (member_kept (λ x. not (nat_eq x.number v.number)) t.in_registers w
      (i.listed r w lt a.1) (passes_other v.number w a.0)))
      (after_settling t u v w p r lt i s h)));
  only = λ w h. ⊎_elim
      (λ (a : (w ≡ v) × (is_in_register p ≡ true)).
      let q = in_register_of p a.1 in
      let yes : is_place p (InRegister q.0) ≡ true = ap (λ (x : Place). is_place x (InRegister q.0)) q.1 ∙ is_place-same (InRegister q.0) in
      let lt = small q.0 q.1 in (
        q.0,
        lt,
        s.holders q.0 lt ∙ ap (λ (b : Bool). cond b (Some v) (cond (is_place (alloc_of t v.number) (InRegister q.0)) None (vreg_of_preg t q.0))) yes
            ∙ ap Some (sym a.0),
      ))
      (λ (a : Contains (without v.number t.in_registers) w).
      let l = left_in v.number t.in_registers w a in
      let x = i.only w l.0 in
      (x.0, x.1, still t u v w p w.number x.0 x.1 alone i s l.1 refl x.2))
      (front_or_rest (is_in_register p) v (without v.number t.in_registers) w (subst (λ (vs : List VirtualRegister). Contains vs w) s.order h));
}
  where
    still : (t u : VRegAllocsValue) (v w : VirtualRegister) (p : Place) (n : ℕ) (r : Register) → r.number < 64
        → ((r : Register) → p ≡ InRegister r → (vreg_of_preg t r ≡ None) ⊎ (vreg_of_preg t r ≡ Some v))
        → IsInverse t → SetsAlloc t u v p → n ≢ v.number → w.number ≡ n → vreg_of_preg t r ≡ Some w → vreg_of_preg u r ≡ Some w
    still t u v w p n r lt alone i s q e h =
        let not_v : vreg_of_preg t r ≡ Some v → ⊥ = λ (g : vreg_of_preg t r ≡ Some v). let f : w ≡ v = same_some w v (sym h ∙ g) in
        q (sym e ∙ ap (λ (x : VirtualRegister). x.number) f) in
        let a : is_place p (InRegister r) ≡ false = is_place-other p (InRegister r) (λ (f : p ≡ InRegister r). ⊎_elim
        (λ (g : vreg_of_preg t r ≡ None). no_some w (sym g ∙ h))
        not_v
        (alone r f)) in
        let b : is_place (alloc_of t v.number) (InRegister r) ≡ false = is_place-other (alloc_of t v.number) (InRegister r)
        (λ (f : alloc_of t v.number ≡ InRegister r).
        let x = i.vreg_allocs v.number r f in
        let y : x.0 ≡ w = same_some x.0 w (sym x.2 ∙ h) in
        q (sym e ∙ ap (λ (z : VirtualRegister). z.number) (sym y) ∙ x.1)) in
        s.holders r lt ∙ rw (a, b) h

-- The tables as code writes them where the location of a vreg is set: the old register is emptied, the new one filled,
-- the list updated, and the location set.
pub record OneLocationSet : Type 0 where
  pub vreg_allocs : List Place
  pub held : List (Option VirtualRegister)
  pub emptied : List (Option VirtualRegister)
  pub filled : List (Option VirtualRegister)
  pub listed : List VirtualRegister
  pub now_listed : List VirtualRegister
  pub vreg : VirtualRegister
  pub number : ℕ
  pub place : Place
  pub left : Place
  pub numbered : number ≡ vreg.number
  pub known : number < length vreg_allocs
  pub was_left : left ≡ slice_index_or vreg_allocs number NoPlace
  pub empties : SetsVRegInPReg held emptied left None
  pub fills : SetsVRegInPReg emptied filled place (Some vreg)
  pub order : now_listed ≡ in_front_if (is_in_register place) vreg (without number listed)
  pub watched : List Bool
  pub changes : ℕ
  pub now_changes : ℕ
  pub counts : now_changes ≡ count_after watched changes number left place

-- before and after
abbrev pub unmarked : OneLocationSet → VRegAllocsValue
unmarked m = record { vreg_allocs = m.vreg_allocs; vreg_in_preg = m.held; in_registers = m.listed; watched = m.watched; changes = m.changes }

abbrev pub marked : OneLocationSet → VRegAllocsValue
marked m = record { vreg_allocs = set m.vreg_allocs m.number m.place; vreg_in_preg = m.filled; in_registers = m.now_listed; watched = m.watched; changes = m.now_changes }

-- one register is emptied, and another filled
pub sets_alloc_by_marks : (m : OneLocationSet) → SetsAlloc (unmarked m) (marked m) m.vreg m.place
sets_alloc_by_marks m =
    let T : List Place = m.vreg_allocs in
    let n : ℕ = m.number in
    let p : Place = m.place in
    let e : n ≡ m.vreg.number = m.numbered in
    record {
      long = length-set T n p;
      here = (let P : ℕ → Type 0 = λ k. slice_index_or (set T n p) k NoPlace ≡ p in subst P e (get_or-set_same T n p NoPlace m.known));
      others = λ k d. get_or-set_other T n k p NoPlace (λ x. d (x ∙ e));
      holders = λ r lt. m.fills.each r lt ∙ ap (λ (x : Option VirtualRegister). cond (is_place p (InRegister r)) (Some m.vreg) x)
          (m.empties.each r lt ∙ ap (λ (x : Place). cond (is_place x (InRegister r)) None (slice_index_or m.held (bits_of_register r) None))
          (m.was_left ∙ ap (λ (k : ℕ). slice_index_or T k NoPlace) e));
      order = m.order ∙ ap (λ (k : ℕ). in_front_if (is_in_register p) m.vreg (without k m.listed)) e;
      watched = refl;
      changes = m.counts ∙ ap (λ (x : Place). count_after m.watched m.changes n x p) m.was_left
          ∙ ap (λ (k : ℕ). count_after m.watched m.changes k (slice_index_or T k NoPlace) p) e;
    }

-- the tables stay inverse where one register is emptied and another filled
pub inverse_marked : (m : OneLocationSet) → ((r : Register) → m.place ≡ InRegister r → r.number < 64)
    → ((r : Register) → m.place ≡ InRegister r → (vreg_of_preg (unmarked m) r ≡ None) ⊎ (vreg_of_preg (unmarked m) r ≡ Some m.vreg))
    → IsInverse (unmarked m) → IsInverse (marked m)
inverse_marked m small alone i = inverse_kept (unmarked m) (marked m) m.vreg m.place (rw (← m.numbered) m.known)
    (m.fills.long ∙ m.empties.long ∙ i.registers) small alone i (sets_alloc_by_marks m)

-- the vreg of a number is in the list exactly if it is in a register
pub listed_if : (t : VRegAllocsValue) (n : ℕ) (p : Place) → p ≡ alloc_of t n → IsInverse t → HasIf (is_in_register p) t.in_registers n
listed_if t n p e i = record {
  has = λ yes.
      let q = in_register_of p yes in
      let there : alloc_of t n ≡ InRegister q.0 = sym e ∙ q.1 in
      let w = i.vreg_allocs n q.0 there in
      let h = i.listed q.0 w.0 (i.small n q.0 there) w.2 in (h.0, w.0, h.1, h.2, w.1);
  absent = λ no k d less same.
      let w : VirtualRegister = slice_index_or t.in_registers k d in
      let x = i.only w (Contains-get_or t.in_registers k d less) in
      let at : p ≡ InRegister x.0 = e ∙ ap (alloc_of t) (sym same) ∙ i.holds x.0 w x.1 x.2 in
      let yes : is_in_register p ≡ true = ap is_in_register at in absurd cc;
}

-- the register of the vreg that is first in the list
pub newest_in : (t : VRegAllocsValue) (v : VirtualRegister) (rest : List VirtualRegister) (p : Place) (o : Option Register) → IsInverse t →
    t.in_registers ≡ v ∷ rest → p ≡ alloc_of t v.number → o ≡ register_of_place p → (r : Register) × (o ≡ Some r) × IsNewest t r
newest_in t v rest p o i e at is =
    let x = i.only v (rw e (0, omega arith, refl)) in
    let there : p ≡ InRegister x.0 = at ∙ i.holds x.0 v x.1 x.2 in (
      x.0,
      is ∙ ap register_of_place there,
      record { vreg = v; rest = rest; newest = e; small = x.1; held = x.2 },
    )
