-- An operand under `Reg` takes a register that holds no other vreg, as long as registers suffice for all vregs.
use Rattle.regalloc2_carry.proofs.Forms.{same_register}
use Rattle.std.proofs.Common.{ℕ, zero, suc, ◌≡◌, ◌≢◌, ◌+◌, ◌<◌, ◌≤◌, ◌⊎◌, inl, inr, Bool, true, false, List, ◌∷◌, ◌++◌, length, refl, arith, sym, ap, ◌∙◌}
use Rattle.std.proofs.Common.{subst, length-append, eqb-true}
use Rattle.std.specs.Prelude.{Some, All, Contains, slice_index_or}
use Rattle.std.specs.List.{IsDistinct}
use Rattle.std.proofs.lemmas.Bool.{cases_Bool, and_right}
use Rattle.std.proofs.lemmas.List.Elements.{All-cons, Contains-append_cases, Contains-append_right, Contains-get_or, recursion_from_All}
use Rattle.std.proofs.lemmas.Map.Keys.{IsDistinct-cons}
use Rattle.regalloc2_names.specs.declared.RegClass.{RegClass}
use Rattle.regalloc2_names.specs.declared.RegClass.TheVariants.{Int, Float, Vector}
use Rattle.regalloc2_names.specs.declared.sets.PRegSet.{PRegSet}
use Rattle.regalloc2_names.specs.Register.{Register, VirtualRegister, is_register, has_register}
use Rattle.regalloc2_names.specs.Place.{Place, NoPlace, InRegister}
use Rattle.regalloc2_names.specs.Same.{is_register-true}
use Rattle.regalloc2_semantics.specs.Fits.{register_number}
use Rattle.regalloc2_function.specs.Machine.{count_below}
use Rattle.regalloc2_fastalloc_state.specs.declared.request.OperandRequest.{OperandRequest}
use Rattle.regalloc2_fastalloc_state.specs.declared.request.Requirement.{Requirement}
use Rattle.regalloc2_fastalloc_state.specs.declared.request.Requirement.TheVariants.{AnyPlace, AnyReg, OnStack, InPReg}
use Rattle.regalloc2_fastalloc_state.specs.declared.positions.Positions.{Positions}
use Rattle.regalloc2_fastalloc_state.specs.declared.inst_regs.InstRegs.{InstRegs}
use Rattle.regalloc2_fastalloc_state.specs.StateParts.{IsLruOf, vreg_of_preg, alloc_of}
use Rattle.regalloc2_fastalloc_state.specs.Choice.{chosen}
use Rattle.regalloc2_fastalloc_state.specs.InstRegs.{RemovesAvailable, is_available_at, is_free_throughout}
use Rattle.regalloc2_fastalloc_proofs.specs.InstSteps.{StateValue, SameButOrder, AllocsOperand, ClaimsPlace, SelectsPlace, MeetsRequirement, in_slot}
use Rattle.regalloc2_fastalloc_proofs.specs.InstSteps.{in_register, UsesReg, UsesPlace, used, not_used, TakesPlace, order_of, own, others, empty, cleared}
use Rattle.regalloc2_fastalloc_proofs.specs.InstSteps.{stays, fixed, slot, free, is_stack_in, EvictsOtherVRegs}
use Rattle.regalloc2_fastalloc_proofs.proofs.Unspilled.FreeAtAny.{free_at_any}
use Rattle.regalloc2_fastalloc_proofs.proofs.Unspilled.LruUnusedLast.{without_register, but_from, but_less, but_most, but_not, counted, found_last, newest_first, same_members}
use Rattle.regalloc2_fastalloc_proofs.proofs.Safety.StepsKeepState.{whole_tidy}
use Rattle.regalloc2_fastalloc_proofs.proofs.Slots.StepsKeepSlots.{cases_none}
use Rattle.regalloc2_fastalloc_proofs.specs.Unspilled.SpillFree.{FitInRegs, IsSpillFree, IsSpillFreeIn, is_same_number}

-- two register classes are the same, or they aren't
pub cases_class : (a b : RegClass) → (a ≡ b) ⊎ (a ≢ b)
cases_class Int Int = inl refl
cases_class Float Float = inl refl
cases_class Vector Vector = inl refl
cases_class a b = inr (λ e. cc)

-- vregs that are equal as options are equal
pub some_same : (v w : VirtualRegister) → Some v ≡ Some w → v ≡ w
some_same v w e = cc

-- `IsSpillFreeIn`, but the vreg of the register r has no location yet
pub record Taken (names : List VirtualRegister) (gone : ℕ → Bool) (n : ℕ) (r : Register) (class : RegClass) (order : List Register) (t : StateValue)
    (inst_regs : InstRegs) : Type 0 where
  pub used : List Register
  pub unused : List Register
  pub met : List VirtualRegister
  pub ring : order ≡ used ++ unused
  pub few : length used ≤ length met
  pub distinct : IsDistinct is_same_number met
  pub of_class : All (λ v. (v.class ≡ class) × Contains names v) met
  pub known : (v : VirtualRegister) → Contains met v → (alloc_of t.places v.number ≢ NoPlace) ⊎ ((gone v.number ≡ true) ⊎ (v.number ≡ n))
  pub empty : (m : ℕ) (q : Register) → alloc_of t.places m ≡ InRegister q → Contains unused q → ⊥
  pub free : (q : Register) → Contains unused q → is_free_throughout inst_regs q ≡ true
  pub apart : Contains unused r → ⊥

-- other registers stay free
pub free_others : (t u : InstRegs) (r : Register) (p : Positions) → RemovesAvailable t u r p → (q : Register) → is_register r q ≡ false →
    is_free_throughout t q ≡ true → is_free_throughout u q ≡ true
free_others t u r p h q e f = rw (h.early q, h.late q, e, and_right p.early false refl, and_right p.late false refl) f

-- nothing changes for another class
taken_in_other_class : (names : List VirtualRegister) (gone : ℕ → Bool) (n : ℕ) (r : Register) (class : RegClass) (old new : List Register) (t : StateValue)
    (inst_regs after : InstRegs) → class ≢ r.class → ((q : Register) → Contains old q → q.class ≡ class)
    → ((q : Register) → is_register r q ≡ false → is_free_throughout inst_regs q ≡ true → is_free_throughout after q ≡ true) → new ≡ old →
    IsSpillFreeIn names gone class old t inst_regs → Taken names gone n r class new t after
taken_in_other_class names gone n r class old new t inst_regs after other members kept same h = record {
  used = h.used;
  unused = h.unused;
  met = h.met;
  ring = same ∙ h.ring;
  few = h.few;
  distinct = h.distinct;
  of_class = h.of_class;
  known = λ v c. elim (h.known v c) [ inl a ↦ inl a | inr b ↦ inr (inl b) ];
  empty = h.empty;
  free = λ q c. kept q (apart q c) (h.free q c);
  apart = λ c. other (sym (in_class r c));
}
  where
    in_class : (q : Register) → Contains h.unused q → q.class ≡ class
    in_class q c = members q (subst (λ (l : List Register). Contains l q) (sym h.ring) (Contains-append_right h.used h.unused q c))

    apart : (q : Register) → Contains h.unused q → is_register r q ≡ false
    apart q c = elim (cases_Bool (is_register r q)) [
      | inl e ↦ absurd (other (sym (subst (λ (x : Register). x.class ≡ class) (sym (is_register-true r q e)) (in_class q c))))
      | inr e ↦ e
    ]

-- in its class it is the most recently used; at least as many vregs were seen
taken_in_own_class : (names : List VirtualRegister) (gone : ℕ → Bool) (n : ℕ) (r : Register) (class : RegClass) (old new : List Register) (t : StateValue)
    (inst_regs after : InstRegs) (met : List VirtualRegister)
    → ((q : Register) → is_register r q ≡ false → is_free_throughout inst_regs q ≡ true → is_free_throughout after q ≡ true) →
    (h : IsSpillFreeIn names gone class old t inst_regs)
    → new ≡ (r ∷ without_register r h.used) ++ without_register r h.unused → length (r ∷ without_register r h.used) ≤ length met → IsDistinct is_same_number met →
    All (λ (v : VirtualRegister). (v.class ≡ class) × Contains names v) met
    → ((v : VirtualRegister) → Contains met v → (alloc_of t.places v.number ≢ NoPlace) ⊎ ((gone v.number ≡ true) ⊎ (v.number ≡ n))) →
    Taken names gone n r class new t after
taken_in_own_class names gone n r class old new t inst_regs after met kept h ring few distinct of_class known = record {
  used = r ∷ without_register r h.used;
  unused = without_register r h.unused;
  met = met;
  ring = ring;
  few = few;
  distinct = distinct;
  of_class = of_class;
  known = known;
  empty = λ m q e c. h.empty m q e (but_from r q h.unused c);
  free = λ q c. kept q (apart q c) (h.free q (but_from r q h.unused c));
  apart = but_not r h.unused;
}
  where
    apart : (q : Register) → Contains (without_register r h.unused) q → is_register r q ≡ false
    apart q c = elim (cases_Bool (is_register r q)) [
      | inl e ↦ absurd (but_not r h.unused (subst (λ (x : Register). Contains (without_register r h.unused) x) (sym (is_register-true r q e)) c))
      | inr e ↦ e
    ]

-- a register where some vreg is located was used
pub in_used : (names : List VirtualRegister) (gone : ℕ → Bool) (n : ℕ) (r : Register) (class : RegClass) (ring : List Register) (t : StateValue)
    (inst_regs : InstRegs) (h : IsSpillFreeIn names gone class ring t inst_regs) → Contains ring r → alloc_of t.places n ≡ InRegister r → Contains h.used r
in_used names gone n r class ring t inst_regs h c at = elim (Contains-append_cases h.used h.unused r (subst (λ (l : List Register). Contains l r) h.ring c)) [
  | inl a ↦ a
  | inr b ↦ absurd (h.empty n r at b)
]

-- a vreg not seen so far is one more, and a register is left for it
pub one_more : (names : List VirtualRegister) (gone : ℕ → Bool) (v : VirtualRegister) (ring : List Register) (t : StateValue) (inst_regs : InstRegs)
    (h : IsSpillFreeIn names gone v.class ring t inst_regs) → alloc_of t.places v.number ≡ NoPlace → gone v.number ≡ false → Contains names v
    → IsDistinct is_same_number (v ∷ h.met) × All (λ (w : VirtualRegister). (w.class ≡ v.class) × Contains names w) (v ∷ h.met)
one_more names gone v ring t inst_regs h nowhere there named = (
  IsDistinct-cons is_same_number v h.met (recursion_from_All (λ (w : VirtualRegister). is_same_number v w ≡ false) h.met
      (λ k d lt. new (slice_index_or h.met k d) (Contains-get_or h.met k d lt))) h.distinct,
  All-cons (λ (w : VirtualRegister). (w.class ≡ v.class) × Contains names w) v h.met (refl, named) h.of_class,
)
  where
    new : (w : VirtualRegister) → Contains h.met w → is_same_number v w ≡ false
    new w c = elim (cases_Bool (is_same_number v w)) [
      | inl e ↦ (let same : v.number ≡ w.number = eqb-true v.number w.number e in elim (h.known w c) [
        | inl a ↦ absurd (a (ap (alloc_of t.places) (sym same) ∙ nowhere))
        | inr b ↦ absurd (let wrong : true ≡ false = sym b ∙ ap gone (sym same) ∙ there in cc)
      ])
      | inr e ↦ e
    ]

-- if registers suffice for all vregs, and this vreg has had none yet, a register of its class is unused
pub is_left : (names : List VirtualRegister) (gone : ℕ → Bool) (v : VirtualRegister) (ring : List Register) (allocatable : PRegSet) (t : StateValue)
    (inst_regs : InstRegs) (h : IsSpillFreeIn names gone v.class ring t inst_regs) → IsLruOf allocatable v.class ring → FitInRegs names allocatable
    → alloc_of t.places v.number ≡ NoPlace → gone v.number ≡ false → Contains names v → 0 < length h.unused
is_left names gone v ring allocatable t inst_regs h lrus few nowhere there named =
    let more = one_more names gone v ring t inst_regs h nowhere there named in
    let most : length (v ∷ h.met) ≤ count_below (λ n. has_register allocatable (register_number v.class n)) 64 = few v.class (v ∷ h.met) more.0 more.1 in
    let long : count_below (λ n. has_register allocatable (register_number v.class n)) 64 ≤ length ring = counted
    (λ n. has_register allocatable (register_number v.class n)) v.class 64 ring (λ k lt e. lrus.all (register_number v.class k) lt refl e) in
    let split : length ring ≡ length h.used + length h.unused = ap length h.ring ∙ length-append h.used h.unused in
    let less : length h.used ≤ length h.met = h.few in
    omega (arith, most, long, split, less)

-- a register that holds no other vreg is claimed: only the instruction's registers change
pub claim_of_own_register : (point : ℕ) (o : OperandRequest) (r : Register) (t u : InstRegs) (old new : StateValue) →
    ((w : VirtualRegister) → vreg_of_preg old.places r ≡ Some w → w.number ≡ o.vreg.number) → ClaimsPlace point o (InRegister r) t u old new → (new ≡ old)
    × RemovesAvailable t u r o.positions
claim_of_own_register point o r t u old new only (in_slot k is sets same) = absurd cc
claim_of_own_register point o r t u old new only (in_register q m is clears holds) =
    let e : r ≡ q = same_register r q is in
    let c : (new ≡ old) × (m ≡ t) = by_clears q (λ w h. only w (ap (vreg_of_preg old.places) e ∙ h)) clears in
    (c.0, subst (λ (x : InstRegs). RemovesAvailable x u r o.positions) c.1 (subst (λ (x : Register). RemovesAvailable m u x o.positions) (sym e) holds))
  where
    by_clears : (q : Register) → ((w : VirtualRegister) → vreg_of_preg old.places q ≡ Some w → w.number ≡ o.vreg.number) →
        EvictsOtherVRegs point q o.vreg t m old new → (new ≡ old) × (m ≡ t)
    by_clears q h (own w at number inst_regs same) = (same, inst_regs)
    by_clears q h (others ne (empty none inst_regs same)) = (same, inst_regs)
    by_clears q h (others ne (cleared w s x small at gives sets_alloc edits machine order crosses)) = absurd (ne w at (h w at))

-- selecting the place of an operand that requires any register makes no slot, and changes no table
pub picked_same : (inst_regs : InstRegs) (o : OperandRequest) (p : Place) (old new : StateValue) → o.requirement ≡ AnyReg → SelectsPlace inst_regs o p old new
    → new ≡ old
picked_same inst_regs o p old new any (stays at suits same) = same
picked_same inst_regs o p old new any (fixed r is at same) = same
picked_same inst_regs o p old new any (slot asks gives places edits machine order) =
    absurd (elim asks [ inl a ↦ (let wrong : AnyPlace ≡ AnyReg = sym a ∙ any in cc) | inr b ↦ (let wrong : OnStack ≡ AnyReg = sym b ∙ any in cc) ])
picked_same inst_regs o p old new any (free r asks away may is_free first at same) = same

-- The result: the operand has a register, only the order of use changes, and the vreg was there or nowhere, and no
-- other vreg was there.
pub record Got (names : List VirtualRegister) (gone : ℕ → Bool) (o : OperandRequest) (p : Place) (u : InstRegs) (old new : StateValue) : Type 0 where
  pub register : Register
  pub is : p ≡ InRegister register
  pub small : register.number < 64
  pub allocatable : has_register old.allocatable register ≡ true
  pub same : SameButOrder old new
  pub stood_there : (alloc_of old.places o.vreg.number ≡ p) ⊎ (alloc_of old.places o.vreg.number ≡ NoPlace)
  pub only_vreg : (m : ℕ) → alloc_of old.places m ≡ InRegister register → m ≡ o.vreg.number
  pub lrus : (class : RegClass) → IsLruOf old.allocatable class (order_of new class)
  pub each : (class : RegClass) → Taken names gone o.vreg.number register class (order_of new class) old u

-- the order of each class has the same members
rings_kept : (r : Register) (old new : StateValue) → has_register old.allocatable r ≡ true → r.number < 64 → UsesReg r old new →
    ((class : RegClass) → IsLruOf old.allocatable class (order_of old class)) → (class : RegClass) → IsLruOf old.allocatable class (order_of new class)
rings_kept r old new is small uses lrus class = elim (cases_class class r.class) [
  | inl e ↦ subst (λ (c : RegClass). IsLruOf old.allocatable c (order_of new c)) (sym e) turned
  | inr e ↦ subst (λ (l : List Register). IsLruOf old.allocatable class l) (sym (uses.others class e)) (lrus class)
]
  where
    members : (q : Register) → Contains (order_of new r.class) q → Contains (order_of old r.class) q
    members q c = (same_members r (order_of old r.class) ((lrus r.class).all r small refl is) q).0
        (subst (λ (l : List Register). Contains l q) uses.newest c)

    turned : IsLruOf old.allocatable r.class (order_of new r.class)
    turned = record {
      of_class = λ q c. (lrus r.class).of_class q (members q c);
      has = λ q c. (lrus r.class).has q (members q c);
      all = λ q lt e has. subst (λ (l : List Register). Contains l q) (sym uses.newest)
          ((same_members r (order_of old r.class) ((lrus r.class).all r small refl is) q).1 ((lrus r.class).all q lt e has));
    }

-- the state of each class, once the register is the most recently used of its own
each_taken : (names : List VirtualRegister) (gone : ℕ → Bool) (n : ℕ) (r : Register) (old new : StateValue) (inst_regs u : InstRegs) → UsesReg r old new
    → ((class : RegClass) → IsLruOf old.allocatable class (order_of old class)) →
    ((q : Register) → is_register r q ≡ false → is_free_throughout inst_regs q ≡ true → is_free_throughout u q ≡ true)
    → ((class : RegClass) → IsSpillFreeIn names gone class (order_of old class) old inst_regs)
    → (order_of new r.class ≡ r ∷ without_register r (order_of old r.class) → Taken names gone n r r.class (order_of new r.class) old u) → (class : RegClass) →
    Taken names gone n r class (order_of new class) old u
each_taken names gone n r old new inst_regs u uses lrus kept each here class = elim (cases_class class r.class) [
  | inl e ↦ subst (λ (c : RegClass). Taken names gone n r c (order_of new c) old u) (sym e) (here uses.newest)
  | inr e ↦ taken_in_other_class names gone n r class (order_of old class) (order_of new class) old inst_regs u e (λ q c. ((lrus class).of_class q c).0) kept
      (uses.others class e) (each class)
]

-- the vreg is located in the register
stays_in_own_register : (names : List VirtualRegister) (gone : ℕ → Bool) (o : OperandRequest) (r : Register) (p : Place) (t u : InstRegs) (old new : StateValue) →
    IsSpillFree names gone old t → p ≡ InRegister r → alloc_of old.places o.vreg.number ≡ p → has_register old.allocatable r ≡ true → r.number < 64 →
    UsesReg r old new → RemovesAvailable t u r o.positions → Got names gone o p u old new
stays_in_own_register names gone o r p t u old new h is at allocatable small uses holds = record {
  register = r;
  is = is;
  small = small;
  allocatable = allocatable;
  same = uses.rest;
  stood_there = inl at;
  only_vreg = λ m e. (whole_tidy old h.whole).apart m o.vreg.number r e (at ∙ is);
  lrus = rings_kept r old new allocatable small uses h.lrus;
  each = each_taken names gone o.vreg.number r old new t u uses h.lrus (free_others t u r o.positions holds) h.each here;
}
  where
    own_class : IsSpillFreeIn names gone r.class (order_of old r.class) old t
    own_class = h.each r.class

    here : order_of new r.class ≡ r ∷ without_register r (order_of old r.class) → Taken names gone o.vreg.number r r.class (order_of new r.class) old u
    here first =
        let was_used : Contains own_class.used r = in_used names gone o.vreg.number r r.class (order_of old r.class) old t own_class
        ((h.lrus r.class).all r small refl allocatable) (at ∙ is) in
        let less : length (without_register r own_class.used) + 1 ≤ length own_class.used = but_less r own_class.used was_used in
        let few : length own_class.used ≤ length own_class.met = own_class.few in
        taken_in_own_class names gone o.vreg.number r r.class (order_of old r.class) (order_of new r.class) old t u own_class.met
        (free_others t u r o.positions holds) own_class
        (first ∙ newest_first r own_class.used own_class.unused (order_of old r.class) own_class.ring) (omega (arith, less, few)) own_class.distinct
        own_class.of_class
        (λ v c. elim (own_class.known v c) [ inl a ↦ inl a | inr b ↦ inr (inl b) ])

-- the vreg had no location, and gets the chosen register, which no vreg used
gets_unused_register : (names : List VirtualRegister) (gone : ℕ → Bool) (o : OperandRequest) (r : Register) (p : Place) (t u : InstRegs) (old new : StateValue)
    (h : IsSpillFree names gone old t) → p ≡ InRegister r → alloc_of old.places o.vreg.number ≡ NoPlace → FitInRegs names old.allocatable →
    Contains names o.vreg → gone o.vreg.number ≡ false → Contains (h.each o.vreg.class).unused r → UsesReg r old new →
    RemovesAvailable t u r o.positions → Got names gone o p u old new
gets_unused_register names gone o r p t u old new h is nowhere are_few named there unused uses holds = record {
  register = r;
  is = is;
  small = in_ring.1;
  allocatable = mine;
  same = uses.rest;
  stood_there = inr nowhere;
  only_vreg = λ m e. absurd (own_class.empty m r e unused);
  lrus = rings_kept r old new mine in_ring.1 uses h.lrus;
  each = each_taken names gone o.vreg.number r old new t u uses h.lrus (free_others t u r o.positions holds) h.each here;
}
  where
    own_class : IsSpillFreeIn names gone o.vreg.class (order_of old o.vreg.class) old t
    own_class = h.each o.vreg.class

    member : Contains (order_of old o.vreg.class) r
    member = subst (λ (l : List Register). Contains l r) (sym own_class.ring) (Contains-append_right own_class.used own_class.unused r unused)

    in_ring : (r.class ≡ o.vreg.class) × (r.number < 64)
    in_ring = (h.lrus o.vreg.class).of_class r member

    mine : has_register old.allocatable r ≡ true
    mine = (h.lrus o.vreg.class).has r member

    by_class : order_of new o.vreg.class ≡ r ∷ without_register r (order_of old o.vreg.class) →
        Taken names gone o.vreg.number r o.vreg.class (order_of new o.vreg.class) old u
    by_class first =
        let more = one_more names gone o.vreg (order_of old o.vreg.class) old t own_class nowhere there named in
        let most : length (without_register r own_class.used) ≤ length own_class.used = but_most r own_class.used in
        let few : length own_class.used ≤ length own_class.met = own_class.few in
        taken_in_own_class names gone o.vreg.number r o.vreg.class (order_of old o.vreg.class) (order_of new o.vreg.class) old t u (o.vreg ∷ own_class.met)
        (free_others t u r o.positions holds) own_class
        (first ∙ newest_first r own_class.used own_class.unused (order_of old o.vreg.class) own_class.ring) (omega (arith, most, few)) more.0 more.1 known
      where
        known : (v : VirtualRegister) → Contains (o.vreg ∷ own_class.met) v → (alloc_of old.places v.number ≢ NoPlace)
            ⊎ ((gone v.number ≡ true) ⊎ (v.number ≡ o.vreg.number))
        known v (zero, less, at) = inr (inr (ap (λ (w : VirtualRegister). w.number) (sym at)))
        known v (suc k, less, at) = elim (own_class.known v (k, omega arith, at)) [ inl a ↦ inl a | inr b ↦ inr (inl b) ]

    here : order_of new r.class ≡ r ∷ without_register r (order_of old r.class) → Taken names gone o.vreg.number r r.class (order_of new r.class) old u
    here first = subst (λ (c : RegClass). Taken names gone o.vreg.number r c (order_of new c) old u) (sym in_ring.0)
        (by_class (subst (λ (c : RegClass). order_of new c ≡ r ∷ without_register r (order_of old c)) in_ring.0 first))

-- a place that meets `AnyReg` is a register that isn't on the stack
meets_requirement_register : (t : StateValue) (p : Place) → MeetsRequirement t AnyReg p → (r : Register) × (p ≡ InRegister r) × (is_stack_in t p ≡ false)
unfolding MeetsRequirement
meets_requirement_register t p s = s

-- a register that isn't a fixed stack slot meets the requirement of any register
pub meets_requirement_so : (t : StateValue) (p : Place) (r : Register) → p ≡ InRegister r → has_register t.fixed_stack r ≡ false → MeetsRequirement t AnyReg p
unfolding MeetsRequirement
meets_requirement_so t p r e apart = (r, e, ap (is_stack_in t) e ∙ apart)

-- an allocatable register, chosen for an operand that requires any register, is used
used_it : (r : Register) (w : Requirement) (p : Place) (old new : StateValue) → w ≡ AnyReg → p ≡ InRegister r → has_register old.allocatable r ≡ true →
    UsesPlace w p old new → UsesReg r old new
used_it r w p old new any is has (used q wants at there uses) = subst (λ (x : Register). UsesReg x old new) (same_register q r (sym at ∙ is)) uses
used_it r w p old new any is has (not_used none same) = absurd (let wrong : true ≡ false = sym has ∙ none r (inr any) is in cc)

-- An operand that requires any register gets one this way.
pub operand_got : {names : List VirtualRegister} {gone : ℕ → Bool} {point : ℕ} {o : OperandRequest} {p : Place} {t u : InstRegs} {old new : StateValue} →
    o.requirement ≡ AnyReg → IsSpillFree names gone old t → FitInRegs names old.allocatable → Contains names o.vreg → gone o.vreg.number ≡ false →
    AllocsOperand point o p t u old new → Got names gone o p u old new
operand_got {names} {gone} {point} {o} {p} {t} {u} {old} {new} any h few named there gets = by (subst (SelectsPlace t o p old) middle gets.picks)
  where
    middle : gets.middle ≡ old
    middle = picked_same t o p old gets.middle any gets.picks

    taken : TakesPlace point o p t u old new
    taken = subst (λ (x : StateValue). TakesPlace point o p t u x new) middle gets.takes

    -- no other vreg is in the register
    claimed : (r : Register) → p ≡ InRegister r → ((w : VirtualRegister) → vreg_of_preg old.places r ≡ Some w → w.number ≡ o.vreg.number) →
        (taken.claimed ≡ old) × RemovesAvailable t u r o.positions
    claimed r is only = claim_of_own_register point o r t u old taken.claimed only (subst (λ (q : Place). ClaimsPlace point o q t u old taken.claimed) is taken.occupies)

    onward : (r : Register) → p ≡ InRegister r → has_register old.allocatable r ≡ true → (taken.claimed ≡ old) × RemovesAvailable t u r o.positions →
        (UsesReg r old new → RemovesAvailable t u r o.positions → Got names gone o p u old new) → Got names gone o p u old new
    onward r is has (same, holds) got =
        got (used_it r o.requirement p old new any is has (subst (λ (x : StateValue). UsesPlace o.requirement p x new) same taken.uses)) holds

    by : SelectsPlace t o p old old → Got names gone o p u old new
    by (stays at suits same) =
        let reg = meets_requirement_register old p (subst (λ (w : Requirement). MeetsRequirement old w p) any suits) in
        let r : Register = reg.0 in
        let is : p ≡ InRegister r = reg.1 in
        let current = h.stand o.vreg.number (λ e. (let wrong : InRegister r ≡ NoPlace = sym is ∙ sym at ∙ e in cc)) in
        let one : r ≡ current.0 = same_register r current.0 (sym is ∙ sym at ∙ current.1) in
        let allocatable : has_register old.allocatable r ≡ true = ap (has_register old.allocatable) one ∙ current.2 in
        let whole = h.whole.stands_in o.vreg.number r (at ∙ is) in
        onward r is allocatable (claimed r is (λ w holds. ap (λ (v : VirtualRegister). v.number) (some_same w whole.1.0 (sym holds ∙ whole.1.2)) ∙ whole.1.1))
        (stays_in_own_register names gone o r p t u old new h is at allocatable whole.0)
    by (fixed r asks is same) = absurd (let wrong : InPReg r ≡ AnyReg = sym asks ∙ any in cc)
    by (slot asks gives places edits machine order) =
        absurd (elim asks [ inl a ↦ (let wrong : AnyPlace ≡ AnyReg = sym a ∙ any in cc) | inr b ↦ (let wrong : OnStack ≡ AnyReg = sym b ∙ any in cc) ])
    by (free r asks away may is_free first is same) =
        let nowhere : alloc_of old.places o.vreg.number ≡ NoPlace = none_held (away any) in
        let own_class = h.each o.vreg.class in
        let some : 0 < length own_class.unused = is_left names gone o.vreg (order_of old o.vreg.class) old.allocatable old t own_class (h.lrus o.vreg.class) few
        nowhere there named in
        let unused : Contains own_class.unused r = found_last (is_available_at t o.positions) own_class.used own_class.unused r some
        (λ q c. free_at_any t o.positions q (own_class.free q c)) (ap (chosen (is_available_at t o.positions)) (sym own_class.ring) ∙ first) in
        onward r is may.allocatable (claimed r is (λ w holds. absurd (own_class.empty w.number r (h.whole.holds r w may.small holds) unused)))
        (gets_unused_register names gone o r p t u old new h is nowhere few named there unused)
      where
        none_held : (MeetsRequirement old AnyReg (alloc_of old.places o.vreg.number) → ⊥) → alloc_of old.places o.vreg.number ≡ NoPlace
        none_held unsuited = elim (cases_none (alloc_of old.places o.vreg.number)) [
          | inl e ↦ e
          | inr e ↦ (let current = h.stand o.vreg.number e in
              absurd (unsuited (meets_requirement_so old (alloc_of old.places o.vreg.number) current.0 current.1 (h.apart.allocatable current.0 current.2))))
        ]
