-- What operands reserve, one after another.
use Rattle.std.proofs.Common.{ℕ, zero, suc, add-one, ◌≡◌, ◌+◌, ◌<◌, ◌≤◌, ◌⊎◌, inl, inr, Bool, true, false, List, length, refl, arith, sym, ap, ◌∙◌, subst}
use Rattle.std.specs.Prelude.{Option, None, Some, IfSome, not, ◌&&◌, ◌||◌}
use Rattle.std.proofs.lemmas.Bool.{cases_Bool, cases_eq, and_parts, or_left, or_right, and_from, or_cases, both_ways}
use Rattle.std.proofs.Math.Bool.{and_comm}
use Rattle.regalloc2_names.specs.declared.OperandConstraint.TheVariants.{FixedReg}
use Rattle.regalloc2_names.specs.declared.sets.PRegSet.{PRegSet}
use Rattle.regalloc2_names.specs.Register.{Register, is_register, has_register}
use Rattle.regalloc2_names.specs.Operand.{OperandValue}
use Rattle.regalloc2_semantics.proofs.Cells.{is_register-same, is_register-true}
use Rattle.regalloc2_fastalloc_state.specs.declared.positions.Positions.{Positions}
use Rattle.regalloc2_fastalloc_state.specs.declared.inst_regs.InstRegs.{InstRegs}
use Rattle.regalloc2_fastalloc_walk.specs.declared.reserve_regs.ReservedRegs.{ReservedRegs}
use Rattle.regalloc2_fastalloc_state.specs.InstRegs.{RemovesAvailable, SameAvailable, is_free_throughout}
use Rattle.regalloc2_function.specs.FunctionValue.{op_at}
use Rattle.regalloc2_fastalloc_proofs.specs.InstSteps.{StateValue, NeedsFixedReg, own, named, IsFixedIn, ReservesRegs, EvictsFixed, none_cleared, not_fixed}
use Rattle.regalloc2_fastalloc_proofs.specs.InstSteps.{RegsAreNotReserved, RemovesClobbers, SameButOrder, unknown, shared}
use Rattle.regalloc2_fastalloc_walk.specs.ReserveSteps.{IsMachineReg, Shrinks, KeepsReserved, IsNewlyReserved, IsReserved, ReservesRegForOperand, TakesOnly}
use Rattle.regalloc2_fastalloc_walk.specs.ReserveSteps.{TakesFixed, AwaitsAll, ReservesClaims, ReservesOnly, OperandReserves, RegIsNotReserved}
use Rattle.regalloc2_fastalloc_proofs.proofs.BlockEnd.NoMoveInPasses.{overlap_cases}

-- no register becomes available where nothing changes
pub shrinks_none : (t : InstRegs) → Shrinks t t
shrinks_none t = record { early = λ r h. h; late = λ r h. h; scratch = refl }

-- where no register becomes available in each of two steps, none does over both
pub shrinks_trans : (t u w : InstRegs) → Shrinks t u → Shrinks u w → Shrinks t w
shrinks_trans t u w a b = record { early = λ r h. a.early r (b.early r h); late = λ r h. a.late r (b.late r h); scratch = b.scratch ∙ a.scratch }

-- taking a register makes no register available, and leaves the scratch registers
pub shrinks_held : (t u : InstRegs) (r : Register) (p : Positions) → RemovesAvailable t u r p → Shrinks t u
shrinks_held t u r p h = record {
  early = λ q e. (and_parts (not (p.early && is_register r q)) (has_register t.early q) (sym (h.early q) ∙ e)).1;
  late = λ q e. (and_parts (not (p.late && is_register r q)) (has_register t.late q) (sym (h.late q) ∙ e)).1;
  scratch = h.scratch;
}

-- clobbers that are taken at the late position alone
pub removes_clobbers : (clobbers : PRegSet) (t u : InstRegs) → ((r : Register) → has_register u.late r ≡ (not (has_register clobbers r) && has_register t.late r)) →
    u.early ≡ t.early → u.scratch ≡ t.scratch → u.awaited ≡ t.awaited → RemovesClobbers clobbers t u
removes_clobbers clobbers t u late early scratch awaited = record {
  late = late;
  early = λ r. ap (λ (s : PRegSet). has_register s r) early;
  scratch = scratch;
  awaited = awaited;
}

-- one register is held
pub takes_held : (t u : InstRegs) (r : Register) (p : Positions) → RemovesAvailable t u r p → TakesOnly r t u
takes_held t u r p h = record {
  early = λ q e. h.early q ∙ other p.early (is_register r q) (has_register t.early q) e;
  late = λ q e. h.late q
      ∙ other p.late (is_register r q) (has_register t.late q) e;
}
  where
    other : (a b c : Bool) → b ≡ false → (not (a && b) && c) ≡ c
    other true b c e = rw e refl
    other false b c e = refl

-- a register that operands are fixed to is taken, or none is
pub fixed_none : (ops : List OperandValue) (t u : InstRegs) → u.early ≡ t.early → u.late ≡ t.late → TakesFixed ops t u
fixed_none ops t u e l r was now = absurd (let same : is_free_throughout u r ≡ is_free_throughout t r = rw (e, l) refl in let x : true ≡ false = sym was
    ∙ sym same ∙ now in cc)

-- where at most one register is taken, a register that isn't free any more is the taken one
pub taken_one : (t u : InstRegs) (q : Register) → TakesOnly q t u → (r : Register) → is_free_throughout t r ≡ true → is_free_throughout u r ≡ false → q ≡ r
taken_one t u q s r was now = elim (cases_Bool (is_register q r)) [
  | inl e ↦ is_register-true q r e
  | inr e ↦ absurd (let same : is_free_throughout u r ≡ is_free_throughout t r = rw (s.early r e, s.late r e) refl in let x : true ≡ false = sym was ∙ sym same
      ∙ now in cc)
]

-- where at most one register is taken, and an operand is fixed to it, only registers that operands are fixed to are
-- taken
pub fixed_one : (ops : List OperandValue) (t u : InstRegs) (q : Register) → IsFixedIn ops q → TakesOnly q t u → TakesFixed ops t u
fixed_one ops t u q fixed s r was now = subst (IsFixedIn ops) (taken_one t u q s r was now) fixed

-- where each of two steps takes only registers that operands are fixed to, both together do
pub takes_fixed_trans : (ops : List OperandValue) (t u w : InstRegs) → TakesFixed ops t u → TakesFixed ops u w → TakesFixed ops t w
takes_fixed_trans ops t u w a b r was now = elim (cases_Bool (is_free_throughout u r)) [ inl e ↦ b r e now | inr e ↦ a r was e ]

-- a register that an operand claims before it is placed is one that some operand is fixed to
pub claims_fixed : (ops : List OperandValue) (k : ℕ) (r : Register) (p : Positions) → k < length ops → NeedsFixedReg ops k r p → IsFixedIn ops r
claims_fixed ops k r p lt (own not_nonallocatable is at) = (k, lt, is)
claims_fixed ops k r p lt (named n reuse less is at) = (n, less, is)

-- no claim is added, or one claim, or the claims of two steps
pub claims_none : (ops : List OperandValue) (k : ℕ) (c d : ReservedRegs) → d.early ≡ c.early → d.late ≡ c.late → OperandReserves ops k c d
claims_none ops k c d e l = record { early = λ r h. inl (ap (λ x. has_register x r) (sym e) ∙ h); late = λ r h. inl (ap (λ x. has_register x r) (sym l) ∙ h) }

-- a register that operand k has to reserve, and no other, is reserved: then operand k reserves no more than its own
pub claims_one : (ops : List OperandValue) (k : ℕ) (c d : ReservedRegs) (q : Register) (o : Positions) → NeedsFixedReg ops k q o → ReservesOnly c d q o →
    OperandReserves ops k c d
claims_one ops k c d q o fixed s = record {
  early = λ r h. elim (s.early r h) [ inl a ↦ inl a | inr b ↦ inr (o, subst (λ (x : Register). NeedsFixedReg ops k x o) (sym b.0) fixed, b.1) ];
  late = λ r h. elim (s.late r h) [ inl a ↦ inl a | inr b ↦ inr (o, subst (λ (x : Register). NeedsFixedReg ops k x o) (sym b.0) fixed, b.1) ];
}

-- operand k reserves no more than its own where the reserved sets after it are replaced by equal ones
pub claims_then : (ops : List OperandValue) (k : ℕ) (c d e : ReservedRegs) → OperandReserves ops k c d → e.early ≡ d.early → e.late ≡ d.late
    → OperandReserves ops k c e
claims_then ops k c d e h x y = record {
  early = λ r a. h.early r (ap (λ q. has_register q r) (sym x) ∙ a);
  late = λ r a. h.late r (ap (λ q. has_register q r) (sym y) ∙ a);
}

-- a register that isn't free isn't free later on
pub stays_held : (a b : Bool) → (b ≡ true → a ≡ true) → a ≡ false → b ≡ false
stays_held true b h e = absurd cc
stays_held false true h e = sym (h refl)
stays_held false false h e = refl

held_now : (there same before now : Bool) → now ≡ (not (there && same) && before) → there ≡ true → same ≡ true → now ≡ false
held_now true true before now e a b = e
held_now false same before now e a b = absurd cc
held_now true false before now e a b = absurd cc

-- a register of the machine that is reserved and then removed from the available ones is reserved as it has to be
pub reserved_held : (t : StateValue) (r : Register) (p : Positions) (u w : InstRegs) (c d : ReservedRegs) → IsMachineReg t r → IsNewlyReserved c d r p →
    RemovesAvailable u w r p → IsReserved t r p w c d
reserved_held t r p u w c d known claimed h = record {
  known = known;
  claimed = claimed;
  held_early = λ e. held_now p.early (is_register r r) (has_register u.early r) (has_register w.early r) (h.early r) e (is_register-same r);
  held_late = λ e. held_now p.late (is_register r r) (has_register u.late r) (has_register w.late r) (h.late r) e (is_register-same r);
}

-- of a disjunction that is true one part is true
pub known_of : (a b : Bool) → true ≡ (a || b) → (a ≡ true) ⊎ (b ≡ true)
known_of true b h = inl refl
known_of false b h = inr (sym h)

-- more is held, and claims are the same from then on
pub reserved_more : (t : StateValue) (r : Register) (p : Positions) (u w : InstRegs) (c d e : ReservedRegs) → IsReserved t r p u c d → Shrinks u w →
    e.early ≡ d.early → e.late ≡ d.late → IsReserved t r p w c e
reserved_more t r p u w c d e h s x y = record {
  known = h.known;
  claimed = record {
    fresh_early = h.claimed.fresh_early;
    fresh_late = h.claimed.fresh_late;
    early = λ a. ap (λ q. has_register q r) x ∙ h.claimed.early a;
    late = λ a. ap (λ q. has_register q r) y ∙ h.claimed.late a;
  };
  held_early = λ a. stays_held (has_register u.early r) (has_register w.early r) (s.early r) (h.held_early a);
  held_late = λ a. stays_held (has_register u.late r) (has_register w.late r) (s.late r) (h.held_late a);
}

-- what the first k operands reserved
pub record Reserving (ops : List OperandValue) (k : ℕ) (t u : InstRegs) (c : ReservedRegs) (old : StateValue) : Type 0 where
  pub shrinks : Shrinks t u
  pub known : (j : ℕ) (r : Register) (p : Positions) → j < k → NeedsFixedReg ops j r p → IsMachineReg old r
  pub claimed_early : (j : ℕ) (r : Register) (p : Positions) → j < k → NeedsFixedReg ops j r p → p.early ≡ true → has_register c.early r ≡ true
  pub claimed_late : (j : ℕ) (r : Register) (p : Positions) → j < k → NeedsFixedReg ops j r p → p.late ≡ true → has_register c.late r ≡ true
  pub held_early : (j : ℕ) (r : Register) (p : Positions) → j < k → NeedsFixedReg ops j r p → p.early ≡ true → has_register u.early r ≡ false
  pub held_late : (j : ℕ) (r : Register) (p : Positions) → j < k → NeedsFixedReg ops j r p → p.late ≡ true → has_register u.late r ≡ false
  pub apart : (i j : ℕ) (r : Register) (p q : Positions) → i < k → j < k → NeedsFixedReg ops i r p → NeedsFixedReg ops j r q →
      ((p.early && q.early) || (p.late && q.late)) ≡ true → i ≡ j
  pub takes : TakesFixed ops t u
  pub early_claims : (r : Register) → has_register c.early r ≡ true → (j : ℕ) × (p : Positions) × (j < k) × NeedsFixedReg ops j r p × (p.early ≡ true)
  pub late_claims : (r : Register) → has_register c.late r ≡ true → (j : ℕ) × (p : Positions) × (j < k) × NeedsFixedReg ops j r p × (p.late ≡ true)

-- before the first operand nothing is reserved, where both sets of reserved registers are empty
pub reserving_none : (ops : List OperandValue) (t : InstRegs) (c : ReservedRegs) (old : StateValue) → ((r : Register) → has_register c.early r ≡ false) →
    ((r : Register) → has_register c.late r ≡ false) → Reserving ops 0 t t c old
reserving_none ops t c old no_early no_late = record {
  shrinks = shrinks_none t;
  known = λ j r p lt h. absurd (omega arith);
  claimed_early = λ j r p lt h e. absurd (omega arith);
  claimed_late = λ j r p lt h e. absurd (omega arith);
  held_early = λ j r p lt h e. absurd (omega arith);
  held_late = λ j r p lt h e. absurd (omega arith);
  apart = λ i j r p q li lj a b e. absurd (omega arith);
  takes = fixed_none ops t t refl refl;
  early_claims = λ r h. absurd (both_ways (has_register c.early r) (no_early r) h);
  late_claims = λ r h. absurd (both_ways (has_register c.late r) (no_late r) h);
}

module _ (ops : List OperandValue) (k : ℕ) (t u w : InstRegs) (c d : ReservedRegs) (old : StateValue) (h : Reserving ops k t u c old)
    (s : ReservesRegForOperand ops k u w c d old) where
  -- two operands, of which the second is the operand k
  met : (i : ℕ) (r : Register) (p q : Positions) → i < k → NeedsFixedReg ops i r p → NeedsFixedReg ops k r q →
      ((p.early && q.early) || (p.late && q.late)) ≡ true → ⊥
  met i r p q lt a b e =
      let new : IsNewlyReserved c d r q = (s.reserved r q b).claimed in
      elim (overlap_cases p q e) [
        | inl x ↦ both_ways (has_register c.early r) (new.fresh_early x.1) (h.claimed_early i r p lt a x.0)
        | inr x ↦ both_ways (has_register c.late r) (new.fresh_late x.1) (h.claimed_late i r p lt a x.0)
      ]

  turned : (a b e f : Bool) → ((a && b) || (e && f)) ≡ ((b && a) || (f && e))
  turned a b e f = rw (and_comm a b, and_comm e f) refl

  newest : (P : ℕ → Type 0) (j : ℕ) → j < k + 1 → (j < k → P j) → P k → P j
  newest P j lt f g = elim (cases_eq j k) [ inl e ↦ subst P (sym e) g | inr ne ↦ f (omega arith) ]

  -- with what operand k reserves the first k + 1 operands have reserved what they need
  pub reserving_more : Reserving ops (k + 1) t w d old
  reserving_more = record {
    shrinks = shrinks_trans t u w h.shrinks s.shrinks;
    known = λ j r p lt. newest (λ x. NeedsFixedReg ops x r p → IsMachineReg old r) j lt (λ l. h.known j r p l) (λ a. (s.reserved r p a).known);
    claimed_early = λ j r p lt. newest (λ x. NeedsFixedReg ops x r p → p.early ≡ true → has_register d.early r ≡ true) j lt
        (λ l a e. s.grows.early r (h.claimed_early j r p l a e)) (λ a e. (s.reserved r p a).claimed.early e);
    claimed_late = λ j r p lt. newest (λ x. NeedsFixedReg ops x r p → p.late ≡ true → has_register d.late r ≡ true) j lt
        (λ l a e. s.grows.late r (h.claimed_late j r p l a e)) (λ a e. (s.reserved r p a).claimed.late e);
    held_early = λ j r p lt. newest (λ x. NeedsFixedReg ops x r p → p.early ≡ true → has_register w.early r ≡ false) j lt
        (λ l a e. stays_held (has_register u.early r) (has_register w.early r) (s.shrinks.early r) (h.held_early j r p l a e))
        (λ a e. (s.reserved r p a).held_early e);
    held_late = λ j r p lt. newest (λ x. NeedsFixedReg ops x r p → p.late ≡ true → has_register w.late r ≡ false) j lt
        (λ l a e. stays_held (has_register u.late r) (has_register w.late r) (s.shrinks.late r) (h.held_late j r p l a e))
        (λ a e. (s.reserved r p a).held_late e);
    apart = λ i j r p q li lj a b e. elim (cases_eq i k) [
      | inl x ↦ elim (cases_eq j k) [
        | inl y ↦ x ∙ sym y
        | inr y ↦ absurd (met j r q p (omega arith) b (subst (λ n. NeedsFixedReg ops n r p) x a) (sym (turned p.early q.early p.late q.late) ∙ e))
      ]
      | inr x ↦ elim (cases_eq j k) [
        | inl y ↦ absurd (met i r p q (omega arith) a (subst (λ n. NeedsFixedReg ops n r q) y b) e)
        | inr y ↦ h.apart i j r p q (omega arith) (omega arith) a b e
      ]
    ];
    takes = takes_fixed_trans ops t u w h.takes s.takes;
    early_claims = λ r a. elim (s.claims.early r a) [
      | inl x ↦ (let m = h.early_claims r x in (m.0, m.1, (let l = m.2 in omega (arith, l)), m.3, m.4))
      | inr x ↦ (k, x.0, omega arith, x.1, x.2)
    ];
    late_claims = λ r a. elim (s.claims.late r a) [
      | inl x ↦ (let m = h.late_claims r x in (m.0, m.1, (let l = m.2 in omega (arith, l)), m.3, m.4))
      | inr x ↦ (k, x.0, omega arith, x.1, x.2)
    ];
  }

-- where operand k can't reserve its register, the reservation of the instruction's registers fails for a reason that is
-- named
pub stops_reserve : (ops : List OperandValue) (k : ℕ) (t u : InstRegs) (c : ReservedRegs) (old : StateValue) → k < length ops → Reserving ops k t u c old →
    RegIsNotReserved ops k c old → RegsAreNotReserved ops old
stops_reserve ops k t u c old lt h s = elim s.stops [
  | inl absent ↦ unknown k s.register s.positions lt s.claims absent
  | inr at ↦ elim (or_cases (s.positions.early && has_register c.early s.register) (s.positions.late && has_register c.late s.register) at) [
    | inl e ↦ (
        let w = and_parts s.positions.early (has_register c.early s.register) e in
        let m = h.early_claims s.register w.1 in
        shared m.0 k s.register m.1 s.positions m.2 lt m.3 s.claims (or_left (m.1.early && s.positions.early) (m.1.late && s.positions.late)
        (and_from m.1.early s.positions.early m.4 w.0)))
    | inr e ↦ (
        let w = and_parts s.positions.late (has_register c.late s.register) e in
        let m = h.late_claims s.register w.1 in
        shared m.0 k s.register m.1 s.positions m.2 lt m.3 s.claims (or_right (m.1.early && s.positions.early) (m.1.late && s.positions.late)
        (and_from m.1.late s.positions.late m.4 w.0)))
  ]
]

-- once all operands have reserved what they need, the instruction's registers are reserved, as soon as operands are
-- counted
pub reserves_all : (ops : List OperandValue) (k : ℕ) (t u : InstRegs) (c : ReservedRegs) (old : StateValue) → k ≡ length ops →
    Reserving ops k t u c old → ReservesClaims ops t u old
reserves_all ops k t u c old e h began same counted = record {
  known = λ j r p lt a. h.known j r p (omega arith) a;
  held_early = λ j r p lt a. h.held_early j r p (omega arith) a;
  held_late = λ j r p lt a. h.held_late j r p (omega arith) a;
  apart = λ i j r p q li lj a b. h.apart i j r p q (omega arith) (omega arith) a b;
  early = λ r a. ap (λ q. has_register q r) (sym same.early) ∙ h.shrinks.early r a;
  late = λ r a. ap (λ q. has_register q r) (sym same.late) ∙ h.shrinks.late r a;
  scratch = h.shrinks.scratch ∙ same.scratch;
  only = λ r was now. (let free : is_free_throughout t r ≡ is_free_throughout began r = rw (same.early, same.late) refl in h.takes r (free ∙ was) now);
  awaited = counted;
}

-- where no operand is fixed, none claims a register, and registers are reserved as they are
pub reserves_none : (ops : List OperandValue) (t u : InstRegs) (old : StateValue) →
    ((k : ℕ) → k < length ops → (r : Register) → (op_at ops k).constraint ≡ FixedReg r → ⊥) → SameAvailable t u → AwaitsAll ops t u →
    ReservesRegs ops t u old
reserves_none ops t u old never same counted = record {
  known = λ j r p lt a. absurd (claims j r p lt a);
  held_early = λ j r p lt a e. absurd (claims j r p lt a);
  held_late = λ j r p lt a e. absurd (claims j r p lt a);
  apart = λ i j r p q li lj a b e. absurd (claims i r p li a);
  early = λ r a. ap (λ q. has_register q r) (sym same.early) ∙ a;
  late = λ r a. ap (λ q. has_register q r) (sym same.late) ∙ a;
  scratch = same.scratch;
  only = fixed_none ops t u same.early same.late;
  awaited = counted;
}
  where
    claims : (j : ℕ) (r : Register) (p : Positions) → j < length ops → NeedsFixedReg ops j r p → ⊥
    claims j r p lt a = (let f = claims_fixed ops j r p lt a in never f.0 f.1 r f.2)

-- what is reserved stays so where nothing changes
pub grows_none : (c : ReservedRegs) → KeepsReserved c c
grows_none c = record { early = λ r h. h; late = λ r h. h }

-- an operand that claims nothing: no register is taken, or the register that it is fixed to
pub reserves_without_claim : (ops : List OperandValue) (k : ℕ) (t u : InstRegs) (c : ReservedRegs) (old : StateValue) →
    ((r : Register) (p : Positions) → NeedsFixedReg ops k r p → ⊥) → Shrinks t u → TakesFixed ops t u → ReservesRegForOperand ops k t u c c old
reserves_without_claim ops k t u c old none s taken = record {
  shrinks = s;
  grows = grows_none c;
  takes = taken;
  claims = claims_none ops k c c refl refl;
  reserved = λ r p h. absurd (none r p h);
}

-- an operand that claims a register
pub reserves_it : {ops : List OperandValue} {k : ℕ} {t u : InstRegs} {c d : ReservedRegs} {old : StateValue} {q : Register} {o : Positions} →
    ((r : Register) (p : Positions) → NeedsFixedReg ops k r p → (r ≡ q) × (p ≡ o)) →
    k < length ops → NeedsFixedReg ops k q o → Shrinks t u → TakesOnly q t u → KeepsReserved c d → ReservesOnly c d q o → IsReserved old q o u c d →
    ReservesRegForOperand ops k t u c d old
reserves_it {ops} {k} {t} {u} {c} {d} {old} {q} {o} only lt claim s taken g added h = record {
  shrinks = s;
  grows = g;
  takes = fixed_one ops t u q (claims_fixed ops k q o lt claim) taken;
  claims = claims_one ops k c d q o claim added;
  reserved = λ r p a. let e = only r p a in subst (λ (x : Register). IsReserved old x p u c d) (sym e.0)
      (subst (λ (x : Positions). IsReserved old q x u c d) (sym e.1) h);
}

-- what is reserved stays so where only a register is used
pub reserves_then : {ops : List OperandValue} {k : ℕ} {t u : InstRegs} {c d e : ReservedRegs} {old : StateValue} → ReservesRegForOperand ops k t u c d old →
    e.early ≡ d.early → e.late ≡ d.late → ReservesRegForOperand ops k t u c e old
reserves_then {ops} {k} {t} {u} {c} {d} {e} {old} h x y = record {
  shrinks = h.shrinks;
  takes = h.takes;
  claims = claims_then ops k c d e h.claims x y;
  grows = record { early = λ r a. ap (λ q. has_register q r) x ∙ h.grows.early r a; late = λ r a. ap (λ q. has_register q r) y ∙ h.grows.late r a };
  reserved = λ r p a. reserved_more old r p u u c d e (h.reserved r p a) (shrinks_none u) x y;
}

-- an option that has a register with its positions has no other pair
pub same_claim : (r : Register) (p : Positions) (c : Register × Positions) (x : Option (Register × Positions)) → x ≡ Some (r, p) → x ≡ Some c → (r ≡ c.0)
    × (p ≡ c.1)
same_claim r p c x e f =
    let s : Some (r, p) ≡ Some c = sym e ∙ f in
    let pair : (r, p) ≡ c = cc in
    (ap (λ (y : Register × Positions). y.0) pair, ap (λ (y : Register × Positions). y.1) pair)

-- what the code returns as reserved by operand k, operand k does reserve
pub claim_is : (ops : List OperandValue) (k : ℕ) (o : Option (Register × Positions)) → IfSome o (λ c. NeedsFixedReg ops k c.0 c.1) →
    (c : Register × Positions) → o ≡ Some c → NeedsFixedReg ops k c.0 c.1
claim_is ops k None h c e = absurd cc
claim_is ops k (Some d) h c e = (let same : d ≡ c = cc in subst (λ (x : Register × Positions). NeedsFixedReg ops k x.0 x.1) same h)

-- where no operand is fixed to a register, no register has to be emptied
pub evicts_none : (point : ℕ) (ops : List OperandValue) (t : InstRegs) (m : StateValue) →
    ((k : ℕ) → k < length ops → (r : Register) → (op_at ops k).constraint ≡ FixedReg r → ⊥) → (n : ℕ) → n ≤ length ops → EvictsFixed point ops t m n t m
evicts_none point ops t m never zero le = none_cleared m.lrus (λ none. refl)
evicts_none point ops t m never (suc n) le =
    subst (λ (k : ℕ). EvictsFixed point ops t m k t m) (add-one n)
    (not_fixed n t m (evicts_none point ops t m never n (omega arith)) (λ r e. never n (omega arith) r e) (λ j r e less named. never j less r named))

-- what is reserved, and why it can't be, is the same whatever registers were used
pub reserves_used : (ops : List OperandValue) (k : ℕ) (t u : InstRegs) (c d : ReservedRegs) (old m : StateValue) → SameButOrder old m →
    ReservesRegForOperand ops k t u c d m → ReservesRegForOperand ops k t u c d old
reserves_used ops k t u c d old m e h =
    (let x : ReservesRegForOperand ops k t u c d (record old { lrus = m.lrus }) = subst (ReservesRegForOperand ops k t u c d) e h in record {
      shrinks = x.shrinks;
      grows = x.grows;
      takes = x.takes;
      claims = x.claims;
      reserved = λ r p n. (let y = x.reserved r p n in
          record { known = y.known; claimed = y.claimed; held_early = y.held_early; held_late = y.held_late });
    })

pub reserve_fails_used : (ops : List OperandValue) (k : ℕ) (c : ReservedRegs) (old m : StateValue) → SameButOrder old m → RegIsNotReserved ops k c m →
    RegIsNotReserved ops k c old
reserve_fails_used ops k c old m e h =
    (let x : RegIsNotReserved ops k c (record old { lrus = m.lrus }) = subst (RegIsNotReserved ops k c) e h in
    record { register = x.register; positions = x.positions; claims = x.claims; stops = x.stops })

-- registers that are used in two steps
pub same_but_order_trans : (a b c : StateValue) → SameButOrder a b → SameButOrder b c → SameButOrder a c
same_but_order_trans a b c x y = y ∙ ap (λ (t : StateValue). record t { lrus = c.lrus }) x
