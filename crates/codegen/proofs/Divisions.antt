-- A division: its two instructions do to the machine what it does to places, and the divisor stays in its current location.
use Rattle.std.proofs.Common.{ℕ, ◌≡◌, Bool, true, false, cond, not, List, [], ◌∷◌, ◌++◌, length, Option, Some, None, refl, sym, ap, ◌∙◌, subst, arith, nat_eq}
use Rattle.std.proofs.Common.{eqb-true, eq-eqb}
use Rattle.std.specs.Prelude.{◌&&◌, slice_index}
use Rattle.regalloc2_names.specs.declared.RegClass.TheVariants.{Int}
use Rattle.regalloc2_names.specs.declared.sets.PRegSet.{PRegSet}
use Rattle.regalloc2_names.specs.Operand.{is_reading}
use Rattle.regalloc2_names.specs.Register.{Register, VirtualRegister, is_register, has_register}
use Rattle.regalloc2_names.specs.Same.{is_register-true}
use Rattle.regalloc2_names.specs.Place.{Place, NoPlace, InRegister, InSlot}
use Rattle.regalloc2_function.specs.OutputValue.{place_at}
use Rattle.regalloc2_semantics.specs.Interpreters.{read_by, is_late_use}
use Rattle.codegen_operation.specs.Numbers.{Running, Trapped, Stuck, divided_at, division_traps, extended, is_within, put}
use Rattle.codegen_operation.specs.Operands.{is_lost_in, operands_of, other_register, part_register}
use Rattle.codegen_operation.specs.declared.operation.Width.{Width}
use Rattle.codegen_operation.specs.declared.operation.DivisionPart.{DivisionPart}
use Rattle.codegen_operation.specs.declared.operation.DivisionPart.TheVariants.{Quotient, Remainder}
use Rattle.codegen_operation.specs.declared.operation.Operation.{Operation}
use Rattle.codegen_operation.specs.declared.operation.Operation.TheVariants.{Divide as Dividing, Load as Loading, Store as Storing, Call as Calling}
use Rattle.codegen_machine.specs.declared.Instruction.{Instruction}
use Rattle.codegen_machine.specs.declared.Instruction.TheVariants.{Clear, ExtendSign, Divide}
use Rattle.codegen_machine.specs.Machine.{CodeValue, MachineState, divides, executed, machine_run, parted}
use Rattle.codegen_emit.specs.Pinned.{slot_place}
use Rattle.codegen_emit.specs.Emitted.{register_of, source_of, extension_code, divide_code, operation_code, resolved}
use Rattle.codegen.proofs.Premise.{IsGeneral, IsHere, IsPlaced, IsPlain}
use Rattle.codegen.proofs.Choices.{Choice}
use Rattle.codegen.proofs.Runs.{Comes, comes_by, comes_on, ends_by, ends_then}
use Rattle.codegen.proofs.Stands.{StandAt}
use Rattle.codegen.proofs.Places.{Agree, number_in, slot_stays, register_place, int_place, wrote, writes, agree_register, reads_source}
use Rattle.codegen.proofs.Steps.{leaves_of, left_of, traps_of, other_part, reads_at, writes_at, Done, Leaves, outside, guard_traps, plain_done}
use Rattle.regalloc2_semantics.specs.Runs.{after_clobbers, after_writes, stored}

abbrev int_register : ℕ → Register
int_register n = record { number = n; class = Int }

-- the place of a register that holds numbers
pub place_is : (p : Place) (n : ℕ) → IsGeneral p → register_of p ≡ n → p ≡ register_place n
place_is NoPlace n h e = absurd h
place_is (InRegister r) n h e = sym (int_place r h.0) ∙ ap register_place e
place_is (InSlot k) n h e = absurd h

-- without clobbers, all numbers stay
pub unclobbered : (set : PRegSet) (noise numbers : Place → ℕ) (registers frame : ℕ → ℕ) → ((r : Register) → has_register set r ≡ false) →
    Agree registers frame numbers → Agree registers frame (after_clobbers set noise numbers)
unfolding after_clobbers
unclobbered set noise numbers registers frame none a = record {
  in_registers = λ n allocated.
      a.in_registers n allocated
      ∙ sym (ap (λ (b : Bool). cond b (noise (register_place n)) (numbers (register_place n))) (none (record { number = n; class = Int })));
  in_slots = a.in_slots;
}

-- The divisor's place keeps its number whatever a division writes and leaves. It is therefore neither of the division's registers, or already holds the number
-- written.
abbrev pub Keeps : PRegSet → (Place → ℕ) → Place → Place → Type 0
Keeps set m p q = (x : Choice) → after_clobbers set x.leaves (stored m p (x.writes 0)) q ≡ m q

module _ (m : Place → ℕ) (set : PRegSet) (w : ℕ) where
  -- writing any number to register 2 leaves the divisor's place unchanged
  quotient_stays : ((r : Register) → has_register set r ≡ is_register (int_register 2) r) → (q : Place) → Keeps set m (register_place 0) q →
      stored m (register_place 2) w q ≡ m q
  unfolding stored after_clobbers
  quotient_stays has NoPlace h = refl
  quotient_stays has (InSlot k) h = refl
  quotient_stays has (InRegister r) h =
      pick (is_register (int_register 2) r) (is_register (int_register 0) r) refl
      (subst (λ (b : Bool). cond b w (cond (is_register (int_register 0) r) (m (register_place 0)) (m (InRegister r))) ≡ m (InRegister r)) (has r)
      (h (record { writes = λ k. m (register_place 0); takes = None; leaves = λ p. w })))
    where
      pick : (a b : Bool) → is_register (int_register 0) r ≡ b → cond a w (cond b (m (register_place 0)) (m (InRegister r))) ≡ m (InRegister r) →
          cond a w (m (InRegister r)) ≡ m (InRegister r)
      pick true b e g = g
      pick false b e g = refl

  remainder_stays : ((r : Register) → has_register set r ≡ is_register (int_register 0) r) → (q : Place) → Keeps set m (register_place 2) q →
      stored m (register_place 2) w q ≡ m q
  unfolding stored after_clobbers
  remainder_stays has NoPlace h = refl
  remainder_stays has (InSlot k) h = refl
  remainder_stays has (InRegister r) h =
      pick (is_register (int_register 0) r) refl
      (subst (λ (b : Bool). cond b (m (register_place 0)) (cond (is_register (int_register 2) r) w (m (InRegister r))) ≡ m (InRegister r)) (has r)
      (h (record { writes = λ k. w; takes = None; leaves = λ p. m (register_place 0) })))
    where
      pick : (a : Bool) → is_register (int_register 0) r ≡ a →
          cond a (m (register_place 0)) (cond (is_register (int_register 2) r) w (m (InRegister r))) ≡ m (InRegister r) →
          cond (is_register (int_register 2) r) w (m (InRegister r)) ≡ m (InRegister r)
      pick true e g =
          let same : int_register 0 ≡ r = is_register-true (int_register 0) r e in
          subst (λ (r : Register). cond (is_register (int_register 2) r) w (m (InRegister r)) ≡ m (InRegister r)) same refl
      pick false e g = g

stays : (part : DivisionPart) (m : Place → ℕ) (set : PRegSet) (w : ℕ) →
    ((r : Register) → has_register set r ≡ is_register (int_register (other_register part)) r) → (q : Place) →
    Keeps set m (register_place (part_register part)) q → stored m (register_place 2) w q ≡ m q
stays Quotient m set w has q h = quotient_stays m set w has q h
stays Remainder m set w has q h = remainder_stays m set w has q h

-- the registers after a division, and the places
quotient_agrees : (a b : Bool) (w q r x y : ℕ) → x ≡ y → cond a r (cond b q (cond a w x)) ≡ cond a r (cond b q y)
quotient_agrees true b w q r x y e = refl
quotient_agrees false b w q r x y e = ap (λ (n : ℕ). cond b q n) e

remainder_agrees : (a b : Bool) (w q r x y : ℕ) → (a ≡ true → b ≡ true → ⊥) → x ≡ y → cond a r (cond b q (cond a w x)) ≡ cond b q (cond a r y)
remainder_agrees true true w q r x y never e = absurd (never refl refl)
remainder_agrees true false w q r x y never e = refl
remainder_agrees false b w q r x y never e = ap (λ (n : ℕ). cond b q n) e

not_both : (n : ℕ) → nat_eq 2 n ≡ true → nat_eq 0 n ≡ true → ⊥
not_both n two none = let a : 2 ≡ n = eqb-true 2 n two in let b : 0 ≡ n = eqb-true 0 n none in omega (arith, a, b)

-- slots are as before a division
slot_left : (registers frame : ℕ → ℕ) (w q r k : ℕ) →
    number_in (put (put (put registers 2 w) 0 q) 2 r) frame (slot_place k) ≡ number_in registers frame (slot_place k)
slot_left registers frame w q r k =
    slot_stays (put (put registers 2 w) 0 q) frame 2 r k refl ∙ slot_stays (put registers 2 w) frame 0 q k refl ∙ slot_stays registers frame 2 w k refl

both_agree : (part : DivisionPart) (numbers : DivisionPart → ℕ) (m : Place → ℕ) (set : PRegSet) (w : ℕ) (registers frame : ℕ → ℕ) →
    ((r : Register) → has_register set r ≡ is_register (int_register (other_register part)) r) → Agree registers frame m →
    Agree (put (put (put registers 2 w) 0 (numbers Quotient)) 2 (numbers Remainder)) frame
    (after_clobbers set (λ p. numbers (other_part part)) (stored m (register_place (part_register part)) (numbers part)))
unfolding stored after_clobbers
both_agree Quotient numbers m set w registers frame has a = record {
  in_registers = λ n allocated.
      quotient_agrees (nat_eq 2 n) (nat_eq 0 n) w (numbers Quotient) (numbers Remainder) (registers n) (m (register_place n)) (a.in_registers n allocated)
      ∙ sym (ap (λ (b : Bool). cond b (numbers Remainder) (cond (nat_eq 0 n) (numbers Quotient) (m (register_place n)))) (has (int_register n)));
  in_slots = λ k. slot_left registers frame w (numbers Quotient) (numbers Remainder) k ∙ a.in_slots k;
}
both_agree Remainder numbers m set w registers frame has a = record {
  in_registers = λ n allocated.
      remainder_agrees (nat_eq 2 n) (nat_eq 0 n) w (numbers Quotient) (numbers Remainder) (registers n) (m (register_place n)) (not_both n) (a.in_registers n allocated)
      ∙ sym (ap (λ (b : Bool). cond b (numbers Quotient) (cond (nat_eq 2 n) (numbers Remainder) (m (register_place n)))) (has (int_register n)));
  in_slots = λ k. slot_left registers frame w (numbers Quotient) (numbers Remainder) k ∙ a.in_slots k;
}

module _ (args : ℕ → ℕ) (starts : ℕ → ℕ) (code : CodeValue) (succs : List ℕ) (rest : List Instruction) where
  module _ (w : Width) (part : DivisionPart) (signed : Bool) (m : Place → ℕ) (set : PRegSet) (q : Place) (s : MachineState)
      (has : (r : Register) → has_register set r ≡ is_register (int_register (other_register part)) r)
      (keeps : Keeps set m (register_place (part_register part)) q) (here : IsHere code.slots q) (a : Agree s.registers s.frame m)
      (h : StandAt starts code.instructions s.pc (divide_code w signed q ++ rest)) where
    -- the extension of the dividend
    abbrev above : ℕ
    above = extended w signed (s.registers 0)

    -- once register 2 holds it
    abbrev ready : Option (ℕ × ℕ) → MachineState
    ready compared = wrote s 2 above compared

    agree_ready : (compared : Option (ℕ × ℕ)) → Agree (ready compared).registers s.frame (stored m (register_place 2) above)
    agree_ready compared = agree_register s.registers s.frame m a (register_place 2) (refl, refl) above

    -- the division, by the divisor's number
    outcome : (compared : Option (ℕ × ℕ)) →
        executed args code.slots (Some (Divide w signed (source_of q))) (ready compared) ≡ divides (ready compared) w signed (m q)
    outcome compared =
        reads_source code.slots (ready compared) (stored m (register_place 2) above) (agree_ready compared) q here (λ b. divides (ready compared) w signed b)
        ∙ ap (λ (b : ℕ). divides (ready compared) w signed b) (stays part m set above has q keeps)

    -- it isn't stuck
    goes : (compared : Option (ℕ × ℕ)) → divides (ready compared) w signed (m q)
        ≡ cond (division_traps w signed (s.registers 0) (m q)) (Trapped s.memory) (Running (parted (ready compared) w signed (m q)))
    goes compared =
        ap (λ (b : Bool). cond b (cond (division_traps w signed (s.registers 0) (m q)) (Trapped s.memory)
        (Running (parted (ready compared) w signed (m q)))) Stuck)
        (eq-eqb above above refl)

    by_dividend : division_traps w signed (s.registers 0) (m q) ≡ division_traps w signed (m (register_place 0)) (m q)
    by_dividend = ap (λ (n : ℕ). division_traps w signed n (m q)) (a.in_registers 0 refl)

    -- the extension
    record IsReady : Type 0 where
      compared : Option (ℕ × ℕ)
      comes : Comes code args 1 s (ready compared)

    is_ready : (b : Bool) → signed ≡ b → IsReady
    is_ready true e = record {
      compared = s.compared;
      comes = comes_by code args (ExtendSign w) s (ready s.compared)
          (h.0 ∙ ap (λ (b : Bool). Some (resolved starts (extension_code w b))) e)
          (writes s 2 (extended w true (s.registers 0)) s.compared refl
          ∙ ap (λ (b : Bool). Running (wrote s 2 (extended w b (s.registers 0)) s.compared)) (sym e));
    }
    is_ready false e = record {
      compared = None;
      comes = comes_by code args (Clear 2) s (ready None)
          (h.0 ∙ ap (λ (b : Bool). Some (resolved starts (extension_code w b))) e)
          (writes s 2 0 None refl ∙ ap (λ (b : Bool). Running (wrote s 2 (extended w b (s.registers 0)) None)) (sym e));
    }

    divide_done : division_traps w signed (m (register_place 0)) (m q) ≡ false → Done args starts code succs rest s
        (after_clobbers set (λ p. divided_at w (other_part part) signed (m (register_place 0)) (m q))
        (stored m (register_place (part_register part)) (divided_at w part signed (m (register_place 0)) (m q))))
    divide_done calm =
        let r : IsReady = is_ready signed refl in
        let u : MachineState = ready r.compared in
        let v : MachineState = parted u w signed (m q) in
        let acts : executed args code.slots (Some (Divide w signed (source_of q))) u ≡ Running v =
        outcome r.compared ∙ goes r.compared ∙ ap (λ (b : Bool). cond b (Trapped s.memory) (Running v)) (by_dividend ∙ calm) in
        record {
          to = v;
          comes = comes_on code args 1 1 1 s u v (omega arith) r.comes (comes_by code args (Divide w signed (source_of q)) u v h.1.0 acts);
          agree = subst (λ (n : ℕ). Agree v.registers v.frame (after_clobbers set (λ p. divided_at w (other_part part) signed n (m q))
              (stored m (register_place (part_register part)) (divided_at w part signed n (m q))))) (a.in_registers 0 refl)
              (both_agree part (λ x. divided_at w x signed (s.registers 0) (m q)) m set above s.registers s.frame has a);
          stands = h.1.1;
          same = refl;
        }

    divide_traps : division_traps w signed (m (register_place 0)) (m q) ≡ true →
        (j : ℕ) × (machine_run code args j s ≡ Trapped s.memory)
    divide_traps traps =
        let r : IsReady = is_ready signed refl in
        let u : MachineState = ready r.compared in
        let v : MachineState = parted u w signed (m q) in
        let acts : executed args code.slots (Some (Divide w signed (source_of q))) u ≡ Trapped s.memory =
        outcome r.compared ∙ goes r.compared ∙ ap (λ (b : Bool). cond b (Trapped s.memory) (Running v)) (by_dividend ∙ traps) in
        ends_then code args 1 1 s u (Trapped s.memory) r.comes (ends_by code args (Divide w signed (source_of q)) u (Trapped s.memory) tt h.1.0 acts)

  -- the divisor of an operation, if it is a division, keeps its number
  abbrev pub IsKept : Operation → PRegSet → List Place → (Place → ℕ) → Type 0
  IsKept (Dividing w part signed to left right) set ps m = Keeps set m (place_at ps 0) (place_at ps 2)
  IsKept o set ps m = Unit {0}

  -- what a division reads
  reads : (w : Width) (part : DivisionPart) (signed : Bool) (to left right : VirtualRegister) (ps : List Place) (m : Place → ℕ) →
      nat_eq left.number 1073741823 ≡ false →
      reads_at (Dividing w part signed to left right) ps m ≡ m (place_at ps 1) ∷ m (place_at ps 2) ∷ []
  unfolding read_by
  reads w part signed to left right ps m read =
      ap (λ (b : Bool). cond (not b) (m (place_at ps 1) ∷ m (place_at ps 2) ∷ []) (m (place_at ps 2) ∷ [])) read

  -- an operation that continues at the next line
  pub plain_leaves : (size next : ℕ) (o : Operation) (set : PRegSet) (s : MachineState) (ps : List Place) (m : Place → ℕ) → IsPlain o →
      IsPlaced code.slots o ps →
      ((r : Register) → has_register set r ≡ is_lost_in o r) → IsKept o set ps m → length s.memory ≡ size →
      traps_of s.memory o (reads_at o ps m) ≡ false →
      Agree s.registers s.frame m → StandAt starts code.instructions s.pc (operation_code size o ps succs next ++ rest) →
      Leaves args starts code succs rest s (left_of s.memory o (reads_at o ps m))
      (after_clobbers set (leaves_of o (reads_at o ps m)) (writes_at args s.memory o ps m))
  unfolding after_writes
  plain_leaves size next (Dividing w part signed to left right) set s ps m plain placed has kept sized calm a h =
      let first : place_at ps 0 ≡ register_place (part_register part) = place_is (place_at ps 0) (part_register part) placed.0.0 placed.0.1 in
      let second : place_at ps 1 ≡ register_place 0 = place_is (place_at ps 1) 0 placed.1.0 placed.1.1 in
      let read : reads_at (Dividing w part signed to left right) ps m ≡ m (register_place 0) ∷ m (place_at ps 2) ∷ [] =
      reads w part signed to left right ps m plain.1 ∙ ap (λ (p : Place). m p ∷ m (place_at ps 2) ∷ []) second in
      subst (λ (xs : List ℕ). division_traps w signed (slice_index xs 0) (slice_index xs 1) ≡ false → Done args starts code succs rest s
      (after_clobbers set (λ p. divided_at w (other_part part) signed (slice_index xs 0) (slice_index xs 1))
      (stored m (place_at ps 0) (divided_at w part signed (slice_index xs 0) (slice_index xs 1))))) (sym read)
      (subst (λ (p : Place). division_traps w signed (m (register_place 0)) (m (place_at ps 2)) ≡ false → Done args starts code succs rest s
      (after_clobbers set (λ n. divided_at w (other_part part) signed (m (register_place 0)) (m (place_at ps 2)))
      (stored m p (divided_at w part signed (m (register_place 0)) (m (place_at ps 2)))))) (sym first)
      (divide_done w part signed m set (place_at ps 2) s has (subst (λ (p : Place). Keeps set m p (place_at ps 2)) first kept) placed.2 a h)) calm
  plain_leaves size next (Calling g to arguments) set s ps m plain placed has kept sized calm a h = absurd plain
  plain_leaves size next o set s ps m plain placed has kept sized calm a h =
      let d : Leaves args starts code succs rest s (left_of s.memory o (reads_at o ps m)) (writes_at args s.memory o ps m) =
      plain_done args starts code succs rest size next o s ps m plain placed sized calm a h in
      record {
        to = d.to;
        comes = d.comes;
        agree = unclobbered set (leaves_of o (reads_at o ps m)) (writes_at args s.memory o ps m) d.to.registers d.to.frame has d.agree;
        stands = d.stands;
        same = d.same;
      }

  -- a plain operation that traps is a trap of the machine
  pub plain_traps : (size next : ℕ) (o : Operation) (set : PRegSet) (s : MachineState) (ps : List Place) (m : Place → ℕ) → IsPlain o →
      IsPlaced code.slots o ps →
      ((r : Register) → has_register set r ≡ is_lost_in o r) → IsKept o set ps m → length s.memory ≡ size →
      traps_of s.memory o (reads_at o ps m) ≡ true →
      Agree s.registers s.frame m → StandAt starts code.instructions s.pc (operation_code size o ps succs next ++ rest) →
      (j : ℕ) × (machine_run code args j s ≡ Trapped s.memory)
  unfolding read_by
  plain_traps size next (Dividing w part signed to left right) set s ps m plain placed has kept sized traps a h =
      let first : place_at ps 0 ≡ register_place (part_register part) = place_is (place_at ps 0) (part_register part) placed.0.0 placed.0.1 in
      let second : place_at ps 1 ≡ register_place 0 = place_is (place_at ps 1) 0 placed.1.0 placed.1.1 in
      let read : reads_at (Dividing w part signed to left right) ps m ≡ m (register_place 0) ∷ m (place_at ps 2) ∷ [] =
      reads w part signed to left right ps m plain.1 ∙ ap (λ (p : Place). m p ∷ m (place_at ps 2) ∷ []) second in
      divide_traps w part signed m set (place_at ps 2) s has (subst (λ (p : Place). Keeps set m p (place_at ps 2)) first kept) placed.2 a h
      (subst (λ (xs : List ℕ). division_traps w signed (slice_index xs 0) (slice_index xs 1) ≡ true) read traps)
  plain_traps size next (Loading bytes to address) set s ps m plain placed has kept sized traps a h =
      guard_traps args starts code succs rest size bytes s m (place_at ps 1) placed.1 sized a (outside (is_within s.memory bytes (m (place_at ps 1))) traps) h.0
  plain_traps size next (Storing bytes address value) set s ps m plain placed has kept sized traps a h =
      guard_traps args starts code succs rest size bytes s m (place_at ps 0) placed.0 sized a (outside (is_within s.memory bytes (m (place_at ps 0))) traps) h.0
  plain_traps size next o set s ps m plain placed has kept sized traps a h = absurd cc

  -- the interpreters' late use guarantees that it is kept
  pub is_kept : (o : Operation) (set : PRegSet) (ps : List Place) (m : Place → ℕ) (v : VirtualRegister → ℕ) → IsPlain o →
      reads_at o ps m ≡ read_by is_reading (λ k u. v u.vreg) 0 (operands_of o) →
      ((x : Choice) → read_by is_late_use (λ k u. after_clobbers set x.leaves (after_writes x.writes ps 0 (operands_of o) m) (place_at ps k)) 0 (operands_of o)
      ≡ read_by is_late_use (λ k u. v u.vreg) 0 (operands_of o)) → IsKept o set ps m
  unfolding after_writes read_by
  is_kept (Dividing w part signed to left right) set ps m v plain same late = λ x.
      let after : Place → ℕ = after_clobbers set x.leaves (stored m (place_at ps 0) (x.writes 0)) in
      let p : ℕ = after (place_at ps 2) in
      let one : p ∷ [] ≡ v right ∷ [] =
      subst (λ (b : Bool). cond (not b && false) (after (place_at ps 1) ∷ p ∷ []) (p ∷ []) ≡ cond (not b && false) (v left ∷ v right ∷ []) (v right ∷ []))
      plain.1 (late x) in
      let two : m (place_at ps 1) ∷ m (place_at ps 2) ∷ [] ≡ v left ∷ v right ∷ [] =
      subst (λ (b : Bool). cond (not b) (m (place_at ps 1) ∷ m (place_at ps 2) ∷ []) (m (place_at ps 2) ∷ [])
      ≡ cond (not b) (v left ∷ v right ∷ []) (v right ∷ [])) plain.1 same in
      ap (λ (xs : List ℕ). slice_index xs 0) one ∙ sym (ap (λ (xs : List ℕ). slice_index xs 1) two)
  is_kept o set ps m v plain same late = tt
