use Rattle.std.proofs.Common.{ℕ, ◌≡◌, ◌≤◌, ap, sym, ◌∙◌, arith}
use Rattle.regalloc2_names.specs.Place.{InSlot}
use Rattle.regalloc2_parts.proofs.callmoves.fault.lower.Goals as goal

-- one slot has one number; there `cc` has little to read
same_slot : {a b : ℕ} → InSlot a ≡ InSlot b → a ≡ b
same_slot e = cc

pub returns-in-Some : goal.returns-in-Some
returns-in-Some c = record {
  least = c.lower_number.ensures.least;
  slot = λ lt. let s = c.lower_number.ensures.number lt in (s.0, c.in-Some.ensures ∙ ap InSlot s.1);
  other = λ n low lt e.
      let is : c.in-Some.number ≡ n = same_slot (sym c.in-Some.ensures ∙ e) in
      let least : c.lower_number.result ≤ c.in-Some.number = c.lower_number.ensures.other (omega arith) in
      omega arith;
}

pub returns-in-None : goal.returns-in-None
returns-in-None c = record {
  least = omega arith;
  slot = λ lt. absurd (omega arith);
  other = λ n low lt e. c.in-None.ensures n e;
}
