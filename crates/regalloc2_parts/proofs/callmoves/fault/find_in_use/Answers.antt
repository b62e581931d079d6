use Rattle.std.proofs.Common.{ap, ◌∙◌, inr, arith, inl}
use Rattle.regalloc2_names.specs.Place.{InSlot, InRegister}
use Rattle.regalloc2_parts.proofs.CallmovesLemmas.CallPlaces.{read_free}
use Rattle.regalloc2_parts.proofs.callmoves.fault.find_in_use.Goals as goal

pub returns-then-slot-frame : goal.returns-then-slot-frame
returns-then-slot-frame g c = inr (inr (
  c.in_default.ensures,
  c.is_borrowed_taken.ensures.no c.if-is_borrowed_taken.false,
  (
    c.lowest_slot-slot.result,
    (c.if-slot-frame.true, c.lowest_slot-slot.ensures.named c.if-slot-frame.true, c.lowest_slot-slot.ensures.lower),
    c.stack.ensures ∙ ap InSlot c.new.ensures,
  ),
))

pub returns : goal.returns
returns g c = record {
  registers = c.in_default.ensures;
  borrowed = c.is_borrowed_taken.ensures.no c.if-is_borrowed_taken.false;
  slots = λ k lt. c.lowest_slot-slot.ensures.lower k (omega arith);
}

pub returns-in-Some : goal.returns-in-Some
returns-in-Some g c = inl (
  c.in-Some.at,
  c.in-Some.ensures,
  c.reg.ensures
      ∙ ap InRegister (read_free c.args.frame.now c.in-Some.at c.index.result.now c.in-Some.ensures.0 c.index.ensures),
)

pub returns-then-is_borrowed_taken : goal.returns-then-is_borrowed_taken
returns-then-is_borrowed_taken g c = inr (inl (c.in_default.ensures, c.is_borrowed_taken.ensures.yes c.if-is_borrowed_taken.true, c.reg-then-is_borrowed_taken.ensures))

pub new-requires : goal.new-requires
new-requires g c = omega (arith, c.if-slot-frame.true, c.requires)

pub stack-requires : goal.stack-requires
stack-requires g c = omega (arith, c.new.ensures, c.if-slot-frame.true, c.requires)
