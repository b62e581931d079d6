use Rattle.std.proofs.Common.{ℕ, zero, suc, ◌≡◌, ◌-◌, ◌≤◌, sym, ap, arith}
use Rattle.codegen_emit.specs.declared.placement.MachinePlace.TheVariants.{Slot as AtSlot}
use Rattle.codegen_emit.specs.Pinned.{slot_place}
use Rattle.codegen_emit.proofs.placement.slot_place.Goals as goal

-- past the first five, slots are in the frame
in_frame : (n : ℕ) → 5 ≤ n → AtSlot (n - 5) ≡ slot_place n
in_frame zero some = absurd (omega arith)
in_frame (suc zero) some = absurd (omega arith)
in_frame (suc (suc zero)) some = absurd (omega arith)
in_frame (suc (suc (suc zero))) some = absurd (omega arith)
in_frame (suc (suc (suc (suc zero)))) some = absurd (omega arith)
in_frame (suc (suc (suc (suc (suc n))))) some = let less : suc (suc (suc (suc (suc n)))) - 5 ≡ n = omega arith in ap AtSlot less

pub returns-in-0 : goal.returns-in-0
returns-in-0 c = ap slot_place (sym c.in-0.is)

pub returns-in-1 : goal.returns-in-1
returns-in-1 c = ap slot_place (sym c.in-1.is)

pub returns-in-2 : goal.returns-in-2
returns-in-2 c = ap slot_place (sym c.in-2.is)

pub returns-in-3 : goal.returns-in-3
returns-in-3 c = ap slot_place (sym c.in-3.is)

pub returns-in-4 : goal.returns-in-4
returns-in-4 c = ap slot_place (sym c.in-4.is)

pub returns-in_default : goal.returns-in_default
returns-in_default c = in_frame c.args.slot (omega (arith, c.in_default))
