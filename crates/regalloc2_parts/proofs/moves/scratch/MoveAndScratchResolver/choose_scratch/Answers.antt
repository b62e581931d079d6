use Rattle.std.proofs.Common.{inr, refl, subst}
use Rattle.regalloc2_parts.specs.declared.moves.scratch.Handed.TheVariants.{Register, Slot}
use Rattle.regalloc2_parts.specs.Computed.{IsHanding}
use Rattle.regalloc2_parts.proofs.moves.scratch.MoveAndScratchResolver.choose_scratch.Goals as goal

pub returns-in-Register-clause-chosen : goal.returns-in-Register-clause-chosen
returns-in-Register-clause-chosen g c =
    let handed = subst (λ h. IsHanding (λ s a t. goal.GetReg-step g s a t) (λ s a t. goal.GetStackSlot-step g s a t) c.args.self.now.find_free_reg
    c.hand_out.new.self.find_free_reg c.args.self.now.get_stackslot c.hand_out.new.self.get_stackslot h) c.in-Register.is c.in_ok-register.ensures.handed in
    inr (Register c.in-Register.register, c.if-not-is_needed.false, handed, refl)

pub returns-in-Slot-clause-chosen : goal.returns-in-Slot-clause-chosen
returns-in-Slot-clause-chosen g c =
    let handed = subst (λ h. IsHanding (λ s a t. goal.GetReg-step g s a t) (λ s a t. goal.GetStackSlot-step g s a t) c.args.self.now.find_free_reg
    c.hand_out.new.self.find_free_reg c.args.self.now.get_stackslot c.hand_out.new.self.get_stackslot h) c.in-Slot.is c.in_ok-register.ensures.handed in
    inr (Slot c.in-Slot.slot, c.if-not-is_needed.false, handed, refl)

pub hand_out-requires : goal.hand_out-requires
hand_out-requires g c = c.requires
