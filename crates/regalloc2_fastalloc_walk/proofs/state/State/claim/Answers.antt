use Rattle.std.proofs.Common.{List, sym, ap, ◌∙◌}
use Rattle.regalloc2_fastalloc_state.proofs.ValidateLemmas.OperandReads.{read_operand}
use Rattle.regalloc2_names.specs.Operand.{OperandValue}
use Rattle.regalloc2_fastalloc_walk.proofs.RegsReserved.{claim_is, reserves_without_claim, reserves_it, same_claim}
use Rattle.regalloc2_fastalloc_walk.proofs.Steps.{outcome_of}
use Rattle.regalloc2_fastalloc_walk.specs.StateView.{tables_of}
use Rattle.regalloc2_fastalloc_walk.proofs.Clashes.{none_is_not_some_of}
use Rattle.regalloc2_fastalloc_walk.proofs.state.State.claim.Goals as goal

pub returns-in-Some-clause-outcome : goal.returns-in-Some-clause-outcome
returns-in-Some-clause-outcome g c =
    let is = claim_is c.args.operands.now c.args.k c.reserved_by.result c.reserved_by.ensures.some c.in-Some.claim c.in-Some.is in
    outcome_of c.reserve_preg.result c.reserve_preg.ensures.ok c.reserve_preg.ensures.stops
    (reserves_it (λ r p h. same_claim r p c.in-Some.claim c.reserved_by.result (c.reserved_by.ensures.all r p h) c.in-Some.is) c.requires is
    c.reserve_preg.ensures.shrinks c.reserve_preg.ensures.takes c.reserve_preg.ensures.grows c.reserve_preg.ensures.only)
    (λ e stops lacks. record { register = c.in-Some.claim.0; positions = c.in-Some.claim.1; claims = is; stops = stops lacks })

-- an operand that claims nothing
pub returns-clause-outcome : goal.returns-clause-outcome
returns-clause-outcome g c =
    let ops : List OperandValue = c.args.operands.now in
    let o = read_operand ops c.args.k c.index-operands-k.result c.requires c.index-operands-k.is in
    reserves_without_claim ops c.args.k c.args.inst_regs.now c.remove_unclaimed.new.inst_regs c.args.claims.now (tables_of c.args.self.now)
    (λ r p h. none_is_not_some_of (sym c.in_default.is ∙ c.reserved_by.ensures.all r p h)) c.remove_unclaimed.ensures.shrinks
    (λ r was now. (c.args.k, c.requires, ap (λ (x : OperandValue). x.constraint) (sym o) ∙ c.remove_unclaimed.ensures.takes r was now))
