use Rattle.std.proofs.Common.{ℕ, List, false, length-set, refl, sym, ap, ◌∙◌, arith}
use Rattle.regalloc2_names.specs.Operand.{OperandValue}
use Rattle.regalloc2_carry.proofs.Plain.{always}
use Rattle.regalloc2_fastalloc_state.proofs.ValidateLemmas.ConstraintTests.{named_none, named_same, named_more, all_named}
use Rattle.regalloc2_fastalloc_state.proofs.ValidateLemmas.OperandReads.{read_operand}
use Rattle.regalloc2_fastalloc_state.proofs.validate.constraints.named_by_reuses.Goals as goal
use Rattle.regalloc2_fastalloc_state.proofs.validate.constraints.named_by_reuses.Goals.{in-Some, in_default}

pub loop-k-init : goal.loop-k-init
loop-k-init c = record { long = refl; named = named_none c.args.operands.now _ (λ n. always 32 n false) }

pub loop-k-preserved : goal.loop-k-preserved
loop-k-preserved c =
    let ops : List OperandValue = c.args.operands.now in
    let k : ℕ = c.loop-k.k in
    let is = ap (λ (o : OperandValue). o.constraint) (sym (read_operand ops k c.index-operands-k.result c.loop-k-test.true c.index-operands-k.is)) in
    elim c.match-reused_index.branch [
      | in-Some w ↦ rw w.named-is (record {
        long = length-set c.loop-k.named w.in-Some.index _ ∙ c.loop-k.invariant.long;
        named = named_more ops k w.in-Some.index c.loop-k.named (omega (arith, c.loop-k.invariant.long, w.in-Some.ensures.small)) (is ∙ w.in-Some.ensures.some)
            c.loop-k.invariant.named;
      })
      | in_default w ↦ rw w.named-is (record {
        long = c.loop-k.invariant.long;
        named = named_same ops k c.loop-k.named (λ n e. w.in_default.ensures.none n (sym is ∙ e)) c.loop-k.invariant.named;
      })
    ]

pub returns : goal.returns
returns c = all_named c.args.operands.now c.loop-k.k c.loop-k.named (omega arith) c.loop-k.invariant.named
