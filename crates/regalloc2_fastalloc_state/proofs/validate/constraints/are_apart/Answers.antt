use Rattle.std.proofs.Common.{ℕ, ◌≡◌, List, false, length, length-set, refl, sym, ap, ◌∙◌, subst, arith}
use Rattle.regalloc2_names.specs.Operand.{OperandValue}
use Rattle.regalloc2_function.specs.WellFormed.{AreReusesApart}
use Rattle.regalloc2_carry.proofs.Plain.{always}
use Rattle.regalloc2_fastalloc_state.proofs.ValidateLemmas.ConstraintTests.{named_none, named_same, named_more, named_by_a_reuse, not_named, apart_none, apart_same, apart_more}
use Rattle.regalloc2_fastalloc_state.proofs.ValidateLemmas.OperandReads.{read_operand}
use Rattle.std.proofs.lemmas.Bool.{false≢true}
use Rattle.regalloc2_fastalloc_state.proofs.validate.constraints.are_apart.Goals as goal
use Rattle.regalloc2_fastalloc_state.proofs.validate.constraints.are_apart.Goals.{in-Some+else-named-index, in_default}

pub loop-k-init : goal.loop-k-init
loop-k-init c = record { long = refl; named = named_none c.args.operands.now _ (λ n. always 32 n false); apart = apart_none c.args.operands.now }

pub returns-then-named-index : goal.returns-then-named-index
returns-then-named-index c =
    let ops : List OperandValue = c.args.operands.now in
    let is = ap (λ (o : OperandValue). o.constraint) (sym (read_operand ops c.loop-k.k c.index-operands-k.result c.loop-k-test.true c.index-operands-k.is))
    ∙ c.in-Some.ensures.some in
    let other = named_by_a_reuse ops c.loop-k.k c.in-Some.index c.loop-k.named c.loop-k.invariant.named c.if-named-index.true in (
      λ h. absurd (false≢true h),
      λ all. let same = all other.0 c.loop-k.k c.in-Some.index (omega (arith, other.1, c.loop-k-test.true)) c.loop-k-test.true other.2 is in
          absurd (omega (arith, other.1, same)),
    )

pub loop-k-preserved : goal.loop-k-preserved
loop-k-preserved c =
    let ops : List OperandValue = c.args.operands.now in
    let k : ℕ = c.loop-k.k in
    let is = ap (λ (o : OperandValue). o.constraint) (sym (read_operand ops k c.index-operands-k.result c.loop-k-test.true c.index-operands-k.is)) in
    elim c.match-reused_index.branch [
      | in-Some+else-named-index w ↦ rw w.named-is (record {
        long = length-set c.loop-k.named w.in-Some.index _ ∙ c.loop-k.invariant.long;
        named = named_more ops k w.in-Some.index c.loop-k.named (omega (arith, c.loop-k.invariant.long, w.in-Some.ensures.small)) (is ∙ w.in-Some.ensures.some)
            c.loop-k.invariant.named;
        apart = apart_more ops k w.in-Some.index (is ∙ w.in-Some.ensures.some)
            (not_named ops k w.in-Some.index c.loop-k.named c.loop-k.invariant.named w.if-named-index.false) c.loop-k.invariant.apart;
      })
      | in_default w ↦ rw w.named-is (record {
        long = c.loop-k.invariant.long;
        named = named_same ops k c.loop-k.named (λ n e. w.in_default.ensures.none n (sym is ∙ e)) c.loop-k.invariant.named;
        apart = apart_same ops k (λ n e. w.in_default.ensures.none n (sym is ∙ e)) c.loop-k.invariant.apart;
      })
    ]

pub returns : goal.returns
returns c =
    let e : c.loop-k.k ≡ length c.args.operands.now = omega arith in
    (λ t. subst (AreReusesApart c.args.operands.now) e c.loop-k.invariant.apart, λ h. refl)
