use Rattle.std.proofs.Common.{below_none, refl}
use Rattle.regalloc2_function.proofs.machine.blocks_name.Goals.{then-vregs_name-via-then-vregs_name, then-vregs_name-via-else-vregs_name+then-arguments_name}
use Rattle.std.proofs.Common.{arith, below_more, inl, inr}
use Rattle.regalloc2_index.proofs.Bools.{false_is_not_true, false_refutes}
use Rattle.regalloc2_function.proofs.machine.blocks_name.Goals as goal

pub loop-b-preserved : goal.loop-b-preserved
loop-b-preserved g c =
    let params = false_refutes _ c.if-vregs_name.false c.vregs_name.ensures.1 in
    let arguments = false_refutes _ c.if-arguments_name.false c.arguments_name.ensures.1 in
    record {
      whole = c.num_blocks-b-end.ensures.count;
      none = below_more _ _ c.loop-b.invariant.none (rw (← c.new-block.ensures)
          (λ h. elim h [ inl p ↦ params (rw c.block_params.ensures p) | inr a ↦ arguments a ]));
    }

pub returns : goal.returns
returns g c =
    (λ t. absurd (false_is_not_true t), λ h. absurd (c.loop-b.invariant.none h.0 (omega (arith, h.1, c.loop-b-test.false, c.loop-b.invariant.whole)) h.2))

pub loop-b-init : goal.loop-b-init
loop-b-init g c = record { whole = c.num_blocks-b-end.ensures.count; none = below_none _ }

pub block_params-requires : goal.block_params-requires
block_params-requires g c = rw c.new-block.ensures (omega (arith, c.loop-b.invariant.whole))

pub arguments_name-requires : goal.arguments_name-requires
arguments_name-requires g c = rw c.new-block.ensures (omega (arith, c.loop-b.invariant.whole))

pub returns-then-vregs_name : goal.returns-then-vregs_name
returns-then-vregs_name g c = (
  λ _. (
    c.new-block.result,
    rw c.new-block.ensures (omega (arith, c.loop-b.invariant.whole)),
    elim c.then-vregs_name.branch [
      | then-vregs_name-via-then-vregs_name w ↦ inl (rw c.block_params.ensures at (c.vregs_name.ensures.0 w.if-vregs_name.true))
      | then-vregs_name-via-else-vregs_name+then-arguments_name w ↦ inr (w.arguments_name.ensures.0 w.if-arguments_name.true)
    ],
  ),
  λ _. refl,
)
