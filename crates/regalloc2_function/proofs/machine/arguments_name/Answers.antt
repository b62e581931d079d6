use Rattle.std.proofs.Common.{length, below_none, refl, ap}
use Rattle.regalloc2_index.specs.Range.{Span}
use Rattle.regalloc2_function.proofs.machine.arguments_name.Goals.{then-len-eq0-via-then-len-eq0, then-len-eq0-via-else-len-eq0+then-index-num_insts}
use Rattle.std.proofs.Common.{arith, below_more}
use Rattle.regalloc2_index.proofs.Bools.{false_is_not_true, false_refutes}
use Rattle.regalloc2_function.proofs.machine.arguments_name.Goals as goal

pub loop-k-preserved : goal.loop-k-preserved
loop-k-preserved g c = record {
  whole = c.loop-k.invariant.whole;
  range = c.loop-k.invariant.range;
  nonempty = c.loop-k.invariant.nonempty;
  within = c.loop-k.invariant.within;
  none = below_more _ _ c.loop-k.invariant.none (false_refutes _ c.if-vregs_name.false (rw (← c.branch_blockparams.ensures) c.vregs_name.ensures.1));
}

pub returns : goal.returns
returns g c =
    (λ t. absurd (false_is_not_true t), λ h. absurd (c.loop-k.invariant.none h.0 (omega (arith, h.3, c.loop-k-test.false, c.loop-k.invariant.whole)) h.4))

pub returns-then-len-eq0 : goal.returns-then-len-eq0
returns-then-len-eq0 g c = (
  λ t. absurd (false_is_not_true t),
  λ h. let first = ap (λ (r : Span). r.first) c.block_insns-range.ensures in
      let end = ap (λ (r : Span). r.end) c.block_insns-range.ensures in
      elim c.then-len-eq0.branch [
        | then-len-eq0-via-then-len-eq0 w ↦ absurd (omega (arith, h.1, c.len.ensures.len, w.if-len-eq0.true, first, end))
        | then-len-eq0-via-else-len-eq0+then-index-num_insts w ↦ absurd
            (omega (arith, h.1, h.2, w.if-index-num_insts.true, w.index.ensures, w.last.ensures, w.num_insts.ensures.count, first, end))
      ],
)

pub loop-k-init : goal.loop-k-init
loop-k-init g c = record {
  whole = ap length c.block_succs-k-end.ensures;
  range = c.block_insns-range.ensures;
  nonempty = omega (arith, c.len.ensures.len, c.if-len-eq0.false);
  within = omega (arith, c.len.ensures.len, c.if-len-eq0.false, c.if-index-num_insts.false, c.index.ensures, c.last.ensures, c.num_insts.ensures.count);
  none = below_none _;
}

pub last-requires-in-loop-k : goal.last-requires-in-loop-k
last-requires-in-loop-k g c = c.loop-k.invariant.nonempty

pub branch_blockparams-requires-clause-block : goal.branch_blockparams-requires-clause-block
branch_blockparams-requires-clause-block g c = c.requires

pub branch_blockparams-requires-clause-last : goal.branch_blockparams-requires-clause-last
branch_blockparams-requires-clause-last g c =
    omega (arith, c.last-in-loop-k.ensures, c.loop-k.invariant.nonempty, ap (λ (r : Span). r.end) c.loop-k.invariant.range)

pub branch_blockparams-requires-clause-nonempty : goal.branch_blockparams-requires-clause-nonempty
branch_blockparams-requires-clause-nonempty g c =
    omega (arith, c.last-in-loop-k.ensures, c.loop-k.invariant.nonempty, ap (λ (r : Span). r.first) c.loop-k.invariant.range)

pub branch_blockparams-requires-clause-position : goal.branch_blockparams-requires-clause-position
branch_blockparams-requires-clause-position g c = omega (arith, c.loop-k.invariant.whole)

pub returns-then-vregs_name : goal.returns-then-vregs_name
returns-then-vregs_name g c = (
  λ _. (
    c.loop-k.k,
    rw c.loop-k.invariant.range at c.loop-k.invariant.nonempty,
    rw c.loop-k.invariant.range at c.loop-k.invariant.within,
    omega (arith, c.loop-k.invariant.whole),
    rw c.branch_blockparams.ensures at (c.vregs_name.ensures.0 c.if-vregs_name.true),
  ),
  λ _. refl,
)
