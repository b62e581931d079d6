use Rattle.std.proofs.Common.{arith, ℕ, ◌<◌, ◌-◌, ◌∙◌, List, length, ap, sym, subst}
use Rattle.regalloc2_index.specs.Range.{Span}
use Rattle.regalloc2_analysis.proofs.liveness.search.is_passed.Goals as goal

pub returns-then-is_named : goal.returns-then-is_named
returns-then-is_named g c = λ yes.
    (c.loop-k.k, omega (arith, c.loop-k-test.true, c.loop-k.invariant), rw c.branch_blockparams.ensures at (c.is_named.ensures.0 c.if-is_named.true))

pub block_insns-requires : goal.block_insns-requires
block_insns-requires g c = c.requires.block

pub last-last-requires : goal.last-last-requires
last-last-requires g c =
    subst (λ (r : Span). r.first < r.end) (sym c.block_insns.ensures) (c.requires.framed.follow c.args.block c.requires.block).0

pub block_succs-k-end-requires : goal.block_succs-k-end-requires
block_succs-k-end-requires g c = c.requires.block

pub loop-k-init : goal.loop-k-init
loop-k-init g c = ap (λ (l : List ℕ). length l) c.block_succs-k-end.ensures

pub branch_blockparams-requires : goal.branch_blockparams-requires
branch_blockparams-requires g c =
    let some = (c.requires.framed.follow c.args.block c.requires.block).0 in
    let end = c.last-last.ensures ∙ ap (λ (r : Span). r.end - 1) c.block_insns.ensures in
    record {
      block = c.requires.block;
      last = omega (arith, some, end);
      nonempty = omega (arith, some, end);
      position = omega (arith, c.loop-k.invariant, c.loop-k-test.true);
    }
