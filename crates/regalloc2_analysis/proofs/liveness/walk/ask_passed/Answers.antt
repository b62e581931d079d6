use Rattle.std.proofs.Common.{ℕ, ◌≡◌, length, subst, arith, ◌<◌, ◌-◌, ◌∙◌, List, ap, sym, rules}
use Rattle.regalloc2_function.specs.FunctionValue.{FunctionValue, block_at}
use Rattle.regalloc2_analysis.specs.Liveness.BlockWalk.{PassesNeeds}
use Rattle.regalloc2_analysis.proofs.LivenessLemmas.LiveAtBlockBegin.{passes_more}
use Rattle.regalloc2_index.specs.Range.{Span}
use Rattle.regalloc2_analysis.proofs.liveness.walk.ask_passed.Goals as goal

pub loop-k-preserved : goal.loop-k-preserved
loop-k-preserved g c =
    let f : FunctionValue = g.F.Function.function c.args.f.now in
    record {
      end = c.loop-k.invariant.end;
      so_far = passes_more f c.args.block c.loop-k.k c.args.written.now c.args.needs.now c.loop-k.needs c.ask_arguments.new.needs c.loop-k.invariant.so_far
          (rw c.branch_blockparams.ensures at c.in_ok-ask_arguments.ensures);
    }

pub returns : goal.returns
returns g c =
    let f : FunctionValue = g.F.Function.function c.args.f.now in
    let e : c.loop-k.k ≡ length (block_at f c.args.block).succs = omega (arith, c.loop-k.invariant.end) in
    subst (λ (n : ℕ). PassesNeeds f c.args.block n c.args.written.now c.args.needs.now c.loop-k.needs) e c.loop-k.invariant.so_far

pub block_insns-requires : goal.block_insns-requires
block_insns-requires g c = c.requires.block

pub last-last-requires : goal.last-last-requires
last-last-requires g c =
    subst (λ (r : Span). r.first < r.end) (sym c.block_insns.ensures) (c.requires.framed.follow c.args.block c.requires.block).0

pub block_succs-k-end-requires : goal.block_succs-k-end-requires
block_succs-k-end-requires g c = c.requires.block

pub loop-k-init : goal.loop-k-init
loop-k-init g c = record { end = ap (λ (l : List ℕ). length l) c.block_succs-k-end.ensures; so_far = search rules }

pub branch_blockparams-requires : goal.branch_blockparams-requires
branch_blockparams-requires g c =
    let some = (c.requires.framed.follow c.args.block c.requires.block).0 in
    let end = c.last-last.ensures ∙ ap (λ (r : Span). r.end - 1) c.block_insns.ensures in
    record {
      block = c.requires.block;
      last = omega (arith, some, end);
      nonempty = omega (arith, some, end);
      position = omega (arith, c.loop-k.invariant.end, c.loop-k-test.true);
    }
