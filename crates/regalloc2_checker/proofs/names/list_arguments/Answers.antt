use Rattle.std.proofs.Common.{ℕ, List, length, ap, arith, subst}
use Rattle.std.specs.Prelude.{All}
use Rattle.regalloc2_names.specs.Register.{VirtualRegister}
use Rattle.regalloc2_function.specs.FunctionValue.{FunctionValue}
use Rattle.regalloc2_semantics.specs.Runs.{arguments_at}
use Rattle.regalloc2_checker.specs.TableFacts.{IsListedVReg}
use Rattle.regalloc2_checker.proofs.NamedBits.{more-same, more-twice, all-vregs-more, up_to}
use Rattle.regalloc2_checker.proofs.names.list_arguments.Goals as goal

pub loop-k-init : goal.loop-k-init
loop-k-init g c = record {
  end = ap (λ (xs : List ℕ). length xs) c.block_succs-k-end.ensures;
  more = more-same c.args.bits.now;
  listed = λ j less. absurd (omega (arith, less));
}

pub loop-k-preserved : goal.loop-k-preserved
loop-k-preserved g c =
    let f : FunctionValue = g.F.Function.function c.args.f.now in
    let old : List ℕ = c.loop-k.bits in
    let new : List ℕ = c.list_vregs.new.bits in
    record {
      end = c.loop-k.invariant.end;
      more = more-twice c.args.bits.now old new c.loop-k.invariant.more c.in_ok-list_vregs.ensures.more;
      listed = up_to (λ j. All (IsListedVReg old) (arguments_at f c.args.block j)) (λ j. All (IsListedVReg new) (arguments_at f c.args.block j)) c.loop-k.k
          (λ j h. all-vregs-more old new _ c.in_ok-list_vregs.ensures.more h) c.loop-k.invariant.listed
          (subst (λ (vs : List VirtualRegister). All (IsListedVReg new) vs) c.branch_blockparams.ensures c.in_ok-list_vregs.ensures.listed);
    }

pub returns : goal.returns
returns g c = record {
  more = c.loop-k.invariant.more;
  listed = λ j less. c.loop-k.invariant.listed j (omega (arith, less, c.loop-k-test.false, c.loop-k.invariant.end));
}
