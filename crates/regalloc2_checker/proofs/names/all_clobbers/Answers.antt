use Rattle.std.proofs.Common.{ℕ, ◌≡◌, ◌∙◌, ◌||◌, ap, arith}
use Rattle.regalloc2_names.specs.declared.sets.PRegSet.{PRegSet}
use Rattle.regalloc2_names.specs.Register.{has_register}
use Rattle.regalloc2_function.specs.FunctionValue.{FunctionValue, inst_at}
use Rattle.regalloc2_checker.proofs.NamedPlaces.{none-clobbered, clobbered-more, clobbered-all}
use Rattle.regalloc2_checker.proofs.names.all_clobbers.Goals as goal

pub loop-i-init : goal.loop-i-init
loop-i-init g c = record {
  end = c.num_insts-i-end.ensures.count;
  members = none-clobbered (g.F.Function.function c.args.f.now) c.empty-clobbers.result c.empty-clobbers.ensures.none;
}

pub loop-i-preserved : goal.loop-i-preserved
loop-i-preserved g c =
    let f : FunctionValue = g.F.Function.function c.args.f.now in
    let set : c.inst_clobbers.result ≡ (inst_at f c.loop-i.i).clobbers = c.inst_clobbers.ensures ∙ ap (λ (i : ℕ). (inst_at f i).clobbers) c.new.ensures in
    record {
      end = c.loop-i.invariant.end;
      members = clobbered-more f c.loop-i.clobbers c.union_from.new.self c.loop-i.i c.loop-i.invariant.members
          (λ r. c.union_from.ensures r ∙ ap (λ (s : PRegSet). has_register c.loop-i.clobbers r || has_register s r) set);
    }

pub inst_clobbers-requires : goal.inst_clobbers-requires
inst_clobbers-requires g c = omega (arith, c.new.ensures, c.loop-i-test.true, c.loop-i.invariant.end)

pub returns : goal.returns
returns g c = clobbered-all (g.F.Function.function c.args.f.now) c.loop-i.clobbers c.loop-i.i
    (omega (arith, c.loop-i-test.false, c.loop-i.invariant.end)) c.loop-i.invariant.members
