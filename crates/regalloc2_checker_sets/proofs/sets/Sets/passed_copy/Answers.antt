use Rattle.std.proofs.Common.{◌≡◌, arith, ap, sym, ◌∙◌, nat_eq, length, get_or}
use Rattle.std.specs.Prelude.{if◌then◌else◌, min}
use Rattle.regalloc2_checker_sets.specs.EntrySets.{has_bits, is_member, taken_from}
use Rattle.regalloc2_checker_sets.proofs.Bits.{changed-is}
use Rattle.regalloc2_checker_sets.proofs.Passed.{taken-none, taken-more}
use Rattle.regalloc2_checker_sets.proofs.sets.Sets.passed_copy.Goals as goal

pub loop-k-init : goal.loop-k-init
loop-k-init g c = record {
  passed = λ y. c.in_ok-copy.ensures y ∙ ap (is_member c.args.self.now c.args.set) (sym (taken-none c.args.params.now c.args.arguments.now y));
}

pub loop-k-preserved : goal.loop-k-preserved
loop-k-preserved g c = record {
  passed = λ y.
      changed-is c.loop-k.copy c.set.new.self (get_or c.args.params.now c.loop-k.k 0) c.has-is_in.result
      (omega (arith, c.type_inv.params c.loop-k.k)) c.in_ok-set.ensures.ok y
      ∙ ap (λ b. if nat_eq y (get_or c.args.params.now c.loop-k.k 0) then b else has_bits c.loop-k.copy y) c.has-is_in.ensures
      ∙ ap (λ b. if nat_eq y (get_or c.args.params.now c.loop-k.k 0) then is_member c.args.self.now c.args.set (get_or c.args.arguments.now c.loop-k.k 0)
      else b) (c.loop-k.invariant.passed y)
      ∙ taken-more (is_member c.args.self.now c.args.set) c.args.params.now c.args.arguments.now c.loop-k.k y;
}

pub returns : goal.returns
returns g c y =
    let end : c.loop-k.k ≡ min (length c.args.params.now) (length c.args.arguments.now) =
    omega (arith, c.loop-k-test.false, c.loop-k.auto.k-end, c.min-k-end.ensures) in
    c.loop-k.invariant.passed y ∙ ap (λ n. is_member c.args.self.now c.args.set (taken_from c.args.params.now c.args.arguments.now n y)) end
