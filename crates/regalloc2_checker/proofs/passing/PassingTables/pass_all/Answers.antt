use Rattle.std.proofs.lemmas.Result.{IfOk-from_err}
use Rattle.std.proofs.Common.{length}
use Rattle.std.specs.Prelude.{min}
use Rattle.regalloc2_checker_sets.specs.EntrySets.{taken_from}
use Rattle.regalloc2_checker_sets.proofs.Results.{on_ok_as}
use Rattle.regalloc2_checker.proofs.PassedTables.{all-shown}
use Rattle.regalloc2_checker.proofs.Shown.{shown-after, inside-kept, settled-bare}
use Rattle.regalloc2_checker.proofs.passing.PassingTables.pass_all.Goals as goal

pub invariant_of-self : goal.invariant_of-self
invariant_of-self g c =
    shown-after c.self.inside.tables c.pass_all.new.self c.self.inside.passed c.self.inside.saved.items c.pass_all.ensures.kept.vregs
    c.pass_all.ensures.kept.count c.self.invariant

pub returns-clause-kept : goal.returns-clause-kept
returns-clause-kept g c =
    inside-kept c.args.self.now c.settle.new.self c.self.inside.tables c.pass_all.new.self c.self.inside.passed c.self.inside.passed
    c.self.inside.saved.items c.self.view_is c.in_ok-settle.ensures.kept c.pass_all.ensures.kept

pub returns-clause-now : goal.returns-clause-now
returns-clause-now g c =
    let b = settled-bare c.args.self.now c.settle.new.self c.self.inside.tables c.self.inside.passed c.self.inside.saved.items c.self.view_is
    c.in_ok-settle.ensures.none c.in_ok-settle.ensures.kept c.in_ok-settle.ensures.now in
    on_ok_as _ _ c.pass_all.result
    (λ ok. all-shown c.args.self.now c.settle.new.self c.self.inside.tables c.pass_all.new.self c.self.inside.passed c.self.inside.saved.items
    (taken_from c.args.params.now c.args.arguments.now (min (length c.args.params.now) (length c.args.arguments.now))) c.self.view_is
    c.in_ok-settle.ensures.none b c.pass_all.ensures.kept ok) c.pass_all.ensures.now

pub returns-in_err-settle-clause-now : goal.returns-in_err-settle-clause-now
returns-in_err-settle-clause-now g c = IfOk-from_err c.from_residual.result _ c.from_residual.ensures.0
