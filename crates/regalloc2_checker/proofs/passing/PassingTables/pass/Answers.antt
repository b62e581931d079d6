use Rattle.std.proofs.Common.{ℕ, ◌<◌, List, length, sym, subst}
use Rattle.std.specs.Prelude.{Some}
use Rattle.regalloc2_checker.proofs.TableLaws.{kept_same}
use Rattle.regalloc2_checker.proofs.Shown.{shown-with, some-passed, inside-kept, settled-bare, passed-shown}
use Rattle.regalloc2_checker.proofs.passing.PassingTables.pass.Goals as goal

pub invariant_of-self : goal.invariant_of-self
invariant_of-self g c =
    let b = settled-bare c.args.self.now c.settle.new.self c.self.inside.tables c.self.inside.passed c.self.inside.saved.items c.self.view_is
    c.in_ok-settle.ensures.none c.in_ok-settle.ensures.kept c.in_ok-settle.ensures.now in
    shown-with c.self.inside.tables c.self.inside.passed (Some (record { parameter = c.args.parameter; argument = c.args.argument })) c.self.inside.saved.items
    (some-passed c.self.inside.tables.vregs (record { parameter = c.args.parameter; argument = c.args.argument })
    (subst (λ (vs : List ℕ). c.args.parameter < length vs) (sym b.vregs) c.requires.parameter)
    (subst (λ (vs : List ℕ). c.args.argument < length vs) (sym b.vregs) c.requires.argument)) c.self.invariant

pub returns-clause-kept : goal.returns-clause-kept
returns-clause-kept g c =
    inside-kept c.args.self.now c.settle.new.self c.self.inside.tables c.self.inside.tables c.self.inside.passed (Some (record {
      parameter = c.args.parameter;
      argument = c.args.argument;
    })) c.self.inside.saved.items c.self.view_is c.in_ok-settle.ensures.kept
    (kept_same c.self.inside.tables)

pub returns-clause-now : goal.returns-clause-now
returns-clause-now g c =
    let b = settled-bare c.args.self.now c.settle.new.self c.self.inside.tables c.self.inside.passed c.self.inside.saved.items c.self.view_is
    c.in_ok-settle.ensures.none c.in_ok-settle.ensures.kept c.in_ok-settle.ensures.now in
    passed-shown c.args.self.now c.self.inside.tables (record { parameter = c.args.parameter; argument = c.args.argument }) c.self.inside.saved.items b
