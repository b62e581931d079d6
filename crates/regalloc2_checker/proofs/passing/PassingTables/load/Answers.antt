use Rattle.std.proofs.Common.{ℕ, ◌≡◌, List, get_or, arith, sym, refl, subst}
use Rattle.std.specs.Prelude.{Option, None}
use Rattle.regalloc2_checker.specs.Showing.{Showing, showing, shows_in, ListsPassed, AreTablesKept}
use Rattle.regalloc2_checker.specs.Showing.{ShowsNow}
use Rattle.regalloc2_checker.specs.declared.passing.Passed.{Passed}
use Rattle.regalloc2_checker_sets.proofs.Bits.{read-is}
use Rattle.regalloc2_checker.proofs.Shown.{shown-after, shown-with, kept-shown, inside-table, loaded-shown}
use Rattle.regalloc2_checker.proofs.passing.PassingTables.load.Goals as goal

pub load-requires : goal.load-requires
load-requires g c =
    let l = inside-table c.args.self.now c.self.inside.tables c.self.inside.passed c.self.inside.saved.items c.args.table c.self.view_is c.requires in
    omega (arith, l, c.self.invariant.spare)

pub invariant_of-self : goal.invariant_of-self
invariant_of-self g c =
    let l = inside-table c.args.self.now c.self.inside.tables c.self.inside.passed c.self.inside.saved.items c.args.table c.self.view_is c.requires in
    let q : c.index.result.now ≡ get_or c.self.inside.saved.items c.args.table None = read-is c.self.inside.saved.items c.self.inside.saved.items c.args.table
    c.index.result.now None refl l c.index.ensures in
    shown-with c.load.new.self c.self.inside.passed c.index.result.now c.self.inside.saved.items
    (subst (λ (o : Option Passed). ListsPassed c.load.new.self.vregs o) (sym q)
    (subst (λ (vs : List ℕ). ListsPassed vs (get_or c.self.inside.saved.items c.args.table None)) (sym c.load.ensures.kept.vregs) (c.self.invariant.tables
    c.args.table)))
    (shown-after c.self.inside.tables c.load.new.self c.self.inside.passed c.self.inside.saved.items c.load.ensures.kept.vregs c.load.ensures.kept.count
    c.self.invariant)

pub returns-clause-kept : goal.returns-clause-kept
returns-clause-kept g c =
    subst (λ (o : Showing). AreTablesKept o (showing c.load.new.self c.index.result.now c.self.inside.saved.items)) c.self.view_is
    (kept-shown c.self.inside.tables c.load.new.self c.self.inside.passed c.index.result.now c.self.inside.saved.items c.load.ensures.kept)

pub returns-clause-now : goal.returns-clause-now
returns-clause-now g c =
    let l = inside-table c.args.self.now c.self.inside.tables c.self.inside.passed c.self.inside.saved.items c.args.table c.self.view_is c.requires in
    let q : c.index.result.now ≡ get_or c.self.inside.saved.items c.args.table None = read-is c.self.inside.saved.items c.self.inside.saved.items c.args.table
    c.index.result.now None refl l c.index.ensures in
    subst (λ (o : Showing). ShowsNow (showing c.load.new.self c.index.result.now c.self.inside.saved.items) (shows_in o c.args.table)) c.self.view_is
    (loaded-shown c.self.inside.tables c.load.new.self c.self.inside.passed c.index.result.now c.self.inside.saved.items c.args.table l q
    c.load.ensures.kept.places c.load.ensures.kept.vregs c.load.ensures.now)
