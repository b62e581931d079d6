use Rattle.std.proofs.Common.{sym, ◌∙◌}
use Rattle.std.proofs.lemmas.Result.{err_from_is_err_and}
use Rattle.regalloc2_function.specs.FunctionValue.{FunctionValue}
use Rattle.regalloc2_analysis.proofs.BranchDefsLemmas.Tables.{tables_all, tables_none}
use Rattle.std.proofs.lemmas.Bool.{false≢true}
use Rattle.regalloc2_analysis.proofs.branch_defs.BranchDefs.of.Goals as goal

pub returns-then-not-some_branch_defines-clause-ok :
    goal.returns-then-not-some_branch_defines-clause-ok
returns-then-not-some_branch_defines-clause-ok g c =
    let f : FunctionValue = g.F.Function.function c.args.f.now in
    tables_none f _ c.requires.well_formed
    (λ h. absurd (false≢true (sym c.if-not-some_branch_defines.true ∙ c.some_branch_defines.ensures.1 h)))
    c.new.ensures.items c.new-then-not-some_branch_defines.ensures.items

pub returns-clause-ok : goal.returns-clause-ok
returns-clause-ok g c =
    let f : FunctionValue = g.F.Function.function c.args.f.now in
    tables_all f _ c.in_ok-sites.ensures c.in_ok-edges.ensures

pub edges_into-requires-clause-used : goal.edges_into-requires-clause-used
edges_into-requires-clause-used g c = rw c.as_slice-2.ensures.value c.in_ok-used.ensures

pub edges_into-requires-clause-well_formed : goal.edges_into-requires-clause-well_formed
edges_into-requires-clause-well_formed g c = c.requires.well_formed

pub used_elsewhere-requires-clause-well_formed : goal.used_elsewhere-requires-clause-well_formed
used_elsewhere-requires-clause-well_formed g c = c.requires.well_formed

pub used_elsewhere-requires-clause-sites : goal.used_elsewhere-requires-clause-sites
used_elsewhere-requires-clause-sites g c = rw c.as_slice.ensures.value c.in_ok-sites.ensures

pub used_elsewhere-requires-clause-room : goal.used_elsewhere-requires-clause-room
used_elsewhere-requires-clause-room g c = c.table_length-vregs.ensures.room

pub branch_sites-requires-clause-well_formed : goal.branch_sites-requires-clause-well_formed
branch_sites-requires-clause-well_formed g c = c.requires.well_formed

pub branch_sites-requires-clause-room : goal.branch_sites-requires-clause-room
branch_sites-requires-clause-room g c = c.table_length-vregs.ensures.room

pub returns-in_err-sites-clause-memory : goal.returns-in_err-sites-clause-memory
returns-in_err-sites-clause-memory g c = let p = err_from_is_err_and c.from_residual.result c.from_residual.ensures.1 in rw p.1 p.2

pub returns-in_err-sites-clause-asked : goal.returns-in_err-sites-clause-asked
returns-in_err-sites-clause-asked g c = let p = err_from_is_err_and c.from_residual.result c.from_residual.ensures.1 in rw p.1 (c.some_branch_defines.ensures.0 c.if-not-some_branch_defines.false)

pub returns-in_err-used-clause-memory : goal.returns-in_err-used-clause-memory
returns-in_err-used-clause-memory g c = let p = err_from_is_err_and c.from_residual-in_err-used.result c.from_residual-in_err-used.ensures.1 in rw p.1 p.2

pub returns-in_err-used-clause-asked : goal.returns-in_err-used-clause-asked
returns-in_err-used-clause-asked g c = let p = err_from_is_err_and c.from_residual-in_err-used.result c.from_residual-in_err-used.ensures.1 in rw p.1 (c.some_branch_defines.ensures.0 c.if-not-some_branch_defines.false)

pub returns-in_err-edges-clause-memory : goal.returns-in_err-edges-clause-memory
returns-in_err-edges-clause-memory g c = let p = err_from_is_err_and c.from_residual-in_err-edges.result c.from_residual-in_err-edges.ensures.1 in rw p.1 p.2

pub returns-in_err-edges-clause-asked : goal.returns-in_err-edges-clause-asked
returns-in_err-edges-clause-asked g c = let p = err_from_is_err_and c.from_residual-in_err-edges.result c.from_residual-in_err-edges.ensures.1 in rw p.1 (c.some_branch_defines.ensures.0 c.if-not-some_branch_defines.false)
