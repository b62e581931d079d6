use Rattle.std.proofs.Common.{◌≡◌, ◌∙◌, length, sym, subst, arith}
use Rattle.std.proofs.lemmas.List.{with_items_is}
use Rattle.regalloc2_function.specs.Inside.TableLength.{CoversDefinitions}
use Rattle.regalloc2_analysis.proofs.branch_defs.sites.branch_sites.Goals as goal

pub note_branches-requires-clause-room : goal.note_branches-requires-clause-room
note_branches-requires-clause-room g c =
    let same : length c.as_mut_slice.result.now ≡ c.args.vregs = omega (arith, c.as_mut_slice.ensures.len, c.in_ok-sites.ensures.len) in
    subst (CoversDefinitions (g.F.Function.function c.args.f.now)) (sym same) c.requires.room

pub note_branches-requires-clause-well_formed : goal.note_branches-requires-clause-well_formed
note_branches-requires-clause-well_formed g c = c.requires.well_formed

pub note_branches-requires-clause-none : goal.note_branches-requires-clause-none
note_branches-requires-clause-none g c = rw c.as_mut_slice.ensures.value c.in_ok-sites.ensures.none

pub returns : goal.returns
returns g c = rw (with_items_is c.in_ok-sites.sites c.note_branches.new.sites (c.note_branches.auto.sites ∙ c.as_mut_slice.ensures.len)) c.note_branches.ensures
