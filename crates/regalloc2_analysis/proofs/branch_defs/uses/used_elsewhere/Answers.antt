use Rattle.std.proofs.Common.{◌≡◌, ◌∙◌, length, sym, subst, arith}
use Rattle.std.proofs.lemmas.List.{with_items_is}
use Rattle.regalloc2_function.specs.Inside.TableLength.{CoversDefinitions}
use Rattle.regalloc2_analysis.proofs.branch_defs.uses.used_elsewhere.Goals as goal

pub note_uses-requires-clause-room : goal.note_uses-requires-clause-room
note_uses-requires-clause-room g c =
    let same : length c.as_mut_slice.result.now ≡ c.args.vregs = omega (arith, c.as_mut_slice.ensures.len, c.in_ok-used.ensures.len) in
    subst (CoversDefinitions (g.F.Function.function c.args.f.now)) (sym same) c.requires.room

pub note_uses-requires-clause-well_formed : goal.note_uses-requires-clause-well_formed
note_uses-requires-clause-well_formed g c = c.requires.well_formed

pub note_uses-requires-clause-sites : goal.note_uses-requires-clause-sites
note_uses-requires-clause-sites g c = c.requires.sites

pub note_uses-requires-clause-none : goal.note_uses-requires-clause-none
note_uses-requires-clause-none g c = rw c.as_mut_slice.ensures.value c.in_ok-used.ensures.none

pub returns : goal.returns
returns g c = rw (with_items_is c.in_ok-used.used c.note_uses.new.used (c.note_uses.auto.used ∙ c.as_mut_slice.ensures.len)) c.note_uses.ensures
