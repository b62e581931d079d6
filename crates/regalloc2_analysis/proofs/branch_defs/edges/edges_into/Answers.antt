use Rattle.std.proofs.Common.{List, Option, ◌∙◌, sym, subst}
use Rattle.std.proofs.lemmas.List.{with_items_is}
use Rattle.regalloc2_function.specs.FunctionValue.{FunctionValue}
use Rattle.regalloc2_analysis.specs.declared.branch_defs.EdgeInto.{EdgeInto}
use Rattle.regalloc2_analysis.specs.BranchDefs.Tables.{AreEdges}
use Rattle.regalloc2_analysis.proofs.BranchDefsLemmas.EdgeNotes.{edges_none}
use Rattle.regalloc2_analysis.proofs.branch_defs.edges.edges_into.Goals as goal

pub returns : goal.returns
returns g c = rw (with_items_is c.in_ok-edges.edges c.note_edges.new.edges (c.note_edges.auto.edges ∙ c.as_mut_slice.ensures.len)) c.in_ok-note_edges.ensures

pub note_edges-requires-clause-none : goal.note_edges-requires-clause-none
note_edges-requires-clause-none g c =
    let f : FunctionValue = g.F.Function.function c.args.f.now in
    subst (λ (es : List (Option EdgeInto)). AreEdges f 0 es c.new-stored.result.items) (sym c.as_mut_slice.ensures.value)
    (edges_none f c.in_ok-edges.edges.items c.new-stored.result.items (c.in_ok-edges.ensures.len ∙ c.num_blocks.ensures.count) c.in_ok-edges.ensures.none)

pub note_edges-requires-clause-well_formed : goal.note_edges-requires-clause-well_formed
note_edges-requires-clause-well_formed g c = c.requires.well_formed

pub note_edges-requires-clause-used : goal.note_edges-requires-clause-used
note_edges-requires-clause-used g c = c.requires.used
