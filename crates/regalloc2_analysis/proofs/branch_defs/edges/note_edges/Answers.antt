use Rattle.std.proofs.Common.{ℕ, ◌≡◌, length, sym, subst, arith}
use Rattle.regalloc2_function.specs.FunctionValue.{FunctionValue}
use Rattle.regalloc2_analysis.specs.BranchDefs.Tables.{AreEdges}
use Rattle.regalloc2_analysis.proofs.branch_defs.edges.note_edges.Goals as goal

pub note_edges_of-requires-clause-so_far : goal.note_edges_of-requires-clause-so_far
note_edges_of-requires-clause-so_far g c =
    let f : FunctionValue = g.F.Function.function c.args.f.now in
    subst (λ (n : ℕ). AreEdges f n c.loop-b.edges c.loop-b.stored.items) (sym c.new.ensures) c.loop-b.invariant.noted

pub loop-b-preserved : goal.loop-b-preserved
loop-b-preserved g c = record {
  within = c.loop-b.invariant.within;
  noted = rw c.new.ensures at c.in_ok-note_edges_of.ensures;
}

pub returns : goal.returns
returns g c =
    let f : FunctionValue = g.F.Function.function c.args.f.now in
    let all : c.loop-b.b ≡ length f.blocks = omega (arith, c.loop-b.invariant.within) in
    subst (λ (n : ℕ). AreEdges f n c.loop-b.edges c.loop-b.stored.items) all c.loop-b.invariant.noted
