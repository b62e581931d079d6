use Rattle.std.proofs.Common.{ℕ, ◌≡◌, length, subst, arith}
use Rattle.regalloc2_function.specs.FunctionValue.{FunctionValue}
use Rattle.regalloc2_analysis.specs.BranchDefs.Notes.{PassesIn}
use Rattle.regalloc2_analysis.proofs.BranchDefsLemmas.UseNotes.{blocks_more}
use Rattle.regalloc2_function.specs.Inside.MarkedNumbers.{Marks}
use Rattle.regalloc2_analysis.proofs.branch_defs.uses.note_all_passed.Goals as goal

pub loop-b-preserved : goal.loop-b-preserved
loop-b-preserved g c =
    let f : FunctionValue = g.F.Function.function c.args.f.now in
    record {
      within = c.loop-b.invariant.within;
      marked = blocks_more f c.args.sites.now c.loop-b.b c.args.used.now c.loop-b.used c.note_passed.new.used c.loop-b.auto.used c.loop-b.invariant.marked
          (rw c.new.ensures at c.note_passed.ensures);
    }

pub returns : goal.returns
returns g c =
    let f : FunctionValue = g.F.Function.function c.args.f.now in
    let all : c.loop-b.b ≡ length f.blocks = omega (arith, c.loop-b.invariant.within) in
    subst (λ (n : ℕ). Marks (PassesIn f c.args.sites.now n) c.args.used.now c.loop-b.used) all c.loop-b.invariant.marked
