use Rattle.std.proofs.Common.{ℕ, ◌≡◌, length, subst, arith}
use Rattle.regalloc2_function.specs.FunctionValue.{FunctionValue}
use Rattle.regalloc2_analysis.specs.BranchDefs.Notes.{ReadsIn}
use Rattle.regalloc2_analysis.proofs.BranchDefsLemmas.UseNotes.{insts_more}
use Rattle.regalloc2_function.specs.Inside.MarkedNumbers.{Marks}
use Rattle.regalloc2_analysis.proofs.branch_defs.uses.note_all_reads.Goals as goal

pub loop-i-preserved : goal.loop-i-preserved
loop-i-preserved g c =
    let f : FunctionValue = g.F.Function.function c.args.f.now in
    record {
      within = c.loop-i.invariant.within;
      marked = insts_more f c.loop-i.i c.args.used.now c.loop-i.used c.note_reads.new.used c.loop-i.auto.used c.loop-i.invariant.marked
          (rw (c.inst_operands.ensures, c.new.ensures) at c.note_reads.ensures);
    }

pub returns : goal.returns
returns g c =
    let f : FunctionValue = g.F.Function.function c.args.f.now in
    let all : c.loop-i.i ≡ length f.insts = omega (arith, c.loop-i.invariant.within) in
    subst (λ (n : ℕ). Marks (ReadsIn f n) c.args.used.now c.loop-i.used) all c.loop-i.invariant.marked
