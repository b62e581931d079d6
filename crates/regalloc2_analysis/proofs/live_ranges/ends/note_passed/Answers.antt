use Rattle.std.proofs.Common.{ℕ, ◌≡◌, List, length, refl, sym, subst, arith}
use Rattle.regalloc2_function.specs.FunctionValue.{FunctionValue, block_at}
use Rattle.regalloc2_analysis.specs.LiveRanges.LastUses.{NotesPassed, end_at}
use Rattle.regalloc2_analysis.specs.LiveRanges.Entries.{HasEntry, spread}
use Rattle.regalloc2_analysis.proofs.LiveRangesLemmas.UsesNoted.{passed_more}
use Rattle.regalloc2_analysis.proofs.live_ranges.ends.note_passed.Goals as goal

pub loop-succ-preserved : goal.loop-succ-preserved
loop-succ-preserved g c n has =
    let f : FunctionValue = g.F.Function.function c.args.f.now in
    let indexes : List ℕ = c.args.indexes.now in
    let one : HasEntry indexes n (length c.loop-succ.ends) = subst (HasEntry indexes n) c.note_arguments.auto.ends has in
    passed_more f c.args.block c.args.inst c.loop-succ.succ n c.branch_blockparams.result.now (end_at (spread indexes c.args.ends.now) n)
    (end_at (spread indexes c.loop-succ.ends) n) (end_at (spread indexes c.note_arguments.new.ends) n) c.branch_blockparams.ensures
    (c.loop-succ.invariant n one) (c.note_arguments.ensures n one)

pub returns : goal.returns
returns g c n has =
    let f : FunctionValue = g.F.Function.function c.args.f.now in
    let indexes : List ℕ = c.args.indexes.now in
    let long : length c.block_succs-succ-end.result.now ≡ length (block_at f c.args.block).succs = rw c.block_succs-succ-end.ensures refl in
    let all : c.loop-succ.succ ≡ length (block_at f c.args.block).succs = omega (arith, c.loop-succ.auto.succ-end, c.loop-succ-test.false, long) in
    subst (λ (m : ℕ). NotesPassed f c.args.block c.args.inst m n (end_at (spread indexes c.args.ends.now) n) (end_at (spread indexes c.loop-succ.ends) n)) all
    (c.loop-succ.invariant n (subst (HasEntry indexes n) (sym c.loop-succ.auto.ends) has))
