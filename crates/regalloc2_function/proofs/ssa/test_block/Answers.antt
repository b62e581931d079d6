use Rattle.std.proofs.Common.{[], length, refl, sym, append-nil}
use Rattle.std.specs.Prelude.{All, flat_map}
use Rattle.std.proofs.lemmas.Result.{on_ok_weaker, IfErr-weaker, err_from_is_err_and}
use Rattle.std.proofs.lemmas.List.Elements.{All-append, All-nil}
use Rattle.regalloc2_index.specs.Range.{numbers_from, numbers_of}
use Rattle.regalloc2_function.specs.FunctionValue.{FunctionValue, BlockValue, block_at}
use Rattle.regalloc2_function.specs.Inside.Definitions.{IsUsable, NamesUnusable, inst_reads, passed_at, block_uses}
use Rattle.regalloc2_function.proofs.NotedInParts.{unusable_in_part}
use Rattle.regalloc2_function.proofs.ssa.test_block.Goals as goal

pub returns-in_err-test_reads-clause-err : goal.returns-in_err-test_reads-clause-err
returns-in_err-test_reads-clause-err g c =
    let f : FunctionValue = g.F.Function.function c.args.f.now in
    let b : BlockValue = block_at f c.args.block in
    let p = err_from_is_err_and c.from_residual.result c.from_residual.ensures.1 in
    rw (p.1, p.2) (unusable_in_part c.args.defined.now (block_uses f b) [] (flat_map (inst_reads f) (numbers_of b.range))
    (flat_map (passed_at b) (numbers_from 0 (length b.succs))) _ refl (All-nil (IsUsable c.args.defined.now))
    (rw c.block_insns.ensures at c.in_err-test_reads.ensures.err))

pub returns-clause-ok : goal.returns-clause-ok
returns-clause-ok g c =
    let f : FunctionValue = g.F.Function.function c.args.f.now in
    let b : BlockValue = block_at f c.args.block in
    let read : All (IsUsable c.args.defined.now) (flat_map (inst_reads f) (numbers_of b.range)) = rw c.block_insns.ensures at c.in_ok-test_reads.ensures.ok in
    on_ok_weaker c.test_passed.result (λ h. All-append (IsUsable c.args.defined.now) (flat_map (inst_reads f) (numbers_of b.range))
    (flat_map (passed_at b) (numbers_from 0 (length b.succs))) read h) c.test_passed.ensures.ok

pub returns-clause-err : goal.returns-clause-err
returns-clause-err g c =
    let f : FunctionValue = g.F.Function.function c.args.f.now in
    let b : BlockValue = block_at f c.args.block in
    let read : All (IsUsable c.args.defined.now) (flat_map (inst_reads f) (numbers_of b.range)) = rw c.block_insns.ensures at c.in_ok-test_reads.ensures.ok in
    IfErr-weaker c.test_passed.result _ (NamesUnusable c.args.defined.now (block_uses f b))
    (λ e h. unusable_in_part c.args.defined.now (block_uses f b) (flat_map (inst_reads f) (numbers_of b.range))
    (flat_map (passed_at b) (numbers_from 0 (length b.succs))) [] e (sym (append-nil (block_uses f b))) read h) c.test_passed.ensures.err
