use Rattle.std.proofs.Common.{◌≡◌, ◌+◌, ◌-◌, ◌<◌, length, refl, ap, arith}
use Rattle.std.specs.Prelude.{flat_map}
use Rattle.std.proofs.lemmas.List.Elements.{All-append, All-nil, All-same}
use Rattle.std.proofs.lemmas.Result.{err_from_is_err_and}
use Rattle.regalloc2_index.specs.Range.{numbers_from}
use Rattle.regalloc2_function.specs.FunctionValue.{BlockValue, block_at, last_of}
use Rattle.regalloc2_function.specs.Inside.Definitions.{IsUsable, passed_at}
use Rattle.regalloc2_function.proofs.ListsInParts.{numbers_split, numbers_more}
use Rattle.regalloc2_function.proofs.NotedInParts.{unusable_in_part}
use Rattle.regalloc2_function.proofs.ssa.test_passed.Goals as goal

pub test_arguments-requires : goal.test_arguments-requires
test_arguments-requires g c =
    let b : BlockValue = block_at (g.F.Function.function c.args.f.now) c.args.block in
    let last : c.last-last.result ≡ last_of b = rw (c.last-last.ensures, c.block_insns.ensures) refl in
    let limit = (g.met.F.Function.limited c.args.f.now).insts in
    omega (arith, last, c.requires.nonempty, c.requires.within, limit)

pub returns-in_err-test_arguments-clause-err : goal.returns-in_err-test_arguments-clause-err
returns-in_err-test_arguments-clause-err g c =
    let b : BlockValue = block_at (g.F.Function.function c.args.f.now) c.args.block in
    let last : c.last-last.result ≡ last_of b = rw (c.last-last.ensures, c.block_insns.ensures) refl in
    let at : 0 + c.loop-k.k ≡ c.loop-k.k = omega arith in
    let less : c.loop-k.k < length b.succs = rw (← c.block_succs-k-end.ensures) (omega arith) in
    let p = err_from_is_err_and c.from_residual.result c.from_residual.ensures.1 in
    rw (p.1, p.2) (unusable_in_part c.args.defined.now (flat_map (passed_at b) (numbers_from 0 (length b.succs)))
    (flat_map (passed_at b) (numbers_from 0 c.loop-k.k)) (passed_at b (0 + c.loop-k.k))
    (flat_map (passed_at b) (numbers_from (0 + c.loop-k.k + 1) (length b.succs - c.loop-k.k - 1))) _
    (numbers_split (passed_at b) 0 (length b.succs) c.loop-k.k less)
    c.loop-k.invariant (rw at (rw (c.branch_blockparams.ensures, last) at c.in_err-test_arguments.ensures.err)))

pub loop-k-preserved : goal.loop-k-preserved
loop-k-preserved g c =
    let b : BlockValue = block_at (g.F.Function.function c.args.f.now) c.args.block in
    let last : c.last-last.result ≡ last_of b = rw (c.last-last.ensures, c.block_insns.ensures) refl in
    let at : 0 + c.loop-k.k ≡ c.loop-k.k = omega arith in
    All-same (IsUsable c.args.defined.now) _ _ (numbers_more (passed_at b) 0 c.loop-k.k)
    (All-append (IsUsable c.args.defined.now) (flat_map (passed_at b) (numbers_from 0 c.loop-k.k)) (passed_at b (0 + c.loop-k.k)) c.loop-k.invariant
    (rw at (rw (c.branch_blockparams.ensures, last) at c.in_ok-test_arguments.ensures.ok)))

pub returns-clause-ok : goal.returns-clause-ok
returns-clause-ok g c =
    let b : BlockValue = block_at (g.F.Function.function c.args.f.now) c.args.block in
    let all : length b.succs ≡ c.loop-k.k = rw (← c.block_succs-k-end.ensures) (omega arith) in
    All-same (IsUsable c.args.defined.now) _ _ (ap (λ n. flat_map (passed_at b) (numbers_from 0 n)) all) c.loop-k.invariant

pub last-last-requires : goal.last-last-requires
last-last-requires g c = rw c.block_insns.ensures c.requires.nonempty

pub loop-k-init : goal.loop-k-init
loop-k-init g c = All-nil _

pub branch_blockparams-requires-clause-last : goal.branch_blockparams-requires-clause-last
branch_blockparams-requires-clause-last g c =
    let b : BlockValue = block_at (g.F.Function.function c.args.f.now) c.args.block in
    let last : c.last-last.result ≡ last_of b = rw (c.last-last.ensures, c.block_insns.ensures) refl in
    omega (arith, last, c.requires.nonempty)

pub branch_blockparams-requires-clause-nonempty : goal.branch_blockparams-requires-clause-nonempty
branch_blockparams-requires-clause-nonempty g c =
    let b : BlockValue = block_at (g.F.Function.function c.args.f.now) c.args.block in
    let last : c.last-last.result ≡ last_of b = rw (c.last-last.ensures, c.block_insns.ensures) refl in
    omega (arith, last, c.requires.nonempty)

pub branch_blockparams-requires-clause-position : goal.branch_blockparams-requires-clause-position
branch_blockparams-requires-clause-position g c = rw (← c.block_succs-k-end.ensures) (omega arith)
