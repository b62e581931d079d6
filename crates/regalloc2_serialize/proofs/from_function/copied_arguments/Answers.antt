use Rattle.std.proofs.Common.{◌≡◌, ◌∙◌, ◌∷◌, [], ◌++◌, ◌+◌, List, get_or, sym, subst, map, length, ap, arith, refl}
use Rattle.std.specs.List.{range_with_len}
use Rattle.regalloc2_names.specs.Register.{VirtualRegister}
use Rattle.regalloc2_function.specs.FunctionValue.{block_at}
use Rattle.regalloc2_serialize.proofs.FilledLists.{map-next}
use Rattle.regalloc2_serialize.proofs.from_function.copied_arguments.Goals as goal

pub loop-k-preserved : goal.loop-k-preserved
loop-k-preserved g c =
    let args : List (List VirtualRegister) = (block_at (g.F.Function.function c.args.f.now) c.args.block).arguments in
    let e : c.push.new.self.items ≡ c.loop-k.arguments.items ++ c.in_ok-passed.passed ∷ [] = c.in_ok-push.ensures.items in
    let here : c.in_ok-passed.passed.items ≡ get_or args c.loop-k.k [] =
    c.in_ok-passed.ensures.items_if_clones_equal (λ x y h. h) ∙ c.branch_blockparams.ensures in
    subst (λ xs. map (λ v. v.items) xs ≡ map (λ k. get_or args k []) (range_with_len 0 (c.loop-k.k + 1))) (sym e)
    (map-next (λ v. v.items) (λ k. get_or args k []) c.loop-k.arguments.items c.loop-k.k c.in_ok-passed.passed here c.loop-k.invariant)

pub branch_blockparams-requires-clause-block : goal.branch_blockparams-requires-clause-block
branch_blockparams-requires-clause-block g c = c.requires.block

pub loop-k-init : goal.loop-k-init
loop-k-init g c = rw c.in_ok-arguments.ensures.items refl

pub returns : goal.returns
returns g c =
    let e : c.loop-k.k ≡ length (block_at (g.F.Function.function c.args.f.now) c.args.block).succs =
    omega (arith, ap length c.block_succs-count.ensures, c.loop-k-test.false, c.loop-k.auto.k-end) in
    rw e at c.loop-k.invariant

pub block_insns-requires : goal.block_insns-requires
block_insns-requires g c = c.requires.block

pub last-last-requires : goal.last-last-requires
last-last-requires g c = rw c.block_insns.ensures c.requires.nonempty

pub block_succs-count-requires : goal.block_succs-count-requires
block_succs-count-requires g c = c.requires.block

pub branch_blockparams-requires-clause-last : goal.branch_blockparams-requires-clause-last
branch_blockparams-requires-clause-last g c = let last = rw c.block_insns.ensures at c.last-last.ensures in omega (arith, last, c.requires.nonempty)

pub branch_blockparams-requires-clause-nonempty : goal.branch_blockparams-requires-clause-nonempty
branch_blockparams-requires-clause-nonempty g c = let last = rw c.block_insns.ensures at c.last-last.ensures in omega (arith, last, c.requires.nonempty)

pub branch_blockparams-requires-clause-position : goal.branch_blockparams-requires-clause-position
branch_blockparams-requires-clause-position g c = rw c.block_succs-count.ensures at c.loop-k-test.true
