use Rattle.std.proofs.Common.{◌≡◌, ◌<◌, ℕ, List, length, slice_index, ◌∙◌, ap, sym, subst}
use Rattle.std.specs.Prelude.{All}
use Rattle.regalloc2_names.specs.Register.{VirtualRegister}
use Rattle.regalloc2_function.specs.FunctionValue.{FunctionValue, block_at}
use Rattle.regalloc2_checker.specs.TableFacts.{facts_now, IsListedVReg}
use Rattle.regalloc2_checker.proofs.BlocksInRange.{index_is}
use Rattle.regalloc2_checker.proofs.TransferFollowsFacts.{over_run}
use Rattle.regalloc2_checker.proofs.edges.transfer_edge.Goals as goal

pub take_arguments-requires-clause-params : goal.take_arguments-requires-clause-params
take_arguments-requires-clause-params g c =
    let f : FunctionValue = g.F.Function.function c.args.f.now in
    let less : c.args.position < length c.block_succs.result.now = rw c.block_succs.ensures c.requires.position in
    let target : c.index-block_succs-position.result ≡ slice_index (block_at f c.args.block).succs c.args.position =
    index_is (block_at f c.args.block).succs c.block_succs.result.now c.args.position c.index-block_succs-position.result less c.index-block_succs-position.is
    c.block_succs.ensures in
    subst (λ (vs : List VirtualRegister). All (IsListedVReg c.args.values.now.vregs) vs) (sym c.block_params-params.ensures)
    (subst (λ (n : ℕ). All (IsListedVReg c.args.values.now.vregs) (block_at f n).params) (sym target)
    (c.requires.named.params (slice_index (block_at f c.args.block).succs c.args.position)
    (c.requires.framed.successors.1 c.args.block c.requires.block c.args.position 0 c.requires.position)))

pub take_arguments-requires-clause-arguments : goal.take_arguments-requires-clause-arguments
take_arguments-requires-clause-arguments g c =
    subst (λ (vs : List VirtualRegister). All (IsListedVReg c.args.values.now.vregs) vs) (sym c.branch_blockparams-arguments.ensures)
    (c.requires.named.arguments c.args.block c.args.position c.requires.block c.requires.position)

pub returns-clause-now : goal.returns-clause-now
returns-clause-now g c =
    let f : FunctionValue = g.F.Function.function c.args.f.now in
    let less : c.args.position < length c.block_succs.result.now = rw c.block_succs.ensures c.requires.position in
    let target : c.index-block_succs-position.result ≡ slice_index (block_at f c.args.block).succs c.args.position =
    index_is (block_at f c.args.block).succs c.block_succs.result.now c.args.position c.index-block_succs-position.result less c.index-block_succs-position.is
    c.block_succs.ensures in
    over_run f c.args.block c.args.position (facts_now c.args.values.now) (facts_now c.take_arguments.new.values) c.block_params-params.result.now
    c.branch_blockparams-arguments.result.now (c.block_params-params.ensures ∙ ap (λ (t : ℕ). (block_at f t).params) target)
    c.branch_blockparams-arguments.ensures c.in_ok-take_arguments.ensures.now
