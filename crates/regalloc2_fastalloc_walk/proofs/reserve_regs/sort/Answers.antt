use Rattle.std.proofs.Common.{ℕ, ◌≡◌, ◌+◌, ◌-◌, ◌<◌, List, length, ap, subst, arith}
use Rattle.std.specs.Prelude.{not}
use Rattle.regalloc2_names.specs.Operand.{OperandValue}
use Rattle.regalloc2_fastalloc_state.proofs.ValidateLemmas.OperandReads.{read_operand}
use Rattle.regalloc2_fastalloc_walk.proofs.OperandsSorted.{Sorting, none_limited, sorted_all, sorting_more, sorting_none}
use Rattle.regalloc2_fastalloc_walk.proofs.reserve_regs.sort.Goals as goal

pub loop-k-init : goal.loop-k-init
loop-k-init c = sorting_none c.args.operands.now c.args.inst_regs.now c.none-masks.result c.empty-union.result c.requires c.none-masks.ensures
    c.empty-union.ensures

pub loop-k-preserved : goal.loop-k-preserved
loop-k-preserved c =
    let ops : List OperandValue = c.args.operands.now in
    let k : ℕ = c.loop-k.k - 1 in
    let back : c.loop-k.k ≡ k + 1 = omega arith in
    let inside : k < length ops = (let i = c.loop-k.invariant.inside in omega (arith, i)) in
    sorting_more ops k c.args.inst_regs.now c.loop-k.inst_regs c.count_operand.new.self c.loop-k.masks c.before-masks.result c.loop-k.union c.with-union.result
    c.index-operands-k.result
    (subst (λ (n : ℕ). Sorting ops n c.args.inst_regs.now c.loop-k.inst_regs c.loop-k.masks c.loop-k.union) back c.loop-k.invariant)
    (read_operand ops k c.index-operands-k.result inside c.index-operands-k.is) c.count_operand.ensures.sets c.count_operand.ensures.awaited
    c.before-masks.ensures c.with-union.ensures

pub returns-then-not-may_have_limit-clause-sorted : goal.returns-then-not-may_have_limit-clause-sorted
returns-then-not-may_have_limit-clause-sorted c =
    let all = none_limited c.args.operands.now c.loop-k.k c.args.inst_regs.now c.loop-k.inst_regs c.loop-k.masks c.loop-k.union (omega arith)
    c.loop-k.invariant (λ xs is. c.may_have_limit.ensures xs is c.if-not-may_have_limit.true) in
    sorted_all c.args.operands.now c.loop-k.k c.args.inst_regs.now c.loop-k.inst_regs c.loop-k.masks c.loop-k.union c.any_fixed-any_fixed.result _
    (omega arith) c.loop-k.invariant c.any_fixed-any_fixed.ensures (λ yes. all, λ taken. ap not c.if-not-may_have_limit.true)

pub returns-else-not-may_have_limit-clause-sorted : goal.returns-else-not-may_have_limit-clause-sorted
returns-else-not-may_have_limit-clause-sorted c =
    sorted_all c.args.operands.now c.loop-k.k c.args.inst_regs.now c.loop-k.inst_regs c.loop-k.masks c.loop-k.union c.any_fixed-any_fixed.result
    c.all_unlimited-unlimited.result (omega arith) c.loop-k.invariant c.any_fixed-any_fixed.ensures c.all_unlimited-unlimited.ensures.taken
