use Rattle.std.proofs.Common.{arith}
use Rattle.regalloc2_function.proofs.ErrorOnlyOutOfMemory.{on_ok_both}
use Rattle.regalloc2_function.proofs.cfg.CFGInfo.fill.Goals as goal

pub leave_order-requires : goal.leave_order-requires
leave_order-requires g c = c.requires.shape.successors

pub list_insts-requires-clause-some : goal.list_insts-requires-clause-some
list_insts-requires-clause-some g c = omega (arith, c.requires.shape.successors.0)

pub list_insts-requires-clause-follow : goal.list_insts-requires-clause-follow
list_insts-requires-clause-follow g c = c.requires.shape.follow

pub list_points-requires-clause-follow : goal.list_points-requires-clause-follow
list_points-requires-clause-follow g c = c.requires.shape.follow

pub returns : goal.returns
returns g c = on_ok_both c.list_points.result (λ entries exits. record {
  order = c.in_ok-leave_order.ensures.order;
  once = c.in_ok-leave_order.ensures.once;
  reached = c.in_ok-leave_order.ensures.reached;
  insts = c.in_ok-list_insts.ensures.insts;
  insn_block = c.in_ok-list_insts.ensures.blocks;
  block_entry = entries;
  block_exit = exits;
}) c.list_points.ensures.entries c.list_points.ensures.exits

pub list_insts-requires-clause-empty : goal.list_insts-requires-clause-empty
list_insts-requires-clause-empty g c = c.requires.empty.insn_block

pub list_points-requires-clause-no_entries : goal.list_points-requires-clause-no_entries
list_points-requires-clause-no_entries g c = c.requires.empty.block_entry

pub list_points-requires-clause-no_exits : goal.list_points-requires-clause-no_exits
list_points-requires-clause-no_exits g c = c.requires.empty.block_exit
