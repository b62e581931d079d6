use Rattle.std.proofs.Common.{rules}
use Rattle.regalloc2_parts.specs.Resolved.{moves_listed}
use Rattle.regalloc2_tests.proofs.Handing.{owes_in_turn}
use Rattle.regalloc2_tests.proofs.units.parts.resolver.computed.Goals as goal

pub compute-requires : goal.compute-requires
compute-requires g c = (
  search rules,
  (
    search rules,
    record {
      registers = (c.requires.registers _, (λ a t k. c.requires.registers t));
      slots = (c.requires.slots _, (λ a t k. c.requires.slots t));
      stack = c.requires.stack;
      runnable = c.requires.runnable;
      owes = owes_in_turn _ _ _ c.args.free.0 c.args.free.1 c.args.free.2 c.args.resolver.find_free_reg c.args.resolver.get_stackslot
          (moves_listed c.args.moves) c.args.resolver.borrowed_scratch_reg c.requires.first c.requires.second (c.all_serve.ensures.register c.if-not-all_serve.false)
          (c.all_serve.ensures.slots c.if-not-all_serve.false).0 (c.all_serve.ensures.slots c.if-not-all_serve.false).1
          (c.all_serve.ensures.apart c.if-not-all_serve.false) c.requires.tells;
    },
  ),
)

pub compute_by_ref-made-requires : goal.compute_by_ref-made-requires
compute_by_ref-made-requires g c = (
  search rules,
  (
    search rules,
    record {
      registers = (c.requires.registers _, (λ a t k. c.requires.registers t));
      slots = (c.requires.slots _, (λ a t k. c.requires.slots t));
      stack = c.requires.stack;
      runnable = c.requires.runnable;
      owes = owes_in_turn _ _ _ c.args.free.0 c.args.free.1 c.args.free.2 c.args.resolver.find_free_reg c.args.resolver.get_stackslot
          (moves_listed c.args.moves) c.args.resolver.borrowed_scratch_reg c.requires.first c.requires.second (c.all_serve.ensures.register c.if-not-all_serve.false)
          (c.all_serve.ensures.slots c.if-not-all_serve.false).0 (c.all_serve.ensures.slots c.if-not-all_serve.false).1
          (c.all_serve.ensures.apart c.if-not-all_serve.false) c.requires.tells;
    },
  ),
)
