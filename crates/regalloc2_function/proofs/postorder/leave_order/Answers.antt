use Rattle.std.proofs.Common.{ℕ, ◌≡◌, ◌<◌, length, refl, sym, subst, arith, rules}
use Rattle.regalloc2_function.specs.FunctionValue.{FunctionValue}
use Rattle.regalloc2_function.specs.WellFormed.{SuccessorsAreBlocks}
use Rattle.regalloc2_function.specs.Leaves.{succs_in}
use Rattle.regalloc2_function.specs.Listed.{AreBlocks}
use Rattle.regalloc2_function.proofs.NamedBlocks.{function_blocks}
use Rattle.regalloc2_function.proofs.LeavesReached.{leaves_once, leaves_reached}
use Rattle.regalloc2_function.proofs.postorder.leave_order.Goals as goal

-- the function's blocks, by what the calls return
blocks_of : (f : FunctionValue) (num entry : ℕ) → num ≡ length f.blocks → entry ≡ f.entry → SuccessorsAreBlocks f → AreBlocks (succs_in f) num entry
blocks_of f num entry n e h = subst (λ m. AreBlocks (succs_in f) m entry) (sym n)
    (subst (λ m. AreBlocks (succs_in f) (length f.blocks) m) (sym e) (function_blocks f h))

pub walk-requires : goal.walk-requires
walk-requires g c =
    let f : FunctionValue = g.F.Function.function c.args.f.now in
    let long : length c.as_mut_slice.result.now ≡ length f.blocks = omega (
      arith,
      c.as_mut_slice.ensures.len,
      c.in_ok-resize.ensures.len,
      c.num_blocks.ensures.count,
    ) in
    λ k. (
      (refl, tt),
      record {
        callable = λ b less. let here : b < length f.blocks = omega (arith, less, long) in search rules;
        same = (
          succs_in f,
          (λ b r less post. search rules),
          blocks_of f (length c.as_mut_slice.result.now) c.entry_block-entry.result long c.entry_block-entry.ensures c.requires,
        );
        unvisited = search rules;
        empty = search rules;
      },
    )

pub returns-in-Ok-clause-order : goal.returns-in-Ok-clause-order
returns-in-Ok-clause-order g c =
    let f : FunctionValue = g.F.Function.function c.args.f.now in
    let long : length c.as_mut_slice.result.now ≡ length f.blocks = omega (
      arith,
      c.as_mut_slice.ensures.len,
      c.in_ok-resize.ensures.len,
      c.num_blocks.ensures.count,
    ) in
    rw (← c.entry_block-entry.ensures) (c.in-Ok.ensures (succs_in f) (λ b r less post. search rules)
    (blocks_of f (length c.as_mut_slice.result.now) c.entry_block-entry.result long c.entry_block-entry.ensures c.requires))

pub returns-in-Ok-clause-once : goal.returns-in-Ok-clause-once
returns-in-Ok-clause-once g c = leaves_once (succs_in (g.F.Function.function c.args.f.now)) (returns-in-Ok-clause-order g c)

pub returns-in-Ok-clause-reached : goal.returns-in-Ok-clause-reached
returns-in-Ok-clause-reached g c = leaves_reached (succs_in (g.F.Function.function c.args.f.now)) (g.F.Function.function c.args.f.now).entry
    c.walk.new.out.items (returns-in-Ok-clause-order g c)
