use Rattle.std.proofs.Common.{◌<◌, length, refl, arith, rules}
use Rattle.regalloc2_function.specs.FunctionValue.{FunctionValue}
use Rattle.regalloc2_function.specs.Leaves.{succs_in}
use Rattle.regalloc2_tests.proofs.calls.order.Goals as goal

pub calculate-requires : goal.calculate-requires
calculate-requires g c =
    let f : FunctionValue = g.F.Function.function c.args.f.now in
    λ k. (
      (refl, tt),
      (
        omega (arith, c.num_blocks.ensures.limit),
        (
          λ b less. (let here : b < length f.blocks = omega (arith, less, c.num_blocks.ensures.count) in search rules),
          (succs_in f, λ b r less post. search rules),
        ),
      ),
    )
