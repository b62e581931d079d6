use Rattle.std.proofs.Common.{◌<◌, length, refl, arith}
use Rattle.regalloc2_function.specs.FunctionValue.{FunctionValue}
use Rattle.regalloc2_tests.proofs.single_calls.write_ranges.Goals as goal

pub write_live-requires : goal.write_live-requires
write_live-requires g c =
    let f : FunctionValue = g.F.Function.function c.args.f.now in
    let some : 0 < length f.blocks = omega (arith, c.num_blocks.ensures.count, c.if-num_blocks-eq0.false) in
    record {
      some = some;
      follow = c.in_ok-test_blocks.ensures.ok.0 refl;
      once = c.in_ok-test_definitions.ensures.once;
      uses = c.in_ok-test_definitions.ensures.uses;
    }

pub write_kept-requires : goal.write_kept-requires
write_kept-requires g c =
    let f : FunctionValue = g.F.Function.function c.args.f.now in
    let some : 0 < length f.blocks = omega (arith, c.num_blocks.ensures.count, c.if-num_blocks-eq0.false) in
    record {
      some = some;
      follow = c.in_ok-test_blocks.ensures.ok.0 refl;
      once = c.in_ok-test_definitions.ensures.once;
      uses = c.in_ok-test_definitions.ensures.uses;
    }
