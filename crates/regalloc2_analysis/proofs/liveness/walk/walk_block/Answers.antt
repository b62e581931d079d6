use Rattle.std.proofs.lemmas.Result.{on_ok_weaker}
use Rattle.regalloc2_function.specs.FunctionValue.{FunctionValue}
use Rattle.regalloc2_analysis.proofs.LivenessLemmas.LiveAtBlockBegin.{walked_whole}
use Rattle.regalloc2_analysis.proofs.liveness.walk.walk_block.Goals as goal

pub returns : goal.returns
returns g c =
    let f : FunctionValue = g.F.Function.function c.args.f.now in
    on_ok_weaker c.ask_passed.result
    (λ passes. walked_whole f c.args.block c.args.written.now c.args.needs.now c.walk_insts.new.written c.walk_insts.new.needs c.ask_passed.new.needs
    c.requires.block (c.requires.framed.follow c.args.block c.requires.block).0 c.in_ok-walk_insts.ensures passes)
    c.ask_passed.ensures
