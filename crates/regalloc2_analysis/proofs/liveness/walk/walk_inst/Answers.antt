use Rattle.std.proofs.lemmas.Result.{on_ok_weaker}
use Rattle.regalloc2_analysis.proofs.LivenessLemmas.WalkSteps.{asks_twice}
use Rattle.regalloc2_analysis.proofs.liveness.walk.walk_inst.Goals as goal

pub returns-clause-needs : goal.returns-clause-needs
returns-clause-needs g c =
    on_ok_weaker c.ask_reads-2.result
    (λ late. asks_twice c.args.operands.now c.args.written.now c.write_definitions.new.written c.args.block c.args.needs.now c.ask_reads.new.needs
    c.ask_reads-2.new.needs c.in_ok-write_definitions.ensures c.in_ok-ask_reads.ensures late)
    c.ask_reads-2.ensures
