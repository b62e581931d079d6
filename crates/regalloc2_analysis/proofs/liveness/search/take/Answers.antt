use Rattle.std.specs.Prelude.{Some, None}
use Rattle.std.proofs.lemmas.List.Elements.{All-pop}
use Rattle.regalloc2_analysis.specs.Liveness.Search.{LeadsBack}
use Rattle.regalloc2_analysis.proofs.liveness.search.take.Goals as goal

pub returns-in-Some : goal.returns-in-Some
returns-in-Some g c f v near far =
    let taken = All-pop (LeadsBack f v) c.args.near.now.items c.pop.new.self.items (Some c.in-Some.block) c.in-Some.ensures.items near in
    (taken.0, far, taken.1)

pub returns-in-None : goal.returns-in-None
returns-in-None g c f v near far =
    let left = All-pop (LeadsBack f v) c.args.near.now.items c.pop.new.self.items None c.in-None.ensures.items near in
    let taken = All-pop (LeadsBack f v) c.args.far.now.items c.pop-in-None.new.self.items c.pop-in-None.result c.pop-in-None.ensures.items far in
    (left.0, taken.0, taken.1)
