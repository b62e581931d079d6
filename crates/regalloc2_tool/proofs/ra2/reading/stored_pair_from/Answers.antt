use Rattle.serde_json.specs.View.{view}
use Rattle.regalloc2_tool.proofs.Ra2Lemmas.TextReadings.{pair_of_text}
use Rattle.regalloc2_tool.proofs.ra2.reading.stored_pair_from.Goals as goal

pub returns : goal.returns
returns g c =
    pair_of_text (g.R.Read.remaining c.args.input) (view c.in_ok-value.value) c.stored_pair.result c.in_ok-value.ensures c.stored_pair.ensures
