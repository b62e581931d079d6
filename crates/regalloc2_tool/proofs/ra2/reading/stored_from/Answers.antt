use Rattle.serde_json.specs.View.{view}
use Rattle.regalloc2_tool.proofs.Ra2Lemmas.TextReadings.{function_of_text}
use Rattle.regalloc2_tool.proofs.ra2.reading.stored_from.Goals as goal

pub returns : goal.returns
returns g c =
    function_of_text (g.R.Read.remaining c.args.input) (view c.in_ok-value.value) c.from_value.result c.ok.result c.in_ok-value.ensures c.ok.ensures.value
    c.from_value.ensures.fields
