use Rattle.std.proofs.Common.{◌≡◌, sym, subst}
use Rattle.std.specs.Prelude.{IfSome}
use Rattle.serde_json.specs.View.{view}
use Rattle.regalloc2_tool.proofs.Ra2Lemmas.TextReadings.{taken, value_of}
use Rattle.regalloc2_tool.proofs.ra2.reading.value_from.Goals as goal

pub returns : goal.returns
returns g c =
    let whole = taken _ c.read_to_string.result c.in_ok-text.text c.in_ok-text.ensures.value c.read_to_string.ensures in
    value_of view (g.R.Read.remaining c.args.input) c.deref.result.now c.from_str.result c.ok-2.result
    (subst (λ s. IfSome (g.R.Read.remaining c.args.input) (λ xs. s ≡ xs)) (sym c.deref.ensures) whole) c.ok-2.ensures.value c.from_str.ensures.ok
