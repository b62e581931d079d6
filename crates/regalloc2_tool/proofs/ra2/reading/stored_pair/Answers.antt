use Rattle.std.proofs.Common.{◌≡◌, Some, None, refl, sym}
use Rattle.serde_json.specs.Find.{at}
use Rattle.serde_json.specs.View.{view}
use Rattle.regalloc2_serialize.specs.JsonShape.{IsFunctionAt, output, output_data}
use Rattle.regalloc2_tool.proofs.Ra2Lemmas.TextReadings.{absent, taken}
use Rattle.regalloc2_tool.proofs.ra2.reading.stored_pair.Goals as goal

pub returns : goal.returns
returns g c =
    let zero : at 0 (view c.args.value.now) ≡ Some (view c.in_ok-first.first.now) = rw (sym c.get-2.ensures, c.in_ok-first.was) refl in
    let one : at 1 (view c.args.value.now) ≡ Some (view c.in_ok-second.second.now) = rw (sym c.get-3.ensures, c.in_ok-second.was) refl in
    let two : at 2 (view c.args.value.now) ≡ None = absent _ c.get.result _ c.is_some.result c.get.ensures c.is_some.ensures c.if-is_some.false in
    record {
      first = view c.in_ok-first.first.now;
      second = view c.in_ok-second.second.now;
      at_first = zero;
      at_second = one;
      two = two;
      function = taken (λ x. IsFunctionAt (view c.in_ok-first.first.now) x) c.from_value-2.result c.in_ok-function.function
          c.in_ok-function.ensures.value c.from_value-2.ensures.fields;
      output = taken (λ x. output (view c.in_ok-second.second.now) ≡ Some (output_data x)) c.from_value.result c.in_ok-output.output
          c.in_ok-output.ensures.value c.from_value.ensures.ok;
    }
