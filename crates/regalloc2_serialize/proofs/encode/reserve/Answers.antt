use Rattle.std.proofs.Common.{◌∙◌, Result, Ok, Err}
use Rattle.std.specs.Prelude.{OnOk}
use Rattle.regalloc2_serialize.proofs.encode.reserve.Goals as goal

always : {T E P : Type 0} (r : Result T E) → P → OnOk r P
always (Ok x) h = h
always (Err e) h = tt

pub returns : goal.returns
returns g c = always c.reserve-5.result (λ h. record {
  ranges = c.reserve.ensures.items ∙ h.ranges;
  preds = c.reserve-2.ensures.items ∙ h.preds;
  succs = c.reserve-3.ensures.items ∙ h.succs;
  params = c.reserve-4.ensures.items ∙ h.params;
  arguments = c.reserve-5.ensures.items ∙ h.arguments;
})
