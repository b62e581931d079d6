use Rattle.std.proofs.lemmas.Result.{IfOk-from_err}
use Rattle.std.proofs.Common.{arith}
use Rattle.std.proofs.lemmas.List.{take_all}
use Rattle.std.proofs.lemmas.List.Elements.{All-push}
use Rattle.regalloc2_names.specs.PlaceBits.{IsPlaceBits, place_of_bits}
use Rattle.regalloc2_function.proofs.Copies.{image-more}
use Rattle.regalloc2_function.proofs.serialize.words_of_places.Goals as goal

pub loop-place-preserved : goal.loop-place-preserved
loop-place-preserved g c =
    let done = c.loop-place.words.items in
    let one = c.bits.result in
    record {
      same = rw c.in_ok-push.ensures.items (image-more place_of_bits done c.args.places.now c.loop-place.place-index one c.place-item.result
          c.loop-place-test.true c.place-item.is c.bits.ensures.place c.loop-place.invariant.same);
      names = rw c.in_ok-push.ensures.items (All-push IsPlaceBits done one c.loop-place.invariant.names c.bits.ensures.word);
    }

pub returns-clause-places : goal.returns-clause-places
returns-clause-places g c =
    rw (take_all c.loop-place.place-index c.args.places.now (omega (arith, c.loop-place-test.false))) at c.loop-place.invariant.same

pub returns-clause-names : goal.returns-clause-names
returns-clause-names g c = c.loop-place.invariant.names

pub returns-in_err-words : goal.returns-in_err-words
returns-in_err-words g c = record {
  places = IfOk-from_err c.from_residual.result _ c.from_residual.ensures.0;
  names = IfOk-from_err c.from_residual.result _ c.from_residual.ensures.0;
}

pub returns-in_err-push : goal.returns-in_err-push
returns-in_err-push g c = record {
  places = IfOk-from_err c.from_residual-in_err-push.result _ c.from_residual-in_err-push.ensures.0;
  names = IfOk-from_err c.from_residual-in_err-push.result _ c.from_residual-in_err-push.ensures.0;
}
