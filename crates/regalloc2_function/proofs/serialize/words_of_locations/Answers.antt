use Rattle.std.proofs.lemmas.Result.{IfOk-from_err}
use Rattle.std.proofs.Common.{◌≡◌, ℕ, refl, arith}
use Rattle.std.proofs.lemmas.List.{take_all}
use Rattle.std.proofs.lemmas.List.Elements.{All-push}
use Rattle.regalloc2_function.specs.Stored.{NamesLocation, location_of, stored_location}
use Rattle.regalloc2_function.proofs.Copies.{map-more}
use Rattle.regalloc2_function.proofs.serialize.words_of_locations.Goals as goal

pub loop-location-preserved : goal.loop-location-preserved
loop-location-preserved g c =
    let done = c.loop-location.words.items in
    let location = c.location-item.result in
    let one : ℕ × ℕ × ℕ × ℕ = (location.0, c.to_index.result, c.to_index-in-loop-location.result, c.bits-place.result) in
    let same : stored_location one ≡ location_of location =
    rw (c.to_index.ensures.index, c.to_index-in-loop-location.ensures.index, c.bits-place.ensures.place) refl in
    record {
      same = rw c.in_ok-push.ensures.items (map-more stored_location location_of done c.args.locations.now c.loop-location.location-index one location
          c.loop-location-test.true c.location-item.is same c.loop-location.invariant.same);
      names = rw c.in_ok-push.ensures.items (All-push NamesLocation done one c.loop-location.invariant.names (
        rw c.to_index.ensures.index c.to_index.ensures.point,
        rw c.to_index-in-loop-location.ensures.index c.to_index-in-loop-location.ensures.point,
        c.bits-place.ensures.word,
      ));
    }

pub returns-clause-locations : goal.returns-clause-locations
returns-clause-locations g c =
    rw (take_all c.loop-location.location-index c.args.locations.now (omega (arith, c.loop-location-test.false))) at c.loop-location.invariant.same

pub returns-clause-names : goal.returns-clause-names
returns-clause-names g c = c.loop-location.invariant.names

pub returns-in_err-words : goal.returns-in_err-words
returns-in_err-words g c = record {
  locations = IfOk-from_err c.from_residual.result _ c.from_residual.ensures.0;
  names = IfOk-from_err c.from_residual.result _ c.from_residual.ensures.0;
}

pub returns-in_err-push : goal.returns-in_err-push
returns-in_err-push g c = record {
  locations = IfOk-from_err c.from_residual-in_err-push.result _ c.from_residual-in_err-push.ensures.0;
  names = IfOk-from_err c.from_residual-in_err-push.result _ c.from_residual-in_err-push.ensures.0;
}
