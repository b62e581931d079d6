use Rattle.std.proofs.Common.{◌≡◌, ◌∷◌, [], false, true, inl, inr, refl, arith, get_or, take}
use Rattle.std.proofs.lemmas.Bool.{false≢true}
use Rattle.std.proofs.lemmas.List.{take_all, take_more, map-append}
use Rattle.std.proofs.lemmas.List.Elements.{All-more}
use Rattle.regalloc2.specs.PlaceBits.{IsPlaceBits, place_of_bits}
use Rattle.regalloc2_c.proofs.judging.places_from.Goals as goal

pub returns-in_default : goal.returns-in_default
returns-in_default c = record { places = tt; names = tt; err = inl refl }

pub returns-in_default-push : goal.returns-in_default-push
returns-in_default-push c = record { places = tt; names = tt; err = inl refl }

pub returns-then-not-is_bits : goal.returns-then-not-is_bits
returns-then-not-is_bits c = record {
  places = tt;
  names = tt;
  err = inr (
    refl,
    λ all. let e : false ≡ true = c.if-not-is_bits.ensures.1 (all c.loop-bits.bits-index _ c.loop-bits-test.true) in absurd (false≢true e),
  );
}

pub loop-bits-preserved : goal.loop-bits-preserved
loop-bits-preserved c =
    let words = c.args.words.now in
    let k = c.loop-bits.bits-index in
    record {
      places = rw (
        c.in-Ok-push.ensures.items,
        take_more words k 0 c.loop-bits-test.true,
        map-append place_of_bits (take k words) (get_or words k 0 ∷ []),
        c.loop-bits.invariant.places,
        c.from_bits.ensures.place,
      ) refl;
      names = All-more IsPlaceBits words k _ c.loop-bits-test.true c.loop-bits.invariant.names (c.if-not-is_bits.ensures.0 refl);
    }

pub returns-clause-places : goal.returns-clause-places
returns-clause-places c = rw (take_all c.loop-bits.bits-index c.args.words.now (omega (arith, c.loop-bits-test.false))) at c.loop-bits.invariant.places

pub returns-clause-names : goal.returns-clause-names
returns-clause-names c = rw (take_all c.loop-bits.bits-index c.args.words.now (omega (arith, c.loop-bits-test.false))) at c.loop-bits.invariant.names
