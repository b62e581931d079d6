use Rattle.std.proofs.Common.{◌≡◌, ◌<◌, ◌-◌, arith, ap, length, slice_index_or, sym}
use Rattle.std.proofs.lemmas.Bool.{false≢true, ltb-true, ltb-false}
use Rattle.std.proofs.lemmas.List.{get_or_default}
use Rattle.regalloc2_names.specs.Place.{Place}
use Rattle.regalloc2_names.specs.PlaceBits.{bits_of_place}
use Rattle.regalloc2_parts.proofs.moves.order.is_outside.Goals as goal

pub returns-else-word-bits-clause-outside : goal.returns-else-word-bits-clause-outside
returns-else-word-bits-clause-outside g c = λ above j d inside e.
    let ms = c.args.moves.now in
    let end = c.index-moves-end.result in
    let last : bits_of_place (slice_index_or ms (length ms - 1) end).1 ≡ bits_of_place (slice_index_or ms (length ms - 1) d).1 =
    ap (λ (m : Place × Place × g.row.T.Denot). bits_of_place m.1) (get_or_default ms (length ms - 1) end d (omega (arith, inside))) in
    let greatest : c.bits-else-word-bits.result ≡ bits_of_place (slice_index_or ms (length ms - 1) end).1 = c.bits-else-word-bits.ensures.bits in
    let rise = c.requires j (length ms - 1) d (omega (arith, inside)) (omega (arith, inside)) in
    let less = ltb-true c.bits-else-word-bits.result c.bits-word.result above in
    omega (arith, last, greatest, rise, less, e, c.bits-word.ensures.bits)

pub returns-else-word-bits-clause-within : goal.returns-else-word-bits-clause-within
returns-else-word-bits-clause-within g c = λ f.
    let ms = c.args.moves.now in
    let first = c.index-moves-0.result in
    let end = c.index-moves-end.result in
    let some : 0 < length ms = omega (arith, c.if-end-eq0.false) in (
      some,
      λ d.
          let least : bits_of_place (slice_index_or ms 0 first).1 ≡ bits_of_place (slice_index_or ms 0 d).1 =
          ap (λ (m : Place × Place × g.row.T.Denot). bits_of_place m.1) (get_or_default ms 0 first d some) in
          let last : bits_of_place (slice_index_or ms (length ms - 1) end).1 ≡ bits_of_place (slice_index_or ms (length ms - 1) d).1 =
          ap (λ (m : Place × Place × g.row.T.Denot). bits_of_place m.1) (get_or_default ms (length ms - 1) end d (omega arith)) in
          let over = ltb-false c.bits-else-word-bits.result c.bits-word.result f in (
            omega (arith, least, c.if-word-bits.false, c.bits.ensures.bits, c.bits-word.ensures.bits),
            omega (arith, last, over, c.bits-else-word-bits.ensures.bits, c.bits-word.ensures.bits),
          ),
    )

pub returns-then-word-bits-clause-outside : goal.returns-then-word-bits-clause-outside
returns-then-word-bits-clause-outside g c = λ t j d inside e.
    let ms = c.args.moves.now in
    let first = c.index-moves-0.result in
    let least : bits_of_place (slice_index_or ms 0 first).1 ≡ bits_of_place (slice_index_or ms 0 d).1 =
    ap (λ (m : Place × Place × g.row.T.Denot). bits_of_place m.1) (get_or_default ms 0 first d (omega (arith, inside))) in
    let rise = c.requires 0 j d (omega arith) inside in
    omega (arith, least, rise, c.if-word-bits.true, c.bits.ensures.bits, c.bits-word.ensures.bits, e)

pub returns-then-end-eq0-clause-outside : goal.returns-then-end-eq0-clause-outside
returns-then-end-eq0-clause-outside g c = λ t j d inside e. absurd (omega (arith, inside, c.if-end-eq0.true))

pub returns-then-end-eq0-clause-within : goal.returns-then-end-eq0-clause-within
returns-then-end-eq0-clause-within g c = λ f. absurd (false≢true (sym f))
