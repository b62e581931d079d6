use Rattle.std.proofs.Common.{map, refl, ap, arith}
use Rattle.regalloc2.specs.Views.{edit_of}
use Rattle.regalloc2_c.proofs.Parts.{moves_unnamed, output_made, places_unnamed}
use Rattle.regalloc2_c.proofs.judging.output_from_parts.Goals as goal

pub returns-in-Err-clause-err : goal.returns-in-Err-clause-err
returns-in-Err-clause-err c =
    let p = c.args.parts in
    moves_unnamed c.args.alloc p.num_spillslots p.moves.now p.places.now p.offsets.now c.in-Err.failure (omega (arith, c.ranges.parts))
    (omega (arith, c.ranges.parts)) (omega (arith, c.ranges.parts)) c.in-Err.ensures.err

pub returns-in-Err-places_from-clause-err : goal.returns-in-Err-places_from-clause-err
returns-in-Err-places_from-clause-err c =
    let p = c.args.parts in
    places_unnamed c.args.alloc p.num_spillslots p.moves.now p.places.now p.offsets.now (map edit_of c.in-Ok.edits.items) c.in-Err-places_from.failure
    (omega (arith, c.ranges.parts)) (omega (arith, c.ranges.parts)) (omega (arith, c.ranges.parts)) c.in-Ok.ensures.ok c.in-Err-places_from.ensures.err

pub returns-in-Ok-copy_of-clause-ok : goal.returns-in-Ok-copy_of-clause-ok
returns-in-Ok-copy_of-clause-ok c =
    let p = c.args.parts in
    output_made c.args.alloc p.num_spillslots p.moves.now p.places.now p.offsets.now _ (omega (arith, c.ranges.parts)) (omega (arith, c.ranges.parts))
    (omega (arith, c.ranges.parts)) c.in-Ok.ensures.ok c.in-Ok-places_from.ensures.names refl c.in-Ok-places_from.ensures.places c.in-Ok-copy_of.ensures.ok
    (ap (map (λ d. record { label = d.0; start = d.1; end = d.2; place = d.3 })) c.new.ensures.items)
