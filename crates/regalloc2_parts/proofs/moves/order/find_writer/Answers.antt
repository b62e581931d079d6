use Rattle.std.proofs.Common.{refl, rules}
use Rattle.std.proofs.lemmas.List.Sorted.{answers_always}
use Rattle.regalloc2_names.specs.PlaceBits.{bits_of_place}
use Rattle.regalloc2_parts.proofs.Searching.{found_writer, no_writer, unwritten}
use Rattle.regalloc2_parts.proofs.moves.order.find_writer.Goals as goal

pub returns-then-is_outside : goal.returns-then-is_outside
returns-then-is_outside g c =
    unwritten c.args.moves.now c.requires.proper c.requires.sorted c.args.place c.requires.real (bits_of_place c.args.place) refl
    (c.if-is_outside.ensures.outside refl)

pub returns-in-Ok : goal.returns-in-Ok
returns-in-Ok g c =
    found_writer c.args.moves.now c.requires.proper c.requires.sorted c.args.place c.requires.real c.bits.result c.bits.ensures.bits c.in-Ok.found
    c.in-Ok.ensures.bound
    (c.in-Ok.ensures.position (λ m. bits_of_place m.1) (answers_always _ _ _ (λ f a r g called. search rules)))

pub returns-in-Err : goal.returns-in-Err
returns-in-Err g c =
    no_writer c.args.moves.now c.requires.proper c.requires.sorted c.args.place c.requires.real c.bits.result c.bits.ensures.bits c.in-Err.field-0
    c.in-Err.ensures.bound
    (c.in-Err.ensures.position (λ m. bits_of_place m.1) (answers_always _ _ _ (λ f a r g called. search rules)))
