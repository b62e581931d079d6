use Rattle.regalloc2_index.proofs.Bools.{false_is_not_true, false_refutes}
use Rattle.regalloc2_function.proofs.ListingLaws.{sorted_items}
use Rattle.regalloc2_function.proofs.OrderLaws.{sorted_edits, places_in_edits, places_in_items}
use Rattle.regalloc2_function.proofs.listing.Output.is_in_order.Goals as goal

pub returns-then-has_points_in_order : goal.returns-then-has_points_in_order
returns-then-has_points_in_order g c =
    let places = c.has_places_in_order.ensures.0 c.if-not-has_places_in_order.false in
    let points = c.has_points_in_order.ensures.0 c.if-has_points_in_order.true in
    let items = c.args.self.now.edits.items in (
      λ t. record {
        one_offset_each = places.0;
        offsets = places.1;
        no_more_than_operands = places.2;
        points_never_fall = sorted_edits items points;
        moves_name_places = places_in_edits items (c.has_places_in_moves.ensures.0 t);
      },
      λ h. c.has_places_in_moves.ensures.1 (places_in_items items h.moves_name_places),
    )

pub returns-else-has_points_in_order : goal.returns-else-has_points_in_order
returns-else-has_points_in_order g c =
    let items = c.args.self.now.edits.items in
    let no = false_refutes _ c.if-has_points_in_order.false c.has_points_in_order.ensures.1 in
    (λ t. absurd (false_is_not_true (rw c.if-has_points_in_order.false at t)), λ h. absurd (no (sorted_items items h.points_never_fall)))
