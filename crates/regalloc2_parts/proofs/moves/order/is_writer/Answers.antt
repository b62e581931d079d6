use Rattle.std.proofs.Common.{◌<◌, arith, length}
use Rattle.std.proofs.lemmas.Bool.{ltb-true}
use Rattle.regalloc2_parts.proofs.Searching.{writes_by_word}
use Rattle.regalloc2_parts.proofs.moves.order.is_writer.Goals as goal

pub returns-then-at-moves : goal.returns-then-at-moves
returns-then-at-moves g c =
    writes_by_word c.args.moves.now c.args.at c.index-moves-at.result c.args.place c.bits.result c.bits-then-at-moves.result c.if-at-moves.true
    c.bits.ensures.bits c.bits.ensures.place c.bits-then-at-moves.ensures.bits c.bits-then-at-moves.ensures.place

pub returns-else-at-moves : goal.returns-else-at-moves
returns-else-at-moves g c = (
  λ e. let low : c.args.at < length c.args.moves.now = ltb-true c.args.at (length c.args.moves.now) e in absurd (omega arith),
  λ h. absurd (omega (arith, h.0)),
)
