use Rattle.std.proofs.Common.{◌≡◌, ℕ, ◌+◌, ◌<◌, ◌≤◌, length, arith, sym, subst, ap, ◌∙◌}
use Rattle.regalloc2_names.specs.PlaceBits.{bits_of_place}
use Rattle.regalloc2_parts.specs.AtOnce.{ends_of}
use Rattle.regalloc2_parts.specs.Giving.{from_at, to_at}
use Rattle.regalloc2_parts.proofs.Lists.{length_ends, read_from, read_to}
use Rattle.regalloc2_parts.proofs.Tidying.{IsTidyTo, tidy_more, tidy_whole}
use Rattle.regalloc2_parts.proofs.moves.order.is_tidy.Goals as goal

pub loop-m-preserved : goal.loop-m-preserved
loop-m-preserved g c =
    let ms = c.args.moves.now in
    let k : ℕ = c.loop-m.m-index in
    let m = c.m-item.result in
    let to : c.bits-word.result ≡ bits_of_place (to_at (ends_of ms) k) = c.bits-word.ensures.bits ∙ ap bits_of_place
    (read_to ms k m c.loop-m-test.true c.m-item.is) in
    let from : c.bits.result ≡ bits_of_place (from_at (ends_of ms) k) = c.bits.ensures.bits ∙ ap bits_of_place
    (read_from ms k m c.loop-m-test.true c.m-item.is) in
    subst (λ w. IsTidyTo (ends_of ms) w (k + 1)) (sym to)
    (tidy_more (ends_of ms) c.loop-m.last k c.loop-m.invariant
    (let high : c.loop-m.last < c.bits-word.result = c.if-word-last.false in omega arith)
    (λ same. let other : c.bits.result ≡ c.bits-word.result → ⊥ = c.if-bits-word.false in other (from ∙ same ∙ sym to)))

pub returns : goal.returns
returns g c = λ e.
    let ms = c.args.moves.now in
    let many : length (ends_of ms) ≡ length ms = length_ends ms in
    let end : length ms ≤ c.loop-m.m-index = c.loop-m-test.false in
    tidy_whole (ends_of ms) c.loop-m.last c.loop-m.m-index c.loop-m.invariant (omega arith)
