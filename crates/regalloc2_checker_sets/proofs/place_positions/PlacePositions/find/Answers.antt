use Rattle.std.proofs.Common.{ℕ, ◌<◌, List, length, arith, ap, sym, ◌∙◌, refl}
use Rattle.std.specs.Prelude.{◌==◌}
use Rattle.std.specs.List.{position}
use Rattle.regalloc2_names.specs.PlaceBits.{bits_of_place}
use Rattle.regalloc2_checker_sets.proofs.Bits.{read-is}
use Rattle.regalloc2_checker_sets.proofs.PlaceLaws.{entry-none, entry-some}
use Rattle.regalloc2_checker_sets.proofs.place_positions.PlacePositions.find.Goals as goal

pub returns-then-entry : goal.returns-then-entry
returns-then-entry g c =
    let h = c.self.invariant.1 in
    let few = h.few in
    let less : c.entry_index-index.result < length c.self.inside.entries.items =
    omega (arith, c.if-index-len.false, c.len.ensures, c.self.inside.entries.ok.0) in
    entry-none c.self.inside.places c.self.inside.entries.items (bits_of_place c.args.place) c.entry_index-index.result h less
    (c.entry_index-index.ensures.here (omega (arith, less, few)) ∙ c.bits-bits.ensures.bits)
    (sym (read-is c.self.inside.entries.items c.self.inside.entries.items c.entry_index-index.result c.index-entry.result.now 0 refl less
    c.index-entry.ensures) ∙ c.if-entry.true)
    ∙ ap (λ (l : List ℕ). position (λ n. n == bits_of_place c.args.place) l) c.self.view_is

pub returns : goal.returns
returns g c =
    let h = c.self.invariant.1 in
    let few = h.few in
    let less : c.entry_index-index.result < length c.self.inside.entries.items =
    omega (arith, c.if-index-len.false, c.len.ensures, c.self.inside.entries.ok.0) in
    entry-some c.self.inside.places c.self.inside.entries.items (bits_of_place c.args.place) c.entry_index-index.result c.index-entry.result.now
    c.self.invariant.0 h less (c.entry_index-index.ensures.here (omega (arith, less, few)) ∙ c.bits-bits.ensures.bits)
    (sym (read-is c.self.inside.entries.items c.self.inside.entries.items c.entry_index-index.result c.index-entry.result.now 0 refl less
    c.index-entry.ensures)) (omega (arith, c.if-entry.false))
    ∙ ap (λ (l : List ℕ). position (λ n. n == bits_of_place c.args.place) l) c.self.view_is
