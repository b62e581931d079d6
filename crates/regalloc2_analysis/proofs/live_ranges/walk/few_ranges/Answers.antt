use Rattle.std.proofs.Common.{List, Option, ℕ, ◌≡◌, ◌∙◌, length, sym, ap, subst, arith}
use Rattle.std.proofs.lemmas.List.{with_items_is}
use Rattle.regalloc2_function.specs.FunctionValue.{FunctionValue}
use Rattle.regalloc2_function.specs.Inside.TableLength.{CoversDefinitions}
use Rattle.regalloc2_analysis.specs.declared.live_ranges.LiveRange.{LiveRange}
use Rattle.regalloc2_analysis.specs.LiveRanges.LiveRanges.{AreLiveRanges, IsWanted}
use Rattle.regalloc2_analysis.specs.LiveRanges.Entries.{AreEntryIndexes, spread}
use Rattle.regalloc2_analysis.proofs.MadeTables.{only_none}
use Rattle.regalloc2_analysis.proofs.live_ranges.walk.few_ranges.Goals as goal

pub walk_blocks-requires-clause-room : goal.walk_blocks-requires-clause-room
walk_blocks-requires-clause-room g c =
    let long : length c.as_slice.result.now ≡ c.table_length.result = ap (λ (ss : List ℕ). length ss) c.as_slice.ensures.value
    ∙ c.in_ok-indexes.ensures.len in
    subst (CoversDefinitions (g.F.Function.function c.args.f.now)) (sym long) c.table_length.ensures.room

pub indexes_of-requires : goal.indexes_of-requires
indexes_of-requires g c = let limit = (g.met.F.Function.limited c.args.f.now).vregs in omega (arith, limit, c.table_length.ensures.few)

pub walk_blocks-requires-clause-ssa : goal.walk_blocks-requires-clause-ssa
walk_blocks-requires-clause-ssa g c = c.requires.ssa

pub walk_blocks-requires-clause-indexes : goal.walk_blocks-requires-clause-indexes
walk_blocks-requires-clause-indexes g c =
    let long : length c.as_mut_slice.result.now ≡ c.in_ok-indexes.count = omega (arith, c.as_mut_slice.ensures.len, c.in_ok-ends.ensures.len) in
    subst (AreEntryIndexes c.args.wanted.now c.as_slice.result.now) (sym long)
    (subst (λ (ss : List ℕ). AreEntryIndexes c.args.wanted.now ss c.in_ok-indexes.count) (sym c.as_slice.ensures.value) c.in_ok-indexes.ensures.indexes)

pub walk_blocks-requires-clause-listed : goal.walk_blocks-requires-clause-listed
walk_blocks-requires-clause-listed g c = c.requires.listed

pub returns-clause-ok : goal.returns-clause-ok
returns-clause-ok g c =
    let f : FunctionValue = g.F.Function.function c.args.f.now in
    let W : ℕ → Type 0 = IsWanted c.args.wanted.now in
    subst (λ (t : List (Option LiveRange)). AreLiveRanges f W (spread c.in_ok-indexes.indexes.items t))
    (sym (with_items_is c.in_ok-entries.entries c.walk_blocks.new.ranges (c.walk_blocks.auto.ranges ∙ c.as_mut_slice-2.ensures.len)))
    (subst (λ (ss : List ℕ). AreLiveRanges f W (spread ss c.walk_blocks.new.ranges)) c.as_slice.ensures.value c.walk_blocks.ensures)

pub returns-clause-few : goal.returns-clause-few
returns-clause-few g c = omega (arith, c.in_ok-indexes.ensures.len, c.table_length.ensures.few)

pub walk_blocks-requires-clause-no_ends : goal.walk_blocks-requires-clause-no_ends
walk_blocks-requires-clause-no_ends g c =
    let long : length c.as_mut_slice.result.now ≡ c.in_ok-indexes.count = omega (arith, c.as_mut_slice.ensures.len, c.in_ok-ends.ensures.len) in
    rw long (c.as_mut_slice.ensures.value ∙ c.in_ok-ends.ensures.items_if_clones_equal (only_none _ (λ x no. no)))

pub walk_blocks-requires-clause-no_ranges : goal.walk_blocks-requires-clause-no_ranges
walk_blocks-requires-clause-no_ranges g c =
    let long : length c.as_mut_slice.result.now ≡ c.in_ok-indexes.count = omega (arith, c.as_mut_slice.ensures.len, c.in_ok-ends.ensures.len) in
    rw long (c.as_mut_slice-2.ensures.value ∙ c.in_ok-entries.ensures.items_if_clones_equal (only_none _ (λ x no. no)))
