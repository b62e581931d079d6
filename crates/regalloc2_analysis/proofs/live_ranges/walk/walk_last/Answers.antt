use Rattle.std.proofs.Common.{ℕ, ◌≡◌, ◌+◌, ◌-◌, ◌∙◌, List, length, sym, subst, arith}
use Rattle.regalloc2_index.proofs.Bools.{not_both}
use Rattle.regalloc2_function.specs.FunctionValue.{FunctionValue}
use Rattle.regalloc2_carry.proofs.Order.{ends_within}
use Rattle.regalloc2_analysis.specs.LiveRanges.LiveRanges.{IsWanted}
use Rattle.regalloc2_analysis.specs.LiveRanges.Entries.{spread}
use Rattle.regalloc2_analysis.specs.LiveRanges.WalkInvariant.{AddsNothing, ListsAdding}
use Rattle.regalloc2_analysis.proofs.LiveRangesLemmas.LiveRangeTable.{walked_last}
use Rattle.regalloc2_analysis.proofs.LiveRangesLemmas.Listed.{listed_below, listed_fewer, nothing_above}
use Rattle.regalloc2_analysis.proofs.LiveRangesLemmas.Spread.{spread_length}
use Rattle.regalloc2_analysis.proofs.live_ranges.walk.walk_last.Goals as goal

pub returns-then-is_next-clause-listed : goal.returns-then-is_next-clause-listed
returns-then-is_next-clause-listed g c =
    let f : FunctionValue = g.F.Function.function c.args.f.now in
    let W : ℕ → Type 0 = IsWanted c.args.wanted.now in
    let is = c.is_next.ensures.0 c.if-is_next.true in
    subst (λ (n : ℕ). ListsAdding f W c.args.listed.now (c.args.many - 1) n) is.1
    (listed_fewer f W c.args.listed.now c.args.many (c.args.last + 1) is.0 c.requires.listed)

pub note_passed-requires-clause-small : goal.note_passed-requires-clause-small
note_passed-requires-clause-small g c =
    let within = ends_within (g.F.Function.function c.args.f.now) c.requires.ssa.follow c.args.block c.requires.block in
    let limit = (g.met.F.Function.limited c.args.f.now).insts in
    omega (arith, within, limit, c.requires.last)

pub returns-clause-listed : goal.returns-clause-listed
returns-clause-listed g c =
    let f : FunctionValue = g.F.Function.function c.args.f.now in
    listed_below f (IsWanted c.args.wanted.now) c.args.listed.now c.args.many c.args.last
    (λ some e. not_both c.is_next.result (c.is_next.ensures.1 (some, e)) c.if-is_next.false) c.requires.listed

pub returns-clause-walked : goal.returns-clause-walked
returns-clause-walked g c =
    let f : FunctionValue = g.F.Function.function c.args.f.now in
    let indexes : List ℕ = c.args.indexes.now in
    let W : ℕ → Type 0 = IsWanted c.args.wanted.now in
    let within = ends_within f c.requires.ssa.follow c.args.block c.requires.block in
    let some = (c.requires.ssa.follow c.args.block c.requires.block).0 in
    let same : length (spread indexes c.args.ends.now) ≡ length indexes = spread_length indexes c.args.ends.now in
    let long : length (spread indexes c.note_passed.new.ends) ≡ length (spread indexes c.args.ends.now) =
    spread_length indexes c.note_passed.new.ends ∙ sym same in
    let fewer : ListsAdding f W c.args.listed.now c.args.many c.args.last = listed_below f W c.args.listed.now c.args.many c.args.last
    (λ some e. not_both c.is_next.result (c.is_next.ensures.1 (some, e)) c.if-is_next.false) c.requires.listed in
    let adds : AddsNothing f W c.args.last = nothing_above f W c.args.listed.now c.args.many (c.args.last + 1) c.args.last c.requires.listed (omega arith)
    (λ some. fewer.below (c.args.many - 1) (omega (arith, some))) in
    walked_last f c.requires.ssa.follow W c.args.block (c.args.block + 1) c.args.last (spread indexes c.args.ends.now) (spread indexes c.note_passed.new.ends)
    (spread indexes c.args.ranges.now) c.requires.block (omega (arith, some, c.requires.last)) (omega (arith, within, c.requires.last)) c.requires.last adds long
    (λ n lt asked. c.note_passed.ensures n (c.requires.ends_indexes.theirs n (omega (arith, lt, same)) asked)) c.requires.walked

pub is_next-requires : goal.is_next-requires
is_next-requires g c = c.requires.listed.within

pub walk_inst-requires : goal.walk_inst-requires
walk_inst-requires g c =
    let some = (c.requires.ssa.follow c.args.block c.requires.block).0 in
    record {
      ssa = c.requires.ssa;
      block = c.requires.block;
      first = omega (arith, some, c.requires.last);
      end = omega (arith, c.requires.last);
      ends_indexes = c.requires.ends_indexes;
      ranges_indexes = c.requires.ranges_indexes;
      walked = c.requires.walked;
    }

pub overflow_sub-result : goal.overflow_sub-result
overflow_sub-result g c = let some = (c.is_next.ensures.0 c.if-is_next.true).0 in omega (arith, some)

pub returns-then-is_next-clause-walked : goal.returns-then-is_next-clause-walked
returns-then-is_next-clause-walked g c = c.walk_inst.ensures

pub note_passed-requires-clause-apart : goal.note_passed-requires-clause-apart
note_passed-requires-clause-apart g c = c.requires.ends_indexes.apart

pub note_passed-requires-clause-block : goal.note_passed-requires-clause-block
note_passed-requires-clause-block g c = c.requires.block

pub note_passed-requires-clause-last : goal.note_passed-requires-clause-last
note_passed-requires-clause-last g c = c.requires.last

pub note_passed-requires-clause-nonempty : goal.note_passed-requires-clause-nonempty
note_passed-requires-clause-nonempty g c = let some = (c.requires.ssa.follow c.args.block c.requires.block).0 in omega (arith, some, c.requires.last)
