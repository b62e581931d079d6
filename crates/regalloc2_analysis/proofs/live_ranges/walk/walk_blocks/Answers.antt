use Rattle.std.proofs.Common.{ℕ, ◌≡◌, ◌+◌, ◌-◌, ◌<◌, ◌∙◌, List, length, replicate, refl, sym, ap, subst, arith}
use Rattle.std.specs.Prelude.{None, Option}
use Rattle.std.proofs.lemmas.List.{length-replicate}
use Rattle.regalloc2_function.specs.FunctionValue.{FunctionValue, block_at}
use Rattle.regalloc2_analysis.specs.declared.live_ranges.LiveRange.{LiveRange}
use Rattle.regalloc2_analysis.specs.declared.live_ranges.ends.RangeEnd.{RangeEnd}
use Rattle.regalloc2_analysis.specs.LiveRanges.LiveRanges.{IsWanted}
use Rattle.regalloc2_analysis.specs.LiveRanges.Entries.{AreEntryIndexes, spread}
use Rattle.regalloc2_analysis.specs.LiveRanges.WalkInvariant.{AreRangesWalked, ListsAdding, begin_of}
use Rattle.regalloc2_analysis.proofs.LiveRangesLemmas.LiveRangeTable.{begins_at, begins_next, begins_past, walked_all, walked_block, walked_none}
use Rattle.regalloc2_analysis.proofs.LiveRangesLemmas.Spread.{spread_length}
use Rattle.regalloc2_analysis.proofs.live_ranges.walk.walk_blocks.Goals as goal

pub loop-b-init : goal.loop-b-init
loop-b-init g c =
    let f : FunctionValue = g.F.Function.function c.args.f.now in
    let indexes : List ℕ = c.args.indexes.now in
    let W : ℕ → Type 0 = IsWanted c.args.wanted.now in
    let count : c.num_blocks-b.result ≡ length f.blocks = c.num_blocks-b.ensures.count in
    record {
      within = omega (arith, count);
      listed = rw (begins_past f c.num_blocks-b.result count) c.requires.listed;
      walked = rw (begins_past f c.num_blocks-b.result count, count)
          (subst (λ (t : List (Option RangeEnd)). AreRangesWalked f W (length f.insts) (length f.blocks) (spread indexes t) (spread indexes c.args.ranges.now))
          (sym c.requires.no_ends)
          (subst (λ (t : List (Option LiveRange)). AreRangesWalked f W (length f.insts) (length f.blocks)
          (spread indexes (replicate (length c.args.ends.now) None))
          (spread indexes t))
          (sym c.requires.no_ranges) (walked_none f c.requires.ssa W indexes (length c.args.ends.now) c.requires.room)));
    }

pub walk_insts-many-requires-clause-walked : goal.walk_insts-many-requires-clause-walked
walk_insts-many-requires-clause-walked g c =
    let f : FunctionValue = g.F.Function.function c.args.f.now in
    let indexes : List ℕ = c.args.indexes.now in
    let W : ℕ → Type 0 = IsWanted c.args.wanted.now in
    let b : ℕ = c.new-block.result in
    let next : c.loop-b.b ≡ b + 1 = omega (arith, c.new-block.ensures, c.loop-b-test.true) in
    let lt : b < length f.blocks = omega (arith, next, c.loop-b.invariant.within) in
    let begin : begin_of f c.loop-b.b ≡ (block_at f b).range.end = ap (begin_of f) next ∙ begins_next f c.requires.ssa.follow b lt in
    subst (λ (n : ℕ). AreRangesWalked f W (block_at f b).range.end n (spread indexes c.loop-b.ends) (spread indexes c.loop-b.ranges)) next
    (subst (λ (n : ℕ). AreRangesWalked f W n c.loop-b.b (spread indexes c.loop-b.ends) (spread indexes c.loop-b.ranges)) begin c.loop-b.invariant.walked)

pub walk_insts-many-requires-clause-listed : goal.walk_insts-many-requires-clause-listed
walk_insts-many-requires-clause-listed g c =
    let f : FunctionValue = g.F.Function.function c.args.f.now in
    let b : ℕ = c.new-block.result in
    let next : c.loop-b.b ≡ b + 1 = omega (arith, c.new-block.ensures, c.loop-b-test.true) in
    let lt : b < length f.blocks = omega (arith, next, c.loop-b.invariant.within) in
    let begin : begin_of f c.loop-b.b ≡ (block_at f b).range.end = ap (begin_of f) next ∙ begins_next f c.requires.ssa.follow b lt in
    subst (ListsAdding f (IsWanted c.args.wanted.now) c.args.listed.now c.loop-b.many) begin c.loop-b.invariant.listed

pub loop-b-preserved : goal.loop-b-preserved
loop-b-preserved g c =
    let f : FunctionValue = g.F.Function.function c.args.f.now in
    let indexes : List ℕ = c.args.indexes.now in
    let W : ℕ → Type 0 = IsWanted c.args.wanted.now in
    let b : ℕ = c.new-block.result in
    let at : b ≡ c.loop-b.b - 1 = c.new-block.ensures in
    let lt : b < length f.blocks = omega (arith, at, c.loop-b-test.true, c.loop-b.invariant.within) in
    let walked : AreRangesWalked f W (block_at f b).range.first b (spread indexes c.walk_insts-many.new.ends)
    (spread indexes c.begin_at_params.new.ranges) = walked_block f
    W (block_at f b).range.first b
    (spread indexes c.walk_insts-many.new.ends) (spread indexes c.walk_insts-many.new.ranges) (spread indexes c.begin_at_params.new.ranges) c.walk_insts-many.ensures.walked
    (spread_length indexes c.begin_at_params.new.ranges ∙ sym (spread_length indexes c.walk_insts-many.new.ranges))
    c.begin_at_params.ensures.right c.begin_at_params.ensures.stay c.begin_at_params.ensures.taken in
    record {
      within = omega (arith, c.loop-b.invariant.within);
      listed = subst (λ (n : ℕ). ListsAdding f W c.args.listed.now c.walk_insts-many.result (begin_of f n)) at
          (subst (ListsAdding f W c.args.listed.now c.walk_insts-many.result) (sym (begins_at f b lt)) c.walk_insts-many.ensures.listed);
      walked = subst (λ (n : ℕ). AreRangesWalked f W (begin_of f n) n (spread indexes c.walk_insts-many.new.ends) (spread indexes c.begin_at_params.new.ranges)) at
          (subst (λ (n : ℕ). AreRangesWalked f W n b (spread indexes c.walk_insts-many.new.ends) (spread indexes c.begin_at_params.new.ranges)) (sym (begins_at f b lt))
          walked);
    }

pub returns : goal.returns
returns g c =
    let f : FunctionValue = g.F.Function.function c.args.f.now in
    let indexes : List ℕ = c.args.indexes.now in
    let W : ℕ → Type 0 = IsWanted c.args.wanted.now in
    let none : c.loop-b.b ≡ 0 = omega (arith, c.loop-b-test.false) in
    let first : begin_of f 0 ≡ 0 = begins_at f 0 c.requires.ssa.some ∙ (c.requires.ssa.follow 0 c.requires.ssa.some).1 refl in
    let all : AreRangesWalked f W (begin_of f 0) 0 (spread indexes c.loop-b.ends) (spread indexes c.loop-b.ranges) = subst
    (λ (n : ℕ). AreRangesWalked f W (begin_of f n) n (spread indexes c.loop-b.ends) (spread indexes c.loop-b.ranges)) none
    c.loop-b.invariant.walked in
    walked_all f c.requires.ssa W (spread indexes c.loop-b.ends) (spread indexes c.loop-b.ranges)
    (subst (λ (n : ℕ). AreRangesWalked f W n 0 (spread indexes c.loop-b.ends) (spread indexes c.loop-b.ranges)) first all)

pub walk_insts-many-requires-clause-ssa : goal.walk_insts-many-requires-clause-ssa
walk_insts-many-requires-clause-ssa g c = c.requires.ssa

pub walk_insts-many-requires-clause-block : goal.walk_insts-many-requires-clause-block
walk_insts-many-requires-clause-block g c = omega (arith, c.new-block.ensures, c.loop-b-test.true, c.loop-b.invariant.within)

pub walk_insts-many-requires-clause-ends_indexes : goal.walk_insts-many-requires-clause-ends_indexes
walk_insts-many-requires-clause-ends_indexes g c = subst (AreEntryIndexes c.args.wanted.now c.args.indexes.now) (sym c.loop-b.auto.ends) c.requires.indexes

pub walk_insts-many-requires-clause-ranges_indexes : goal.walk_insts-many-requires-clause-ranges_indexes
walk_insts-many-requires-clause-ranges_indexes g c =
    let same : length c.loop-b.ranges ≡ length c.args.ends.now = c.loop-b.auto.ranges ∙ ap (λ (t : List (Option LiveRange)). length t) c.requires.no_ranges
    ∙ length-replicate (length c.args.ends.now) None in
    subst (AreEntryIndexes c.args.wanted.now c.args.indexes.now) (sym same) c.requires.indexes

pub begin_at_params-requires-clause-ssa : goal.begin_at_params-requires-clause-ssa
begin_at_params-requires-clause-ssa g c = c.requires.ssa

pub begin_at_params-requires-clause-block : goal.begin_at_params-requires-clause-block
begin_at_params-requires-clause-block g c = omega (arith, c.new-block.ensures, c.loop-b-test.true, c.loop-b.invariant.within)

pub begin_at_params-requires-clause-room : goal.begin_at_params-requires-clause-room
begin_at_params-requires-clause-room g c = c.requires.room

pub begin_at_params-requires-clause-ends : goal.begin_at_params-requires-clause-ends
begin_at_params-requires-clause-ends g c = c.walk_insts-many.ensures.walked.noted

pub begin_at_params-requires-clause-indexes : goal.begin_at_params-requires-clause-indexes
begin_at_params-requires-clause-indexes g c =
    let same : length c.walk_insts-many.new.ranges ≡ length c.args.ends.now = c.walk_insts-many.auto.ranges ∙ c.loop-b.auto.ranges
    ∙ ap (λ (t : List (Option LiveRange)). length t) c.requires.no_ranges ∙ length-replicate (length c.args.ends.now) None in
    subst (AreEntryIndexes c.args.wanted.now c.args.indexes.now) (sym same) c.requires.indexes

pub begin_at_params-requires-clause-right : goal.begin_at_params-requires-clause-right
begin_at_params-requires-clause-right g c = c.walk_insts-many.ensures.walked.right
