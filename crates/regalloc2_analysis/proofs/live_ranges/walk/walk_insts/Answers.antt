use Rattle.std.proofs.Common.{ℕ, ◌≡◌, ◌+◌, ◌-◌, ◌<◌, ◌∙◌, inl, inr, List, slice_index_or, sym, ap, subst, arith}
use Rattle.std.proofs.lemmas.Bool.{cases_lt}
use Rattle.regalloc2_index.proofs.Bools.{not_both}
use Rattle.regalloc2_index.specs.Range.{Span}
use Rattle.regalloc2_function.specs.FunctionValue.{FunctionValue, block_at}
use Rattle.regalloc2_analysis.specs.LiveRanges.LiveRanges.{IsWanted}
use Rattle.regalloc2_analysis.specs.LiveRanges.Entries.{AreEntryIndexes, spread}
use Rattle.regalloc2_analysis.specs.LiveRanges.WalkInvariant.{AreRangesWalked, ListsAdding}
use Rattle.regalloc2_analysis.proofs.LiveRangesLemmas.Listed.{listed_fewer, listed_to, walked_to}
use Rattle.regalloc2_analysis.proofs.live_ranges.walk.walk_insts.Goals as goal

pub block_insns-range-requires : goal.block_insns-range-requires
block_insns-range-requires g c = c.requires.block

pub first-first-requires : goal.first-first-requires
first-first-requires g c =
    let some = (c.requires.ssa.follow c.args.block c.requires.block).0 in
    subst (λ (r : Span). r.first < r.end) (sym c.block_insns-range.ensures) some

pub last-last-requires : goal.last-last-requires
last-last-requires g c =
    let some = (c.requires.ssa.follow c.args.block c.requires.block).0 in
    subst (λ (r : Span). r.first < r.end) (sym c.block_insns-range.ensures) some

pub walk_last-left-requires-clause-last : goal.walk_last-left-requires-clause-last
walk_last-left-requires-clause-last g c =
    let some = (c.requires.ssa.follow c.args.block c.requires.block).0 in
    let end = ap (λ (r : Span). r.end) c.block_insns-range.ensures in
    omega (arith, some, end, c.last-last.ensures)

pub walk_last-left-requires-clause-ssa : goal.walk_last-left-requires-clause-ssa
walk_last-left-requires-clause-ssa g c = c.requires.ssa

pub walk_last-left-requires-clause-block : goal.walk_last-left-requires-clause-block
walk_last-left-requires-clause-block g c = c.requires.block

pub walk_last-left-requires-clause-ends_indexes : goal.walk_last-left-requires-clause-ends_indexes
walk_last-left-requires-clause-ends_indexes g c = c.requires.ends_indexes

pub walk_last-left-requires-clause-ranges_indexes : goal.walk_last-left-requires-clause-ranges_indexes
walk_last-left-requires-clause-ranges_indexes g c = c.requires.ranges_indexes

pub walk_last-left-requires-clause-listed : goal.walk_last-left-requires-clause-listed
walk_last-left-requires-clause-listed g c =
    let f : FunctionValue = g.F.Function.function c.args.f.now in
    let some = (c.requires.ssa.follow c.args.block c.requires.block).0 in
    let end = ap (λ (r : Span). r.end) c.block_insns-range.ensures in
    let last : (block_at f c.args.block).range.end ≡ c.last-last.result + 1 = omega (arith, some, end, c.last-last.ensures) in
    subst (ListsAdding f (IsWanted c.args.wanted.now) c.args.listed.now c.args.many) last c.requires.listed

pub walk_last-left-requires-clause-walked : goal.walk_last-left-requires-clause-walked
walk_last-left-requires-clause-walked g c =
    let f : FunctionValue = g.F.Function.function c.args.f.now in
    let indexes : List ℕ = c.args.indexes.now in
    let some = (c.requires.ssa.follow c.args.block c.requires.block).0 in
    let end = ap (λ (r : Span). r.end) c.block_insns-range.ensures in
    let last : (block_at f c.args.block).range.end ≡ c.last-last.result + 1 = omega (arith, some, end, c.last-last.ensures) in
    subst (λ (n : ℕ). AreRangesWalked f (IsWanted c.args.wanted.now) n (c.args.block + 1) (spread indexes c.args.ends.now) (spread indexes c.args.ranges.now)) last
    c.requires.walked

pub loop-block-init : goal.loop-block-init
loop-block-init g c =
    let some = (c.requires.ssa.follow c.args.block c.requires.block).0 in
    let end = ap (λ (r : Span). r.end) c.block_insns-range.ensures in
    let first = c.first-first.ensures ∙ ap (λ (r : Span). r.first) c.block_insns-range.ensures in
    record {
      first = first;
      walked = (
        c.last-last.result,
        omega (arith, some, first, end, c.last-last.ensures),
        omega (arith, some, end, c.last-last.ensures),
        c.walk_last-left.ensures.listed,
        c.walk_last-left.ensures.walked,
      );
    }

pub is_left-requires : goal.is_left-requires
is_left-requires g c = c.loop-block.invariant.walked.3.within

pub overflow_sub-left : goal.overflow_sub-left
overflow_sub-left g c = let some = (c.is_left.ensures.0 c.loop-block-test.true).0 in omega (arith, some)

pub bounds-listed-left : goal.bounds-listed-left
bounds-listed-left g c =
    let some = (c.is_left.ensures.0 c.loop-block-test.true).0 in
    omega (arith, some, c.loop-block.invariant.walked.3.within)

pub loop-block-smaller : goal.loop-block-smaller
loop-block-smaller g c = let some = (c.is_left.ensures.0 c.loop-block-test.true).0 in omega (arith, some)

pub walk_inst-requires-clause-ssa : goal.walk_inst-requires-clause-ssa
walk_inst-requires-clause-ssa g c = c.requires.ssa

pub walk_inst-requires-clause-block : goal.walk_inst-requires-clause-block
walk_inst-requires-clause-block g c = c.requires.block

pub walk_inst-requires-clause-first : goal.walk_inst-requires-clause-first
walk_inst-requires-clause-first g c =
    let from = (c.is_left.ensures.0 c.loop-block-test.true).1 in
    omega (arith, from, c.new-inst.ensures, c.loop-block.invariant.first)

pub walk_inst-requires-clause-end : goal.walk_inst-requires-clause-end
walk_inst-requires-clause-end g c =
    let some = (c.is_left.ensures.0 c.loop-block-test.true).0 in
    let state = c.loop-block.invariant.walked in
    let upto = state.2 in
    let below = state.3.below (c.loop-block.left - 1) (omega (arith, some)) in
    omega (arith, below, upto, c.new-inst.ensures)

pub walk_inst-requires-clause-ends_indexes : goal.walk_inst-requires-clause-ends_indexes
walk_inst-requires-clause-ends_indexes g c =
    subst (AreEntryIndexes c.args.wanted.now c.args.indexes.now) (sym (c.loop-block.auto.ends ∙ c.walk_last-left.auto.ends)) c.requires.ends_indexes

pub walk_inst-requires-clause-ranges_indexes : goal.walk_inst-requires-clause-ranges_indexes
walk_inst-requires-clause-ranges_indexes g c =
    subst (AreEntryIndexes c.args.wanted.now c.args.indexes.now) (sym (c.loop-block.auto.ranges ∙ c.walk_last-left.auto.ranges)) c.requires.ranges_indexes

-- the walk goes on at the last one that is left
pub walk_inst-requires-clause-walked : goal.walk_inst-requires-clause-walked
walk_inst-requires-clause-walked g c =
    let f : FunctionValue = g.F.Function.function c.args.f.now in
    let indexes : List ℕ = c.args.indexes.now in
    let listed : List ℕ = c.args.listed.now in
    let W : ℕ → Type 0 = IsWanted c.args.wanted.now in
    let left : ℕ = c.loop-block.left in
    let at : c.new-inst.result ≡ slice_index_or listed (left - 1) 0 = c.new-inst.ensures in
    let is = c.is_left.ensures.0 c.loop-block-test.true in
    let from = is.1 in
    let state = c.loop-block.invariant.walked in
    let below = state.3.below (left - 1) (let some = is.0 in omega (arith, some)) in
    walked_to f c.requires.ssa.follow W listed left c.args.block (c.args.block + 1) state.0 (c.new-inst.result + 1) (spread indexes c.loop-block.ends)
    (spread indexes c.loop-block.ranges) c.requires.block (omega (arith, at, from, c.loop-block.invariant.first)) (omega (arith, at, below)) state.2
    state.3 (λ some. omega (arith, at)) state.4

pub loop-block-preserved : goal.loop-block-preserved
loop-block-preserved g c =
    let f : FunctionValue = g.F.Function.function c.args.f.now in
    let listed : List ℕ = c.args.listed.now in
    let W : ℕ → Type 0 = IsWanted c.args.wanted.now in
    let left : ℕ = c.loop-block.left in
    let at : c.new-inst.result ≡ slice_index_or listed (left - 1) 0 = c.new-inst.ensures in
    let is = c.is_left.ensures.0 c.loop-block-test.true in
    let from = is.1 in
    let state = c.loop-block.invariant.walked in
    let upto = state.2 in
    let below = state.3.below (left - 1) (let some = is.0 in omega (arith, some)) in
    record {
      first = c.loop-block.invariant.first;
      walked = (
        c.new-inst.result,
        omega (arith, at, from),
        omega (arith, at, below, upto),
        subst (ListsAdding f W listed (left - 1)) (sym at)
            (listed_fewer f W listed left state.0 is.0 state.3),
        c.walk_inst.ensures,
      );
    }

-- no listed instruction that is left is at or after the block's first
pub returns-clause-listed : goal.returns-clause-listed
returns-clause-listed g c =
    let f : FunctionValue = g.F.Function.function c.args.f.now in
    let listed : List ℕ = c.args.listed.now in
    let left : ℕ = c.loop-block.left in
    let state = c.loop-block.invariant.walked in
    let from = state.1 in
    let first : c.first-first.result ≡ (block_at f c.args.block).range.first = c.loop-block.invariant.first in
    listed_to f (IsWanted c.args.wanted.now) listed left state.0 (block_at f c.args.block).range.first (omega (arith, from, first))
    (λ some. elim (cases_lt (slice_index_or listed (left - 1) 0) c.first-first.result) [
      | inl less ↦ omega (arith, less, first)
      | inr ge ↦ absurd (not_both c.is_left.result (c.is_left.ensures.1 (some, ge)) c.loop-block-test.false)
    ]) state.3

pub returns-clause-walked : goal.returns-clause-walked
returns-clause-walked g c =
    let f : FunctionValue = g.F.Function.function c.args.f.now in
    let indexes : List ℕ = c.args.indexes.now in
    let listed : List ℕ = c.args.listed.now in
    let left : ℕ = c.loop-block.left in
    let state = c.loop-block.invariant.walked in
    let from = state.1 in
    let first : c.first-first.result ≡ (block_at f c.args.block).range.first = c.loop-block.invariant.first in
    walked_to f c.requires.ssa.follow (IsWanted c.args.wanted.now) listed left c.args.block (c.args.block + 1) state.0 (block_at f c.args.block).range.first
    (spread indexes c.loop-block.ends) (spread indexes c.loop-block.ranges) c.requires.block (omega arith) (omega (arith, from, first)) state.2 state.3
    (λ some. elim (cases_lt (slice_index_or listed (left - 1) 0) c.first-first.result) [
      | inl less ↦ omega (arith, less, first)
      | inr ge ↦ absurd (not_both c.is_left.result (c.is_left.ensures.1 (some, ge)) c.loop-block-test.false)
    ]) state.4
