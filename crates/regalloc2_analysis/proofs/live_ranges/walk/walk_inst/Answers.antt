use Rattle.std.proofs.Common.{ℕ, ◌≡◌, ◌+◌, ◌∙◌, List, length, sym, subst, arith}
use Rattle.regalloc2_function.specs.FunctionValue.{FunctionValue}
use Rattle.regalloc2_carry.proofs.Order.{ends_within}
use Rattle.regalloc2_function.specs.Inside.TableLength.{CoversDefinitions}
use Rattle.regalloc2_analysis.specs.LiveRanges.LiveRanges.{IsWanted}
use Rattle.regalloc2_analysis.specs.LiveRanges.Entries.{spread}
use Rattle.regalloc2_analysis.specs.LiveRanges.WalkInvariant.{AreEndsFrom}
use Rattle.regalloc2_analysis.proofs.LiveRangesLemmas.LiveRangeTable.{noted_more, walked_inst}
use Rattle.regalloc2_analysis.proofs.LiveRangesLemmas.Spread.{spread_length}
use Rattle.regalloc2_analysis.proofs.live_ranges.walk.walk_inst.Goals as goal

pub note_uses-requires-clause-within : goal.note_uses-requires-clause-within
note_uses-requires-clause-within g c =
    let within = ends_within (g.F.Function.function c.args.f.now) c.requires.ssa.follow c.args.block c.requires.block in
    omega (arith, within, c.requires.end)

pub begin_at_defs-requires-clause-inst : goal.begin_at_defs-requires-clause-inst
begin_at_defs-requires-clause-inst g c =
    let within = ends_within (g.F.Function.function c.args.f.now) c.requires.ssa.follow c.args.block c.requires.block in
    omega (arith, within, c.requires.end)

pub begin_at_defs-requires-clause-room : goal.begin_at_defs-requires-clause-room
begin_at_defs-requires-clause-room g c = subst (CoversDefinitions (g.F.Function.function c.args.f.now)) (spread_length c.args.indexes.now c.args.ends.now)
    c.requires.walked.ends_room

pub begin_at_defs-requires-clause-ends : goal.begin_at_defs-requires-clause-ends
begin_at_defs-requires-clause-ends g c =
    let f : FunctionValue = g.F.Function.function c.args.f.now in
    let indexes : List ℕ = c.args.indexes.now in
    let W : ℕ → Type 0 = IsWanted c.args.wanted.now in
    let same : length (spread indexes c.args.ends.now) ≡ length indexes = spread_length indexes c.args.ends.now in
    let long : length (spread indexes c.note_uses.new.ends) ≡ length (spread indexes c.args.ends.now) = spread_length indexes c.note_uses.new.ends ∙ sym same in
    noted_more f W c.args.inst (spread indexes c.args.ends.now) (spread indexes c.note_uses.new.ends) c.requires.walked.noted long
    (λ n lt asked. c.note_uses.ensures n (c.requires.ends_indexes.theirs n (omega (arith, lt, same)) asked))

pub returns : goal.returns
returns g c =
    let f : FunctionValue = g.F.Function.function c.args.f.now in
    let indexes : List ℕ = c.args.indexes.now in
    let W : ℕ → Type 0 = IsWanted c.args.wanted.now in
    let same : length (spread indexes c.args.ends.now) ≡ length indexes = spread_length indexes c.args.ends.now in
    let long : length (spread indexes c.note_uses.new.ends) ≡ length (spread indexes c.args.ends.now) = spread_length indexes c.note_uses.new.ends ∙ sym same in
    let noted : AreEndsFrom f W c.args.inst (spread indexes c.note_uses.new.ends) =
    noted_more f W c.args.inst (spread indexes c.args.ends.now) (spread indexes c.note_uses.new.ends) c.requires.walked.noted long
    (λ n lt asked. c.note_uses.ensures n (c.requires.ends_indexes.theirs n (omega (arith, lt, same)) asked)) in
    walked_inst f W c.args.inst (c.args.block + 1) (spread indexes c.args.ends.now) (spread indexes c.note_uses.new.ends) (spread indexes c.args.ranges.now)
    (spread indexes c.begin_at_defs.new.ranges) c.requires.walked long
    (spread_length indexes c.begin_at_defs.new.ranges ∙ sym (spread_length indexes c.args.ranges.now)) noted c.begin_at_defs.ensures.right
    c.begin_at_defs.ensures.stay c.begin_at_defs.ensures.defined
