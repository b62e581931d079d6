use Rattle.std.proofs.Common.{◌≡◌, ◌≢◌, ◌-◌, ◌<◌, ◌∙◌, length, ap, arith, sym}
use Rattle.regalloc2_names.specs.Place.{after, before, invalid_inst}
use Rattle.regalloc2_function.specs.FunctionValue.{FunctionValue, block_at, last_of}
use Rattle.regalloc2_function.specs.Tables.{entry_point, exit_point}
use Rattle.regalloc2_function.proofs.Following.{end_within}
use Rattle.regalloc2_function.proofs.BlockRanges.{block_is}
use Rattle.regalloc2_function.proofs.TablesByBlock.{points_more}
use Rattle.regalloc2_function.proofs.ListsInParts.{map_taken}
use Rattle.regalloc2_function.proofs.cfg.list_points.Goals as goal

pub before-requires : goal.before-requires
before-requires g c =
    let f : FunctionValue = g.F.Function.function c.args.f.now in
    let less : c.new.result < length f.blocks = omega (arith, c.loop-b.invariant.whole, c.new.ensures) in
    let some = (c.requires.follow c.new.result less).0 in
    let at : c.first.result ≡ (block_at f c.new.result).range.first = c.first.ensures ∙ ap (λ r. r.first) c.block_insns-range.ensures in
    λ ne. omega (arith, at, some, end_within f c.requires.follow c.new.result less, (g.met.F.Function.limited c.args.f.now).insts)

pub after-requires : goal.after-requires
after-requires g c =
    let f : FunctionValue = g.F.Function.function c.args.f.now in
    let less : c.new.result < length f.blocks = omega (arith, c.loop-b.invariant.whole, c.new.ensures) in
    let some = (c.requires.follow c.new.result less).0 in
    let at : c.last.result ≡ last_of (block_at f c.new.result) = c.last.ensures ∙ ap (λ r. r.end - 1) c.block_insns-range.ensures in
    λ ne. omega (arith, at, some, end_within f c.requires.follow c.new.result less, (g.met.F.Function.limited c.args.f.now).insts)

pub loop-b-preserved : goal.loop-b-preserved
loop-b-preserved g c =
    let f : FunctionValue = g.F.Function.function c.args.f.now in
    let less : c.loop-b.b < length f.blocks = omega (arith, c.loop-b.invariant.whole) in
    let some = (c.requires.follow c.loop-b.b less).0 in
    let end = end_within f c.requires.follow c.loop-b.b less in
    let few = (g.met.F.Function.limited c.args.f.now).insts in
    let first : c.first.result ≡ (block_at f c.loop-b.b).range.first = c.first.ensures ∙ ap (λ r. r.first) (rw c.new.ensures at c.block_insns-range.ensures) in
    let last : c.last.result ≡ last_of (block_at f c.loop-b.b) = c.last.ensures ∙ ap (λ r. r.end - 1) (rw c.new.ensures at c.block_insns-range.ensures) in
    let first_valid : c.first.result ≢ invalid_inst = λ e. absurd (omega (arith, e, first, some, end, few)) in
    let last_valid : c.last.result ≢ invalid_inst = λ e. absurd (omega (arith, e, last, some, end, few)) in
    record {
      whole = c.loop-b.invariant.whole;
      entries = points_more entry_point f.blocks c.loop-b.b (block_at f c.loop-b.b) c.loop-b.block_entry.items c.push.new.self.items c.before-in-loop-b.result
          less (block_is f c.loop-b.b less) c.loop-b.invariant.entries (c.before-in-loop-b.ensures.point first_valid ∙ ap before first)
          c.in_ok-push.ensures.items;
      exits = points_more exit_point f.blocks c.loop-b.b (block_at f c.loop-b.b) c.loop-b.block_exit.items c.push-in-loop-b.new.self.items c.after.result less
          (block_is f c.loop-b.b less) c.loop-b.invariant.exits (c.after.ensures.point last_valid ∙ ap after last) c.in_ok-push-2.ensures.items;
    }

pub loop-b-init : goal.loop-b-init
loop-b-init g c = record { whole = c.num_blocks-b-end.ensures.count; entries = c.requires.no_entries; exits = c.requires.no_exits }

pub block_insns-range-requires : goal.block_insns-range-requires
block_insns-range-requires g c = omega (arith, c.loop-b.invariant.whole, c.loop-b-test.true, c.new.ensures)

pub returns-clause-entries : goal.returns-clause-entries
returns-clause-entries g c =
    let f : FunctionValue = g.F.Function.function c.args.f.now in
    c.loop-b.invariant.entries ∙ sym (map_taken entry_point f.blocks c.loop-b.b (omega (arith, c.loop-b.invariant.whole, c.loop-b-test.false)))

pub returns-clause-exits : goal.returns-clause-exits
returns-clause-exits g c =
    let f : FunctionValue = g.F.Function.function c.args.f.now in
    c.loop-b.invariant.exits ∙ sym (map_taken exit_point f.blocks c.loop-b.b (omega (arith, c.loop-b.invariant.whole, c.loop-b-test.false)))
