use Rattle.std.proofs.Common.{inl, inr, false, ◌+◌, ◌*◌, length, arith}
use Rattle.regalloc2_checker.specs.Holding.{IsMetBetween}
use Rattle.regalloc2_checker.proofs.Holders.{still-then}
use Rattle.regalloc2_checker.proofs.Meets.{met-none, met-then, met-end}
use Rattle.std.proofs.lemmas.Bool.{false≢true}
use Rattle.regalloc2_checker.proofs.tables.meet_entries.Goals as goal

pub loop-chunk-init : goal.loop-chunk-init
loop-chunk-init g c = record {
  inside = omega arith;
  met = met-none c.args.sets.now c.args.entries.now c.args.table 0 (64 * 0) c.args.bound false (omega arith) c.requires.below;
}

pub meet_chunk-requires-clause-table : goal.meet_chunk-requires-clause-table
meet_chunk-requires-clause-table g c = omega (arith, c.requires.table, c.loop-chunk.invariant.met.still.count)

pub meet_chunk-requires-clause-chunk : goal.meet_chunk-requires-clause-chunk
meet_chunk-requires-clause-chunk g c = (c.next_chunk.ensures.some c.in-Some.chunk c.in-Some.is).1

pub meet_chunk-requires-clause-small : goal.meet_chunk-requires-clause-small
meet_chunk-requires-clause-small g c = (c.next_chunk.ensures.some c.in-Some.chunk c.in-Some.is).2

pub meet_chunk-requires-clause-bound : goal.meet_chunk-requires-clause-bound
meet_chunk-requires-clause-bound g c = omega (arith, c.requires.bound, c.loop-chunk.invariant.met.still.long)

pub meet_chunk-requires-clause-below : goal.meet_chunk-requires-clause-below
meet_chunk-requires-clause-below g c = c.loop-chunk.invariant.met.still.below

pub meet_chunk-requires-clause-saved : goal.meet_chunk-requires-clause-saved
meet_chunk-requires-clause-saved g c i l =
    let less = c.requires.saved i (omega (arith, l, c.loop-chunk.invariant.met.still.long)) in
    omega (arith, less, c.loop-chunk.invariant.met.still.saved c.args.table i, c.loop-chunk.invariant.met.still.more.longer)

pub overflow_add-from : goal.overflow_add-from
overflow_add-from g c = omega (arith, (c.next_chunk.ensures.some c.in-Some.chunk c.in-Some.is).2)

pub loop-chunk-smaller : goal.loop-chunk-smaller
loop-chunk-smaller g c =
    let at = c.next_chunk.ensures.some c.in-Some.chunk c.in-Some.is in
    omega (arith, at.0, at.1, c.loop-chunk.invariant.met.still.long)

pub loop-chunk-preserved : goal.loop-chunk-preserved
loop-chunk-preserved g c =
    let w = c.loop-chunk.invariant in
    let at = c.next_chunk.ensures.some c.in-Some.chunk c.in-Some.is in
    record {
      inside = omega (arith, at.1, w.met.still.long);
      met = met-then c.args.sets.now c.loop-chunk.sets c.meet_chunk.new.sets c.args.entries.now c.loop-chunk.entries c.meet_chunk.new.entries c.args.table 0
          (64 * c.loop-chunk.from) (64 * c.in-Some.chunk) (64 * (c.in-Some.chunk + 1)) c.args.bound false c.loop-chunk.is_less c.in_ok-is_less.is_less
          (record {
            met = w.met;
            order = omega arith;
            after = omega (arith, at.0);
            inside = c.requires.bound;
            below = c.requires.below;
            saved = c.requires.saved;
            between = at.3;
          })
          (omega arith) c.in_ok-is_less.ensures.met;
    }

pub returns-in_err-is_less-clause-still : goal.returns-in_err-is_less-clause-still
returns-in_err-is_less-clause-still g c = still-then c.args.sets.now c.loop-chunk.sets c.meet_chunk.new.sets c.args.entries.now c.loop-chunk.entries
    c.meet_chunk.new.entries c.loop-chunk.invariant.met.still c.in_err-is_less.ensures.still

pub returns-in_err-is_less-clause-fewer : goal.returns-in_err-is_less-clause-fewer
returns-in_err-is_less-clause-fewer g c i y l is =
    c.loop-chunk.invariant.met.fewer i y l (c.in_err-is_less.ensures.fewer i y (omega (arith, l, c.loop-chunk.invariant.met.still.long)) is)

pub returns-clause-met : goal.returns-clause-met
returns-clause-met g c =
    let w = c.loop-chunk.invariant in
    let all : IsMetBetween c.args.sets.now c.args.entries.now c.loop-chunk.sets c.loop-chunk.entries c.args.table 0 (length c.loop-chunk.entries.cells) c.args.bound
    false c.loop-chunk.is_less = met-end c.args.sets.now c.loop-chunk.sets c.args.entries.now c.loop-chunk.entries c.args.table 0
    (64 * c.loop-chunk.from) (length c.loop-chunk.entries.cells) c.args.bound false c.loop-chunk.is_less
    (record {
      met = w.met;
      order = omega arith;
      after = omega (arith, w.inside, w.met.still.long);
      inside = c.requires.bound;
      below = c.requires.below;
      saved = c.requires.saved;
      between = c.next_chunk.ensures.none c.in_default.is;
    }) in
    λ i y l. all.done i y (omega arith) (omega (arith, l, c.requires.bound, w.met.still.long)) l

pub returns-clause-less : goal.returns-clause-less
returns-clause-less g c q = elim (c.loop-chunk.invariant.met.less q) [
  | inl e ↦ absurd (false≢true e)
  | inr d ↦ d.0
]

pub returns-clause-same : goal.returns-clause-same
returns-clause-same g c q i y l is =
    let w = c.loop-chunk.invariant in
    let all : IsMetBetween c.args.sets.now c.args.entries.now c.loop-chunk.sets c.loop-chunk.entries c.args.table 0 (length c.loop-chunk.entries.cells) c.args.bound
    false c.loop-chunk.is_less = met-end c.args.sets.now c.loop-chunk.sets c.args.entries.now c.loop-chunk.entries c.args.table 0
    (64 * c.loop-chunk.from) (length c.loop-chunk.entries.cells) c.args.bound false c.loop-chunk.is_less
    (record {
      met = w.met;
      order = omega arith;
      after = omega (arith, w.inside, w.met.still.long);
      inside = c.requires.bound;
      below = c.requires.below;
      saved = c.requires.saved;
      between = c.next_chunk.ensures.none c.in_default.is;
    }) in
    (all.same q).1 i y (omega arith) (omega (arith, l, c.requires.bound, w.met.still.long)) l is
