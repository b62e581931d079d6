use Rattle.std.proofs.Common.{ℕ, ◌≡◌, ◌+◌, ◌*◌, ◌<◌, List, length, get_or, arith, refl, sym, ap, ◌∙◌}
use Rattle.regalloc2_checker_sets.specs.SavedNumbers.{saved_number}
use Rattle.regalloc2_checker.proofs.Meets.{met-none, met-past, met-at, met-then}
use Rattle.regalloc2_checker.proofs.tables.meet_chunk.Goals as goal

pub loop-t-init : goal.loop-t-init
loop-t-init g c = record {
  few = c.count_below-t-end.ensures.few;
  below = c.count_below-t-end.ensures.below;
  rest = c.count_below-t-end.ensures.rest;
  high = omega arith;
  words = refl;
  met = met-none c.args.sets.now c.args.entries.now c.args.table (64 * c.args.chunk) (64 * c.args.chunk + 0) c.args.bound c.args.before (omega arith)
      c.requires.below;
}

pub word-had-requires : goal.word-had-requires
word-had-requires g c =
    let long = ap (λ (l : List ℕ). length l) c.loop-t.invariant.words in
    omega (arith, long, c.base-base.ensures.within, c.loop-t-test.true, c.loop-t.invariant.few)

pub meet_at-requires-clause-place : goal.meet_at-requires-clause-place
meet_at-requires-clause-place g c =
    omega (arith, c.requires.chunk, c.loop-t-test.true, c.loop-t.invariant.few, c.loop-t.invariant.met.still.long)

pub meet_at-requires-clause-below : goal.meet_at-requires-clause-below
meet_at-requires-clause-below g c = c.loop-t.invariant.met.still.below

pub meet_at-requires-clause-had : goal.meet_at-requires-clause-had
meet_at-requires-clause-had g c =
    let here : c.word-had.result ≡ saved_number c.args.entries.now c.args.table (64 * c.args.chunk + c.loop-t.t) =
    c.word-had.ensures ∙ ap (λ (l : List ℕ). get_or l (c.base-base.result + c.loop-t.t) 0) c.loop-t.invariant.words
    ∙ c.base-base.ensures.words c.loop-t.t (omega (arith, c.loop-t-test.true, c.loop-t.invariant.few)) in
    let less = c.requires.saved (64 * c.args.chunk + c.loop-t.t) (omega (arith, c.requires.chunk, c.loop-t-test.true, c.loop-t.invariant.few)) in
    omega (arith, here, less, c.loop-t.invariant.met.still.more.longer)

pub loop-t-preserved : goal.loop-t-preserved
loop-t-preserved g c =
    let w = c.loop-t.invariant in
    let p : ℕ = 64 * c.args.chunk + c.loop-t.t in
    let here : c.word-had.result ≡ saved_number c.args.entries.now c.args.table p =
    c.word-had.ensures ∙ ap (λ (l : List ℕ). get_or l (c.base-base.result + c.loop-t.t) 0) w.words
    ∙ c.base-base.ensures.words c.loop-t.t (omega (arith, c.loop-t-test.true, w.few)) in
    let small : p < c.args.bound = (let b = w.below (omega (arith, c.loop-t-test.true)) in omega (arith, b, c.loop-t-test.true)) in
    record {
      few = w.few;
      below = w.below;
      rest = w.rest;
      high = omega (arith, c.loop-t-test.true);
      words = c.in_ok-is_less.ensures.words ∙ w.words;
      met = met-then c.args.sets.now c.loop-t.sets c.meet_at.new.sets c.args.entries.now c.loop-t.entries c.meet_at.new.entries c.args.table
          (64 * c.args.chunk) (64 * c.args.chunk + c.loop-t.t) (64 * c.args.chunk + c.loop-t.t) (64 * c.args.chunk + (c.loop-t.t + 1)) c.args.bound
          c.args.before c.loop-t.is_less c.in_ok-is_less.is_less
          (record {
            met = w.met;
            order = omega arith;
            after = omega arith;
            inside = c.requires.bound;
            below = c.requires.below;
            saved = c.requires.saved;
            between = λ i lo hi. absurd (omega (arith, lo, hi));
          })
          (omega arith)
          (met-at c.loop-t.sets c.meet_at.new.sets c.loop-t.entries c.meet_at.new.entries c.args.table p (64 * c.args.chunk + (c.loop-t.t + 1))
          c.args.bound c.word-had.result c.loop-t.is_less c.in_ok-is_less.is_less w.met.still.below small (omega arith)
          (here ∙ sym (w.met.still.saved c.args.table p))
          (record {
            still = c.in_ok-is_less.ensures.still;
            others = c.in_ok-is_less.ensures.others;
            here = c.in_ok-is_less.ensures.met;
            more = c.in_ok-is_less.ensures.less;
            same = c.in_ok-is_less.ensures.same;
          }));
    }

pub returns-clause-met : goal.returns-clause-met
returns-clause-met g c =
    let w = c.loop-t.invariant in
    met-past c.args.sets.now c.loop-t.sets c.args.entries.now c.loop-t.entries c.args.table (64 * c.args.chunk) (64 * c.args.chunk + c.loop-t.t)
    (64 * (c.args.chunk + 1)) c.args.bound c.args.before c.loop-t.is_less (omega (arith, w.high, w.few))
    (λ l. (let r = w.rest (omega (arith, l, w.high, c.loop-t-test.false)) in omega (arith, r, w.high, c.loop-t-test.false)))
    w.met
