use Rattle.std.proofs.Common.{ℕ, ◌≡◌, ◌<◌, Bool, true, false, List, get_or, length, ap, refl, sym, subst, ◌∙◌, arith, below_more}
use Rattle.std.proofs.lemmas.Bool.{OnTrue_at, false≢true}
use Rattle.regalloc2_checker.specs.Swept.{done_at}
use Rattle.regalloc2_checker.proofs.Queues.{alike-same}
use Rattle.regalloc2_checker.proofs.Sweeps.{further-twice}
use Rattle.regalloc2_checker.proofs.TransferFollowsFacts.{named_same}
use Rattle.regalloc2_checker.proofs.sweep.finish_below.Goals as goal

pub loop-b-preserved : goal.loop-b-preserved
loop-b-preserved g c =
    let inv = c.loop-b.invariant in
    let p = c.in_ok-finish.ensures in
    let b : ℕ = c.loop-b.b in
    let rs : List Bool = c.args.sweep.now.state.reached.items in
    let now : List Bool = c.loop-b.sweep.state.reached.items in
    let after : List Bool = c.finish.new.sweep.is_done.items in
    let here : get_or rs b false ≡ true → done_at after b ≡ true = λ r.
    subst (λ (n : ℕ). get_or now n false ≡ true → done_at after n ≡ true) c.new.ensures (OnTrue_at c.if-not-branch.false p.here)
    (ap (λ (xs : List Bool). get_or xs b false) inv.further.reached ∙ r) in
    record {
      within = inv.within;
      low = omega (arith, c.loop-b-test.true, inv.within);
      further = further-twice c.args.sweep.now.state.values c.loop-b.sweep.state.values c.finish.new.sweep.state.values rs now
          c.finish.new.sweep.state.reached.items c.args.sweep.now.is_done.items c.loop-b.sweep.is_done.items after inv.further p.further;
      queue = p.queue ∙ inv.queue;
      swept = λ vs s. OnTrue_at c.if-not-branch.false p.swept vs (inv.swept vs s);
      all = λ none. below_more _ _ (λ n less r. p.further.kept n (inv.all none n less r)) here;
    }

pub loop-b-init : goal.loop-b-init
loop-b-init g c = record {
  within = c.num_blocks-b-end.ensures.count;
  low = omega arith;
  further = record { alike = alike-same c.args.sweep.now.state.values; reached = refl; size = refl; kept = λ b done. done };
  queue = refl;
  swept = λ vs s. s;
  all = λ none b less r. absurd (omega (arith, less));
}

pub loop-b-preserved-then-not-is_below : goal.loop-b-preserved-then-not-is_below
loop-b-preserved-then-not-is_below g c =
    let inv = c.loop-b.invariant in
    record {
      within = inv.within;
      low = omega (arith, c.loop-b-test.true, inv.within);
      further = inv.further;
      queue = inv.queue;
      swept = inv.swept;
      all = λ none. absurd (false≢true (sym c.if-not-is_below.true ∙ c.is_below.ensures none));
    }

pub returns : goal.returns
returns g c =
    let inv = c.loop-b.invariant in
    record {
      further = inv.further;
      queue = inv.queue;
      swept = inv.swept;
      all = λ none b less r. inv.all none b (omega (arith, less, c.loop-b-test.false, inv.within)) r;
    }

pub returns-then-not-branch-clause-further : goal.returns-then-not-branch-clause-further
returns-then-not-branch-clause-further g c =
    let inv = c.loop-b.invariant in
    further-twice c.args.sweep.now.state.values c.loop-b.sweep.state.values c.finish.new.sweep.state.values c.args.sweep.now.state.reached.items
    c.loop-b.sweep.state.reached.items c.finish.new.sweep.state.reached.items c.args.sweep.now.is_done.items c.loop-b.sweep.is_done.items
    c.finish.new.sweep.is_done.items inv.further c.in_ok-finish.ensures.further

pub returns-then-not-branch-clause-queue : goal.returns-then-not-branch-clause-queue
returns-then-not-branch-clause-queue g c = c.in_ok-finish.ensures.queue ∙ c.loop-b.invariant.queue

pub finish-requires : goal.finish-requires
finish-requires g c = λ κs l.
    let tables = c.requires.1.1.1.1 in
    let on = c.loop-b.invariant.further in
    let less : c.new.result < length (g.F.Function.function c.args.by.now.f.now).blocks = omega (arith, c.new.ensures, c.loop-b-test.true, c.loop-b.invariant.within)
    in (
      l.0,
      (
        l.1,
        (
          c.requires.1.1.0,
          (
            c.requires.1.1.1.0,
            (
              record {
                named = named_same _ g.o c.args.sweep.now.state.values c.loop-b.sweep.state.values on.alike.places on.alike.vregs tables.named;
                count = on.alike.count ∙ tables.count;
                reached = ap length on.reached ∙ tables.reached;
                done = on.size ∙ tables.done;
              },
              less,
            ),
          ),
        ),
      ),
    )

pub returns-then-not-branch-clause-swept : goal.returns-then-not-branch-clause-swept
returns-then-not-branch-clause-swept g c = tt

pub returns-then-not-branch-clause-all : goal.returns-then-not-branch-clause-all
returns-then-not-branch-clause-all g c = tt
