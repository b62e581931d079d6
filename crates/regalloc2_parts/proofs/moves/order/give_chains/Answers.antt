use Rattle.std.proofs.Common.{◌≡◌, ℕ, ◌<◌, length, replicate, rules, arith, sym, ap, ◌∙◌, subst}
use borrow.Author.Count.{falls}
use Rattle.std.specs.List.{All}
use Rattle.std.proofs.lemmas.List.Elements.{All-nil}
use Rattle.std.proofs.lemmas.Result.{err_from_is_err_and}
use Rattle.regalloc2_parts.specs.declared.moves.order.State.TheVariants.{Todo}
use Rattle.regalloc2_parts.specs.AtOnce.{ends_of, IsOfMoves}
use Rattle.regalloc2_parts.specs.Giving.{state_at}
use Rattle.regalloc2_parts.proofs.Lists.{length_ends}
use Rattle.regalloc2_parts.proofs.Whole.{HasGivenTo, given_none, given_more, given_passed, given_whole}
use Rattle.regalloc2_parts.proofs.moves.order.give_chains.Goals as goal
use Rattle.regalloc2_parts.proofs.moves.order.give_chains.Goals.{in-Todo, in_default, then-matches+in_ok-give_from, else-matches}

pub loop-start-init : goal.loop-start-init
loop-start-init g c =
    let many : length (ends_of c.args.moves.now) ≡ length c.args.moves.now = length_ends c.args.moves.now in
    record {
      given = given_none (ends_of c.args.moves.now) c.args.nexts.now c.args.state.now (ends_of c.in_ok-given.given.items) c.args.chain.now.items
          (c.requires.todo ∙ ap (λ n. replicate n Todo) (sym many)) (ap ends_of c.in_ok-given.ensures.items) c.requires.empty;
      of_moves = subst (λ x. All (IsOfMoves c.args.moves.now) x) (sym c.in_ok-given.ensures.items) (All-nil (IsOfMoves c.args.moves.now));
    }

pub give_from-requires : goal.give_from-requires
give_from-requires g c =
    let many : length (ends_of c.args.moves.now) ≡ length c.args.moves.now = length_ends c.args.moves.now in
    let was : HasGivenTo (ends_of c.args.moves.now) c.args.nexts.now c.loop-start.state (ends_of c.loop-start.given.items) c.loop-start.chain.items
    c.loop-start.start = c.loop-start.invariant.given in
    let todo : state_at c.loop-start.state c.loop-start.start ≡ Todo = elim c.match-matches.branch
    [ in-Todo w ↦ w.in-Todo.is | in_default w ↦ absurd (grind arith) ] in
    let same : length c.loop-start.state ≡ length c.args.moves.now = was.as_many ∙ many in
    let within : c.loop-start.start < length c.args.moves.now = c.loop-start-test.true in (
      search rules,
      (
        search rules,
        record {
          apart = c.requires.apart;
          nexts = c.requires.nexts;
          as_many = same;
          indexed = c.requires.indexed;
          had = was.had;
          none_pending = was.none_pending;
          empty = was.empty;
          start = todo;
          within = within;
          of_moves = c.loop-start.invariant.of_moves;
        },
      ),
    )

pub loop-start-preserved : goal.loop-start-preserved
loop-start-preserved g c =
    let many : length (ends_of c.args.moves.now) ≡ length c.args.moves.now = length_ends c.args.moves.now in
    elim c.if-matches.branch [
      | then-matches+in_ok-give_from w ↦
          let whole : length w.give_from.new.state ≡ length (ends_of c.args.moves.now) = omega arith in
          rw (w.state-is, w.given-is, w.chain-is) (record {
            given = given_more (ends_of c.args.moves.now) c.args.nexts.now c.loop-start.state w.give_from.new.state (ends_of c.loop-start.given.items)
                w.give_from.new.chain.items c.loop-start.chain.items c.loop-start.start (ends_of w.give_from.new.given.items) c.loop-start.invariant.given whole
                w.in_ok-give_from.ensures.given.0.had w.in_ok-give_from.ensures.given.0.none_pending w.in_ok-give_from.ensures.given.0.empty
                w.in_ok-give_from.ensures.given.0.goes_on w.in_ok-give_from.ensures.given.1;
            of_moves = w.in_ok-give_from.ensures.given.0.of_moves;
          })
      | else-matches w ↦
          let none : state_at c.loop-start.state c.loop-start.start ≡ Todo →
          ⊥ = elim c.match-matches.branch [ in-Todo v ↦ absurd (grind arith) | in_default v ↦ v.in_default.not-Todo ] in
          rw (w.state-is, w.given-is, w.chain-is) (record {
            given = given_passed (ends_of c.args.moves.now) c.args.nexts.now c.loop-start.state (ends_of c.loop-start.given.items) c.loop-start.chain.items
                c.loop-start.start c.loop-start.invariant.given none;
            of_moves = c.loop-start.invariant.of_moves;
          })
    ]

pub returns : goal.returns
returns g c =
    let many : length (ends_of c.args.moves.now) ≡ length c.args.moves.now = length_ends c.args.moves.now in
    let end : c.loop-start.start ≡ length (ends_of c.args.moves.now) = omega arith in
    record {
      order = (
        given_whole (ends_of c.args.moves.now) c.args.nexts.now c.loop-start.state (ends_of c.loop-start.given.items) c.loop-start.chain.items
            (c.requires.indexed ∙ sym many)
            (subst (λ n. HasGivenTo (ends_of c.args.moves.now) c.args.nexts.now c.loop-start.state (ends_of c.loop-start.given.items) c.loop-start.chain.items
            n) end c.loop-start.invariant.given),
        c.loop-start.invariant.of_moves,
      );
    }

pub returns-in_err-give_from : goal.returns-in_err-give_from
returns-in_err-give_from g c =
    let p = err_from_is_err_and c.from_residual-in_err-give_from.result c.from_residual-in_err-give_from.ensures.1 in
    rw p.1 (record { order = tt })

pub bounds : goal.bounds
bounds g c = subst (λ (n : ℕ). c.loop-start.start < n) (sym (c.loop-start.invariant.given.as_many ∙ length_ends c.args.moves.now)) c.loop-start-test.true

pub loop-start-smaller : goal.loop-start-smaller
loop-start-smaller g c = falls (length c.args.moves.now) c.loop-start.start c.loop-start-test.true
