use Rattle.std.proofs.Common.{◌≡◌, ◌∷◌, ◌++◌, [], slice_set, arith, sym, ◌∙◌, subst}
use Rattle.std.proofs.lemmas.List.{length-set}
use Rattle.regalloc2_parts.specs.declared.moves.order.State.TheVariants.{Todo, Pending}
use Rattle.regalloc2_parts.specs.Giving.{state_at, number_at}
use Rattle.regalloc2_parts.proofs.Following.{IsFollowing, todo_falls, follows_more, follows_none}
use Rattle.regalloc2_parts.proofs.moves.order.follow.Goals as goal
use Rattle.regalloc2_parts.proofs.moves.order.follow.Goals.{in-Todo, in_default}

pub loop-at-smaller : goal.loop-at-smaller
loop-at-smaller g c =
    let todo : state_at c.loop-at.state c.loop-at.at ≡ Todo = elim c.match-matches.branch [ in-Todo w ↦ w.in-Todo.is | in_default w ↦ absurd (grind arith) ] in
    todo_falls c.loop-at.state c.loop-at.at (omega arith) todo

pub loop-at-preserved : goal.loop-at-preserved
loop-at-preserved g c =
    let todo : state_at c.loop-at.state c.loop-at.at ≡ Todo = elim c.match-matches.branch [ in-Todo w ↦ w.in-Todo.is | in_default w ↦ absurd (grind arith) ] in
    let more : IsFollowing c.args.nexts.now c.args.state.now (slice_set c.loop-at.state c.loop-at.at Pending) (c.loop-at.chain.items ++ c.loop-at.at ∷ [])
    c.args.start (number_at c.args.nexts.now c.loop-at.at) =
    follows_more c.args.nexts.now c.args.state.now c.loop-at.state c.loop-at.chain.items c.args.start c.loop-at.at c.loop-at.invariant.1 c.loop-at.invariant.0
    (omega arith) todo in (
      length-set c.loop-at.state c.loop-at.at Pending ∙ c.loop-at.invariant.0,
      subst (λ x. IsFollowing c.args.nexts.now c.args.state.now (slice_set c.loop-at.state c.loop-at.at Pending) x c.args.start
          (number_at c.args.nexts.now c.loop-at.at)) (sym c.in_ok-push.ensures.ok) more,
    )

pub loop-at-init : goal.loop-at-init
loop-at-init g c = (
  c.requires.as_many,
  follows_none c.args.nexts.now c.args.state.now c.args.chain.now.items c.args.start c.requires.empty c.requires.none_pending c.requires.as_many,
)

pub bounds : goal.bounds
bounds g c = omega (arith, c.loop-at-test.true, c.loop-at.invariant.0, c.requires.as_many)

pub bounds-nexts-at : goal.bounds-nexts-at
bounds-nexts-at g c = c.loop-at-test.true

pub bounds-state-at : goal.bounds-state-at
bounds-state-at g c = omega (arith, c.loop-at-test.true, c.loop-at.invariant.0, c.requires.as_many)

pub returns-after-loop-at-clause-chain : goal.returns-after-loop-at-clause-chain
returns-after-loop-at-clause-chain g c = c.loop-at.invariant.1.is_chain

pub returns-after-loop-at-clause-link : goal.returns-after-loop-at-clause-link
returns-after-loop-at-clause-link g c = c.loop-at.invariant.1.link

pub returns-after-loop-at-clause-same : goal.returns-after-loop-at-clause-same
returns-after-loop-at-clause-same g c = c.loop-at.invariant.1.same

pub returns-after-loop-at-clause-goes_on : goal.returns-after-loop-at-clause-goes_on
returns-after-loop-at-clause-goes_on g c = c.loop-at.invariant.1.on

pub returns-after-loop-at-clause-stops : goal.returns-after-loop-at-clause-stops
returns-after-loop-at-clause-stops g c = λ low. absurd (omega (arith, low, c.loop-at-test.false))

pub returns-else-matches-clause-chain : goal.returns-else-matches-clause-chain
returns-else-matches-clause-chain g c = c.loop-at.invariant.1.is_chain

pub returns-else-matches-clause-link : goal.returns-else-matches-clause-link
returns-else-matches-clause-link g c = c.loop-at.invariant.1.link

pub returns-else-matches-clause-same : goal.returns-else-matches-clause-same
returns-else-matches-clause-same g c = c.loop-at.invariant.1.same

pub returns-else-matches-clause-goes_on : goal.returns-else-matches-clause-goes_on
returns-else-matches-clause-goes_on g c = c.loop-at.invariant.1.on
