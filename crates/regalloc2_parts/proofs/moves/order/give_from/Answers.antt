use Rattle.std.proofs.Common.{◌≡◌, ℕ, ◌<◌, length, rules, arith, lit<, sym, ◌∙◌, subst}
use Rattle.std.proofs.lemmas.Result.{err_from_is_err_and, on_ok_weaker}
use Rattle.regalloc2_parts.specs.AtOnce.{ends_of}
use Rattle.regalloc2_parts.specs.Giving.{HasRings, AreRingsDone, HasGivenWhole}
use Rattle.regalloc2_parts.proofs.Lists.{length_ends}
use Rattle.regalloc2_parts.proofs.Rings.{rings_follow}
use Rattle.regalloc2_parts.proofs.Whole.{whole_along, given_on}
use Rattle.regalloc2_parts.proofs.moves.order.give_from.Goals as goal

pub follow-requires : goal.follow-requires
follow-requires g c = (
  lit< tt,
  record {
    as_many = c.requires.as_many ∙ sym c.requires.indexed;
    none_pending = c.requires.none_pending;
    empty = c.requires.empty;
    start = c.requires.start;
    within = subst (λ (n : ℕ). c.args.start < n) (sym c.requires.indexed) c.requires.within;
  },
)

pub returns-in_err-stop : goal.returns-in_err-stop
returns-in_err-stop g c =
    let p = err_from_is_err_and c.from_residual.result c.from_residual.ensures.1 in
    rw p.1 (record { given = tt })

pub open_ring-requires : goal.open_ring-requires
open_ring-requires g c =
    let given = c.args.given.now.items in
    let st = c.follow.new.state in
    let many : length (ends_of given) ≡ length given = length_ends given in
    let same : length st ≡ length c.args.state.now = omega arith in
    let had : HasGivenWhole (ends_of c.args.moves.now) c.args.nexts.now st (ends_of given) =
    whole_along (ends_of c.args.moves.now) c.args.nexts.now c.args.state.now st (ends_of given) c.requires.had c.in_ok-stop.ensures.same
    c.in_ok-stop.ensures.goes_on same in
    let rings : (had : HasRings c.args.nexts.now st (length (ends_of given))) × AreRingsDone st had.rings =
    rings_follow c.args.nexts.now c.args.state.now st (length (ends_of given)) c.requires.had.rings c.requires.none_pending
    (c.requires.as_many ∙ sym c.requires.indexed) c.in_ok-stop.ensures.same c.in_ok-stop.ensures.goes_on same in (
      lit< tt,
      (
        search rules,
        record {
          apart = c.requires.apart;
          nexts = c.requires.nexts;
          as_many = same ∙ c.requires.as_many;
          indexed = c.requires.indexed;
          had = had;
          rings = subst (λ (n : ℕ). (met : HasRings c.args.nexts.now st n) × AreRingsDone st met.rings) many rings;
          chain = c.in_ok-stop.ensures.chain;
          link = c.in_ok-stop.ensures.link;
          stops = c.in_ok-stop.ensures.stops;
          of_moves = c.requires.of_moves;
        },
      ),
    )

pub returns-in_err-ring : goal.returns-in_err-ring
returns-in_err-ring g c =
    let p = err_from_is_err_and c.from_residual-in_err-ring.result c.from_residual-in_err-ring.ensures.1 in
    rw p.1 (record { given = tt })

pub give_chain-requires : goal.give_chain-requires
give_chain-requires g c = (
  lit< tt,
  (
    search rules,
    record {
      apart = c.requires.apart;
      nexts = c.requires.nexts;
      as_many = c.open_ring.auto.state ∙ c.follow.auto.state ∙ c.requires.as_many;
      indexed = c.requires.indexed;
      giving = c.in_ok-ring.ensures.giving.0;
      of_moves = c.in_ok-ring.ensures.giving.2;
    },
  ),
)

pub returns : goal.returns
returns g c = record {
  given = on_ok_weaker c.give_chain.result
      (λ h. given_on c.args.moves.now c.args.nexts.now c.args.state.now c.open_ring.new.state c.give_chain.new.state c.give_chain.new.chain.items
      c.give_chain.new.given.items c.args.start
      (λ k n. c.in_ok-ring.ensures.giving.1 k (c.in_ok-stop.ensures.goes_on k n)) (c.in_ok-ring.ensures.giving.1 c.args.start c.in_ok-stop.ensures.begun) h)
      c.give_chain.ensures.given;
}
