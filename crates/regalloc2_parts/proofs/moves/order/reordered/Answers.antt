use Rattle.std.proofs.Common.{ℕ, List, rules, arith, sym, subst, ◌∙◌}
use Rattle.std.proofs.lemmas.Result.{IfOk-weaker}
use Rattle.regalloc2_parts.specs.AtOnce.{ends_of}
use Rattle.regalloc2_parts.specs.Giving.{AreNexts}
use Rattle.regalloc2_parts.proofs.Lists.{length_ends}
use Rattle.regalloc2_parts.specs.Steps.{IsReordered}
use Rattle.regalloc2_parts.proofs.moves.order.reordered.Goals as goal

pub find_nexts-requires : goal.find_nexts-requires
find_nexts-requires g c = (omega arith, (c.requires.sorted, c.requires.proper))

pub in_turn_order-requires : goal.in_turn_order-requires
in_turn_order-requires g c =
    let ns : AreNexts (ends_of c.args.moves.now) c.as_slice.result.now =
    subst (λ (ks : List ℕ). AreNexts (ends_of c.args.moves.now) ks) (sym c.as_slice.ensures) c.in_ok-nexts.ensures.ok in (
      search rules,
      record {
        apart = c.requires.apart;
        nexts = ns;
        indexed = ns.as_many ∙ length_ends c.args.moves.now;
      },
    )

pub returns : goal.returns
returns g c = IfOk-weaker c.in_turn_order.result _ _
    (λ r is. (c.in_ok-nexts.nexts.items, c.in_ok-nexts.ensures.ok, subst (λ (ks : List ℕ). IsReordered c.args.moves.now ks r) c.as_slice.ensures is))
    c.in_turn_order.ensures
