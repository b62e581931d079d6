use Rattle.std.proofs.Common.{ℕ, ◌<◌, ◌≤◌, Bool, List, MatchBool, length, rules, tests, arith, subst, sym}
use Rattle.std.specs.List.{AllWithin, HoldsAt}
use Rattle.std.proofs.lemmas.Iterator.{cases_from_all, YieldsList-from_slice}
use Rattle.std.proofs.lemmas.Bool.{false≢true}
use Rattle.regalloc2_parts.proofs.moves.order.in_turn_order.Goals as goal
use Rattle.regalloc2_parts.proofs.moves.order.in_turn_order.Goals.{then-has_cycle, else-has_cycle}

pub give_all-requires : goal.give_all-requires
give_all-requires g c = (search rules, (c.requires.apart, (c.requires.nexts, c.requires.indexed)))

pub returns-then-all : goal.returns-then-all
returns-then-all g c =
    let nexts : List ℕ = c.args.nexts.now in
    let cases : MatchBool c.all.result (AllWithin (λ (n : ℕ). length nexts ≤ n) nexts 0 (length nexts))
    ((k : ℕ) × (k < length nexts) × HoldsAt (λ (n : ℕ). Unit {0}) nexts k) =
    cases_from_all _ _ c.all.result (λ (n : ℕ). length nexts ≤ n) (λ (n : ℕ). Unit {0}) c.all.ensures.ran
    (YieldsList-from_slice nexts c.iter.ensures.rest) (λ x q k. search (rules, tests)) (λ x q k. tt) in
    let past : AllWithin (λ (n : ℕ). length nexts ≤ n) nexts 0 (length nexts) =
    subst (λ (b : Bool). MatchBool b (AllWithin (λ (n : ℕ). length nexts ≤ n) nexts 0 (length nexts))
    ((k : ℕ) × (k < length nexts) × HoldsAt (λ (n : ℕ). Unit {0}) nexts k)) c.if-all.true cases in
    λ k less. past k 0 (omega arith) less

pub returns : goal.returns
returns g c =
    let given = c.in_ok-given.given.items in
    elim c.if-has_cycle.branch [
      | then-has_cycle w ↦ rw w.result-is (record {
        given = given;
        order = c.in_ok-given.ensures.order.0;
        of_moves = c.in_ok-given.ensures.order.1;
        turned = c.turn_round.ensures;
        more = λ e. omega arith;
        few = λ e. absurd (false≢true (sym e));
      })
      | else-has_cycle w ↦ rw w.result-is (record {
        given = given;
        order = c.in_ok-given.ensures.order.0;
        of_moves = c.in_ok-given.ensures.order.1;
        turned = c.turn_round.ensures;
        more = λ e. absurd (false≢true e);
        few = λ e. omega arith;
      })
    ]
