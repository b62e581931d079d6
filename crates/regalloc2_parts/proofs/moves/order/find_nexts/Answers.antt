use Rattle.std.proofs.Common.{◌≡◌, ◌<◌, ◌+◌, length, ap, arith, sym, subst}
use Rattle.std.proofs.lemmas.List.Elements.{Contains-get_or}
use Rattle.std.proofs.lemmas.Result.{err_from_is_err_and}
use Rattle.regalloc2_names.specs.Place.{Place}
use Rattle.regalloc2_parts.specs.AtOnce.{ends_of, IsPlace, no_move}
use Rattle.regalloc2_parts.specs.Giving.{from_at, IsWriterOf}
use Rattle.regalloc2_parts.proofs.Lists.{length_ends, read_from}
use Rattle.regalloc2_parts.proofs.Searching.{AreNextsTo, nexts_all, nexts_more}
use Rattle.regalloc2_parts.proofs.moves.order.find_nexts.Goals as goal

pub find_writer_near-found-requires-clause-real : goal.find_writer_near-found-requires-clause-real
find_writer_near-found-requires-clause-real g c =
    let many : length (ends_of c.args.moves.now) ≡ length c.args.moves.now = length_ends c.args.moves.now in
    let low : c.loop-m.m-index < length (ends_of c.args.moves.now) = omega arith in
    subst (λ (p : Place). IsPlace p) (sym (read_from c.args.moves.now c.loop-m.m-index c.m-item.result c.loop-m-test.true c.m-item.is))
    (c.requires.proper _ (Contains-get_or (ends_of c.args.moves.now) c.loop-m.m-index no_move low)).0

pub loop-m-preserved : goal.loop-m-preserved
loop-m-preserved g c =
    let is : IsWriterOf (ends_of c.args.moves.now) (from_at (ends_of c.args.moves.now) c.loop-m.m-index) c.find_writer_near-found.result =
    subst (λ (p : Place). IsWriterOf (ends_of c.args.moves.now) p c.find_writer_near-found.result)
    (read_from c.args.moves.now c.loop-m.m-index c.m-item.result c.loop-m-test.true c.m-item.is) c.find_writer_near-found.ensures in
    subst (λ x. AreNextsTo (ends_of c.args.moves.now) x (c.loop-m.m-index + 1)) (sym c.in_ok-push.ensures.ok)
    (nexts_more (ends_of c.args.moves.now) c.loop-m.nexts.items c.loop-m.m-index c.find_writer_near-found.result c.loop-m.invariant is)

pub find_writer_near-found-requires-clause-sorted : goal.find_writer_near-found-requires-clause-sorted
find_writer_near-found-requires-clause-sorted g c = c.requires.sorted

pub find_writer_near-found-requires-clause-proper : goal.find_writer_near-found-requires-clause-proper
find_writer_near-found-requires-clause-proper g c = c.requires.proper

pub returns-in_err-push : goal.returns-in_err-push
returns-in_err-push g c = let p = err_from_is_err_and c.from_residual.result c.from_residual.ensures.1 in rw p.1 (record { ok = tt })

pub loop-m-init : goal.loop-m-init
loop-m-init g c = record { as_many = ap length c.new-nexts.ensures.items; each = λ k less. absurd (omega (arith, less)) }

pub returns : goal.returns
returns g c =
    let many : length (ends_of c.args.moves.now) ≡ length c.args.moves.now = length_ends c.args.moves.now in
    record {
      ok = nexts_all (ends_of c.args.moves.now) c.loop-m.nexts.items c.loop-m.m-index c.loop-m.invariant
          (omega (arith, many, c.loop-m-test.false, c.loop-m.auto.m-index-end));
    }
