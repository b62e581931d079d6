use Rattle.std.proofs.Common.{ℕ, List, sym, ◌∙◌, refl, subst, arith}
use Rattle.regalloc2_names.specs.Place.{Place}
use Rattle.regalloc2_checker.specs.Listing.{listed_move}
use Rattle.regalloc2_checker.specs.TableFacts.{facts_now, IsListed, IsMissingUnlisted}
use Rattle.regalloc2_checker.proofs.RestOfList.{moves_step, moves_done, listed-at}
use Rattle.regalloc2_checker.proofs.TableSteps.{kept-same, kept-twice}
use Rattle.regalloc2_checker.proofs.transfer.make_moves.Goals as goal

pub loop-k-init : goal.loop-k-init
loop-k-init g c = record { kept = kept-same c.args.values.now; now = refl }

pub loop-k-preserved : goal.loop-k-preserved
loop-k-preserved g c = record {
  kept = kept-twice c.args.values.now c.loop-k.values c.make_move.new.values c.loop-k.invariant.kept c.in_ok-make_move.ensures.kept;
  now = sym (moves_step c.args.moves.now c.loop-k.k c.index-moves-k.result (facts_now c.loop-k.values) (facts_now c.make_move.new.values)
      (omega (arith, c.loop-k-test.true)) c.index-moves-k.is
      (rw (← c.places-from.ensures.from, ← c.places-from.ensures.to) c.in_ok-make_move.ensures.now))
      ∙ c.loop-k.invariant.now;
}

pub make_move-requires-clause-missing : goal.make_move-requires-clause-missing
make_move-requires-clause-missing g c = subst IsMissingUnlisted (sym c.loop-k.invariant.kept.places) c.requires.missing

pub make_move-requires-clause-listed : goal.make_move-requires-clause-listed
make_move-requires-clause-listed g c =
    subst (λ (p : Place). IsListed c.loop-k.values.places p) (sym c.places-from.ensures.to)
    (subst (λ (ps : List ℕ). IsListed ps (listed_move c.index-moves-k.result).to) (sym c.loop-k.invariant.kept.places)
    (listed-at c.args.values.now.places c.args.moves.now c.loop-k.k c.index-moves-k.result (omega (arith, c.loop-k-test.true))
    c.index-moves-k.is c.requires.listed))

pub returns : goal.returns
returns g c = record {
  kept = c.loop-k.invariant.kept;
  now = sym (moves_done c.args.moves.now c.loop-k.k (facts_now c.loop-k.values) (omega (arith, c.loop-k-test.false))) ∙ c.loop-k.invariant.now;
}
