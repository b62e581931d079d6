use Rattle.std.proofs.lemmas.Result.{IfOk-from_err}
use Rattle.std.proofs.Common.{ℕ, inl, inr, arith, sym, subst, get_or}
use Rattle.std.proofs.lemmas.Bool.{cases_eq}
use Rattle.regalloc2_checker.specs.Holding.{IsHome}
use Rattle.regalloc2_checker.proofs.Holders.{homes-same, homes-then, home-kept}
use Rattle.regalloc2_checker.proofs.tables.note_all_places.Goals as goal

pub loop-k-init : goal.loop-k-init
loop-k-init g c = record { more = homes-same c.args.homes.now; noted = λ j i less is. absurd (omega (arith, less)) }

pub loop-k-preserved : goal.loop-k-preserved
loop-k-preserved g c = record {
  more = homes-then c.args.homes.now c.loop-k.homes c.note_places.new.homes c.loop-k.invariant.more c.in_ok-note_places.ensures.more;
  noted = λ j i less is. elim (cases_eq j c.loop-k.k) [
    | inl e ↦ subst (λ (n : ℕ). IsHome c.args.vregs.now c.note_places.new.homes i (get_or c.args.members.now n 0)) (sym e) (c.in_ok-note_places.ensures.noted i is)
    | inr n ↦ home-kept c.args.vregs.now c.loop-k.homes c.note_places.new.homes i (get_or c.args.members.now j 0) c.in_ok-note_places.ensures.more
        (c.loop-k.invariant.noted j i (omega (arith, less, n)) is)
  ];
}

pub returns-clause-noted : goal.returns-clause-noted
returns-clause-noted g c = λ j i less is. c.loop-k.invariant.noted j i (omega (arith, less, c.loop-k-test.false)) is

pub returns-in_err-note_places-clause-noted : goal.returns-in_err-note_places-clause-noted
returns-in_err-note_places-clause-noted g c = IfOk-from_err c.from_residual.result _ c.from_residual.ensures.0
