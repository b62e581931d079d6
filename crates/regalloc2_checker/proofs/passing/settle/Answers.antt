use Rattle.std.proofs.Common.{ℕ, List, length, get_or, ap, sym, ◌∙◌, subst}
use Rattle.std.specs.Prelude.{Option}
use Rattle.regalloc2_checker.specs.Holding.{holds_now, HoldsNow, is_in}
use Rattle.regalloc2_checker.specs.Showing.{read_as}
use Rattle.regalloc2_checker.specs.declared.passing.Passed.{Passed}
use Rattle.regalloc2_checker.proofs.TableLaws.{kept_same}
use Rattle.regalloc2_checker_sets.proofs.Results.{on_ok_as}
use Rattle.regalloc2_checker.proofs.Shown.{read-none, settled-now, holders-within}
use Rattle.regalloc2_checker.proofs.passing.settle.Goals as goal

pub returns-in_default-clause-kept : goal.returns-in_default-clause-kept
returns-in_default-clause-kept g c = kept_same c.args.tables.now

pub returns-in_default-clause-now : goal.returns-in_default-clause-now
returns-in_default-clause-now g c i y l =
    sym (ap (λ (o : Option Passed). holds_now c.args.tables.now i (read_as c.args.tables.now.vregs o y)) c.in_default.is
    ∙ ap (holds_now c.args.tables.now i) (read-none c.args.tables.now.vregs y))

pub holders-requires : goal.holders-requires
holders-requires g c = (c.requires c.in-Some.passed c.in-Some.is).1

pub returns-in_err-holders-clause-kept : goal.returns-in_err-holders-clause-kept
returns-in_err-holders-clause-kept g c = kept_same c.args.tables.now

pub give-requires-clause-vreg : goal.give-requires-clause-vreg
give-requires-clause-vreg g c = (c.requires c.in-Some.passed c.in-Some.is).0

pub give-requires-clause-places : goal.give-requires-clause-places
give-requires-clause-places g c =
    holders-within c.deref.result.now (length c.args.tables.now.places)
    (λ i. holds_now c.args.tables.now i (get_or c.args.tables.now.vregs c.in-Some.passed.argument 0))
    (λ i. ap (λ (hs : List ℕ). is_in hs i) c.deref.ensures.value ∙ c.in_ok-holders.ensures i)

pub returns-clause-now : goal.returns-clause-now
returns-clause-now g c =
    on_ok_as _ _ c.give.result
    (λ ok. subst (λ (o : Option Passed). HoldsNow c.give.new.self (λ i y. holds_now c.args.tables.now i (read_as c.args.tables.now.vregs o y)))
    (sym c.in-Some.is)
    (settled-now c.args.tables.now c.give.new.self c.in-Some.passed c.deref.result.now c.give.ensures.kept.places
    (λ i. ap (λ (hs : List ℕ). is_in hs i) c.deref.ensures.value ∙ c.in_ok-holders.ensures i) ok)) c.give.ensures.now
