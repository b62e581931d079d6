use Rattle.std.proofs.Common.{ℕ, ◌<◌, length, List, subst, sym}
use Rattle.std.specs.Prelude.{◌⊎◌, ◌↔◌, Contains}
use Rattle.std.proofs.lemmas.Result.{err_from_is_err_and}
use Rattle.regalloc2_function.specs.Views.{output_of}
use Rattle.regalloc2_checker.specs.Cells.{IsSlotTaken, IsTakenByInst, IsTakenByMove, IsTakenByLocation, move_of_index}
use Rattle.regalloc2_checker.proofs.AddedSlots.{adds_both, from_none}
use Rattle.regalloc2_checker.proofs.cells.named_slots.Goals as goal

pub returns-in_err-test_locations-clause-fault : goal.returns-in_err-test_locations-clause-fault
returns-in_err-test_locations-clause-fault g c =
    let p = err_from_is_err_and c.from_residual-in_err-test_locations.result c.from_residual-in_err-test_locations.ensures.1 in
    rw (p.1, p.2) (c.in_err-test_locations.ensures.fault (g.F.Function.function c.args.f.now))

pub returns-clause-named : goal.returns-clause-named
returns-clause-named g c =
    let f = g.F.Function.function c.args.f.now in
    let out = output_of c.args.output.now in
    let P : ℕ → ℕ → Type 0 = λ n u. (i : ℕ) × (i < length f.insts) × IsTakenByInst f out i n u in
    let Q : ℕ → ℕ → Type 0 = λ n u. (k : ℕ) × (k < length out.edits) × IsTakenByMove f (move_of_index out k) n u in
    let R : ℕ → ℕ → Type 0 = λ n u. (k : ℕ) × (k < length out.debug_locations) × IsTakenByLocation out k n u in
    subst (λ (slots : List (ℕ × ℕ)). (n u : ℕ) → Contains slots (n, u) ↔ IsSlotTaken f out n u) (sym c.into_slots.ensures)
    (from_none (λ n u. P n u ⊎ (Q n u ⊎ R n u)) c.in_ok-named.named c.test_locations.new.named c.in_ok-named.ensures
    (adds_both P (λ n u. Q n u ⊎ R n u) c.in_ok-named.named c.test_insts.new.named c.test_locations.new.named c.in_ok-test_insts.ensures.named
    (adds_both Q R c.test_insts.new.named c.test_moves.new.named c.test_locations.new.named c.in_ok-test_moves.ensures.named
    c.in_ok-test_locations.ensures.named)))

pub returns-in_err-test_insts-clause-fault : goal.returns-in_err-test_insts-clause-fault
returns-in_err-test_insts-clause-fault g c =
    let p = err_from_is_err_and c.from_residual-in_err-test_insts.result c.from_residual-in_err-test_insts.ensures.1 in rw (p.1, p.2) c.in_err-test_insts.ensures.fault

pub returns-in_err-test_moves-clause-fault : goal.returns-in_err-test_moves-clause-fault
returns-in_err-test_moves-clause-fault g c =
    let p = err_from_is_err_and c.from_residual-in_err-test_moves.result c.from_residual-in_err-test_moves.ensures.1 in rw (p.1, p.2) c.in_err-test_moves.ensures.fault

pub returns-clause-fault : goal.returns-clause-fault
returns-clause-fault g c = tt
