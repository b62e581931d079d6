use Rattle.std.proofs.Common.{◌≡◌, ◌∙◌, sym, arith, rules, eqb-true, eq-eqb}
use Rattle.std.specs.Prelude.{true}
use Rattle.std.specs.Vec.{vec_len}
use Rattle.regalloc2_index.proofs.Bools.{not_both}
use Rattle.regalloc2_names.specs.Register.{VirtualRegister}
use Rattle.regalloc2_checker.specs.TableFacts.{facts_now}
use Rattle.regalloc2_checker.proofs.OperandErrors.{unknown_fault, incorrect_fault}
use Rattle.regalloc2_checker.proofs.check.check_val.Goals as goal

pub returns-then-is_empty : goal.returns-then-is_empty
returns-then-is_empty g c =
    let none : vec_len c.in_ok-actual.actual ≡ 0 = eqb-true _ _ (sym c.if-is_empty.ensures) in (
      search rules,
      unknown_fault c.args.inst c.args.op c.args.place (λ (v : VirtualRegister). facts_now c.args.values.now c.args.place v ≡ true)
          c.in_ok-actual.actual.items (omega (arith, none, c.in_ok-actual.actual.ok.0)) c.in_ok-actual.ensures,
    )

pub returns : goal.returns
returns g c = (
  search rules,
  incorrect_fault c.args.inst c.args.op c.args.place (λ (v : VirtualRegister). facts_now c.args.values.now c.args.place v ≡ true)
      c.in_ok-actual.actual
      (λ e. not_both _ (eq-eqb (vec_len c.in_ok-actual.actual) 0 (omega (arith, e, c.in_ok-actual.actual.ok.0))) (sym c.if-is_empty.ensures))
      (λ h. not_both _ h (rw c.vreg.ensures at (sym c.holds.ensures ∙ c.if-holds.false))) c.in_ok-actual.ensures,
)
