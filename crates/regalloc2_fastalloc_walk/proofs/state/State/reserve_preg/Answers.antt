use Rattle.regalloc2_names.specs.Register.{has_register}
use Rattle.std.proofs.Common.{sym, ◌∙◌, refl, ap, inl, inr}
use Rattle.regalloc2_fastalloc_walk.specs.StateView.{tables_of}
use Rattle.regalloc2_fastalloc_walk.proofs.RegsReserved.{shrinks_held, takes_held, reserved_held, known_of}
use Rattle.std.specs.Prelude.{Err}
use Rattle.std.proofs.lemmas.Result.{err_from_is_err_and}
use Rattle.regalloc2_fastalloc_walk.proofs.state.State.reserve_preg.Goals as goal

pub returns-clause-ok : goal.returns-clause-ok
returns-clause-ok g c =
    let r = c.args.preg in
    let t = tables_of c.args.self.now in
    reserved_held t r c.args.positions c.args.inst_regs.now c.remove_available.new.self c.args.claims.now c.reserve.new.self
    (known_of (has_register t.allocatable r) (has_register t.fixed_stack r)
    (sym c.if-not-is_of_machine.false ∙ c.is_of_machine.ensures))
    c.in_ok-reserve.ensures.ok c.remove_available.ensures.removed

pub returns-clause-shrinks : goal.returns-clause-shrinks
returns-clause-shrinks g c = shrinks_held c.args.inst_regs.now c.remove_available.new.self c.args.preg c.args.positions c.remove_available.ensures.removed

pub returns-clause-takes : goal.returns-clause-takes
returns-clause-takes g c = takes_held c.args.inst_regs.now c.remove_available.new.self c.args.preg c.args.positions c.remove_available.ensures.removed

pub returns-clause-awaited : goal.returns-clause-awaited
returns-clause-awaited g c = c.remove_available.ensures.awaited

pub returns-clause-grows : goal.returns-clause-grows
returns-clause-grows g c = c.reserve.ensures.grows

pub returns-clause-only : goal.returns-clause-only
returns-clause-only g c = c.reserve.ensures.only

-- the register was claimed before
pub returns-in_err-reserve : goal.returns-in_err-reserve
returns-in_err-reserve g c =
    let e = err_from_is_err_and c.from_residual.result c.from_residual.ensures.1 in
    record {
      ok = rw e.1 tt;
      shrinks = record { early = λ r h. h; late = λ r h. h; scratch = refl };
      takes = record { early = λ r h. refl; late = λ r h. refl };
      awaited = refl;
      grows = c.reserve.ensures.grows;
      only = c.reserve.ensures.only;
      err = rw (e.1 ∙ ap Err (e.2 ∙ c.in_err-reserve.ensures.err)) tt;
      stops = rw e.1 (λ lacks. inr c.in_err-reserve.ensures.claimed);
    }

-- the register is neither allocatable nor a fixed stack slot
pub returns-then-not-is_of_machine : goal.returns-then-not-is_of_machine
returns-then-not-is_of_machine g c = record {
  ok = tt;
  shrinks = record { early = λ r h. h; late = λ r h. h; scratch = refl };
  takes = record { early = λ r h. refl; late = λ r h. refl };
  awaited = refl;
  grows = record { early = λ r h. h; late = λ r h. h };
  only = record { early = λ r h. inl h; late = λ r h. inl h };
  err = tt;
  stops = λ lacks. inl (sym c.is_of_machine.ensures ∙ c.if-not-is_of_machine.true);
}
