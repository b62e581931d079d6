use Rattle.std.proofs.Common.{◌≡◌, Some, ap, ◌∙◌, refl, subst, ⊎_elim, sym}
use Rattle.std.specs.Prelude.{Option, IfNone, IsSomeAnd, MatchOption, None}
use Rattle.regalloc2_names.specs.Register.{Register}
use Rattle.regalloc2_names.specs.Place.{Place, InRegister}
use Rattle.regalloc2_fastalloc_state.specs.InstRegs.{IsAvailableAt}
use Rattle.regalloc2_fastalloc_state.specs.StateParts.{NoneIsIn}
use Rattle.regalloc2_fastalloc_walk.specs.StateView.{tables_of}
use Rattle.regalloc2_fastalloc_state.specs.declared.positions.Positions.{Positions}
use Rattle.regalloc2_fastalloc_proofs.proofs.Moves.ParallelMovesOrdered.{spare_of, differ_of}
use Rattle.regalloc2_fastalloc_walk.proofs.AvailableCount.{only_first}
use Rattle.regalloc2_fastalloc_walk.proofs.Clashes.{none_is_not_some_of, not_both}
use Rattle.regalloc2_fastalloc_walk.proofs.state.State.scratch_regs.Goals as goal

-- the second scratch place is the second register's, if there is one
second_is : (o : Option Register) (s : Option Place) → MatchOption o (s ≡ None) (λ x. IsSomeAnd s (λ p. p ≡ InRegister x)) → (p : Place) → s ≡ Some p →
    (r : Register) × (p ≡ InRegister r) × (o ≡ Some r)
second_is None s h p e = none_is_not_some_of (sym h ∙ e)
second_is (Some x) None h p e = none_is_not_some_of e
second_is (Some x) (Some q) h p e = (x, (let same : q ≡ p = cc in sym same ∙ h), refl)

no_second : (o : Option Register) (s : Option Place) → MatchOption o (s ≡ None) (λ x. IsSomeAnd s (λ p. p ≡ InRegister x)) → s ≡ None → o ≡ None
no_second None s h e = refl
no_second (Some x) None h e = absurd h
no_second (Some x) (Some q) h e = none_is_not_some_of (sym e)

pub returns-clause-scratch_reserve : goal.returns-clause-scratch_reserve
returns-clause-scratch_reserve g c =
    spare_of (record {
      inst_regs = c.args.inst_regs.now;
      t = tables_of c.args.self.now;
      regs = c.args.self.now.registers;
      class = c.args.class;
      free = c.available_pregs-free.result;
      rest = c.remove.new.self;
      first = c.in-Some.first;
      place = c.reg.result;
      second = c.map.result;
      oldest = c.choose_register.result;
      allocatable = refl;
      dedicated_scratch = refl;
      is_free = λ r e. subst (λ (p : Positions). IsAvailableAt c.args.inst_regs.now p r) c.both.ensures (c.available_pregs-free.ensures.free r e);
      chosen = c.in-Some.ensures.found;
      left = c.remove.ensures.members;
      at_first = c.reg.ensures;
      at_second = second_is c.choose_register.result c.map.result c.map.ensures.cases;
      found = c.choose_register.ensures.found;
    })

pub returns-clause-differ : goal.returns-clause-differ
returns-clause-differ g c =
    differ_of (record {
      inst_regs = c.args.inst_regs.now;
      t = tables_of c.args.self.now;
      regs = c.args.self.now.registers;
      class = c.args.class;
      free = c.available_pregs-free.result;
      rest = c.remove.new.self;
      first = c.in-Some.first;
      place = c.reg.result;
      second = c.map.result;
      oldest = c.choose_register.result;
      allocatable = refl;
      dedicated_scratch = refl;
      is_free = λ r e. subst (λ (p : Positions). IsAvailableAt c.args.inst_regs.now p r) c.both.ensures (c.available_pregs-free.ensures.free r e);
      chosen = c.in-Some.ensures.found;
      left = c.remove.ensures.members;
      at_first = c.reg.ensures;
      at_second = second_is c.choose_register.result c.map.result c.map.ensures.cases;
      found = c.choose_register.ensures.found;
    })

-- the machine's dedicated scratch register comes first
pub returns-in_default-clause-own : goal.returns-in_default-clause-own
returns-in_default-clause-own g c = λ r e. none_is_not_some_of (c.in_default.ensures.own r e)

pub returns-clause-own : goal.returns-clause-own
returns-clause-own g c = λ r e.
    let x : Some c.in-Some.first ≡ Some r = c.in-Some.ensures.own r e in
    let same : c.in-Some.first ≡ r = cc in
    ap (λ (p : Place). Some p) (c.reg.ensures ∙ ap (λ (q : Register). InRegister q) same)

-- a free register would be found, or is the register that was found
pub returns-in_default-clause-all : goal.returns-in_default-clause-all
returns-in_default-clause-all g c = λ r small of_class held free. not_both
    (c.available_pregs-free.ensures.throughout r free) (c.in_default.ensures.none r small of_class held)

pub returns-clause-all : goal.returns-clause-all
returns-clause-all g c = λ r small of_class held free. (
  λ none. none_is_not_some_of (sym none),
  λ none. let gone = no_second c.choose_register.result c.map.result c.map.ensures.cases none in
      let rest = subst (λ (o : Option Register). IfNone o (NoneIsIn c.args.self.now.registers c.args.class c.remove.new.self)) gone
      c.choose_register.ensures.none in
      let same = only_first c.available_pregs-free.result c.remove.new.self c.in-Some.first r (c.remove.ensures.members r)
      (c.available_pregs-free.ensures.throughout r free) (rest r small of_class held) in
      ap (λ (p : Place). Some p) (c.reg.ensures ∙ ap (λ (q : Register). InRegister q) same),
)

-- where there is no register, there aren't two
pub returns-in_default-clause-scratch_reserve : goal.returns-in_default-clause-scratch_reserve
returns-in_default-clause-scratch_reserve g c = λ p h. ⊎_elim (λ (e : None ≡ Some p). none_is_not_some_of e) (λ (e : None ≡ Some p). none_is_not_some_of e) h

pub returns-in_default-clause-differ : goal.returns-in_default-clause-differ
returns-in_default-clause-differ g c = λ p q e f. none_is_not_some_of e
