use Rattle.std.proofs.Common.{inl, sym, ◌∙◌}
use Rattle.regalloc2_fastalloc_proofs.proofs.Moves.ParallelMovesOrdered.{found_or}
use Rattle.regalloc2_fastalloc_walk.proofs.Clashes.{none_is_not_some_of}
use Rattle.regalloc2_fastalloc_walk.proofs.state.State.first_scratch.Goals as goal

-- the machine's dedicated scratch register
pub returns-in-Some : goal.returns-in-Some
returns-in-Some g c =
    let own = sym c.in-Some.is ∙ c.dedicated_scratch.ensures in
    record {
      found = inl (sym own);
      own = λ r e. own ∙ e;
      chosen = λ e. none_is_not_some_of (sym (own ∙ e));
      none = tt;
    }

pub returns-in-None : goal.returns-in-None
returns-in-None g c =
    let lacks = sym c.in-None.is ∙ c.dedicated_scratch.ensures in
    record {
      found = found_or c.args.self.now.registers c.args.class c.args.free c.choose_register.result c.choose_register.ensures.found;
      own = λ r e. none_is_not_some_of (lacks ∙ e);
      chosen = λ e. c.choose_register.ensures.chosen;
      none = c.choose_register.ensures.none;
    }
