use Rattle.std.proofs.Common.{ℕ, ◌≡◌, ◌<◌, ◌++◌, ◌∷◌, [], List, length, refl, sym, ◌∙◌, subst, arith, rules, slice_index_or}
use Rattle.std.proofs.lemmas.List.{get_or_read}
use Rattle.std.proofs.lemmas.List.Elements.{All-get_or}
use Rattle.std.proofs.lemmas.Result.{err_from_is_err_and}
use Rattle.regalloc2_names.specs.Place.{before}
use Rattle.regalloc2_names.specs.Register.{VirtualRegister, no_vreg}
use Rattle.regalloc2_fastalloc_proofs.specs.BranchSteps.{AreOf, ClassMove, GathersEdgeMoves, SpillsArgument, none_gathered, one_gathered, own_argument}
use Rattle.regalloc2_fastalloc_proofs.specs.BranchSteps.{GatherEdge, SpillArgument}
use Rattle.regalloc2_fastalloc_proofs.specs.InstSteps.{StateValue, no_register}
use Rattle.regalloc2_fastalloc_state.specs.StateParts.{AllAtOrAfter, GetsSpillSlot}
use Rattle.regalloc2_fastalloc_proofs.proofs.Evictions.PushedAndRemoved.{same_machine_trans}
use Rattle.regalloc2_fastalloc_walk.specs.OwnDefs.{IsOwnBy}
use Rattle.regalloc2_fastalloc_walk.specs.StateView.{tables_of}
use Rattle.regalloc2_fastalloc_walk.proofs.state.State.gather_edge.Goals.{then-not-has+in_ok-gather_argument, else-not-has}
use Rattle.regalloc2_fastalloc_walk.proofs.Clashes.{not_both}
use Rattle.regalloc2_fastalloc_walk.proofs.state.State.gather_edge.Goals as goal

pub loop-j-init : goal.loop-j-init
loop-j-init g c =
    let at : c.before-point.result ≡ before c.args.own.now.branch = c.before-point.ensures.point (λ e. omega (arith, c.requires.inst)) in
    record {
      done = λ given is. (given, is, none_gathered);
      later = subst (λ (p : ℕ). AllAtOrAfter p c.args.self.now.edits) (sym at) c.requires.later;
      long = refl;
      machine = record { allocatable = refl; fixed_stack = refl; dedicated_scratch = refl; sizes = refl; vregs = refl; num_temp_slots = refl };
    }

pub gather_argument-requires : goal.gather_argument-requires
gather_argument-requires g c =
    let ps : List VirtualRegister = c.args.params.now in
    let vs : List VirtualRegister = c.args.arguments.now in
    let lt : c.loop-j.j < length vs = omega (arith, c.loop-j-test.true, c.requires.counted) in
    let param : c.index-params-j.result ≡ slice_index_or ps c.loop-j.j no_vreg = get_or_read ps c.loop-j.j c.index-params-j.result c.loop-j-test.true
    c.index-params-j.is no_vreg in
    let argument : c.index-arguments-j.result ≡ slice_index_or vs c.loop-j.j no_vreg = get_or_read vs c.loop-j.j c.index-arguments-j.result lt
    c.index-arguments-j.is no_vreg in
    let known_param = All-get_or (λ (v : VirtualRegister). v.number < length c.args.self.now.places.vreg_allocs) ps c.loop-j.j no_vreg c.loop-j-test.true
    c.requires.parameters in
    let known = All-get_or (λ (v : VirtualRegister). v.number < length c.args.self.now.places.vreg_allocs) vs c.loop-j.j no_vreg lt c.requires.arguments in (
      search rules,
      (
        c.loop-j.invariant.later,
        (
          subst (λ (v : VirtualRegister). v.number < length c.loop-j.self.places.vreg_allocs) (sym param) (omega (arith, known_param, c.loop-j.invariant.long)),
          subst (λ (v : VirtualRegister). v.number < length c.loop-j.self.places.vreg_allocs) (sym argument) (omega (arith, known, c.loop-j.invariant.long)),
        ),
      ),
    )

-- an argument that the branch doesn't define goes to its parameter, and an argument that it defines is passed over
pub loop-j-preserved : goal.loop-j-preserved
loop-j-preserved g c =
    let ps : List VirtualRegister = c.args.params.now in
    let vs : List VirtualRegister = c.args.arguments.now in
    let j : ℕ = c.loop-j.j in
    let lt : j < length vs = omega (arith, c.loop-j-test.true, c.requires.counted) in
    let argument : c.index-arguments-j.result ≡ slice_index_or vs j no_vreg = get_or_read vs j c.index-arguments-j.result lt c.index-arguments-j.is no_vreg in
    let m : StateValue = tables_of c.loop-j.self in
    elim c.if-not-has.branch [
      | then-not-has+in_ok-gather_argument w ↦ rw (w.self-is, w.inst_regs-is, w.moves-is) (
          let param : w.index-params-j.result ≡ slice_index_or ps j no_vreg = get_or_read ps j w.index-params-j.result c.loop-j-test.true w.index-params-j.is
          no_vreg in
          let o : StateValue = tables_of w.gather_argument.new.self in
          let y = w.in_ok-gather_argument.ensures.outcome in
          let n : StateValue = y.2.middle in
          let one : VirtualRegister → ClassMove = λ v. record { class = v.class; from = y.1; to = y.0 } in
          record {
            done = λ given is.
                let x = c.loop-j.invariant.done given is in (
                  x.0 ++ one (slice_index_or vs j no_vreg) ∷ [],
                  subst (λ (v : VirtualRegister). AreOf w.gather_argument.new.moves.int w.gather_argument.new.moves.float w.gather_argument.new.moves.vector
                      (x.0 ++ one v ∷ [])) argument (y.3 x.0 x.1),
                  one_gathered j x.0 y.0 y.1 c.loop-j.inst_regs w.gather_argument.new.inst_regs m n o c.loop-j-test.true x.2
                      (subst (λ (v : VirtualRegister). GetsSpillSlot m.slots n.slots v y.0) param y.2.slot) y.2.places y.2.edits y.2.machine y.2.lrus
                      (subst (λ (v : VirtualRegister). SpillsArgument c.before-point.result v y.1 c.loop-j.inst_regs w.gather_argument.new.inst_regs n o)
                      argument y.2.spills)
                      (λ own. let has = c.has.ensures.1 (subst (λ (v : VirtualRegister). IsOwnBy c.args.own.now.defs.now c.args.own.now.branch v)
                      (sym argument) own) in
                      not_both has w.if-not-has.true),
                );
            later = w.in_ok-gather_argument.ensures.step.later;
            long = w.in_ok-gather_argument.ensures.step.long ∙ c.loop-j.invariant.long;
            machine = same_machine_trans (tables_of c.args.self.now) m o c.loop-j.invariant.machine w.in_ok-gather_argument.ensures.step.machine;
          })
      | else-not-has w ↦ rw (w.self-is, w.inst_regs-is, w.moves-is) (record {
        done = λ given is.
            let x = c.loop-j.invariant.done given is in (
              x.0,
              x.1,
              own_argument j x.0 c.loop-j.inst_regs m c.loop-j-test.true x.2
                  (subst (λ (v : VirtualRegister). IsOwnBy c.args.own.now.defs.now c.args.own.now.branch v) argument (c.has.ensures.0 w.if-not-has.false)),
            );
        later = c.loop-j.invariant.later;
        long = c.loop-j.invariant.long;
        machine = c.loop-j.invariant.machine;
      })
    ]

pub returns-clause-outcome : goal.returns-clause-outcome
returns-clause-outcome g c = λ given is.
    let at : c.before-point.result ≡ before c.args.own.now.branch = c.before-point.ensures.point (λ e. omega (arith, c.requires.inst)) in
    let e : c.loop-j.j ≡ length c.args.params.now = omega arith in
    let x = c.loop-j.invariant.done given is in
    let G : ℕ → ℕ → Type 0 = λ p k. GathersEdgeMoves (IsOwnBy c.args.own.now.defs.now c.args.own.now.branch) p c.args.params.now c.args.arguments.now
    c.args.inst_regs.now (tables_of c.args.self.now) given k c.loop-j.inst_regs (tables_of c.loop-j.self) x.0 in (
      x.0,
      x.1,
      subst (λ (p : ℕ). G p (length c.args.params.now)) at (subst (G c.before-point.result) e x.2),
    )

pub returns-clause-step : goal.returns-clause-step
returns-clause-step g c =
    let at : c.before-point.result ≡ before c.args.own.now.branch = c.before-point.ensures.point (λ e. omega (arith, c.requires.inst)) in
    record {
      machine = c.loop-j.invariant.machine;
      later = subst (λ (p : ℕ). AllAtOrAfter p c.loop-j.self.edits) at c.loop-j.invariant.later;
      long = c.loop-j.invariant.long;
      err = search rules;
    }

pub returns-in_err-gather_argument-clause-outcome : goal.returns-in_err-gather_argument-clause-outcome
returns-in_err-gather_argument-clause-outcome g c =
    let at : c.before-point.result ≡ before c.args.own.now.branch = c.before-point.ensures.point (λ e. omega (arith, c.requires.inst)) in
    let vs : List VirtualRegister = c.args.arguments.now in
    let lt : c.loop-j.j < length vs = omega (arith, c.loop-j-test.true, c.requires.counted) in
    let argument : c.index-arguments-j.result ≡ slice_index_or vs c.loop-j.j no_vreg = get_or_read vs c.loop-j.j c.index-arguments-j.result lt
    c.index-arguments-j.is no_vreg in
    let m : StateValue = tables_of c.loop-j.self in
    let e = err_from_is_err_and c.from_residual.result c.from_residual.ensures.1 in
    let F : ℕ → List ClassMove → Type 0 = λ p given. GatherEdge (IsOwnBy c.args.own.now.defs.now c.args.own.now.branch) p c.args.params.now
    c.args.arguments.now c.args.inst_regs.now (tables_of c.args.self.now) given no_register in
    λ given is. rw e.1 (λ same.
    let x = c.loop-j.invariant.done given is in
    let f = c.in_err-gather_argument.ensures.outcome (sym e.2 ∙ same) in
    let S : VirtualRegister → Type 0 = λ v. SpillArgument c.before-point.result v c.loop-j.inst_regs f.0 no_register in
    subst (λ (p : ℕ). F p given) at (record {
      index = c.loop-j.j;
      given = (c.loop-j.inst_regs, x.0);
      middle = m;
      inside = c.loop-j-test.true;
      done = x.2;
      stops = (f.0, f.1, f.2, subst S argument f.3);
    }))
