use Rattle.std.proofs.Common.{◌≡◌, ◌≢◌, Bool, refl, sym, ◌∙◌, subst, rules}
use Rattle.std.specs.Prelude.{not}
use Rattle.std.proofs.lemmas.Result.{MatchResult-weaker}
use Rattle.regalloc2_names.specs.declared.RegClass.{RegClass}
use Rattle.regalloc2_names.specs.Place.{Place, NoPlace, is_place}
use Rattle.regalloc2_fastalloc_state.specs.StateParts.{alloc_of, SetsAlloc}
use Rattle.regalloc2_fastalloc_proofs.specs.InstSteps.{StateValue, AddMoveIf, AddsMoveIf, no_register}
use Rattle.regalloc2_fastalloc_walk.specs.StateView.{tables_of}
use Rattle.regalloc2_fastalloc_proofs.specs.BlockStart.{nowhere, comes}
use Rattle.regalloc2_carry.proofs.Forms.{NoPlace-from_test, NoPlace-not_false}
use Rattle.regalloc2_fastalloc_walk.proofs.state.State.reload_param.Goals as goal

pub returns-then-is_none-clause-outcome : goal.returns-then-is_none-clause-outcome
returns-then-is_none-clause-outcome g c =
    nowhere (sym c.current_alloc-current.ensures.place ∙ NoPlace-from_test c.current_alloc-current.result (sym c.is_none.ensures ∙ c.if-is_none.true)) refl refl

pub returns-clause-outcome : goal.returns-clause-outcome
returns-clause-outcome g c =
    let t : StateValue = tables_of c.args.self.now in
    let m : StateValue = record t { places = c.set_alloc.new.self; slots = c.get_spillslot.new.self } in
    let q : Place = alloc_of c.args.self.now.places c.args.param.number in
    let s : Place = c.in_ok-slot.slot in
    let there : q ≢ NoPlace = λ e. NoPlace-not_false c.current_alloc-current.result (c.current_alloc-current.ensures.place ∙ e)
    (sym c.is_none.ensures ∙ c.if-is_none.false) in
    let moved : c.ne-is_moved.result ≡ not (is_place s c.current_alloc-current.result) = search rules in
    MatchResult-weaker c.add_move_if.result c.add_move_if.ensures.outcome
    (λ v made.
    let S : RegClass → Bool → Place → Type 0 = λ k b p. AddsMoveIf c.args.point k b s p c.args.inst_regs.now c.add_move_if.new.inst_regs m
    (tables_of c.add_move_if.new.self) in
    let one : S c.args.param.class c.ne-is_moved.result c.current_alloc-current.result = subst
    (λ (k : RegClass). S k c.ne-is_moved.result
    c.current_alloc-current.result) c.class.ensures made in
    let two : S c.args.param.class (not (is_place s c.current_alloc-current.result))
    c.current_alloc-current.result = subst (λ (b : Bool). S c.args.param.class b c.current_alloc-current.result) moved one in
    comes s m there c.in_ok-slot.ensures.ok
    (subst (λ (p : Place). SetsAlloc c.args.self.now.places c.set_alloc.new.self c.args.param p) c.none.ensures c.set_alloc.ensures.settled) refl
    (record {
      allocatable = refl;
      fixed_stack = refl;
      dedicated_scratch = refl;
      sizes = c.get_spillslot.ensures.sizes;
      vregs = c.get_spillslot.ensures.vregs;
      num_temp_slots = c.get_spillslot.ensures.num_temp_slots;
    })
    refl (subst (λ (p : Place). S c.args.param.class (not (is_place s p)) p) c.current_alloc-current.ensures.place two))
    (λ e stops lacks.
    let S : RegClass → Bool → Place → Type 0 = λ k b p. AddMoveIf c.args.point k b s p c.args.inst_regs.now m no_register in
    let one : S c.args.param.class c.ne-is_moved.result c.current_alloc-current.result = subst
    (λ (k : RegClass). S k c.ne-is_moved.result
    c.current_alloc-current.result) c.class.ensures (stops lacks) in
    let two : S c.args.param.class (not (is_place s c.current_alloc-current.result))
    c.current_alloc-current.result = subst (λ (b : Bool). S c.args.param.class b c.current_alloc-current.result) moved one in
    comes s m there c.in_ok-slot.ensures.ok
    (subst (λ (p : Place). SetsAlloc c.args.self.now.places c.set_alloc.new.self c.args.param p) c.none.ensures c.set_alloc.ensures.settled) refl
    (record {
      allocatable = refl;
      fixed_stack = refl;
      dedicated_scratch = refl;
      sizes = c.get_spillslot.ensures.sizes;
      vregs = c.get_spillslot.ensures.vregs;
      num_temp_slots = c.get_spillslot.ensures.num_temp_slots;
    })
    refl (subst (λ (p : Place). S c.args.param.class (not (is_place s p)) p) c.current_alloc-current.ensures.place two))
