use Rattle.std.proofs.Common.{Bool, List, ℕ, ◌≡◌, ◌+◌, ◌-◌, ◌<◌, ◌≤◌, inl, length, refl, sym, ap, ◌∙◌, subst, arith, slice_index}
use Rattle.std.proofs.lemmas.List.Sums.{sum_by_more}
use Rattle.std.proofs.lemmas.Result.{err_from_is_err_and}
use Rattle.std.specs.Prelude.{Result, Err}
use Rattle.regalloc2_names.specs.declared.RegAllocError.{RegAllocError}
use Rattle.regalloc2_names.specs.Place.{before}
use Rattle.regalloc2_index.specs.Range.{Span}
use Rattle.regalloc2_function.specs.FunctionValue.{FunctionValue, block_at, inst_at, no_inst}
use Rattle.regalloc2_function.proofs.Following.{end_within}
use Rattle.regalloc2_fastalloc_state.specs.OutOfResources.{IsResourceError, SlotsExhaustedWith}
use Rattle.regalloc2_fastalloc_state.specs.StateParts.{AllAtOrAfter}
use Rattle.regalloc2_fastalloc_proofs.specs.InstSteps.{StateValue, no_register}
use Rattle.regalloc2_fastalloc_walk.specs.StateView.{tables_of, IsBranchStepAt}
use Rattle.regalloc2_fastalloc_walk.specs.declared.state.State.{State}
use Rattle.regalloc2_fastalloc_proofs.specs.BranchSteps.{AddsTempSlotsAtMost}
use Rattle.regalloc2_fastalloc_proofs.specs.BlockSteps.{AllocsInstInBlock, AllocInstInBlock, AllocsBlockInsts, DefinesBelow, at_end, one_in, temp_slots_at}
use Rattle.regalloc2_fastalloc_proofs.specs.BlockSteps.{offset_of}
use Rattle.regalloc2_fastalloc_proofs.proofs.Safety.StateKept.{adds_temp_slots_refl, adds_temp_slots_trans, apart_kept, lacks_all, temp_slots_so_far}
use Rattle.regalloc2_analysis.specs.LiveRanges.LiveRanges.{IsWanted}
use Rattle.regalloc2_fastalloc_proofs.specs.Located.{LocatedAreUsed}
use Rattle.regalloc2_fastalloc_proofs.proofs.Debug.ChangesCounted.{insts_watched}
use Rattle.regalloc2_fastalloc_proofs.proofs.Debug.LocatedVRegsAreUsed.{inst_located}
use Rattle.regalloc2_fastalloc_walk.specs.Findings.{IsFound}
use Rattle.regalloc2_fastalloc_walk.proofs.state.State.alloc_block.Goals as goal

pub first-requires : goal.first-requires
first-requires g c =
    let f : FunctionValue = g.F.Function.function c.args.cx.now.f.now in
    let some = (c.requires.well_formed.1.follow c.args.block c.requires.block).0 in
    subst (λ (r : Span). r.first < r.end) (sym c.block_insns-range.ensures) some

pub loop-i-init : goal.loop-i-init
loop-i-init g c =
    let f : FunctionValue = g.F.Function.function c.args.cx.now.f.now in
    let t : StateValue = tables_of c.args.self.now in
    let end : c.index-i.result ≡ (block_at f c.args.block).range.end = c.index-i.ensures ∙ c.end.ensures
    ∙ ap (λ (r : Span). r.end) c.block_insns-range.ensures in
    let first : c.index-first.result ≡ (block_at f c.args.block).range.first = c.index-first.ensures ∙ c.first.ensures
    ∙ ap (λ (r : Span). r.first) c.block_insns-range.ensures in
    let some = (c.requires.well_formed.1.follow c.args.block c.requires.block).0 in
    let within = end_within f c.requires.well_formed.1.follow c.args.block c.requires.block in
    let P : ℕ → Type 0 = λ n. AllocsBlockInsts f c.args.block c.args.allocs.now t n c.args.allocs.now t in
    let Q : ℕ → Type 0 = λ n. AllAtOrAfter (before n) c.args.self.now.edits in
    record {
      first = first;
      from = omega (arith, first, end, some);
      within = omega (arith, end);
      inside = omega (arith, end, within);
      walks = subst P (sym end) at_end;
      blank = λ k lt. c.requires.no_places k (let e = ap (offset_of f) end in omega (arith, lt, e));
      later = subst Q (sym end) c.requires.later;
      long = refl;
      machine = adds_temp_slots_refl 6 t;
      begun = λ e. adds_temp_slots_refl 0 t;
      located = subst (λ (n : ℕ). LocatedAreUsed f n t) (sym end) c.requires.located;
      found = subst (λ (n : ℕ). IsFound f (IsWanted c.args.self.now.places.watched) n c.args.found.now) (sym end) c.requires.found;
    }

pub alloc_and_note-requires : goal.alloc_and_note-requires
alloc_and_note-requires g c =
    let f : FunctionValue = g.F.Function.function c.args.cx.now.f.now in
    let i : ℕ = c.loop-i.i - 1 in
    let at : c.new.result ≡ i = c.new.ensures in
    let next : c.loop-i.i ≡ i + 1 = omega (arith, c.loop-i-test.true) in
    let lt : i < length f.insts = omega (arith, next, c.loop-i.invariant.inside) in
    let start : slice_index c.args.offsets.now i ≡ offset_of f i = c.requires.offsets i lt in
    let upto : offset_of f c.loop-i.i ≡ offset_of f (c.new.result + 1) = ap (offset_of f) (next ∙ omega (arith, at)) in
    let after : c.loop-i.i ≡ c.new.result + 1 = omega (arith, next, at) in
    let Noted : List Bool → ℕ → Type 0 = λ w n. IsFound f (IsWanted w) n c.loop-i.found in (
      omega arith,
      record {
        inst = record {
          block = c.requires.block;
          inst = omega (arith, at, lt);
          first = omega (arith, at, c.loop-i.invariant.first, c.loop-i-test.true);
          end = omega (arith, at, next, c.loop-i.invariant.within);
          well_formed = c.requires.well_formed;
          defs = c.requires.defs;
          room = subst (DefinesBelow f) (sym c.loop-i.invariant.long) c.requires.room;
          apart = apart_kept 6 (tables_of c.args.self.now) (tables_of c.loop-i.self) c.loop-i.invariant.machine c.requires.apart;
          later = λ k d less. omega (arith, c.loop-i.invariant.later k d less, at, next);
          start = start ∙ sym (ap (offset_of f) at);
          allocs_long = c.loop-i.auto.allocs ∙ c.requires.allocs_long;
          no_places = λ k less. c.loop-i.invariant.blank k (omega (arith, less, upto));
        };
        located = subst (λ (n : ℕ). LocatedAreUsed f n (tables_of c.loop-i.self)) after c.loop-i.invariant.located;
        found = subst (Noted c.loop-i.self.places.watched) after
            (subst (λ (w : List Bool). Noted w c.loop-i.i) (sym (insts_watched c.loop-i.invariant.walks)) c.loop-i.invariant.found);
      },
    )

pub loop-i-preserved : goal.loop-i-preserved
loop-i-preserved g c =
    let f : FunctionValue = g.F.Function.function c.args.cx.now.f.now in
    let i : ℕ = c.loop-i.i - 1 in
    let t : StateValue = tables_of c.loop-i.self in
    let u : StateValue = tables_of c.alloc_and_note.new.self in
    let at : c.new.result ≡ i = c.new.ensures in
    let next : c.loop-i.i ≡ i + 1 = omega (arith, c.loop-i-test.true) in
    let from : (block_at f c.args.block).range.first ≤ i = omega (arith, c.loop-i.invariant.first, c.loop-i-test.true) in
    let upto : i < (block_at f c.args.block).range.end = omega (arith, next, c.loop-i.invariant.within) in
    let lt : i < length f.insts = omega (arith, next, c.loop-i.invariant.inside) in
    let more : offset_of f (i + 1) ≡ offset_of f i + length (inst_at f i).operands = sum_by_more (λ n. length n.operands) f.insts i no_inst lt in
    let P : ℕ → Type 0 = λ n. AllocsBlockInsts f c.args.block c.args.allocs.now (tables_of c.args.self.now) n c.loop-i.allocs t in
    let A : ℕ → Type 0 = λ n. AllocsInstInBlock f c.args.block n c.loop-i.allocs c.alloc_and_note.new.allocs t u in
    let Q : ℕ → Type 0 = λ n. AllAtOrAfter (before n) c.alloc_and_note.new.self.edits in
    let L : ℕ → Type 0 = λ n. AddsTempSlotsAtMost (temp_slots_at f n) t u in
    let a : A i = subst A at c.in_ok-alloc_and_note.ensures.outcome in
    let well = c.requires.well_formed.1 in
    let so_far = temp_slots_so_far f c.requires.well_formed.1.end c.args.block i c.requires.block from upto (tables_of c.args.self.now) (tables_of c.loop-i.self)
    c.loop-i.invariant.machine (λ e. c.loop-i.invariant.begun (next ∙ e)) in
    record {
      first = c.loop-i.invariant.first;
      from = omega (arith, c.loop-i-test.true);
      within = omega (arith, c.loop-i.invariant.within);
      inside = omega (arith, c.loop-i.invariant.inside);
      walks = one_in i c.loop-i.allocs c.alloc_and_note.new.allocs t u from upto (subst P next c.loop-i.invariant.walks) a;
      blank = λ k less. a.allocates.outside k (inl less) ∙ c.loop-i.invariant.blank k (let e = ap (offset_of f) next in omega (arith, less, more, e));
      later = subst Q at c.in_ok-alloc_and_note.ensures.step.later;
      long = c.in_ok-alloc_and_note.ensures.step.long ∙ c.loop-i.invariant.long;
      machine = adds_temp_slots_trans so_far.0 (temp_slots_at f i) 6 (tables_of c.args.self.now) t u so_far.1 so_far.2
          (subst L at c.alloc_and_note.ensures.step.machine);
      begun = λ e. absurd (omega (arith, e, upto));
      located = inst_located f well.follow well.end well.counted c.args.block c.requires.block i c.loop-i.allocs c.alloc_and_note.new.allocs t u
          from upto lt a (subst (λ (n : ℕ). LocatedAreUsed f n t) next c.loop-i.invariant.located);
      found = subst (λ (n : ℕ). IsFound f (IsWanted c.args.self.now.places.watched) n c.alloc_and_note.new.found) at
          (subst (λ (w : List Bool). IsFound f (IsWanted w) c.new.result c.alloc_and_note.new.found) (insts_watched c.loop-i.invariant.walks)
          c.in_ok-alloc_and_note.ensures.found);
    }

-- a step that fails, as registers, slots or memory are out
branch_fails : {A T : Type 0} {at more : ℕ} {e d : RegAllocError} (r : Result T RegAllocError) (a b : State A) → r ≡ Err d → d ≡ e
    → AddsTempSlotsAtMost more (tables_of a) (tables_of b) → IsResourceError (SlotsExhaustedWith a.slots (a.slots.num_temp_slots + more)) e
    → IsBranchStepAt at more r a b
branch_fails r a b is same kept lacks = rw is (rw same (record { machine = kept; later = tt; long = tt; err = lacks }))

pub returns-in_err-alloc_and_note-clause-step : goal.returns-in_err-alloc_and_note-clause-step
returns-in_err-alloc_and_note-clause-step g c =
    let f : FunctionValue = g.F.Function.function c.args.cx.now.f.now in
    let a : StateValue = tables_of c.args.self.now in
    let L : ℕ → Type 0 = λ n. AddsTempSlotsAtMost (temp_slots_at f n) (tables_of c.loop-i.self) (tables_of c.alloc_and_note.new.self) in
    let m : StateValue = tables_of c.loop-i.self in
    let i : ℕ = c.loop-i.i - 1 in
    let next : c.loop-i.i ≡ i + 1 = omega (arith, c.loop-i-test.true) in
    let from : (block_at f c.args.block).range.first ≤ i = omega (arith, c.loop-i.invariant.first, c.loop-i-test.true) in
    let upto : i < (block_at f c.args.block).range.end = omega (arith, next, c.loop-i.invariant.within) in
    let so_far = temp_slots_so_far f c.requires.well_formed.1.end c.args.block i c.requires.block from upto (tables_of c.args.self.now) (tables_of c.loop-i.self)
    c.loop-i.invariant.machine (λ e. c.loop-i.invariant.begun (next ∙ e)) in
    let few : so_far.0 + temp_slots_at f c.new.result ≤ 6 = subst (λ (n : ℕ). so_far.0 + temp_slots_at f n ≤ 6) (sym c.new.ensures) so_far.1 in
    let p = err_from_is_err_and c.from_residual.result c.from_residual.ensures.1 in
    branch_fails c.from_residual.result c.args.self.now c.alloc_and_note.new.self p.1 p.2
    (adds_temp_slots_trans so_far.0 (temp_slots_at f (c.loop-i.i - 1)) 6 a m (tables_of c.alloc_and_note.new.self)
    so_far.1 so_far.2 (subst L c.new.ensures c.alloc_and_note.ensures.step.machine))
    (lacks_all so_far.0 (temp_slots_at f c.new.result) 6 a m so_far.2 few _ c.in_err-alloc_and_note.ensures.step.err)

pub returns-clause-outcome : goal.returns-clause-outcome
returns-clause-outcome g c =
    let f : FunctionValue = g.F.Function.function c.args.cx.now.f.now in
    let at_first : c.loop-i.i ≡ (block_at f c.args.block).range.first = omega (arith, c.loop-i-test.false, c.loop-i.invariant.from, c.loop-i.invariant.first) in
    subst (λ (n : ℕ). AllocsBlockInsts f c.args.block c.args.allocs.now (tables_of c.args.self.now) n c.loop-i.allocs (tables_of c.loop-i.self)) at_first
    c.loop-i.invariant.walks

pub returns-clause-no_places : goal.returns-clause-no_places
returns-clause-no_places g c =
    let f : FunctionValue = g.F.Function.function c.args.cx.now.f.now in
    let at_first : c.loop-i.i ≡ (block_at f c.args.block).range.first = omega (arith, c.loop-i-test.false, c.loop-i.invariant.from, c.loop-i.invariant.first) in
    λ k less. c.loop-i.invariant.blank k (let e = ap (offset_of f) at_first in omega (arith, less, e))

pub returns-clause-step : goal.returns-clause-step
returns-clause-step g c =
    let f : FunctionValue = g.F.Function.function c.args.cx.now.f.now in
    let at_first : c.loop-i.i ≡ (block_at f c.args.block).range.first = omega (arith, c.loop-i-test.false, c.loop-i.invariant.from, c.loop-i.invariant.first) in
    record {
      machine = c.loop-i.invariant.machine;
      later = subst (λ (n : ℕ). AllAtOrAfter (before n) c.loop-i.self.edits) at_first c.loop-i.invariant.later;
      long = c.loop-i.invariant.long;
      err = tt;
    }

pub returns-in_err-alloc_and_note-clause-outcome : goal.returns-in_err-alloc_and_note-clause-outcome
returns-in_err-alloc_and_note-clause-outcome g c =
    let f : FunctionValue = g.F.Function.function c.args.cx.now.f.now in
    let i : ℕ = c.loop-i.i - 1 in
    let next : c.loop-i.i ≡ i + 1 = omega (arith, c.loop-i-test.true) in
    let m : StateValue = tables_of c.loop-i.self in
    let e = err_from_is_err_and c.from_residual.result c.from_residual.ensures.1 in
    rw e.1 (λ lacks. record {
      index = i;
      places = c.loop-i.allocs;
      middle = m;
      inside = omega (arith, next, c.loop-i.invariant.within);
      walks = subst (λ (n : ℕ). AllocsBlockInsts f c.args.block c.args.allocs.now (tables_of c.args.self.now) n c.loop-i.allocs m) next
          c.loop-i.invariant.walks;
      stops = subst (λ (n : ℕ). AllocInstInBlock f c.args.block n c.loop-i.allocs m no_register) c.new.ensures
          (c.in_err-alloc_and_note.ensures.outcome (sym e.2 ∙ lacks));
    })

pub returns-clause-found : goal.returns-clause-found
returns-clause-found g c =
    let f : FunctionValue = g.F.Function.function c.args.cx.now.f.now in
    let at_first : c.loop-i.i ≡ (block_at f c.args.block).range.first = omega (arith, c.loop-i-test.false, c.loop-i.invariant.from, c.loop-i.invariant.first) in
    subst (λ (n : ℕ). IsFound f (IsWanted c.args.self.now.places.watched) n c.loop-i.found) at_first c.loop-i.invariant.found
