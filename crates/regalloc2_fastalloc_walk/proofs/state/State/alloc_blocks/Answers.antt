use Rattle.std.proofs.Common.{Bool, ℕ, ◌≡◌, ◌+◌, ◌-◌, ◌*◌, ◌<◌, List, length, refl, sym, ap, ◌∙◌, subst, arith}
use Rattle.std.proofs.lemmas.Result.{err_from_is_err_and}
use Rattle.std.specs.Prelude.{Result, Err, IfErr, MatchResult}
use Rattle.regalloc2_names.specs.declared.RegAllocError.{RegAllocError}
use Rattle.regalloc2_names.specs.declared.RegAllocError.TheVariants.{TooManyLiveRegs}
use Rattle.regalloc2_names.specs.Place.{before}
use Rattle.regalloc2_function.specs.OutputValue.{MoveValue}
use Rattle.regalloc2_function.specs.FunctionValue.{FunctionValue, block_at}
use Rattle.regalloc2_fastalloc_state.specs.OutOfResources.{IsResourceError, SlotsExhaustedWith}
use Rattle.regalloc2_fastalloc_state.specs.StateParts.{AllAtOrAfter}
use Rattle.regalloc2_fastalloc_proofs.specs.InstSteps.{StateValue, no_register}
use Rattle.regalloc2_fastalloc_proofs.specs.BlockSteps.{AllocBlock, BeginBlock, in_block, at_beginning, AllocsBlockInsts, AllocsBlocks, BeginsBlock}
use Rattle.regalloc2_fastalloc_proofs.specs.BlockSteps.{DefinesBelow, all_left, one_block, offset_of}
use Rattle.regalloc2_fastalloc_walk.specs.StateView.{tables_of}
use Rattle.regalloc2_fastalloc_proofs.proofs.Safety.StateKept.{adds_temp_slots_refl, adds_temp_slots_of_same_machine, adds_temp_slots_trans, apart_kept, lacks_all, lack_all, joins_at}
use Rattle.regalloc2_function.proofs.Following.{end_within}
use Rattle.regalloc2_analysis.specs.LiveRanges.LiveRanges.{IsWanted}
use Rattle.regalloc2_analysis.specs.LiveRanges.WalkInvariant.{begin_of}
use Rattle.regalloc2_analysis.proofs.LiveRangesLemmas.LiveRangeTable.{begins_at, begins_next, begins_past}
use Rattle.regalloc2_fastalloc_proofs.specs.Located.{LocatedAreUsed}
use Rattle.regalloc2_fastalloc_proofs.proofs.Debug.ChangesCounted.{blocks_watched}
use Rattle.regalloc2_fastalloc_proofs.proofs.Debug.LocatedVRegsAreUsed.{begin_located, insts_located, none_located}
use Rattle.regalloc2_fastalloc_walk.specs.Findings.{IsFound}
use Rattle.regalloc2_fastalloc_walk.proofs.Findings.{none_fail, none_listed}
use Rattle.regalloc2_fastalloc_walk.proofs.StepsFail.{no_lack}
use Rattle.regalloc2_fastalloc_walk.proofs.state.State.alloc_blocks.Goals as goal

-- an error is what was returned
fails_as : {T : Type 0} {e d : RegAllocError} (S : RegAllocError → Type 0) (r : Result T RegAllocError) → r ≡ Err d → d ≡ e → S e → IfErr r S
fails_as S r is same h = rw is (subst S (sym same) h)

stops_as : {T : Type 0} {e d : RegAllocError} (P : T → Type 0) (Q : Type 0) (r : Result T RegAllocError) → r ≡ Err d → d ≡ e → (e ≡ TooManyLiveRegs → Q)
    → MatchResult r P (λ x. x ≡ TooManyLiveRegs → Q)
stops_as P Q r is same h = rw is (λ lacks. h (sym same ∙ lacks))

pub loop-b-init : goal.loop-b-init
loop-b-init g c =
    let f : FunctionValue = g.F.Function.function c.args.f.now in
    let t : StateValue = tables_of c.args.self.now in
    let P : ℕ → Type 0 = λ n. AllocsBlocks f c.args.allocs.now t n c.args.allocs.now t in
    let Q : List (ℕ × MoveValue) → Type 0 = λ es. AllAtOrAfter (before (block_at f (c.num_blocks-b.result - 1)).range.end) es in
    let n : ℕ = c.num_blocks-b.result in
    let W : ℕ → Type 0 = IsWanted c.args.self.now.places.watched in
    let past : begin_of f n ≡ length f.insts = begins_past f n c.num_blocks-b.ensures.count in
    record {
      within = omega (arith, c.num_blocks-b.ensures.count);
      walks = subst P (sym c.num_blocks-b.ensures.count) all_left;
      blank = λ some k lt. c.requires.no_places k;
      later = λ some. subst Q (sym c.requires.fresh) (λ k d lt. absurd (omega arith));
      long = refl;
      machine = adds_temp_slots_refl _ t;
      located = none_located f (begin_of f n) c.requires.nowhere.0 c.args.self.now.places.watched t c.requires.nowhere.1;
      found = record { passes = none_fail f (begin_of f n) past; changed = rw c.new.ensures.items (none_listed f W (begin_of f n) past) };
    }

pub alloc_block-requires : goal.alloc_block-requires
alloc_block-requires g c =
    let f : FunctionValue = g.F.Function.function c.args.f.now in
    let same : c.new-block.result ≡ c.loop-b.b - 1 = c.new-block.ensures in
    let lt : c.new-block.result < length f.blocks = omega (arith, same, c.loop-b-test.true, c.loop-b.invariant.within) in
    let some : 0 < c.loop-b.b = omega (arith, c.loop-b-test.true) in
    let next : c.loop-b.b ≡ c.new-block.result + 1 = omega (arith, some, same) in
    let end : begin_of f c.loop-b.b ≡ (block_at f c.new-block.result).range.end =
    ap (begin_of f) next ∙ begins_next f c.requires.well_formed.1.follow c.new-block.result lt in
    let Q : ℕ → Type 0 = λ n. AllAtOrAfter (before (block_at f n).range.end) c.loop-b.self.edits in (
      omega arith,
      record {
        block = lt;
        well_formed = c.requires.well_formed;
        defs = c.in_ok-defs.ensures.ok;
        room = subst (DefinesBelow f) (sym c.loop-b.invariant.long) c.requires.room;
        apart = apart_kept _ (tables_of c.args.self.now) (tables_of c.loop-b.self) c.loop-b.invariant.machine c.requires.apart;
        later = subst Q (sym same) (c.loop-b.invariant.later some);
        located = subst (λ (n : ℕ). LocatedAreUsed f n (tables_of c.loop-b.self)) end c.loop-b.invariant.located;
        found = subst (λ (n : ℕ). IsFound f (IsWanted c.loop-b.self.places.watched) n c.loop-b.found) end
            (subst (λ (w : List Bool). IsFound f (IsWanted w) (begin_of f c.loop-b.b) c.loop-b.found) (sym (blocks_watched c.loop-b.invariant.walks))
            c.loop-b.invariant.found);
        offsets_long = c.requires.offsets_long;
        offsets = c.requires.offsets;
        allocs_long = c.loop-b.auto.allocs ∙ c.requires.allocs_long;
        no_places = λ k less. c.loop-b.invariant.blank some k (let e = ap (λ (n : ℕ). offset_of f (block_at f n).range.end) same in omega (arith, less, e));
      },
    )

pub begin_block-requires : goal.begin_block-requires
begin_block-requires g c =
    let f : FunctionValue = g.F.Function.function c.args.f.now in
    let same : c.new-block.result ≡ c.loop-b.b - 1 = c.new-block.ensures in
    let lt : c.new-block.result < length f.blocks = omega (arith, same, c.loop-b-test.true, c.loop-b.invariant.within) in
    let machine = adds_temp_slots_trans (6 * (length f.blocks - c.loop-b.b)) 6 (6 * (length f.blocks - c.loop-b.b) + 6) (tables_of c.args.self.now) (tables_of
    c.loop-b.self)
    (tables_of c.alloc_block.new.self) (omega arith) c.loop-b.invariant.machine c.alloc_block.ensures.step.machine in (
      omega arith,
      record {
        block = lt;
        well_formed = c.requires.well_formed;
        defs = c.in_ok-defs.ensures.ok;
        room = subst (DefinesBelow f) (sym (c.in_ok-alloc_block.ensures.step.long ∙ c.loop-b.invariant.long)) c.requires.room;
        apart = apart_kept _ (tables_of c.args.self.now) (tables_of c.alloc_block.new.self) machine c.requires.apart;
        later = c.in_ok-alloc_block.ensures.step.later;
      },
    )

pub loop-b-preserved : goal.loop-b-preserved
loop-b-preserved g c =
    let f : FunctionValue = g.F.Function.function c.args.f.now in
    let b : ℕ = c.loop-b.b - 1 in
    let d : ℕ = c.new-block.result in
    let a : StateValue = tables_of c.args.self.now in
    let t : StateValue = tables_of c.loop-b.self in
    let u : StateValue = tables_of c.alloc_block.new.self in
    let w : StateValue = tables_of c.begin_block.new.self in
    let same : d ≡ b = c.new-block.ensures in
    let next : c.loop-b.b ≡ b + 1 = omega (arith, c.loop-b-test.true) in
    let lt : b < length f.blocks = omega (arith, next, c.loop-b.invariant.within) in
    let P : ℕ → Type 0 = λ n. AllocsBlocks f c.args.allocs.now a n c.loop-b.allocs t in
    let I : ℕ → Type 0 = λ n. AllocsBlockInsts f n c.loop-b.allocs t (block_at f n).range.first c.alloc_block.new.allocs u in
    let first : (block_at f d).range.first ≡ (block_at f b).range.first = ap (λ (n : ℕ). (block_at f n).range.first) same in
    let begins : BeginsBlock f b u w = subst (λ (n : ℕ). BeginsBlock f n u w) same c.in_ok-begin_block.ensures.outcome in
    let joins : 0 < b → (block_at f (b - 1)).range.end ≡ (block_at f b).range.first = joins_at f c.requires.well_formed.1.follow b lt in
    let well = c.requires.well_formed.1 in
    let insts : I b = subst I same c.in_ok-alloc_block.ensures.outcome in
    let begin : begin_of f b ≡ (block_at f b).range.first = begins_at f b lt in
    let end : begin_of f c.loop-b.b ≡ (block_at f b).range.end = ap (begin_of f) next ∙ begins_next f well.follow b lt in
    let N : ℕ → Type 0 = λ n. AllAtOrAfter (before n) c.begin_block.new.self.edits in
    record {
      within = omega (arith, c.loop-b.invariant.within);
      walks = one_block b c.loop-b.allocs c.alloc_block.new.allocs t u w lt (subst P next c.loop-b.invariant.walks)
          insts begins;
      blank = λ some k less. c.in_ok-alloc_block.ensures.no_places k
          (let e = ap (offset_of f) (joins some) in let h = ap (λ (n : ℕ). offset_of f (block_at f n).range.first) same in omega (arith, less, e, h));
      later = λ some. subst N (first ∙ sym (joins some)) c.in_ok-begin_block.ensures.step.later;
      long = c.in_ok-begin_block.ensures.step.long ∙ c.in_ok-alloc_block.ensures.step.long ∙ c.loop-b.invariant.long;
      machine = adds_temp_slots_trans (6 * (length f.blocks - c.loop-b.b)) 6 _ a t w (omega (arith, next, lt)) c.loop-b.invariant.machine
          (adds_temp_slots_trans 6 0 6 t u w (omega arith) c.alloc_block.ensures.step.machine (adds_temp_slots_of_same_machine 0 u w c.begin_block.ensures.step.machine));
      located = subst (λ (n : ℕ). LocatedAreUsed f n w) (sym begin)
          (begin_located f well.follow well.end well.counted b lt (block_at f b).range.first u w begins
          (insts_located f well.follow well.end well.counted b lt (end_within f well.follow b lt) insts
          (subst (λ (n : ℕ). LocatedAreUsed f n t) end c.loop-b.invariant.located)));
      found = subst (λ (n : ℕ). IsFound f (IsWanted c.args.self.now.places.watched) n c.alloc_block.new.found) (first ∙ sym begin)
          (subst (λ (x : List Bool). IsFound f (IsWanted x) (block_at f d).range.first c.alloc_block.new.found) (blocks_watched c.loop-b.invariant.walks)
          c.in_ok-alloc_block.ensures.found);
    }

pub returns-in_err-alloc_block-clause-machine : goal.returns-in_err-alloc_block-clause-machine
returns-in_err-alloc_block-clause-machine g c =
    let f : FunctionValue = g.F.Function.function c.args.f.now in
    adds_temp_slots_trans (6 * (length f.blocks - c.loop-b.b)) 6 _ (tables_of c.args.self.now) (tables_of c.loop-b.self) (tables_of c.alloc_block.new.self)
    (omega (arith, c.loop-b-test.true, c.loop-b.invariant.within)) c.loop-b.invariant.machine c.alloc_block.ensures.step.machine

pub returns-in_err-begin_block-clause-machine : goal.returns-in_err-begin_block-clause-machine
returns-in_err-begin_block-clause-machine g c =
    let f : FunctionValue = g.F.Function.function c.args.f.now in
    let t : StateValue = tables_of c.loop-b.self in
    let u : StateValue = tables_of c.alloc_block.new.self in
    let w : StateValue = tables_of c.begin_block.new.self in
    adds_temp_slots_trans (6 * (length f.blocks - c.loop-b.b)) 6 _ (tables_of c.args.self.now) t w (omega (arith, c.loop-b-test.true, c.loop-b.invariant.within))
    c.loop-b.invariant.machine
    (adds_temp_slots_trans 6 0 6 t u w (omega arith) c.alloc_block.ensures.step.machine (adds_temp_slots_of_same_machine 0 u w c.begin_block.ensures.step.machine))

pub returns-in_err-alloc_block-clause-err : goal.returns-in_err-alloc_block-clause-err
returns-in_err-alloc_block-clause-err g c =
    let f : FunctionValue = g.F.Function.function c.args.f.now in
    let a : StateValue = tables_of c.args.self.now in
    let most : ℕ = 6 * length f.blocks in
    let p = err_from_is_err_and c.from_residual-in_err-alloc_block.result c.from_residual-in_err-alloc_block.ensures.1 in
    fails_as (IsResourceError (SlotsExhaustedWith a.slots (a.slots.num_temp_slots + most))) c.from_residual-in_err-alloc_block.result p.1 p.2
    (lacks_all (6 * (length f.blocks - c.loop-b.b)) 6 most a (tables_of c.loop-b.self) c.loop-b.invariant.machine
    (omega (arith, c.loop-b-test.true, c.loop-b.invariant.within)) _ c.in_err-alloc_block.ensures.step.err)

pub returns-in_err-begin_block-clause-err : goal.returns-in_err-begin_block-clause-err
returns-in_err-begin_block-clause-err g c =
    let f : FunctionValue = g.F.Function.function c.args.f.now in
    let a : StateValue = tables_of c.args.self.now in
    let t : StateValue = tables_of c.loop-b.self in
    let u : StateValue = tables_of c.alloc_block.new.self in
    let w : StateValue = tables_of c.begin_block.new.self in
    let most : ℕ = 6 * length f.blocks in
    let p = err_from_is_err_and c.from_residual-in_err-begin_block.result c.from_residual-in_err-begin_block.ensures.1 in
    fails_as (IsResourceError (SlotsExhaustedWith a.slots (a.slots.num_temp_slots + most))) c.from_residual-in_err-begin_block.result p.1 p.2
    (lack_all most most a w
    (adds_temp_slots_trans (6 * (length f.blocks - c.loop-b.b)) 6 most a t w (omega (arith, c.loop-b-test.true, c.loop-b.invariant.within)) c.loop-b.invariant.machine
    (adds_temp_slots_trans 6 0 6 t u w (omega arith) c.alloc_block.ensures.step.machine (adds_temp_slots_of_same_machine 0 u w c.begin_block.ensures.step.machine)))
    (omega arith) _ c.in_err-begin_block.ensures.step.err)

pub returns-clause-outcome : goal.returns-clause-outcome
returns-clause-outcome g c =
    let f : FunctionValue = g.F.Function.function c.args.f.now in
    let e : c.loop-b.b ≡ 0 = omega (arith, c.loop-b-test.false) in
    subst (λ (n : ℕ). AllocsBlocks f c.args.allocs.now (tables_of c.args.self.now) n c.loop-b.allocs (tables_of c.loop-b.self)) e c.loop-b.invariant.walks

pub returns-clause-machine : goal.returns-clause-machine
returns-clause-machine g c =
    let f : FunctionValue = g.F.Function.function c.args.f.now in
    let t : StateValue = tables_of c.loop-b.self in
    adds_temp_slots_trans (6 * (length f.blocks - c.loop-b.b)) 0 (6 * length f.blocks) (tables_of c.args.self.now) t t (omega arith) c.loop-b.invariant.machine
    (adds_temp_slots_refl 0 t)

-- where the walk stops
pub returns-in_err-alloc_block-clause-outcome : goal.returns-in_err-alloc_block-clause-outcome
returns-in_err-alloc_block-clause-outcome g c =
    let f : FunctionValue = g.F.Function.function c.args.f.now in
    let b : ℕ = c.loop-b.b - 1 in
    let t : StateValue = tables_of c.loop-b.self in
    let next : c.loop-b.b ≡ b + 1 = omega (arith, c.loop-b-test.true) in
    let P : ℕ → Type 0 = λ n. AllocsBlocks f c.args.allocs.now (tables_of c.args.self.now) n c.loop-b.allocs t in
    let e = err_from_is_err_and c.from_residual-in_err-alloc_block.result c.from_residual-in_err-alloc_block.ensures.1 in
    stops_as _ _ c.from_residual-in_err-alloc_block.result e.1 e.2
    (λ lacks. in_block b c.loop-b.allocs t (omega (arith, next, c.loop-b.invariant.within)) (subst P next c.loop-b.invariant.walks)
    (subst (λ (n : ℕ). AllocBlock f n c.loop-b.allocs t no_register) c.new-block.ensures (c.in_err-alloc_block.ensures.outcome lacks)))

pub returns-in_err-begin_block-clause-outcome : goal.returns-in_err-begin_block-clause-outcome
returns-in_err-begin_block-clause-outcome g c =
    let f : FunctionValue = g.F.Function.function c.args.f.now in
    let b : ℕ = c.loop-b.b - 1 in
    let t : StateValue = tables_of c.loop-b.self in
    let u : StateValue = tables_of c.alloc_block.new.self in
    let same : c.new-block.result ≡ b = c.new-block.ensures in
    let next : c.loop-b.b ≡ b + 1 = omega (arith, c.loop-b-test.true) in
    let lt : b < length f.blocks = omega (arith, next, c.loop-b.invariant.within) in
    let P : ℕ → Type 0 = λ n. AllocsBlocks f c.args.allocs.now (tables_of c.args.self.now) n c.loop-b.allocs t in
    let I : ℕ → Type 0 = λ n. AllocsBlockInsts f n c.loop-b.allocs t (block_at f n).range.first c.alloc_block.new.allocs u in
    let e = err_from_is_err_and c.from_residual-in_err-begin_block.result c.from_residual-in_err-begin_block.ensures.1 in
    stops_as _ _ c.from_residual-in_err-begin_block.result e.1 e.2 (λ lacks. at_beginning b c.loop-b.allocs c.alloc_block.new.allocs t u lt (subst P next c.loop-b.invariant.walks)
    (subst I same c.in_ok-alloc_block.ensures.outcome)
    (subst (λ (n : ℕ). BeginBlock f n u no_register) same (c.in_err-begin_block.ensures.outcome lacks)))

-- where there is no memory for what branches define
pub returns-in_err-defs-clause-machine : goal.returns-in_err-defs-clause-machine
returns-in_err-defs-clause-machine g c = adds_temp_slots_refl _ (tables_of c.args.self.now)

pub returns-in_err-defs-clause-err : goal.returns-in_err-defs-clause-err
returns-in_err-defs-clause-err g c =
    let p = err_from_is_err_and c.from_residual.result c.from_residual.ensures.1 in
    rw (p.1 ∙ ap Err (p.2 ∙ c.in_err-defs.ensures.memory)) tt

pub returns-in_err-defs-clause-outcome : goal.returns-in_err-defs-clause-outcome
returns-in_err-defs-clause-outcome g c =
    let p = err_from_is_err_and c.from_residual.result c.from_residual.ensures.1 in
    stops_as _ _ c.from_residual.result p.1 (p.2 ∙ c.in_err-defs.ensures.memory) (λ lacks. no_lack refl refl lacks)

pub returns-clause-found : goal.returns-clause-found
returns-clause-found g c =
    let f : FunctionValue = g.F.Function.function c.args.f.now in
    let e : c.loop-b.b ≡ 0 = omega (arith, c.loop-b-test.false) in
    let some : 0 < length f.blocks = (let entry = c.requires.well_formed.1.successors.0 in omega (arith, entry)) in
    let begin : begin_of f c.loop-b.b ≡ 0 = ap (begin_of f) e ∙ begins_at f 0 some ∙ (c.requires.well_formed.1.follow 0 some).1 refl in
    subst (λ (n : ℕ). IsFound f (IsWanted c.args.self.now.places.watched) n c.loop-b.found) begin c.loop-b.invariant.found
