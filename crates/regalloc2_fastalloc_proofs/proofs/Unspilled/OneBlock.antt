-- The walk over a function of one block in which each vreg can have a register of its own makes no move and no slot.
use Rattle.std.proofs.Common.{ℕ, ◌≡◌, ◌+◌, ◌<◌, inl, inr, List, [], ◌∷◌, ◌++◌, length, refl, arith, sym, ap, ◌∙◌, subst}
use Rattle.std.proofs.lemmas.Bool.{cases_Bool}
use Rattle.std.proofs.lemmas.List.{append-nil}
use Rattle.regalloc2_names.specs.declared.RegClass.{RegClass}
use Rattle.regalloc2_names.specs.declared.RegClass.TheVariants.{Int, Float, Vector}
use Rattle.regalloc2_names.specs.Register.{VirtualRegister}
use Rattle.regalloc2_names.specs.Place.{Place, NoPlace, InRegister, before}
use Rattle.regalloc2_function.specs.FunctionValue.{FunctionValue, block_at, inst_at}
use Rattle.regalloc2_function.specs.Machine.{MachineValue}
use Rattle.regalloc2_function.specs.OutputValue.{MoveValue}
use Rattle.regalloc2_function.specs.WellFormed.{IsWellFormed}
use Rattle.regalloc2_semantics.specs.Sound.{HasEdge, target_at}
use Rattle.regalloc2_carry.specs.Stores.{Store, IsOneOf, first, store_moves}
use Rattle.regalloc2_fastalloc_state.specs.declared.inst_regs.InstRegs.{InstRegs}
use Rattle.regalloc2_fastalloc_state.specs.ScratchPool.{Moves, pushed}
use Rattle.regalloc2_fastalloc_state.specs.StateParts.{alloc_of, vreg_of_preg}
use Rattle.regalloc2_fastalloc_proofs.specs.InstSteps.{StateValue}
use Rattle.regalloc2_fastalloc_proofs.specs.BlockStart.{ReloadsAtBegin, ReloadsRegs, none_emptied, one_emptied}
use Rattle.regalloc2_fastalloc_proofs.specs.BranchSteps.{ProcessesBranch, Pushes, of_class}
use Rattle.regalloc2_fastalloc_proofs.specs.StoreSteps.{StoresBranchDefs, none_stored, all_stored, pushed_moves}
use Rattle.regalloc2_fastalloc_proofs.specs.BlockSteps.{AllocsInstInBlock, AllocsBlockInsts, at_end, one_in, AllocsBlocks, all_left, one_block}
use Rattle.regalloc2_fastalloc_proofs.proofs.Changes.WalkChanges.{free_inst, allocs_block_insts_changes}
use Rattle.regalloc2_fastalloc_proofs.proofs.Safety.StepsKeepMachine.{machine_stays}
use Rattle.regalloc2_fastalloc_proofs.specs.Safety.{IsWhole}
use Rattle.regalloc2_fastalloc_proofs.proofs.Unspilled.BlockSpillFree.{edge_block, from_next, gathers_moves_none, inst_spill_free, no_params, no_location_at_first_inst}
use Rattle.regalloc2_fastalloc_proofs.proofs.Unspilled.BlockSpillFree.{none_begun_none, none_is_stored, of_none, plain_at}
use Rattle.regalloc2_fastalloc_proofs.specs.Unspilled.SpillFree.{FitInRegs, HasRegOperandsOnly, IsSpillFreeFrom}

-- if there are no moves of a class, nothing is pushed
pushes_none : (point : ℕ) (t : InstRegs) (class : RegClass) (given : Moves) (old new : StateValue) → given ≡ [] → Pushes point t class given old new →
    new ≡ old
pushes_none point t class given old new none p =
    let idle = p.orders.idle none in
    let same : p.middle ≡ old = idle.1 in
    p.pushes ∙ ap (λ (es : List (ℕ × MoveValue)). record p.middle { edits = es })
    (ap (λ (ms : Moves). p.middle.edits ++ pushed point ms) idle.0 ∙ append-nil p.middle.edits) ∙ same

-- a branch to blocks without parameters changes nothing
branch_none : (f : FunctionValue) (b i : ℕ) (t u : InstRegs) (old new : StateValue) →
    ((k : ℕ) → HasEdge f b k → (block_at f (target_at f b k)).params ≡ []) → ProcessesBranch f b i t u old new → new ≡ old
branch_none f b i t u old new empty p =
    let g = gathers_moves_none f b (before i) t old (length (block_at f b).succs) u p.gathered p.given empty p.gathers in
    pushes_none (before i) u Vector (of_class Vector p.given) p.floats new (of_none Vector p.given _ g.1 refl) p.vector
    ∙ pushes_none (before i) u Float (of_class Float p.given) p.ints p.floats (of_none Float p.given _ g.1 refl) p.float
    ∙ pushes_none (before i) u Int (of_class Int p.given) p.gathered p.ints (of_none Int p.given _ g.1 refl) p.int ∙ g.0

-- where no vreg has a location, no register is emptied
reloads_regs_none : (point : ℕ) (t : InstRegs) (old : StateValue) (u : InstRegs) (new : StateValue) → IsWhole old →
    ((n : ℕ) → alloc_of old.places n ≡ NoPlace) →
    ReloadsRegs point t old u new → new ≡ old
reloads_regs_none point t old u new whole none_held none_emptied = refl
reloads_regs_none point t old u new whole none_held (one_emptied r w x m n before newest clears) =
    let same : m ≡ old = reloads_regs_none point t old w m whole none_held before in
    let there : alloc_of old.places newest.vreg.number ≡ InRegister r = whole.holds r newest.vreg newest.small
    (ap (λ (y : StateValue). vreg_of_preg y.places r) (sym same) ∙ newest.held) in
    absurd (let wrong : NoPlace ≡ InRegister r = sym (none_held newest.vreg.number) ∙ there in cc)

-- a list of stores without members is empty
no_store : (stores : List Store) → ((s : Store) → IsOneOf s stores → ⊥) → stores ≡ []
no_store [] none = refl
no_store (s ∷ ss) none = absurd (none s (first refl))

module _ (f : FunctionValue) (env : MachineValue) (well : IsWellFormed env f) (names : List VirtualRegister) (asks : HasRegOperandsOnly names f) where
  -- a block's start stores nothing
  stores_no_branch_defs : (b : ℕ) (old new : StateValue) → StoresBranchDefs f b old new → (new.edits ≡ old.edits) × (new.slots ≡ old.slots)
  unfolding pushed_moves store_moves
  stores_no_branch_defs b old new (none_stored none same) = (ap (λ (t : StateValue). t.edits) same, ap (λ (t : StateValue). t.slots) same)
  stores_no_branch_defs b old new (all_stored e k edge s) =
      let none : s.stores ≡ [] = no_store s.stores (λ x c. (let y = s.each x c in
      none_is_stored f env names well asks b e k y.0 y.1 old.slots edge y.2.stored)) in (
        s.edits ∙ ap (λ (l : List Store). old.edits ++ pushed_moves (before (block_at f b).range.first) (store_moves l)) none ∙ append-nil old.edits,
        s.idle (λ j v is. none_is_stored f env names well asks b e k j v old.slots edge is),
      )

  -- an instruction of the only block
  allocs_inst_in_block_leaves : (b i : ℕ) (before_it places : List Place) (old new : StateValue) → b < length f.blocks → i < length f.insts →
      FitInRegs names old.allocatable →
      IsSpillFreeFrom names f (i + 1) old → AllocsInstInBlock f b i before_it places old new → IsSpillFreeFrom names f i new
  allocs_inst_in_block_leaves b i before_it places old new lt less few h a = subst (IsSpillFreeFrom names f i) (sym same) done
    where
      done : IsSpillFreeFrom names f i a.middle
      done = from_next f names i old a.middle less h (inst_spill_free (inst_at f i) few (plain_at f env names i old well asks less h)
          (λ r. asks.no_clobbers i r less)
          a.allocates.allocates h.spill_free)

      same : new ≡ a.middle
      same = elim (cases_Bool (inst_at f i).is_branch) [
        | inl is ↦ branch_none f b i a.allocates.allocates.ended a.inst_regs a.middle new
            (λ k edge. no_params f env names (target_at f b k) well asks (edge_block f env well b k lt edge)) (a.branch is)
        | inr plain ↦ a.no_branch plain
      ]

  -- the walk over the last instructions of the block spills nothing
  allocs_block_insts_leave : (b : ℕ) (blank : List Place) (old : StateValue) (i : ℕ) (places : List Place) (new : StateValue) → b < length f.blocks →
      (block_at f b).range.end ≡ length f.insts → FitInRegs names old.allocatable → IsSpillFreeFrom names f (length f.insts) old →
      AllocsBlockInsts f b blank old i places new → IsSpillFreeFrom names f i new
  allocs_block_insts_leave b blank old i places new lt end few h at_end = subst (λ (n : ℕ). IsSpillFreeFrom names f n old) (sym end) h
  allocs_block_insts_leave b blank old i places new lt end few h (one_in n before_it p t u from within prev a) =
      allocs_inst_in_block_leaves b n before_it places t new lt (omega (arith, within, end))
      (subst (FitInRegs names) (sym (machine_stays (allocs_block_insts_changes (λ m ge less. free_inst f b m) prev)).allocatable) few)
      (allocs_block_insts_leave b blank old (n + 1) before_it t lt end few h prev) a

  -- before the last block nothing was allocated
  none_walked : (n : ℕ) (blank places : List Place) (old new : StateValue) → n ≡ length f.blocks → AllocsBlocks f blank old n places new → new ≡ old
  none_walked n blank places old new e all_left = refl
  none_walked n blank places old new e (one_block b before_it p t u w lt prev walks begins) = absurd (omega (arith, e, lt))

  -- The walk makes no move and no slot.
  pub walk_is_spill_free : (n : ℕ) (blank places : List Place) (begin last : StateValue) → n ≡ 0 → FitInRegs names begin.allocatable →
      IsSpillFreeFrom names f (length f.insts) begin → AllocsBlocks f blank begin n places last → (last.edits ≡ []) × (last.slots.count ≡ 0)
  walk_is_spill_free n blank places begin last zero few h all_left = absurd (omega (arith, zero, asks.one_block))
  walk_is_spill_free n blank places begin last zero few h (one_block b before_it p t u w lt prev walks begins) =
      let start : t ≡ begin = none_walked (b + 1) blank before_it begin t (omega (arith, zero, asks.one_block)) prev in
      let follows = well.follow b lt in
      let end : (block_at f b).range.end ≡ length f.insts = follows.3 (omega (arith, zero, asks.one_block)) in
      let begin_at : (block_at f b).range.first ≡ 0 = follows.1 zero in
      let done : IsSpillFreeFrom names f 0 u = subst (λ (m : ℕ). IsSpillFreeFrom names f m u) begin_at
      (allocs_block_insts_leave b before_it t (block_at f b).range.first places u lt end
      (subst (λ (x : StateValue). FitInRegs names x.allocatable) (sym start) few)
      (subst (IsSpillFreeFrom names f (length f.insts)) (sym start) h) walks) in
      let none_held = no_location_at_first_inst f env names u well asks done in
      let reloads : ReloadsAtBegin (before (block_at f b).range.first) (block_at f b).params u begins.middle = begins.reloads in
      let params : reloads.middle ≡ u = none_begun_none _ _ _ _ _ _ _ (ap length (no_params f env names b well asks lt)) reloads.parameters in
      let whole : IsWhole reloads.middle = subst IsWhole (sym params) done.spill_free.whole in
      let same : begins.middle ≡ u = reloads_regs_none _ reloads.begun reloads.middle reloads.ended begins.middle whole
      (λ m. ap (λ (x : StateValue). alloc_of x.places m) params ∙ none_held m) reloads.empties ∙ params in
      let stores = stores_no_branch_defs b begins.middle last begins.stores in (
        stores.0 ∙ ap (λ (x : StateValue). x.edits) same ∙ done.spill_free.no_moves,
        ap (λ s. s.count) (stores.1 ∙ ap (λ (x : StateValue). x.slots) same) ∙ done.spill_free.no_units,
      )
