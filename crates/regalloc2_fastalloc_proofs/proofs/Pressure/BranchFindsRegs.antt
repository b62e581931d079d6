-- A branch passes its arguments: the reserved scratch register is left, and where there are moves of a class it has a
-- register.
use Rattle.std.proofs.Common.{ℕ, suc, ◌≡◌, ◌<◌, true, false, List, [], ◌∷◌, length, refl, sym, subst, inl, inr, arith, slice_index_or}
use Rattle.std.specs.Prelude.{All}
use Rattle.std.proofs.lemmas.Bool.{cases_Bool}
use Rattle.std.proofs.lemmas.List.Elements.{All-push}
use Rattle.regalloc2_names.specs.declared.RegClass.{RegClass}
use Rattle.regalloc2_names.specs.declared.sets.PRegSet.{PRegSet}
use Rattle.regalloc2_names.specs.Register.{Register, VirtualRegister, no_vreg, has_register}
use Rattle.regalloc2_names.specs.Place.{Place, before}
use Rattle.regalloc2_function.specs.FunctionValue.{FunctionValue, block_at}
use Rattle.regalloc2_function.specs.Machine.{MachineValue, is_allocatable}
use Rattle.regalloc2_semantics.specs.Runs.{arguments_at}
use Rattle.regalloc2_function.specs.Fitting.{MachineFits, NamesClass}
use Rattle.regalloc2_semantics.specs.Sound.{target_at}
use Rattle.regalloc2_fastalloc_state.specs.declared.inst_regs.InstRegs.{InstRegs}
use Rattle.regalloc2_fastalloc_state.specs.StateParts.{NoneIsFrom}
use Rattle.regalloc2_fastalloc_proofs.specs.InstSteps.{StateValue, no_register}
use Rattle.regalloc2_fastalloc_proofs.specs.BranchSteps.{ClassMove, is_class, of_class, SpillsArgument, from_register, in_slot, GathersEdgeMoves}
use Rattle.regalloc2_fastalloc_proofs.specs.BranchSteps.{none_gathered, one_gathered, own_argument, IsOwnDef, GathersMoves, no_edge, one_edge, SpillArgument}
use Rattle.regalloc2_fastalloc_proofs.specs.BranchSteps.{GatherEdge, GatherMoves, ProcessBranch, in_gather, in_order}
use Rattle.regalloc2_fastalloc_proofs.specs.Safety.{AreSafeRegs}
use Rattle.regalloc2_fastalloc_proofs.proofs.Safety.StepsKeepSafe.{AreKindsApart, StepKept, rules_of}
use Rattle.regalloc2_fastalloc_proofs.proofs.Safety.BranchKeepsSafe.{AreGatheredMoves, gathers_edge_moves_kept as edge_kept_safe, gathers_moves_kept}
use Rattle.regalloc2_fastalloc_proofs.specs.Pressure.EnoughRegs.{HasEnoughRegs, AllWrite, AllMay, AreSafe}
use Rattle.regalloc2_fastalloc_proofs.proofs.Safety.StepsKeepMachine.{keeps_of, machine_stays}
use Rattle.regalloc2_fastalloc_proofs.proofs.Pressure.TablesHaveAllRegs.{HasAll, all_kept}
use Rattle.regalloc2_fastalloc_proofs.proofs.Pressure.OneRegTaken.{ample_kept}
use Rattle.regalloc2_fastalloc_proofs.proofs.Pressure.StepsLeaveEnough.{AreHeld, ample_evict_preg, Demand, demand_of}
use Rattle.regalloc2_fastalloc_proofs.proofs.Pressure.ClaimLeavesEnough.{held_same, safe_held}
use Rattle.regalloc2_fastalloc_proofs.proofs.Changes.WalkChanges.{any_passed, gathers_moves_changes}
use Rattle.regalloc2_fastalloc_proofs.proofs.Pressure.WalkKeepsSafe.{every_write}
use Rattle.regalloc2_fastalloc_proofs.proofs.Branches.EdgeArgsGathered.{is_class-true}

-- of a class that no move names there is no move
none_of_class : (P : RegClass → Type 0) (c : RegClass) (given : List ClassMove) → All (λ g. P g.class) given → (P c → ⊥) → of_class c given ≡ []
unfolding of_class
none_of_class P c [] h no_one = refl
none_of_class P c (g ∷ gs) h no_one = elim (cases_Bool (is_class c g.class)) [
  | inl same ↦ absurd (no_one (subst P (is_class-true c g.class same) (h 0 g (omega arith))))
  | inr other ↦ rw other (none_of_class P c gs (λ k d lt. h (suc k) d (omega (arith, lt))) no_one)
]

-- a named class has an allocatable register
pub some_from : (f : FunctionValue) (env : MachineValue) → MachineFits f env → (t : StateValue) → HasAll env t → (c : RegClass) → NoneIsFrom t.allocatable c 0 →
    NamesClass f c → ⊥
some_from f env fits t all c none named =
    let r = (fits c).has_a_register named in
    let q : Register = r.0 in
    let same : q.class ≡ c = (fits c).of_class q r.1 in
    let there : has_register t.allocatable q ≡ true = all.allocatable q (subst (λ k. is_allocatable env k q ≡ true) (sym same) r.1) in
    let away : has_register t.allocatable q ≡ false = none q same (omega arith) (all.fit.small q (inl there)) in cc

module _ (demand : Demand) where
  open demand use {Named, needed, point, env, apart, Known, named}

  -- an argument is spilled
  ample_spills_argument : (a : VirtualRegister) (s : Place) (t u : InstRegs) (old new : StateValue) → SpillsArgument point a s t u old new → AreHeld Known old →
      AreSafeRegs env t → HasEnoughRegs Named needed t old → HasEnoughRegs Named needed u new
  ample_spills_argument a s t u old new (from_register r m at gives places edits machine order clears) held ht h =
      ample_evict_preg demand clears (held_same Known old m places held) ht
      (ample_kept Named needed t old m (keeps_of old m machine) h)
  ample_spills_argument a s t u old new (in_slot away gives sets_alloc edits machine order eu) held ht h =
      subst (λ (y : InstRegs). HasEnoughRegs Named needed y new) (sym eu) (ample_kept Named needed t old new (keeps_of old new machine) h)

  never_spill_argument : (a : VirtualRegister) (t : InstRegs) (old : StateValue) → SpillArgument point a t old no_register → AreHeld Known old →
      AreSafeRegs env t →
      HasEnoughRegs Named needed t old → ⊥
  never_spill_argument a t old s held ht h =
      ample_evict_preg demand s.stops (held_same Known old s.middle s.places held) ht
      (ample_kept Named needed t old s.middle (keeps_of old s.middle s.machine) h)

  -- any parameter that an argument is passed to
  abbrev AnyPasses : VirtualRegister → Type 0
  AnyPasses v = Unit {0}

  -- the arguments of an edge
  module _ (Own : VirtualRegister → Type 0) (params arguments : List VirtualRegister)
      (known : (j : ℕ) → j < length params → Known (slice_index_or params j no_vreg) × Unit {0}) (t : InstRegs)
      (old : StateValue) (before_it : List ClassMove)
      (h : AreSafe env Known old) (ht : AreSafeRegs env t) (given_before : AreGatheredMoves Known AnyPasses old.slots before_it)
      (a : HasEnoughRegs Named needed t old) where
    gathers_edge_moves_kept : (k : ℕ) (u : InstRegs) (m : StateValue) (given : List ClassMove) → GathersEdgeMoves Own point params arguments t old before_it
        k u m given →
        StepKept env Known AllWrite AllMay u m
    gathers_edge_moves_kept k u m given edge = (edge_kept_safe (rules_of env apart Known AllWrite AllMay point tt) AnyPasses (every_write point)
        known h ht given_before
        edge).0

    ample_gathers_edge_moves : (k : ℕ) (u : InstRegs) (m : StateValue) (given : List ClassMove) → GathersEdgeMoves Own point params arguments t old before_it
        k u m given →
        HasEnoughRegs Named needed u m
    ample_gathers_edge_moves k u new given none_gathered = a
    ample_gathers_edge_moves k u new given (one_gathered j some to from w x m n o lt prev gives places edits machine order sets_alloc foreign) =
        let p = gathers_edge_moves_kept j w m some prev in
        ample_spills_argument (slice_index_or arguments j no_vreg) from w u n new sets_alloc (held_same Known m n places (safe_held env Known m p.safe))
        p.inst_regs
        (ample_kept Named needed w m n (keeps_of m n machine) (ample_gathers_edge_moves j w m some prev))
    ample_gathers_edge_moves k u new given (own_argument j some w m lt prev is_own) = ample_gathers_edge_moves j u new given prev

    never_gather_edge : GatherEdge Own point params arguments t old before_it no_register → ⊥
    never_gather_edge s =
        let p = gathers_edge_moves_kept s.index s.given.0 s.middle s.given.1 s.done in
        let n : StateValue = s.stops.0 in
        never_spill_argument (slice_index_or arguments s.index no_vreg) s.given.0 n s.stops.3
        (held_same Known s.middle n s.stops.1 (safe_held env Known s.middle p.safe)) p.inst_regs
        (ample_kept Named needed s.given.0 s.middle n (keeps_of s.middle n s.stops.2) (ample_gathers_edge_moves s.index s.given.0 s.middle s.given.1 s.done))

  -- the arguments of all edges
  module _ (f : FunctionValue) (b : ℕ) (known : (k j : ℕ) → k < length (block_at f b).succs → j < length (block_at f (target_at f b k)).params →
      Known (slice_index_or (block_at f (target_at f b k)).params j no_vreg) × Unit {0})
      (t : InstRegs) (old : StateValue) (h : AreSafe env Known old) (ht : AreSafeRegs env t) (a : HasEnoughRegs Named needed t old) where
    gathered_kept : (k : ℕ) (u : InstRegs) (m : StateValue) (given : List ClassMove) → GathersMoves f b point t old k u m given →
        StepKept env Known AllWrite AllMay u m × AreGatheredMoves Known AnyPasses m.slots given
    gathered_kept k u m given gathers = gathers_moves_kept (rules_of env apart Known AllWrite AllMay point tt) AnyPasses (every_write point) f b known t old
        h ht k
        u m given
        gathers

    -- gathering the arguments of a block's first k edges leaves enough registers
    pub ample_gathers_moves : {k : ℕ} {u : InstRegs} {m : StateValue} {given : List ClassMove} → GathersMoves f b point t old k u m given
        → HasEnoughRegs Named needed u m
    ample_gathers_moves no_edge = a
    ample_gathers_moves {u} {m = new} {given} (one_edge j some more w x m n lt prev edge) =
        let p = gathered_kept j w m some prev in
        ample_gathers_edge_moves (IsOwnDef f b) (block_at f (target_at f b j)).params (arguments_at f b j) (λ i less. known j i lt less) w m some p.0.safe
        p.0.inst_regs p.1
        (ample_gathers_moves prev) (length (block_at f (target_at f b j)).params) u new given edge

    never_gather_moves : GatherMoves f b point t old no_register → ⊥
    never_gather_moves s =
        let p = gathered_kept s.index s.given.0 s.middle s.given.1 s.done in
        never_gather_edge (IsOwnDef f b) (block_at f (target_at f b s.index)).params (arguments_at f b s.index) (λ i less. known s.index i s.inside less)
        s.given.0
        s.middle s.given.1
        p.0.safe p.0.inst_regs p.1 (ample_gathers_moves s.done) s.stops

-- the class of each move is that of an argument
module _ (P : RegClass → Type 0) (point : ℕ) where
  gathers_edge_moves_classes : {Own : VirtualRegister → Type 0} (params arguments : List VirtualRegister) →
      ((j : ℕ) → j < length params → P (slice_index_or arguments j no_vreg).class) →
      (t : InstRegs) (old : StateValue) (before_it : List ClassMove) → All (λ g. P g.class) before_it
      → (k : ℕ) (u : InstRegs) (m : StateValue) (given : List ClassMove) → GathersEdgeMoves Own point params arguments t old before_it k u m given
      → All (λ g. P g.class) given
  gathers_edge_moves_classes params arguments each t old before_it h k u m given none_gathered = h
  gathers_edge_moves_classes params arguments each t old before_it h k u m given
      (one_gathered j some to from w x n o q lt prev gives places edits machine order sets_alloc foreign) =
      All-push (λ (g : ClassMove). P g.class) some (record { class = (slice_index_or arguments j no_vreg).class; from = from; to = to })
      (gathers_edge_moves_classes params arguments each t old before_it h j w n some prev) (each j lt)
  gathers_edge_moves_classes params arguments each t old before_it h k u m given (own_argument j some w n lt prev is_own) =
      gathers_edge_moves_classes params arguments each t old before_it h j u m given prev

  all_classes : (f : FunctionValue) (b : ℕ) → ((k j : ℕ) → k < length (block_at f b).succs → j < length (block_at f (target_at f b k)).params →
      P (slice_index_or (arguments_at f b k) j no_vreg).class) → (t : InstRegs) (old : StateValue)
      → (k : ℕ) (u : InstRegs) (m : StateValue) (given : List ClassMove) → GathersMoves f b point t old k u m given → All (λ g. P g.class) given
  all_classes f b each t old k u m given no_edge = λ j d lt. absurd (omega (arith, lt))
  all_classes f b each t old k u m given (one_edge j some more w x n o lt prev edge) =
      gathers_edge_moves_classes (block_at f (target_at f b j)).params (arguments_at f b j) (λ i less. each j i lt less) w n some
      (all_classes f b each t old j w n some prev)
      (length (block_at f (target_at f b j)).params) u m given edge

-- a branch never fails
pub never_process_branch : {f : FunctionValue} {env : MachineValue} (fits : MachineFits f env) (apart : AreKindsApart env) (Known : VirtualRegister → Type 0)
    (named : (v : VirtualRegister) → Known v → NamesClass f v.class) (needed : RegClass → ℕ) {b i : ℕ}
    → ((k j : ℕ) → k < length (block_at f b).succs → j < length (block_at f (target_at f b k)).params →
    Known (slice_index_or (block_at f (target_at f b k)).params j no_vreg) × Unit {0})
    → ((k j : ℕ) → k < length (block_at f b).succs → j < length (block_at f (target_at f b k)).params →
    NamesClass f (slice_index_or (arguments_at f b k) j no_vreg).class)
    → {t : InstRegs} {old : StateValue} → AreSafe env Known old → HasAll env old → AreSafeRegs env t → HasEnoughRegs (NamesClass f) needed t old
    → ProcessBranch f b i t old no_register → ⊥
never_process_branch {f} {env} fits apart Known named needed {b} {i} known each {t} {old} h all ht a (in_gather s) =
    never_gather_moves (demand_of (NamesClass f) needed (before i) env apart Known named) f b known t old h ht a s
never_process_branch {f} {env} fits apart Known named needed {b} {i} known each {t} {old} h all ht a (in_order class u m n given gathers same stops) =
    stops.0 (none_of_class (NamesClass f) class given (all_classes (NamesClass f) (before i) f b each t old (length (block_at f b).succs) u m given gathers)
    (some_from f env fits m (all_kept env old m (machine_stays (gathers_moves_changes (λ q r. tt) (any_passed (λ e. Unit {0}) f b) gathers)) all) class
    (subst (λ (x : PRegSet). NoneIsFrom x class 0) same stops.1)))
