-- One operand after another is placed, and enough registers are left for the waiting operands.
-- The fold in `Changes` of regalloc2_fastalloc_proofs doesn't apply: an operand's place is passed from its selection to
-- the steps that follow.
use Rattle.std.proofs.Common.{ℕ, ◌≡◌, ◌≢◌, ◌<◌, Bool, true, false, List, length, refl, sym, ap, ◌∙◌, subst, inl, inr, ◌⊎◌, arith, get_or-set_same, set}
use Rattle.std.specs.Prelude.{not, ◌&&◌}
use Rattle.std.proofs.lemmas.Bool.{cases_eq, and_right, both_ways}
use Rattle.std.proofs.lemmas.List.{get_or-set_other}
use Rattle.std.proofs.Math.ListN.{length-set}
use Rattle.regalloc2_names.specs.declared.RegClass.{RegClass}
use Rattle.regalloc2_names.specs.declared.OperandConstraint.TheVariants.{FixedReg, Reuse}
use Rattle.regalloc2_names.specs.Register.{Register, VirtualRegister, is_register, has_register}
use Rattle.regalloc2_names.specs.Operand.{OperandValue, is_def, is_reading, is_fixed_nonallocatable}
use Rattle.regalloc2_names.specs.Place.{Place, NoPlace, InRegister, InSlot, after}
use Rattle.regalloc2_semantics.specs.Fits.{is_under_reg}
use Rattle.regalloc2_function.specs.Machine.{MachineValue}
use Rattle.regalloc2_function.specs.OutputValue.{place_at}
use Rattle.regalloc2_fastalloc_state.specs.declared.inst_regs.InstRegs.{InstRegs}
use Rattle.regalloc2_fastalloc_state.specs.declared.request.Requirement.{Requirement}
use Rattle.regalloc2_fastalloc_state.specs.declared.request.OperandRequest.{OperandRequest}
use Rattle.regalloc2_fastalloc_state.specs.InstRegs.{is_free, awaited_of}
use Rattle.regalloc2_function.specs.FunctionValue.{op_at}
use Rattle.regalloc2_fastalloc_proofs.specs.InstSteps.{StateValue, use_request, def_request, reuse_request, AllocsOperand, ClaimsPlace, in_slot, in_register}
use Rattle.regalloc2_fastalloc_proofs.specs.InstSteps.{AllocsDefOp, AllocsUse, ProcessesOperand, a_register, a_use, a_def, a_reuse, no_register, AllocOperand}
use Rattle.regalloc2_fastalloc_proofs.specs.InstSteps.{AllocDefOp, in_get, in_define, ProcessOperand, at_use, at_def, at_reuse}
use Rattle.regalloc2_fastalloc_proofs.proofs.Safety.StepsKeepSafe.{AreKindsApart, rules_of}
use Rattle.regalloc2_fastalloc_proofs.proofs.Moves.ScratchRegTaken.{Less, less_trans}
use Rattle.regalloc2_fastalloc_proofs.proofs.Evictions.EvictKeepsRecord.{evictions_less}
use Rattle.regalloc2_fastalloc_proofs.proofs.Changes.Evictions.{but_evicts}
use Rattle.regalloc2_fastalloc_proofs.proofs.Operands.ReuseDefs.{frees_alloc_less}
use Rattle.regalloc2_fastalloc_proofs.proofs.Safety.OperandKeepsSafe.{PlaceKept, allocs_operand_kept}
use Rattle.regalloc2_fastalloc_proofs.proofs.Operands.AllocsSoFar.{AreSoundOperands, Filled, FixedAreKnown}
use Rattle.regalloc2_fastalloc_proofs.specs.Pressure.EnoughRegs.{HasEnoughRegs, waiting, AllWrite, AllMay}
use Rattle.regalloc2_fastalloc_proofs.proofs.Safety.StepsKeepMachine.{KeepsMachine, keeps_machine_trans, machine_stays}
use Rattle.regalloc2_fastalloc_proofs.proofs.Changes.InstChanges.{allocs_operand_changes, locates_use_changes, frees_alloc_changes}
use Rattle.regalloc2_fastalloc_proofs.proofs.Pressure.TablesHaveAllRegs.{HasAll, all_kept}
use Rattle.regalloc2_fastalloc_proofs.proofs.Pressure.OneRegTaken.{ample_kept}
use Rattle.regalloc2_fastalloc_proofs.proofs.Pressure.ClaimLeavesEnough.{ample_allocs_operand, never_alloc_operand, never_free_alloc, ample_frees_alloc}
use Rattle.regalloc2_fastalloc_proofs.proofs.Pressure.ClaimLeavesEnough.{safe_held, naming_of}
use Rattle.regalloc2_fastalloc_proofs.proofs.Pressure.FreeRegsCoverWaiting.{Paying, Pays, pays_fewer, pays_awaited, pays_paid, unfree_kept, placed_register_is_not_free}
use Rattle.regalloc2_fastalloc_proofs.proofs.Pressure.OperandFindsReg.{CountedOperand, Ready, waiting_unchanged, use_ready, def_ready, reuse_ready}
use Rattle.regalloc2_fastalloc_proofs.proofs.BlockEnd.NoMoveInLastInst.{some_position}

-- what is held stays held while an operand gets its place
pub allocs_operand_less : (point : ℕ) (o : OperandRequest) (p : Place) (t u : InstRegs) (old new : StateValue) → AllocsOperand point o p t u old new → Less t u
allocs_operand_less point o p t u old new g = by_case g.takes.occupies
  where
    by_case : ClaimsPlace point o p t u g.middle g.takes.claimed → Less t u
    by_case (in_slot k is sets en) = record { early = λ q h. ap (λ x. has_register x q) sets.early ∙ h; late = λ q h. ap (λ x. has_register x q) sets.late ∙ h }
    by_case (in_register r m is clears holds) = less_trans t m u (evictions_less (but_evicts clears))
        (record {
          early = λ q h. holds.early q ∙ and_right (not (o.positions.early && is_register r q)) (has_register m.early q) h;
          late = λ q h. holds.late q ∙ and_right (not (o.positions.late && is_register r q)) (has_register m.late q) h;
        })

use_position : (o : OperandValue) (p : Place) → ((use_request o p).positions.early ≡ true) ⊎ ((use_request o p).positions.late ≡ true)
use_position o NoPlace = some_position o
use_position o (InRegister r) = some_position o
use_position o (InSlot n) = some_position o

-- a place that is set in the list is there, and other places stay
written_or : (here : List Place) (k : ℕ) (q : Place) → k < length here → (j : ℕ) → (place_at (set here k q) j ≡ place_at here j)
    ⊎ (place_at (set here k q) j ≡ q)
written_or here k q lt j = elim (cases_eq j k) [
  | inl e ↦ inr (ap (place_at (set here k q)) e ∙ get_or-set_same here k q NoPlace lt)
  | inr ne ↦ inl (get_or-set_other here k j q NoPlace ne)
]

-- The operands of the instruction i, which ends its block or not, sound and fixed to registers of the machine, whose
-- kinds of registers are disjoint; the named classes; the known vregs, of such classes; and slots that exist at least.
pub record NamedOperands : Type 1 where
  pub Named : RegClass → Type 0
  pub env : MachineValue
  pub apart : AreKindsApart env
  pub Known : VirtualRegister → Type 0
  pub named : (v : VirtualRegister) → Known v → Named v.class
  pub ops : List OperandValue
  pub sound_ops : AreSoundOperands Known ops
  pub fixed : FixedAreKnown env ops
  pub i : ℕ
  pub ends_block : Bool

-- the record, built from its parts
abbrev pub named_operands : (Named : RegClass → Type 0) (env : MachineValue) → AreKindsApart env → (Known : VirtualRegister → Type 0) →
    ((v : VirtualRegister) → Known v → Named v.class) → (ops : List OperandValue) → AreSoundOperands Known ops → FixedAreKnown env ops → ℕ → Bool →
    NamedOperands
named_operands Named env apart Known named ops sound_ops fixed i ends_block = record {
  Named = Named;
  env = env;
  apart = apart;
  Known = Known;
  named = named;
  ops = ops;
  sound_ops = sound_ops;
  fixed = fixed;
  i = i;
  ends_block = ends_block;
}

module _ (operands : NamedOperands) where
  open operands use {Named, env, apart, Known, named, ops, sound_ops, fixed, i, ends_block}

  module _ (D : ℕ → Type 0) (k : ℕ) (here : List Place) (t : InstRegs) (old : StateValue) (lt : k < length ops) (undone : D k → ⊥)
      (not_n : (n : ℕ) → (op_at ops k).constraint ≡ Reuse n → D n → ⊥)
      (h : Filled env Known AllWrite AllMay ops D here t old) (p : Paying Named ops D here t old) (all : HasAll env old) where
    -- the operand's turn
    abbrev turn : CountedOperand env Known ops
    turn = record {
      Named = Named;
      fixed = fixed;
      D = D;
      k = k;
      here = here;
      t = t;
      old = old;
      lt = lt;
      undone = undone;
      h = h;
      p = p;
    }

    -- what an operand's place keeps
    record Got (v : VirtualRegister) (w : Requirement) (there : List Place) (q : Place) (u : InstRegs) (new : StateValue) : Type 0 where
      pays : Pays ops here there v w t old
      kept : PlaceKept env Known AllWrite AllMay v w q u new
      ample : HasEnoughRegs Named (waiting ops there) u new
      keeps : KeepsMachine old new
      less : Less t u

    got : (o : OperandRequest) (there : Place → List Place) → Ready env Known ops sound_ops o.vreg o.requirement here there t old →
        (q : Place) (u : InstRegs) (new : StateValue) → AllocsOperand (after i) o q t u old new → Got o.vreg o.requirement (there q) q u new
    got o there r q u new g =
        let x = allocs_operand_kept (rules_of env apart Known AllWrite AllMay (after i) tt) sound_ops.same o q t u old new g r.known r.asks_well h.safe
        h.inst_regs in
        let y = r.pays q x.answer in
        record {
          pays = y;
          kept = x;
          ample = ample_allocs_operand (naming_of Named env apart Known named (after i)) (waiting ops here) (waiting ops (there q)) g
              (pays_fewer ops here (there q) o.vreg o.requirement t old y)
              (pays_paid Named y g all (named o.vreg r.known) x.place x.answer p.ample p.awaited)
              (safe_held env Known old h.safe) all.fit h.inst_regs p.ample;
          keeps = machine_stays (allocs_operand_changes (λ p s. tt) tt g);
          less = allocs_operand_less (after i) o q t u old new g;
        }

    never_place : (o : OperandRequest) (there : Place → List Place) → Ready env Known ops sound_ops o.vreg o.requirement here there t old →
        AllocOperand (after i) o t old no_register → ⊥
    never_place o there r s = never_alloc_operand (naming_of Named env apart Known named (after i)) (waiting ops here) o t old s r.known r.some
        (safe_held env Known old h.safe) h.inst_regs p.ample

    never_alloc_def_op : (o : OperandRequest) (there : Place → List Place) → Ready env Known ops sound_ops o.vreg o.requirement here there t old
        → AllocDefOp (after i) o ends_block t old no_register → ⊥
    never_alloc_def_op o there r (in_get s) = never_place o there r s
    never_alloc_def_op o there r (in_define q u m g s) =
        let x = got o there r q u m g in
        never_free_alloc (naming_of Named env apart Known named (after i)) sound_ops.same (waiting ops (there q)) o.vreg ends_block q u m r.known x.kept.place
        x.kept.kept.safe
        (all_kept env old m x.keeps all) x.kept.kept.inst_regs x.ample s

    -- an operand finds its place
    pub never_process_operand : ProcessOperand i ends_block ops k here t old no_register → ⊥
    never_process_operand (at_use reads s) = never_place (use_request (op_at ops k) (place_at here k)) (λ q. set here k q)
        (use_ready env Known ops sound_ops turn reads) s
    never_process_operand (at_def def no_reuse s) = never_alloc_def_op (def_request (op_at ops k)) (λ q. set here k q)
        (def_ready env Known ops sound_ops turn def no_reuse) s
    never_process_operand (at_reuse n def reuses s) = never_alloc_def_op (reuse_request (op_at ops k) (op_at ops n)) (λ q. set (set here k q) n q)
        (reuse_ready env Known ops sound_ops turn n def reuses (not_n n reuses)) s

    module _ (E : ℕ → Type 0) (at_it : E k) (forth : (j : ℕ) → D j → E j) where
      -- the accounting with one more place
      paid : (there : List Place) (q : Place) (u : InstRegs) (new : StateValue) → HasEnoughRegs Named (waiting ops there) u new →
          ((c : RegClass) → awaited_of u c ≡ waiting ops there c) → Less t u → KeepsMachine old new
          → ((j : ℕ) → (place_at there j ≡ place_at here j) ⊎ (place_at there j ≡ q)) →
          ((r : Register) → q ≡ InRegister r → is_free new.allocatable u r ≡ false)
          → ((j : ℕ) (r : Register) → j < length ops → (E j → ⊥) → place_at there j ≡ InRegister r → (m : ℕ) × (m < length ops) × E m
          × ((op_at ops m).constraint ≡ Reuse j))
          → Paying Named ops E there u new
      paid there q u new ample counted less keeps places unfree names = record {
        ample = ample;
        awaited = counted;
        placed_unfree = λ j r within allocated is. elim is [
          | inl at ↦ elim (places j) [
            | inl same ↦ unfree_kept old.allocatable new.allocatable t u r keeps.allocatable less (p.placed_unfree j r within allocated (inl (sym same ∙ at)))
            | inr here_now ↦ unfree r (sym here_now ∙ at)
          ]
          | inr to ↦ unfree_kept old.allocatable new.allocatable t u r keeps.allocatable less (p.placed_unfree j r within allocated (inr to))
        ];
        named = names;
      }

      -- a reuse that is done names what has a register already
      still_named : (there : List Place) → ((j : ℕ) → j ≢ k → place_at there j ≡ place_at here j) → (j : ℕ) (r : Register) → j < length ops → (E j → ⊥) →
          place_at there j ≡ InRegister r
          → (m : ℕ) × (m < length ops) × E m × ((op_at ops m).constraint ≡ Reuse j)
      still_named there elsewhere j r within not_e at =
          let ne : j ≢ k = λ same. not_e (subst E (sym same) at_it) in
          let x = p.named j r within (λ d. not_e (forth j d)) (sym (elsewhere j ne) ∙ at) in
          (x.0, x.1, forth x.0 x.2, x.3)

      long : k < length here
      long = let l = h.long in omega (arith, l, lt)

      one_place : (q : Place) (u : InstRegs) (new : StateValue) → HasEnoughRegs Named (waiting ops (set here k q)) u new →
          ((c : RegClass) → awaited_of u c ≡ waiting ops (set here k q) c) → Less t u → KeepsMachine old new
          → ((r : Register) → q ≡ InRegister r → is_free new.allocatable u r ≡ false) → Paying Named ops E (set here k q) u new
      one_place q u new ample counted less keeps unfree = paid (set here k q) q u new ample counted less keeps (written_or here k q long) unfree
          (still_named (set here k q) (λ j ne. get_or-set_other here k j q NoPlace ne))

      allocs_use_pays : (q : Place) (u : InstRegs) (new : StateValue) → is_reading (op_at ops k) ≡ true →
          AllocsUse (after i) (use_request (op_at ops k) (place_at here k)) q t u old new → Paying Named ops E (set here k q) u new
      allocs_use_pays q u new reads d =
          let o : OperandRequest = use_request (op_at ops k) (place_at here k) in
          let r = use_ready env Known ops sound_ops turn reads in
          let x = got o (λ z. set here k z) r q u d.middle d.gets in
          let then = machine_stays (locates_use_changes tt d.uses) in
          one_place q u new (ample_kept Named (waiting ops (set here k q)) u d.middle new then x.ample)
          (pays_awaited ops here (set here k q) o.vreg o.requirement t u old x.pays p.awaited d.awaited) x.less (keeps_machine_trans old d.middle new x.keeps then)
          (λ s is. placed_register_is_not_free (after i) o q t u old d.middle d.gets (use_position (op_at ops k) (place_at here k)) new.allocatable s is)

      -- a definition has its place, and its moves are made
      module _ (o : OperandRequest) (there : Place → List Place) (r : Ready env Known ops sound_ops o.vreg o.requirement here there t old)
          (some : (o.positions.early ≡ true) ⊎ (o.positions.late ≡ true)) (q : Place) (u : InstRegs) (new : StateValue)
          (d : AllocsDefOp (after i) o ends_block q t u old new) where
        gotten : Got o.vreg o.requirement (there q) q d.inst_regs d.middle
        gotten = got o there r q d.inst_regs d.middle d.gets

        moved_keeps : KeepsMachine d.middle new
        moved_keeps = machine_stays (frees_alloc_changes (λ p s. tt) (λ p. tt) (λ p. tt) tt d.defines)

        moved_less : Less d.inst_regs u
        moved_less = frees_alloc_less (after i) o.vreg ends_block q d.inst_regs u d.middle new d.defines

        def_ample : HasEnoughRegs Named (waiting ops (there q)) u new
        def_ample = ample_frees_alloc (naming_of Named env apart Known named (after i)) sound_ops.same (waiting ops (there q)) o.vreg ends_block q d.inst_regs d.middle
            r.known
            gotten.kept.place gotten.kept.kept.safe (all_kept env old d.middle gotten.keeps all) gotten.kept.kept.inst_regs gotten.ample d.defines

        def_counted : (c : RegClass) → awaited_of u c ≡ waiting ops (there q) c
        def_counted = pays_awaited ops here (there q) o.vreg o.requirement t u old gotten.pays p.awaited d.awaited

        def_less : Less t u
        def_less = less_trans t d.inst_regs u gotten.less moved_less

        def_keeps : KeepsMachine old new
        def_keeps = keeps_machine_trans old d.middle new gotten.keeps moved_keeps

        def_unfree : (s : Register) → q ≡ InRegister s → is_free new.allocatable u s ≡ false
        def_unfree s is = unfree_kept new.allocatable new.allocatable d.inst_regs u s refl moved_less
            (placed_register_is_not_free (after i) o q t d.inst_regs old d.middle d.gets some new.allocatable s is)

      allocs_def_op_pays : (q : Place) (u : InstRegs) (new : StateValue) → is_def (op_at ops k).kind ≡ true →
          ((n : ℕ) → (op_at ops k).constraint ≡ Reuse n → ⊥) →
          AllocsDefOp (after i) (def_request (op_at ops k)) ends_block q t u old new → Paying Named ops E (set here k q) u new
      allocs_def_op_pays q u new def no_reuse d =
          let o : OperandRequest = def_request (op_at ops k) in
          let r = def_ready env Known ops sound_ops turn def no_reuse in
          let some = some_position (op_at ops k) in
          one_place q u new (def_ample o (λ z. set here k z) r some q u new d) (def_counted o (λ z. set here k z) r some q u new d)
          (def_less o (λ z. set here k z) r some q u new d) (def_keeps o (λ z. set here k z) r some q u new d)
          (def_unfree o (λ z. set here k z) r some q u new d)

      allocs_reuse_pays : (n : ℕ) (q : Place) (u : InstRegs) (new : StateValue) → is_def (op_at ops k).kind ≡ true → (op_at ops k).constraint ≡ Reuse n →
          AllocsDefOp (after i) (reuse_request (op_at ops k) (op_at ops n)) ends_block q t u old new
          → Paying Named ops E (set (set here k q) n q) u new
      allocs_reuse_pays n q u new def reuses d =
          let o : OperandRequest = reuse_request (op_at ops k) (op_at ops n) in
          let there : Place → List Place = λ z. set (set here k z) n z in
          let r = reuse_ready env Known ops sound_ops turn n def reuses (not_n n reuses) in
          let n_long : n < length (set here k q) = (let w = (sound_ops.named k n lt reuses).0 in let l = h.long in let e = length-set here k q in
          omega (arith, w, l, e)) in
          paid (there q) q u new (def_ample o there r (inl refl) q u new d) (def_counted o there r (inl refl) q u new d)
          (def_less o there r (inl refl) q u new d) (def_keeps o there r (inl refl) q u new d)
          (λ j. elim (written_or (set here k q) n q n_long j) [
            | inl same ↦ elim (written_or here k q long j) [ inl too ↦ inl (same ∙ too) | inr is ↦ inr (same ∙ is) ]
            | inr is ↦ inr is
          ])
          (def_unfree o there r (inl refl) q u new d)
          (λ j s within not_e at. elim (cases_eq j n) [
            | inl e ↦ (k, lt, at_it, reuses ∙ ap Reuse (sym e))
            | inr ne ↦ still_named (set here k q) (λ l other. get_or-set_other here k l q NoPlace other) j s within not_e
                (sym (get_or-set_other (set here k q) n j q NoPlace ne) ∙ at)
          ])

      -- an operand that names a register and no vreg
      register_pays : (r : Register) → is_fixed_nonallocatable (op_at ops k) ≡ true → (op_at ops k).constraint ≡ FixedReg r →
          Paying Named ops E (set here k (InRegister r)) t old
      register_pays r silent is =
          let other : is_under_reg (op_at ops k).constraint ≡ false = ap is_under_reg is in
          let same = waiting_unchanged env Known ops sound_ops here k (InRegister r) h.long other in
          record {
            ample = λ c n. (let a = p.ample c n in let e = same c in omega (arith, a, e));
            awaited = λ c. p.awaited c ∙ sym (same c);
            placed_unfree = λ j s within allocated at. p.placed_unfree j s within allocated (elim at [
              | inl there ↦ elim (cases_eq j k) [
                | inl e ↦ absurd (both_ways (is_fixed_nonallocatable (op_at ops k))
                    (ap (λ (m : ℕ). is_fixed_nonallocatable (op_at ops m)) (sym e) ∙ allocated) silent)
                | inr ne ↦ inl (sym (get_or-set_other here k j (InRegister r) NoPlace ne) ∙ there)
              ]
              | inr to ↦ inr to
            ]);
            named = still_named (set here k (InRegister r)) (λ j ne. get_or-set_other here k j (InRegister r) NoPlace ne);
          }

      -- an operand is allocated
      pub processes_operand_pays : (there : List Place) (u : InstRegs) (new : StateValue) → ProcessesOperand i ends_block ops k here there t u old new
          → Paying Named ops E there u new
      processes_operand_pays there u new (a_register r silent is written eu en) =
          subst (λ l. Paying Named ops E l u new) (sym written) (subst (λ z. Paying Named ops E (set here k (InRegister r)) z new) (sym eu)
          (subst (Paying Named ops E (set here k (InRegister r)) t) (sym en) (register_pays r silent is)))
      processes_operand_pays there u new (a_use q reads places written) = subst (λ l. Paying Named ops E l u new) (sym written)
          (allocs_use_pays q u new reads places)
      processes_operand_pays there u new (a_def q def no_reuse places written) = subst (λ l. Paying Named ops E l u new) (sym written)
          (allocs_def_op_pays q u new def no_reuse places)
      processes_operand_pays there u new (a_reuse n q def reuses places written) = subst (λ l. Paying Named ops E l u new) (sym written)
          (allocs_reuse_pays n q u new def reuses places)
