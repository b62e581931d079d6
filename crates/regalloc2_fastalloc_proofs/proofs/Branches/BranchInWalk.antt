-- A branch of a well-formed function, in the walk over its blocks, carries what its successors need.
use Rattle.std.proofs.Common.{ℕ, suc, ◌≡◌, ◌≢◌, ◌+◌, ◌<◌, ◌⊎◌, inl, inr, true, false, List, [], ◌∷◌, length, refl, sym, ap, ◌∙◌, subst, arith}
use Rattle.std.specs.Prelude.{Option, None, Some}
use Rattle.std.proofs.lemmas.Bool.{cases_Bool, or_cases}
use Rattle.std.proofs.lemmas.List.Elements.{All-get_or}
use Rattle.regalloc2_names.specs.declared.OperandKind.{OperandKind}
use Rattle.regalloc2_names.specs.declared.OperandKind.TheVariants.{Def, Use}
use Rattle.regalloc2_names.specs.Register.{VirtualRegister, is_vreg, has_register}
use Rattle.regalloc2_names.specs.Place.{Place, NoPlace, InRegister, InSlot, before, after}
use Rattle.regalloc2_function.specs.FunctionValue.{FunctionValue, IsLimited, block_at, inst_at, no_inst, op_at, last_of}
use Rattle.regalloc2_function.specs.Machine.{MachineValue}
use Rattle.regalloc2_function.specs.OutputValue.{place_at}
use Rattle.regalloc2_semantics.specs.Runs.{arguments_at}
use Rattle.regalloc2_names.specs.Operand.{is_def}
use Rattle.regalloc2_function.specs.WellFormed.{IsWellFormed, FixedAvoidClobbers}
use Rattle.regalloc2_carry.specs.Listing.{Item}
use Rattle.regalloc2_carry.specs.Carry.{Carries, is_clobbered}
use Rattle.regalloc2_carry.specs.BlockByPoints.{at_point, walked, listed}
use Rattle.regalloc2_semantics.specs.Sound.{names, HasEdge, target_at}
use Rattle.regalloc2_analysis.specs.BranchDefs.BranchDefs.{DefinesNumber, IsEdgeInto}
use Rattle.regalloc2_carry.specs.Blocks.{IsUsed, ExcusedAreSilent, StandsAfter, GoesOut}
use Rattle.regalloc2_semantics.proofs.Cells.{is_vreg-true}
use Rattle.regalloc2_carry.proofs.CarryRules.{carries_weaken}
use Rattle.regalloc2_carry.proofs.BlockBackward.{Relied}
use Rattle.regalloc2_carry.proofs.Points.{at_point-none, all_from-less}
use Rattle.regalloc2_carry.proofs.SingleDef.{IsDefOperand, Made, one_made, one_operand, one_param, not_both, reads_defined}
use Rattle.regalloc2_carry.proofs.SingleDef.Made.{by_operand}
use Rattle.regalloc2_carry.proofs.Order.{ends_within, reads_later}
use Rattle.regalloc2_fastalloc_state.specs.Validate.NoLimits.{AreTaken}
use Rattle.regalloc2_fastalloc_proofs.specs.InstSteps.{StateValue, ends_block}
use Rattle.regalloc2_fastalloc_proofs.specs.BranchSteps.{IsOwnDef}
use Rattle.regalloc2_fastalloc_proofs.specs.StoreSteps.{branch_operands}
use Rattle.regalloc2_fastalloc_proofs.proofs.Safety.StepsKeepState.{slot_in}
use Rattle.regalloc2_fastalloc_proofs.proofs.Operands.RecordOverState.{location_at, slots_at, opt_real}
use Rattle.regalloc2_fastalloc_proofs.proofs.Operands.DefinedNumbers.{defined_by, defined_by-number, number_defined}
use Rattle.regalloc2_fastalloc_proofs.proofs.Moves.StepsAppendEdits.{pushed_at}
use Rattle.regalloc2_fastalloc_proofs.proofs.Safety.WellFormedKeepsSafe.{sound_ops_at}
use Rattle.regalloc2_fastalloc_proofs.proofs.Branches.EdgeArgsGathered.{argument_at, params_on, passes_at}
use Rattle.regalloc2_fastalloc_proofs.proofs.Branches.ArgMovesEffect.{names_at}
use Rattle.regalloc2_fastalloc_proofs.proofs.Branches.Arrivals.{left_at, IsUsedBeyondBranch, Arrive, DefsPlaced, own_slot_of, left_there, left_apart}
use Rattle.regalloc2_fastalloc_proofs.proofs.Branches.DefinitionsCarry.{made_walked}
use Rattle.regalloc2_fastalloc_proofs.proofs.Branches.EdgesInto.{entered_by_one}
use Rattle.regalloc2_fastalloc_proofs.proofs.BlockEnd.BranchAlone.{IsUseMove, branch_moves_uses_only}
use Rattle.regalloc2_fastalloc_proofs.proofs.BlockEnd.BranchEndsBlock.{ToCome}
use Rattle.regalloc2_fastalloc_proofs.proofs.Branches.BranchCarries.{branch_carries}
use Rattle.regalloc2_fastalloc_proofs.proofs.Branches.WellFormedBranch.{unread_parameters, argument_classes}
use Rattle.regalloc2_fastalloc_proofs.proofs.Walk.InstBoundaries.{grown_pushes}
use Rattle.regalloc2_fastalloc_proofs.proofs.Walk.InstsBeforeLastCarry.{defined_from}
use Rattle.regalloc2_fastalloc_proofs.proofs.Walk.DefsBeforeUses.{used_made, used_in_some_block}
use Rattle.regalloc2_fastalloc_proofs.proofs.Walk.BlockCarries.{BlockEnd, EndCarries, BranchCarries, IsPassedOnly, writes_in}
use Rattle.regalloc2_fastalloc_proofs.proofs.Inst.ProperInsts.{all_proper, proper_of}
use Rattle.regalloc2_fastalloc_proofs.proofs.Slots.StepsKeepSlots.{changes_grow, Grown}
use Rattle.regalloc2_fastalloc_proofs.proofs.Changes.WalkChanges.{processes_branch_changes, any_passed}

kind_is : (k : OperandKind) → is_def k ≡ true → k ≡ Def
kind_is Def h = refl
kind_is Use h = absurd cc

-- a vreg whose number is that of a parameter is that parameter
named_param : (ps : List VirtualRegister) (v : VirtualRegister) → names v ps ≡ true → (n : ℕ) × (n < length ps) × (argument_at ps n ≡ v)
unfolding names
named_param [] v h = absurd cc
named_param (p ∷ ps) v h = elim (or_cases (is_vreg p v) (names v ps) h) [
  | inl is ↦ (0, omega arith, is_vreg-true p v is)
  | inr more ↦ (let r = named_param ps v more in (suc r.0, omega (arith, r.1), r.2))
]

module _ (env : MachineValue) (f : FunctionValue) (limited : IsLimited f) (ok : IsWellFormed env f) (taken : AreTaken f) where
  module _ (b : ℕ) (lb : b < length f.blocks) where
    target_small : (e : ℕ) → HasEdge f b e → target_at f b e < length f.blocks
    target_small e edge = All-get_or (λ s. s < length f.blocks) (block_at f b).succs e 0 edge (ok.successors.1 b lb)

    known_params : (e j : ℕ) → HasEdge f b e → j < length (params_on f b e) → Made f (argument_at (params_on f b e) j)
    known_params e j edge less = Made.by_param (target_at f b e) j (record { block = target_small e edge; param = less; number = refl }) refl

    last_lt : last_of (block_at f b) < length f.insts
    last_lt = (let h = ends_within f ok.follow b lb in let some = (ok.follow b lb).0 in omega (arith, h, some))

    defines_last : (n j : ℕ) → DefinesNumber (branch_operands f b) n j → IsDefOperand f n (last_of (block_at f b)) j
    defines_last n j d = record { inst = last_lt; operand = d.operand; definition = d.definition; number = d.number }

    -- no branch defines a parameter
    param_foreign : (e n : ℕ) (w : VirtualRegister) → HasEdge f b e → n < length (params_on f b e) → argument_at (params_on f b e) n ≡ w →
        (c : ℕ) → c < length f.blocks → IsOwnDef f c w → ⊥
    param_foreign e n w edge lt is c lc own =
        let h = ends_within f ok.follow c lc in
        let some = (ok.follow c lc).0 in
        not_both f ok.defined_once w.number (last_of (block_at f c)) own.0 (target_at f b e) n
        (record { inst = omega (arith, h, some); operand = own.1.operand; definition = own.1.definition; number = own.1.number })
        (record { block = target_small e edge; param = lt; number = ap (λ (x : VirtualRegister). x.number) is })

    module _ (placesf : ℕ → List Place) (F : ℕ → Option Place) (stand : ℕ → VirtualRegister → Option Place) (arrive : Arrive f placesf F stand)
        (branch : (inst_at f (last_of (block_at f b))).is_branch ≡ true) (v : VirtualRegister) where
      into : (k j : ℕ) (n : ℕ) → HasEdge f b k → DefinesNumber (branch_operands f b) n j → IsEdgeInto f (target_at f b k) b k
      into k j n edge d = record { block = lb; edge = edge; target = refl; definitions = (branch, (n, j, d)) }

      -- what the branch defines is in the operand's place after the block
      own_out : IsUsedBeyondBranch f v ⊎ IsPassedOnly f v → (j : ℕ) → DefinesNumber (branch_operands f b) v.number j → (p : Place) → GoesOut f stand b v p →
          p ≡ left_at f placesf b j
      own_out known j d p (inl h) = elim known [
        | inl needed ↦ (
            let edge = into h.0 j v.number h.1 d in
            let at = arrive.own (target_at f b h.0) b h.0 j v edge d (needed (target_at f b h.0) b h.0 edge (j, d)) in
            let same : Some p ≡ Some (left_at f placesf b j) = sym h.4 ∙ at in cc)
        | inr un ↦ (let x : None ≡ Some p = sym (arrive.unused (target_at f b h.0) un.0 un.1 un.2 v un.3 un.4 un.5) ∙ h.4 in absurd cc)
      ]
      own_out known j d p (inr h) =
          let n = passes_at (params_on f b h.0) (arguments_at f b h.0) h.1 v h.3 in
          let arg : DefinesNumber (branch_operands f b) (argument_at (arguments_at f b h.0) n.0).number j =
          subst (λ (w : VirtualRegister). DefinesNumber (branch_operands f b) w.number j) (sym n.3) d in
          let at = arrive.given (target_at f b h.0) b h.0 n.0 j (into h.0 j v.number h.2 d) n.1 arg in
          let same : Some p ≡ Some (left_at f placesf b j) = sym h.4 ∙ subst (λ w. stand (target_at f b h.0) w ≡ Some (left_at f placesf b j)) n.2 at in cc

      -- what the branch doesn't define is needed in slots
      foreign_out : IsUsedBeyondBranch f v ⊎ IsPassedOnly f v → (IsOwnDef f b v → ⊥) → (p : Place) → GoesOut f stand b v p → StandsAfter f (λ w. F w.number) b v p
      foreign_out known foreign p (inl h) = elim known [
        | inl needed ↦ (
            let at = arrive.other (target_at f b h.0) v needed
            (λ e l x own. foreign (subst (λ c. IsOwnDef f c v) (sym (entered_by_one env f ok b h.0 lb h.1 e l x).0) own))
            (λ e l n x lt is own. let yes_named : names v (params_on f b h.0) ≡ true = names_at (params_on f b h.0) n v lt is in
            let no_name : names v (params_on f b h.0) ≡ false = h.2 h.0 h.1 in cc) in
            inl (h.2, h.3, sym at ∙ h.4))
        | inr un ↦ (let x : None ≡ Some p = sym (arrive.unused (target_at f b h.0) un.0 un.1 un.2 v un.3 un.4 un.5) ∙ h.4 in absurd cc)
      ]
      foreign_out known foreign p (inr h) =
          let m = passes_at (params_on f b h.0) (arguments_at f b h.0) h.1 v h.3 in
          let at = arrive.other (target_at f b h.0) h.1
          (λ d e l x own. absurd (param_foreign h.0 m.0 h.1 h.2 m.1 m.2 e x.block own))
          (λ e l x own. param_foreign h.0 m.0 h.1 h.2 m.1 m.2 e x.block own)
          (λ e l n x lt is own.
          let s = entered_by_one env f ok b h.0 lb h.2 e l x in
          let same : n ≡ m.0 = (one_param f ok.defined_once h.1.number (target_at f b h.0) (target_at f b h.0) n m.0
          (record { block = target_small h.0 h.2; param = lt; number = ap (λ (w : VirtualRegister). w.number) is })
          (record { block = target_small h.0 h.2; param = m.1; number = ap (λ (w : VirtualRegister). w.number) m.2 })).1 in
          foreign (subst (IsOwnDef f b) m.3 (subst (λ c. IsOwnDef f b (argument_at (arguments_at f b h.0) c)) same
          (subst (λ c. IsOwnDef f c (argument_at (arguments_at f c h.0) n)) (sym s.0)
          (subst (λ c. IsOwnDef f e (argument_at (arguments_at f e c) n)) (sym s.1) own)))))
          in
          inr (h.0, h.1, h.2, h.3, sym at ∙ h.4)

  module _ (placesf : ℕ → List Place) (final : StateValue) (stand : ℕ → VirtualRegister → Option Place) (arrive : Arrive f placesf (slots_at final) stand)
      (placed : (b : ℕ) → b < length f.blocks → (inst_at f (last_of (block_at f b))).is_branch ≡ true → DefsPlaced f placesf (slots_at final) b)
      (decide : (v : VirtualRegister) → IsUsed f v → IsUsedBeyondBranch f v ⊎ IsPassedOnly f v) where
    module _ (b : ℕ) (old new : StateValue) (lb : b < length f.blocks) (e : BlockEnd f placesf (slots_at final) b (last_of (block_at f b)) old new)
        (branch : (inst_at f (last_of (block_at f b))).is_branch ≡ true) where
      abbrev last : ℕ
      last = last_of (block_at f b)

      within : last < length f.insts
      within = last_lt b lb

      ends : ends_block (inst_at f last) ≡ true
      ends = rw branch refl

      come : ToCome (slots_at final) new
      come = record {
        only = λ x p is. by_place x p (opt_real (slot_in final x) p is) (e.only_slots x) is;
        own = e.own;
        stays = e.stays;
        fresh = λ x n comes none. e.fresh x n none comes;
      }
        where
          by_place : (x : ℕ) (p : Place) → p ≢ NoPlace → ((r : _) → slots_at final x ≡ Some (InRegister r) → ⊥) → slots_at final x ≡ Some p → (n : ℕ)
              × (p ≡ InSlot n)
          by_place x NoPlace there only is = absurd (there refl)
          by_place x (InRegister r) there only is = absurd (only r is)
          by_place x (InSlot n) there only is = (n, refl)

      own_slots : (k : ℕ) → k < length (inst_at f last).operands → is_def (op_at (inst_at f last).operands k).kind ≡ true → (n : ℕ) →
          place_at (placesf last) k ≡ InSlot n → slots_at final (op_at (inst_at f last).operands k).vreg.number ≡ Some (InSlot n)
      own_slots = own_slot_of f ok.defined_once placesf (slots_at final) e.own b within (placed b lb branch)

      defined_not : (w : VirtualRegister) → (IsOwnDef f b w → ⊥) → defined_by (inst_at f last).operands w.number ≡ false
      defined_not w none = elim (cases_Bool (defined_by (inst_at f last).operands w.number)) [
        | inl is ↦ absurd (none (number_defined (inst_at f last).operands w.number is))
        | inr free ↦ free
      ]

      -- no move is listed after the branch
      quiet : at_point (listed new.edits) (after last) ≡ []
      quiet =
          let br = branch_moves_uses_only (proper_of (Made f) f placesf (all_proper env f limited ok)) last e.allocates.allocates.blank
          e.allocates.allocates.here old e.allocates.middle within e.at (sound_ops_at env f limited ok taken last within) ends e.between e.bare
          e.allocates.allocates.allocates in
          let p = e.allocates.branch branch in
          let g : Grown (λ n. n ≡ before last) e.allocates.middle new =
          changes_grow (λ n. n ≡ before last) (processes_branch_changes (λ q r. refl) (any_passed (λ d. d.0 ≡ before last) f b) p) in
          pushed_at (λ d. d.0 ≡ before last) (after last) e.allocates.middle.edits new.edits (λ d is at. omega (arith, is, at))
          (grown_pushes (λ n. n ≡ before last) e.allocates.middle new g)
          ∙ pushed_at (IsUseMove last (inst_at f last).operands e.allocates.allocates.here) (after last) old.edits e.allocates.middle.edits
          (λ d is at. let x : d.0 ≡ before last = is.0 in omega (arith, x, at)) br.pushes
          ∙ at_point-none (after last) (listed old.edits) (all_from-less (suc (after last)) (before (last + 1)) (listed old.edits) (omega arith)
          e.between.later)

      module _ (silent : ExcusedAreSilent f b) (v : VirtualRegister) (used : IsUsed f v) where
        abbrev L : List Item
        L = walked (inst_at f) (at_point (listed new.edits)) placesf last 1

        abbrev On : Place → Type 0
        On = Relied (defined_from f v.number last 1) (writes_in f b last v.number) (location_at new v.number) (slots_at new v.number) (slots_at final v.number)

        made : Made f v
        made = (let there = used_in_some_block f v used in used_made f ok.defined_once ok.follow ok.uses_defined v there.0 there.1 there.2)

        -- the branch carries what it defines
        own_carries : (j : ℕ) → DefinesNumber (branch_operands f b) v.number j → Carries v L On (GoesOut f stand b v)
        own_carries j d =
            let named : (op_at (inst_at f last).operands j).vreg ≡ v = one_made f ok.defined_once (op_at (inst_at f last).operands j).vreg v
            (by_operand last j (record { inst = within; operand = d.operand; definition = d.definition; number = refl }) refl) made d.number in
            let mine : IsDefOperand f v.number last j = defines_last b lb v.number j d in
            carries_weaken v L (λ p. ⊥) On (λ p. p ≡ left_at f placesf b j) (GoesOut f stand b v) (λ p h. absurd h)
            (own_out b lb placesf (slots_at final) stand arrive branch v (decide v used) j d)
            (made_walked v (inst_at f) (at_point (listed new.edits)) placesf last (left_at f placesf b j) (record {
              by = j;
              within = d.operand;
              defines = d.definition;
              vreg_is = named;
              place_is = refl;
              is_there = left_there f ok.defined_once placesf (slots_at final) e.own b within (placed b lb branch) j d.operand d.definition;
              last_of_vreg = λ k lk later def is.
                  let x : IsDefOperand f v.number last k = record {
                    inst = within;
                    operand = lk;
                    definition = def;
                    number = ap (λ (w : VirtualRegister). w.number) is;
                  } in
                  let same = (one_operand f ok.defined_once v.number last last j k mine x).1 in omega (arith, later, same);
              last_at_place = λ k lk later def at.
                  let same : j ≡ k = left_apart f ok.defined_once placesf (slots_at final) e.own b within (placed b lb branch) j k d.operand lk d.definition def
                  (sym at) in omega (arith, later, same);
              no_clobber = clear j d.operand d.definition;
            }) (λ k lk reads is.
            let later = reads_later f ok.defined_once v.number last j last k mine within
            (reads_defined f (omega (arith, lb)) ok.follow ok.uses_defined last within) lk reads (ap (λ (w : VirtualRegister). w.number) is) in
            omega (arith, later)) quiet)
          where
            clear : (k : ℕ) → k < length (inst_at f last).operands → is_def (op_at (inst_at f last).operands k).kind ≡ true →
                is_clobbered (inst_at f last).clobbers (left_at f placesf b k) ≡ false
            clear k lk def = elim ((placed b lb branch).kinds k lk def) [
              | inl r ↦ (
                  let at : left_at f placesf b k ≡ InRegister r.0 = (placed b lb branch).fixed k r.0 lk def r.1 in
                  let free : has_register (inst_at f last).clobbers r.0 ≡ false = All-get_or FixedAvoidClobbers f.insts last no_inst within ok.fixed k
                  lk r.0 r.1 (inl (kind_is (op_at (inst_at f last).operands k).kind def)) in
                  ap (is_clobbered (inst_at f last).clobbers) at ∙ free)
              | inr slot ↦ (let s = (placed b lb branch).slotted k lk def slot in ap (is_clobbered (inst_at f last).clobbers) s.1)
            ]

        -- the branch carries what it doesn't define
        foreign_carries : (IsOwnDef f b v → ⊥) → Carries v L On (GoesOut f stand b v)
        foreign_carries foreign =
            carries_weaken v L On On (StandsAfter f (λ u. slots_at final u.number) b v) (GoesOut f stand b v) (λ p h. h)
            (foreign_out b lb placesf (slots_at final) stand arrive branch v (decide v used) foreign)
            (branch_carries (record {
              code = proper_of (Made f) f placesf (all_proper env f limited ok);
              F = slots_at final;
              b = b;
              last = last;
              blank = e.allocates.allocates.blank;
              here = e.allocates.allocates.here;
              old = old;
              middle = e.allocates.middle;
              new = new;
              within = within;
              are_listed = e.at;
              sound_ops = sound_ops_at env f limited ok taken last within;
              ends = ends;
              own_defs = own_slots;
              undefined_params = λ k w edge named.
                  defined_not w (let n = named_param (params_on f b k) w named in param_foreign b lb k n.0 w edge n.1 n.2 b lb);
              known_params = known_params b lb;
              classes = argument_classes f b ok.counted ok.classes lb;
              unread_params = unread_parameters f b last ok.predecessors ok.no_operands_into_joins silent lb (target_small b lb)
                  (let some = (ok.follow b lb).0 in omega (arith, some)) e.end;
              between = e.between;
              bare = e.bare;
              a = e.allocates.allocates.allocates;
              inst_regs = e.allocates.inst_regs;
              p = e.allocates.branch branch;
              come = come;
            }) v made (defined_not v foreign) foreign (writes_in f b last v.number) (e.in_slot_or_nowhere v.number) (e.writes v made) (e.lives v))

      at_last : EndCarries f placesf (slots_at final) stand b (last_of (block_at f b)) new
      at_last silent v used excused = elim (cases_Bool (defined_by (inst_at f last).operands v.number)) [
        | inl is ↦ (let d = number_defined (inst_at f last).operands v.number is in own_carries silent v used d.0 d.1)
        | inr free ↦ foreign_carries silent v used (λ own. let yes_defined : defined_by (inst_at f last).operands v.number ≡ true =
            defined_by-number (inst_at f last).operands v.number own.0 own.1 in cc)
      ]

    -- in a well-formed function each branch carries what is needed after its block
    pub branches_carry : BranchCarries f placesf (slots_at final) stand
    branches_carry b last old new lb e =
        let end : last + 1 ≡ (block_at f b).range.end = e.end in
        let is_last : last_of (block_at f b) ≡ last = omega (arith, end) in
        subst (λ n. BlockEnd f placesf (slots_at final) b n old new → (inst_at f n).is_branch ≡ true → EndCarries f placesf (slots_at final) stand b n new)
        is_last (λ at branch. at_last b old new lb at branch) e
