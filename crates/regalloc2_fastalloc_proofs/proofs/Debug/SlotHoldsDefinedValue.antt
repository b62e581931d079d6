-- After a definition, the slot that its vreg has at the walk's end holds its value.
use Rattle.std.proofs.Common.{ℕ, ◌≡◌, ◌+◌, ◌<◌, inl, inr, true, false, List, [], ◌∷◌, ◌++◌, length, refl, sym, ap, ◌∙◌, subst, arith}
use Rattle.std.specs.Prelude.{slice_index_or}
use Rattle.std.proofs.lemmas.List.{get_or_default}
use Rattle.regalloc2_names.specs.Register.{VirtualRegister, no_vreg}
use Rattle.regalloc2_names.specs.Operand.{is_def}
use Rattle.regalloc2_names.specs.Place.{Place, InSlot, before}
use Rattle.regalloc2_function.specs.FunctionValue.{FunctionValue, IsLimited, block_at, inst_at, no_operand, op_at, last_of}
use Rattle.regalloc2_function.specs.Machine.{MachineValue}
use Rattle.regalloc2_function.specs.OutputValue.{MoveValue, allocs_of}
use Rattle.regalloc2_semantics.specs.Runs.{Way, Onward, ToSuccessor, end_of, IsPath, IsDefinitelyAssigned, arguments_at, source_before, cells_before}
use Rattle.regalloc2_semantics.specs.Live.{DefinesAt}
use Rattle.regalloc2_function.specs.WellFormed.{IsWellFormed}
use Rattle.regalloc2_carry.specs.Listing.{Item, exec_item}
use Rattle.regalloc2_carry.specs.Listing.Item.{Move}
use Rattle.regalloc2_carry.proofs.CarryRules.{carries_moves}
use Rattle.regalloc2_carry.proofs.PushedMoves.{before_part-more, walked-pushed}
use Rattle.regalloc2_carry.proofs.MoveInFront.{walked-more, with_moves-more, with_moves-none}
use Rattle.regalloc2_carry.specs.Carry.{Carries}
use Rattle.regalloc2_semantics.specs.Sound.{Undefined, target_at, HasSoundBlocks}
use Rattle.regalloc2_carry.specs.BlockByPoints.{at_point, walked, before_part, Rising, listed}
use Rattle.regalloc2_semantics.specs.Laws.{ReadsAgreeOnPaths, Cells}
use Rattle.regalloc2_carry.proofs.SingleDef.{Made, one_operand, not_both, reads_defined}
use Rattle.regalloc2_carry.proofs.SingleDef as defined
use Rattle.regalloc2_carry.proofs.UnwrittenPlaces.{NoMoveTo, moves_kept}
use Rattle.regalloc2_carry.proofs.Order.{reads_later, passes_later}
use Rattle.regalloc2_carry.proofs.Points.{rising_by, moves_before-first}
use Rattle.regalloc2_semantics.proofs.Soundness.{well_formed_are_sound}
use Rattle.regalloc2_fastalloc_state.specs.StateParts.{SlotsHaveOneOwner, slot_name}
use Rattle.regalloc2_fastalloc_proofs.specs.InstSteps.{AllocsInst}
use Rattle.regalloc2_fastalloc_proofs.proofs.Walk.InstBoundaries.{BranchKept, grown_pushes}
use Rattle.regalloc2_fastalloc_proofs.proofs.Inst.OneInstCarries.{CarriesByItself, carries_by_itself}
use Rattle.regalloc2_fastalloc_proofs.proofs.Branches.LocationsAfterBranch.{branch_kept}
use Rattle.regalloc2_fastalloc_proofs.proofs.Operands.AllocsSoFar.{AreSoundOperands}
use Rattle.regalloc2_fastalloc_proofs.proofs.Safety.StoredDefs.{last_within}
use Rattle.regalloc2_fastalloc_proofs.proofs.Safety.OutputOfWalk.{IsOutputOfWalk, made_in_order, place_is}
use Rattle.regalloc2_fastalloc_proofs.proofs.Safety.StepsKeepState.{place_in, slot_in}
use Rattle.regalloc2_fastalloc_proofs.proofs.Operands.DefinedNumbers.{defined_by-at}
use Rattle.regalloc2_fastalloc_proofs.proofs.Moves.StepsAppendEdits.{AppendsEdits, none_pushed, one_pushed, pushed_walked}
use Rattle.regalloc2_fastalloc_proofs.proofs.Walk.InstsCarry.{AreListed}
use Rattle.regalloc2_fastalloc_proofs.proofs.Safety.BlocksKeepSafe.{MayInBlocks}
use Rattle.regalloc2_fastalloc_proofs.proofs.Operands.RecordOverState.{opt_none}
use Rattle.regalloc2_fastalloc_proofs.proofs.Safety.BranchArgsKeepState.{processes_branch_between}
use Rattle.regalloc2_fastalloc_proofs.proofs.Walk.AllBlocksCarry.{begin_between, first_edge}
use Rattle.regalloc2_fastalloc_proofs.proofs.Inst.ProperInsts.{all_proper, proper_of}
use Rattle.regalloc2_fastalloc_proofs.specs.Debug.SlotHoldsValue.{ShowsAt}
use Rattle.regalloc2_fastalloc_proofs.specs.Located.{Absent}
use Rattle.regalloc2_fastalloc_proofs.proofs.Debug.UnnamedStaysUnlocated.{whole_absent}
use Rattle.regalloc2_fastalloc_proofs.proofs.Debug.InstOnPath.{Fronts, entered_front, onward_front, carried_on, behind, front, moves_on}
use Rattle.regalloc2_fastalloc_proofs.proofs.Debug.PathStepLeaves.{read_shows}
use Rattle.regalloc2_fastalloc_proofs.proofs.Debug.SlotAfterWalk.{DefinedShows, moves_where, only_vreg_in_slot}
use Rattle.regalloc2_fastalloc_proofs.proofs.Debug.InstWithinWalk.{IsStart, IsUnnamedBefore, Met, walk_reaches, IsPointBefore}
use Rattle.regalloc2_fastalloc_proofs.proofs.Debug.WellFormedPaths.{inst_in, inst_lt, next_inside, within}
use Rattle.regalloc2_fastalloc_proofs.proofs.Debug.DefWithMovesStores.{stores}
use Rattle.regalloc2_fastalloc_proofs.proofs.Debug.MovesLeaveSlot.{moves_fine}
use Rattle.regalloc2_fastalloc_proofs.proofs.Walk.WholeWalk.{WholeWalk}
use Rattle.regalloc2_fastalloc_proofs.proofs.Walk.FunctionLaws.{code_of}

module _ (env : MachineValue) (f : FunctionValue) (limited : IsLimited f) (ok : IsWellFormed env f) where
  -- the arguments of a branch keep what holds between instructions, slots and located vregs
  pub branch : BranchKept f
  branch = branch_kept f ok.counted (processes_branch_between f)

  sound : HasSoundBlocks f
  sound = well_formed_are_sound env f ok

  pub some_block : 0 < length f.blocks
  some_block = (let e : f.entry < length f.blocks = ok.successors.0 in omega (arith, e))

  -- nothing before its definition names a number
  pub unnamed_before_definition : (x i d : ℕ) → (inst_at f i).is_branch ≡ false → defined.IsDefOperand f x i d → IsUnnamedBefore f x i
  unnamed_before_definition x i d plain at = record {
    insts = λ j less k c e.
        let lj : j < length f.insts = (let l = at.inst in omega (arith, less, l)) in
        elim c.1 [
          | inl def ↦ (let same = one_operand f ok.defined_once x j i k d (record { inst = lj; operand = c.0; definition = def; number = e }) at in
              omega (arith, less, same.0))
          | inr reads ↦ (
              let later : i < j = reads_later f ok.defined_once x i d j k at lj (reads_defined f some_block ok.follow ok.uses_defined j lj) c.0 reads e in
              omega (arith, less, later))
        ];
    passes = λ b lb sooner k edge j less. (
      λ e. not_both f ok.defined_once x i d (target_at f b k) j at (record { block = sound.targets b k edge; param = less; number = e }),
      λ e.
          let xs : List VirtualRegister = arguments_at f b k in
          let w : VirtualRegister = slice_index_or xs j no_vreg in
          let inside : j < length xs = (let n = sound.arguments b k edge in omega (arith, less, n)) in
          let later = passes_later f ok.defined_once x i d b k w at ok.follow ok.uses_defined lb edge (j, inside, get_or_default xs j w no_vreg inside)
          e in
          omega (arith, sooner, later),
    );
    params = λ b lb k less e. not_both f ok.defined_once x i d b k at (record { block = lb; param = less; number = e });
    stores = λ b lb e k v edge is same. elim is [
      | inl (j, def, named) ↦ (
          let last : ℕ = last_of (block_at f e) in
          let here : last ≡ i = (one_operand f ok.defined_once x last i j d (record {
            inst = last_within f ok.follow e edge.block;
            operand = def.operand;
            definition = def.definition;
            number = def.number ∙ same;
          }) at).0 in
          let branch : (inst_at f last).is_branch ≡ true = elim (ok.end e edge.block).0
          [ inl y ↦ y.0 | inr r ↦ (let none : length (block_at f e).succs ≡ 0 = r.2 in let some = edge.edge in absurd (omega (arith, none, some))) ] in
          let z : true ≡ false = sym branch ∙ ap (λ n. (inst_at f n).is_branch) here ∙ plain in absurd cc)
      | inr (n, lt, named) ↦ not_both f ok.defined_once x i d (target_at f e k) n at (record {
        block = sound.targets e k edge.edge;
        param = lt;
        number = ap (λ (w : VirtualRegister). w.number) named ∙ same;
      })
    ];
  }

module _ (walk : WholeWalk) (m : IsOutputOfWalk walk.f walk.env (Made walk.f) (MayInBlocks walk.f) walk.last walk.out) where
  open walk use {env, f, limited, ok, blank, begin, last, out, empty, fit, walks}

  pub are_listed : AreListed f (allocs_of out) 0 out.allocs
  are_listed j le lt k less = place_is f env (Made f) (MayInBlocks f) last out m j lt k less

  -- the output's edits are sorted by their points
  pub rising : Rising out.edits
  rising = rising_by out.edits (made_in_order f env (Made f) (MayInBlocks f) last out m).points_never_fall

  -- the walk reaches each instruction
  pub met_at : (i : ℕ) → i < length f.insts → Met f (allocs_of out) blank begin i last
  met_at i lt = walk_reaches (code_of (Made f) f (all_proper env f limited ok) (branch env f limited ok) ok.follow ok.end (allocs_of out)) blank begin i
      (begin_between f begin empty fit) lt
      walks 0 (first_edge f ok.follow (some_block env f limited ok)) are_listed (omega arith)

  -- what is listed for an instruction where no block begins
  pub listed_at : (i : ℕ) (w : Met f (allocs_of out) blank begin i last) → (IsStart f i → ⊥) →
      walked (inst_at f) (at_point (listed w.new.edits)) (allocs_of out) i 1 ≡ walked (inst_at f) (at_point out.edits) (allocs_of out) i 1
  listed_at i w never =
      sym (pushed_walked (λ e. IsPointBefore f i e.0) (inst_at f) (allocs_of out) i 1 w.new.edits last.edits
      (λ e h. elim h [ inl before_it ↦ before_it | inr at ↦ absurd (never at.1) ]) (grown_pushes (IsPointBefore f i) w.new last w.rest))
      ∙ ap (λ es. walked (inst_at f) (at_point es) (allocs_of out) i 1) (sym m.edits)

  -- what the listing carries from nowhere, it carries with any reloads and stores of a block's start in front
  pub from_nowhere : (v : VirtualRegister) (E : Place → Type 0) (i : ℕ) (w : Met f (allocs_of out) blank begin i last) →
      Carries v (walked (inst_at f) (at_point (listed w.new.edits)) (allocs_of out) i 1) (λ p. ⊥) E →
      Carries v (walked (inst_at f) (at_point out.edits) (allocs_of out) i 1) (λ p. ⊥) E
  from_nowhere v E i w c =
      subst (λ es. Carries v (walked (inst_at f) (at_point es) (allocs_of out) i 1) (λ p. ⊥) E) (sym m.edits)
      (pushed_carries v E i w.new.edits last.edits (grown_pushes (IsPointBefore f i) w.new last w.rest) c)
    where
      pushed_carries : (v : VirtualRegister) (E : Place → Type 0) (i : ℕ) (a b : List (ℕ × MoveValue)) → AppendsEdits (λ e. IsPointBefore f i e.0) a b →
          Carries v (walked (inst_at f) (at_point (listed a)) (allocs_of out) i 1) (λ p. ⊥) E →
          Carries v (walked (inst_at f) (at_point (listed b)) (allocs_of out) i 1) (λ p. ⊥) E
      pushed_carries v E i a b none_pushed c = c
      pushed_carries v E i a b (one_pushed es e prev at) c = one_more v E i es e.0 e.1 at (pushed_carries v E i a es prev c)
        where
          one_more : (v : VirtualRegister) (E : Place → Type 0) (i : ℕ) (es : List (ℕ × MoveValue)) (q : ℕ) (n : MoveValue) → IsPointBefore f i q →
              Carries v (walked (inst_at f) (at_point (listed es)) (allocs_of out) i 1) (λ p. ⊥) E →
              Carries v (walked (inst_at f) (at_point (listed (es ++ (q, n) ∷ []))) (allocs_of out) i 1) (λ p. ⊥) E
          one_more v E i es q n (inl sooner) c = subst (λ l. Carries v l (λ p. ⊥) E) (sym (walked-pushed (inst_at f) q n es (allocs_of out) i 1 sooner)) c
          one_more v E i es q n (inr at) c =
              let item : Item = exec_item (inst_at f i) (allocs_of out i) in
              let L : List Item = before_part (inst_at f) (listed es) (allocs_of out) i 0 item in
              let front_move : Carries v (Move n ∷ L) (λ p. ⊥) E = subst (λ l. Carries v l (λ p. ⊥) E)
              (with_moves-more n [] L ∙ ap (λ l. Move n ∷ l) (with_moves-none L))
              (carries_moves v (n ∷ []) L (λ p. ⊥) (λ p. ⊥) E (λ s d holds p h. absurd h)
              (subst (λ l. Carries v l (λ p. ⊥) E) (walked-more (inst_at f) (listed es) (allocs_of out) i 0) c)) in
              subst (λ (z : ℕ). Carries v (walked (inst_at f) (at_point (listed (es ++ (z, n) ∷ []))) (allocs_of out) i 1) (λ p. ⊥) E) (sym at.0)
              (subst (λ l. Carries v l (λ p. ⊥) E)
              (sym (walked-more (inst_at f) (listed (es ++ (before i, n) ∷ [])) (allocs_of out) i 0
              ∙ before_part-more (inst_at f) n es (allocs_of out) i 0 item)) front_move)

  -- an instruction that is no branch is allocated by `AllocsInst` alone
  pub allocated : (i : ℕ) (w : Met f (allocs_of out) blank begin i last) → (inst_at f i).is_branch ≡ false →
      AllocsInst i (inst_at f i) w.allocates.allocates.blank w.allocates.allocates.here w.old w.new
  allocated i w plain =
      subst (AllocsInst i (inst_at f i) w.allocates.allocates.blank w.allocates.allocates.here w.old) (sym (w.allocates.no_branch plain))
      w.allocates.allocates.allocates

  -- what an instruction that is no branch does by itself: the state before it, and what its listing carries
  pub by_itself : (i : ℕ) (w : Met f (allocs_of out) blank begin i last) → i < length f.insts → (inst_at f i).is_branch ≡ false →
      CarriesByItself (proper_of (Made f) f (allocs_of out) (all_proper env f limited ok)) i w.old w.new
  by_itself i w lt plain =
      carries_by_itself (proper_of (Made f) f (allocs_of out) (all_proper env f limited ok)) i w.allocates.allocates.blank w.allocates.allocates.here w.old w.new lt w.at
      w.behind
      (allocated i w plain)

  -- an instruction that defines a vreg stores it in its slot
  pub stored : (i d n : ℕ) → i < length f.insts → (inst_at f i).is_branch ≡ false → (inst_at f i).is_ret ≡ false → d < length (inst_at f i).operands →
      is_def (op_at (inst_at f i).operands d).kind ≡ true →
      slot_in last (op_at (inst_at f i).operands d).vreg.number ≡ InSlot n →
      Carries (op_at (inst_at f i).operands d).vreg (walked (inst_at f) (at_point out.edits) (allocs_of out) i 1) (λ p. ⊥) (λ p. p ≡ InSlot n)
  stored i d n lt plain onward less def mine =
      let v : VirtualRegister = (op_at (inst_at f i).operands d).vreg in
      let w : Met f (allocs_of out) blank begin i last = met_at i lt in
      let here : CarriesByItself (proper_of (Made f) f (allocs_of out) (all_proper env f limited ok)) i w.old w.new = by_itself i w lt plain in
      let absent : Absent v.number w.new = whole_absent v.number w.new here.between.whole
      (opt_none (place_in w.new v.number) (here.ends.gone v.number (defined_by-at (inst_at f i).operands d less def))) in
      from_nowhere v (λ p. p ≡ InSlot n) i w
      (stores (proper_of (Made f) f (allocs_of out) (all_proper env f limited ok)) i w.allocates.allocates.blank w.allocates.allocates.here w.old w.new lt
      w.at w.behind
      (allocated i w plain) (rw (plain, onward) refl) d less def n
      (sym (w.out v.number ((unnamed_before_definition env f limited ok) v.number i d plain (record { inst = lt; operand = less; definition = def; number = refl })) absent).1 ∙
      mine))

  module _ (written : IsDefinitelyAssigned f) where
    -- the cells at a path's end
    pub front_of : (ws : List Way) → IsPath f ws → (c : Cells) × Fronts f out rising ws c
    front_of [] path = (cells_before f out [], entered_front f out rising [] refl)
    front_of (Onward ∷ ws) path = (behind f out rising ws, onward_front f out rising ws (inst_in env f ok written no_operand.vreg ws path.0).0)
    front_of (ToSuccessor k ∷ ws) path = (cells_before f out (ToSuccessor k ∷ ws), entered_front f out rising (ToSuccessor k ∷ ws) refl)

    module _ (agree : ReadsAgreeOnPaths f out) (owned : SlotsHaveOneOwner last.slots)
        (sound_ops : (i : ℕ) → i < length f.insts → AreSoundOperands (Made f) (inst_at f i).operands)
        (v : VirtualRegister) (known : Made f v) (n : ℕ) (mine : slot_name last.slots v.number ≡ InSlot n) where
      -- before the moves of the next instruction
      behind_shows : (ws : List Way) → IsPath f (Onward ∷ ws) → DefinesAt f v (end_of f ws).inst →
          behind f out rising ws (InSlot n) ≡ source_before f (Onward ∷ ws) v
      behind_shows ws path (k, (lt, less, vreg), def) =
          let i : ℕ = (end_of f ws).inst in
          let place = inst_in env f ok written v ws path.0 in
          let sooner = path.1 in
          let flat = (ok.end (end_of f ws).block (within env f ok written v ws path.0)).1 i place.0 place.1 (omega (arith, sooner)) in
          let c : Carries (op_at (inst_at f i).operands k).vreg (walked (inst_at f) (at_point out.edits) (allocs_of out) i 1) (λ p. ⊥) (λ p. p ≡ InSlot n) =
          stored i k n lt flat.0 flat.1 less def
          (ap (λ (w : VirtualRegister). slot_in last w.number) vreg ∙ mine) in
          let fr = front_of ws path.0 in
          carried_on f out rising v (λ p. ⊥) (λ p. p ≡ InSlot n) ws fr.0
          (subst (λ (w : VirtualRegister). Carries w (walked (inst_at f) (at_point out.edits) (allocs_of out) i 1) (λ p. ⊥) (λ p. p ≡ InSlot n)) vreg c)
          fr.1
          (λ p h. absurd h) (InSlot n) refl

      -- the slot holds the value once the moves after the instruction have run
      pub defined_shows : DefinedShows f out v n
      defined_shows ws path defines live plain =
          let i : ℕ = (end_of f ws).inst in
          let p : Place = InSlot n in
          let next : ℕ = i + 1 in
          let shown : behind f out rising ws p ≡ source_before f (Onward ∷ ws) v = behind_shows ws path defines in
          let lt : next < length f.insts = inst_lt env f ok written v (Onward ∷ ws) path in
          let undefined : Undefined (inst_at f next).operands v = λ j less def is.
          let names = defines.1 in
          let first : defined.IsDefOperand f v.number i defines.0 = record {
            inst = names.0;
            operand = names.1;
            definition = defines.2;
            number = ap (λ (x : VirtualRegister). x.number) names.2;
          } in
          let second : defined.IsDefOperand f v.number next j = record {
            inst = lt;
            operand = less;
            definition = def;
            number = ap (λ (x : VirtualRegister). x.number) is;
          } in
          let same = one_operand f ok.defined_once v.number i next defines.0 j first second in omega (arith, same.0) in
          elim (moves_fine f out v p next next plain (next_inside env f ok written v ws path) (λ less. absurd (omega (arith, less))) out.edits
          (moves_where env f ok.defined_once last out m owned v known n mine)) [
            | inl none ↦ by_front ws path shown (subst (NoMoveTo p) (moves_before-first out next) none)
                (onward_front f out rising ws (inst_in env f ok written v ws path.0).0)
            | inr (k, r) ↦ read_shows f out (Onward ∷ ws) v p k (agree (Onward ∷ ws) path) r undefined (record {
              no_definition = λ j less def is. undefined j less def (only_vreg_in_slot env f ok.defined_once last out m owned v known n mine sound_ops
                  (op_at (inst_at f next).operands j).vreg next j (lt, less, refl) is);
              no_clobber = refl;
            })
          ]
        where
          by_front : (us : List Way) → IsPath f (Onward ∷ us) → behind f out rising us (InSlot n) ≡ source_before f (Onward ∷ us) v →
              NoMoveTo (InSlot n) (moves_on f out rising (before ((end_of f us).inst + 1))) →
              Fronts f out rising (Onward ∷ us) (behind f out rising us) → ShowsAt f out v (InSlot n) (Onward ∷ us)
          by_front us path shown none (front is) =
              ap (λ (c : Cells). c (InSlot n)) is ∙ moves_kept (InSlot n) (moves_on f out rising (before ((end_of f us).inst + 1))) (behind f out rising us)
              none ∙ shown
