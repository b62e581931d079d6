-- The location of a vreg without a slot along the walk: none after its last use, and from there to its definition the
-- place of the operand that reads it last.
use Rattle.std.proofs.Common.{ℕ, ◌≡◌, ◌≢◌, ◌+◌, ◌<◌, ◌≤◌, inl, inr, true, List, length, sym, ◌∙◌, subst, arith}
use Rattle.std.specs.Prelude.{slice_index_or}
use Rattle.std.proofs.lemmas.Bool.{cases_eq}
use Rattle.regalloc2_names.specs.Place.{Place, NoPlace}
use Rattle.regalloc2_function.specs.FunctionValue.{FunctionValue, block_at, inst_at, op_at, last_of}
use Rattle.regalloc2_function.specs.OutputValue.{place_at}
use Rattle.regalloc2_names.specs.Operand.{is_def, is_reading}
use Rattle.regalloc2_carry.specs.OperandsPlaced.{Counts}
use Rattle.regalloc2_carry.proofs.Order.{ends_within}
use Rattle.regalloc2_fastalloc_proofs.specs.InstSteps.{StateValue}
use Rattle.regalloc2_names.specs.Register.{no_vreg}
use Rattle.regalloc2_fastalloc_proofs.specs.BlockSteps.{AllocsInstInBlock, AllocsBlockInsts, at_end, one_in, AllocsBlocks, all_left, one_block}
use Rattle.regalloc2_fastalloc_proofs.proofs.Safety.StepsKeepState.{place_in, slot_in}
use Rattle.regalloc2_fastalloc_proofs.proofs.Walk.InstsCarry.{AreListed}
use Rattle.regalloc2_fastalloc_proofs.proofs.Slots.StepsKeepSlots.{Grown, grown_then, cases_none, changes_grow, AnyPlace}
use Rattle.regalloc2_fastalloc_proofs.proofs.Safety.StateKept.{ends_in_branch}
use Rattle.regalloc2_fastalloc_proofs.proofs.Walk.InstBoundaries.{IsEdge, grown_weaken, edge_next}
use Rattle.regalloc2_fastalloc_proofs.proofs.Walk.LastInstAndRest.{listed_behind}
use Rattle.regalloc2_fastalloc_proofs.specs.Located.{Absent}
use Rattle.regalloc2_fastalloc_proofs.proofs.Debug.UnnamedStaysUnlocated.{IsUnpassed, allocs_inst_in_block_out, begins_block_absent}
use Rattle.regalloc2_fastalloc_proofs.proofs.Debug.LocatedStaysOrHasSlot.{StaysOrHasSlot, hold_then, allocs_inst_hold, branch_hold}
use Rattle.regalloc2_fastalloc_proofs.proofs.Debug.InstWithinWalk.{Met, IsPointBefore}
use Rattle.regalloc2_fastalloc_proofs.proofs.Debug.LocationBeforeFirstRead.{ComesFirst, read_location}
use Rattle.regalloc2_fastalloc_proofs.proofs.Walk.FunctionLaws.{PlacedCode}
use Rattle.regalloc2_fastalloc_proofs.proofs.Changes.WalkChanges.{allocs_inst_in_block_changes, any_inst}

-- x is defined at the instruction id, used last at il, where its operand ko reads it and is placed first, and has no
-- slot at the walk's end
pub record IsUnslotted (f : FunctionValue) (placesf : ℕ → List Place) (final : StateValue) (x id il ko : ℕ) : Type 0 where
  pub within : ko < length (inst_at f il).operands
  pub reads : is_reading (op_at (inst_at f il).operands ko) ≡ true
  pub number : (op_at (inst_at f il).operands ko).vreg.number ≡ x
  pub first : ComesFirst (inst_at f il).operands x ko
  pub later : (j : ℕ) → il < j → j < length f.insts → (k : ℕ) → Counts (inst_at f j).operands k → (op_at (inst_at f j).operands k).vreg.number ≢ x
  pub passes : (b : ℕ) → b < length f.blocks → il < last_of (block_at f b) → IsUnpassed x f b
  pub params : (b : ℕ) → b < length f.blocks → (k : ℕ) → k < length (block_at f b).params → (slice_index_or (block_at f b).params k no_vreg).number ≢ x
  pub undefined : (j : ℕ) → id < j → j < length f.insts → (k : ℕ) → k < length (inst_at f j).operands → is_def (op_at (inst_at f j).operands k).kind ≡ true →
      x ≢ (op_at (inst_at f j).operands k).vreg.number
  pub real : place_at (placesf il) ko ≢ NoPlace
  pub unslotted : slot_in final x ≡ NoPlace

-- the location of x before the instruction j
pub record Stays (placesf : ℕ → List Place) (x id il ko j : ℕ) (t : StateValue) : Type 0 where
  pub after_it : il < j → Absent x t
  pub there : id < j → j ≤ il → place_in t x ≡ place_at (placesf il) ko

module _ (code : PlacedCode) (final : StateValue) (x id il ko : ℕ) (un : IsUnslotted code.f code.placesf final x id il ko) where
  open code use {Known, f, proper, kept, follow, ends, placesf}
  open code.proper use {orderly}

  -- the vreg had no slot before either
  pub none_before : (t : StateValue) → Grown AnyPlace t final → slot_in t x ≡ NoPlace
  none_before t g = elim (cases_none (slot_in t x)) [
    | inl none ↦ none
    | inr there ↦ absurd (there (sym (g.stay x there) ∙ un.unslotted))
  ]

  module _ (b : ℕ) (lb : b < length f.blocks) where
    of_function : (j : ℕ) → j < (block_at f b).range.end → j < length f.insts
    of_function j less = (let e = ends_within f follow b lb in omega (arith, less, e))

    -- an instruction after its last use
    past : (j : ℕ) (p q : List Place) (s u : StateValue) → (block_at f b).range.first ≤ j → j < (block_at f b).range.end → il < j →
        AllocsInstInBlock f b j p q s u → Absent x s → Absent x u
    past j p q s u ge less behind a absent =
        (allocs_inst_in_block_out x f b j p q s u (un.later j behind (of_function j less))
        (λ is. un.passes b lb (let e = ends_in_branch f ends b j lb ge less is in omega (arith, e, behind))) a absent).0

    -- the instruction of its last use
    abbrev Lasts : ℕ → List Place → List Place → StateValue → StateValue → Type 0
    Lasts m p q s u = m < length f.insts → (a : AllocsInstInBlock f b m p q s u) →
        ((k : ℕ) → k < length (inst_at f m).operands → place_at (placesf m) k ≡ slice_index_or a.allocates.here k NoPlace) → Grown AnyPlace u final →
        Absent x s →
        place_in u x ≡ place_at (placesf il) ko

    at_last : (p q : List Place) (s u : StateValue) → Lasts il p q s u
    at_last p q s u lt a at rest absent =
        let here : place_at (placesf il) ko ≡ slice_index_or a.allocates.here ko NoPlace = at ko un.within in
        let none : slot_in u x ≡ NoPlace = none_before u rest in
        let h : StaysOrHasSlot x a.middle u = branch_hold x f b il p q s u a in
        elim (read_location il (inst_at f il) a.allocates.blank a.allocates.here s a.middle (orderly il lt) x ko un.within un.reads un.number un.first
        a.allocates.allocates absent (λ z. un.real (here ∙ z))) [
          | inl e ↦ elim (h.same (λ z. un.real (here ∙ sym e ∙ z))) [ inl d ↦ (d ∙ e ∙ sym here) | inr has ↦ absurd (has none) ]
          | inr has ↦ absurd (h.slots has none)
        ]

    -- an instruction between its definition and its last use
    amid : (j : ℕ) (p q : List Place) (s u : StateValue) → id < j → j < length f.insts → AllocsInstInBlock f b j p q s u → Grown AnyPlace u final →
        place_in s x ≡ place_at (placesf il) ko → place_in u x ≡ place_at (placesf il) ko
    amid j p q s u sooner lt a rest at =
        let h : StaysOrHasSlot x s u = hold_then x s a.middle u (allocs_inst_hold x j (inst_at f j) a.allocates.blank a.allocates.here s a.middle
        (un.undefined j sooner lt) a.allocates.allocates) (branch_hold x f b j p q s u a) in
        elim (h.same (λ z. un.real (sym at ∙ z))) [ inl e ↦ (e ∙ at) | inr has ↦ absurd (has (none_before u rest)) ]

    -- one instruction of the walk keeps `Stays`, from before the next instruction to before this one
    pub step_stays : {j : ℕ} {p q : List Place} {s u : StateValue} → (block_at f b).range.first ≤ j → j < (block_at f b).range.end →
        (a : AllocsInstInBlock f b j p q s u) → ((k : ℕ) → k < length (inst_at f j).operands →
        place_at (placesf j) k ≡ slice_index_or a.allocates.here k NoPlace) →
        Grown AnyPlace u final → Stays placesf x id il ko (j + 1) s → Stays placesf x id il ko j u
    step_stays {j} {p} {q} {s} {u} ge less a at rest h = record {
      after_it = λ behind. past j p q s u ge less behind a (h.after_it (omega (arith, behind)));
      there = λ low high. elim (cases_eq j il) [
        | inl e ↦ subst (λ (m : ℕ). Lasts m p q s u) (sym e) (at_last p q s u) (of_function j less) a at rest (h.after_it (omega (arith, e)))
        | inr ne ↦ amid j p q s u low (of_function j less) a rest (h.there (omega (arith, low)) (omega (arith, high, ne)))
      ];
    }

    -- down to an instruction
    pub in_stays : {blank : List Place} {old : StateValue} → Stays placesf x id il ko (block_at f b).range.end old →
        {j : ℕ} {places : List Place} {t : StateValue} → AllocsBlockInsts f b blank old j places t → AreListed f placesf j places → Grown AnyPlace t final →
        Stays placesf x id il ko j t
    in_stays h at_end = λ are rest. h
    in_stays {blank} {old} h (one_in k p q s u ge less prev a) = λ are rest.
        step_stays ge less a (λ m few. are k (omega arith) (of_function k less) m few ∙ a.allocates.inside m few) rest
        (in_stays h prev (listed_behind code final b k p q s u (of_function k less) a
        are)
        (grown_then AnyPlace s u final (changes_grow AnyPlace
        (allocs_inst_in_block_changes (any_inst (λ e. AnyPlace e.0) f b k (λ n r. tt) (λ n r. tt)) a)) rest))

    walk_absent : (blank : List Place) (old : StateValue) → Absent x old → (j : ℕ) (places : List Place) (t : StateValue) →
        AllocsBlockInsts f b blank old j places t → il < j → Absent x t
    walk_absent blank old h j places t at_end = λ behind. h
    walk_absent blank old h j places t (one_in k p q s u ge less prev a) =
        λ behind. past k p q s u ge less behind a (walk_absent blank old h (k + 1) p s prev (omega (arith, behind)))

  -- the blocks after its last use
  pub allocs_blocks_absent : {start : List Place} {begin : StateValue} → Absent x begin → {b : ℕ} {places : List Place} {t : StateValue} →
      AllocsBlocks f start begin b places t → (e : ℕ) → IsEdge f b e → il < e → Absent x t
  allocs_blocks_absent h all_left = λ e edge behind. h
  allocs_blocks_absent {start} {begin} h (one_block d p q s u w lt prev walk begins) = λ e edge behind.
      let first : ℕ = (block_at f d).range.first in
      let end : ℕ = (block_at f d).range.end in
      let some : first < end = (follow d lt).0 in
      let here : il < first = (let z = edge.0 lt in omega (arith, z, behind)) in
      let before_it : Absent x s = allocs_blocks_absent h prev end (edge_next f follow d lt) (omega (arith, some, here)) in
      begins_block_absent x f d u w (un.params d lt) begins (walk_absent d lt p s before_it first q u walk here)

  -- around an instruction that the walk reaches
  module _ (start : List Place) (begin : StateValue) (absent : Absent x begin) (j : ℕ) (w : Met f placesf start begin j final)
      (upto : il < (block_at f w.block).range.end) where
    -- in the state with which the walk reaches the instruction, x has its location before the next instruction
    pub old_stays : Stays placesf x id il ko (j + 1) w.old
    old_stays =
        in_stays w.block w.within
        (record {
          after_it = λ behind. allocs_blocks_absent absent w.blocks (block_at f w.block).range.end
              (edge_next f follow w.block w.within) behind;
          there = λ low high. absurd (omega (arith, high, upto));
        }) w.inside w.listed
        (grown_then AnyPlace w.old w.new final
        (changes_grow AnyPlace (allocs_inst_in_block_changes (any_inst (λ e. AnyPlace e.0) f w.block j (λ n r. tt) (λ n r. tt)) w.allocates))
        (grown_weaken (IsPointBefore f j) AnyPlace w.new final (λ n y. tt) w.rest))

    -- in the state with which the walk leaves the instruction, x has its location before this one
    pub new_stays : Stays placesf x id il ko j w.new
    new_stays = step_stays w.block w.within w.ge w.less w.allocates w.at
        (grown_weaken (IsPointBefore f j) AnyPlace w.new final (λ n y. tt) w.rest) old_stays
