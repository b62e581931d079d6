-- The instructions of a block in the walk: its last one, and the instructions before it, which are no branches and no
-- returns.
-- The fold in `Changes` doesn't apply: what holds depends on how far the walk is.
use Rattle.std.proofs.Common.{ℕ, ◌≡◌, ◌+◌, ◌<◌, ◌≤◌, inl, inr, false, List, length, sym, ◌∙◌, subst, arith}
use Rattle.std.specs.Prelude.{Some, slice_index_or}
use Rattle.std.proofs.lemmas.Bool.{cases_eq}
use Rattle.regalloc2_names.specs.Register.{VirtualRegister}
use Rattle.regalloc2_names.specs.Place.{Place, NoPlace, before, after}
use Rattle.regalloc2_function.specs.FunctionValue.{FunctionValue, block_at, inst_at, last_of}
use Rattle.regalloc2_function.specs.OutputValue.{place_at}
use Rattle.regalloc2_carry.specs.BlockByPoints.{at_point, listed}
use Rattle.regalloc2_carry.proofs.Order.{ends_within}
use Rattle.regalloc2_carry.proofs.UnwrittenPlaces.{Keeps}
use Rattle.regalloc2_fastalloc_proofs.specs.InstSteps.{StateValue, AllocsInst}
use Rattle.regalloc2_fastalloc_proofs.specs.BlockSteps.{AllocsInstInBlock, AllocsBlockInsts, at_end, one_in}
use Rattle.regalloc2_fastalloc_proofs.proofs.Operands.RecordOverState.{slots_at, grown_slots}
use Rattle.regalloc2_fastalloc_proofs.proofs.Operands.DefinedNumbers.{defined_by}
use Rattle.regalloc2_fastalloc_proofs.proofs.Walk.InstsCarry.{AreListed}
use Rattle.regalloc2_fastalloc_proofs.proofs.Safety.InstsKeepSafe.{later_same}
use Rattle.regalloc2_fastalloc_proofs.proofs.Slots.StepsKeepSlots.{Grown, grown_then, changes_grow, AnyPlace}
use Rattle.regalloc2_fastalloc_proofs.proofs.Walk.InstForOneVReg.{LeavesOwnSlot}
use Rattle.regalloc2_fastalloc_proofs.proofs.Walk.InstsBeforeLastCarry.{Goes, stopped, one_more}
use Rattle.regalloc2_fastalloc_proofs.proofs.Walk.FunctionLaws.{PlacedCode}
use Rattle.regalloc2_fastalloc_proofs.proofs.Safety.BlocksKeepSafe.{block_start}
use Rattle.regalloc2_fastalloc_proofs.proofs.Changes.WalkChanges.{allocs_inst_in_block_changes, any_inst}

-- The last instruction of a block, with the tables after and before it, and the instructions before it; the walk
-- continues from there to its end.
pub record Split (f : FunctionValue) (placesf : ℕ → List Place) (L : ℕ → StateValue → StateValue → Type 0) (final : StateValue) (b last : ℕ) (old : StateValue)
    (i : ℕ) (t : StateValue) : Type 0 where
  pub begin : StateValue
  pub blank : List Place
  pub places : List Place
  pub ends : AllocsInstInBlock f b last blank places old begin
  pub at : (k : ℕ) → k < length (inst_at f last).operands → place_at (placesf last) k ≡ slice_index_or ends.allocates.here k NoPlace
  pub goes : Goes f placesf L begin (block_at f b).range.first last i t
  pub rest : Grown AnyPlace begin final

module _ (code : PlacedCode) (final : StateValue) where
  open code use {Known, f, proper, kept, follow, ends, placesf}

  -- the places of later instructions are listed where they were before
  pub listed_behind : (b j : ℕ) (p q : List Place) (s u : StateValue) → j < length f.insts → AllocsInstInBlock f b j p q s u → AreListed f placesf j q →
      AreListed f placesf (j + 1) p
  listed_behind b j p q s u lt a h k le less m within = h k (omega (arith, le)) less m within ∙ later_same f j p q s a.middle lt a.allocates k le less m

  module _ (b : ℕ) (lb : b < length f.blocks) (blank : List Place) (old : StateValue) where
    within : (i : ℕ) → i < (block_at f b).range.end → i < length f.insts
    within i less = (let h = ends_within f follow b lb in omega (arith, less, h))

    -- if the places of all instructions from i on are listed, the places of the instructions after the block were
    -- listed before its walk
    pub walk_listed : (i : ℕ) (places : List Place) (t : StateValue) → AllocsBlockInsts f b blank old i places t → AreListed f placesf i places →
        AreListed f placesf (block_at f b).range.end blank
    walk_listed i places t at_end = λ h. h
    walk_listed i places t (one_in j p q s u ge less prev a) = λ h. walk_listed (j + 1) p s prev (listed_behind b j p q s u (within j less) a h)

    module _ (L : ℕ → StateValue → StateValue → Type 0) (each : (i : ℕ) (q : List Place) (s u : StateValue) → (block_at f b).range.first ≤ i →
        i < last_of (block_at f b) → AllocsBlockInsts f b blank old i q u → AreListed f placesf i q →
        Grown AnyPlace s final → Grown AnyPlace u final → L i s u) where
      -- the walk over a block from i on is its last instruction and the instructions from i on before it, each of which
      -- has the property L
      pub split : (i : ℕ) (places : List Place) (t : StateValue) → AllocsBlockInsts f b blank old i places t → i < (block_at f b).range.end →
          AreListed f placesf i places → Grown AnyPlace t final → Split f placesf L final b (last_of (block_at f b)) old i t
      split i places t at_end = λ lt. absurd (omega (arith, lt))
      split i places t (one_in j p q s u ge less prev a) = λ lt h rest.
          let here : (k : ℕ) → k < length (inst_at f j).operands → place_at (placesf j) k ≡ slice_index_or a.allocates.here k NoPlace = λ k few. h j
          (omega arith) (within j less) k few ∙ a.allocates.inside k few in
          elim (cases_eq j (last_of (block_at f b))) [
            | inl e ↦ (
                let none : s ≡ old = block_start f b blank old (j + 1) p s prev (omega (arith, e, less)) in
                let from_old : AllocsInstInBlock f b j p q old u = subst (λ (z : StateValue). AllocsInstInBlock f b j p q z u) none a in
                let made : Split f placesf L final b j old j u = record {
                  begin = u;
                  blank = p;
                  places = q;
                  ends = from_old;
                  at = λ k few. h j (omega arith) (within j less) k few ∙ from_old.allocates.inside k few;
                  goes = stopped;
                  rest = rest;
                } in
                subst (λ (n : ℕ). Split f placesf L final b n old j u) e made)
            | inr ne ↦ (
                let sooner : j < last_of (block_at f b) = omega (arith, less, ne) in
                let plain = ((ends b lb).1 j ge less sooner).0 in
                let before_it : Grown AnyPlace s final = grown_then AnyPlace s u final
                (changes_grow AnyPlace (allocs_inst_in_block_changes (any_inst (λ e. AnyPlace e.0) f b j (λ n r. tt) (λ n r. tt)) a)) rest in
                let sp = split (j + 1) p s prev (omega (arith, sooner)) (listed_behind b j p q s u (within j less) a h) before_it in
                record {
                  begin = sp.begin;
                  blank = sp.blank;
                  places = sp.places;
                  ends = sp.ends;
                  at = sp.at;
                  goes = one_more j s u a.allocates.blank a.allocates.here ge sooner sp.goes here
                      (subst (λ (z : StateValue). AllocsInst j (inst_at f j) a.allocates.blank a.allocates.here s z) (sym (a.no_branch plain))
                      a.allocates.allocates) (each j q s u ge sooner (one_in j p q s u ge less prev a) h before_it rest);
                  rest = sp.rest;
                })
          ]

  -- Each instruction but a block's last one leaves each slot at the walk's end to its own vreg, with the moves pushed
  -- so far, if the tables are safe.
  abbrev pub KeepsSlots : (ℕ → StateValue → Type 0) → Type 0
  KeepsSlots SafeIn = (b i : ℕ) → b < length f.blocks → (block_at f b).range.first ≤ i → i < last_of (block_at f b) → (u : StateValue) → SafeIn b u →
      Grown AnyPlace u final → (v : VirtualRegister) → Known v →
      defined_by (inst_at f i).operands v.number ≡ false → (s : Place) → slots_at final v.number ≡ Some s →
      Keeps (inst_at f i).operands (placesf i) (inst_at f i).clobbers
      (at_point (listed u.edits) (before i)) (at_point (listed u.edits) (after i)) v s

  -- an instruction before its block's last one leaves a vreg's final slot to that vreg, as the lemma for one vreg
  -- requires
  pub leaves_at : (SafeIn : ℕ → StateValue → Type 0) → KeepsSlots SafeIn → (b i : ℕ) (s u : StateValue) → b < length f.blocks →
      (block_at f b).range.first ≤ i → i < last_of (block_at f b) → SafeIn b u →
      Grown AnyPlace s final → Grown AnyPlace u final → (v : VirtualRegister) → Known v → LeavesOwnSlot f placesf (slots_at final) v i s u
  leaves_at SafeIn keeps b i s u lb ge sooner safe before_it rest v known = record {
    stays = grown_slots AnyPlace s final before_it v.number;
    keeps = λ p free none is. keeps b i lb ge sooner u safe rest v known free p is;
  }
