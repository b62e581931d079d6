-- A vreg that has a location somewhere in the walk is used by an instruction that was walked.
use Rattle.std.proofs.Common.{ℕ, ◌≡◌, ◌≢◌, ◌+◌, ◌<◌, ◌≤◌, inl, inr, Bool, true, List, length, refl, sym, ap, ◌∙◌, arith}
use Rattle.std.proofs.lemmas.Bool.{cases_eq}
use Rattle.regalloc2_names.specs.Register.{VirtualRegister}
use Rattle.regalloc2_names.specs.Operand.{OperandValue, is_reading}
use Rattle.regalloc2_names.specs.Place.{Place, NoPlace, InRegister}
use Rattle.regalloc2_function.specs.FunctionValue.{FunctionValue, block_at, inst_at, op_at, EachBlock}
use Rattle.regalloc2_semantics.specs.Runs.{arguments_at}
use Rattle.regalloc2_function.specs.WellFormed.{BlocksFollow, CountedAt, EndsAt}
use Rattle.regalloc2_carry.proofs.Plain.{no_some}
use Rattle.regalloc2_analysis.specs.LiveRanges.LastUses.{reads, passes}
use Rattle.regalloc2_fastalloc_state.specs.StateParts.{SetsAlloc, alloc_of, no_allocs}
use Rattle.regalloc2_fastalloc_proofs.specs.InstSteps.{StateValue}
use Rattle.regalloc2_fastalloc_proofs.specs.Located.{Absent, LocatedAreUsed}
use Rattle.regalloc2_fastalloc_proofs.specs.BlockSteps.{AllocsInstInBlock, AllocsBlockInsts, at_end, one_in, BeginsBlock}
use Rattle.regalloc2_fastalloc_proofs.proofs.Safety.InitialState.{begun_empty}
use Rattle.regalloc2_fastalloc_proofs.proofs.Safety.StateKept.{ends_in_branch}
use Rattle.regalloc2_fastalloc_proofs.proofs.Safety.StepsKeepSafe.{holder_after_set_alloc}
use Rattle.regalloc2_fastalloc_proofs.proofs.Changes.OneChange.{Act, slot_for, spill_of, end_of, start_of, move, Change, evicted, slot_given, spilled}
use Rattle.regalloc2_fastalloc_proofs.proofs.Changes.OneChange.{param_left, def_left, use_located, edits_pushed, temps_added, registers_used, Changes}
use Rattle.regalloc2_fastalloc_proofs.proofs.Changes.OneChange.{changed, changes_keep}
use Rattle.regalloc2_fastalloc_proofs.proofs.Changes.InstChanges.{MayBePlaced}
use Rattle.regalloc2_fastalloc_proofs.proofs.Changes.WalkChanges.{allocs_inst_in_block_changes, begins_block_changes}
use Rattle.regalloc2_fastalloc_proofs.proofs.Debug.UnnamedStaysUnlocated.{changes_absent}

module _ (x : ℕ) where
  -- changes that give no location to the number
  abbrev pub Elsewhere : Act → Type 0
  Elsewhere (slot_for v) = Unit {0}
  Elsewhere (spill_of v) = v.number ≢ x
  Elsewhere (end_of v) = Unit {0}
  Elsewhere (start_of v p) = v.number ≢ x
  Elsewhere (move e) = Unit {0}

  -- a vreg that leaves its location, which isn't that of the number, or is none
  absent_left : (old new : StateValue) (v : VirtualRegister) → SetsAlloc old.places new.places v NoPlace → Absent x old → Absent x new
  absent_left old new v z a = record {
    nowhere = elim (cases_eq x v.number) [
      | inl e ↦ ap (alloc_of new.places) e ∙ z.here
      | inr ne ↦ z.others x ne ∙ a.nowhere
    ];
    unheld = λ r w small held. elim (holder_after_set_alloc old.places new.places v w NoPlace r small z held) [
      | inl y ↦ absurd (let no : NoPlace ≡ InRegister r = y.0 in cc)
      | inr h ↦ a.unheld r w small h
    ];
  }

  one_stays : (old new : StateValue) → Change Elsewhere old new → Absent x old → Absent x new
  one_stays old new (evicted r v s lt held gives sets_alloc edits machine) a = changes_absent x (changed (evicted r v s lt held gives sets_alloc edits machine)) a
  one_stays old new (slot_given v s may gives places edits machine) a = changes_absent x (changed (slot_given v s may gives places edits machine)) a
  one_stays old new (spilled v s may away gives sets_alloc edits machine) a =
      changes_absent x (changed (spilled v s may away gives sets_alloc edits machine)) a
  one_stays old new (param_left v s may there gives sets_alloc edits machine) a = absent_left old new v sets_alloc a
  one_stays old new (def_left v may sets_alloc slots edits machine) a = absent_left old new v sets_alloc a
  one_stays old new (use_located v p may nowhere sets_alloc slots edits machine) a =
      changes_absent x (changed (use_located v p may nowhere sets_alloc slots edits machine)) a
  one_stays old new (edits_pushed es all e) a = changes_absent x (changed (edits_pushed es (λ k d lt. tt) e)) a
  one_stays old new (temps_added inst_regs class given made o) a = changes_absent x (changed (temps_added inst_regs class given made o)) a
  one_stays old new (registers_used e) a = changes_absent x (changed (registers_used e)) a

  -- changes that name other vregs alone leave x absent
  pub stays_absent : {old new : StateValue} → Changes Elsewhere old new → Absent x old → Absent x new
  stays_absent = changes_keep (record { same = λ t a. a; over = λ a b c f g h. g (f h); each = one_stays })

  -- an operand is placed that doesn't read the number
  pub placed_elsewhere : (o : OperandValue) → (is_reading o ≡ true → o.vreg.number ≢ x) → MayBePlaced Elsewhere o
  placed_elsewhere o ne = record { gets = λ h. tt; ends = λ h. tt; starts = λ h p. ne h }

-- before the walk, nothing has a location
pub none_located : (f : FunctionValue) (i n : ℕ) (watched : List Bool) (t : StateValue) → t.places ≡ no_allocs n watched → LocatedAreUsed f i t
none_located f i n watched t e x unused =
    let empty = begun_empty t n e in
    record { nowhere = empty.nowhere x; unheld = λ r v small held. absurd (no_some v (sym (empty.none_held r small) ∙ held)) }

module _ (f : FunctionValue) (follow : BlocksFollow f) (ends : EachBlock f (EndsAt f)) (counted : EachBlock f (CountedAt f)) (b : ℕ) (lt : b < length f.blocks) where
  -- an instruction more
  pub inst_located : (i : ℕ) (before_it places : List Place) (old new : StateValue) → (block_at f b).range.first ≤ i → i < (block_at f b).range.end →
      i < length f.insts → AllocsInstInBlock f b i before_it places old new → LocatedAreUsed f (i + 1) old → LocatedAreUsed f i new
  inst_located i before_it places old new from upto inside a h x unused = stays_absent x (allocs_inst_in_block_changes (record {
    behind = λ p q. tt;
    ahead = λ p q. tt;
    operands = λ k less. placed_elsewhere x (op_at (inst_at f i).operands k) (λ reading e. unused i (omega arith)
        (reads (op_at (inst_at f i).operands k).position k inside (record { within = less; reading = reading; position = refl; number = e })));
    passes = λ is k less j within. record {
      target = tt;
      source = tt;
      spills = λ e.
          let end = ends_in_branch f ends b i lt from upto is in
          let many = counted b lt k less in
          let inside_it : j < length (arguments_at f b k) = omega (arith, within, many) in
          unused i (omega arith) (passes (b, lt, omega (arith, end), (k, less, (j, inside_it, inside_it, e))));
    };
  }) a) (h x (λ j le u. unused j (omega (arith, le)) u))

  -- located vregs are used, before each of the block's last instructions
  pub insts_located : {blank : List Place} {old : StateValue} {i : ℕ} {places : List Place} {new : StateValue} → (block_at f b).range.end ≤ length f.insts →
      AllocsBlockInsts f b blank old i places new → LocatedAreUsed f (block_at f b).range.end old → LocatedAreUsed f i new
  insts_located few at_end h = h
  insts_located few (one_in i before_it places t u from upto prev a) h =
      inst_located i before_it places t u from upto (omega (arith, upto, few)) a (insts_located few prev h)

  -- the block's beginning
  pub begin_located : (i : ℕ) (old new : StateValue) → BeginsBlock f b old new → LocatedAreUsed f i old → LocatedAreUsed f i new
  begin_located i old new begins h x unused =
      stays_absent x (begins_block_changes (record { moves = λ p q. tt; params = λ k less. tt; stored = λ e k v edge is. tt }) begins) (h x unused)
