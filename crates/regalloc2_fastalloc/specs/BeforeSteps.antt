-- What the steps of an allocation require of what was found before them.
use Rattle.std.specs.Prelude.{ℕ, ◌≡◌, ◌<◌, Bool, List, length, slice_index, slice_index_or}
use Rattle.regalloc2_names.specs.Place.{Place, NoPlace}
use Rattle.regalloc2_function.specs.FunctionValue.{FunctionValue, operand_count}
use Rattle.regalloc2_function.specs.Machine.{MachineValue}
use Rattle.regalloc2_function.specs.WellFormed.{IsWellFormed}
use Rattle.regalloc2_function.specs.Fitting.{MachineFits}
use Rattle.regalloc2_analysis.specs.LiveRanges.LiveRanges.{AreLabelsMarked, IsSSA, IsWanted}
use Rattle.regalloc2_analysis.specs.LiveRanges.WalkInvariant.{ListsAdding}
use Rattle.regalloc2_fastalloc_state.specs.StateParts.{SpillSlotsValue}
use Rattle.regalloc2_fastalloc_proofs.specs.BlockSteps.{DefinesBelow, offset_of}

-- a function is next to be walked; no operand has a place yet, and the labelled vregs are marked
pub record IsBeforeFilling (f : FunctionValue) (env : MachineValue) (starts : List ℕ) (places : List Place) (wanted : List Bool) : Type 0 where
  pub machine : MachineFits f env
  pub well_formed : IsWellFormed env f
  pub offsets_long : length starts ≡ length f.insts
  pub offsets : (i : ℕ) → i < length f.insts → slice_index starts i ≡ offset_of f i
  pub allocs_long : length places ≡ operand_count f
  pub no_places : (k : ℕ) → slice_index_or places k NoPlace ≡ NoPlace
  pub marked : AreLabelsMarked f wanted

-- labels are next to be located, once all operands have places; the instructions are listed that may add to the
-- labelled vregs' live ranges
pub record IsBeforeLocating (f : FunctionValue) (slots : SpillSlotsValue) (starts : List ℕ) (places : List Place) (wanted : List Bool) (adding : List ℕ)
    : Type 0 where
  pub ssa : IsSSA f
  pub room : DefinesBelow f (length slots.vreg_spillslots)
  pub offsets_long : length starts ≡ length f.insts
  pub offsets : (i : ℕ) → i < length f.insts → slice_index starts i ≡ offset_of f i
  pub allocs_long : length places ≡ operand_count f
  pub marked : AreLabelsMarked f wanted
  pub listed : ListsAdding f (IsWanted wanted) adding (length adding) (length f.insts)
