-- The live ranges of vregs as a debugger can be shown them, and the labels that are kept.
-- The points are as in regalloc2_semantics/specs/Debug.antt; here is which operand's place shows the value.
use Rattle.std.specs.Prelude.{ℕ, ◌≡◌, ◌<◌, ◌↔◌, List, [], ◌∷◌, length, slice_index_or, Bool, true, false, Option, None, Some}
use Rattle.std.specs.List.{Any}
use Rattle.regalloc2_names.specs.declared.OperandPos.{OperandPos}
use Rattle.regalloc2_names.specs.declared.OperandPos.TheVariants.{Early, Late}
use Rattle.regalloc2_names.specs.Register.{VirtualRegister}
use Rattle.regalloc2_function.specs.FunctionValue.{FunctionValue, Label, inst_at, op_at}
use Rattle.regalloc2_names.specs.Operand.{is_def, is_reading}
use Rattle.regalloc2_function.specs.WellFormed.{BlocksFollow, DefinedOnce, UsesAreDefined}
use Rattle.regalloc2_semantics.specs.Live.{ReadsAt}
use Rattle.regalloc2_semantics.specs.Debug.{IsFirstPoint, IsKept, IsLastPoint, IsLastUse, UsesAt}
use Rattle.regalloc2_function.specs.Inside.TableLength.{CoversDefinitions}
use Rattle.regalloc2_analysis.specs.declared.live_ranges.InstOperand.{InstOperand}
use Rattle.regalloc2_analysis.specs.declared.live_ranges.LiveRange.{LiveRange}
use Rattle.regalloc2_analysis.specs.declared.live_ranges.KeptLabel.{KeptLabel}

-- The precondition of the calls, which each well-formed function meets: blocks follow one another, each number is defined once, and each use comes after its
-- definition.
pub record IsSSA (f : FunctionValue) : Type 0 where
  pub some : 0 < length f.blocks
  pub follow : BlocksFollow f
  pub once : DefinedOnce f
  pub uses : UsesAreDefined f

-- an operand reads v at a position
pub record IsReader (f : FunctionValue) (v : VirtualRegister) (at : OperandPos) (o : InstOperand) : Type 0 where
  pub inst : o.inst < length f.insts
  pub index : o.index < length (inst_at f o.inst).operands
  pub reading : is_reading (op_at (inst_at f o.inst).operands o.index) ≡ true
  pub position : (op_at (inst_at f o.inst).operands o.index).position ≡ at
  pub vreg : (op_at (inst_at f o.inst).operands o.index).vreg ≡ v

-- the first operand of its instruction that reads v at a position
pub record IsFirstReader (f : FunctionValue) (v : VirtualRegister) (at : OperandPos) (o : InstOperand) : Type 0 where
  pub reader : IsReader f v at o
  pub first : (k : ℕ) → k < o.index → IsReader f v at (record { inst = o.inst; index = k }) → ⊥

-- an operand defines v
pub record IsDefiner (f : FunctionValue) (v : VirtualRegister) (o : InstOperand) : Type 0 where
  pub inst : o.inst < length f.insts
  pub index : o.index < length (inst_at f o.inst).operands
  pub definition : is_def (op_at (inst_at f o.inst).operands o.index).kind ≡ true
  pub vreg : (op_at (inst_at f o.inst).operands o.index).vreg ≡ v

-- The operand whose place shows v up to its last point: that of the last use, a late one before an early one; none where the last use is an
-- argument alone; the definition where nothing uses v.
pub data IsShownBy (f : FunctionValue) (v : VirtualRegister) : Option InstOperand → Type 0 where
  by_late_use : (o : InstOperand) → IsLastUse f v o.inst → IsFirstReader f v Late o → IsShownBy f v (Some o)
  by_early_use : (o : InstOperand) → IsLastUse f v o.inst → (ReadsAt f v Late o.inst → ⊥) → IsFirstReader f v Early o → IsShownBy f v (Some o)
  by_argument : (i : ℕ) → IsLastUse f v i → (ReadsAt f v Late i → ⊥) → (ReadsAt f v Early i → ⊥) → IsShownBy f v None
  by_definition : (o : InstOperand) → ((j : ℕ) → UsesAt f v j → ⊥) → IsDefiner f v o → IsShownBy f v (Some o)

-- the live range of its vreg
pub record IsLiveRange (f : FunctionValue) (r : LiveRange) : Type 0 where
  pub first : IsFirstPoint f r.vreg r.first
  pub last : IsLastPoint f r.vreg r.last
  pub by : IsShownBy f r.vreg r.by

-- the entry of a table for a number; none past its end
abbrev pub range_at : List (Option LiveRange) → ℕ → Option LiveRange
range_at t n = slice_index_or t n None

-- a number is marked as requested
abbrev pub IsWanted : List Bool → ℕ → Type 0
IsWanted wanted n = slice_index_or wanted n false ≡ true

-- a label names a vreg of the number
abbrev pub IsLabelled : FunctionValue → ℕ → Type 0
IsLabelled f n = Any (λ l. l.vreg.number ≡ n) f.labels

-- the labelled numbers are marked in a table, which has room for all that the function defines if there are labels
pub record AreLabelsMarked (f : FunctionValue) (wanted : List Bool) : Type 0 where
  pub room : 0 < length f.labels → CoversDefinitions f (length wanted)
  pub marks : (n : ℕ) → n < length wanted → IsWanted wanted n ↔ IsLabelled f n

-- A table by number of the live ranges of all requested numbers: it has room for all that the function defines, each entry is that of a vreg of the number, and
-- each vreg of a requested number with a first and a last point has its entry.
pub record AreLiveRanges (f : FunctionValue) (Asked : ℕ → Type 0) (t : List (Option LiveRange)) : Type 0 where
  pub room : CoversDefinitions f (length t)
  pub found : (n : ℕ) (r : LiveRange) → range_at t n ≡ Some r → (r.vreg.number ≡ n) × IsLiveRange f r
  pub all : (v : VirtualRegister) (start end : ℕ) → Asked v.number → IsFirstPoint f v start → IsLastPoint f v end →
      (r : LiveRange) × (range_at t v.number ≡ Some r) × (r.vreg ≡ v)

-- the live range with which a label is kept
pub record IsKeptRange (f : FunctionValue) (l : Label) (r : LiveRange) : Type 0 where
  pub vreg : r.vreg ≡ l.vreg
  pub kept : IsKept f l r.first r.last
  pub by : IsShownBy f l.vreg r.by

-- The labels that are kept, as listed, each with its live range; no other label has points with which it is kept.
pub data AreKeptLabels (f : FunctionValue) : List Label → List KeptLabel → Type 0 where
  none : AreKeptLabels f [] []
  kept : {ls : List Label} {ks : List KeptLabel} (l : Label) (k : KeptLabel) → k.label ≡ l.label → IsKeptRange f l k.range → AreKeptLabels f ls ks →
      AreKeptLabels f (l ∷ ls) (k ∷ ks)
  left_out : {ls : List Label} {ks : List KeptLabel} (l : Label) → ((start end : ℕ) → IsKept f l start end → ⊥) → AreKeptLabels f ls ks →
      AreKeptLabels f (l ∷ ls) ks
