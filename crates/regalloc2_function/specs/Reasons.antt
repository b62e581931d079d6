-- Where the tests of a function fail first, as their errors report.
use Rattle.std.specs.Prelude.{ℕ, ◌≡◌, ◌≢◌, ◌<◌, ◌≤◌, ◌⊎◌, Bool, List, [], ◌∷◌, ◌++◌, count_by, length, nat_eq}
use Rattle.std.specs.Prelude.{◌-◌, None, Some, filter_map, flat_map, if◌then◌else◌, map, slice_index_or}
use Rattle.regalloc2_index.specs.Range.{invalid_number, numbers_from}
use Rattle.regalloc2_names.specs.declared.RegAllocError.{RegAllocError}
use Rattle.regalloc2_names.specs.declared.RegAllocError.TheVariants.{BB, Branch, CritEdge, DisallowedBranchArg, EntryLivein, Memory, SSA, Unsupported}
use Rattle.regalloc2_names.specs.Register.{VirtualRegister}
use Rattle.regalloc2_names.specs.Operand.{OperandValue, is_def, is_reading}
use Rattle.regalloc2_names.specs.Place.{before, after}
use Rattle.regalloc2_function.specs.FunctionValue.{FunctionValue, block_at, inst_at, last_of, EachBlock}
use Rattle.regalloc2_function.specs.WellFormed.{BlocksFollow, DefinedOnce, EndsAt, EntryIsFirst, FollowsAt}
use Rattle.regalloc2_function.specs.WellFormed.{IsDefinedUpTo, SuccessorsAreBlocks, UsesAreDefined}
use Rattle.regalloc2_function.specs.WellFormed.{ArgumentsFitAt, NoOperandsAt, NotCriticalAt, PredecessorsAt, ReusesAreSound, FixedAvoidClobbers}
use Rattle.regalloc2_function.specs.WellFormed.{CountedAt}
use Rattle.regalloc2_function.specs.Machine.{MachineValue}

-- the first number below `n` that fails a test
abbrev pub IsFirst : ℕ → (ℕ → Type 0) → ℕ → Type 0
IsFirst n P i = (i < n) × (P i → ⊥) × ((j : ℕ) → j < i → P j)

-- the first of a list that fails a test
abbrev pub IsFirstIn : {X : Type 0} → (X → Type 0) → List X → X → Type 0
IsFirstIn P xs x = (i : ℕ) × IsFirst (length xs) (λ j. P (slice_index_or xs j x)) i × (slice_index_or xs i x ≡ x)

-- a vreg that is defined or used: by which instruction (`invalid_number` for a parameter), and at which point
pub record Site : Type 0 where
  pub vreg : VirtualRegister
  pub inst : ℕ
  pub point : ℕ

-- the vregs of the operands of an instruction that pass a test, at a point
abbrev pub sites_of : (OperandValue → Bool) → FunctionValue → ℕ → ℕ → List Site
sites_of test f i point = filter_map (λ o. if test o then Some (record { vreg = o.vreg; inst = i; point = point }) else None) (inst_at f i).operands

-- all definitions, block by block: its parameters, before its first instruction, then what each instruction defines,
-- after it
abbrev pub definitions_in : FunctionValue → List Site
definitions_in f = flat_map (λ b.
    map (λ v. record { vreg = v; inst = invalid_number; point = before b.range.first }) b.params
    ++ flat_map (λ i. sites_of (λ o. is_def o.kind) f i (after i)) (numbers_from b.range.first (b.range.end - b.range.first))) f.blocks

-- all uses, block by block: what each instruction reads, before it, then what the last one passes to each successor in
-- turn, after it
abbrev pub uses_in : FunctionValue → List Site
uses_in f = flat_map (λ b.
    flat_map (λ i. sites_of is_reading f i (before i)) (numbers_from b.range.first (b.range.end - b.range.first))
    ++ flat_map (λ k. map (λ v. record { vreg = v; inst = last_of b; point = after (last_of b) }) (slice_index_or b.arguments k []))
    (numbers_from 0 (length b.succs))) f.blocks

-- each number is defined at most once by these, and below a bound
abbrev pub AreSingle : ℕ → List Site → Type 0
AreSingle num ds = (n : ℕ) → (count_by (λ d. nat_eq d.vreg.number n) ds ≤ 1) × (0 < count_by (λ d. nat_eq d.vreg.number n) ds → n < num)

-- the first definition whose number is too large or is defined by an earlier one
pub record IsFirstRepeat (f : FunctionValue) (v : VirtualRegister) (i : ℕ) : Type 0 where
  pub site : Site
  pub vreg : site.vreg ≡ v
  pub inst : site.inst ≡ i
  pub earlier : List Site
  pub later : List Site
  pub is : definitions_in f ≡ earlier ++ site ∷ later
  pub single : AreSingle f.num_vregs earlier
  pub fails : AreSingle f.num_vregs (earlier ++ site ∷ []) → ⊥

-- why the definitions of a function are rejected: out of memory, or else the first repeat, or if there is none the first
-- use of what is not defined by then
abbrev pub IsDefinitionFault : FunctionValue → RegAllocError → Type 0
IsDefinitionFault f Memory = Unit {0}
IsDefinitionFault f (SSA v i) = IsFirstRepeat f v i
    ⊎ (DefinedOnce f × ((point : ℕ)
    × IsFirstIn (λ u. IsDefinedUpTo f u.vreg u.point) (uses_in f) (record { vreg = v; inst = i; point = point })))
IsDefinitionFault f _ = ⊥

-- what the tests of blocks and edges test
pub record HasShape (f : FunctionValue) : Type 0 where
  pub successors : SuccessorsAreBlocks f
  pub follow : BlocksFollow f
  pub predecessors : EachBlock f (PredecessorsAt f)
  pub no_critical_edge : EachBlock f (NotCriticalAt f)
  pub no_operands_into_joins : EachBlock f (NoOperandsAt f)

-- Why the blocks and edges of a function are rejected: the first of these tests that fails, and where it fails first.
-- The entry and then all successors, as listed, are tested to be blocks. A critical edge comes from the first
-- predecessor that has several successors.
pub data IsShapeFault (f : FunctionValue) : RegAllocError → Type 0 where
  outside : (s : ℕ) → IsFirstIn (λ s. s < length f.blocks) (f.entry ∷ flat_map (λ b. b.succs) f.blocks) s → IsShapeFault f (BB s)
  apart : (b : ℕ) → SuccessorsAreBlocks f → IsFirst (length f.blocks) (λ n. FollowsAt f n (block_at f n)) b → IsShapeFault f (BB b)
  unlisted : (b : ℕ) → SuccessorsAreBlocks f → BlocksFollow f → IsFirst (length f.blocks) (λ n. PredecessorsAt f n (block_at f n)) b →
      IsShapeFault f (BB b)
  critical : (b p : ℕ) → SuccessorsAreBlocks f → BlocksFollow f → EachBlock f (PredecessorsAt f) →
      IsFirst (length f.blocks) (λ n. NotCriticalAt f n (block_at f n)) b →
      IsFirstIn (λ p. length (block_at f p).succs ≤ 1) (block_at f b).preds p → IsShapeFault f (CritEdge p b)
  operands : (b : ℕ) → SuccessorsAreBlocks f → BlocksFollow f → EachBlock f (PredecessorsAt f) → EachBlock f (NotCriticalAt f) →
      IsFirst (length f.blocks) (λ n. NoOperandsAt f n (block_at f n)) b → IsShapeFault f (DisallowedBranchArg (last_of (block_at f b)))

-- what the tests of the entry, of terminators, arguments, definitions and uses test
pub record HasSoundness (f : FunctionValue) : Type 0 where
  pub entry : EntryIsFirst f
  pub end : EachBlock f (EndsAt f)
  pub counted : EachBlock f (CountedAt f)
  pub classes : EachBlock f (ArgumentsFitAt f)
  pub defined_once : DefinedOnce f
  pub uses_defined : UsesAreDefined f

-- Why the tests of soundness reject a function: the first test that fails, and where it fails first.
pub data IsSoundnessFault (f : FunctionValue) : RegAllocError → Type 0 where
  elsewhere : f.entry ≢ 0 → IsSoundnessFault f (BB f.entry)
  livein : f.entry ≡ 0 → (block_at f 0).params ≢ [] → IsSoundnessFault f EntryLivein
  open_end : (b : ℕ) → EntryIsFirst f → IsFirst (length f.blocks) (λ n. EndsAt f n (block_at f n)) b → IsSoundnessFault f (BB b)
  arguments : (b : ℕ) → EntryIsFirst f → EachBlock f (EndsAt f) → IsFirst (length f.blocks) (λ n. ArgumentsFitAt f n (block_at f n)) b →
      IsSoundnessFault f (Branch (last_of (block_at f b)))
  repeated : (v : VirtualRegister) (i : ℕ) → EntryIsFirst f → EachBlock f (EndsAt f) → EachBlock f (ArgumentsFitAt f) → IsFirstRepeat f v i →
      IsSoundnessFault f (SSA v i)
  undefined : (u : Site) → EntryIsFirst f → EachBlock f (EndsAt f) → EachBlock f (ArgumentsFitAt f) → DefinedOnce f →
      IsFirstIn (λ u. IsDefinedUpTo f u.vreg u.point) (uses_in f) u → IsSoundnessFault f (SSA u.vreg u.inst)

-- memory ran out, or a test failed: of blocks and edges; else of the entry, terminators, arguments, definitions and uses; else of
-- reuses; else of fixed registers
pub data IsFunctionFault (f : FunctionValue) (env : MachineValue) : RegAllocError → Type 0 where
  memory : IsFunctionFault f env Memory
  misshapen : {e : RegAllocError} → IsShapeFault f e → IsFunctionFault f env e
  unsound : {e : RegAllocError} → HasShape f → IsSoundnessFault f e → IsFunctionFault f env e
  unsound_reuse : (i : ℕ) → HasShape f → HasSoundness f → IsFirst (length f.insts) (λ j. ReusesAreSound env (inst_at f j)) i →
      IsFunctionFault f env (Unsupported i)
  clashing : (i : ℕ) → HasShape f → HasSoundness f → ((j : ℕ) → j < length f.insts → ReusesAreSound env (inst_at f j)) →
      IsFirst (length f.insts) (λ j. FixedAvoidClobbers (inst_at f j)) i → IsFunctionFault f env (Unsupported i)
