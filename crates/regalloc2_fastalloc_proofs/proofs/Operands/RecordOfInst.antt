-- The record that is kept while the operands of an instruction are placed: fixed ones are claimed and cleared, then
-- late ones are placed, then early ones.
use Rattle.std.proofs.Common.{ℕ, ◌≡◌, ◌≢◌, ◌<◌, Bool, true, false, List, length, ◌⊎◌}
use Rattle.std.specs.Prelude.{slice_index_or}
use Rattle.regalloc2_names.specs.declared.OperandConstraint.TheVariants.{Reg, FixedReg, Reuse}
use Rattle.regalloc2_names.specs.Register.{Register, has_register}
use Rattle.regalloc2_names.specs.Operand.{OperandValue, is_def, is_late, is_reading, is_fixed_nonallocatable}
use Rattle.regalloc2_names.specs.Place.{Place, NoPlace, InRegister}
use Rattle.regalloc2_carry.specs.Instruction.{Claims}
use Rattle.regalloc2_carry.specs.BlockByPoints.{after_part, listed}
use Rattle.regalloc2_carry.specs.OperandsPlaced.{what_of, Progress, Held, Once, Counts}
use Rattle.regalloc2_fastalloc_state.specs.declared.inst_regs.InstRegs.{InstRegs}
use Rattle.regalloc2_function.specs.FunctionValue.{op_at}
use Rattle.regalloc2_fastalloc_proofs.specs.InstSteps.{StateValue}
use Rattle.regalloc2_fastalloc_proofs.proofs.Operands.RecordOverState.{location_at, slots_at, Located, OwesPlaces, located_used}
use Rattle.regalloc2_fastalloc_proofs.proofs.Evictions.EvictVReg.{held_early, held_late}
use Rattle.regalloc2_fastalloc_proofs.proofs.Moves.ScratchRegTaken.{Fit, Spare, fit_used, spare_used}
use Rattle.regalloc2_fastalloc_proofs.proofs.Operands.BlockTail.{BlockTail}

-- The operands of an instruction of a well-formed function. A number is defined once, and isn't read where it is
-- defined; a reuse is a late definition that names an early use, which no other reuse names, under Reg or FixedReg.
pub record Orderly (ops : List OperandValue) : Type 0 where
  pub once : Once (Counts ops) (what_of ops)
  pub allocated : (k : ℕ) → k < length ops → is_def (op_at ops k).kind ≡ true → is_fixed_nonallocatable (op_at ops k) ≡ false
  pub late_reuse : (d m : ℕ) → d < length ops → (op_at ops d).constraint ≡ Reuse m → (is_def (op_at ops d).kind ≡ true)
      × (is_late (op_at ops d).position ≡ true)
  pub named : (d m : ℕ) → d < length ops → (op_at ops d).constraint ≡ Reuse m → (m < length ops) × (is_def (op_at ops m).kind ≡ false)
      × (is_late (op_at ops m).position ≡ false) × (is_reading (op_at ops m) ≡ true)
  pub named_as : (d m : ℕ) → d < length ops → (op_at ops d).constraint ≡ Reuse m → ((op_at ops m).constraint ≡ Reg)
      ⊎ ((r : Register) × ((op_at ops m).constraint ≡ FixedReg r))
  pub apart : (d e m : ℕ) → d < length ops → e < length ops → (op_at ops d).constraint ≡ Reuse m → (op_at ops e).constraint ≡ Reuse m → d ≡ e

-- An operand was allocated: in the pass over late operands the late ones before k, in the pass over early operands all
-- late ones and the early ones before k.
abbrev pub Turned : List OperandValue → Bool → ℕ → ℕ → Type 0
Turned ops late k j = ((is_late (op_at ops j).position ≡ true) × (j < k)) ⊎ ((late ≡ false) × ((is_late (op_at ops j).position ≡ true) ⊎ (j < k)))

-- An operand whose register is claimed before it is allocated: it is fixed, or a reuse of a fixed use, or a use for
-- which a reuse has chosen the register.
pub data Waits (ops : List OperandValue) (list : List Place) (j : ℕ) (r : Register) : Type 0 where
  of_fixed : (op_at ops j).constraint ≡ FixedReg r → Waits ops list j r
  of_reuse : (m : ℕ) → (op_at ops j).constraint ≡ Reuse m → (op_at ops m).constraint ≡ FixedReg r → Waits ops list j r
  of_named : (d : ℕ) → is_def (op_at ops j).kind ≡ false → d < length ops → (op_at ops d).constraint ≡ Reuse j → slice_index_or list d NoPlace ≢ NoPlace →
      slice_index_or list j NoPlace ≡ InRegister r → Waits ops list j r

-- the progress of the operands, from what is constant during the instruction, and what changes
abbrev pub progress : (ℕ → Bool) → (Place → Bool) → (ℕ → Place) → (ℕ → Bool) → (ℕ → Bool) → (ℕ → Bool) → (Place → ℕ → Bool) → Progress
progress lived clob here claimed done out X =
    record { here = here; claimed = claimed; done = done; lived = lived; out = out; made_at = X; clobbered = clob }

module _ (tail : BlockTail) where
  open tail use {Known, insts, placesf, i, n, E}

  -- What each step on the tables and on the instruction's registers keeps. far: the progress of its operands;
  -- ends_block: the instruction is the last of its block, after which nothing is needed.
  pub record Ready (ops : List OperandValue) (far : Progress) (ends_block : Bool) (u : InstRegs) (t : StateValue) : Type 0 where
    pub located : Located (what_of ops) far t
    pub owes : OwesPlaces tail far.lived far.out far.made_at (location_at t) (slots_at t) t.edits
    pub nowhere_needed : ends_block ≡ true → Claims Known (after_part insts (listed t.edits) placesf i n) (λ x p. ⊥) E
    pub held : Held (what_of ops) far.here far.claimed (held_early u) (held_late u)
    pub scratch_reserve : Spare far.here far.claimed far.made_at u t
    pub fit : Fit t
    pub clobbers : (r : Register) → far.clobbered (InRegister r) ≡ true → has_register u.late r ≡ false
    pub within : (j : ℕ) → far.claimed j ≡ true → Counts ops j
    pub small : (j : ℕ) (r : Register) → far.claimed j ≡ true → far.here j ≡ InRegister r → r.number < 64

  -- the order in which registers were used doesn't matter
  pub ready_used : (ops : List OperandValue) (far : Progress) (ends_block : Bool) (u : InstRegs) (t : StateValue) (order : List (List Register)) →
      Ready ops far ends_block u t → Ready ops far ends_block u (record t { lrus = order })
  ready_used ops far ends_block u t order h = record {
    located = located_used (what_of ops) far t order h.located;
    owes = h.owes;
    nowhere_needed = h.nowhere_needed;
    held = h.held;
    scratch_reserve = spare_used far.here far.claimed far.made_at u t order h.scratch_reserve;
    fit = fit_used t order h.fit;
    clobbers = h.clobbers;
    within = h.within;
    small = h.small;
  }

  -- The record before the operand k is allocated in the pass over late or early operands; list has the places of the
  -- instruction so far.
  pub record Laid (ops : List OperandValue) (lived : ℕ → Bool) (clob : Place → Bool) (ends_block late : Bool) (k : ℕ) (list : List Place) (u : InstRegs)
      (t : StateValue) : Type 0 where
    pub here : ℕ → Place
    pub claimed : ℕ → Bool
    pub done : ℕ → Bool
    pub out : ℕ → Bool
    pub X : Place → ℕ → Bool
    pub ready : Ready ops (progress lived clob here claimed done out X) ends_block u t
    pub turned : (j : ℕ) → done j ≡ true → Turned ops late k j
    pub all : (j : ℕ) → Counts ops j → Turned ops late k j → done j ≡ true
    -- fixed operands, and reuses of fixed ones, claimed their registers before
    pub fixed : (j : ℕ) (r : Register) → Counts ops j → (op_at ops j).constraint ≡ FixedReg r → (claimed j ≡ true) × (here j ≡ InRegister r)
    pub fixed_reuse : (j m : ℕ) (r : Register) → Counts ops j → (op_at ops j).constraint ≡ Reuse m → (op_at ops m).constraint ≡ FixedReg r → (claimed j ≡ true)
        × (here j ≡ InRegister r)
    pub waiting : (j : ℕ) → claimed j ≡ true → done j ≡ false → (r : Register) × (here j ≡ InRegister r) × Waits ops list j r
    -- the list of places
    pub long : length list ≡ length ops
    pub listed_here : (j : ℕ) → Counts ops j → slice_index_or list j NoPlace ≢ NoPlace → (claimed j ≡ true) × (slice_index_or list j NoPlace ≡ here j)
    pub placed : (j : ℕ) → done j ≡ true → slice_index_or list j NoPlace ≡ here j
    -- a definition that is placed writes its place
    pub written : (j : ℕ) → done j ≡ true → is_def (op_at ops j).kind ≡ true → X (here j) (op_at ops j).vreg.number ≡ true

-- The context of the passes over an instruction's operands: the tail of the block; the operands, which are orderly; the
-- numbers that had a location when the instruction began; the clobbered places; and whether the instruction ends its
-- block.
pub record LayingContext : Type 1 where
  pub tail : BlockTail
  pub ops : List OperandValue
  pub lived : ℕ → Bool
  pub clob : Place → Bool
  pub ends_block : Bool
  pub orderly : Orderly ops

-- the record, built from its parts
abbrev pub laying_of : BlockTail → (ops : List OperandValue) → (ℕ → Bool) → (Place → Bool) → Bool → Orderly ops → LayingContext
laying_of tail ops lived clob ends_block orderly = record { tail = tail; ops = ops; lived = lived; clob = clob; ends_block = ends_block; orderly = orderly }
