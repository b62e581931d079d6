-- The registers of one instruction, free or held at its two positions.
use Rattle.std.specs.Prelude.{ℕ, ◌≡◌, Bool, true, not, ◌&&◌, ◌||◌, if◌then◌else◌, slice_index}
use Rattle.regalloc2_names.specs.declared.RegClass.{RegClass}
use Rattle.regalloc2_names.specs.declared.sets.PRegSet.{PRegSet}
use Rattle.regalloc2_names.specs.Register.{Register, class_code, is_register, has_register}
use Rattle.regalloc2_semantics.specs.Fits.{register_number}
use Rattle.regalloc2_function.specs.Machine.{count_below}
use Rattle.regalloc2_fastalloc_state.specs.declared.inst_regs.InstRegs.{InstRegs}
use Rattle.regalloc2_fastalloc_state.specs.declared.positions.Positions.{Positions}

-- a register is free at the positions
pub record IsAvailableAt (inst_regs : InstRegs) (p : Positions) (r : Register) : Type 0 where
  pub early : p.early ≡ true → has_register inst_regs.early r ≡ true
  pub late : p.late ≡ true → has_register inst_regs.late r ≡ true

-- `IsAvailableAt` as a test; for no position at all it tests the late one
abbrev pub is_available_at : InstRegs → Positions → Register → Bool
is_available_at inst_regs p r =
    if p.early then has_register inst_regs.early r && (not p.late || has_register inst_regs.late r) else has_register inst_regs.late r

-- how many operands of a class that require any register are still to be allocated
abbrev pub awaited_of : InstRegs → RegClass → ℕ
awaited_of inst_regs class = slice_index inst_regs.awaited (class_code class)

-- a register is free at both positions
abbrev pub is_free_throughout : InstRegs → Register → Bool
is_free_throughout inst_regs r = has_register inst_regs.early r && has_register inst_regs.late r

-- a register of the set is free at both positions
abbrev pub is_free : PRegSet → InstRegs → Register → Bool
is_free set inst_regs r = has_register set r && is_free_throughout inst_regs r

-- how many registers of a class in the set are free at both positions
abbrev pub free_count : PRegSet → InstRegs → RegClass → ℕ
free_count set inst_regs class = count_below (λ n. is_free set inst_regs (register_number class n)) 64

-- a register is held at the positions from now on; how many operands are still to be allocated is left open
pub record RemovesAvailable (old new : InstRegs) (r : Register) (p : Positions) : Type 0 where
  pub early : (q : Register) → has_register new.early q ≡ not (p.early && is_register r q) && has_register old.early q
  pub late : (q : Register) → has_register new.late q ≡ not (p.late && is_register r q) && has_register old.late q
  pub scratch : new.scratch ≡ old.scratch

-- nothing changes but how many operands are still to be allocated
pub record SameAvailable (old new : InstRegs) : Type 0 where
  pub early : new.early ≡ old.early
  pub late : new.late ≡ old.late
  pub scratch : new.scratch ≡ old.scratch
