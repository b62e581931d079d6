-- A register that is free at both positions is free at any.
use Rattle.std.proofs.Common.{◌≡◌, Bool, true, false, cond, refl}
use Rattle.std.specs.Prelude.{◌&&◌, ◌||◌, not}
use Rattle.regalloc2_names.specs.Register.{Register, has_register}
use Rattle.regalloc2_fastalloc_state.specs.declared.inst_regs.InstRegs.{InstRegs}
use Rattle.regalloc2_fastalloc_state.specs.declared.positions.Positions.{Positions}
use Rattle.regalloc2_fastalloc_state.specs.InstRegs.{is_available_at, is_free_throughout}

pub free_at_any : (inst_regs : InstRegs) (p : Positions) (r : Register) → is_free_throughout inst_regs r ≡ true → is_available_at inst_regs p r ≡ true
free_at_any inst_regs p r = by p.early p.late (has_register inst_regs.early r) (has_register inst_regs.late r)
  where
    by : (a b early late : Bool) → (early && late) ≡ true → cond a (early && (not b || late)) late ≡ true
    by true true true true e = refl
    by true false true true e = refl
    by false b true true e = refl
    by a b true false e = absurd cc
    by a b false late e = absurd cc
