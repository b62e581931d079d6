-- The part of a block that the walk has already allocated.
use Rattle.std.proofs.Common.{ℕ, List}
use Rattle.regalloc2_names.specs.Register.{VirtualRegister}
use Rattle.regalloc2_names.specs.Place.{Place}
use Rattle.regalloc2_function.specs.FunctionValue.{InstValue}

-- A block's tail, from the instruction i on, with n more after it. Known: the vregs, one for each number; insts and
-- placesf: the instructions, by number, and the places of their operands; E: where each vreg is needed when the tail
-- ends.
pub record BlockTail : Type 1 where
  pub Known : VirtualRegister → Type 0
  pub insts : ℕ → InstValue
  pub placesf : ℕ → List Place
  pub i : ℕ
  pub n : ℕ
  pub E : VirtualRegister → Place → Type 0

-- a tail, built from its parts
abbrev pub tail_of : (VirtualRegister → Type 0) → (ℕ → InstValue) → (ℕ → List Place) → ℕ → ℕ → (VirtualRegister → Place → Type 0) → BlockTail
tail_of Known insts placesf i n E = record { Known = Known; insts = insts; placesf = placesf; i = i; n = n; E = E }
