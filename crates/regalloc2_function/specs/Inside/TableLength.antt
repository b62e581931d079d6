-- How long a table by vreg's number has to be.
use Rattle.std.specs.Prelude.{ℕ, ◌≡◌, ◌+◌, ◌*◌, ◌<◌, ◌≤◌, ◌⊎◌, true, List, Contains, length}
use Rattle.regalloc2_names.specs.Register.{VirtualRegister}
use Rattle.regalloc2_names.specs.Operand.{OperandValue, is_def}
use Rattle.regalloc2_function.specs.FunctionValue.{FunctionValue}
use Rattle.regalloc2_function.specs.WellFormed.{IsDefinedUpTo}

-- a table of `n` entries has one for each number that the function defines below its count
abbrev pub CoversDefinitions : FunctionValue → ℕ → Type 0
CoversDefinitions f n = (v : VirtualRegister) (point : ℕ) → IsDefinedUpTo f v point → v.number < f.num_vregs → v.number < n

-- a table of `n` entries has at most some four for each instruction, or at most as many as some defined number needs
abbrev pub IsShort : FunctionValue → ℕ → Type 0
IsShort f n = (n ≤ 4 * length f.insts + 3) ⊎ ((v : VirtualRegister) × (point : ℕ) × IsDefinedUpTo f v point × (n ≤ v.number + 1))

-- a number that the operand may define is below a bound
abbrev pub IsBelow : ℕ → OperandValue → Type 0
IsBelow n o = is_def o.kind ≡ true → o.vreg.number < n

-- some parameter's number comes up to a bound, or one below it
abbrev pub ReachedByParam : List VirtualRegister → ℕ → Type 0
ReachedByParam ps n = (v : VirtualRegister) × Contains ps v × (n ≤ v.number + 1)

-- some number that operands define reaches the length
abbrev pub ReachedByDef : List OperandValue → ℕ → Type 0
ReachedByDef os n = (o : OperandValue) × Contains os o × (is_def o.kind ≡ true) × (n ≤ o.vreg.number + 1)
