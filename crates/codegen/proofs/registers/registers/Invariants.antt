use Rattle.std.specs.Prelude.{ℕ, ◌≡◌, ◌<◌, true, slice_index_or}
use Rattle.regalloc2_names.specs.Register.{Register, has_register}
use Rattle.regalloc2_names.specs.declared.RegClass.TheVariants.{Int}
use Rattle.codegen_emit.specs.Pinned.{is_allocated}
use Rattle.codegen.proofs.registers.registers.Given as goal

abbrev pub invariant-loop-number : goal.invariant-loop-number
invariant-loop-number l = ((r : Register) → has_register l.set r ≡ true → (r.class ≡ Int) × (is_allocated r.number ≡ true))
    × ((k d : ℕ) → k < l.number-index → has_register l.set (record { number = slice_index_or l.numbers k d; class = Int }) ≡ true)
