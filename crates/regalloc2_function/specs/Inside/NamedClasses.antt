-- Classes that the arguments of a block name.
use Rattle.std.specs.Prelude.{ℕ, ◌≡◌, ◌<◌, ◌≤◌, [], Any, length, slice_index_or}
use Rattle.regalloc2_names.specs.declared.RegClass.{RegClass}
use Rattle.regalloc2_function.specs.FunctionValue.{FunctionValue, block_at}

-- the arguments of a block that is nonempty and within the instructions name a vreg of the class
abbrev pub NamesByArgument : FunctionValue → ℕ → RegClass → Type 0
NamesByArgument f b class =
    (k : ℕ) × ((block_at f b).range.first < (block_at f b).range.end) × ((block_at f b).range.end ≤ length f.insts)
    × (k < length (block_at f b).succs) × Any (λ v. v.class ≡ class) (slice_index_or (block_at f b).arguments k [])
