-- Arrays of three, one item for each class.
use Rattle.std.proofs.Common.{ℕ, zero, suc, ◌≡◌, List, [], ◌∷◌, refl, slice_index_or, slice_index}
use Rattle.regalloc2_names.specs.declared.RegClass.{RegClass}
use Rattle.regalloc2_names.specs.declared.RegClass.TheVariants.{Int, Float, Vector}
use Rattle.regalloc2_names.specs.declared.sets.PRegSet.{PRegSet}
use Rattle.regalloc2_names.specs.Register.{Register, class_code, has_register, empty_set}

-- past an array's end there is no register
pub zeros : (c : RegClass) → slice_index (0 ∷ 0 ∷ 0 ∷ []) (class_code c) ≡ 0
zeros Int = refl
zeros Float = refl
zeros Vector = refl

-- reading an array of sets gives the same members whether the default is the set without words or the empty set
pub default_set : (xs : List PRegSet) (i : ℕ) (r : Register) → has_register (slice_index_or xs i (record { bits = [] })) r ≡ has_register
    (slice_index_or xs i empty_set) r
unfolding has_register
default_set [] i r = rw (zeros r.class) refl
default_set (x ∷ xs) zero r = refl
default_set (x ∷ xs) (suc i) r = default_set xs i r
