-- LRU lists made of sets of registers. No public contract cites this.
use Rattle.std.specs.Prelude.{◌≡◌, List, length, slice_index_or, []}
use Rattle.regalloc2_names.specs.declared.RegClass.TheVariants.{Int, Float, Vector}
use Rattle.regalloc2_names.specs.declared.sets.PRegSet.{PRegSet}
use Rattle.regalloc2_names.specs.Register.{Register}
use Rattle.regalloc2_parts.specs.Ring.{IsNewRing}
use Rattle.regalloc2_fastalloc_state.specs.StateParts.{AreThoseBelow}

-- the list of each class is a new one of the registers of that class in its set
pub record AreLrusOf (int float vector : PRegSet) (lrus : List (List Register)) : Type 0 where
  pub ints : List Register
  pub floats : List Register
  pub vectors : List Register
  pub of_int : AreThoseBelow int Int 64 ints
  pub of_float : AreThoseBelow float Float 64 floats
  pub of_vector : AreThoseBelow vector Vector 64 vectors
  pub three : length lrus ≡ 3
  pub int_lru : IsNewRing ints (slice_index_or lrus 0 [])
  pub float_lru : IsNewRing floats (slice_index_or lrus 1 [])
  pub vector_lru : IsNewRing vectors (slice_index_or lrus 2 [])
