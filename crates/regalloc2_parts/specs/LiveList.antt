-- The list of live vregs, as contracts see it.
use Rattle.std.specs.Prelude.{ℕ, ◌<◌, List, All, map, nat_eq}
use Rattle.std.specs.List.{IsDistinct}
use Rattle.regalloc2_names.specs.Register.{VirtualRegister}

-- the members, the last inserted first, and the bound of their numbers
pub record LiveList : Type 0 where
  pub members : List VirtualRegister
  pub capacity : ℕ

-- no two members have one number, and each number is below the capacity
pub record NamesEachOnce (members : List VirtualRegister) (capacity : ℕ) : Type 0 where
  pub distinct : IsDistinct nat_eq (map (λ v. v.number) members)
  pub below : All (λ v. v.number < capacity) members
