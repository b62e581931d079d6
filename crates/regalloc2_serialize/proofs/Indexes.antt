-- One register more in a set of indexes.
use Rattle.std.proofs.Common.{◌≡◌, true, ℕ, ◌+◌, ◌<◌, List, [], ◌∷◌, ◌++◌, ◌||◌, length, map, take, get_or, sym, subst, refl}
use Rattle.std.specs.Prelude.{◌↔◌, Contains}
use Rattle.std.proofs.lemmas.List.{take_more, map-append}
use Rattle.regalloc2_names.specs.Register.{Register, is_register, has_register}
use Rattle.regalloc2_names.specs.RegisterBits.{register_of_bits}
use Rattle.regalloc2_names.specs.declared.sets.PRegSet.{PRegSet}
use Rattle.regalloc2_names.specs.Collected.{collected}

-- the members of `s` are the registers with the indexes `xs`
abbrev AreMembers : List ℕ → PRegSet → Type 0
AreMembers xs s = (r : Register) → (has_register s r ≡ true) ↔ Contains (map register_of_bits xs) r

-- a set of the registers of the first i indexes, joined by that of index i, has the registers of the first i + 1
pub indexes-more : (old new : PRegSet) (xs : List ℕ) (i x : ℕ) → i < length xs → x ≡ get_or xs i x → AreMembers (take i xs) old →
    ((r : Register) → has_register new r ≡ is_register (register_of_bits x) r || has_register old r) → AreMembers (take (i + 1) xs) new
indexes-more old new xs i x less is was now =
    let e : map register_of_bits (take (i + 1) xs) ≡ map register_of_bits (take i xs) ++ register_of_bits x ∷ [] =
    rw (take_more xs i x less, ← is, map-append register_of_bits (take i xs) (x ∷ [])) refl in
    subst (λ (l : List Register). (r : Register) → (has_register new r ≡ true) ↔ Contains l r) (sym e)
    (collected old new (register_of_bits x) (map register_of_bits (take i xs)) was now)
