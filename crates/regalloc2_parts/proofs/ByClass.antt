-- A list with one element for each register class, read and written as code does, by the class's discriminant.
use Rattle.std.proofs.Common.{◌≡◌, ◌≢◌, ◌<◌, ◌≤◌, arith, List, [], length, get_or, set}
use Rattle.std.proofs.lemmas.List.{get_or_default, get_or-set_same, get_or-set_other, set-get_or}
use denote.Enum.Declared.{tag_of}
use Rattle.regalloc2_names.specs.declared.RegClass.{RegClass}
use Rattle.regalloc2_names.specs.contracts.RegClass.{the_type}
use Rattle.regalloc2_names.specs.Register.{Register, class_code}
use Rattle.regalloc2_names.proofs.Bits.{tag-class, class_code-lt}
use Rattle.regalloc2_parts.specs.Ring.{ring_of}
use Rattle.regalloc2_parts.proofs.RegisterLaws.{class_codes}

-- the discriminants are below 3
pub tag-lt : (class : RegClass) → tag_of the_type class < 3
tag-lt class = rw (tag-class class) (class_code-lt class)

pub tag-le : (class : RegClass) → tag_of the_type class ≤ 3
tag-le class = omega (arith, tag-lt class)

pub tag-within : {X : Type 0} (xs : List X) (class : RegClass) → length xs ≡ 3 → tag_of the_type class < length xs
tag-within xs class three = rw three (tag-lt class)

-- the ring that is read
pub read_ring : (rings : List (List Register)) (class : RegClass) (d : List Register) → length rings ≡ 3 → get_or rings (tag_of the_type class) d ≡ ring_of rings class
read_ring rings class d three = rw (tag-class class) (get_or_default rings (class_code class) d [] (omega (arith, class_code-lt class)))

-- the ring that is written
pub set_ring : (rings : List (List Register)) (class : RegClass) (ring : List Register) → length rings ≡ 3 → ring_of (set rings (tag_of the_type class) ring) class ≡ ring
set_ring rings class ring three = rw (tag-class class) (get_or-set_same rings (class_code class) ring [] (omega (arith, class_code-lt class)))

-- the other rings
pub set_ring-other : (rings : List (List Register)) (class other : RegClass) (ring : List Register) → other ≢ class →
    ring_of (set rings (tag_of the_type class) ring) other ≡ ring_of rings other
set_ring-other rings class other ring apart = rw (tag-class class) (get_or-set_other rings (class_code class) (class_code other) ring []
    (λ e. apart (class_codes other class e)))

-- a ring that is written back as it was read
pub set_ring-same : (rings : List (List Register)) (class : RegClass) (ring d : List Register) → ring ≡ get_or rings (tag_of the_type class) d →
    set rings (tag_of the_type class) ring ≡ rings
set_ring-same rings class ring d same = rw same (set-get_or rings (tag_of the_type class) d)
