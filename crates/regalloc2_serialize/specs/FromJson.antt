-- How data are read from a JSON value.
use Rattle.std.specs.Prelude.{ℕ, ◌^◌, List, [], ◌∷◌, ◌++◌, nat_lt, if◌then◌else◌, Option, None, Some, option_and_then, is_some}
use Rattle.std.specs.Option.{option_map}
use Rattle.serde_json.specs.Data.{Data, Items, no_items, item}
use Rattle.serde_json.specs.Find.{get, at, as_array, as_null, as_number, as_u64}

-- a number that isn't negative, below a bound
abbrev pub below : ℕ → ℕ → Option ℕ
below bound n = if nat_lt n bound then Some n else None

abbrev pub long : Data → Option ℕ
long d = option_and_then as_u64 (as_number d)

abbrev pub word : Data → Option ℕ
word d = option_and_then (below (2 ^ 32)) (long d)

abbrev pub byte : Data → Option ℕ
byte d = option_and_then (below (2 ^ 8)) (long d)

-- the items of an array, each read in the same way, behind the items `xs`
abbrev pub list_onto : {X : Type 0} → (Data → Option X) → List X → Items → Option (List X)
list_onto read xs no_items = Some xs
list_onto read xs (item d ds) = option_and_then (λ x. list_onto read (xs ++ x ∷ []) ds) (read d)

-- an array, each item read in the same way
abbrev pub list : {X : Type 0} → (Data → Option X) → Data → Option (List X)
list read d = option_and_then (list_onto read []) (as_array d)

-- the member `name`
abbrev pub member : {X : Type 0} → List ℕ → (Data → Option X) → Data → Option X
member name read d = option_and_then read (get name d)

-- none for null, else the datum
abbrev pub or_null : {X : Type 0} → (Data → Option X) → Data → Option (Option X)
or_null read d = if is_some (as_null d) then Some None else option_map Some (read d)

-- the item at an index
abbrev pub item_at : {X : Type 0} → ℕ → (Data → Option X) → Data → Option X
item_at i read d = option_and_then read (at i d)

-- an array of two, three or four words
abbrev pub pair : Data → Option (ℕ × ℕ)
pair d =
    if is_some (at 2 d) then None else
    option_and_then (λ x. option_and_then (λ y. Some (x, y)) (item_at 1 word d)) (item_at 0 word d)

abbrev pub triple : Data → Option (ℕ × ℕ × ℕ)
triple d =
    if is_some (at 3 d) then None else
    option_and_then (λ x. option_and_then (λ y. option_and_then (λ z. Some (x, y, z)) (item_at 2 word d)) (item_at 1 word d)) (item_at 0 word d)

abbrev pub quadruple : Data → Option (ℕ × ℕ × ℕ × ℕ)
quadruple d =
    if is_some (at 4 d) then None else
    option_and_then (λ x. option_and_then (λ y. option_and_then (λ z. option_and_then (λ w. Some (x, y, z, w))
    (item_at 3 word d)) (item_at 2 word d)) (item_at 1 word d)) (item_at 0 word d)
