-- Numbers that are linked into a ring: a list says which number comes after each number, and another which one comes before it.
use Rattle.std.specs.Prelude.{ℕ, zero, suc, ◌≡◌, ◌+◌, ◌<◌, ◌≤◌, cond, nat_eq, false, List, [], ◌∷◌, length, slice_index}
use Rattle.std.specs.List.{AllByRecursion, IsDistinct}

-- from one number the links lead over the numbers of a list, in its order, to another, and from each number back to the number before it
unfoldable pub Leads : List ℕ → List ℕ → ℕ → List ℕ → ℕ → Type 0
Leads nexts prevs from [] to = (slice_index nexts from ≡ to) × (slice_index prevs to ≡ from)
Leads nexts prevs from (x ∷ xs) to = (slice_index nexts from ≡ x) × (slice_index prevs x ≡ from) × Leads nexts prevs x xs to

-- the list lacks the number n
abbrev pub LacksNumber : ℕ → List ℕ → Type 0
LacksNumber n xs = AllByRecursion (λ x. nat_eq n x ≡ false) xs

-- the links represent a ring: the head, then `others`, none of them twice, and the head again
pub record IsRing (nexts prevs : List ℕ) (head : ℕ) (others : List ℕ) : Type 0 where
  pub leads : Leads nexts prevs head others head
  pub distinct : IsDistinct nat_eq (head ∷ others)
  pub below : AllByRecursion (λ n. n < length nexts) (head ∷ others)
  pub long : length prevs ≡ length nexts

-- the numbers from `at` on, each followed by the number that its link names, up to `stop`, which isn't among them; at most `most`
unfoldable pub walked_at_most : ℕ → List ℕ → ℕ → ℕ → List ℕ
walked_at_most zero links stop at = []
walked_at_most (suc most) links stop at = cond (nat_eq stop at) [] (at ∷ walked_at_most most links stop (slice_index links at))

abbrev pub walked_links : List ℕ → ℕ → ℕ → List ℕ
walked_links links stop at = walked_at_most (length links) links stop at

-- the links of one direction lead from the number `at` over the numbers of a list to `stop`
unfoldable pub LeadsOneWay : List ℕ → ℕ → List ℕ → ℕ → Type 0
LeadsOneWay links at [] stop = at ≡ stop
LeadsOneWay links at (x ∷ xs) stop = (at ≡ x) × LeadsOneWay links (slice_index links x) xs stop

-- a walk from a number along links of one direction has these numbers left before it stops at another
pub record IsWalk (links : List ℕ) (stop at : ℕ) (xs : List ℕ) : Type 0 where
  pub passes : LeadsOneWay links at xs stop
  pub apart : LacksNumber stop xs
  pub below : AllByRecursion (λ n. n < length links) xs
  pub short : length xs ≤ length links

-- at how many places two lists of numbers differ
unfoldable pub changed : List ℕ → List ℕ → ℕ
changed [] ys = length ys
changed (x ∷ xs) [] = length (x ∷ xs)
changed (x ∷ xs) (y ∷ ys) = cond (nat_eq x y) 0 1 + changed xs ys

-- the links of numbered nodes: for each number the one after it and the one before it
pub record RingOfLinks : Type 0 where
  pub nexts : List ℕ
  pub prevs : List ℕ

-- at how many places the links of two rings differ
abbrev pub changed_links : RingOfLinks → RingOfLinks → ℕ
changed_links old new = changed old.nexts new.nexts + changed old.prevs new.prevs

-- the links lead around a list of numbers, from its first one on; no numbers have no links
abbrev pub LeadAround : RingOfLinks → List ℕ → Type 0
LeadAround links [] = links ≡ record { nexts = []; prevs = [] }
LeadAround links (x ∷ xs) = IsRing links.nexts links.prevs x xs

-- links that lead around the old numbers become links that lead around the new ones by at most `most` changes
pub record IsFewLinksApart (most : ℕ) (old new : List ℕ) : Type 0 where
  pub before : RingOfLinks
  pub after : RingOfLinks
  pub around_old : LeadAround before old
  pub around_new : LeadAround after new
  pub few : changed_links before after ≤ most
