-- The nodes of a ring of registers, and the list that their links represent.
use Rattle.std.specs.Prelude.{ℕ, ◌≡◌, ◌+◌, ◌<◌, ◌≤◌, ◌⊎◌, List, [], ◌∷◌, ◌++◌, Option, None, Some, MatchOption, length, map, slice_index}
use Rattle.regalloc2_names.specs.declared.RegClass.{RegClass}
use Rattle.regalloc2_names.specs.Register.{Register}
use Rattle.regalloc2_parts.specs.declared.lru.nodes.LruNode.{LruNode}
use Rattle.regalloc2_parts.specs.Links.{IsRing, IsWalk, changed, walked_links}

abbrev pub lru_nexts : List LruNode → List ℕ
lru_nexts nodes = map (λ n. n.next) nodes

abbrev pub lru_prevs : List LruNode → List ℕ
lru_prevs nodes = map (λ n. n.prev) nodes

-- the numbers after the head, up to it
abbrev pub others : List LruNode → ℕ → List ℕ
others nodes head = walked_links (lru_nexts nodes) head (slice_index (lru_nexts nodes) head)

-- the numbers of a ring, the head first
abbrev pub ring_numbers : List LruNode → ℕ → List ℕ
ring_numbers nodes head = head ∷ others nodes head

-- the links from the head on form a ring
abbrev pub IsNodeRing : List LruNode → ℕ → Type 0
IsNodeRing nodes head = IsRing (lru_nexts nodes) (lru_prevs nodes) head (others nodes head)

-- the links from the head on form a ring of these numbers
pub record IsRingOfNumbers (nodes : List LruNode) (head : ℕ) (numbers : List ℕ) : Type 0 where
  pub ring : IsNodeRing nodes head
  pub are : ring_numbers nodes head ≡ numbers

-- how many links differ
abbrev pub lru_changed_links : List LruNode → List LruNode → ℕ
lru_changed_links old new = changed (lru_nexts old) (lru_nexts new) + changed (lru_prevs old) (lru_prevs new)

-- the register of a class that has a number
abbrev pub named : RegClass → ℕ → Register
named class number = record { number = number; class = class }

-- the registers of a ring, the most recently used first: none if it has no nodes
abbrev pub ring_registers : List LruNode → ℕ → RegClass → List Register
ring_registers [] head class = []
ring_registers (node ∷ nodes) head class = map (named class) (ring_numbers (node ∷ nodes) head)

-- no nodes at all, or one for each number, of which the links from the head on form a ring
pub record IsLruNodes (nodes : List LruNode) (head : ℕ) : Type 0 where
  pub sized : (length nodes ≡ 0) ⊎ (length nodes ≡ 64)
  pub ring : 0 < length nodes → IsNodeRing nodes head

-- the registers from one on to the most recently used, which is the last of them
abbrev pub left_of : List LruNode → ℕ → RegClass → Option ℕ → List Register
left_of nodes head class None = []
left_of nodes head class (Some at) = map (named class) (walked_links (lru_prevs nodes) head at ++ head ∷ [])

-- a walk from a register to the most recently used one stays among the nodes
pub record IsLeft (nodes : List LruNode) (head : ℕ) (at : Option ℕ) : Type 0 where
  pub few : length nodes ≤ 64
  pub walk : MatchOption at (Unit {0}) (λ k. (head < length nodes) × IsWalk (lru_prevs nodes) head k (walked_links (lru_prevs nodes) head k))
