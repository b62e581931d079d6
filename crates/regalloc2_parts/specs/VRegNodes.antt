-- The nodes of the list of live vregs, and the list that their links represent.
use Rattle.std.specs.Prelude.{ℕ, ◌≡◌, ◌+◌, ◌≤◌, List, length, map, slice_index, slice_index_or}
use Rattle.std.specs.List.{AllByRecursion}
use Rattle.regalloc2_names.specs.Register.{VirtualRegister, invalid_vreg, vreg_limit}
use Rattle.regalloc2_parts.specs.declared.vregset.VRegNode.{VRegNode}
use Rattle.regalloc2_parts.specs.Links.{IsRing, changed, walked_links}

abbrev pub nexts : List VRegNode → List ℕ
nexts nodes = map (λ n. n.next) nodes

abbrev pub prevs : List VRegNode → List ℕ
prevs nodes = map (λ n. n.prev) nodes

abbrev pub vregs : List VRegNode → List VirtualRegister
vregs nodes = map (λ n. n.vreg) nodes

-- the numbers after the head, up to it
abbrev pub vreg_ring_numbers : List VRegNode → ℕ → List ℕ
vreg_ring_numbers nodes head = walked_links (nexts nodes) head (slice_index (nexts nodes) head)

-- the vregs of some nodes
abbrev pub vregs_at : List VRegNode → List ℕ → List VirtualRegister
vregs_at nodes ns = map (λ n. slice_index_or (vregs nodes) n invalid_vreg) ns

-- the members, the last inserted first
abbrev pub members_of : List VRegNode → ℕ → List VirtualRegister
members_of nodes head = vregs_at nodes (vreg_ring_numbers nodes head)

-- the vregs from one number on, up to the head
abbrev pub rest_from : List VRegNode → ℕ → ℕ → List VirtualRegister
rest_from nodes head at = vregs_at nodes (walked_links (nexts nodes) head at)

-- the head is the last of at most 2^30 + 1 nodes, the links from it on form a ring, and each other node of the ring has its own number
pub record IsVRegList (nodes : List VRegNode) (head : ℕ) : Type 0 where
  pub small : head ≤ vreg_limit
  pub last : length nodes ≡ head + 1
  pub ring : IsRing (nexts nodes) (prevs nodes) head (vreg_ring_numbers nodes head)
  pub named : AllByRecursion (λ n. (slice_index_or (vregs nodes) n invalid_vreg).number ≡ n) (vreg_ring_numbers nodes head)

-- the nodes are a list of vregs, with these members
pub record Lists (nodes : List VRegNode) (head : ℕ) (members : List VirtualRegister) : Type 0 where
  pub list : IsVRegList nodes head
  pub are : members_of nodes head ≡ members

-- how many links differ
abbrev pub vreg_changed_links : List VRegNode → List VRegNode → ℕ
vreg_changed_links old new = changed (nexts old) (nexts new) + changed (prevs old) (prevs new)
