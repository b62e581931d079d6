-- Nodes of a ring of registers whose links were changed.
use Rattle.std.proofs.Common.{ℕ, zero, suc, ◌≡◌, ◌≢◌, ◌+◌, ◌<◌, ◌≤◌, ◌∙◌, refl, arith, sym, ap, subst, List, [], ◌∷◌, ◌++◌, true, false, nat_eq, eq-eqb, inl}
use Rattle.std.proofs.Common.{inr, length}
use Rattle.std.specs.Prelude.{◌⊎◌, All, Contains, slice_index, slice_index_or, slice_set}
use Rattle.std.specs.List.{IsDistinct}
use Rattle.std.proofs.Math.Seq.{map-set_same}
use Rattle.std.proofs.lemmas.Bool.{cases_eq}
use Rattle.std.proofs.lemmas.List.{get_or-map, length-map, map-set}
use Rattle.std.proofs.lemmas.Map.Keys.{IsDistinct-head}
use Rattle.regalloc2_parts.specs.declared.lru.nodes.LruNode.{LruNode}
use Rattle.regalloc2_parts.specs.Links.{IsRing, changed}
use Rattle.regalloc2_parts.specs.RingNodes.{IsNodeRing, IsRingOfNumbers, lru_changed_links, lru_nexts, others, lru_prevs, ring_numbers}
use Rattle.regalloc2_parts.proofs.Numbers.{all_differ, all_kept, differs, gone, lacks, lacks_before, of_member, without}
use Rattle.regalloc2_parts.proofs.Linked.{last_out, next_of_member, prev_of_member}
use Rattle.regalloc2_parts.proofs.LinkRings.{IsRing-appended, IsRing-one, IsRing-removed, IsRing-turned, head_links, ring_walked}
use Rattle.regalloc2_parts.proofs.LinksChanged.{changed-set, changed-same, changed-trans}

-- nodes whose links form a ring of some numbers stand for these
stands_for : (nodes : List LruNode) (h : ℕ) (xs : List ℕ) → IsRing (lru_nexts nodes) (lru_prevs nodes) h xs → IsRingOfNumbers nodes h (h ∷ xs)
stands_for nodes h xs ring =
    let same : others nodes h ≡ xs = ring_walked (lru_nexts nodes) (lru_prevs nodes) h xs ring in
    record { ring = subst (λ l. IsRing (lru_nexts nodes) (lru_prevs nodes) h l) (sym same) ring; are = ap (λ l. h ∷ l) same }

-- the links of a node, in the lists of links
pub next_at : (nodes : List LruNode) (k : ℕ) (d : LruNode) → k < length nodes → slice_index (lru_nexts nodes) k ≡ (slice_index_or nodes k d).next
next_at nodes k d less = get_or-map (λ (n : LruNode). n.next) nodes k d 0 less

-- the link of a node to the one before, in the lists of links
pub prev_at : (nodes : List LruNode) (k : ℕ) (d : LruNode) → k < length nodes → slice_index (lru_prevs nodes) k ≡ (slice_index_or nodes k d).prev
prev_at nodes k d less = get_or-map (λ (n : LruNode). n.prev) nodes k d 0 less

-- the head of a ring is the number of a node
pub head_fits : (nodes : List LruNode) (h : ℕ) → IsNodeRing nodes h → h < length nodes
head_fits nodes h ring = rw (length-map nodes (λ (n : LruNode). n.next)) at ring.below.0

-- two neighbours that were written into their nodes
abbrev pub linked : List LruNode → ℕ → ℕ → LruNode → List LruNode
linked nodes a b d =
    let first : List LruNode = slice_set nodes a (record { prev = (slice_index_or nodes a d).prev; next = b }) in
    slice_set first b (record { prev = a; next = (slice_index_or first b d).next })

-- linking a before b sets a's link to the next one
pub nexts-linked : (nodes : List LruNode) (a b : ℕ) (d : LruNode) → lru_nexts (linked nodes a b d) ≡ slice_set (lru_nexts nodes) a b
nexts-linked nodes a b d =
    let first : List LruNode = slice_set nodes a (record { prev = (slice_index_or nodes a d).prev; next = b }) in
    map-set_same (λ (n : LruNode). n.next) first b (record { prev = a; next = (slice_index_or first b d).next }) d refl
    ∙ map-set (λ (n : LruNode). n.next) nodes a (record { prev = (slice_index_or nodes a d).prev; next = b })

-- linking a before b sets b's link to the one before
pub prevs-linked : (nodes : List LruNode) (a b : ℕ) (d : LruNode) → lru_prevs (linked nodes a b d) ≡ slice_set (lru_prevs nodes) b a
prevs-linked nodes a b d =
    let first : List LruNode = slice_set nodes a (record { prev = (slice_index_or nodes a d).prev; next = b }) in
    map-set (λ (n : LruNode). n.prev) first b (record { prev = a; next = (slice_index_or first b d).next })
    ∙ ap (λ l. slice_set l b a) (map-set_same (λ (n : LruNode). n.prev) nodes a (record { prev = (slice_index_or nodes a d).prev; next = b }) d refl)

-- a number alone
pub one_node_ring : (old new : List LruNode) (h : ℕ) → h < length old → lru_nexts new ≡ slice_set (lru_nexts old) h h →
    lru_prevs new ≡ slice_set (lru_prevs old) h h →
    IsRingOfNumbers new h (h ∷ [])
one_node_ring old new h fits e f =
    let ring = IsRing-one (lru_nexts old) (lru_prevs old) h (rw (length-map old (λ (n : LruNode). n.next)) fits)
    (length-map old (λ (n : LruNode). n.prev) ∙ sym (length-map old (λ (n : LruNode). n.next))) in
    stands_for new h [] (rw (e, f) ring)

-- the head's links lead to nodes
pub oldest_fits : (nodes : List LruNode) (h : ℕ) (d : LruNode) → IsNodeRing nodes h → (slice_index_or nodes h d).prev < length nodes
oldest_fits nodes h d ring =
    let less = (head_links (lru_nexts nodes) (lru_prevs nodes) h (others nodes h) ring).1 in
    rw (prev_at nodes h d (head_fits nodes h ring), length-map nodes (λ (n : LruNode). n.next)) at less

-- one number more
pub node_appended : (old mid new : List LruNode) (h p : ℕ) (d : LruNode) → IsNodeRing old h → All (λ n. n ≢ p) (ring_numbers old h) → p < length old →
    lru_nexts mid ≡ slice_set (lru_nexts old) (slice_index_or old h d).prev p → lru_prevs mid ≡ slice_set (lru_prevs old) p (slice_index_or old h d).prev →
    lru_nexts new ≡ slice_set (lru_nexts mid) p h → lru_prevs new ≡ slice_set (lru_prevs mid) h p → IsRingOfNumbers new h (ring_numbers old h ++ p ∷ [])
node_appended old mid new h p d ring absent fits e f g k =
    let l = (slice_index_or old h d).prev in
    let long : length (lru_nexts old) ≡ length old = length-map old (λ (n : LruNode). n.next) in
    let fl : l < length (lru_nexts old) = rw long (oldest_fits old h d ring) in
    let more = IsRing-appended (lru_nexts old) (lru_prevs old) h (others old h) p l ring (lacks p (ring_numbers old h) absent) (rw long fits)
    (prev_at old h d (head_fits old h ring)) fl in
    stands_for new h (others old h ++ p ∷ []) (rw (g, k, e, f) more)

-- the links of a member lead to nodes
other_than_first : (h : ℕ) (xs : List ℕ) (p : ℕ) → Contains (h ∷ xs) p → p ≢ h → Contains xs p
other_than_first h xs p (zero, less, at) d = absurd (d (sym at))
other_than_first h xs p (suc k, less, at) d = (k, omega arith, at)

-- each number of a ring is a node's
pub member_fits : (nodes : List LruNode) (h p : ℕ) → IsNodeRing nodes h → Contains (ring_numbers nodes h) p → p < length nodes
member_fits nodes h p ring mem =
    rw (length-map nodes (λ (n : LruNode). n.next)) at (of_member (λ (n : ℕ). n < length (lru_nexts nodes)) (ring_numbers nodes h) p ring.below mem)

-- the links of a ring's number, other than the head, lead to nodes
pub neighbours_fit : (nodes : List LruNode) (h p : ℕ) (d : LruNode) → IsNodeRing nodes h → Contains (ring_numbers nodes h) p → p ≢ h →
    ((slice_index_or nodes p d).prev < length nodes) × ((slice_index_or nodes p d).next < length nodes)
neighbours_fit nodes h p d ring mem other =
    let P : ℕ → Type 0 = λ n. n < length (lru_nexts nodes) in
    let xs = others nodes h in
    let inner = other_than_first h xs p mem other in
    let fits = member_fits nodes h p ring mem in
    let long : length (lru_nexts nodes) ≡ length nodes = length-map nodes (λ (n : LruNode). n.next) in
    let before = prev_of_member P (lru_nexts nodes) (lru_prevs nodes) h xs h p ring.leads ring.below.0 ring.below.1 inner in
    let after = next_of_member P (lru_nexts nodes) (lru_prevs nodes) h xs h p ring.leads ring.below.1 ring.below.0 inner in
    (rw (prev_at nodes p d fits, long) at before, rw (next_at nodes p d fits, long) at after)

-- without another number than the head the head stays
pub head_kept : (h : ℕ) (xs : List ℕ) (p : ℕ) → p ≢ h → without p (h ∷ xs) ≡ h ∷ without p xs
head_kept h xs p d = let e : nat_eq p h ≡ false = differs p h (λ s. d (sym s)) in rw e refl

-- one number less
pub node_removed : (old new : List LruNode) (h p : ℕ) (d : LruNode) → IsNodeRing old h → Contains (ring_numbers old h) p → p ≢ h →
    lru_nexts new ≡ slice_set (lru_nexts old) (slice_index_or old p d).prev (slice_index_or old p d).next →
    lru_prevs new ≡ slice_set (lru_prevs old) (slice_index_or old p d).next (slice_index_or old p d).prev →
    IsRingOfNumbers new h (without p (ring_numbers old h))
node_removed old new h p d ring mem other e f =
    let fits = member_fits old h p ring mem in
    let less = IsRing-removed (lru_nexts old) (lru_prevs old) h (others old h) p (slice_index_or old p d).prev (slice_index_or old p d).next ring
    (other_than_first h (others old h) p mem other) (prev_at old p d fits) (next_at old p d fits) in
    rw (head_kept h (others old h) p other) (stands_for new h (without p (others old h)) (rw (e, f) less))

-- what was taken out isn't there
pub taken_out : (p : ℕ) (ns xs : List ℕ) → ns ≡ without p xs → All (λ n. n ≢ p) ns
taken_out p ns xs e = rw e (all_differ p (without p xs) (gone p xs))

-- of distinct numbers none comes twice
pub absent_before : (xs : List ℕ) (p : ℕ) (ys all : List ℕ) → xs ++ p ∷ ys ≡ all → IsDistinct nat_eq all → All (λ n. n ≢ p) xs
absent_before xs p ys all e d = all_differ p xs (lacks_before xs p ys (rw e d))

-- all other numbers stay, without the head and with it
pub head_out : (nodes : List LruNode) (h p : ℕ) → IsNodeRing nodes h → p ≡ h → IsRingOfNumbers nodes h (p ∷ without p (ring_numbers nodes h))
head_out nodes h p ring same =
    let e : nat_eq h h ≡ true = eq-eqb h h refl in
    subst (λ (i : ℕ). IsRingOfNumbers nodes h (i ∷ without i (ring_numbers nodes h))) (sym same)
    (record { ring = ring; are = rw (e, all_kept h (others nodes h) (IsDistinct-head nat_eq h (others nodes h) ring.distinct)) refl })

-- the least recently used number is the last already
pub oldest_last : (nodes : List LruNode) (h p : ℕ) (d : LruNode) → IsNodeRing nodes h → p ≢ h → (slice_index_or nodes h d).prev ≡ p →
    IsRingOfNumbers nodes h (without p (ring_numbers nodes h) ++ p ∷ [])
oldest_last nodes h p d ring other e =
    let last : slice_index (lru_prevs nodes) h ≡ p = prev_at nodes h d (head_fits nodes h ring) ∙ e in
    let parts = last_out (lru_nexts nodes) (lru_prevs nodes) h (others nodes h) h p ring.leads ring.distinct last (differs p h (λ s. other (sym s))) in
    record { ring = ring; are = rw (head_kept h (others nodes h) p other) (ap (λ l. h ∷ l) parts) }

-- with the least recently used number as head
pub node_turned : (nodes : List LruNode) (h : ℕ) (xs : List ℕ) (p : ℕ) → IsRingOfNumbers nodes h (without p (h ∷ xs) ++ p ∷ []) → p ≢ h →
    IsRingOfNumbers nodes p (p ∷ without p (h ∷ xs))
node_turned nodes h xs p of other =
    let kept : without p (h ∷ xs) ≡ h ∷ without p xs = head_kept h xs p other in
    let whole : h ∷ others nodes h ≡ h ∷ (without p xs ++ p ∷ []) = of.are ∙ ap (λ l. l ++ p ∷ []) kept in
    let same : others nodes h ≡ without p xs ++ p ∷ [] = cc in
    rw kept (stands_for nodes p (h ∷ without p xs)
    (IsRing-turned (lru_nexts nodes) (lru_prevs nodes) h (without p xs) p (subst (λ l. IsRing (lru_nexts nodes) (lru_prevs nodes) h l) same of.ring)))

-- the least recently used number as head: it goes from the end to the front
pub oldest_as_head : (nodes : List LruNode) (h p : ℕ) (d : LruNode) → IsNodeRing nodes h → (slice_index_or nodes h d).prev ≡ p →
    IsRingOfNumbers nodes p (p ∷ without p (ring_numbers nodes h))
oldest_as_head nodes h p d ring e = by_place (cases_eq p h)
  where
    by_place : (p ≡ h) ⊎ (p ≢ h) → IsRingOfNumbers nodes p (p ∷ without p (ring_numbers nodes h))
    by_place (inl same) = subst (λ (i : ℕ). IsRingOfNumbers nodes i (p ∷ without p (ring_numbers nodes h))) (sym same) (head_out nodes h p ring same)
    by_place (inr other) = node_turned nodes h (others nodes h) p (oldest_last nodes h p d ring other e) other

-- how many links one change makes differ, and two
pub link_changes : (old new : List LruNode) (a b : ℕ) → lru_nexts new ≡ slice_set (lru_nexts old) a b → lru_prevs new ≡ slice_set (lru_prevs old) b a →
    lru_changed_links old new ≤ 2
link_changes old new a b e f =
    let n : changed (lru_nexts old) (lru_nexts new) ≤ 1 = rw e (changed-set (lru_nexts old) a b) in
    let p : changed (lru_prevs old) (lru_prevs new) ≤ 1 = rw f (changed-set (lru_prevs old) b a) in
    omega arith

-- nodes that stay change no link
pub none_changed : (nodes : List LruNode) → lru_changed_links nodes nodes ≡ 0
none_changed nodes = rw (changed-same (lru_nexts nodes), changed-same (lru_prevs nodes)) refl

-- two steps change at most as many links as each of them does, added up
pub changes_added : (old mid new : List LruNode) (m n : ℕ) → length mid ≡ length old → length new ≡ length mid → lru_changed_links old mid ≤ m →
    lru_changed_links mid new ≤ n → lru_changed_links old new ≤ m + n
changes_added old mid new m n e f g h =
    let nx = changed-trans (lru_nexts old) (lru_nexts mid) (lru_nexts new)
    (rw (length-map old (λ (n : LruNode). n.next), length-map mid (λ (n : LruNode). n.next)) (sym e))
    (rw (length-map mid (λ (n : LruNode). n.next), length-map new (λ (n : LruNode). n.next)) (sym f)) in
    let pv = changed-trans (lru_prevs old) (lru_prevs mid) (lru_prevs new)
    (rw (length-map old (λ (n : LruNode). n.prev), length-map mid (λ (n : LruNode). n.prev)) (sym e))
    (rw (length-map mid (λ (n : LruNode). n.prev), length-map new (λ (n : LruNode). n.prev)) (sym f)) in
    omega arith
