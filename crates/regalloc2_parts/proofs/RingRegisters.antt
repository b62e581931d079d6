-- The registers that a ring's nodes stand for.
use Rattle.std.proofs.Common.{ℕ, zero, suc, ◌≡◌, ◌-◌, ◌<◌, ◌≤◌, ◌∙◌, refl, arith, sym, ap, subst}
use Rattle.std.proofs.Common.{List, [], ◌∷◌, ◌++◌, Bool, true, false, not, cond, nat_eq, length}
use Rattle.std.specs.Prelude.{Contains, filter, map, reverse, slice_get, Some}
use Rattle.std.specs.List.{AllByRecursion, IsDistinct}
use Rattle.std.proofs.lemmas.List.{length-append, reverse-append, reverse-reverse}
use Rattle.std.proofs.lemmas.Map.Keys.{IsDistinct-head, IsDistinct-tail, IsDistinct-cons}
use Rattle.regalloc2_index.proofs.Numbers.{nat_eq-self}
use Rattle.regalloc2_names.specs.declared.RegClass.{RegClass}
use Rattle.regalloc2_names.specs.Register.{Register, class_code, is_register}
use Rattle.regalloc2_parts.specs.declared.lru.nodes.LruNode.{LruNode}
use Rattle.regalloc2_parts.specs.Links.{IsFewLinksApart}
use Rattle.regalloc2_parts.specs.RingNodes.{IsLruNodes, IsNodeRing, lru_changed_links, lru_nexts, lru_prevs, named, ring_numbers, ring_registers}
use Rattle.regalloc2_parts.proofs.Numbers.{without}

-- registers of one class with different numbers differ
pub distinct_named : (class : RegClass) (ns : List ℕ) → IsDistinct nat_eq ns → IsDistinct is_register (map (named class) ns)
unfolding IsDistinct
distinct_named class [] d = tt
distinct_named class (n ∷ ns) d =
    IsDistinct-cons is_register (named class n) (map (named class) ns) (apart ns (IsDistinct-head nat_eq n ns d))
    (distinct_named class ns (IsDistinct-tail nat_eq n ns d))
  where
    apart : (ms : List ℕ) → AllByRecursion (λ m. nat_eq n m ≡ false) ms → AllByRecursion (λ r. is_register (named class n) r ≡ false) (map (named class) ms)
    apart [] h = tt
    apart (m ∷ ms) h = (rw (nat_eq-self (class_code class), h.0) refl, apart ms h.1)

-- a register taken out is its number taken out
pub named_without : (class : RegClass) (p : ℕ) (ns : List ℕ) →
    map (named class) (without p ns) ≡ filter (λ r. not (is_register (named class p) r)) (map (named class) ns)
named_without class p [] = refl
named_without class p (n ∷ ns) = rw (nat_eq-self (class_code class)) (by_test (not (nat_eq p n)) (named_without class p ns))
  where
    by_test : (b : Bool) → map (named class) (without p ns) ≡ filter (λ r. not (is_register (named class p) r)) (map (named class) ns) →
        map (named class) (cond b (n ∷ without p ns) (without p ns))
        ≡ cond b (named class n ∷ filter (λ r. not (is_register (named class p) r)) (map (named class) ns))
        (filter (λ r. not (is_register (named class p) r)) (map (named class) ns))
    by_test true h = ap (λ l. named class n ∷ l) h
    by_test false h = h

pub record IsNamed (class : RegClass) (ns : List ℕ) (r : Register) : Type 0 where
  pub of_class : named class r.number ≡ r
  pub there : Contains ns r.number

-- a register named by one of a list of numbers is of the class, and has one of the numbers
pub member_named : (class : RegClass) (ns : List ℕ) (r : Register) → Contains (map (named class) ns) r → IsNamed class ns r
member_named class [] r (k, less, at) = absurd (omega arith)
member_named class (n ∷ ns) r (zero, less, at) = record {
  of_class = ap (λ (q : Register). named class q.number) (sym at) ∙ at;
  there = (0, omega arith, ap (λ (q : Register). q.number) at);
}
member_named class (n ∷ ns) r (suc k, less, at) =
    let h = member_named class ns r (k, omega arith, at) in
    record { of_class = h.of_class; there = (suc h.there.0, omega (arith, h.there.1), h.there.2) }

-- where a ring has a register, it has nodes
pub has_nodes : (nodes : List LruNode) (h : ℕ) (class : RegClass) (r : Register) → Contains (ring_registers nodes h class) r → 0 < length nodes
has_nodes [] h class r (k, less, at) = absurd (omega arith)
has_nodes (node ∷ nodes) h class r mem = omega arith

-- a ring's registers are the registers of its numbers, where there are nodes
pub registers_are : (nodes : List LruNode) (h : ℕ) (class : RegClass) → 0 < length nodes →
    ring_registers nodes h class ≡ map (named class) (ring_numbers nodes h)
registers_are [] h class some = absurd (omega arith)
registers_are (node ∷ nodes) h class some = refl

-- without nodes there are no registers
pub no_registers : (nodes : List LruNode) (h : ℕ) (class : RegClass) → length nodes ≡ 0 → ring_registers nodes h class ≡ []
no_registers [] h class none = refl
no_registers (node ∷ nodes) h class none = absurd (omega arith)

-- no register is twice in a ring
pub registers_distinct : (nodes : List LruNode) (h : ℕ) (class : RegClass) → IsLruNodes nodes h → IsDistinct is_register (ring_registers nodes h class)
unfolding IsDistinct
registers_distinct [] h class lru = tt
registers_distinct (node ∷ nodes) h class lru = distinct_named class (ring_numbers (node ∷ nodes) h) (lru.ring (omega arith)).distinct

-- the member that was poked
pub member_number : (nodes : List LruNode) (h : ℕ) (class : RegClass) (r : Register) → Contains (ring_registers nodes h class) r →
    IsNamed class (ring_numbers nodes h) r
member_number nodes h class r mem =
    member_named class (ring_numbers nodes h) r (rw (registers_are nodes h class (has_nodes nodes h class r mem)) at mem)

-- where a ring's numbers are the old ones with one at the front, so are its registers
pub poked_registers : (old new : List LruNode) (h k : ℕ) (class : RegClass) (r : Register) → Contains (ring_registers old h class) r →
    length new ≡ length old → ring_numbers new k ≡ r.number ∷ without r.number (ring_numbers old h) →
    ring_registers new k class ≡ r ∷ filter (λ q. not (is_register r q)) (ring_registers old h class)
poked_registers old new h k class r mem long e =
    let some = has_nodes old h class r mem in
    let m = member_number old h class r mem in
    registers_are new k class (omega arith) ∙ ap (λ l. map (named class) l) e
    ∙ rw (registers_are old h class some) (with_name (named class r.number) m.of_class)
  where
    with_name : (q : Register) → q ≡ r → named class r.number ∷ map (named class) (without r.number (ring_numbers old h))
        ≡ r ∷ filter (λ p. not (is_register r p)) (map (named class) (ring_numbers old h))
    with_name q s =
        let m = member_number old h class r mem in
        subst (λ (p : Register). named class r.number ∷ map (named class) (without r.number (ring_numbers old h))
        ≡ p ∷ filter (λ x. not (is_register p x)) (map (named class) (ring_numbers old h))) m.of_class
        (ap (λ l. named class r.number ∷ l) (named_without class r.number (ring_numbers old h)))

-- nodes of an lru, in the same number and in a ring again, are still an lru's
pub still_nodes : (old new : List LruNode) (h k : ℕ) → IsLruNodes old h → length new ≡ length old → IsNodeRing new k → IsLruNodes new k
still_nodes old new h k lru long ring = record { sized = rw long lru.sized; ring = λ _. ring }

-- a list that was turned round ends with what it began with
pub last_of_reverse : (xs ys : List Register) (x : Register) → reverse xs ≡ x ∷ ys → slice_get xs (length xs - 1) ≡ Some x
last_of_reverse xs ys x e =
    let turned : xs ≡ reverse ys ++ x ∷ [] = sym (reverse-reverse xs) ∙ ap (λ l. reverse l) e ∙ reverse-append (x ∷ []) ys in
    let before : length (reverse ys ++ x ∷ []) - 1 ≡ length (reverse ys) = omega (arith, length-append (reverse ys) (x ∷ [])) in
    rw (turned, before) (at_end (reverse ys))
  where
    at_end : (zs : List Register) → slice_get (zs ++ x ∷ []) (length zs) ≡ Some x
    at_end [] = refl
    at_end (z ∷ zs) = at_end zs

-- the numbers of registers that are named by numbers are these
numbers_named : (class : RegClass) (ns : List ℕ) → map (λ r. r.number) (map (named class) ns) ≡ ns
numbers_named class [] = refl
numbers_named class (n ∷ ns) = rw (numbers_named class ns) refl

-- nodes of two rings, as links around the numbers of their registers
pub few_apart : (old new : List LruNode) (h k : ℕ) (class : RegClass) → 0 < length old → length new ≡ length old → IsNodeRing old h → IsNodeRing new k →
    lru_changed_links old new ≤ 6 → IsFewLinksApart 6 (map (λ r. r.number) (ring_registers old h class)) (map (λ r. r.number) (ring_registers new k class))
few_apart old new h k class some long ring turned few =
    rw (
      registers_are old h class some,
      registers_are new k class (omega arith),
      numbers_named class (ring_numbers old h),
      numbers_named class (ring_numbers new k),
    ) (record {
      before = record { nexts = lru_nexts old; prevs = lru_prevs old };
      after = record { nexts = lru_nexts new; prevs = lru_prevs new };
      around_old = ring;
      around_new = turned;
      few = few;
    })
