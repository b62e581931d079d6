-- Nodes of a list of vregs whose links were changed.
use Rattle.std.proofs.Common.{ℕ, zero, suc, ◌≡◌, ◌≢◌, ◌+◌, ◌<◌, ◌≤◌, ◌∙◌, refl, arith, sym, ap}
use Rattle.std.proofs.Common.{subst, List, [], ◌∷◌, Bool, true, false, not, cond, nat_eq, eqb-true, eq-eqb, length}
use Rattle.std.specs.Prelude.{All, Any, Contains, filter, map, replicate, slice_index, slice_index_or, slice_set}
use Rattle.std.specs.List.{AllByRecursion, IsDistinct}
use Rattle.std.proofs.Math.Seq.{map-set_same}
use Rattle.std.proofs.lemmas.List.{get_or-map, get_or-replicate, get_or_default, map-set}
use Rattle.std.proofs.lemmas.List.{length-map, length-replicate, length-set, get_or-set_same, get_or-set_other}
use Rattle.std.proofs.lemmas.List.Elements.{All-head, All-tail, All-from_recursion}
use Rattle.std.proofs.lemmas.Map.Keys.{IsDistinct-head, IsDistinct-tail}
use Rattle.regalloc2_names.specs.Register.{VirtualRegister, invalid_vreg, vreg_limit}
use Rattle.regalloc2_parts.specs.declared.vregset.VRegNode.{VRegNode}
use Rattle.regalloc2_parts.specs.LiveList.{NamesEachOnce}
use Rattle.regalloc2_parts.specs.Links.{IsFewLinksApart, IsRing, IsWalk, LacksNumber, Leads, changed, walked_links}
use Rattle.regalloc2_parts.specs.VRegNodes.{IsVRegList, Lists, vreg_changed_links, members_of, nexts, vreg_ring_numbers, prevs, rest_from, vregs, vregs_at}
use Rattle.regalloc2_parts.proofs.Numbers.{differs, each_without, flip, lacks, of_member, without}
use Rattle.regalloc2_parts.proofs.Linked.{next_of_member, prev_of_member}
use Rattle.regalloc2_parts.proofs.LinkRings.{IsRing-inserted, IsRing-removed, around, head_links, ring_walked, step, walked-end}
use Rattle.regalloc2_parts.proofs.LinksChanged.{changed-set, changed-trans}

-- the vreg of a node
abbrev vreg_at : List VRegNode → ℕ → VirtualRegister
vreg_at nodes n = slice_index_or (vregs nodes) n invalid_vreg

-- some nodes have their own numbers
abbrev pub AreNamed : List VRegNode → List ℕ → Type 0
AreNamed nodes ns = AllByRecursion (λ n. (slice_index_or (vregs nodes) n invalid_vreg).number ≡ n) ns

lists : (nodes : List VRegNode) (h : ℕ) (xs : List ℕ) (members : List VirtualRegister) → h ≤ vreg_limit → length nodes ≡ h + 1 →
    IsRing (nexts nodes) (prevs nodes) h xs →
    AreNamed nodes xs → vregs_at nodes xs ≡ members → Lists nodes h members
lists nodes h xs members small long ring named e =
    let same : vreg_ring_numbers nodes h ≡ xs = ring_walked (nexts nodes) (prevs nodes) h xs ring in
    record {
      list = record {
        small = small;
        last = long;
        ring = subst (λ l. IsRing (nexts nodes) (prevs nodes) h l) (sym same) ring;
        named = subst (λ l. AreNamed nodes l) (sym same) named;
      };
      are = ap (λ l. vregs_at nodes l) same ∙ e;
    }

-- writing a node leaves all other nodes
vregs_kept : (old new : List VRegNode) (v : ℕ) (vreg : VirtualRegister) (xs : List ℕ) → vregs new ≡ slice_set (vregs old) v vreg → LacksNumber v xs →
    vregs_at new xs ≡ vregs_at old xs
vregs_kept old new v vreg [] e l = refl
vregs_kept old new v vreg (x ∷ xs) e l =
    let here : vreg_at new x ≡ vreg_at old x =
    rw e (get_or-set_other (vregs old) v x vreg invalid_vreg (λ s. let t : nat_eq v x ≡ true = eq-eqb v x (sym s) in cc)) in
    rw (here, vregs_kept old new v vreg xs e l.1) refl

named_kept : (old new : List VRegNode) (v : ℕ) (vreg : VirtualRegister) (xs : List ℕ) → vregs new ≡ slice_set (vregs old) v vreg → LacksNumber v xs →
    AreNamed old xs → AreNamed new xs
named_kept old new v vreg [] e l n = tt
named_kept old new v vreg (x ∷ xs) e l n =
    let here : vreg_at new x ≡ vreg_at old x =
    rw e (get_or-set_other (vregs old) v x vreg invalid_vreg (λ s. let t : nat_eq v x ≡ true = eq-eqb v x (sym s) in cc)) in
    (rw here n.0, named_kept old new v vreg xs e l.1 n.1)

-- two neighbours that were written into their nodes
abbrev pub linked : List VRegNode → ℕ → ℕ → VRegNode → VRegNode → List VRegNode
linked nodes a b d e =
    let x : VRegNode = slice_index_or nodes a d in
    let first : List VRegNode = slice_set nodes a (record { prev = x.prev; next = b; vreg = x.vreg }) in
    let y : VRegNode = slice_index_or first b e in
    slice_set first b (record { prev = a; next = y.next; vreg = y.vreg })

-- linking a before b sets a's link to the next one
pub nexts-linked : (nodes : List VRegNode) (a b : ℕ) (d e : VRegNode) → nexts (linked nodes a b d e) ≡ slice_set (nexts nodes) a b
nexts-linked nodes a b d e =
    let x : VRegNode = slice_index_or nodes a d in
    let first : List VRegNode = slice_set nodes a (record { prev = x.prev; next = b; vreg = x.vreg }) in
    let y : VRegNode = slice_index_or first b e in
    map-set_same (λ (n : VRegNode). n.next) first b (record { prev = a; next = y.next; vreg = y.vreg }) e refl
    ∙ map-set (λ (n : VRegNode). n.next) nodes a (record { prev = x.prev; next = b; vreg = x.vreg })

-- linking a before b sets b's link to the one before
pub prevs-linked : (nodes : List VRegNode) (a b : ℕ) (d e : VRegNode) → prevs (linked nodes a b d e) ≡ slice_set (prevs nodes) b a
prevs-linked nodes a b d e =
    let x : VRegNode = slice_index_or nodes a d in
    let first : List VRegNode = slice_set nodes a (record { prev = x.prev; next = b; vreg = x.vreg }) in
    let y : VRegNode = slice_index_or first b e in
    map-set (λ (n : VRegNode). n.prev) first b (record { prev = a; next = y.next; vreg = y.vreg })
    ∙ ap (λ l. slice_set l b a) (map-set_same (λ (n : VRegNode). n.prev) nodes a (record { prev = x.prev; next = b; vreg = x.vreg }) d refl)

-- linking two nodes leaves the vregs as they are
pub vregs-linked : (nodes : List VRegNode) (a b : ℕ) (d e : VRegNode) → vregs (linked nodes a b d e) ≡ vregs nodes
vregs-linked nodes a b d e =
    let x : VRegNode = slice_index_or nodes a d in
    let first : List VRegNode = slice_set nodes a (record { prev = x.prev; next = b; vreg = x.vreg }) in
    let y : VRegNode = slice_index_or first b e in
    map-set_same (λ (n : VRegNode). n.vreg) first b (record { prev = a; next = y.next; vreg = y.vreg }) e refl
    ∙ map-set_same (λ (n : VRegNode). n.vreg) nodes a (record { prev = x.prev; next = b; vreg = x.vreg }) d refl

-- a node whose vreg was written
pub record IsWritten (old new : List VRegNode) (v : ℕ) (vreg : VirtualRegister) : Type 0 where
  pub nexts_same : nexts new ≡ nexts old
  pub prevs_same : prevs new ≡ prevs old
  pub vregs_set : vregs new ≡ slice_set (vregs old) v vreg

-- writing a node's vreg leaves all links as they are
pub written : (nodes : List VRegNode) (v : ℕ) (vreg : VirtualRegister) (d : VRegNode) →
    IsWritten nodes (slice_set nodes v (record { prev = (slice_index_or nodes v d).prev; next = (slice_index_or nodes v d).next; vreg = vreg })) v vreg
written nodes v vreg d =
    let x : VRegNode = slice_index_or nodes v d in
    record {
      nexts_same = map-set_same (λ (n : VRegNode). n.next) nodes v (record { prev = x.prev; next = x.next; vreg = vreg }) d refl;
      prevs_same = map-set_same (λ (n : VRegNode). n.prev) nodes v (record { prev = x.prev; next = x.next; vreg = vreg }) d refl;
      vregs_set = map-set (λ (n : VRegNode). n.vreg) nodes v (record { prev = x.prev; next = x.next; vreg = vreg });
    }

-- the links of a node, in the lists of links
pub next_at : (nodes : List VRegNode) (k : ℕ) (x : VRegNode) → k < length nodes → x ≡ slice_index_or nodes k x → slice_index (nexts nodes) k ≡ x.next
next_at nodes k x less is = get_or-map (λ (n : VRegNode). n.next) nodes k x 0 less ∙ ap (λ (n : VRegNode). n.next) (sym is)

-- the link of a node to the one before, in the lists of links
pub prev_at : (nodes : List VRegNode) (k : ℕ) (x : VRegNode) → k < length nodes → x ≡ slice_index_or nodes k x → slice_index (prevs nodes) k ≡ x.prev
prev_at nodes k x less is = get_or-map (λ (n : VRegNode). n.prev) nodes k x 0 less ∙ ap (λ (n : VRegNode). n.prev) (sym is)

-- the head's link to the first node, in the lists of links
pub next_of_head : (nodes : List VRegNode) (h : ℕ) (d : VRegNode) → IsVRegList nodes h → slice_index (nexts nodes) h ≡ (slice_index_or nodes h d).next
next_of_head nodes h d list = let last = list.last in get_or-map (λ (n : VRegNode). n.next) nodes h d 0 (omega arith)

-- the head's link leads to a node
pub first_fits : (nodes : List VRegNode) (h : ℕ) (d : VRegNode) → IsVRegList nodes h → (slice_index_or nodes h d).next < length nodes
first_fits nodes h d list =
    rw (next_of_head nodes h d list, length-map nodes (λ (n : VRegNode). n.next)) at (head_links (nexts nodes) (prevs nodes) h (vreg_ring_numbers nodes h)
    list.ring).0

-- each number of the list is a node's
pub member_fits : (nodes : List VRegNode) (h p : ℕ) → IsVRegList nodes h → Contains (vreg_ring_numbers nodes h) p → p < length nodes
member_fits nodes h p list mem =
    rw (length-map nodes (λ (n : VRegNode). n.next)) at
    (of_member (λ (n : ℕ). n < length (nexts nodes)) (vreg_ring_numbers nodes h) p list.ring.below.1 mem)

-- each number of the list is below the head's
pub member_below : (nodes : List VRegNode) (h p : ℕ) → IsVRegList nodes h → Contains (vreg_ring_numbers nodes h) p → p < h
member_below nodes h p list mem =
    let last = list.last in
    let fits = member_fits nodes h p list mem in
    let f : nat_eq h p ≡ false = of_member (λ (n : ℕ). nat_eq h n ≡ false) (vreg_ring_numbers nodes h) p
    (IsDistinct-head nat_eq h (vreg_ring_numbers nodes h) list.ring.distinct) mem in
    let other : h ≢ p = λ s. (let t : nat_eq h p ≡ true = eq-eqb h p s in cc) in
    omega arith

-- the links of a member lead to nodes
pub neighbours_fit : (nodes : List VRegNode) (h p : ℕ) (x : VRegNode) → IsVRegList nodes h → Contains (vreg_ring_numbers nodes h) p →
    x ≡ slice_index_or nodes p x →
    (x.prev < length nodes) × (x.next < length nodes)
neighbours_fit nodes h p x list mem is =
    let P : ℕ → Type 0 = λ n. n < length (nexts nodes) in
    let xs = vreg_ring_numbers nodes h in
    let ring = list.ring in
    let fits = member_fits nodes h p list mem in
    let long : length (nexts nodes) ≡ length nodes = length-map nodes (λ (n : VRegNode). n.next) in
    let before = prev_of_member P (nexts nodes) (prevs nodes) h xs h p ring.leads ring.below.0 ring.below.1 mem in
    let after = next_of_member P (nexts nodes) (prevs nodes) h xs h p ring.leads ring.below.1 ring.below.0 mem in
    (rw (prev_at nodes p x fits is, long) at before, rw (next_at nodes p x fits is, long) at after)

-- two nodes are linked, the one behind the other
pub record AreLinkedTo (old new : List VRegNode) (from to : ℕ) : Type 0 where
  pub nexts : nexts new ≡ slice_set (nexts old) from to
  pub prevs : prevs new ≡ slice_set (prevs old) to from
  pub vregs : vregs new ≡ vregs old

-- one more vreg in the list, behind the head
pub node_inserted : (old written mid new : List VRegNode) (h k : ℕ) (vreg : VirtualRegister) (d : VRegNode) → IsVRegList old h → k ≡ vreg.number → k < h →
    All (λ n. n ≢ k) (vreg_ring_numbers old h) → IsWritten old written k vreg → AreLinkedTo written mid k (slice_index_or old h d).next →
    AreLinkedTo mid new h k →
    Lists new h (vreg ∷ members_of old h)
node_inserted old written mid new h k vreg d list is low absent w to_first to_it =
    let r = (slice_index_or old h d).next in
    let xs = vreg_ring_numbers old h in
    let wide : length (nexts old) ≡ length old = length-map old (λ (n : VRegNode). n.next) in
    let room : length (vregs old) ≡ length old = length-map old (λ (n : VRegNode). n.vreg) in
    let last = list.last in
    let lk : LacksNumber k xs = lacks k xs absent in
    let fr : r < length (nexts old) = rw wide (first_fits old h d list) in
    let ring = IsRing-inserted (nexts old) (prevs old) h xs k r list.ring (differs k h (λ s. let b : h ≡ k = s in omega arith), lk) (omega arith)
    (next_of_head old h d list) fr in
    let vregs_are : vregs new ≡ slice_set (vregs old) k vreg = to_it.vregs ∙ to_first.vregs ∙ w.vregs_set in
    let here : vreg_at new k ≡ vreg = rw vregs_are (get_or-set_same (vregs old) k vreg invalid_vreg (omega arith)) in
    let long : length new ≡ h + 1 =
    sym (length-map new (λ (n : VRegNode). n.vreg)) ∙ ap (λ l. length l) vregs_are ∙ length-set (vregs old) k vreg ∙ room ∙ last in
    let nexts_are : nexts new ≡ slice_set (slice_set (nexts old) k r) h k =
    to_it.nexts ∙ ap (λ l. slice_set l h k) (to_first.nexts ∙ ap (λ l. slice_set l k r) w.nexts_same) in
    let prevs_are : prevs new ≡ slice_set (slice_set (prevs old) r k) k h =
    to_it.prevs ∙ ap (λ l. slice_set l k h) (to_first.prevs ∙ ap (λ l. slice_set l r k) w.prevs_same) in
    lists new h (k ∷ xs) (vreg ∷ members_of old h) list.small long (rw (nexts_are, prevs_are) ring)
    (ap (λ (w : VirtualRegister). w.number) here ∙ sym is, named_kept old new k vreg xs vregs_are lk list.named)
    (rw (here, vregs_kept old new k vreg xs vregs_are lk) refl)

-- writing a vreg changes no link
pub changes_written : (old written new : List VRegNode) (k : ℕ) (vreg : VirtualRegister) (m : ℕ) → IsWritten old written k vreg →
    vreg_changed_links written new ≤ m →
    vreg_changed_links old new ≤ m
changes_written old written new k vreg m w h =
    subst (λ l. changed l (nexts new) + changed (prevs old) (prevs new) ≤ m) w.nexts_same
    (subst (λ l. changed (nexts written) (nexts new) + changed l (prevs new) ≤ m) w.prevs_same h)

-- the order of two numbers doesn't matter to a test whether they are equal
symmetric : (m n : ℕ) → nat_eq m n ≡ nat_eq n m
symmetric m n = by_answer (nat_eq m n) refl
  where
    by_answer : (b : Bool) → nat_eq m n ≡ b → b ≡ nat_eq n m
    by_answer true e = sym (eq-eqb n m (sym (eqb-true m n e)))
    by_answer false e = sym (flip m n e)

vregs_without : (nodes : List VRegNode) (p : ℕ) (xs : List ℕ) → AreNamed nodes xs →
    vregs_at nodes (without p xs) ≡ filter (λ v. not (nat_eq v.number p)) (vregs_at nodes xs)
vregs_without nodes p [] n = refl
vregs_without nodes p (x ∷ xs) n =
    rw (n.0, symmetric x p) (by_test (not (nat_eq p x)) (vregs_without nodes p xs n.1))
  where
    by_test : (b : Bool) → vregs_at nodes (without p xs) ≡ filter (λ v. not (nat_eq v.number p)) (vregs_at nodes xs) →
        vregs_at nodes (cond b (x ∷ without p xs) (without p xs))
        ≡ cond b (vreg_at nodes x ∷ filter (λ v. not (nat_eq v.number p)) (vregs_at nodes xs)) (filter (λ v. not (nat_eq v.number p)) (vregs_at nodes xs))
    by_test true e = ap (λ l. vreg_at nodes x ∷ l) e
    by_test false e = e

-- once a member's two neighbours are linked, the list has all other members
pub node_removed : (old new : List VRegNode) (h p : ℕ) (x : VRegNode) → IsVRegList old h → Contains (vreg_ring_numbers old h) p → x ≡ slice_index_or old p x →
    nexts new ≡ slice_set (nexts old) x.prev x.next → prevs new ≡ slice_set (prevs old) x.next x.prev → vregs new ≡ vregs old →
    Lists new h (filter (λ v. not (nat_eq v.number p)) (members_of old h))
node_removed old new h p x list mem is e f g =
    let xs = vreg_ring_numbers old h in
    let fits = member_fits old h p list mem in
    let ring = IsRing-removed (nexts old) (prevs old) h xs p x.prev x.next list.ring mem (prev_at old p x fits is) (next_at old p x fits is) in
    let long : length new ≡ h + 1 =
    sym (length-map new (λ (n : VRegNode). n.vreg)) ∙ ap (λ l. length l) g ∙ length-map old (λ (n : VRegNode). n.vreg) ∙ list.last in
    let named : AreNamed old (without p xs) = each_without (λ (n : ℕ). (vreg_at old n).number ≡ n) p xs list.named in
    lists new h (without p xs) (filter (λ v. not (nat_eq v.number p)) (members_of old h)) list.small long (rw (e, f) ring) (rw g named)
    (rw g (vregs_without old p xs list.named))

-- changes
pub link_changes : (old new : List VRegNode) (a b : ℕ) → nexts new ≡ slice_set (nexts old) a b → prevs new ≡ slice_set (prevs old) b a →
    vreg_changed_links old new ≤ 2
link_changes old new a b e f =
    let n : changed (nexts old) (nexts new) ≤ 1 = rw e (changed-set (nexts old) a b) in
    let p : changed (prevs old) (prevs new) ≤ 1 = rw f (changed-set (prevs old) b a) in
    omega arith

-- two steps change at most as many links as each of them does, added up
pub changes_added : (old mid new : List VRegNode) (m n : ℕ) → length mid ≡ length old → length new ≡ length mid → vreg_changed_links old mid ≤ m →
    vreg_changed_links mid new ≤ n → vreg_changed_links old new ≤ m + n
changes_added old mid new m n e f g h =
    let nx = changed-trans (nexts old) (nexts mid) (nexts new)
    (rw (length-map old (λ (n : VRegNode). n.next), length-map mid (λ (n : VRegNode). n.next)) (sym e))
    (rw (length-map mid (λ (n : VRegNode). n.next), length-map new (λ (n : VRegNode). n.next)) (sym f)) in
    let pv = changed-trans (prevs old) (prevs mid) (prevs new)
    (rw (length-map old (λ (n : VRegNode). n.prev), length-map mid (λ (n : VRegNode). n.prev)) (sym e))
    (rw (length-map mid (λ (n : VRegNode). n.prev), length-map new (λ (n : VRegNode). n.prev)) (sym f)) in
    omega arith

-- the members' numbers
numbers_of : (nodes : List VRegNode) (xs : List ℕ) → AreNamed nodes xs → map (λ v. v.number) (vregs_at nodes xs) ≡ xs
numbers_of nodes [] n = refl
numbers_of nodes (x ∷ xs) n = rw (n.0, numbers_of nodes xs n.1) refl

-- no two members have one number, and each number is below the head's
pub proper : (nodes : List VRegNode) (h : ℕ) → IsVRegList nodes h → NamesEachOnce (members_of nodes h) h
proper nodes h list =
    let xs = vreg_ring_numbers nodes h in
    record {
      distinct = rw (numbers_of nodes xs list.named) (IsDistinct-tail nat_eq h xs list.ring.distinct);
      below = All-from_recursion (λ (v : VirtualRegister). v.number < h) (vregs_at nodes xs)
          (each_below xs list.named list.ring.below.1 (IsDistinct-head nat_eq h xs list.ring.distinct));
    }
  where
    each_below : (ys : List ℕ) → AreNamed nodes ys → AllByRecursion (λ n. n < length (nexts nodes)) ys → LacksNumber h ys →
        AllByRecursion (λ v. v.number < h) (vregs_at nodes ys)
    each_below [] n b l = tt
    each_below (y ∷ ys) n b l =
        let wide : length (nexts nodes) ≡ length nodes = length-map nodes (λ (n : VRegNode). n.next) in
        let last = list.last in
        let low : y < length (nexts nodes) = b.0 in
        let other : h ≢ y = λ s. (let t : nat_eq h y ≡ true = eq-eqb h y s in let f : nat_eq h y ≡ false = l.0 in cc) in
        let here : y < h = omega arith in
        (rw n.0 here, each_below ys n.1 b.1 l.1)

-- where no member has a number, the list of numbers lacks it
pub absent_numbers : (nodes : List VRegNode) (h k : ℕ) → IsVRegList nodes h → All (λ v. v.number ≢ k) (members_of nodes h) →
    All (λ n. n ≢ k) (vreg_ring_numbers nodes h)
absent_numbers nodes h k list absent = All-from_recursion (λ (n : ℕ). n ≢ k) (vreg_ring_numbers nodes h) (each (vreg_ring_numbers nodes h) list.named absent)
  where
    each : (ys : List ℕ) → AreNamed nodes ys → All (λ v. v.number ≢ k) (vregs_at nodes ys) → AllByRecursion (λ n. n ≢ k) ys
    each [] n a = tt
    each (y ∷ ys) n a = (
      λ s. All-head (λ (v : VirtualRegister). v.number ≢ k) (vreg_at nodes y) (vregs_at nodes ys) a (n.0 ∙ s),
      each ys n.1 (All-tail (λ (v : VirtualRegister). v.number ≢ k) (vreg_at nodes y) (vregs_at nodes ys) a),
    )

-- the number of a member is in the list of numbers
pub member_number : (nodes : List VRegNode) (h k : ℕ) → IsVRegList nodes h → Any (λ v. v.number ≡ k) (members_of nodes h) →
    Contains (vreg_ring_numbers nodes h) k
member_number nodes h k list (i, v, less, at, e) = there (vreg_ring_numbers nodes h) list.named i v less at e
  where
    there : (ys : List ℕ) → AreNamed nodes ys → (i : ℕ) (v : VirtualRegister) → i < length (vregs_at nodes ys) → slice_index_or (vregs_at nodes ys) i v ≡ v →
        v.number ≡ k → Contains ys k
    there [] n i v less at e = absurd (omega arith)
    there (y ∷ ys) n zero v less at e = (0, omega arith, sym n.0 ∙ ap (λ (w : VirtualRegister). w.number) at ∙ e)
    there (y ∷ ys) n (suc i) v less at e = let m = there ys n.1 i v (omega arith) at e in (suc m.0, omega (arith, m.1), m.2)

-- a new list
pub new_list : (nodes : List VRegNode) (h : ℕ) (node : VRegNode) → h ≤ vreg_limit → nodes ≡ replicate (h + 1) node → node.prev ≡ h → node.next ≡ h →
    Lists nodes h []
unfolding Leads IsDistinct
new_list nodes h node small e prev next =
    let long : length nodes ≡ h + 1 = ap (λ l. length l) e ∙ length-replicate (h + 1) node in
    let fits : h < length nodes = omega arith in
    let there : slice_index_or nodes h node ≡ node = rw e (get_or-replicate (h + 1) h node node (omega arith)) in
    lists nodes h [] [] small long
    (record {
      leads = (next_at nodes h node fits (sym there) ∙ next, prev_at nodes h node fits (sym there) ∙ prev);
      distinct = (tt, tt);
      below = (rw (length-map nodes (λ (n : VRegNode). n.next)) fits, tt);
      long = length-map nodes (λ (n : VRegNode). n.prev) ∙ sym (length-map nodes (λ (n : VRegNode). n.next));
    })
    tt refl

-- walks
pub iter_begins : (nodes : List VRegNode) (h : ℕ) (x : VRegNode) → IsVRegList nodes h → x ≡ slice_index_or nodes h x →
    IsWalk (nexts nodes) h x.next (walked_links (nexts nodes) h x.next)
iter_begins nodes h x list is =
    let last = list.last in
    let e = next_at nodes h x (omega arith) is in
    subst (λ (i : ℕ). IsWalk (nexts nodes) h i (walked_links (nexts nodes) h i)) e (around (nexts nodes) (prevs nodes) h (vreg_ring_numbers nodes h) list.ring)

-- a walk from the head on has all members before it
pub iter_members : (nodes : List VRegNode) (h : ℕ) (x : VRegNode) → IsVRegList nodes h → x ≡ slice_index_or nodes h x →
    rest_from nodes h x.next ≡ members_of nodes h
iter_members nodes h x list is =
    let last = list.last in
    ap (λ (i : ℕ). rest_from nodes h i) (sym (next_at nodes h x (omega arith) is))

-- a walk that is back at the head has none left
pub iter_end : (nodes : List VRegNode) (h at : ℕ) → at ≡ h → rest_from nodes h at ≡ []
iter_end nodes h at e = ap (λ l. vregs_at nodes l) (walked-end (nexts nodes) h at e)

pub record IterSteps (nodes : List VRegNode) (h at : ℕ) (x : VRegNode) : Type 0 where
  pub left : rest_from nodes h at ≡ x.vreg ∷ rest_from nodes h x.next
  pub proper : IsWalk (nexts nodes) h x.next (walked_links (nexts nodes) h x.next)

-- a walk that isn't at the head is at a node
pub at_node : (nodes : List VRegNode) (h at : ℕ) → IsWalk (nexts nodes) h at (walked_links (nexts nodes) h at) → at ≢ h → at < length nodes
at_node nodes h at w other = rw (length-map nodes (λ (n : VRegNode). n.next)) at (step (nexts nodes) h at w other).below

iter_step : (nodes : List VRegNode) (h at : ℕ) (x : VRegNode) → IsWalk (nexts nodes) h at (walked_links (nexts nodes) h at) → at ≢ h →
    x ≡ slice_index_or nodes at x → IterSteps nodes h at x
iter_step nodes h at x w other is =
    let s = step (nexts nodes) h at w other in
    let fits = at_node nodes h at w other in
    let e = next_at nodes at x fits is in
    let here : slice_index_or (vregs nodes) at invalid_vreg ≡ x.vreg =
    get_or-map (λ (n : VRegNode). n.vreg) nodes at x invalid_vreg fits ∙ ap (λ (n : VRegNode). n.vreg) (sym is) in
    record {
      left = ap (λ l. vregs_at nodes l) s.first ∙ rw (here, e) refl;
      proper = subst (λ (i : ℕ). IsWalk (nexts nodes) h i (walked_links (nexts nodes) h i)) e s.rest;
    }

-- a walk that isn't at the head passes a member and goes on to the next
pub iter_steps : (nodes : List VRegNode) (h at : ℕ) (d : VRegNode) → IsWalk (nexts nodes) h at (walked_links (nexts nodes) h at) → at ≢ h →
    IterSteps nodes h at (slice_index_or nodes at d)
iter_steps nodes h at d w other =
    iter_step nodes h at (slice_index_or nodes at d) w other (get_or_default nodes at d (slice_index_or nodes at d) (at_node nodes h at w other))

-- whether there is none
pub none_left : (nodes : List VRegNode) (h : ℕ) (x : VRegNode) → IsVRegList nodes h → x ≡ slice_index_or nodes h x →
    nat_eq x.next h ≡ nat_eq (length (members_of nodes h)) 0
none_left nodes h x list is = rw (← iter_members nodes h x list is) (by_answer (nat_eq x.next h) refl)
  where
    by_answer : (b : Bool) → nat_eq x.next h ≡ b → b ≡ nat_eq (length (rest_from nodes h x.next)) 0
    by_answer true e = rw (iter_end nodes h x.next (eqb-true x.next h e)) refl
    by_answer false e =
        let other : x.next ≢ h = λ s. (let t : nat_eq x.next h ≡ true = eq-eqb x.next h s in cc) in
        let s = step (nexts nodes) h x.next (iter_begins nodes h x list is) other in
        let some : length (rest_from nodes h x.next) ≢ 0 = λ z. (let e : length (rest_from nodes h x.next)
        ≡ suc (length (vregs_at nodes (walked_links (nexts nodes) h (slice_index (nexts nodes) x.next)))) = ap (λ l. length (vregs_at nodes l)) s.first in
        absurd (omega arith)) in
        sym (differs (length (rest_from nodes h x.next)) 0 (λ z. some (sym z)))

-- nodes of two lists, as links around the head and the numbers of their members
pub few_apart : (old new : List VRegNode) (h most : ℕ) → IsVRegList old h → IsVRegList new h → vreg_changed_links old new ≤ most →
    IsFewLinksApart most (h ∷ map (λ v. v.number) (members_of old h)) (h ∷ map (λ v. v.number) (members_of new h))
few_apart old new h most list changed few =
    rw (numbers_of old (vreg_ring_numbers old h) list.named, numbers_of new (vreg_ring_numbers new h) changed.named) (record {
      before = record { nexts = nexts old; prevs = prevs old };
      after = record { nexts = nexts new; prevs = prevs new };
      around_old = list.ring;
      around_new = changed.ring;
      few = few;
    })
