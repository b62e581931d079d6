use Rattle.std.proofs.Common.{ℕ, ◌≡◌, ◌<◌, true, List, [], ◌∷◌, length, sym, ap, ◌∙◌, subst, arith, slice_index_or, rules}
use Rattle.std.specs.Prelude.{Contains, ◌↔◌, filter, not}
use Rattle.std.proofs.lemmas.List.{get_or_read}
use borrow.Author.Rules.{scaled_Fits}
use Rattle.regalloc2_names.specs.Register.{Register, class_code, is_register, has_register}
use Rattle.regalloc2_fastalloc_state.specs.StateParts.{AllocatableRegsValue, lru_of}
use Rattle.regalloc2_fastalloc_state.proofs.LrusByClass.{rings_kept, ring_replaced, other_ring}
use Rattle.regalloc2_fastalloc_state.proofs.allocatable.AllocatableRegs.poke.Given.{Over}
use Rattle.regalloc2_fastalloc_state.proofs.allocatable.AllocatableRegs.poke.Goals as goal

pub poke-requires : goal.poke-requires
poke-requires g c =
    let lrus : List (List Register) = c.self.inside.lrus.items in
    let lt : c.code.result < length lrus = omega (arith, c.self.invariant.0.three, c.code.ensures.small) in
    let ring : c.index-self-code.result ≡ slice_index_or lrus (class_code c.args.preg.class) [] = get_or_read lrus _ _ lt c.index-self-code.is []
    ∙ ap (λ (k : ℕ). slice_index_or lrus k []) (c.code.ensures.code ∙ ap class_code c.class.ensures) in
    let member = subst (λ (t : AllocatableRegsValue). has_register t.allocatable c.args.preg ≡ true) (sym c.self.view_is) c.requires.member in
    subst (λ (l : List Register). Contains l c.args.preg) (sym (sym c.index-self-code.is ∙ ring)) (c.self.invariant.0.all c.args.preg (search rules) member)

pub invariant_of-self : goal.invariant_of-self
invariant_of-self g c =
    let lrus : List (List Register) = c.self.inside.lrus.items in
    let lt : c.code.result < length lrus = omega (arith, c.self.invariant.0.three, c.code.ensures.small) in
    let ring : c.index-self-code.result ≡ slice_index_or lrus c.code.result [] = get_or_read lrus _ _ lt c.index-self-code.is [] in
    let P : List Register → Type 0 = λ l. (r : Register) → Contains c.poke.new.self r ↔ Contains l r in (
      rings_kept c.self.inside.allocatable lrus c.code.result c.poke.new.self lt (subst P (sym c.index-self-code.is ∙ ring) c.poke.ensures.members)
          c.self.invariant.0,
      c.self.invariant.1,
      c.self.invariant.2,
    )

-- the LRU list of the register's class is the one that was indexed
index_is : (g : Over) (c : goal.After-poke g) → c.code.result ≡ class_code c.args.preg.class
index_is g c = c.code.ensures.code ∙ ap class_code c.class.ensures

pub returns-clause-newest : goal.returns-clause-newest
returns-clause-newest g c =
    let lrus : List (List Register) = c.self.inside.lrus.items in
    let lt : c.code.result < length lrus = omega (arith, c.self.invariant.0.three, c.code.ensures.small) in
    let ring : c.index-self-code.result ≡ slice_index_or lrus c.code.result [] = get_or_read lrus _ _ lt c.index-self-code.is [] in
    let moved : List Register → List Register = λ l. c.args.preg ∷ filter (λ r. not (is_register c.args.preg r)) l in
    ring_replaced lrus c.code.result c.poke.new.self c.args.preg.class lt (index_is g c)
    ∙ c.poke.ensures.moved
    ∙ ap moved (sym c.index-self-code.is ∙ ring ∙ ap (λ (k : ℕ). slice_index_or lrus k []) (index_is g c)
    ∙ ap (λ (t : AllocatableRegsValue). lru_of t c.args.preg.class) c.self.view_is)

pub returns-clause-others : goal.returns-clause-others
returns-clause-others g c = λ class other.
    other_ring c.self.inside.lrus.items c.code.result c.poke.new.self c.args.preg.class class (index_is g c) other
    ∙ ap (λ (t : AllocatableRegsValue). lru_of t class) c.self.view_is

pub returns-clause-machine : goal.returns-clause-machine
returns-clause-machine g c = record {
  allocatable = ap (λ (t : AllocatableRegsValue). t.allocatable) c.self.view_is;
  fixed_stack = ap (λ (t : AllocatableRegsValue). t.fixed_stack) c.self.view_is;
  dedicated_scratch = ap (λ (t : AllocatableRegsValue). t.dedicated_scratch) c.self.view_is;
}

pub bounds-self-inside-code : goal.bounds-self-inside-code
bounds-self-inside-code g c = omega (arith, c.self.invariant.0.three, c.code.ensures.small)

pub offset_bounds-self-inside-code : goal.offset_bounds-self-inside-code
offset_bounds-self-inside-code g c = scaled_Fits c.code.result 3 _ c.code.ensures.small (search rules)
