use Rattle.std.proofs.Common.{◌≡◌, ◌<◌, Bool, true, List, [], length, ap, ◌∙◌, refl, sym, subst, arith, rules, slice_index_or}
use Rattle.std.specs.Prelude.{Option, None, Some, IfSome, IfNone, Contains}
use Rattle.std.proofs.lemmas.List.{get_or_read}
use borrow.Author.Rules.{scaled_Fits}
use Rattle.regalloc2_names.specs.Register.{Register, class_code, has_register}
use Rattle.regalloc2_fastalloc_state.specs.Choice.{chosen}
use Rattle.regalloc2_fastalloc_state.specs.StateParts.{AllocatableRegsValue, NoneIsFrom, lru_of}
use Rattle.regalloc2_fastalloc_state.proofs.LrusByClass.{member_in, none_in}
use Rattle.regalloc2_fastalloc_state.proofs.allocatable.AllocatableRegs.first_choice.Given.{Over}
use Rattle.regalloc2_fastalloc_state.proofs.allocatable.AllocatableRegs.first_choice.Goals as goal

-- the LRU list that was indexed is that of the class
indexed : (g : Over) (c : goal.After-oldest g) → c.index-self-code.result ≡ slice_index_or c.self.inside.lrus.items (class_code c.args.class) []
indexed g c =
    let lrus : List (List Register) = c.self.inside.lrus.items in
    let lt : c.code.result < length lrus = omega (arith, c.self.invariant.0.three, c.code.ensures.small) in
    get_or_read lrus _ _ lt c.index-self-code.is [] ∙ ap (λ k. slice_index_or lrus k []) c.code.ensures.code

-- what is chosen if all are available
of_all : (result : Option Register) (order : List Register) → IfSome result (λ r. (test : Register → Bool) → test r ≡ true → chosen test order ≡ Some r) →
    IfNone result (order ≡ []) → result ≡ chosen (λ r. true) order
unfolding chosen
of_all None order first none = sym (ap (chosen (λ r. true)) none)
of_all (Some r) order first none = sym (first (λ r. true) refl)

pub returns-clause-chosen : goal.returns-clause-chosen
unfolding chosen
returns-clause-chosen g c =
    subst (λ (l : List Register). c.oldest.result ≡ chosen (λ r. true) l)
    (sym c.index-self-code.is ∙ indexed g c ∙ ap (λ (t : AllocatableRegsValue). lru_of t c.args.class) c.self.view_is)
    (of_all c.oldest.result _ c.oldest.ensures.first c.oldest.ensures.none)

pub returns-clause-first : goal.returns-clause-first
unfolding chosen
returns-clause-first g c =
    let P : List Register → Type 0 =
    λ l. IfSome c.oldest.result (λ r. (test : Register → Bool) → test r ≡ true → chosen test l ≡ Some r) in
    subst P (sym c.index-self-code.is ∙ indexed g c ∙ ap (λ (t : AllocatableRegsValue). lru_of t c.args.class) c.self.view_is) c.oldest.ensures.first

pub returns-clause-found : goal.returns-clause-found
returns-clause-found g c =
    let P : AllocatableRegsValue → Type 0 =
    λ t. IfSome c.oldest.result (λ r. (r.class ≡ c.args.class) × (r.number < 64) × (has_register t.allocatable r ≡ true)) in
    let Q : List Register → Type 0 = λ l. IfSome c.oldest.result (λ r. Contains l r) in
    subst P c.self.view_is
    (member_in (record {
      allocatable = c.self.inside.allocatable;
      lrus = c.self.inside.lrus.items;
      fixed_stack = c.self.inside.fixed_stack;
      dedicated_scratch = c.self.inside.dedicated_scratch;
    }) c.args.class c.oldest.result c.self.invariant.0 (subst Q (sym c.index-self-code.is ∙ indexed g c) c.oldest.ensures.member))

pub returns-clause-none : goal.returns-clause-none
returns-clause-none g c =
    let P : AllocatableRegsValue → Type 0 = λ t. IfNone c.oldest.result (NoneIsFrom t.allocatable c.args.class 0) in
    let Q : List Register → Type 0 = λ l. IfNone c.oldest.result (l ≡ []) in
    subst P c.self.view_is
    (none_in (record {
      allocatable = c.self.inside.allocatable;
      lrus = c.self.inside.lrus.items;
      fixed_stack = c.self.inside.fixed_stack;
      dedicated_scratch = c.self.inside.dedicated_scratch;
    }) c.args.class c.oldest.result c.self.invariant.0 (subst Q (sym c.index-self-code.is ∙ indexed g c) c.oldest.ensures.none))

pub bounds-self-inside-code : goal.bounds-self-inside-code
bounds-self-inside-code g c = omega (arith, c.self.invariant.0.three, c.code.ensures.small)

pub offset_bounds-self-inside-code : goal.offset_bounds-self-inside-code
offset_bounds-self-inside-code g c = scaled_Fits c.code.result 3 _ c.code.ensures.small (search rules)
