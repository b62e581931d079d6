use Rattle.std.proofs.Common.{◌≡◌, ◌<◌, false, List, [], length, ap, ◌∙◌, sym, subst, arith, rules, slice_index_or}
use Rattle.std.specs.Prelude.{All, Option, IfNone, IfSome, Contains, find, reverse}
use Rattle.std.proofs.lemmas.List.{get_or_read}
use borrow.Author.Rules.{scaled_Fits}
use Rattle.regalloc2_names.specs.Register.{Register, class_code, has_register}
use Rattle.regalloc2_fastalloc_state.specs.Choice.{chosen}
use Rattle.regalloc2_fastalloc_state.specs.StateParts.{AllocatableRegsValue, IsLeastRecentIn, NoneIsIn, lru_of}
use Rattle.regalloc2_fastalloc_state.proofs.LrusByClass.{found_in, none_free}
use Rattle.regalloc2_fastalloc_state.proofs.allocatable.AllocatableRegs.choose_register.Goals as goal

pub returns-clause-found : goal.returns-clause-found
returns-clause-found g c =
    let lrus : List (List Register) = c.self.inside.lrus.items in
    let lt : c.code.result < length lrus = omega (arith, c.self.invariant.0.three, c.code.ensures.small) in
    let ring : c.index-self-code.result ≡ slice_index_or lrus (class_code c.args.class) [] =
    get_or_read lrus _ _ lt c.index-self-code.is [] ∙ ap (λ k. slice_index_or lrus k []) c.code.ensures.code in
    let P : AllocatableRegsValue → Type 0 = λ t. IfSome c.last.result (λ r. IsLeastRecentIn t c.args.class c.args.available r) in
    let Q : List Register → Type 0 = λ l. IfSome c.last.result (λ r. Contains l r) in
    subst P c.self.view_is
    (found_in (record {
      allocatable = c.self.inside.allocatable;
      lrus = lrus;
      fixed_stack = c.self.inside.fixed_stack;
      dedicated_scratch = c.self.inside.dedicated_scratch;
    }) c.args.class c.args.available c.last.result c.self.invariant.0
    (subst Q (sym c.index-self-code.is ∙ ring) c.last.ensures.member) c.last.ensures.in_set)

pub returns-clause-chosen : goal.returns-clause-chosen
unfolding chosen
returns-clause-chosen g c =
    let lrus : List (List Register) = c.self.inside.lrus.items in
    let lt : c.code.result < length lrus = omega (arith, c.self.invariant.0.three, c.code.ensures.small) in
    let ring : c.index-self-code.result ≡ slice_index_or lrus (class_code c.args.class) [] =
    get_or_read lrus _ _ lt c.index-self-code.is [] ∙ ap (λ k. slice_index_or lrus k []) c.code.ensures.code in
    let found : List Register → Option Register = λ l. find (has_register c.args.available) (reverse l) in
    c.last.ensures.oldest ∙ ap found (sym c.index-self-code.is ∙ ring ∙ ap (λ (t : AllocatableRegsValue). lru_of t c.args.class) c.self.view_is)

pub returns-clause-none : goal.returns-clause-none
returns-clause-none g c =
    let lrus : List (List Register) = c.self.inside.lrus.items in
    let lt : c.code.result < length lrus = omega (arith, c.self.invariant.0.three, c.code.ensures.small) in
    let ring : c.index-self-code.result ≡ slice_index_or lrus (class_code c.args.class) [] =
    get_or_read lrus _ _ lt c.index-self-code.is [] ∙ ap (λ k. slice_index_or lrus k []) c.code.ensures.code in
    let P : AllocatableRegsValue → Type 0 = λ t. IfNone c.last.result (NoneIsIn t c.args.class c.args.available) in
    let Q : List Register → Type 0 = λ l. IfNone c.last.result (All (λ r. has_register c.args.available r ≡ false) l) in
    subst P c.self.view_is
    (none_free (record {
      allocatable = c.self.inside.allocatable;
      lrus = lrus;
      fixed_stack = c.self.inside.fixed_stack;
      dedicated_scratch = c.self.inside.dedicated_scratch;
    }) c.args.class c.args.available c.last.result c.self.invariant.0 (subst Q (sym c.index-self-code.is ∙ ring) c.last.ensures.none))

pub bounds-self-inside-code : goal.bounds-self-inside-code
bounds-self-inside-code g c = omega (arith, c.self.invariant.0.three, c.code.ensures.small)

pub offset_bounds-self-inside-code : goal.offset_bounds-self-inside-code
offset_bounds-self-inside-code g c = scaled_Fits c.code.result 3 _ c.code.ensures.small (search rules)
