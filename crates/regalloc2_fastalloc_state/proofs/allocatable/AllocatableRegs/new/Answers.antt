use Rattle.std.proofs.Common.{ℕ, ◌≡◌, ◌<◌, inl, inr, rules, slice_index, List, Bool, true, ap, ◌∙◌, sym, subst}
use Rattle.std.specs.Prelude.{◌||◌, ◌↔◌, Contains}
use Rattle.regalloc2_names.specs.declared.RegClass.{RegClass}
use Rattle.regalloc2_names.specs.declared.RegClass.TheVariants.{Int, Float, Vector}
use Rattle.regalloc2_names.specs.declared.sets.PRegSet.{PRegSet}
use Rattle.regalloc2_names.specs.Register.{Register, has_register}
use Rattle.regalloc2_names.specs.Listed.{has_register-small}
use Rattle.regalloc2_function.specs.Machine.{is_allocatable}
use Rattle.regalloc2_function.specs.Views.{machine_of}
use Rattle.regalloc2_fastalloc_state.proofs.LrusOfMachine.{IsUnion, by_class, rings_of, split_from, in_union, three_items}
use Rattle.regalloc2_fastalloc_state.proofs.allocatable.AllocatableRegs.new.Goals as goal

pub invariant_of-result : goal.invariant_of-result
invariant_of-result g c =
    let env = machine_of c.args.env.now in
    let int : PRegSet = c.allocatable-int.result in
    let float : PRegSet = c.allocatable-float.result in
    let vector : PRegSet = c.allocatable-vector.result in
    let u : IsUnion c.bitor-2.result int float vector = record {
      same = λ r. c.bitor-2.ensures r ∙ ap (λ (b : Bool). b || has_register vector r) (c.bitor.ensures r);
      int_class = λ r h. c.requires Int r (sym (c.allocatable-int.ensures r) ∙ h);
      float_class = λ r h. c.requires Float r (sym (c.allocatable-float.ensures r) ∙ h);
      vector_class = λ r h. c.requires Vector r (sym (c.allocatable-vector.ensures r) ∙ h);
    } in (
      rings_of c.bitor-2.result int float vector c.in_ok-lrus.lrus.items u c.in_ok-lrus.ensures.ok,
      split_from c.bitor-2.result int float vector u,
      λ r h. has_register-small c.from_slice.result (λ i. search rules) r h,
    )

pub returns-clause-ok : goal.returns-clause-ok
returns-clause-ok g c = λ r lt h.
    let env = machine_of c.args.env.now in
    let int : PRegSet = c.allocatable-int.result in
    let float : PRegSet = c.allocatable-float.result in
    let vector : PRegSet = c.allocatable-vector.result in
    let u : IsUnion c.bitor-2.result int float vector = record {
      same = λ q. c.bitor-2.ensures q ∙ ap (λ (b : Bool). b || has_register vector q) (c.bitor.ensures q);
      int_class = λ q x. c.requires Int q (sym (c.allocatable-int.ensures q) ∙ x);
      float_class = λ q x. c.requires Float q (sym (c.allocatable-float.ensures q) ∙ x);
      vector_class = λ q x. c.requires Vector q (sym (c.allocatable-vector.ensures q) ∙ x);
    } in
    let P : RegClass → Type 0 = λ k. is_allocatable env k r ≡ true in
    by_class c.bitor-2.result int float vector (is_allocatable env r.class r ≡ true) r u h
    (λ x. subst P (sym (u.int_class r x)) (sym (c.allocatable-int.ensures r) ∙ x))
    (λ x. subst P (sym (u.float_class r x)) (sym (c.allocatable-float.ensures r) ∙ x))
    (λ x. subst P (sym (u.vector_class r x)) (sym (c.allocatable-vector.ensures r) ∙ x))

pub returns-clause-small : goal.returns-clause-small
returns-clause-small g c =
    let every_fits : (i : ℕ) → slice_index c.bitor-2.result.bits i < 18446744073709551616 = λ i. search rules in
    let fixed_fits : (i : ℕ) → slice_index c.from_slice.result.bits i < 18446744073709551616 = λ i. search rules in
    λ r h. elim h [
      | inl a ↦ has_register-small c.bitor-2.result every_fits r a
      | inr b ↦ has_register-small c.from_slice.result fixed_fits r b
    ]

pub returns-clause-all : goal.returns-clause-all
returns-clause-all g c = λ r h.
    let env = machine_of c.args.env.now in
    let int : PRegSet = c.allocatable-int.result in
    let float : PRegSet = c.allocatable-float.result in
    let vector : PRegSet = c.allocatable-vector.result in
    in_union c.bitor-2.result int float vector (λ q. c.bitor-2.ensures q ∙ ap (λ (b : Bool). b || has_register vector q) (c.bitor.ensures q)) r
    (λ e. c.allocatable-int.ensures r ∙ ap (λ (k : RegClass). is_allocatable env k r) (sym e) ∙ h)
    (λ e. c.allocatable-float.ensures r ∙ ap (λ (k : RegClass). is_allocatable env k r) (sym e) ∙ h)
    (λ e. c.allocatable-vector.ensures r ∙ ap (λ (k : RegClass). is_allocatable env k r) (sym e) ∙ h)

pub returns-clause-lrus : goal.returns-clause-lrus
returns-clause-lrus g c =
    let env = machine_of c.args.env.now in
    let int : PRegSet = c.allocatable-int.result in
    let float : PRegSet = c.allocatable-float.result in
    let vector : PRegSet = c.allocatable-vector.result in
    let u : IsUnion c.bitor-2.result int float vector = record {
      same = λ r. c.bitor-2.ensures r ∙ ap (λ (b : Bool). b || has_register vector r) (c.bitor.ensures r);
      int_class = λ r h. c.requires Int r (sym (c.allocatable-int.ensures r) ∙ h);
      float_class = λ r h. c.requires Float r (sym (c.allocatable-float.ensures r) ∙ h);
      vector_class = λ r h. c.requires Vector r (sym (c.allocatable-vector.ensures r) ∙ h);
    } in
    rings_of c.bitor-2.result int float vector c.in_ok-lrus.lrus.items u c.in_ok-lrus.ensures.ok

pub returns-clause-fixed_stack : goal.returns-clause-fixed_stack
returns-clause-fixed_stack g c = λ r.
    subst (λ (l : List Register). (has_register c.from_slice.result r ≡ true) ↔ Contains l r) c.deref.ensures.value (c.from_slice.ensures r)

pub returns-clause-dedicated_scratch : goal.returns-clause-dedicated_scratch
returns-clause-dedicated_scratch g c =
    three_items c.args.env.now.scratch_by_class c.index-env-0.result c.index-env-1.result c.index-env-2.result (search rules)
