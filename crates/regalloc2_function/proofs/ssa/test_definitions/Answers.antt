use Rattle.std.proofs.Common.{◌≡◌, length, sym, subst, arith, ◌∙◌, Option, None, refl}
use Rattle.std.proofs.lemmas.Result.{IfErr-weaker}
use Rattle.regalloc2_names.specs.declared.RegAllocError.TheVariants.{Memory}
use Rattle.regalloc2_function.specs.FunctionValue.{FunctionValue}
use Rattle.regalloc2_function.specs.Reasons.{IsDefinitionFault}
use Rattle.regalloc2_function.specs.Inside.TableLength.{CoversDefinitions}
use Rattle.regalloc2_function.proofs.TableDecidesSSA.{only_memory}
use Rattle.std.specs.Prelude.{Some}
use Rattle.regalloc2_function.proofs.ssa.test_definitions.Goals as goal

-- a value that is no `Some` is `None`
only_none : {X : Type 0} (H : Option X → Type 0) → ((x : X) → H (Some x) → ⊥) → (y : Option X) → H y → y ≡ None
only_none H none None h = refl
only_none H none (Some x) h = absurd (none x h)

pub test_over-requires-clause-room : goal.test_over-requires-clause-room
test_over-requires-clause-room g c =
    let same : length c.as_mut_slice.result.now ≡ c.table_length.result = omega (arith, c.as_mut_slice.ensures.len, c.in_ok-defined.ensures.len) in
    subst (CoversDefinitions (g.F.Function.function c.args.f.now)) (sym same) c.table_length.ensures.room

pub returns-clause-accepted : goal.returns-clause-accepted
returns-clause-accepted g c once uses =
    let f : FunctionValue = g.F.Function.function c.args.f.now in
    IfErr-weaker c.test_over.result (IsDefinitionFault f) (λ e. e ≡ Memory) (only_memory f c.requires.follow c.requires.some once uses)
    c.test_over.ensures.refused

pub test_over-requires-clause-some : goal.test_over-requires-clause-some
test_over-requires-clause-some g c = c.requires.some

pub test_over-requires-clause-follow : goal.test_over-requires-clause-follow
test_over-requires-clause-follow g c = c.requires.follow

pub test_over-requires-clause-blank : goal.test_over-requires-clause-blank
test_over-requires-clause-blank g c =
    let same : length c.as_mut_slice.result.now ≡ c.table_length.result = omega (arith, c.as_mut_slice.ensures.len, c.in_ok-defined.ensures.len) in
    rw same (c.as_mut_slice.ensures.value ∙ c.in_ok-defined.ensures.items_if_clones_equal (only_none _ (λ x no. no)))

pub test_over-requires-clause-few : goal.test_over-requires-clause-few
test_over-requires-clause-few g c = omega (arith, c.as_mut_slice.ensures.len, c.in_ok-defined.ensures.len, c.table_length.ensures.few)

pub returns-clause-once : goal.returns-clause-once
returns-clause-once g c = c.test_over.ensures.once

pub returns-clause-uses : goal.returns-clause-uses
returns-clause-uses g c = c.test_over.ensures.uses

pub returns-clause-refused : goal.returns-clause-refused
returns-clause-refused g c = c.test_over.ensures.refused
