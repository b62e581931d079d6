use Rattle.std.proofs.Common.{◌≡◌, ◌+◌, [], ◌∷◌, take, drop, refl, arith, sym, ◌∙◌}
use Rattle.std.specs.Prelude.{map}
use Rattle.std.proofs.lemmas.List.Elements.{All-push, All-same}
use Rattle.regalloc2_names.specs.Place.{after}
use Rattle.regalloc2_function.specs.Inside.Definitions.{IsUsable, argument_use}
use Rattle.regalloc2_function.proofs.ListsInParts.{map_split, map_more, map_taken}
use Rattle.regalloc2_function.proofs.NotedInParts.{unusable_in_part, unusable_now}
use Rattle.std.proofs.lemmas.Bool.{false≢true}
use Rattle.regalloc2_function.proofs.ssa.test_arguments.Goals as goal

pub returns-then-not-is_usable-clause-err : goal.returns-then-not-is_usable-clause-err
returns-then-not-is_usable-clause-err c =
    let point : c.after-point.result ≡ after c.args.inst = c.after-point.ensures.point (λ e. absurd (omega (arith, c.requires, e))) in
    unusable_in_part c.args.defined.now (map (argument_use c.args.inst) c.args.arguments.now)
    (map (argument_use c.args.inst) (take c.loop-argument.argument-index c.args.arguments.now)) (argument_use c.args.inst c.argument-item.result ∷ [])
    (map (argument_use c.args.inst) (drop (c.loop-argument.argument-index + 1) c.args.arguments.now)) _
    (map_split (argument_use c.args.inst) c.args.arguments.now c.loop-argument.argument-index c.argument-item.result c.loop-argument-test.true
    c.argument-item.is)
    c.loop-argument.invariant (
      argument_use c.args.inst c.argument-item.result,
      refl,
      unusable_now c.args.defined.now (argument_use c.args.inst c.argument-item.result)
          (λ h. false≢true (sym c.if-not-is_usable.true ∙ c.is_usable.ensures.1 (rw point h))),
    )

pub loop-argument-preserved : goal.loop-argument-preserved
loop-argument-preserved c =
    let point : c.after-point.result ≡ after c.args.inst = c.after-point.ensures.point (λ e. absurd (omega (arith, c.requires, e))) in
    All-same (IsUsable c.args.defined.now) _ _ (map_more (argument_use c.args.inst) c.args.arguments.now c.loop-argument.argument-index c.argument-item.result
    c.loop-argument-test.true c.argument-item.is)
    (All-push (IsUsable c.args.defined.now) (map (argument_use c.args.inst) (take c.loop-argument.argument-index c.args.arguments.now))
    (argument_use c.args.inst c.argument-item.result) c.loop-argument.invariant (rw point at (c.is_usable.ensures.0 c.if-not-is_usable.false)))

pub returns-clause-ok : goal.returns-clause-ok
returns-clause-ok c =
    All-same (IsUsable c.args.defined.now) _ _ (map_taken (argument_use c.args.inst) c.args.arguments.now c.loop-argument.argument-index (omega arith))
    c.loop-argument.invariant
