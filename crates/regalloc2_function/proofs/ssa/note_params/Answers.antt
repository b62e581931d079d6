use Rattle.std.proofs.Common.{◌≡◌, ◌+◌, [], ◌∷◌, take, drop, ap, arith}
use Rattle.std.specs.Prelude.{map}
use Rattle.regalloc2_names.specs.Place.{before}
use Rattle.regalloc2_function.specs.Inside.Definitions.NotesDefinitions.{none, more}
use Rattle.regalloc2_function.proofs.ListsInParts.{map_split, map_more}
use Rattle.regalloc2_function.proofs.NotedInParts.{names_in_part, taken_now}
use Rattle.regalloc2_names.specs.declared.RegAllocError.TheVariants.{SSA}
use Rattle.regalloc2_function.proofs.ssa.note_params.Goals as goal
use Rattle.regalloc2_function.specs.Inside.Definitions.{param_definition}

pub loop-param-init : goal.loop-param-init
loop-param-init c = none

pub returns-then-not-note-clause-err : goal.returns-then-not-note-clause-err
returns-then-not-note-clause-err c =
    names_in_part (map (param_definition c.args.first) c.args.params.now)
    (map (param_definition c.args.first) (take c.loop-param.param-index c.args.params.now)) (param_definition c.args.first c.param-item.result ∷ [])
    (map (param_definition c.args.first) (drop (c.loop-param.param-index + 1) c.args.params.now)) _
    (map_split (param_definition c.args.first) c.args.params.now c.loop-param.param-index c.param-item.result c.loop-param-test.true c.param-item.is)
    c.loop-param.invariant (
      param_definition c.args.first c.param-item.result,
      ap (SSA c.param-item.result) c.invalid.ensures,
      taken_now (param_definition c.args.first c.param-item.result) c.if-not-note.ensures.taken,
    )

pub loop-param-preserved : goal.loop-param-preserved
loop-param-preserved c =
    let usable : c.before-usable.result ≡ before c.args.first = c.before-usable.ensures.point (λ e. absurd (omega (arith, c.requires, e))) in
    rw (
      map_more (param_definition c.args.first) c.args.params.now c.loop-param.param-index c.param-item.result c.loop-param-test.true c.param-item.is,
      c.if-not-note.ensures.noted,
      usable,
    )
    (more (param_definition c.args.first c.param-item.result) c.loop-param.invariant c.if-not-note.ensures.room c.if-not-note.ensures.free)
