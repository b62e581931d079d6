use Rattle.std.proofs.Common.{◌≡◌, ◌+◌, [], ◌∷◌, true, false, take, drop, refl, sym, ap, ◌∙◌, append-nil, arith}
use Rattle.std.specs.Prelude.{filter_map}
use Rattle.regalloc2_names.specs.Operand.{is_def}
use Rattle.regalloc2_names.specs.Place.{after}
use Rattle.regalloc2_function.specs.Inside.Definitions.NotesDefinitions.{none, more}
use Rattle.regalloc2_function.proofs.ListsInParts.{filter_split, filter_more}
use Rattle.regalloc2_function.proofs.NotedInParts.{names_in_part, taken_now}
use Rattle.regalloc2_names.specs.declared.RegAllocError.TheVariants.{SSA}
use Rattle.regalloc2_function.proofs.ssa.note_operands.Goals as goal
use Rattle.regalloc2_function.proofs.ssa.note_operands.Goals.{else-is_def-via-then-is_def+else-not-note, else-is_def-via-else-is_def}
use Rattle.regalloc2_function.specs.Inside.Definitions.{operand_definition}

pub loop-operand-init : goal.loop-operand-init
loop-operand-init c = none

pub returns-then-not-note-clause-err : goal.returns-then-not-note-clause-err
returns-then-not-note-clause-err c =
    let def : is_def c.operand-item.result.kind ≡ true = sym c.is_def.ensures ∙ c.if-is_def.true in
    let one : filter_map (operand_definition c.args.inst) (c.operand-item.result ∷ []) ≡ record {
      vreg = c.operand-item.result.vreg;
      inst = c.args.inst;
      point = after c.args.inst;
    } ∷ [] = rw def refl in
    names_in_part (filter_map (operand_definition c.args.inst) c.args.operands.now)
    (filter_map (operand_definition c.args.inst) (take c.loop-operand.operand-index c.args.operands.now))
    (filter_map (operand_definition c.args.inst) (c.operand-item.result ∷ []))
    (filter_map (operand_definition c.args.inst) (drop (c.loop-operand.operand-index + 1) c.args.operands.now)) _
    (filter_split (operand_definition c.args.inst) c.args.operands.now c.loop-operand.operand-index c.operand-item.result c.loop-operand-test.true
    c.operand-item.is)
    c.loop-operand.invariant
    (rw one (
      record { vreg = c.operand-item.result.vreg; inst = c.args.inst; point = after c.args.inst },
      ap (λ v. SSA v c.args.inst) c.vreg-then-not-note.ensures,
      taken_now
          (record { vreg = c.operand-item.result.vreg; inst = c.args.inst; point = after c.args.inst }) (rw c.vreg.ensures at c.if-not-note.ensures.taken),
    ))

pub loop-operand-preserved : goal.loop-operand-preserved
loop-operand-preserved c =
    let usable : c.after-usable.result ≡ after c.args.inst = c.after-usable.ensures.point (λ e. absurd (omega (arith, c.requires, e))) in
    rw (filter_more (operand_definition c.args.inst) c.args.operands.now c.loop-operand.operand-index c.operand-item.result c.loop-operand-test.true
    c.operand-item.is)
    (elim c.else-is_def.branch [
      | else-is_def-via-then-is_def+else-not-note w ↦ (let def : is_def c.operand-item.result.kind ≡ true = sym c.is_def.ensures ∙ w.if-is_def.true in
          rw (def, w.defined-is, w.if-not-note.ensures.noted, w.vreg.ensures, usable)
          (more (record { vreg = c.operand-item.result.vreg; inst = c.args.inst; point = after c.args.inst }) c.loop-operand.invariant
          (rw w.vreg.ensures at w.if-not-note.ensures.room) (rw w.vreg.ensures at w.if-not-note.ensures.free)))
      | else-is_def-via-else-is_def w ↦ (let def : is_def c.operand-item.result.kind ≡ false = sym c.is_def.ensures ∙ w.if-is_def.false in
          rw (def, append-nil, w.defined-is) c.loop-operand.invariant)
    ])
