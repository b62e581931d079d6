use Rattle.std.proofs.Common.{[], refl, sym, append-nil, arith}
use Rattle.std.specs.Prelude.{flat_map, map}
use Rattle.std.proofs.lemmas.Result.{on_ok_weaker, IfErr-weaker, err_from_is_err_and}
use Rattle.regalloc2_index.specs.Range.{numbers_of}
use Rattle.regalloc2_function.specs.FunctionValue.{FunctionValue, BlockValue, block_at}
use Rattle.regalloc2_function.specs.Inside.Definitions.{NotesDefinitions, NamesTaken, param_definition, inst_definitions, block_definitions}
use Rattle.regalloc2_function.specs.Inside.Definitions.NotesDefinitions.{none}
use Rattle.regalloc2_function.proofs.NotedInParts.{names_in_part, notes_append}
use Rattle.regalloc2_function.proofs.ssa.note_block.Goals as goal

pub returns-clause-ok : goal.returns-clause-ok
returns-clause-ok g c =
    let f : FunctionValue = g.F.Function.function c.args.f.now in
    let b : BlockValue = block_at f c.args.block in
    let params : NotesDefinitions c.args.defined.now (map (param_definition b.range.first) b.params)
    c.note_params.new.defined = rw (c.first.ensures, c.block_insns-range.ensures, c.block_params.ensures) at c.in_ok-note_params.ensures.ok in
    on_ok_weaker c.note_insts.result (λ h. notes_append params (rw c.block_insns-range.ensures at h)) c.note_insts.ensures.ok

pub returns-clause-err : goal.returns-clause-err
returns-clause-err g c =
    let f : FunctionValue = g.F.Function.function c.args.f.now in
    let b : BlockValue = block_at f c.args.block in
    let params : NotesDefinitions c.args.defined.now (map (param_definition b.range.first) b.params)
    c.note_params.new.defined = rw (c.first.ensures, c.block_insns-range.ensures, c.block_params.ensures) at c.in_ok-note_params.ensures.ok in
    IfErr-weaker c.note_insts.result _ (NamesTaken c.args.defined.now (block_definitions f b))
    (λ e h. names_in_part (block_definitions f b) (map (param_definition b.range.first) b.params) (flat_map (inst_definitions f) (numbers_of b.range)) [] e
    (sym (append-nil (block_definitions f b))) params (rw c.block_insns-range.ensures at h)) c.note_insts.ensures.err

pub returns-in_err-note_params-clause-err : goal.returns-in_err-note_params-clause-err
returns-in_err-note_params-clause-err g c =
    let f : FunctionValue = g.F.Function.function c.args.f.now in
    let b : BlockValue = block_at f c.args.block in
    let p = err_from_is_err_and c.from_residual.result c.from_residual.ensures.1 in
    let h : NamesTaken c.args.defined.now (map (param_definition b.range.first) b.params)
    c.in_err-note_params.field-0.0 = rw (c.first.ensures, c.block_insns-range.ensures, c.block_params.ensures) at c.in_err-note_params.ensures.err in
    rw (p.1, p.2) (names_in_part (block_definitions f b) [] (map (param_definition b.range.first) b.params) (flat_map (inst_definitions f) (numbers_of b.range))
    c.in_err-note_params.field-0.0 refl none h)

pub note_params-requires : goal.note_params-requires
note_params-requires g c =
    let at = rw c.block_insns-range.ensures at c.first.ensures in
    omega (arith, at, c.requires.nonempty, c.requires.within, (g.met.F.Function.limited c.args.f.now).insts)

pub note_insts-requires : goal.note_insts-requires
note_insts-requires g c = rw c.block_insns-range.ensures c.requires.within
