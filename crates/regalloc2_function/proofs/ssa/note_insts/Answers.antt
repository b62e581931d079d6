use Rattle.std.proofs.Common.{◌++◌, ap, sym, ◌∙◌, arith}
use Rattle.std.specs.Prelude.{flat_map}
use Rattle.std.proofs.lemmas.Result.{err_from_is_err_and}
use Rattle.regalloc2_index.specs.Range.{numbers_of}
use Rattle.regalloc2_index.proofs.RangeWalks.{next_at, walked_all, walked_more}
use Rattle.regalloc2_function.specs.FunctionValue.{FunctionValue}
use Rattle.regalloc2_function.specs.Inside.Definitions.NotesDefinitions.{none}
use Rattle.regalloc2_function.proofs.ListsInParts.{flat_next, flat_parts}
use Rattle.regalloc2_function.proofs.NotedInParts.{names_in_part, notes_append}
use Rattle.regalloc2_function.proofs.ssa.note_insts.Goals as goal
use Rattle.regalloc2_function.specs.Inside.Definitions.{inst_definitions}

pub loop-inst-init : goal.loop-inst-init
loop-inst-init g c = record { left = c.into_iter-inst-iterator.ensures.into_iter_gives ∙ c.iter-inst-items.ensures; noted = none }

pub returns-in_err-note_operands-clause-err : goal.returns-in_err-note_operands-clause-err
returns-in_err-note_operands-clause-err g c =
    let f : FunctionValue = g.F.Function.function c.args.f.now in
    let left = ap (λ l. c.loop-inst.yielded ++ l) (sym c.in-Some.ensures.steps) ∙ c.loop-inst.invariant.left in
    let p = err_from_is_err_and c.from_residual.result c.from_residual.ensures.1 in
    rw (p.1, p.2) (names_in_part (flat_map (inst_definitions f) (numbers_of c.args.range)) (flat_map (inst_definitions f) c.loop-inst.yielded)
    (inst_definitions f c.in-Some.inst) (flat_map (inst_definitions f) c.next.new.self) _
    (flat_parts (inst_definitions f) (numbers_of c.args.range) c.loop-inst.yielded c.next.new.self c.in-Some.inst left) c.loop-inst.invariant.noted
    (rw c.inst_operands.ensures at c.in_err-note_operands.ensures.err))

pub loop-inst-preserved : goal.loop-inst-preserved
loop-inst-preserved g c =
    let f : FunctionValue = g.F.Function.function c.args.f.now in
    record {
      left = walked_more c.args.range c.loop-inst.yielded c.loop-inst.inst-iterator c.next.new.self c.in-Some.inst c.loop-inst.invariant.left
          c.in-Some.ensures.steps;
      noted = rw (flat_next (inst_definitions f) c.loop-inst.yielded c.in-Some.inst) (notes_append c.loop-inst.invariant.noted
          (rw c.inst_operands.ensures at c.in_ok-note_operands.ensures.ok));
    }

pub returns-clause-ok : goal.returns-clause-ok
returns-clause-ok g c =
    let f : FunctionValue = g.F.Function.function c.args.f.now in
    let all = walked_all c.args.range c.loop-inst.yielded c.loop-inst.inst-iterator c.loop-inst.invariant.left c.in-None.ensures.steps.0 in
    rw all at c.loop-inst.invariant.noted

pub inst_operands-requires : goal.inst_operands-requires
inst_operands-requires g c =
    let at = next_at c.args.range c.loop-inst.yielded c.loop-inst.inst-iterator c.next.new.self c.in-Some.inst c.loop-inst.invariant.left
    c.in-Some.ensures.steps in
    omega (arith, at.1, c.requires)

pub note_operands-requires : goal.note_operands-requires
note_operands-requires g c =
    let at = next_at c.args.range c.loop-inst.yielded c.loop-inst.inst-iterator c.next.new.self c.in-Some.inst c.loop-inst.invariant.left
    c.in-Some.ensures.steps in
    omega (arith, at.1, c.requires, (g.met.F.Function.limited c.args.f.now).insts)
