use Rattle.std.proofs.Common.{◌≡◌, List, length, refl, subst}
use Rattle.std.proofs.lemmas.Option.{slice_get-map, slice_get_past, slice_get_read}
use Rattle.std.specs.Prelude.{slice_get, None, Some}
use Rattle.codegen_operation.specs.declared.line.Line.{Line}
use Rattle.codegen.proofs.run.procedure.State.step.Goals as goal

pub returns-in-Some : goal.returns-in-Some
returns-in-Some c =
    let k = c.args.self.now.inst in
    let line = c.in-Some.line.now in
    let at : slice_get c.args.procedure.now.lines.items k ≡ Some line = subst (λ (ls : List Line). slice_get ls k ≡ Some line) c.deref.ensures.value
    (slice_get_read c.deref.result.now (length c.deref.result.now) k line refl c.in-Some.ensures.lookup.3.0 c.in-Some.ensures.lookup.1) in
    rw (slice_get-map, at) c.perform.ensures

pub returns-in-None : goal.returns-in-None
returns-in-None c =
    let k = c.args.self.now.inst in
    let at : slice_get c.args.procedure.now.lines.items k ≡ None = subst (λ (ls : List Line). slice_get ls k ≡ None) c.deref.ensures.value
    (slice_get_past c.deref.result.now k c.in-None.ensures.lookup.3) in
    rw (slice_get-map, at) refl
