use Rattle.std.proofs.Common.{◌≡◌, List, length, refl, subst}
use Rattle.std.proofs.lemmas.Option.{slice_get-map, slice_get_read}
use Rattle.std.specs.Prelude.{Some, slice_get}
use Rattle.codegen_operation.specs.declared.line.Line.{Line}
use Rattle.codegen.proofs.run.module.call_on.Goals as goal

pub returns-in-Call-clause-value : goal.returns-in-Call-clause-value
returns-in-Call-clause-value c =
    let lines = c.args.procedure.now.lines.items in
    let l = c.in_ok-line.line.now in
    let at : slice_get lines c.args.inst ≡ Some l = subst (λ (xs : List Line). slice_get xs c.args.inst ≡ Some l) c.deref.ensures.value
    (slice_get_read c.deref.result.now (length c.deref.result.now) c.args.inst l refl c.in_ok-line.ensures.lookup.3.0 c.in_ok-line.ensures.lookup.1) in
    rw (slice_get-map, at, c.in-Call.is, c.deref-in-Call.ensures.value) refl
