use Rattle.std.proofs.Common.{◌≡◌, length, refl, ap, arith}
use Rattle.std.proofs.lemmas.Option.{slice_get-map, slice_get_past, slice_get_read}
use Rattle.std.specs.Prelude.{None, Some, nat_eq, slice_get}
use Rattle.codegen_machine.proofs.module.calls_function.Goals as goal

pub returns-in-Some : goal.returns-in-Some
returns-in-Some c =
    let ps = c.args.procedures.now in
    let p = c.in-Some.callee.now in
    let at : slice_get ps c.in-Call.function ≡ Some p =
    slice_get_read ps (length ps) c.in-Call.function p refl c.in-Some.ensures.lookup.3.0 c.in-Some.ensures.lookup.1 in
    let count : c.len.result ≡ length c.in-Call.arguments.items = omega (arith, c.len.ensures, c.in-Call.arguments.ok.0) in
    rw (c.in-Call.is, slice_get-map, at) (ap (nat_eq p.arity) count)

pub returns-in-None : goal.returns-in-None
returns-in-None c =
    let ps = c.args.procedures.now in
    let at : slice_get ps c.in-Call.function ≡ None = slice_get_past ps c.in-Call.function c.in-None.ensures.lookup.3 in
    rw (c.in-Call.is, slice_get-map, at) refl
