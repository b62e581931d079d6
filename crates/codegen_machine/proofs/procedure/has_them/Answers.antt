use Rattle.std.proofs.Common.{◌≡◌, ◌-◌, length, refl, arith}
use Rattle.std.proofs.lemmas.Option.{slice_get-map, slice_get_past, slice_get_read}
use Rattle.std.specs.Prelude.{None, Some, slice_get}
use Rattle.codegen_machine.proofs.procedure.has_them.Goals as goal

pub returns-in-Some : goal.returns-in-Some
returns-in-Some c =
    let ls = c.args.lines.now in
    let k = c.args.part.now.range.end - 1 in
    let here : c.saturating_sub.result ≡ k = omega (arith, c.saturating_sub.ensures, c.index-end.ensures, c.end.ensures) in
    let at : slice_get ls c.saturating_sub.result ≡ Some c.in-Some.line.now =
    slice_get_read ls (length ls) c.saturating_sub.result c.in-Some.line.now refl c.in-Some.ensures.lookup.3.0 c.in-Some.ensures.lookup.1 in
    let count : c.len.result ≡ length c.args.part.now.succs.items = omega (arith, c.len.ensures, c.args.part.now.succs.ok.0) in
    rw (slice_get-map, ← here, at, ← c.successors_wanted.ensures, ← count) refl

pub returns-in-None : goal.returns-in-None
returns-in-None c =
    let ls = c.args.lines.now in
    let k = c.args.part.now.range.end - 1 in
    let here : c.saturating_sub.result ≡ k = omega (arith, c.saturating_sub.ensures, c.index-end.ensures, c.end.ensures) in
    let at : slice_get ls c.saturating_sub.result ≡ None = slice_get_past ls c.saturating_sub.result c.in-None.ensures.lookup.3 in
    rw (slice_get-map, ← here, at) refl
