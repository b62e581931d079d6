use Rattle.std.proofs.Common.{◌≡◌, List, length, refl, subst}
use Rattle.std.proofs.lemmas.Option.{slice_get-map, slice_get_past, slice_get_read}
use Rattle.std.specs.Prelude.{slice_get, None, Some}
use Rattle.codegen_machine.specs.declared.module.NamedProcedure.{NamedProcedure}
use Rattle.codegen.proofs.run.module.Frames.step.Goals as goal

pub returns-in_default : goal.returns-in_default
returns-in_default c =
    let g = c.args.self.now.procedure in
    let at : slice_get c.args.m.now.procedures.items g ≡ None = subst (λ (ps : List NamedProcedure). slice_get ps g ≡ None) c.deref.ensures.value
    (slice_get_past c.deref.result.now g c.in_default.ensures.lookup.3) in
    rw (slice_get-map, at) refl

pub returns-in-Some-call_on : goal.returns-in-Some-call_on
returns-in-Some-call_on c =
    let g = c.args.self.now.procedure in
    let p = c.in-Some.running.now in
    let at : slice_get c.args.m.now.procedures.items g ≡ Some p = subst (λ (ps : List NamedProcedure). slice_get ps g ≡ Some p) c.deref.ensures.value
    (slice_get_read c.deref.result.now (length c.deref.result.now) g p refl c.in-Some.ensures.lookup.3.0 c.in-Some.ensures.lookup.1) in
    rw (slice_get-map, at, ← c.in-Some-call_on.ensures.value) c.call.ensures

pub returns-in-None : goal.returns-in-None
returns-in-None c =
    let g = c.args.self.now.procedure in
    let p = c.in-Some.running.now in
    let at : slice_get c.args.m.now.procedures.items g ≡ Some p = subst (λ (ps : List NamedProcedure). slice_get ps g ≡ Some p) c.deref.ensures.value
    (slice_get_read c.deref.result.now (length c.deref.result.now) g p refl c.in-Some.ensures.lookup.3.0 c.in-Some.ensures.lookup.1) in
    rw (slice_get-map, at, ← c.in-None.ensures.value) c.step_within.ensures
