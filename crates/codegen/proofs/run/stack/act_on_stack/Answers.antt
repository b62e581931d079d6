use Rattle.std.proofs.Common.{◌≡◌, List, length, refl, subst}
use Rattle.std.proofs.lemmas.Option.{slice_get_read}
use Rattle.std.specs.Prelude.{Some, slice_get}
use Rattle.codegen_machine.specs.declared.Instruction.{Instruction}
use Rattle.codegen.proofs.run.stack.act_on_stack.Goals as goal

pub returns-in-Call-clause-value : goal.returns-in-Call-clause-value
returns-in-Call-clause-value c =
    let i = c.in_ok-function.field-0.now in
    let at : slice_get c.args.code.now.instructions.items c.args.pc ≡ Some i = subst (λ (xs : List Instruction). slice_get xs c.args.pc ≡ Some i) c.deref.ensures.value
    (slice_get_read c.deref.result.now (length c.deref.result.now) c.args.pc i refl c.in_ok-function.ensures.lookup.3.0 c.in_ok-function.ensures.lookup.1) in
    rw (at, c.in-Call.is) refl

pub returns-in-Pass-clause-value : goal.returns-in-Pass-clause-value
returns-in-Pass-clause-value c =
    let i = c.in_ok-function.field-0.now in
    let at : slice_get c.args.code.now.instructions.items c.args.pc ≡ Some i = subst (λ (xs : List Instruction). slice_get xs c.args.pc ≡ Some i) c.deref.ensures.value
    (slice_get_read c.deref.result.now (length c.deref.result.now) c.args.pc i refl c.in_ok-function.ensures.lookup.3.0 c.in_ok-function.ensures.lookup.1) in
    rw (at, c.in-Pass.is) refl
