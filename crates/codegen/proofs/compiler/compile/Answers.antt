use Rattle.std.proofs.Common.{ℕ, ◌≡◌, ◌<◌, length, sym, subst, refl, ◌∙◌, arith}
use Rattle.std.proofs.lemmas.Option.{slice_get_read}
use Rattle.std.proofs.lemmas.Result.{err_from_is_err_and}
use Rattle.std.proofs.lemmas.List.{length-map}
use Rattle.std.specs.Prelude.{slice_get, Some, map, string_bytes}
use Rattle.codegen_machine.specs.Calls.{functions_of}
use Rattle.codegen_machine.specs.Modules.{arities_of}
use Rattle.codegen.specs.Reasons.{IsModuleReason}
use Rattle.codegen.proofs.Compiling.{none_compiled, one_compiled, one_kept, one_rejected, take_all}
use Rattle.codegen.proofs.Modules.{AreCompiled}
use Rattle.codegen.proofs.Rooms.{have_frames, stays_in_room}
use Rattle.codegen.proofs.Whole.{module_behaves}
use Rattle.codegen.proofs.compiler.compile.Goals as goal

pub loop-g-init : goal.loop-g-init
loop-g-init c =
    let ps = c.args.m.now.procedures.items in
    (rw c.new-functions.ensures.items (none_compiled ps), rw c.new-functions.ensures.items refl, rw c.new-functions.ensures.items refl)

pub loop-g-preserved : goal.loop-g-preserved
loop-g-preserved c =
    let ps = c.args.m.now.procedures.items in
    let p = c.index.result.now in
    let f = c.in_ok-function.function in
    let less : c.loop-g.g < length ps = omega (arith, c.loop-g-test.true, c.len-g-end.ensures, c.args.m.now.procedures.ok.0) in
    let at : slice_get ps c.loop-g.g ≡ Some p = slice_get_read ps (length ps) c.loop-g.g p refl less c.index.ensures in
    let made = c.in_ok-function.ensures.code in (
      one_compiled ps _ _ p f c.loop-g.g c.loop-g.invariant.0 at c.in_ok-add.ensures.added made,
      one_kept (λ q. string_bytes q.name) (λ g. string_bytes g.name) ps _ _ p f c.loop-g.g c.loop-g.invariant.1 at c.in_ok-add.ensures.added made.2,
      one_kept (λ q. q.arity) (λ g. g.arity) ps _ _ p f c.loop-g.g c.loop-g.invariant.2 at c.in_ok-add.ensures.added made.1,
    )

pub returns-clause-behaves : goal.returns-clause-behaves
returns-clause-behaves c =
    let m = c.args.m.now in
    let all : c.loop-g.g ≡ length m.procedures.items = omega (arith, c.loop-g-test.false, c.len-g-end.ensures, m.procedures.ok.0) in
    module_behaves m (functions_of c.loop-g.functions.items)
    (subst (λ (n : ℕ). AreCompiled m.procedures.items (functions_of c.loop-g.functions.items) n) all c.loop-g.invariant.0)

pub returns-clause-names : goal.returns-clause-names
returns-clause-names c =
    let ps = c.args.m.now.procedures.items in
    let all : c.loop-g.g ≡ length ps = omega (arith, c.loop-g-test.false, c.len-g-end.ensures, c.args.m.now.procedures.ok.0) in
    c.loop-g.invariant.1 ∙ take_all (map (λ p. string_bytes p.name) ps) c.loop-g.g (all ∙ sym (length-map ps (λ p. string_bytes p.name)))

pub returns-clause-arities : goal.returns-clause-arities
returns-clause-arities c =
    let ps = c.args.m.now.procedures.items in
    let all : c.loop-g.g ≡ length ps = omega (arith, c.loop-g-test.false, c.len-g-end.ensures, c.args.m.now.procedures.ok.0) in
    c.loop-g.invariant.2 ∙ take_all (arities_of ps) c.loop-g.g (all ∙ sym (length-map ps (λ p. p.arity)))

pub returns-clause-frames : goal.returns-clause-frames
returns-clause-frames c =
    let ps = c.args.m.now.procedures.items in
    let all : c.loop-g.g ≡ length ps = omega (arith, c.loop-g-test.false, c.len-g-end.ensures, c.args.m.now.procedures.ok.0) in
    have_frames ps (functions_of c.loop-g.functions.items)
    (subst (λ (n : ℕ). AreCompiled ps (functions_of c.loop-g.functions.items) n) all c.loop-g.invariant.0)

pub returns-clause-room : goal.returns-clause-room
returns-clause-room c =
    let m = c.args.m.now in
    let all : c.loop-g.g ≡ length m.procedures.items = omega (arith, c.loop-g-test.false, c.len-g-end.ensures, m.procedures.ok.0) in
    stays_in_room m (functions_of c.loop-g.functions.items)
    (subst (λ (n : ℕ). AreCompiled m.procedures.items (functions_of c.loop-g.functions.items) n) all c.loop-g.invariant.0)

pub returns-in_err-function-clause-refused : goal.returns-in_err-function-clause-refused
returns-in_err-function-clause-refused c =
    let ps = c.args.m.now.procedures.items in
    let p = c.index.result.now in
    let less : c.loop-g.g < length ps = omega (arith, c.loop-g-test.true, c.len-g-end.ensures, c.args.m.now.procedures.ok.0) in
    let at : slice_get ps c.loop-g.g ≡ Some p = slice_get_read ps (length ps) c.loop-g.g p refl less c.index.ensures in
    let e = err_from_is_err_and c.from_residual.result c.from_residual.ensures.1 in
    rw e.1 (subst (IsModuleReason ps) (sym e.2) (one_rejected ps c.loop-g.g p _ at c.in_err-function.ensures.refused))
