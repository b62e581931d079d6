use Rattle.std.proofs.Common.{ℕ, None, length, replicate, subst}
use Rattle.std.proofs.lemmas.Result.{on_ok_weaker, IfErr-weaker, err_from_is_err_and}
use Rattle.regalloc2_function.specs.FunctionValue.{FunctionValue}
use Rattle.regalloc2_function.specs.Reasons.{IsDefinitionFault, definitions_in}
use Rattle.regalloc2_function.specs.Inside.Definitions.{NamesTaken, NotesDefinitions, Table}
use Rattle.regalloc2_function.proofs.TableDecidesSSA.{noted_once, taken_fault, unusable_fault, usable_uses}
use Rattle.regalloc2_function.proofs.ssa.test_over.Goals as goal

pub returns-in_err-note_blocks-clause-refused : goal.returns-in_err-note_blocks-clause-refused
returns-in_err-note_blocks-clause-refused g c =
    let f : FunctionValue = g.F.Function.function c.args.f.now in
    let p = err_from_is_err_and c.from_residual.result c.from_residual.ensures.1 in
    rw (p.1, p.2) (taken_fault f (length c.args.defined.now) c.requires.few c.requires.room c.in_err-note_blocks.field-0.0
    (subst (λ (t : Table). NamesTaken t (definitions_in f) c.in_err-note_blocks.field-0.0) c.requires.blank c.in_err-note_blocks.ensures.err))

pub returns-clause-once : goal.returns-clause-once
returns-clause-once g c =
    let f : FunctionValue = g.F.Function.function c.args.f.now in
    let n : ℕ = length c.args.defined.now in
    let noted : NotesDefinitions (replicate n None) (definitions_in f) c.note_blocks.new.defined =
    subst (λ (t : Table). NotesDefinitions t (definitions_in f) c.note_blocks.new.defined) c.requires.blank c.in_ok-note_blocks.ensures.ok in
    on_ok_weaker c.test_uses.result (λ h. noted_once f c.requires.follow c.requires.some c.note_blocks.new.defined n c.requires.few noted)
    c.test_uses.ensures.ok

pub returns-clause-uses : goal.returns-clause-uses
returns-clause-uses g c =
    let f : FunctionValue = g.F.Function.function c.args.f.now in
    let n : ℕ = length c.args.defined.now in
    let noted : NotesDefinitions (replicate n None) (definitions_in f) c.note_blocks.new.defined =
    subst (λ (t : Table). NotesDefinitions t (definitions_in f) c.note_blocks.new.defined) c.requires.blank c.in_ok-note_blocks.ensures.ok in
    on_ok_weaker c.test_uses.result (λ h. usable_uses f c.requires.follow c.requires.some c.note_blocks.new.defined n noted h) c.test_uses.ensures.ok

pub returns-clause-refused : goal.returns-clause-refused
returns-clause-refused g c =
    let f : FunctionValue = g.F.Function.function c.args.f.now in
    let n : ℕ = length c.args.defined.now in
    let noted : NotesDefinitions (replicate n None) (definitions_in f) c.note_blocks.new.defined =
    subst (λ (t : Table). NotesDefinitions t (definitions_in f) c.note_blocks.new.defined) c.requires.blank c.in_ok-note_blocks.ensures.ok in
    IfErr-weaker c.test_uses.result _ (IsDefinitionFault f)
    (λ e h. unusable_fault f c.requires.follow c.requires.some c.note_blocks.new.defined n c.requires.few noted e h) c.test_uses.ensures.err
