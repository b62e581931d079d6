use Rattle.std.proofs.Common.{ℕ, ◌≡◌, ◌<◌, Bool, false, true, List, length, get_or, set, inl, inr, sym, subst, ◌∙◌, arith, eqb-true, refl}
use Rattle.std.specs.Vec.{vec_len}
use Rattle.std.proofs.lemmas.Bool.{OnTrue_from, cases_eq, false≢true}
use Rattle.std.proofs.lemmas.List.{get_or_default, get_or-set_other, get_or-set_same, length-set, nil_from_length}
use Rattle.regalloc2_function.specs.FunctionValue.{FunctionValue}
use Rattle.regalloc2_checker.specs.Swept.{done_at}
use Rattle.regalloc2_checker.proofs.Sweeps.{swept-checked}
use Rattle.regalloc2_checker.proofs.Queues.{alike-same}
use Rattle.regalloc2_checker.proofs.sweep.finish.Goals as goal

-- what is done stays done where one more block is
stays-done : (ds : List Bool) (j b : ℕ) → j < length ds → done_at ds b ≡ true → done_at (set ds j true) b ≡ true
stays-done ds j b less done = elim (cases_eq b j) [
  | inl e ↦ subst (λ (n : ℕ). done_at (set ds j true) n ≡ true) (sym e) (get_or-set_same ds j true false less)
  | inr n ↦ get_or-set_other ds j b true false n ∙ done
]

pub returns-clause-swept : goal.returns-clause-swept
returns-clause-swept g c =
    let f : FunctionValue = g.F.Function.function c.args.by.now.f.now in
    let tables = c.requires.1.1.1.1.0 in
    let less : c.args.block < length f.blocks = c.requires.1.1.1.1.1 in
    let ds : List Bool = c.args.sweep.now.is_done.items in
    let small : c.index-index.result < length ds = omega (arith, c.index-index.ensures, less, tables.done) in
    let undone : done_at ds c.args.block ≡ false =
    subst (λ (n : ℕ). done_at ds n ≡ false) c.index-index.ensures
    (get_or_default ds c.index-index.result false c.index-2.result.now small ∙ sym c.index-2.ensures ∙ c.if-index.false) in
    OnTrue_from c.is_empty.result _ (λ e.
    let none : vec_len c.check_block.new.errors ≡ 0 = eqb-true _ _ (sym c.is_empty.ensures ∙ e) in
    swept-checked g.row.A.Denot f g.o c.args.by.now.slots ds c.args.sweep.now.state.values c.check_block.new.values
    c.args.sweep.now.state.reached.items c.index-index.result c.args.block c.new-errors.result.items c.check_block.new.errors.items c.index-index.ensures
    (omega (arith, less, tables.reached)) (omega (arith, less, tables.done)) undone c.in_ok-check_block.ensures.kept c.new-errors.ensures.items
    (nil_from_length _ (sym c.check_block.new.errors.ok.0 ∙ none)) c.in_ok-check_block.ensures.judged)

pub returns-then-not-index-clause-further : goal.returns-then-not-index-clause-further
returns-then-not-index-clause-further g c = record { alike = alike-same c.args.sweep.now.state.values; reached = refl; size = refl; kept = λ b done. done }

pub returns-then-not-index-clause-queue : goal.returns-then-not-index-clause-queue
returns-then-not-index-clause-queue g c = refl

pub returns-then-not-index-clause-swept : goal.returns-then-not-index-clause-swept
returns-then-not-index-clause-swept g c = λ vs s. s

pub returns-then-index-clause-further : goal.returns-then-index-clause-further
returns-then-index-clause-further g c = record { alike = alike-same c.args.sweep.now.state.values; reached = refl; size = refl; kept = λ b done. done }

pub returns-then-index-clause-queue : goal.returns-then-index-clause-queue
returns-then-index-clause-queue g c = refl

pub returns-then-index-clause-swept : goal.returns-then-index-clause-swept
returns-then-index-clause-swept g c = λ vs s. s

pub returns-clause-further : goal.returns-clause-further
returns-clause-further g c =
    let kept = c.in_ok-check_block.ensures.kept in
    let ds : List Bool = c.args.sweep.now.is_done.items in
    let tables = c.requires.1.1.1.1.0 in
    let small : c.index-index.result < length ds = omega (arith, c.index-index.ensures, c.requires.1.1.1.1.1, tables.done) in
    record {
      alike = record { places = kept.places; vregs = kept.vregs; count = kept.count };
      reached = refl;
      size = length-set ds c.index-index.result true;
      kept = λ b done. stays-done ds c.index-index.result b small done;
    }

pub returns-clause-queue : goal.returns-clause-queue
returns-clause-queue g c = refl

pub returns-clause-here : goal.returns-clause-here
returns-clause-here g c =
    let ds : List Bool = c.args.sweep.now.is_done.items in
    let tables = c.requires.1.1.1.1.0 in
    let small : c.index-index.result < length ds = omega (arith, c.index-index.ensures, c.requires.1.1.1.1.1, tables.done) in
    OnTrue_from c.is_empty.result _ (λ e r.
    subst (λ (n : ℕ). done_at (set ds c.index-index.result true) n ≡ true) c.index-index.ensures (get_or-set_same ds c.index-index.result true false small))

pub returns-then-not-index-clause-here : goal.returns-then-not-index-clause-here
returns-then-not-index-clause-here g c =
    let rs : List Bool = c.args.sweep.now.state.reached.items in
    let tables = c.requires.1.1.1.1.0 in
    let small : c.index-index.result < length rs = omega (arith, c.index-index.ensures, c.requires.1.1.1.1.1, tables.reached) in
    let unreached : get_or rs c.args.block false ≡ false = subst (λ (n : ℕ). get_or rs n false ≡ false) c.index-index.ensures
    (get_or_default rs c.index-index.result false c.index.result.now small ∙ sym c.index.ensures ∙ c.if-not-index.true) in
    λ r. absurd (false≢true (sym unreached ∙ r))

pub returns-then-index-clause-here : goal.returns-then-index-clause-here
returns-then-index-clause-here g c =
    let ds : List Bool = c.args.sweep.now.is_done.items in
    let tables = c.requires.1.1.1.1.0 in
    let small : c.index-index.result < length ds = omega (arith, c.index-index.ensures, c.requires.1.1.1.1.1, tables.done) in
    λ r. subst (λ (n : ℕ). done_at ds n ≡ true) c.index-index.ensures
    (get_or_default ds c.index-index.result false c.index-2.result.now small ∙ sym c.index-2.ensures ∙ c.if-index.true)

pub check_block-requires : goal.check_block-requires
check_block-requires g c = λ κs l.
    let tables = c.requires.1.1.1.1.0 in
    let less = c.requires.1.1.1.1.1 in
    (l.0, (l.1, (c.requires.1.1.0, (c.requires.1.1.1.0, (tables.named, (less, omega (arith, less, tables.count)))))))

pub index-requires : goal.index-requires
index-requires g c = omega (arith, c.index-index.ensures, c.requires.1.1.1.1.1, c.requires.1.1.1.1.0.reached, c.args.sweep.now.state.reached.ok.0)

pub index-requires-2 : goal.index-requires-2
index-requires-2 g c = omega (arith, c.index-index.ensures, c.requires.1.1.1.1.1, c.requires.1.1.1.1.0.done, c.args.sweep.now.is_done.ok.0)

pub index_mut-requires : goal.index_mut-requires
index_mut-requires g c = omega (arith, c.index-index.ensures, c.requires.1.1.1.1.1, c.requires.1.1.1.1.0.done, c.args.sweep.now.is_done.ok.0)
