use Rattle.std.proofs.Common.{ap, ◌∙◌, Bool, false, List, get_or, refl}
use Rattle.std.proofs.lemmas.Bool.{OnTrue_at}
use Rattle.regalloc2_function.specs.FunctionValue.{FunctionValue}
use Rattle.regalloc2_checker.proofs.Queues.{alike-same}
use Rattle.regalloc2_checker.proofs.Sweeps.{swept-dropped}
use Rattle.regalloc2_checker.proofs.sweep.make_room.Goals as goal

pub returns-clause-swept : goal.returns-clause-swept
returns-clause-swept g c = λ vs s.
    let f : FunctionValue = g.F.Function.function c.args.by.now.f.now in
    let t = c.finish_below.new.sweep in
    let d = c.in_ok-drop_marked.ensures in
    swept-dropped g.row.A.Denot f g.o c.args.by.now.slots t.is_done.items t.state.values c.drop_marked.new.self t.state.reached.items d.places
    (λ k i y un less. d.tables k i y (ap (λ (xs : List Bool). get_or xs k false) c.deref-3.ensures.value ∙ un) less) vs
    (OnTrue_at c.if-not-branch.false c.in_ok-finish_below.ensures.swept vs s)

pub returns-clause-further : goal.returns-clause-further
returns-clause-further g c =
    let on = c.in_ok-finish_below.ensures.further in
    let d = c.drop_marked.ensures in
    record {
      alike = record { places = d.places ∙ on.alike.places; vregs = d.vregs ∙ on.alike.vregs; count = d.count ∙ on.alike.count };
      reached = on.reached;
      size = on.size;
      kept = on.kept;
    }

pub finish_below-requires : goal.finish_below-requires
finish_below-requires g c = λ κs l. (l.0, (l.1, (c.requires.1.1.0, (c.requires.1.1.1.0, c.requires.1.1.1.1))))

pub returns-then-word_count-sweep-clause-further : goal.returns-then-word_count-sweep-clause-further
returns-then-word_count-sweep-clause-further g c = record { alike = alike-same c.args.sweep.now.state.values; reached = refl; size = refl; kept = λ b done. done }

pub returns-then-not-branch-clause-further : goal.returns-then-not-branch-clause-further
returns-then-not-branch-clause-further g c = c.in_ok-finish_below.ensures.further
