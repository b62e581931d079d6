use Rattle.std.proofs.Common.{◌∙◌, sym, refl}
use Rattle.std.specs.Prelude.{◌&&◌}
use Rattle.regalloc2_checker.specs.Showing.{shows_in, shows_now}
use Rattle.regalloc2_checker.proofs.Updates.{update-first, update-less, others-kept, meet-as}
use Rattle.regalloc2_checker.proofs.edges.update.Goals as goal

pub returns-then-index : goal.returns-then-index
returns-then-index g c =
    let m = c.in_ok-changed.ensures in
    record {
      alike = record { places = c.meet.ensures.places; vregs = c.meet.ensures.vregs; count = c.meet.ensures.count };
      long = refl;
      others = others-kept c.args.values.now c.meet.new.self c.args.target (λ i y. shows_in c.args.values.now c.args.target i y
          && shows_now c.args.values.now i y) c.meet.ensures.places
          (λ k i y l. m.met k i y l ∙ meet-as c.args.values.now k c.args.target i y);
      met = update-less c.args.values.now c.meet.new.self c.args.reached.now.items c.args.target c.index.result.now
          c.requires.target (sym c.index.ensures ∙ c.if-index.true) c.meet.ensures.places m.met c.in_ok-changed.changed m.less m.same;
    }

pub returns-clause-others : goal.returns-clause-others
returns-clause-others g c = others-kept c.args.values.now c.save.new.self c.args.target (shows_now c.args.values.now) c.save.ensures.places
    c.in_ok-save.ensures.tables

pub returns-clause-met : goal.returns-clause-met
returns-clause-met g c = update-first c.args.values.now c.save.new.self c.args.reached.now.items c.args.target c.index.result.now
    c.requires.target (sym c.index.ensures ∙ c.if-index.false) c.save.ensures.places c.in_ok-save.ensures.tables
