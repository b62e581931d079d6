use Rattle.std.proofs.Common.{◌≡◌, length, map, sym, ap, ◌∙◌, subst, refl}
use Rattle.std.proofs.lemmas.List.{length-map}
use Rattle.smallvec.proofs.SmallVecLemmas.{items-with_items}
use Rattle.regalloc2_parts.specs.AtOnce.{ends_of, own_names, in_turn}
use Rattle.regalloc2_parts.specs.Resolved.{moves_listed, with_place, filled, IsRunnable, IsUnnamed, AreBetweenPlaces}
use Rattle.regalloc2_parts.proofs.Filling.{fills_same, fills_real}
use Rattle.regalloc2_parts.proofs.moves.resolved.MoveVecWithScratch.with_scratch.Goals as goal

pub returns-in-Scratch-clause-items : goal.returns-in-Scratch-clause-items
returns-in-Scratch-clause-items g c =
    let ms = c.in-Scratch.moves in
    let e : c.fill.new.moves ≡ map (filled c.args.scratch) ms.items = c.fill.ensures ∙ ap (map (filled c.args.scratch)) c.as_mut_slice.ensures.value in
    items-with_items ms c.fill.new.moves (ap length e ∙ length-map ms.items (filled c.args.scratch)) ∙ e ∙ sym (ap (with_place c.args.scratch) c.in-Scratch.is)

pub returns-in-Scratch-clause-real : goal.returns-in-Scratch-clause-real
returns-in-Scratch-clause-real g c fresh run =
    let ms = c.in-Scratch.moves in
    let e : c.fill.new.moves ≡ map (filled c.args.scratch) ms.items = c.fill.ensures ∙ ap (map (filled c.args.scratch)) c.as_mut_slice.ensures.value in
    subst (λ xs. AreBetweenPlaces xs) (sym (items-with_items ms c.fill.new.moves (ap length e ∙ length-map ms.items (filled c.args.scratch)) ∙ e))
    (fills_real c.args.scratch fresh ms.items)

pub returns-in-Scratch-clause-same : goal.returns-in-Scratch-clause-same
returns-in-Scratch-clause-same g c fresh run free q n real =
    let ms = c.in-Scratch.moves in
    let e : c.fill.new.moves ≡ map (filled c.args.scratch) ms.items = c.fill.ensures ∙ ap (map (filled c.args.scratch)) c.as_mut_slice.ensures.value in
    ap (λ xs. in_turn (ends_of xs) own_names q) (items-with_items ms c.fill.new.moves (ap length e ∙ length-map ms.items (filled c.args.scratch)) ∙ e) ∙
    fills_same c.args.scratch fresh ms.items own_names own_names
    (subst (λ x. IsUnnamed c.args.scratch (moves_listed x)) c.in-Scratch.is free) (subst (λ x. IsRunnable x) c.in-Scratch.is run) (λ p a b. refl) q n real ∙
    sym (ap (λ x. in_turn (ends_of (moves_listed x)) own_names q) c.in-Scratch.is)

pub returns-in-NoScratch-clause-items : goal.returns-in-NoScratch-clause-items
returns-in-NoScratch-clause-items g c = sym (ap (with_place c.args.scratch) c.in-NoScratch.is)

pub returns-in-NoScratch-clause-real : goal.returns-in-NoScratch-clause-real
returns-in-NoScratch-clause-real g c fresh run = subst (λ x. IsRunnable x) c.in-NoScratch.is run

pub returns-in-NoScratch-clause-same : goal.returns-in-NoScratch-clause-same
returns-in-NoScratch-clause-same g c fresh run free q n real = sym (ap (λ x. in_turn (ends_of (moves_listed x)) own_names q) c.in-NoScratch.is)
