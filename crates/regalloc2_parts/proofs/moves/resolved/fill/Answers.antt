use Rattle.std.proofs.Common.{◌≡◌, ℕ, ◌≤◌, ◌++◌, List, length, map, take, drop, arith, ap, ◌∙◌, slice_set, refl}
use Rattle.std.proofs.lemmas.List.{append-nil, drop_all, take_all}
use Rattle.std.proofs.lemmas.List.Edits.{map_over_more}
use Rattle.regalloc2_names.specs.Place.{Place}
use Rattle.regalloc2_parts.specs.Resolved.{filled}
use Rattle.regalloc2_parts.proofs.moves.resolved.fill.Goals as goal

-- once all are mapped none is left
filled_all : {X : Type 0} (f : X → X) (n : ℕ) (xs : List X) → length xs ≤ n → map f (take n xs) ++ drop n xs ≡ map f xs
filled_all f n xs all = rw (take_all n xs all, drop_all n xs all) (append-nil (map f xs))

pub loop-at-preserved : goal.loop-at-preserved
loop-at-preserved g c =
    let m = c.index-moves-at.result in
    let new : (c.or_scratch.result, c.or_scratch-in-loop-at.result, m.2) ≡ filled c.args.scratch m = rw (c.or_scratch.ensures, c.or_scratch-in-loop-at.ensures)
    refl in
    ap (λ (x : Place × Place × g.row.T.Denot). slice_set c.loop-at.moves c.loop-at.at x) new ∙
    map_over_more (filled c.args.scratch) c.args.moves.now c.loop-at.moves c.loop-at.at m c.loop-at-test.true c.loop-at.invariant c.index-moves-at.is

pub loop-at-init : goal.loop-at-init
loop-at-init g c = refl

pub returns : goal.returns
returns g c = c.loop-at.invariant ∙ filled_all (filled c.args.scratch) c.loop-at.at c.args.moves.now c.loop-at-test.false

pub bounds-moves-at : goal.bounds-moves-at
bounds-moves-at g c = omega (arith, c.loop-at-test.true, c.loop-at.auto.moves)
