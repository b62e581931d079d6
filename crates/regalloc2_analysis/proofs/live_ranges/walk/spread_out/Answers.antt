use Rattle.std.proofs.Common.{ℕ, ◌≡◌, ◌+◌, ◌∷◌, ◌++◌, ◌<◌, ◌∙◌, [], List, Option, length, take, sym, ap, arith}
use Rattle.std.specs.Prelude.{None, slice_index_or}
use Rattle.std.proofs.lemmas.List.{take_all, take_more}
use Rattle.regalloc2_analysis.proofs.LiveRangesLemmas.Spread.{spread_length}
use Rattle.regalloc2_analysis.proofs.live_ranges.walk.spread_out.Goals as goal

-- one entry more
pushed : {X : Type 0} (t : List (Option X)) (n : ℕ) (x : Option X) (old new : List (Option X)) → n < length t → old ≡ take n t → new ≡ old ++ x ∷ [] →
    x ≡ slice_index_or t n None → new ≡ take (n + 1) t
pushed t n x old new lt so_far is at = is ∙ ap (λ xs. xs ++ x ∷ []) so_far ∙ ap (λ y. take n t ++ y ∷ []) at ∙ sym (take_more t n None lt)

pub loop-number-preserved : goal.loop-number-preserved
loop-number-preserved g c = pushed _ c.loop-number.number c.entry.result c.loop-number.ranges.items c.push.new.self.items
    (omega (arith, spread_length c.args.indexes.now c.args.entries.now, c.loop-number-test.true)) c.loop-number.invariant
    c.in_ok-push.ensures.items c.entry.ensures

pub loop-number-init : goal.loop-number-init
loop-number-init g c = c.in_ok-ranges.ensures.items

pub returns : goal.returns
returns g c =
    c.loop-number.invariant
    ∙ take_all c.loop-number.number _ (omega (arith, spread_length c.args.indexes.now c.args.entries.now, c.loop-number-test.false))
