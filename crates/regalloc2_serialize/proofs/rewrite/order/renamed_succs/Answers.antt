use Rattle.std.proofs.Common.{◌≡◌, ◌∙◌, ℕ, ◌+◌, ◌<◌, List, [], ◌∷◌, ◌++◌, length, get_or, map, take, refl, sym, ap, subst}
use Rattle.std.specs.Prelude.{slice_index}
use Rattle.std.proofs.lemmas.List.{get_or_default, map_push, take_more}
use Rattle.regalloc2_serialize.proofs.rewrite.order.renamed_succs.Goals as goal

-- the number of one more block is pushed
named-more : (numbers named succs : List ℕ) (k s n : ℕ) → k < length succs → s ≡ get_or succs k s → s < length numbers → n ≡ get_or numbers s n →
    named ≡ map (λ x. slice_index numbers x) (take k succs) → named ++ n ∷ [] ≡ map (λ x. slice_index numbers x) (take (k + 1) succs)
named-more numbers named succs k s n less is inside read before =
    let number : ℕ → ℕ = λ x. slice_index numbers x in
    let split : take (k + 1) succs ≡ take k succs ++ s ∷ [] = take_more succs k s less ∙ ap (λ z. take k succs ++ z ∷ []) (sym is) in
    let here : n ≡ number s = read ∙ get_or_default numbers s n 0 inside in
    rw (split, before, here, map_push number (take k succs) s) refl

pub loop-succ-preserved : goal.loop-succ-preserved
loop-succ-preserved g c =
    let numbers = c.args.numbers.now in
    let succs = c.args.succs.now in
    let k = c.loop-succ.succ-index in
    let s = c.succ-item.result in
    let n : ℕ = c.index-numbers-index.result in
    let pushed : c.push.new.self.items ≡ c.loop-succ.named.items ++ n ∷ [] = c.in_ok-push.ensures.items in
    let inside : s < length numbers = subst (λ x. x < length numbers) (sym c.succ-item.is) (c.requires k s c.loop-succ-test.true) in
    let read : n ≡ get_or numbers s n = c.index-numbers-index.is ∙ ap (λ i. get_or numbers i n) c.index.ensures in
    pushed ∙ named-more numbers c.loop-succ.named.items succs k s n c.loop-succ-test.true c.succ-item.is inside read c.loop-succ.invariant
