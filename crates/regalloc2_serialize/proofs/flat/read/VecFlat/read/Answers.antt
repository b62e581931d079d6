use Rattle.std.proofs.lemmas.Result.{err_from_is_err_and}
use Rattle.regalloc2_serialize.proofs.FlatLemmas.NoValue.{no_list}
use Rattle.std.proofs.Common.{◌<◌, length, arith, inr, refl, inl, ◌≡◌, ℕ, List, [], ◌∷◌, ◌++◌, ◌+◌, ◌∙◌, ap, sym, append_assoc}
use Rattle.std.specs.List.{flat_map}
use Rattle.std.proofs.lemmas.List.{flat_map_more, length_push}
use Rattle.regalloc2_function.specs.declared.serialize.StoredFault.TheVariants.{Memory, Shape}
use Rattle.regalloc2_serialize.proofs.flat.read.VecFlat.read.Goals as goal

pub returns-in_err-item-clause-shape : goal.returns-in_err-item-clause-shape
returns-in_err-item-clause-shape g c =
    let p = err_from_is_err_and c.from_residual-in_err-item.result c.from_residual-in_err-item.ensures.1 in
    let less : length c.loop-index.items.items < c.in_ok-count.count = omega arith in
    rw (p.1, p.2) (λ e x rest h. no_list g.T.Flat.words g.met.T.Flat.one_rest c.loop-index.items.items c.args.from.now.rest.now c.loop-index.from.rest.now
    c.in_ok-count.count c.loop-index.invariant.read less (c.in_err-item.ensures.shape e) x.items rest h)

pub returns-in_err-count-clause-faults : goal.returns-in_err-count-clause-faults
returns-in_err-count-clause-faults g c = let p = err_from_is_err_and c.from_residual.result c.from_residual.ensures.1 in rw (p.1, p.2) (inl c.in_err-count.ensures.err.0)

pub returns-in_err-item-clause-faults : goal.returns-in_err-item-clause-faults
returns-in_err-item-clause-faults g c =
    let p = err_from_is_err_and c.from_residual-in_err-item.result c.from_residual-in_err-item.ensures.1 in
    rw (p.1, p.2) c.in_err-item.ensures.faults

pub returns-in_err-push-clause-faults : goal.returns-in_err-push-clause-faults
returns-in_err-push-clause-faults g c = let p = err_from_is_err_and c.from_residual-in_err-push.result c.from_residual-in_err-push.ensures.1 in rw (p.1, p.2) (inr refl)

pub returns-clause-faults : goal.returns-clause-faults
returns-clause-faults g c = tt

pub returns-clause-shape : goal.returns-clause-shape
returns-clause-shape g c = tt

pub returns-clause-ok : goal.returns-clause-ok
returns-clause-ok g c =
    let e : c.in_ok-count.count ≡ length c.loop-index.items.items =
    omega (arith, c.loop-index.invariant.count, c.loop-index-test.false, c.loop-index.auto.index-end) in
    rw e at c.loop-index.invariant.read

pub loop-index-init : goal.loop-index-init
loop-index-init g c = record { read = rw c.new-items.ensures.items c.in_ok-count.ensures.ok; count = rw c.new-items.ensures.items refl }

no-words : (ns ms : List ℕ) (n : ℕ) → ns ≡ [] → ns ≡ n ∷ ms → ⊥
no-words ns ms n none some = absurd cc

memory-is-not-shape : Memory ≡ Shape → ⊥
memory-is-not-shape is = absurd cc

-- one more item
words-more : {X : Type 0} (f : X → List ℕ) (given : List ℕ) (n : ℕ) (xs : List X) (x : X) (before after : List ℕ) → given ≡ n ∷ flat_map f xs ++ before →
    before ≡ f x ++ after → given ≡ n ∷ flat_map f (xs ++ x ∷ []) ++ after
words-more f given n xs x before after is next =
    is ∙ ap (λ l. n ∷ l) (rw next (sym (append_assoc (flat_map f xs) (f x) after)) ∙ ap (λ l. l ++ after) (flat_map_more f [] xs x))

pub returns-in_err-count-clause-shape : goal.returns-in_err-count-clause-shape
returns-in_err-count-clause-shape g c =
    let p = err_from_is_err_and c.from_residual.result c.from_residual.ensures.1 in
    rw (p.1, p.2) (λ e x rest h. no-words _ _ _ c.in_err-count.ensures.err.1 h)

pub returns-in_err-push-clause-shape : goal.returns-in_err-push-clause-shape
returns-in_err-push-clause-shape g c =
    let p = err_from_is_err_and c.from_residual-in_err-push.result c.from_residual-in_err-push.ensures.1 in
    rw (p.1, p.2) (λ is. absurd (memory-is-not-shape is))

pub loop-index-preserved : goal.loop-index-preserved
loop-index-preserved g c = record {
  read = rw c.in_ok-push.ensures.items (words-more g.T.Flat.words _ _ _ _ _ _ c.loop-index.invariant.read c.in_ok-item.ensures.ok);
  count = ap length c.in_ok-push.ensures.items ∙ length_push _ _ ∙ ap (λ n. n + 1) c.loop-index.invariant.count;
}
