use Rattle.std.proofs.Common.{subst, ap, ◌∙◌, ◌≡◌, ◌+◌, ◌<◌, ◌++◌, ◌∷◌, [], ℕ, List, length, take, get_or, append_assoc, arith, inr, refl, inl}
use Rattle.std.proofs.lemmas.List.{flat_map_more, take_all, take_more}
use Rattle.std.specs.List.{flat_map}
use Rattle.regalloc2_serialize.specs.Flat.Flat.{HasLongWord}
use Rattle.std.proofs.lemmas.Result.{err_from_is_err_and}
use Rattle.regalloc2_serialize.proofs.FlatLemmas.LongWords.{long_member, long_in_list}
use Rattle.regalloc2_function.specs.declared.serialize.StoredFault.TheVariants.{Memory, Limit}
use Rattle.regalloc2_serialize.proofs.flat.write.VecWritten.write.Goals as goal

pub returns-in_err-write-clause-limit : goal.returns-in_err-write-clause-limit
returns-in_err-write-clause-limit g c =
    let p = err_from_is_err_and c.from_residual-in_err-write.result c.from_residual-in_err-write.ensures.1 in
    let slice = c.as_slice-item-items.result.now in
    rw (p.1, p.2) (λ e.
    let member = long_member g.T.Flat.words slice c.loop-item.item-index c.item-item.result c.loop-item-test.true c.item-item.is
    (c.in_err-write.ensures.limit e) in
    long_in_list g.T.Flat.words c.args.self.now.items (subst (λ xs. HasLongWord (flat_map g.T.Flat.words xs)) c.as_slice-item-items.ensures.value member))

-- the words of one more item
words-more : {X : Type 0} (f : X → List ℕ) (to now : List ℕ) (n : ℕ) (xs : List X) (i : ℕ) (x : X) → i < length xs → x ≡ get_or xs i x →
    now ≡ to ++ n ∷ flat_map f (take i xs) → now ++ f x ≡ to ++ n ∷ flat_map f (take (i + 1) xs)
words-more f to now n xs i x less is before = rw (before, take_more xs i x less, ← is) (append_assoc to (n ∷ flat_map f (take i xs)) (f x)
    ∙ ap (λ l. to ++ n ∷ l) (flat_map_more f [] (take i xs) x))

pub loop-item-preserved : goal.loop-item-preserved
loop-item-preserved g c =
    let same = c.as_slice-item-items.ensures.value in
    rw c.in_ok-write.ensures.ok (words-more g.T.Flat.words c.args.to.now.items c.loop-item.to.items (length c.args.self.now.items) c.args.self.now.items
    c.loop-item.item-index c.item-item.result (rw same at c.loop-item-test.true) (rw same at c.item-item.is) c.loop-item.invariant)

pub returns-clause-ok : goal.returns-clause-ok
returns-clause-ok g c =
    rw (take_all c.loop-item.item-index c.args.self.now.items (rw c.as_slice-item-items.ensures.value at c.loop-item-test.false)) at c.loop-item.invariant

pub loop-item-init : goal.loop-item-init
loop-item-init g c =
    let count : c.in-Ok.count ≡ length c.args.self.now.items = omega (arith, c.in-Ok.ensures.1, c.len.ensures, c.args.self.now.ok.0) in
    rw count at c.in_ok-push.ensures.items

pub returns-in_err-push-clause-faults : goal.returns-in_err-push-clause-faults
returns-in_err-push-clause-faults g c = let p = err_from_is_err_and c.from_residual.result c.from_residual.ensures.1 in rw (p.1, p.2) (inr refl)

pub returns-in_err-write-clause-faults : goal.returns-in_err-write-clause-faults
returns-in_err-write-clause-faults g c = let p = err_from_is_err_and c.from_residual-in_err-write.result c.from_residual-in_err-write.ensures.1 in rw (p.1, p.2) c.in_err-write.ensures.faults

pub returns-clause-faults : goal.returns-clause-faults
returns-clause-faults g c = tt

pub returns-clause-limit : goal.returns-clause-limit
returns-clause-limit g c = tt

pub returns-in_default-clause-ok : goal.returns-in_default-clause-ok
returns-in_default-clause-ok g c = tt

pub returns-in_default-clause-faults : goal.returns-in_default-clause-faults
returns-in_default-clause-faults g c = inl refl

memory-is-not-limit : Memory ≡ Limit → ⊥
memory-is-not-limit is = absurd cc

pub returns-in_default-clause-limit : goal.returns-in_default-clause-limit
returns-in_default-clause-limit g c = λ e. record {
  before = [];
  number = length c.args.self.now.items;
  after = flat_map g.T.Flat.words c.args.self.now.items;
  parts = refl;
  is_long = omega (arith, c.in_default.ensures, c.len.ensures, c.args.self.now.ok.0);
}

pub returns-in_err-push-clause-limit : goal.returns-in_err-push-clause-limit
returns-in_err-push-clause-limit g c =
    let p = err_from_is_err_and c.from_residual.result c.from_residual.ensures.1 in rw (p.1, p.2) (λ is. absurd (memory-is-not-limit is))

pub bounds-item-items-item-index : goal.bounds-item-items-item-index
bounds-item-items-item-index g c = c.loop-item-test.true
