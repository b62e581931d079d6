use Rattle.std.proofs.Common.{ℕ, ◌≡◌, ◌<◌, true, List, length, get_or, refl, arith, ap, ◌∙◌, subst}
use Rattle.std.proofs.lemmas.List.{get_or_default}
use Rattle.regalloc2_checker_sets.specs.Homes.{MorePlaces, no_more, has_saved_more}
use Rattle.regalloc2_checker_sets.proofs.Bits.{read-is}
use Rattle.regalloc2_checker_sets.proofs.MoreLists.{left-all, left-next, left-none, grown-saved, each-set}
use Rattle.regalloc2_checker_sets.proofs.more_places.MoreList.drop_added.Goals as goal

pub loop-k-init : goal.loop-k-init
loop-k-init g c = record {
  last = omega (arith, c.len-k-end.ensures, c.self.inside.grown.ok.0);
  kept = subst (λ (ms : List MorePlaces). (n i : ℕ) → has_saved_more (get_or ms n no_more) i ≡ true
      → has_saved_more (get_or c.self.inside.items.items n no_more) i ≡ true) c.self.view_is (λ n i is. is);
  left = left-all c.self.inside.items.items c.self.inside.grown.items c.self.invariant;
}

pub index_mut-more-requires : goal.index_mut-more-requires
index_mut-more-requires g c =
    let grown = c.loop-k.self-inside.grown.items in
    let less : c.loop-k.k < length grown = omega (arith, c.loop-k-test.true, c.loop-k.invariant.last) in
    omega (
      arith,
      c.loop-k.invariant.left.within c.loop-k.k less,
      c.index.ensures,
      get_or_default grown c.loop-k.k c.index.result.now 0 less,
      c.loop-k.self-inside.items.ok.0,
    )

pub loop-k-preserved : goal.loop-k-preserved
loop-k-preserved g c =
    let items = c.loop-k.self-inside.items.items in
    let grown = c.loop-k.self-inside.grown.items in
    let index = c.index.result.now in
    let here : c.loop-k.k < length grown = omega (arith, c.loop-k-test.true, c.loop-k.invariant.last) in
    let at : index ≡ get_or grown c.loop-k.k 0 = c.index.ensures ∙ get_or_default grown c.loop-k.k index 0 here in
    let less : index < length items = omega (arith, c.loop-k.invariant.left.within c.loop-k.k here, at) in
    let had = read-is items items index c.index_mut-more.result.now no_more refl less c.index_mut-more.ensures.value in
    record {
      last = c.loop-k.invariant.last;
      kept = each-set has_saved_more c.args.self.now items index c.drop_added.new.self less
          (λ i is. c.drop_added.ensures.kept i (ap (λ (m : MorePlaces). has_saved_more m i) had ∙ is)) c.loop-k.invariant.kept;
      left = left-next items grown c.loop-k.k index c.drop_added.new.self at less c.drop_added.ensures.saved c.loop-k.invariant.left;
    }

pub invariant_of-self : goal.invariant_of-self
invariant_of-self g c =
    grown-saved c.loop-k.self-inside.items.items c.clear.new.self.items c.clear.ensures.items
    (left-none c.loop-k.self-inside.items.items c.loop-k.self-inside.grown.items c.loop-k.k
    (omega (arith, c.loop-k.invariant.last, c.loop-k-test.false)) c.loop-k.invariant.left)
