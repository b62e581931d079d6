use Rattle.std.proofs.Common.{◌≡◌, ◌∙◌, ◌+◌, ◌++◌, ◌∷◌, [], ℕ, List, ap, arith, below_more, refl}
use Rattle.std.proofs.lemmas.List.{get_or_append_left, get_or_push, length_push}
use Rattle.regalloc2_names.specs.Register.{empty_set}
use Rattle.regalloc2_names.specs.declared.sets.PRegSet.{PRegSet}
use Rattle.regalloc2_serialize.specs.Flat.Columns.Value.{AreNumbered, HasBits, set_words_at}
use Rattle.regalloc2_serialize.proofs.flat.columns.typed.numbered_sets.Goals as goal

-- one more set
more : (words : List ℕ) (k : ℕ) (sets : List PRegSet) (s : PRegSet) → AreNumbered words k sets → HasBits (set_words_at words k) s →
    AreNumbered words (k + 1) (sets ++ s ∷ [])
more words k sets s old here = record {
  count_is = length_push sets s ∙ ap (λ n. n + 1) old.count_is;
  none = rw (get_or_append_left sets (s ∷ []) empty_set 0 (omega (arith, old.count_is))) old.none;
  each = below_more _ k (λ j less. rw (get_or_append_left sets (s ∷ []) empty_set (j + 1) (omega (arith, less, old.count_is))) (old.each j less))
      (rw (get_or_push sets s empty_set (k + 1) old.count_is) here);
}

pub loop-k-init : goal.loop-k-init
loop-k-init g c =
    let one : c.push.new.self.items ≡ c.empty.result ∷ [] = c.in_ok-push.ensures.items ∙ ap (λ l. l ++ c.empty.result ∷ []) c.in_ok-sets.ensures.items in
    rw one (record { count_is = refl; none = c.empty.ensures.none; each = λ k less. absurd (omega (arith, less)) })

pub loop-k-preserved : goal.loop-k-preserved
loop-k-preserved g c = rw c.in_ok-push-2.ensures.items (more c.args.words.now c.loop-k.k c.loop-k.sets.items c.set_of.result c.loop-k.invariant c.set_of.ensures)

pub returns : goal.returns
returns g c =
    let e : c.loop-k.k ≡ c.args.count = omega (arith, c.loop-k-test.false, c.loop-k.auto.k-end) in
    rw e at c.loop-k.invariant
