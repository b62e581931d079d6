use Rattle.std.proofs.Common.{arith, ◌≡◌, ◌∙◌, ℕ, ◌<◌, List, length, get_or, subst, take, sym, ap}
use Rattle.std.specs.Prelude.{◌≢◌, All, slice_index}
use Rattle.std.proofs.lemmas.Bool.{false≢true}
use Rattle.std.proofs.lemmas.List.{get_or_default, length-set, get_or-replicate}
use Rattle.regalloc2_serialize.proofs.RewriteLemmas.Marks.{marked, mark-new, mark-old, within-more, all-marked, order-marked, marked-number, marked-none}
use Rattle.regalloc2_serialize.proofs.rewrite.order.numbers_in.Goals.{then-is_invalid, else-is_invalid}
use Rattle.regalloc2_serialize.proofs.rewrite.order.numbers_in.Goals as goal

pub loop-n-preserved : goal.loop-n-preserved
loop-n-preserved g c =
    let n : ℕ = c.loop-n.n in
    let x : ℕ = c.index-block.result in
    let old : List ℕ = c.loop-n.numbers.items in
    let long : length old ≡ c.args.count = c.loop-n.invariant.long in
    let marks = c.loop-n.invariant.marked in
    let less : n < length c.args.order.now = omega (arith, c.if-order-count.false, c.loop-n-test.true) in
    let is : x ≡ get_or c.args.order.now n x = rw c.index-block.ensures c.index-order-n.is in
    let below : x < c.args.count = c.if-block-count.false in
    let here : x < length old = omega (arith, long, below) in
    let at : c.index.result.now ≡ slice_index old x = c.index.ensures ∙ get_or_default old x c.index.result.now 0 here in
    let within = within-more c.args.order.now n x c.args.count less is below c.loop-n.invariant.within in
    elim c.if-is_invalid.branch [
      | then-is_invalid w ↦ (
          let unset : slice_index old x ≡ 4294967295 = sym at ∙ c.is_invalid.ensures.0 w.if-is_invalid.true in
          let small : n < 4294967295 = omega (arith, c.requires, c.loop-n-test.true) in
          record {
            long = rw w.numbers-is (length-set old x w.new.result ∙ long);
            within = within;
            marked = λ b inside. rw (w.numbers-is, w.new.ensures) (mark-new c.args.order.now old n x c.args.count less is small here unset marks below b inside);
          })
      | else-is_invalid w ↦ (
          let set-before : slice_index old x ≢ 4294967295 = λ e. false≢true (sym w.if-is_invalid.false ∙ c.is_invalid.ensures.1 (at ∙ e)) in
          record {
            long = rw w.numbers-is long;
            within = within;
            marked = λ b inside. rw w.numbers-is (mark-old c.args.order.now old n x c.args.count less is below set-before marks b inside);
          })
    ]

pub returns-then-not-all_numbered-clause-err : goal.returns-then-not-all_numbered-clause-err
returns-then-not-all_numbered-clause-err g c is =
    let end : c.loop-n.n ≡ c.args.count = omega (arith, c.loop-n-test.false, c.loop-n.auto.n-end) in
    let marks : (b : ℕ) → b < c.args.count → slice_index c.loop-n.numbers.items b ≡ marked c.args.order.now c.args.count b =
    λ b less. c.loop-n.invariant.marked b less ∙ ap (λ (n : ℕ). marked c.args.order.now n b) end in
    let all : All (λ n. n ≢ 4294967295) c.loop-n.numbers.items =
    order-marked c.args.order.now c.loop-n.numbers.items c.args.count c.loop-n.invariant.long c.requires is marks in
    false≢true (sym c.if-not-all_numbered.true ∙ c.all_numbered.ensures.1 (rw c.as_slice.ensures.value all))

pub returns-clause-ok : goal.returns-clause-ok
returns-clause-ok g c =
    let order : List ℕ = c.args.order.now in
    let numbers : List ℕ = c.loop-n.numbers.items in
    let end : c.loop-n.n ≡ c.args.count = omega (arith, c.loop-n-test.false, c.loop-n.auto.n-end) in
    let long : length numbers ≡ c.args.count = c.loop-n.invariant.long in
    let listed : length order ≡ c.args.count = omega (arith, c.if-order-count.false) in
    let marks : (b : ℕ) → b < c.args.count → slice_index numbers b ≡ marked order c.args.count b =
    λ b less. c.loop-n.invariant.marked b less ∙ ap (λ (n : ℕ). marked order n b) end in
    let all : All (λ n. n ≢ 4294967295) numbers = rw c.as_slice.ensures.value at (c.all_numbered.ensures.0 c.if-not-all_numbered.false) in
    let some : (b : ℕ) → b < c.args.count → slice_index numbers b ≢ 4294967295 = λ b less. all b 0 (omega (arith, long, less)) in
    record {
      listed = all-marked order numbers c.args.count listed c.requires (subst (λ n. All (λ b. b < c.args.count) (take n order)) end c.loop-n.invariant.within)
          marks some;
      long = long;
      each = marked-number order numbers c.args.count listed c.requires marks some;
    }

pub loop-n-init : goal.loop-n-init
loop-n-init g c = record {
  long = omega (arith, c.in_ok-numbers.ensures.len, c.in_ok-numbers.numbers.ok.0);
  within = λ k d less. absurd (omega (arith, less));
  marked = λ b less. ap (λ (ns : List ℕ). get_or ns b 0) (c.in_ok-numbers.ensures.items_if_clones_equal (λ y h. h))
      ∙ get_or-replicate c.args.count b c.invalid.result 0 less ∙ c.invalid.ensures ∙ sym (marked-none c.args.order.now b);
}
