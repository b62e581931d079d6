use Rattle.std.proofs.lemmas.List.{length-map, take_all}
use Rattle.std.proofs.Common.{◌≡◌, ◌<◌, length, arith, ◌∙◌, sym, map, ap, refl}
use Rattle.std.proofs.lemmas.Bool.{false≢true}
use Rattle.regalloc2_serialize.proofs.Lists.{same-at, same-more}
use Rattle.regalloc2_serialize.proofs.validate.are_as_long.Goals as goal

pub returns-then-len : goal.returns-then-len
returns-then-len g c =
    let a : length c.index-lists-i.result.items ≡ c.len.result = omega (arith, c.len.ensures, c.index-lists-i.result.ok.0) in
    let b : length c.index-others-i.result.items ≡ c.len-in-loop-i.result = omega (arith, c.len-in-loop-i.ensures, c.index-others-i.result.ok.0) in
    let less : c.loop-i.i < length c.args.others.now = omega (arith, c.loop-i.invariant.lengths, c.loop-i-test.true) in (
      λ h. absurd (false≢true h),
      λ same. absurd (c.if-len.true (sym a ∙ same-at (λ l. length l.items) (λ l. length l.items) c.args.lists.now c.args.others.now c.loop-i.i
          c.index-lists-i.result c.index-others-i.result c.loop-i-test.true less c.index-lists-i.is c.index-others-i.is same ∙ b)),
    )

pub loop-i-preserved : goal.loop-i-preserved
loop-i-preserved g c =
    let a : length c.index-lists-i.result.items ≡ c.len.result = omega (arith, c.len.ensures, c.index-lists-i.result.ok.0) in
    let b : length c.index-others-i.result.items ≡ c.len-in-loop-i.result = omega (arith, c.len-in-loop-i.ensures, c.index-others-i.result.ok.0) in
    let less : c.loop-i.i < length c.args.others.now = omega (arith, c.loop-i.invariant.lengths, c.loop-i-test.true) in
    record {
      lengths = c.loop-i.invariant.lengths;
      same = same-more (λ l. length l.items) (λ l. length l.items) c.args.lists.now c.args.others.now c.loop-i.i
          c.index-lists-i.result c.index-others-i.result c.loop-i-test.true less c.index-lists-i.is c.index-others-i.is (a ∙ c.if-len.false ∙ sym b)
          c.loop-i.invariant.same;
    }

pub returns-then-lists-others : goal.returns-then-lists-others
returns-then-lists-others g c = (
  λ h. absurd (false≢true h),
  λ same. absurd (c.if-lists-others.true (sym (length-map c.args.lists.now (λ l. length l.items)) ∙ ap length same
      ∙ length-map c.args.others.now (λ l. length l.items))),
)

pub returns : goal.returns
returns g c =
    let i = c.loop-i.i in
    let lists = map (λ l. length l.items) c.args.lists.now in
    let others = map (λ l. length l.items) c.args.others.now in (
      λ _. sym (take_all i lists (rw length-map c.loop-i-test.false)) ∙ c.loop-i.invariant.same
          ∙ take_all i others (rw length-map (omega (arith, c.loop-i.invariant.lengths, c.loop-i-test.false))),
      λ _. refl,
    )

pub loop-i-init : goal.loop-i-init
loop-i-init g c = record { lengths = c.if-lists-others.false; same = refl }

pub bounds-others-i : goal.bounds-others-i
bounds-others-i g c = omega (arith, c.loop-i.invariant.lengths, c.loop-i-test.true)
