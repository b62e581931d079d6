use Rattle.std.proofs.Common.{◌≡◌, ◌<◌, [], refl, subst, arith}
use Rattle.std.specs.Prelude.{All}
use Rattle.std.proofs.lemmas.List.Elements.{All-nil, All-cons}
use Rattle.regalloc2_function.proofs.ListsInParts.{first_here}
use Rattle.regalloc2_function.specs.Listed.{named_blocks}
use Rattle.regalloc2_function.proofs.NamedBlocks.{named_first, named_more, named_to}
use Rattle.regalloc2_function.proofs.postorder.test_named.Goals as goal

pub returns-then-index-num_blocks-clause-err : goal.returns-then-index-num_blocks-clause-err
returns-then-index-num_blocks-clause-err g c = λ succs same. (
  c.args.entry,
  refl,
  first_here (λ s. s < c.args.num_blocks) (named_blocks succs c.args.num_blocks c.args.entry) 0 c.args.entry (omega arith) refl
      (All-nil (λ s. s < c.args.num_blocks)) (λ h. omega (arith, c.index.ensures, c.if-index-num_blocks.true)),
)

pub loop-b-init : goal.loop-b-init
loop-b-init g c = λ succs same. All-cons (λ s. s < c.args.num_blocks) c.args.entry [] (omega (arith, c.index.ensures, c.if-index-num_blocks.false))
    (All-nil (λ s. s < c.args.num_blocks))

pub returns-in-Some-clause-err : goal.returns-in-Some-clause-err
returns-in-Some-clause-err g c = λ succs same.
    (let is : c.succs_of.result.now ≡ succs c.loop-b.b = same c.loop-b.b _ (omega arith) (rw c.new.ensures at c.succs_of.ensures) in (
      c.in-Some.succ,
      refl,
      named_first (λ s. s < c.args.num_blocks) succs c.args.entry c.args.num_blocks c.loop-b.b c.in-Some.succ c.succs_of.result.now
          (omega arith) is (c.loop-b.invariant succs same) c.in-Some.ensures.first,
    ))

pub loop-b-preserved : goal.loop-b-preserved
loop-b-preserved g c = λ succs same.
    (let is : c.succs_of.result.now ≡ succs c.loop-b.b = same c.loop-b.b _ (omega arith) (rw c.new.ensures at c.succs_of.ensures) in
    named_more (λ s. s < c.args.num_blocks) succs c.args.entry c.loop-b.b c.succs_of.result.now is (c.loop-b.invariant succs same) c.in_default.ensures.none)

pub returns-clause-ok : goal.returns-clause-ok
returns-clause-ok g c = λ succs same.
    (let end : c.loop-b.b ≡ c.args.num_blocks = omega arith in
    subst (λ n. All (λ s. s < c.args.num_blocks) (named_to succs n c.args.entry)) end (c.loop-b.invariant succs same))
