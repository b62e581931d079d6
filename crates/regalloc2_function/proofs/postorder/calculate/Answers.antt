use Rattle.std.proofs.Common.{◌≡◌, ◌<◌, length, inl, inr, refl, sym, ◌∙◌, subst, arith, rules}
use Rattle.std.proofs.lemmas.Result.{err_from_is_err_and}
use Rattle.regalloc2_function.specs.Listed.{AreBlocks, named_blocks}
use Rattle.regalloc2_function.proofs.ListsInParts.{first_not_all}
use Rattle.regalloc2_function.proofs.LeavesReached.{leaves_once, leaves_reached}
use Rattle.regalloc2_function.proofs.postorder.calculate.Goals as goal

pub returns-in_err-test_named-clause-refused : goal.returns-in_err-test_named-clause-refused
returns-in_err-test_named-clause-refused g c = λ succs same.
    (let h = c.in_err-test_named.ensures.err succs same in
    let p = err_from_is_err_and c.from_residual.result c.from_residual.ensures.1 in rw p.1 (inr (h.0, p.2 ∙ h.1, h.2)))

pub returns-in_err-test_named-clause-accepted : goal.returns-in_err-test_named-clause-accepted
returns-in_err-test_named-clause-accepted g c = λ succs same blocks.
    (let h = c.in_err-test_named.ensures.err succs same in absurd (first_not_all (λ s. s < c.args.num_blocks) (named_blocks succs c.args.num_blocks c.args.entry) h.0 h.2 blocks))

pub walk-requires : goal.walk-requires
walk-requires g c =
    let s = c.requires.same in
    let long : length c.as_mut_slice.result.now ≡ c.args.num_blocks = omega (arith, c.as_mut_slice.ensures.len, c.in_ok-resize.ensures.len) in
    λ k. (
      (refl, tt),
      record {
        callable = λ b less. c.requires.callable b (omega (arith, less, long));
        same = (
          s.0,
          (λ b r less post. s.1 b r (omega (arith, less, long)) post),
          subst (λ n. AreBlocks s.0 n c.args.entry) (sym long) (c.in_ok-test_named.ensures.ok s.0 s.1),
        );
        unvisited = search rules;
        empty = c.clear.ensures.items;
      },
    )

pub returns-in-Ok-clause-order : goal.returns-in-Ok-clause-order
returns-in-Ok-clause-order g c = λ succs same.
    (let long : length c.as_mut_slice.result.now ≡ c.args.num_blocks = omega (arith, c.as_mut_slice.ensures.len, c.in_ok-resize.ensures.len) in
    c.in-Ok.ensures succs (λ b r less post. same b r (omega (arith, less, long)) post)
    (subst (λ n. AreBlocks succs n c.args.entry) (sym long) (c.in_ok-test_named.ensures.ok succs same)))

pub returns-in-Ok-clause-once : goal.returns-in-Ok-clause-once
returns-in-Ok-clause-once g c =
    let s = c.requires.same in leaves_once s.0 (returns-in-Ok-clause-order g c s.0 s.1)

pub returns-in-Ok-clause-reached : goal.returns-in-Ok-clause-reached
returns-in-Ok-clause-reached g c = λ succs same. leaves_reached succs c.args.entry c.walk.new.out.items (returns-in-Ok-clause-order g c succs same)

pub returns-in_err-test_named-clause-blocks : goal.returns-in_err-test_named-clause-blocks
returns-in_err-test_named-clause-blocks g c = λ succs same. (let p = err_from_is_err_and c.from_residual.result c.from_residual.ensures.1 in rw p.1 tt)

pub returns-in_err-test_named-clause-order : goal.returns-in_err-test_named-clause-order
returns-in_err-test_named-clause-order g c = λ succs same. (let p = err_from_is_err_and c.from_residual.result c.from_residual.ensures.1 in rw p.1 tt)

pub returns-in_err-test_named-clause-reached : goal.returns-in_err-test_named-clause-reached
returns-in_err-test_named-clause-reached g c = λ succs same. (let p = err_from_is_err_and c.from_residual.result c.from_residual.ensures.1 in rw p.1 tt)

pub returns-in_err-test_named-clause-empty : goal.returns-in_err-test_named-clause-empty
returns-in_err-test_named-clause-empty g c = let p = err_from_is_err_and c.from_residual.result c.from_residual.ensures.1 in rw p.1 c.clear.ensures.items

pub returns-in_err-resize-clause-blocks : goal.returns-in_err-resize-clause-blocks
returns-in_err-resize-clause-blocks g c =
    λ succs same. (let p = err_from_is_err_and c.from_residual-in_err-resize.result c.from_residual-in_err-resize.ensures.1 in rw p.1 tt)

pub returns-in_err-resize-clause-order : goal.returns-in_err-resize-clause-order
returns-in_err-resize-clause-order g c =
    λ succs same. (let p = err_from_is_err_and c.from_residual-in_err-resize.result c.from_residual-in_err-resize.ensures.1 in rw p.1 tt)

pub returns-in_err-resize-clause-reached : goal.returns-in_err-resize-clause-reached
returns-in_err-resize-clause-reached g c =
    λ succs same. (let p = err_from_is_err_and c.from_residual-in_err-resize.result c.from_residual-in_err-resize.ensures.1 in rw p.1 tt)

pub returns-in_err-resize-clause-refused : goal.returns-in_err-resize-clause-refused
returns-in_err-resize-clause-refused g c =
    λ succs same. (let p = err_from_is_err_and c.from_residual-in_err-resize.result c.from_residual-in_err-resize.ensures.1 in rw p.1 (inl p.2))

pub returns-in_err-resize-clause-accepted : goal.returns-in_err-resize-clause-accepted
returns-in_err-resize-clause-accepted g c =
    λ succs same blocks. (let p = err_from_is_err_and c.from_residual-in_err-resize.result c.from_residual-in_err-resize.ensures.1 in rw p.1 p.2)

pub returns-in_err-resize-clause-empty : goal.returns-in_err-resize-clause-empty
returns-in_err-resize-clause-empty g c =
    let p = err_from_is_err_and c.from_residual-in_err-resize.result c.from_residual-in_err-resize.ensures.1 in rw p.1 c.clear.ensures.items

pub returns-in-Ok-clause-blocks : goal.returns-in-Ok-clause-blocks
returns-in-Ok-clause-blocks g c = λ succs same. c.in_ok-test_named.ensures.ok succs same
