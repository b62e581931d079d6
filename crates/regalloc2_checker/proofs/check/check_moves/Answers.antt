use Rattle.std.proofs.Common.{ap, ◌∙◌, ◌++◌, ◌∷◌, []}
use Rattle.regalloc2_checker.specs.declared.errors.CheckerError.{CheckerError}
use Rattle.regalloc2_checker.proofs.OperandErrors.{added_none, added_fine, added_fault, added_all}
use Rattle.regalloc2_checker.proofs.check.check_moves.Goals as goal

pub loop-k-init : goal.loop-k-init
loop-k-init g c = λ env h. added_none env c.args.errors.now.items

pub loop-k-preserved-in_default : goal.loop-k-preserved-in_default
loop-k-preserved-in_default g c = λ env h.
    added_fine env c.args.moves.now c.loop-k.k c.index-moves-k.result c.args.errors.now.items c.loop-k.errors.items c.loop-k-test.true c.index-moves-k.is
    (c.in_default.ensures env h) (c.loop-k.invariant env h)

pub loop-k-preserved : goal.loop-k-preserved
loop-k-preserved g c = λ env h.
    added_fault env c.args.moves.now c.loop-k.k c.index-moves-k.result c.args.errors.now.items c.loop-k.errors.items c.push.new.self.items c.loop-k-test.true
    c.index-moves-k.is
    (c.in-Some.ensures env h).0 (c.in_ok-push.ensures.items ∙ ap (λ (e : CheckerError _). c.loop-k.errors.items ++ (e ∷ [])) (c.in-Some.ensures env h).1)
    (c.loop-k.invariant env h)

pub returns : goal.returns
returns g c = λ env h. let r = added_all env c.args.moves.now c.loop-k.k c.args.errors.now.items c.loop-k.errors.items c.loop-k-test.false
    (c.loop-k.invariant env h) in (r.added, r.all, r.faults)
