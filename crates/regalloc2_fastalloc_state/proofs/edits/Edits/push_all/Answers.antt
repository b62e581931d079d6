use Rattle.std.proofs.Common.{ℕ, ◌≡◌, ◌+◌, ◌-◌, ◌<◌, ◌∙◌, refl, ap, sym, arith, rules, length}
use Rattle.std.specs.Prelude.{drop, ◌++◌}
use Rattle.regalloc2_fastalloc_state.specs.ScratchPool.{pushed}
use Rattle.regalloc2_fastalloc_state.proofs.EditsPushed.{none_pushed, one_pushed}
use Rattle.regalloc2_fastalloc_state.proofs.edits.Edits.push_all.Goals as goal

pub loop-k-init : goal.loop-k-init
loop-k-init g c = record {
  within = omega arith;
  pushed_so = none_pushed c.args.point c.args.self.now c.args.moves.now (length c.args.moves.now) refl;
  later = c.requires;
}

pub loop-k-preserved : goal.loop-k-preserved
loop-k-preserved g c =
    let i = c.loop-k.invariant in
    let ms = c.args.moves.now in
    let k : ℕ = c.loop-k.k - 1 in
    let next : c.loop-k.k ≡ k + 1 = omega (arith, c.loop-k-test.true) in
    let low : k < length ms = omega (arith, next, i.within) in
    record {
      within = omega (arith, i.within);
      pushed_so = one_pushed c.args.point c.args.self.now c.loop-k.self c.push.new.self ms c.loop-k.k k c.index-moves-k.result next low
          (search (rules, c.index-moves-k.is)) i.pushed_so c.in_ok-push.ensures.ok;
      later = c.in_ok-push.ensures.later;
    }

pub returns-clause-ok : goal.returns-clause-ok
returns-clause-ok g c = let none : 0 ≡ c.loop-k.k = omega (arith, c.loop-k-test.false) in c.loop-k.invariant.pushed_so
    ∙ ap (λ (n : ℕ). c.args.self.now ++ pushed c.args.point (drop n c.args.moves.now)) (sym none)
