use borrow.Author.Count.{falls}
use Rattle.std.proofs.Common.{◌≡◌, ◌<◌, length, sym, ap, ◌∙◌, below_more, arith}
use Rattle.std.specs.Prelude.{◌||◌}
use Rattle.regalloc2_names.specs.Register.{Register, is_register, has_register}
use Rattle.regalloc2_parts.specs.Callmoves.Frame.{free_at}
use Rattle.regalloc2_parts.proofs.CallmovesLemmas.CallPlaces.{read_free, taken_more, taken_not}
use Rattle.regalloc2_parts.proofs.callmoves.fault.find_taken.Goals as goal

pub loop-at-preserved : goal.loop-at-preserved
loop-at-preserved g c =
    let read : c.index-preg.result.now ≡ free_at c.args.frame.now c.loop-at.at =
    read_free c.args.frame.now c.loop-at.at c.index-preg.result.now (omega (arith, c.loop-at-test.true, c.len-at-end.ensures)) c.index-preg.ensures in (
      taken_more c.args.moves.now c.args.frame.now c.loop-at.at c.loop-at.taken c.add.new.self c.loop-at.invariant.0
          (λ r. c.add.ensures.members r ∙ ap (λ (q : Register). is_register q r || has_register c.loop-at.taken r) read),
      below_more _ _ c.loop-at.invariant.1
          (taken_not c.args.moves.now c.args.frame.now c.loop-at.at c.loop-at.taken c.loop-at.invariant.0
          (sym c.if-contains.false ∙ c.contains.ensures.member ∙ ap (has_register c.loop-at.taken) read)),
    )

pub returns-then-contains : goal.returns-then-contains
returns-then-contains g c =
    let low : c.loop-at.at < length c.args.frame.now.free_regs.items = omega (arith, c.loop-at-test.true, c.len-at-end.ensures) in
    let read : c.index-preg.result.now ≡ free_at c.args.frame.now c.loop-at.at =
    read_free c.args.frame.now c.loop-at.at c.index-preg.result.now low c.index-preg.ensures in (
      low,
      c.loop-at.invariant.0.yes _
          (sym (c.contains.ensures.member ∙ ap (has_register c.loop-at.taken) read) ∙ c.if-contains.true),
      c.loop-at.invariant.1,
    )

pub loop-at-smaller : goal.loop-at-smaller
loop-at-smaller g c = falls c.len-at-end.result c.loop-at.at c.loop-at-test.true

pub returns : goal.returns
returns g c = λ k lt. c.loop-at.invariant.1 k (omega (arith, lt, c.len-at-end.ensures, c.loop-at-test.false))
