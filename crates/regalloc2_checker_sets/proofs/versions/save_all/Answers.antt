use Rattle.std.proofs.Common.{◌≡◌, ◌<◌, ◌∷◌, [], ◌++◌, ◌∙◌, ap, arith, length, subst}
use Rattle.regalloc2_checker_sets.specs.SavedCopies.{AreBases}
use Rattle.regalloc2_checker_sets.proofs.SavedChunks.{more-same, more-then, clean-more, clean-next, bases-none, bases-next}
use Rattle.regalloc2_checker_sets.proofs.versions.save_all.Goals as goal

pub loop-chunk-init : goal.loop-chunk-init
loop-chunk-init g c = record { words = more-same _; kept = c.requires.kept; saved = bases-none _ _ _ c.in_ok-bases.ensures.items }

pub save_chunk-requires : goal.save_chunk-requires
save_chunk-requires g c =
    let long : length c.loop-chunk.clean ≡ length c.args.clean.now = c.loop-chunk.auto.clean in
    let less : c.loop-chunk.chunk < length c.loop-chunk.clean = omega (arith, long, c.loop-chunk-test.true) in
    let within = c.requires.within c.loop-chunk.chunk in
    record {
      words = omega (arith, within, c.base_of.ensures, c.loop-chunk.invariant.words.longer);
      cells = omega (arith, c.requires.long, c.loop-chunk-test.true);
      chunk = less;
      kept = λ b. c.loop-chunk.invariant.kept c.loop-chunk.chunk b less;
    }

pub loop-chunk-preserved : goal.loop-chunk-preserved
loop-chunk-preserved g c =
    let long : length c.loop-chunk.clean ≡ length c.args.clean.now = c.loop-chunk.auto.clean in
    let less : c.loop-chunk.chunk < length c.loop-chunk.clean = omega (arith, long, c.loop-chunk-test.true) in
    let i = c.loop-chunk.invariant in
    let e = c.in_ok-base.ensures in
    record {
      words = more-then _ _ _ i.words e.words;
      kept = clean-next c.loop-chunk.words.items c.save_chunk.new.words.items c.args.cells.now c.loop-chunk.clean c.save_chunk.new.clean
          c.loop-chunk.chunk c.in_ok-base.base e.words less e.clean e.saved i.kept;
      saved = bases-next c.loop-chunk.words.items c.save_chunk.new.words.items c.args.cells.now c.loop-chunk.bases.items c.push.new.self.items
          c.loop-chunk.chunk c.in_ok-base.base e.words
          (c.in_ok-push.ensures.items ∙ ap (λ b. c.loop-chunk.bases.items ++ b ∷ []) c.in-Ok.ensures.1) e.saved i.saved;
    }

pub returns : goal.returns
returns g c =
    let i = c.loop-chunk.invariant in
    record {
      words = i.words;
      kept = i.kept;
      saved = subst (AreBases c.loop-chunk.words.items c.args.cells.now c.loop-chunk.bases.items)
          (omega (arith, c.loop-chunk-test.false, c.loop-chunk.auto.chunk-end)) i.saved;
    }

pub returns-in_err-base-clause-words : goal.returns-in_err-base-clause-words
returns-in_err-base-clause-words g c = more-then _ _ _ c.loop-chunk.invariant.words c.in_err-base.ensures.words

pub returns-in_err-base-clause-kept : goal.returns-in_err-base-clause-kept
returns-in_err-base-clause-kept g c =
    clean-more c.loop-chunk.words.items c.save_chunk.new.words.items c.args.cells.now c.loop-chunk.clean c.save_chunk.new.clean c.in_err-base.ensures.words
    c.in_err-base.ensures.err c.loop-chunk.invariant.kept

pub returns-in_default : goal.returns-in_default
returns-in_default g c =
    let long : length c.loop-chunk.clean ≡ length c.args.clean.now = c.loop-chunk.auto.clean in
    let e = c.in_ok-base.ensures in
    record {
      words = more-then _ _ _ c.loop-chunk.invariant.words e.words;
      kept = clean-next c.loop-chunk.words.items c.save_chunk.new.words.items c.args.cells.now c.loop-chunk.clean c.save_chunk.new.clean
          c.loop-chunk.chunk c.in_ok-base.base e.words (omega (arith, long, c.loop-chunk-test.true)) e.clean e.saved c.loop-chunk.invariant.kept;
      saved = tt;
    }

pub returns-in_err-push-clause-words : goal.returns-in_err-push-clause-words
returns-in_err-push-clause-words g c = more-then _ _ _ c.loop-chunk.invariant.words c.in_ok-base.ensures.words

pub returns-in_err-push-clause-kept : goal.returns-in_err-push-clause-kept
returns-in_err-push-clause-kept g c =
    let long : length c.loop-chunk.clean ≡ length c.args.clean.now = c.loop-chunk.auto.clean in
    let e = c.in_ok-base.ensures in
    clean-next c.loop-chunk.words.items c.save_chunk.new.words.items c.args.cells.now c.loop-chunk.clean c.save_chunk.new.clean c.loop-chunk.chunk
    c.in_ok-base.base e.words (omega (arith, long, c.loop-chunk-test.true)) e.clean e.saved c.loop-chunk.invariant.kept

pub returns-in_err-bases-clause-words : goal.returns-in_err-bases-clause-words
returns-in_err-bases-clause-words g c = more-same _

pub returns-in_err-bases-clause-kept : goal.returns-in_err-bases-clause-kept
returns-in_err-bases-clause-kept g c = c.requires.kept
