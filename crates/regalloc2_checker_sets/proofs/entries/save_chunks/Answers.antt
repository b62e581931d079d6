use Rattle.std.proofs.Common.{ℕ, List, arith, refl, length, ap}
use Rattle.std.proofs.lemmas.Result.{IfOk-from_err}
use Rattle.regalloc2_checker_sets.proofs.SavedChunks.{more-same, more-then, copies-then, saved-below, saved-next}
use Rattle.regalloc2_checker_sets.proofs.entries.save_chunks.Goals as goal

pub loop-chunk-init : goal.loop-chunk-init
loop-chunk-init g c = record {
  words = more-same _;
  kept = c.requires.kept;
  copies = record { words = refl; saved = refl; long = refl };
  saved = λ j l. absurd (omega (arith, l));
}

pub next_difference-requires : goal.next_difference-requires
next_difference-requires g c =
    let e = ap (λ (l : List (List ℕ)). length l) c.loop-chunk.invariant.copies.saved in omega (arith, e, c.requires.near)

pub save_chunk-requires : goal.save_chunk-requires
save_chunk-requires g c = record {
  copy = (let e = ap (λ (l : List (List ℕ)). length l) c.loop-chunk.invariant.copies.saved in omega (arith, e, c.requires.copy));
  chunk = c.in-Some.ensures.1;
  kept = c.loop-chunk.invariant.kept;
}

pub returns-in_err-save_chunk : goal.returns-in_err-save_chunk
returns-in_err-save_chunk g c =
    let e = c.in_err-save_chunk.ensures in
    record {
      words = more-then _ _ _ c.loop-chunk.invariant.words e.words;
      kept = e.kept;
      copies = copies-then _ _ _ c.loop-chunk.invariant.copies e.copies;
      saved = IfOk-from_err c.from_residual.result _ c.from_residual.ensures.0;
    }

pub loop-chunk-smaller : goal.loop-chunk-smaller
loop-chunk-smaller g c = omega (arith, c.in_ok-save_chunk.ensures.copies.long, c.in-Some.ensures.0, c.in-Some.ensures.1)

pub loop-chunk-preserved : goal.loop-chunk-preserved
loop-chunk-preserved g c =
    let i = c.loop-chunk.invariant in
    let e = c.in_ok-save_chunk.ensures in
    record {
      words = more-then _ _ _ i.words e.words;
      kept = e.kept;
      copies = copies-then _ _ _ i.copies e.copies;
      saved = saved-next c.loop-chunk.words.items c.args.cells.now c.loop-chunk.bases c.save_chunk.new.bases c.args.near c.loop-chunk.from c.in-Some.chunk
          i.kept i.saved c.in-Some.ensures.3 e.copies e.others e.saved;
    }

pub returns : goal.returns
returns g c =
    let i = c.loop-chunk.invariant in
    record {
      words = i.words;
      kept = i.kept;
      copies = i.copies;
      saved = λ j less. saved-below c.loop-chunk.words.items c.args.cells.now c.loop-chunk.bases c.args.near c.loop-chunk.from (length c.loop-chunk.bases.cells)
          i.kept i.saved c.in_default.ensures j (omega (arith, less, i.copies.long));
    }
