use Rattle.std.proofs.Common.{ℕ, List, ◌+◌, ◌∙◌, ap, sym, refl, arith, get_or, set}
use Rattle.std.specs.Prelude.{None}
use Rattle.std.proofs.lemmas.List.{set-get_or}
use Rattle.regalloc2_checker_sets.proofs.SavedChunks.{more-as, more-same, more-put, chunk-put}
use Rattle.regalloc2_checker_sets.proofs.versions.save_chunk.Goals as goal

pub returns-in-Some : goal.returns-in-Some
returns-in-Some g c = record {
  words = more-same _;
  clean = sym (set-get_or c.args.clean.now c.args.chunk None) ∙ ap (set c.args.clean.now c.args.chunk) c.in-Some.is;
  saved = c.requires.kept c.in-Some.clean c.in-Some.is;
  err = tt;
}

pub returns-then-is_same_chunk : goal.returns-then-is_same_chunk
returns-then-is_same_chunk g c = record {
  words = more-same _;
  clean = refl;
  saved = record {
    within = c.requires.words;
    same = λ t l. c.is_same_chunk.ensures.0 c.if-is_same_chunk.true t l ∙ ap (λ (w : List ℕ). get_or w (c.args.base + t) 0) c.deref.ensures.value;
  };
  err = tt;
}

pub returns : goal.returns
returns g c = record {
  words = more-put _ _ _ _ c.make_room.ensures c.in_ok-extend_from_slice.ensures.items;
  clean = refl;
  saved = chunk-put c.args.words.now.items c.make_room.new.words.items c.extend_from_slice.new.self.items c.args.cells.now c.args.chunk c.len-end.result
      c.make_room.ensures (omega (arith, c.len-end.ensures, c.args.words.now.ok.0)) c.requires.cells c.in_ok-extend_from_slice.ensures.items;
  err = tt;
}

pub returns-in_err-make_room-clause-words : goal.returns-in_err-make_room-clause-words
returns-in_err-make_room-clause-words g c = more-as _ _ c.make_room.ensures

pub returns-in_err-extend_from_slice-clause-words : goal.returns-in_err-extend_from_slice-clause-words
returns-in_err-extend_from_slice-clause-words g c = more-as _ _ (c.in_err-extend_from_slice.ensures.items ∙ c.make_room.ensures)
