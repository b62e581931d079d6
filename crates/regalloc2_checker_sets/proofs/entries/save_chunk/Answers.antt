use Rattle.std.proofs.Common.{ℕ, List, ◌+◌, ◌<◌, ◌∙◌, refl, length, get_or, ap, sym, arith, subst}
use Rattle.regalloc2_checker_sets.specs.SavedCopies.{IsChunkAt}
use Rattle.regalloc2_checker_sets.proofs.SavedChunks.{more-as, more-same, more-put, chunk-put, unsaved-inside, chunks-more, chunks-set}
use Rattle.regalloc2_checker_sets.proofs.SavedChunks.{set-copies, set-others, set-at}
use Rattle.regalloc2_checker_sets.proofs.entries.save_chunk.Goals as goal

pub is_same_chunk-requires : goal.is_same_chunk-requires
is_same_chunk-requires g c =
    let within = c.requires.kept.within c.args.copy c.args.chunk c.requires.chunk in
    let long = ap (λ (l : List ℕ). length l) c.deref.ensures.value in
    record {
      words = omega (arith, within, long, c.saved-base.ensures);
      cells = unsaved-inside c.args.words.now.items c.args.cells.now c.args.bases.now c.args.chunk c.requires.kept c.requires.chunk
          (sym c.get.ensures ∙ c.if-get.false);
    }

pub returns-then-is_same_chunk : goal.returns-then-is_same_chunk
returns-then-is_same_chunk g c =
    let base : ℕ = c.saved-base.result in
    let within = c.requires.kept.within c.args.copy c.args.chunk c.requires.chunk in
    let small = c.requires.kept.small c.args.copy c.args.chunk c.requires.chunk in
    let inside = unsaved-inside c.args.words.now.items c.args.cells.now c.args.bases.now c.args.chunk c.requires.kept c.requires.chunk
    (sym c.get.ensures ∙ c.if-get.false) in
    let at : IsChunkAt c.args.words.now.items c.args.cells.now c.args.chunk base = record {
      within = omega (arith, within, c.saved-base.ensures);
      same = λ t l. c.is_same_chunk.ensures.0 c.if-is_same_chunk.true t l ∙ ap (λ (w : List ℕ). get_or w (base + t) 0) c.deref.ensures.value;
    } in
    record {
      words = more-same _;
      kept = chunks-set c.args.words.now.items c.args.words.now.items c.args.cells.now c.args.bases.now c.set.new.self c.args.chunk base (more-same _)
          c.requires.chunk c.set.ensures inside at c.requires.kept;
      copies = set-copies c.args.bases.now c.set.new.self c.args.chunk base c.set.ensures;
      others = set-others c.args.bases.now c.set.new.self c.args.chunk base c.set.ensures;
      saved = subst (λ (n : ℕ). n < 4294967295) (sym (set-at c.args.bases.now c.set.new.self c.args.chunk base c.set.ensures c.requires.chunk))
          (omega (arith, small, c.saved-base.ensures));
    }

pub returns : goal.returns
returns g c =
    let end : ℕ = c.len-end.result in
    let inside = unsaved-inside c.args.words.now.items c.args.cells.now c.args.bases.now c.args.chunk c.requires.kept c.requires.chunk
    (sym c.get.ensures ∙ c.if-get.false) in
    let more = more-put c.args.words.now.items c.make_room.new.words.items c.extend_from_slice.new.self.items _ c.make_room.ensures
    c.in_ok-extend_from_slice.ensures.items in
    let at = chunk-put c.args.words.now.items c.make_room.new.words.items c.extend_from_slice.new.self.items c.args.cells.now c.args.chunk end
    c.make_room.ensures (omega (arith, c.len-end.ensures, c.args.words.now.ok.0)) inside c.in_ok-extend_from_slice.ensures.items in
    record {
      words = more;
      kept = chunks-set c.args.words.now.items c.extend_from_slice.new.self.items c.args.cells.now c.args.bases.now c.set-2.new.self c.args.chunk end more
          c.requires.chunk c.set-2.ensures inside at c.requires.kept;
      copies = set-copies c.args.bases.now c.set-2.new.self c.args.chunk end c.set-2.ensures;
      others = set-others c.args.bases.now c.set-2.new.self c.args.chunk end c.set-2.ensures;
      saved = subst (λ (n : ℕ). n < 4294967295) (sym (set-at c.args.bases.now c.set-2.new.self c.args.chunk end c.set-2.ensures c.requires.chunk))
          (omega (arith, c.if-end.false));
    }

pub returns-in_err-make_room-clause-words : goal.returns-in_err-make_room-clause-words
returns-in_err-make_room-clause-words g c = more-as _ _ c.make_room.ensures

pub returns-in_err-make_room-clause-kept : goal.returns-in_err-make_room-clause-kept
returns-in_err-make_room-clause-kept g c =
    chunks-more c.args.words.now.items c.make_room.new.words.items c.args.cells.now c.args.bases.now (more-as _ _ c.make_room.ensures) c.requires.kept

pub returns-in_err-extend_from_slice-clause-words : goal.returns-in_err-extend_from_slice-clause-words
returns-in_err-extend_from_slice-clause-words g c = more-as _ _ (c.in_err-extend_from_slice.ensures.items ∙ c.make_room.ensures)

pub returns-in_err-extend_from_slice-clause-kept : goal.returns-in_err-extend_from_slice-clause-kept
returns-in_err-extend_from_slice-clause-kept g c =
    chunks-more c.args.words.now.items c.extend_from_slice.new.self.items c.args.cells.now c.args.bases.now
    (more-as _ _ (c.in_err-extend_from_slice.ensures.items ∙ c.make_room.ensures)) c.requires.kept

pub get-requires : goal.get-requires
get-requires g c = c.requires.chunk

pub returns-then-get : goal.returns-then-get
returns-then-get g c = record {
  words = more-same _;
  kept = c.requires.kept;
  copies = record { words = refl; saved = refl; long = refl };
  others = λ j n. refl;
  saved = omega (arith, c.get.ensures, c.if-get.true, c.get.type_inv);
}

pub saved-base-requires : goal.saved-base-requires
saved-base-requires g c = c.requires.copy

pub set-requires : goal.set-requires
set-requires g c = c.requires.chunk

pub set-requires-2 : goal.set-requires-2
set-requires-2 g c = c.requires.chunk

pub returns-then-end : goal.returns-then-end
returns-then-end g c = record {
  words = more-same _;
  kept = c.requires.kept;
  copies = record { words = refl; saved = refl; long = refl };
  others = λ j n. refl;
  saved = tt;
}

pub returns-in_err-make_room-clause-copies : goal.returns-in_err-make_room-clause-copies
returns-in_err-make_room-clause-copies g c = record { words = refl; saved = refl; long = refl }

pub returns-in_err-make_room-clause-others : goal.returns-in_err-make_room-clause-others
returns-in_err-make_room-clause-others g c j n = refl

pub returns-in_err-extend_from_slice-clause-copies : goal.returns-in_err-extend_from_slice-clause-copies
returns-in_err-extend_from_slice-clause-copies g c = record { words = refl; saved = refl; long = refl }

pub returns-in_err-extend_from_slice-clause-others : goal.returns-in_err-extend_from_slice-clause-others
returns-in_err-extend_from_slice-clause-others g c j n = refl

pub overflow_mul-chunk : goal.overflow_mul-chunk
overflow_mul-chunk g c =
    let inside = unsaved-inside c.args.words.now.items c.args.cells.now c.args.bases.now c.args.chunk c.requires.kept c.requires.chunk
    (sym c.get.ensures ∙ c.if-get.false) in
    omega (arith, inside)

pub overflow_mul-chunk-2 : goal.overflow_mul-chunk-2
overflow_mul-chunk-2 g c =
    let inside = unsaved-inside c.args.words.now.items c.args.cells.now c.args.bases.now c.args.chunk c.requires.kept c.requires.chunk
    (sym c.get.ensures ∙ c.if-get.false) in
    omega (arith, inside)

pub overflow_mul-chunk-3 : goal.overflow_mul-chunk-3
overflow_mul-chunk-3 g c =
    let inside = unsaved-inside c.args.words.now.items c.args.cells.now c.args.bases.now c.args.chunk c.requires.kept c.requires.chunk
    (sym c.get.ensures ∙ c.if-get.false) in
    omega (arith, inside)

pub overflow_add-chunk : goal.overflow_add-chunk
overflow_add-chunk g c =
    let inside = unsaved-inside c.args.words.now.items c.args.cells.now c.args.bases.now c.args.chunk c.requires.kept c.requires.chunk
    (sym c.get.ensures ∙ c.if-get.false) in
    omega (arith, inside)

pub offset_bounds-cells-chunk : goal.offset_bounds-cells-chunk
offset_bounds-cells-chunk g c =
    let inside = unsaved-inside c.args.words.now.items c.args.cells.now c.args.bases.now c.args.chunk c.requires.kept c.requires.chunk
    (sym c.get.ensures ∙ c.if-get.false) in
    omega (arith, inside)

pub overflow_cast-end : goal.overflow_cast-end
overflow_cast-end g c = omega (arith, c.if-end.false)
