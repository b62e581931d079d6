use Rattle.std.proofs.lemmas.Bool.Decides.{Decides-eqb}
use Rattle.std.proofs.lemmas.Slice.Eq.{slice_eq-Decides}
use Rattle.regalloc2_checker_sets.proofs.Chunks.{parts-same, parts-alike}
use Rattle.regalloc2_checker_sets.proofs.versions.is_same_chunk.Goals as goal

pub returns : goal.returns
returns c =
    let decides = slice_eq-Decides Decides-eqb _ _ _ c.eq.ensures in (
      λ h t l. parts-same c.args.cells.now c.args.words.now c.args.first c.args.base 64 t (decides.0 h) l,
      λ same. decides.1 (parts-alike c.args.cells.now c.args.words.now c.args.first c.args.base 64 c.requires.cells c.requires.words same),
    )
