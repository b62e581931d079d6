use Rattle.std.proofs.Common.{◌*◌, length, arith, ap, subst}
use Rattle.std.proofs.lemmas.Option.{MatchOption-at_none, MatchOption-at_some}
use Rattle.regalloc2_checker_sets.specs.SavedNumbers.{NumberCopies, AreAlikeBetween}
use Rattle.regalloc2_checker_sets.proofs.Chunks.{chunk-inside, chunks-alike}
use Rattle.regalloc2_checker_sets.proofs.entries.Entries.next_chunk.Goals as goal

pub returns-clause-none : goal.returns-clause-none
returns-clause-none g c e =
    let same = MatchOption-at_none _ _ e c.next_difference.ensures in
    subst (λ (o : NumberCopies). AreAlikeBetween o c.args.copy (64 * c.args.from) (length o.cells)) c.self.view_is
    (λ i lo hi. chunks-alike c.self.inside.words.items c.self.inside.cells.items c.self.inside.bases c.args.copy c.args.from
    (length c.self.inside.bases.cells) c.self.invariant (omega arith) same i lo (omega (arith, hi, c.self.invariant.long)))

pub returns-clause-some : goal.returns-clause-some
returns-clause-some g c j e =
    let at = MatchOption-at_some _ _ j e c.next_difference.ensures in
    let inside = chunk-inside c.self.inside.words.items c.self.inside.cells.items c.self.inside.bases c.args.copy j c.self.invariant at.1 at.2 in
    let long = ap (λ (o : NumberCopies). length o.cells) c.self.view_is in (
      at.0,
      omega (arith, inside, long),
      omega (arith, inside, c.self.inside.cells.ok.0, c.self.inside.cells.ok.1, c.self.inside.cells.small),
      subst (λ (o : NumberCopies). AreAlikeBetween o c.args.copy (64 * c.args.from) (64 * j)) c.self.view_is
          (chunks-alike c.self.inside.words.items c.self.inside.cells.items c.self.inside.bases c.args.copy c.args.from j c.self.invariant
          (omega (arith, at.1)) at.3),
    )
