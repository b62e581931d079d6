use Rattle.std.proofs.Common.{ap, arith, length}
use Rattle.std.specs.Prelude.{slice_set}
use Rattle.regalloc2_checker_sets.specs.SavedNumbers.{NumberCopies}
use Rattle.regalloc2_checker_sets.proofs.Chunks.{chunks-written}
use Rattle.regalloc2_checker_sets.proofs.entries.Entries.set.Goals as goal

pub set-requires : goal.set-requires
set-requires g c = let long = ap (λ (o : NumberCopies). length o.cells) c.self.view_is in omega (arith, long, c.requires, c.self.invariant.long)

pub returns : goal.returns
returns g c = rw c.set.ensures (ap (λ (o : NumberCopies). record o { cells = slice_set o.cells c.args.position c.args.number }) c.self.view_is)

pub invariant_of-self : goal.invariant_of-self
invariant_of-self g c =
    let long = ap (λ (o : NumberCopies). length o.cells) c.self.view_is in
    chunks-written c.self.inside.words.items c.self.inside.cells.items c.self.inside.bases c.set.new.self c.args.position c.args.number
    (omega (arith, long, c.requires)) c.set.ensures c.self.invariant
