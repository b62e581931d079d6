use Rattle.std.proofs.Common.{ℕ, List, ap, arith, length, subst, sym}
use Rattle.regalloc2_checker_sets.specs.SavedNumbers.{NumberCopies, AreChunksKept}
use Rattle.regalloc2_checker_sets.proofs.entries.Entries.save.Goals as goal

pub save_chunks-requires-clause-copy : goal.save_chunks-requires-clause-copy
save_chunks-requires-clause-copy g c =
    let rows = ap (λ (o : NumberCopies). length o.base_rows) c.self.view_is in omega (arith, c.requires, rows)

pub save_chunks-requires-clause-kept : goal.save_chunks-requires-clause-kept
save_chunks-requires-clause-kept g c =
    subst (λ (xs : List ℕ). AreChunksKept c.self.inside.words.items xs c.self.inside.bases) (sym c.deref.ensures.value) c.self.invariant

pub invariant_of-self : goal.invariant_of-self
invariant_of-self g c =
    subst (λ (xs : List ℕ). AreChunksKept c.save_chunks.new.words.items xs c.save_chunks.new.bases) c.deref.ensures.value c.save_chunks.ensures.kept

pub returns-in_err-save_chunks-clause-cells : goal.returns-in_err-save_chunks-clause-cells
returns-in_err-save_chunks-clause-cells g c = ap (λ (o : NumberCopies). o.cells) c.self.view_is

pub returns-clause-cells : goal.returns-clause-cells
returns-clause-cells g c = ap (λ (o : NumberCopies). o.cells) c.self.view_is
