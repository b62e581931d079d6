use Rattle.std.proofs.Common.{ℕ, List, ◌+◌, ◌/◌, ◌%◌, length, arith, ap, sym, ◌∙◌}
use Rattle.regalloc2_checker_sets.specs.SavedNumbers.{NumberCopies, number_now, saved_number}
use Rattle.regalloc2_checker_sets.specs.SavedCopies.{saved_at}
use Rattle.regalloc2_checker_sets.specs.Renumbering.{renamed}
use Rattle.regalloc2_checker_sets.proofs.MovedDown.{written-back}
use Rattle.regalloc2_checker_sets.proofs.Renumbered.{appears-renamed, back-renamed, chunks-renamed}
use Rattle.regalloc2_checker_sets.proofs.entries.Entries.renumber.Goals as goal

pub returns-clause-all : goal.returns-clause-all
returns-clause-all g c n a =
    appears-renamed c.args.self.now c.deref_mut.result.now c.rename_all.new.list _ c.deref_mut-2.result.now c.rename_all-2.new.list _ c.args.numbers.now n
    (ap (λ (o : NumberCopies). o.words) (sym c.self.view_is) ∙ sym c.deref_mut.ensures.value)
    (ap (λ (o : NumberCopies). o.cells) (sym c.self.view_is) ∙ sym c.deref_mut-2.ensures.value)
    (written-back c.rename_all.new.list c.self.inside.words.items c.self.inside.words.len
    (omega (arith, c.rename_all.ensures.long, c.deref_mut.ensures.len, c.self.inside.words.ok.0)))
    (written-back c.rename_all-2.new.list c.self.inside.cells.items c.self.inside.cells.len
    (omega (arith, c.rename_all-2.ensures.long, c.deref_mut-2.ensures.len, c.self.inside.cells.ok.0)))
    c.rename_all.ensures.long c.rename_all-2.ensures.long c.rename_all.ensures.renamed c.rename_all-2.ensures.renamed a

pub invariant_of-self : goal.invariant_of-self
invariant_of-self g c =
    chunks-renamed c.self.inside.words.items c.deref_mut.result.now c.rename_all.new.list _ c.self.inside.cells.items c.deref_mut-2.result.now
    c.rename_all-2.new.list _ c.args.numbers.now c.self.inside.bases (sym c.deref_mut.ensures.value) (sym c.deref_mut-2.ensures.value)
    (written-back c.rename_all.new.list c.self.inside.words.items c.self.inside.words.len
    (omega (arith, c.rename_all.ensures.long, c.deref_mut.ensures.len, c.self.inside.words.ok.0)))
    (written-back c.rename_all-2.new.list c.self.inside.cells.items c.self.inside.cells.len
    (omega (arith, c.rename_all-2.ensures.long, c.deref_mut-2.ensures.len, c.self.inside.cells.ok.0)))
    c.rename_all.ensures.long c.rename_all-2.ensures.long c.rename_all.ensures.renamed c.rename_all-2.ensures.renamed c.self.invariant

pub returns-clause-count : goal.returns-clause-count
returns-clause-count g c = ap (λ (o : NumberCopies). length o.base_rows) c.self.view_is

pub returns-clause-long : goal.returns-clause-long
returns-clause-long g c =
    ap (λ (l : List ℕ). length l) (written-back c.rename_all-2.new.list c.self.inside.cells.items c.self.inside.cells.len
    (omega (arith, c.rename_all-2.ensures.long, c.deref_mut-2.ensures.len, c.self.inside.cells.ok.0)))
    ∙ c.rename_all-2.ensures.long ∙ ap (λ (l : List ℕ). length l) c.deref_mut-2.ensures.value
    ∙ ap (λ (o : NumberCopies). length o.cells) c.self.view_is

pub returns-clause-now : goal.returns-clause-now
returns-clause-now g c i =
    back-renamed c.self.inside.cells.items c.deref_mut-2.result.now c.rename_all-2.new.list _ c.args.numbers.now i (sym c.deref_mut-2.ensures.value)
    (written-back c.rename_all-2.new.list c.self.inside.cells.items c.self.inside.cells.len
    (omega (arith, c.rename_all-2.ensures.long, c.deref_mut-2.ensures.len, c.self.inside.cells.ok.0))) c.rename_all-2.ensures.renamed
    ∙ ap (λ (o : NumberCopies). renamed c.args.numbers.now (number_now o i)) c.self.view_is

pub returns-clause-saved : goal.returns-clause-saved
returns-clause-saved g c k i =
    back-renamed c.self.inside.words.items c.deref_mut.result.now c.rename_all.new.list _ c.args.numbers.now
    (saved_at c.self.inside.bases k (i / 64) + i % 64) (sym c.deref_mut.ensures.value)
    (written-back c.rename_all.new.list c.self.inside.words.items c.self.inside.words.len
    (omega (arith, c.rename_all.ensures.long, c.deref_mut.ensures.len, c.self.inside.words.ok.0))) c.rename_all.ensures.renamed
    ∙ ap (λ (o : NumberCopies). renamed c.args.numbers.now (saved_number o k i)) c.self.view_is
