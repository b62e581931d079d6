use Rattle.std.proofs.Common.{ap, arith, length, ◌∙◌}
use Rattle.std.proofs.lemmas.List.{with_items_is}
use Rattle.regalloc2_checker_sets.specs.SavedNumbers.{NumberCopies, saved_number}
use Rattle.regalloc2_checker_sets.proofs.Chunks.{chunks-loaded, number-loaded}
use Rattle.regalloc2_checker_sets.proofs.entries.Entries.load.Goals as goal

pub load_chunks-requires : goal.load_chunks-requires
load_chunks-requires g c =
    let count = ap (λ (o : NumberCopies). length o.base_rows) c.self.view_is in
    record { copy = omega (arith, c.requires, count); kept = rw (c.deref.ensures.value, c.deref_mut.ensures.value) c.self.invariant }

pub load-requires : goal.load-requires
load-requires g c = let count = ap (λ (o : NumberCopies). length o.base_rows) c.self.view_is in omega (arith, c.requires, count)

pub returns-clause-count : goal.returns-clause-count
returns-clause-count g c = ap length c.load.ensures.saved ∙ ap (λ (o : NumberCopies). length o.base_rows) c.self.view_is

pub returns-clause-saved : goal.returns-clause-saved
returns-clause-saved g c k i = rw (c.load.ensures.words, c.load.ensures.saved) (ap (λ (o : NumberCopies). saved_number o k i) c.self.view_is)

pub returns-clause-long : goal.returns-clause-long
returns-clause-long g c =
    ap length (with_items_is c.self.inside.cells c.load_chunks.new.cells (c.load_chunks.auto.cells ∙ c.deref_mut.ensures.len))
    ∙ c.load_chunks.auto.cells ∙ ap length c.deref_mut.ensures.value ∙ ap (λ (o : NumberCopies). length o.cells) c.self.view_is

pub returns-clause-loaded : goal.returns-clause-loaded
returns-clause-loaded g c i less =
    let cells = with_items_is c.self.inside.cells c.load_chunks.new.cells (c.load_chunks.auto.cells ∙ c.deref_mut.ensures.len) in
    let long = ap length cells in
    rw cells (number-loaded c.self.inside.words.items c.load_chunks.new.cells c.self.inside.bases c.args.copy i
    (rw c.deref.ensures.value at c.load_chunks.ensures)
    (omega (arith, less, long, c.load_chunks.auto.cells, ap length c.deref_mut.ensures.value, c.self.invariant.long))
    ∙ ap (λ (o : NumberCopies). saved_number o c.args.copy i) c.self.view_is)

pub invariant_of-self : goal.invariant_of-self
invariant_of-self g c =
    let cells = with_items_is c.self.inside.cells c.load_chunks.new.cells (c.load_chunks.auto.cells ∙ c.deref_mut.ensures.len) in
    rw cells (chunks-loaded c.self.inside.words.items c.self.inside.cells.items c.load_chunks.new.cells c.self.inside.bases c.load.new.self c.args.copy
    c.self.invariant (c.load_chunks.auto.cells ∙ ap length c.deref_mut.ensures.value) (rw c.deref.ensures.value at c.load_chunks.ensures)
    c.load.ensures.words c.load.ensures.saved c.load.ensures.long c.load.ensures.loaded)
