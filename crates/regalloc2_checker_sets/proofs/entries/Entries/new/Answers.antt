use Rattle.std.proofs.Common.{List, ℕ, ◌*◌, ◌/◌, ◌+◌, ◌∙◌, ap, arith, get_or}
use Rattle.std.proofs.lemmas.List.{get_or-replicate}
use Rattle.regalloc2_checker_sets.proofs.Rows.{zeros}
use Rattle.regalloc2_checker_sets.proofs.Chunks.{chunks-new}
use Rattle.regalloc2_checker_sets.proofs.entries.Entries.new.Goals as goal

pub invariant_of-result : goal.invariant_of-result
invariant_of-result g c =
    chunks-new c.in_ok-words.words.items c.in_ok-cells.cells.items c.in_ok-bases.bases
    (omega (arith, c.in_ok-words.ensures.long))
    c.in_ok-words.ensures.zeros
    (λ i. zeros c.in_ok-cells.cells.items (64 * (c.args.size / 64 + 1)) i (omega (arith, c.in_ok-cells.ensures.len, c.in_ok-cells.cells.ok.0))
    (λ k l. ap (λ (xs : List ℕ). get_or xs k 0) (c.in_ok-cells.ensures.items_if_clones_equal (λ y h. h)) ∙ get_or-replicate (64 * (c.args.size / 64 + 1)) k 0 0 l))
    (omega (arith, c.in_ok-cells.ensures.len, c.in_ok-cells.cells.ok.0))
    (omega (arith, c.in_ok-cells.ensures.len, c.in_ok-cells.cells.ok.0, c.in_ok-bases.ensures.long))
    c.in_ok-bases.ensures.cells c.in_ok-bases.ensures.saved

pub returns-clause-cells : goal.returns-clause-cells
returns-clause-cells g c i =
    zeros c.in_ok-cells.cells.items (64 * (c.args.size / 64 + 1)) i (omega (arith, c.in_ok-cells.ensures.len, c.in_ok-cells.cells.ok.0))
    (λ k l. ap (λ (xs : List ℕ). get_or xs k 0) (c.in_ok-cells.ensures.items_if_clones_equal (λ y h. h)) ∙ get_or-replicate (64 * (c.args.size / 64 + 1)) k 0 0 l)

pub returns-clause-saved : goal.returns-clause-saved
returns-clause-saved g c k i =
    c.in_ok-words.ensures.zeros _
