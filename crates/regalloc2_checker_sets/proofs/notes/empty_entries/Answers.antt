use Rattle.std.proofs.Common.{List, ap, ◌∙◌, get_or, arith}
use Rattle.std.specs.Prelude.{Option, None}
use Rattle.std.proofs.lemmas.List.{get_or-replicate}
use Rattle.regalloc2_checker_sets.specs.declared.notes.Noted.{Noted}
use Rattle.regalloc2_checker_sets.proofs.Noted.{none-noted, only_none}
use Rattle.regalloc2_checker_sets.proofs.notes.empty_entries.Goals as goal

pub returns : goal.returns
returns g c =
    none-noted c.in_ok-entries.entries.items c.args.room (omega (arith, c.in_ok-entries.ensures.len, c.in_ok-entries.entries.ok.0)) (λ k l. ap (λ (xs : List (Option Noted)). get_or xs k None)
    (c.in_ok-entries.ensures.items_if_clones_equal (only_none _ (λ x no. no))) ∙ get_or-replicate c.args.room k None None l)
