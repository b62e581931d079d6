use Rattle.std.proofs.Common.{List, ◌≡◌, Bool, arith, sym, ap, get_or, true, false, ◌∙◌}
use Rattle.std.proofs.lemmas.List.{get_or-replicate}
use Rattle.regalloc2_checker_sets.proofs.MovedDown.{written-back}
use Rattle.regalloc2_checker_sets.proofs.Renumbered.{kept-as, members-renamed, kept-appears}
use Rattle.regalloc2_checker_sets.proofs.unused_sets.drop_unused_sets.Goals as goal

pub returns-clause-same : goal.returns-clause-same
returns-clause-same g c =
    let marks : c.deref.result.now ≡ c.note_numbers.new.used = c.deref.ensures.value ∙ written-back c.note_numbers.new.used c.in_ok-used.used.items
    c.in_ok-used.used.len (omega (arith, c.note_numbers.ensures.long, c.deref_mut.ensures.len, c.in_ok-used.used.ok.0)) in
    members-renamed c.args.sets.now c.keep_marked.new.self c.args.entries.now c.renumber.new.self c.note_numbers.new.used c.deref-2.result.now
    c.requires.below c.requires.empty
    (kept-as _ _ _ _ _ _ marks (sym c.deref-2.ensures.value) c.in_ok-numbers.ensures.kept)
    c.renumber.ensures.count c.renumber.ensures.long c.note_numbers.ensures.now c.note_numbers.ensures.saved c.renumber.ensures.now c.renumber.ensures.saved

pub returns-clause-used : goal.returns-clause-used
returns-clause-used g c =
    let marks : c.deref.result.now ≡ c.note_numbers.new.used = c.deref.ensures.value ∙ written-back c.note_numbers.new.used c.in_ok-used.used.items
    c.in_ok-used.used.len (omega (arith, c.note_numbers.ensures.long, c.deref_mut.ensures.len, c.in_ok-used.used.ok.0)) in
    kept-appears c.args.sets.now c.keep_marked.new.self c.args.entries.now c.renumber.new.self c.deref_mut.result.now c.note_numbers.new.used
    c.deref-2.result.now
    (kept-as _ _ _ _ _ _ marks (sym c.deref-2.ensures.value) c.in_ok-numbers.ensures.kept)
    (omega (arith, c.kept_count.ensures, c.deref_mut.ensures.len, c.in_ok-used.ensures.len))
    (λ j l. ap (λ (xs : List Bool). get_or xs j true) c.deref_mut.ensures.value
    ∙ ap (λ (xs : List Bool). get_or xs j true) (c.in_ok-used.ensures.items_if_clones_equal (λ y h. h))
    ∙ get_or-replicate c.kept_count.result j false true (omega (arith, l, c.deref_mut.ensures.len, c.in_ok-used.ensures.len)))
    c.note_numbers.ensures.only c.renumber.ensures.all
