use Rattle.std.proofs.Common.{◌≡◌, ◌∙◌, List, Option, length, get_or, ap, arith, refl}
use Rattle.std.specs.Prelude.{None, Some}
use Rattle.std.proofs.lemmas.List.{get_or-replicate}
use Rattle.regalloc2_checker.specs.declared.passing.Passed.{Passed}
use Rattle.regalloc2_checker.proofs.Shown.{nones, shown-new, shown-empty}
use Rattle.regalloc2_checker.proofs.passing.PassingTables.new.Goals as goal

-- a value that is no `Some` is `None`
only_none : {X : Type 0} (H : Option X → Type 0) → ((x : X) → H (Some x) → ⊥) → (y : Option X) → H y → y ≡ None
only_none H none None h = refl
only_none H none (Some x) h = absurd (none x h)

pub invariant_of-result : goal.invariant_of-result
invariant_of-result g c =
    let long : length c.in_ok-saved.saved.items ≡ c.args.count = omega (arith, c.in_ok-saved.ensures.len, c.in_ok-saved.saved.ok.0) in
    shown-new c.in_ok-tables.tables c.in_ok-saved.saved.items c.args.count c.in_ok-tables.ensures.count long
    (nones c.in_ok-saved.saved.items c.args.count long
    (λ k l. ap (λ (xs : List (Option Passed)). get_or xs k None) (c.in_ok-saved.ensures.items_if_clones_equal (only_none _ (λ x no. no)))
    ∙ get_or-replicate c.args.count k None None l))

pub returns-clause-count : goal.returns-clause-count
returns-clause-count g c = omega (arith, c.in_ok-saved.ensures.len, c.in_ok-saved.saved.ok.0)

pub returns-clause-now : goal.returns-clause-now
returns-clause-now g c i y = c.in_ok-tables.ensures.now i _

pub returns-clause-tables : goal.returns-clause-tables
returns-clause-tables g c k i y = shown-empty c.in_ok-tables.tables None c.in_ok-saved.saved.items c.in_ok-tables.ensures.tables k i y

pub new-requires-clause-places : goal.new-requires-clause-places
new-requires-clause-places g c = c.requires.places

pub new-requires-clause-vregs : goal.new-requires-clause-vregs
new-requires-clause-vregs g c = c.requires.vregs

pub returns-clause-places : goal.returns-clause-places
returns-clause-places g c = c.in_ok-tables.ensures.places

pub returns-clause-vregs : goal.returns-clause-vregs
returns-clause-vregs g c = c.in_ok-tables.ensures.vregs
