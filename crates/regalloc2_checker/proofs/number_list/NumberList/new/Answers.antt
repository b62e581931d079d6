use Rattle.std.proofs.Common.{◌≡◌, ◌+◌, ◌*◌, ◌/◌, ◌∙◌, List, Option, None, ◌++◌, ℕ, ap, arith, refl}
use Rattle.std.specs.Prelude.{Some}
use Rattle.std.specs.List.{flat_map}
use Rattle.std.specs.Option.{option_to_list}
use Rattle.regalloc2_checker.proofs.NumberCells.{cells-made}
use Rattle.regalloc2_checker.proofs.number_list.NumberList.new.Goals as goal

-- a value that is no `Some` is `None`
only_none : {X : Type 0} (H : Option X → Type 0) → ((x : X) → H (Some x) → ⊥) → (y : Option X) → H y → y ≡ None
only_none H none None h = refl
only_none H none (Some x) h = absurd (none x h)

pub invariant_of-result : goal.invariant_of-result
invariant_of-result g c = omega (arith, c.in_ok-cells.ensures.len, c.in_ok-cells.cells.ok.0)

pub returns : goal.returns
returns g c = ap (λ (l : List ℕ). l ++ c.new.result.items)
    (ap (flat_map option_to_list) (c.in_ok-cells.ensures.items_if_clones_equal (only_none _ (λ x no. no))) ∙ cells-made (c.args.keys / 2 * 2 + 1)) ∙ c.new.ensures.items
