use Rattle.std.proofs.Common.{arith, length, set, ◌≡◌, ◌∙◌, ◌<◌, ℕ, List, [], ◌∷◌, ◌++◌, None, Some, Option, sym, ap, subst}
use Rattle.std.proofs.lemmas.List.{get_or_default, append_assoc}
use Rattle.std.specs.Prelude.{◌↔◌, ◌⊎◌, Contains}
use Rattle.std.specs.List.{flat_map}
use Rattle.std.specs.Option.{option_to_list}
use Rattle.regalloc2_checker.proofs.NamedBits.{members-pushed}
use Rattle.regalloc2_checker.proofs.NumberCells.{cell-filled, cell-listed, listed-again}
use Rattle.regalloc2_checker.proofs.number_list.NumberList.list.Goals as goal

pub returns-in_default : goal.returns-in_default
returns-in_default g c =
    let cells : List (Option ℕ) = c.self.inside.cells.items in
    let others : List ℕ = c.self.inside.others.items in
    let cell : ℕ = c.cell_of-cell.result in
    let inside : cell < length cells = omega (arith, c.cell_of-cell.ensures.inside, c.len.ensures, c.self.inside.cells.ok.0) in
    let none = sym (c.index.ensures ∙ get_or_default cells cell c.index.result.now None inside) ∙ c.in_default.is in
    subst (λ (old : List ℕ). (n : ℕ) → Contains (flat_map option_to_list (set cells cell (Some c.args.number)) ++ others) n ↔ (Contains old n ⊎ (n ≡ c.args.number)))
    c.self.view_is (cell-filled cells cell c.args.number others inside none)

pub returns-then-first-number : goal.returns-then-first-number
returns-then-first-number g c =
    let cells : List (Option ℕ) = c.self.inside.cells.items in
    let cell : ℕ = c.cell_of-cell.result in
    let inside : cell < length cells = omega (arith, c.cell_of-cell.ensures.inside, c.len.ensures, c.self.inside.cells.ok.0) in
    let some = sym (c.index.ensures ∙ get_or_default cells cell c.index.result.now None inside) ∙ c.in-Some.is
    ∙ ap Some c.if-first-number.true in
    listed-again c.args.self.now c.args.number (subst (λ (old : List ℕ). Contains old c.args.number) c.self.view_is
    (cell-listed cells cell c.args.number c.self.inside.others.items inside some))

pub returns : goal.returns
returns g c =
    let cells : List ℕ = flat_map option_to_list c.self.inside.cells.items in
    let others : List ℕ = c.self.inside.others.items in
    let pushed = ap (λ (l : List ℕ). cells ++ l) c.in_ok-push.ensures.items ∙ sym (append_assoc cells others (c.args.number ∷ [])) in
    subst (λ (old : List ℕ). (n : ℕ) → Contains (cells ++ c.push.new.self.items) n ↔ (Contains old n ⊎ (n ≡ c.args.number))) c.self.view_is
    (members-pushed (cells ++ others) (cells ++ c.push.new.self.items) c.args.number pushed)
