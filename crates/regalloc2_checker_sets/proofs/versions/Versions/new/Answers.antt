use Rattle.std.proofs.Common.{ℕ, ◌≡◌, ◌<◌, ◌≤◌, ◌+◌, ◌*◌, ◌/◌, [], List, length, get_or, ap, arith, sym, ◌∙◌, refl, subst}
use Rattle.std.specs.Prelude.{Option, None, Some}
use Rattle.std.proofs.lemmas.List.{get_or-replicate, length-map}
use Rattle.regalloc2_checker_sets.proofs.Rows.{within-as, some-same, zeros}
use Rattle.regalloc2_checker_sets.specs.SavedCopies.{IsChunkAt}
use Rattle.regalloc2_checker_sets.proofs.versions.Versions.new.Goals as goal

-- a value that is no other is `Some` of this one
only_some : {X : Type 0} (H : Option X → Type 0) (x : X) → (H None → ⊥) → ((y : X) → H (Some y) → y ≡ x) → (y : Option X) → H y → y ≡ Some x
only_some H x none same None h = absurd (none h)
only_some H x none same (Some y) h = ap Some (same y h)

pub invariant_of-result : goal.invariant_of-result
invariant_of-result g c =
    let cells : (i : ℕ) → get_or c.in_ok-cells.cells.items i 0 ≡ 0 =
    λ i. zeros c.in_ok-cells.cells.items (64 * (c.args.size / 64 + 1)) i (omega (arith, c.in_ok-cells.ensures.len, c.in_ok-cells.cells.ok.0))
    (λ k l. ap (λ (xs : List ℕ). get_or xs k 0) (c.in_ok-cells.ensures.items_if_clones_equal (λ y h. h)) ∙ get_or-replicate (64 * (c.args.size / 64 + 1)) k 0 0 l) in
    let some : 64 ≤ length c.in_ok-words.words.items = omega (arith, c.in_ok-words.ensures.long) in
    record {
      long = omega (arith, c.in_ok-cells.ensures.len, c.in_ok-cells.cells.ok.0, c.in_ok-clean.ensures.len, c.in_ok-clean.clean.ok.0);
      some = some;
      within = λ k. within-as c.in_ok-words.words.items c.in_ok-words.words.items [] _ refl (sym (c.in_ok-saved.ensures.empty k)) (λ j. some);
      known = λ j b l e. (
          let first = ap (λ (xs : List (Option ℕ)). get_or xs j None) (c.in_ok-clean.ensures.items_if_clones_equal (only_some _ 0 (λ no. no) (λ y h. h)))
          ∙ get_or-replicate (c.args.size / 64 + 1) j (Some 0) None (omega (arith, l, c.in_ok-clean.ensures.len, c.in_ok-clean.clean.ok.0)) in
          subst (λ (x : ℕ). IsChunkAt c.in_ok-words.words.items c.in_ok-cells.cells.items j x) (some-same 0 b (sym first ∙ e))
          (record {
            within = some;
            same = λ t lt. cells (64 * j + t) ∙ sym (c.in_ok-words.ensures.zeros (0 + t));
          }));
    }

pub returns-clause-cells : goal.returns-clause-cells
returns-clause-cells g c i = zeros c.in_ok-cells.cells.items (64 * (c.args.size / 64 + 1)) i
    (omega (arith, c.in_ok-cells.ensures.len, c.in_ok-cells.cells.ok.0))
    (λ k l. ap (λ (xs : List ℕ). get_or xs k 0) (c.in_ok-cells.ensures.items_if_clones_equal (λ y h. h)) ∙ get_or-replicate (64 * (c.args.size / 64 + 1)) k 0 0 l)

pub returns-clause-long : goal.returns-clause-long
returns-clause-long g c = omega (arith, c.in_ok-cells.ensures.len, c.in_ok-cells.cells.ok.0)

pub returns-clause-count : goal.returns-clause-count
returns-clause-count g c = length-map c.in_ok-saved.saved.items _ ∙ c.in_ok-saved.ensures.count

pub returns-clause-saved : goal.returns-clause-saved
returns-clause-saved g c k i =
    c.in_ok-words.ensures.zeros _
