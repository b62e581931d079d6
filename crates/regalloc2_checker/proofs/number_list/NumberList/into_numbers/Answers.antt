use Rattle.std.proofs.Common.{ℕ, ◌≡◌, ◌+◌, ◌<◌, [], ◌∷◌, ◌++◌, ◌∙◌, List, Option, None, Some, length, get_or, take, arith, ap, sym}
use Rattle.std.proofs.lemmas.List.{append-nil, get_or_default, take_all}
use Rattle.std.specs.List.{flat_map}
use Rattle.std.specs.Option.{option_to_list}
use Rattle.regalloc2_checker.proofs.NumberCells.{cells-more}
use Rattle.regalloc2_checker.proofs.number_list.NumberList.into_numbers.Goals.{in-Some+in_ok-push, in_default}
use Rattle.regalloc2_checker.proofs.number_list.NumberList.into_numbers.Goals as goal

-- the number of the next cell is put at the end
filled : (cs : List (Option ℕ)) (k x : ℕ) (o : Option ℕ) (ns new : List ℕ) → k < length cs → o ≡ get_or cs k o → o ≡ Some x → new ≡ ns ++ x ∷ [] →
    ns ≡ flat_map option_to_list (take k cs) → new ≡ flat_map option_to_list (take (k + 1) cs)
filled cs k x o ns new less at is e h =
    e ∙ ap (λ (o : Option ℕ). ns ++ option_to_list o) (sym is ∙ at ∙ get_or_default cs k o None less) ∙ cells-more cs k ns less h

-- no number of a cell is listed
empty : (cs : List (Option ℕ)) (k : ℕ) (o : Option ℕ) (ns new : List ℕ) → k < length cs → o ≡ get_or cs k o → o ≡ None → new ≡ ns →
    ns ≡ flat_map option_to_list (take k cs) → new ≡ flat_map option_to_list (take (k + 1) cs)
empty cs k o ns new less at is e h =
    e ∙ sym (append-nil ns) ∙ ap (λ (o : Option ℕ). ns ++ option_to_list o) (sym is ∙ at ∙ get_or_default cs k o None less)
    ∙ cells-more cs k ns less h

pub loop-k-init : goal.loop-k-init
loop-k-init g c = c.in_ok-numbers.ensures.items

pub loop-k-preserved : goal.loop-k-preserved
loop-k-preserved g c =
    let less : c.loop-k.k < length c.self.inside.cells.items = omega (arith, c.loop-k-test.true, c.len-k-end.ensures, c.self.inside.cells.ok.0) in
    elim c.match-index.branch [
      | in-Some+in_ok-push w ↦ filled c.self.inside.cells.items c.loop-k.k _ c.index.result.now c.loop-k.numbers.items c.match-index.numbers.items less
          c.index.ensures w.in-Some.is (ap (λ v. v.items) w.numbers-is ∙ w.in_ok-push.ensures.items) c.loop-k.invariant
      | in_default w ↦ empty c.self.inside.cells.items c.loop-k.k c.index.result.now c.loop-k.numbers.items c.match-index.numbers.items less
          c.index.ensures w.in_default.is (ap (λ v. v.items) w.numbers-is) c.loop-k.invariant
    ]

pub returns : goal.returns
returns g c =
    let cells : List (Option ℕ) = c.self.inside.cells.items in
    let all = take_all c.loop-k.k cells (omega (arith, c.loop-k-test.false, c.len-k-end.ensures, c.self.inside.cells.ok.0)) in
    c.in_ok-extend_from_slice.ensures.items
    ∙ ap (λ (l : List ℕ). l ++ c.deref.result.now) (c.loop-k.invariant ∙ ap (flat_map option_to_list) all)
    ∙ ap (λ (l : List ℕ). flat_map option_to_list cells ++ l) c.deref.ensures.value ∙ c.self.view_is
