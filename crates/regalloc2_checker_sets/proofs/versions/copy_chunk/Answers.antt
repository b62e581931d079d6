use Rattle.std.proofs.Common.{◌≡◌, ℕ, ◌+◌, ◌-◌, ◌<◌, ◌≤◌, List, drop, length, length-drop, get_or, arith, rules}
use Rattle.std.proofs.lemmas.List.{length-take, places}
use borrow.Rule.Slice.PartMut.{put_mid}
use Rattle.regalloc2_checker_sets.proofs.versions.copy_chunk.Goals as goal

-- a write to a part leaves what is before it, and what is after it
put_before : (a k : ℕ) (xs ys : List ℕ) (i : ℕ) → i < a → a ≤ length xs → get_or (put_mid a k xs ys) i 0 ≡ get_or xs i 0
put_before a k xs ys i less inside = search (rules, places)

put_after : (a k : ℕ) (xs ys : List ℕ) (i : ℕ) → a + k ≤ i → a ≤ length xs → length ys ≡ k → get_or (put_mid a k xs ys) i 0 ≡ get_or xs i 0
put_after a k xs ys i more inside long = search (rules, places)

pub returns-clause-before : goal.returns-clause-before
returns-clause-before c = λ i less. put_before c.args.first _ c.args.cells.now c.copy_from_slice.new.self i less (omega (arith, c.requires.cells))

pub returns-clause-after : goal.returns-clause-after
returns-clause-after c = λ i more.
    let first = c.args.first in
    let cells : List ℕ = c.args.cells.now in
    let inside : first ≤ length cells = omega (arith, c.requires.cells) in
    let long : length c.copy_from_slice.new.self ≡ first + 64 - first = omega (
      arith,
      c.copy_from_slice.ensures.len,
      length-take (first + 64 - first) (drop first cells),
      length-drop first cells,
      c.requires.cells,
    ) in
    put_after first _ cells c.copy_from_slice.new.self i (omega (arith, more)) inside long
