-- A function whose blocks are moved has the same paths.
use Rattle.std.proofs.Common.{ℕ, ◌≡◌, ◌∙◌, ◌+◌, ◌-◌, ◌<◌, ◌≤◌, Bool, true, false, cond, List, [], ◌∷◌, length, get_or, nat_eq, refl, sym, ap, subst, arith}
use Rattle.std.specs.Prelude.{◌↔◌, Contains, Option, nat_lt, slice_index, slice_index_or}
use Rattle.std.proofs.lemmas.Bool.Decides.{nat_tests}
use Rattle.std.proofs.lemmas.List.{get_or-map, length-map}
use Rattle.std.proofs.lemmas.List.Sums.{fails_before_first, passes_at_first}
use Rattle.regalloc2_names.specs.Register.{VirtualRegister, is_vreg}
use Rattle.regalloc2_names.specs.Operand.{OperandValue, is_def}
use Rattle.regalloc2_function.specs.FunctionValue.{FunctionValue, block_at, inst_at}
use Rattle.regalloc2_semantics.specs.Runs.{Way, Onward, ToSuccessor, Location, first_of, next_of, end_of, HasWay, IsPath, last_inst, Stamp, assigned, write_at}
use Rattle.regalloc2_semantics.specs.Runs.{after_defs, arguments_at, passed, over_edge, source_before}
use Rattle.regalloc2_function.specs.WellFormed.{IsFramed}
use Rattle.regalloc2_serialize.specs.Rewrite.Renumbered.{ListsEachOnce, IsRenumberedBlock, HasSamePaths, new_number}
use Rattle.regalloc2_semantics.specs.Laws.{Source}

-- sources that agree at each vreg
pub record Alike (m n : Source) : Type 0 where
  pub alike : (q : VirtualRegister) → m q ≡ n q

either : (b : Bool) (x y z : Option Stamp) → y ≡ z → cond b x y ≡ cond b x z
either true x y z e = refl
either false x y z e = e

assigned-alike : (m n : Source) (v : VirtualRegister) (x y : Option Stamp) → x ≡ y → Alike m n → Alike (assigned m v x) (assigned n v y)
assigned-alike m n v x y e h = record { alike = λ q. rw e (either (is_vreg v q) y (m q) (n q) (h.alike q)) }

chosen : (b : Bool) (m n k l : Source) → Alike m n → Alike k l → Alike (cond b m k) (cond b n l)
chosen true m n k l h g = h
chosen false m n k l h g = g

-- definitions keep sources alike
pub after_defs-alike : (step k : ℕ) (os : List OperandValue) (m n : Source) → Alike m n → Alike (after_defs (write_at step) k os m) (after_defs (write_at step) k os n)
unfolding after_defs
after_defs-alike step k [] m n h = h
after_defs-alike step k (o ∷ os) m n h =
    after_defs-alike step (k + 1) os _ _ (chosen (is_def o.kind) _ _ m n (assigned-alike m n o.vreg _ _ refl h) h)

-- passing arguments keeps sources alike
pub passed-alike : (ps xs : List VirtualRegister) (m n k l : Source) → Alike m n → Alike k l → Alike (passed ps xs m k) (passed ps xs n l)
unfolding passed
passed-alike [] xs m n k l h g = g
passed-alike (p ∷ ps) [] m n k l h g = g
passed-alike (p ∷ ps) (x ∷ xs) m n k l h g =
    passed-alike ps xs m n _ _ h (assigned-alike k l p (m x) (n x) (h.alike x) g)

-- a structurally valid function, and one with its blocks in that order
pub record HasMovedBlocks (f : FunctionValue) (order : List ℕ) (g : FunctionValue) : Type 0 where
  pub listed : ListsEachOnce (length f.blocks) order
  pub framed : IsFramed f
  pub blocks : (n : ℕ) → n < length f.blocks → IsRenumberedBlock f order (slice_index order n) g n
  pub entry : g.entry ≡ new_number order f.entry

-- the number of a listed block is at most each position that lists it
pub low : (order : List ℕ) (b k : ℕ) → slice_index_or order k b ≡ b → new_number order b ≤ k
low order b k is = by (nat_lt k (new_number order b)) refl
  where
    by : (c : Bool) → nat_lt k (new_number order b) ≡ c → new_number order b ≤ k
    by true e =
        let less : k < new_number order b = grind (arith, nat_tests) in
        let no : nat_eq (get_or order k b) b ≡ false = fails_before_first (λ x. nat_eq x b) order k b less in
        let same : get_or order k b ≡ b = is in
        let yes : nat_eq (get_or order k b) b ≡ true = grind (arith, nat_tests) in
        absurd cc
    by false e = grind (arith, nat_tests)

-- the order has a block that it lists at the block's number
pub number-at : (order : List ℕ) (b : ℕ) → Contains order b → (new_number order b < length order) × (slice_index order (new_number order b) ≡ b)
number-at order b has =
    let least : new_number order b ≤ has.0 = low order b has.0 has.2 in
    let less : new_number order b < length order = omega (arith, least, has.1) in
    let passes : nat_eq (get_or order (new_number order b) 0) b ≡ true = passes_at_first (λ x. nat_eq x b) order 0 less in
    (less, grind (arith, nat_tests))

-- where the other function has a location
abbrev moved_to : FunctionValue → List ℕ → FunctionValue → Location → Location
moved_to f order g l = record {
  block = new_number order l.block;
  inst = (block_at g (new_number order l.block)).range.first + (l.inst - (block_at f l.block).range.first);
}

-- a location in its block
record IsIn (f : FunctionValue) (l : Location) : Type 0 where
  block : l.block < length f.blocks
  first : (block_at f l.block).range.first ≤ l.inst
  end : l.inst < (block_at f l.block).range.end

module _ (f : FunctionValue) (order : List ℕ) (g : FunctionValue) (h : HasMovedBlocks f order g) where
  moved : (b : ℕ) → b < length f.blocks → IsRenumberedBlock f order b g (new_number order b)
  moved b less =
      let at = number-at order b (h.listed.each b less) in
      subst (λ c. IsRenumberedBlock f order c g (new_number order b)) at.1 (h.blocks (new_number order b) (omega (arith, at.0, h.listed.long)))

  first-in : (b : ℕ) → b < length f.blocks → IsIn f (first_of f b)
  first-in b less = record { block = less; first = omega arith; end = (h.framed.follow b less).0 }

  first-moved : (b : ℕ) → first_of g (new_number order b) ≡ moved_to f order g (first_of f b)
  first-moved b =
      let n : ℕ = new_number order b in
      let e : (block_at g n).range.first ≡ (block_at g n).range.first + ((block_at f b).range.first - (block_at f b).range.first) = omega arith in
      ap (λ (i : ℕ). record { block = n; inst = i }) e

  target : (b k : ℕ) → b < length f.blocks → k < length (block_at f b).succs →
      slice_index (block_at g (new_number order b)).succs k ≡ new_number order (slice_index (block_at f b).succs k)
  target b k less within =
      rw (moved b less).succs (get_or-map (new_number order) (block_at f b).succs k 0 0 within)

  count-succs : (b : ℕ) → b < length f.blocks → length (block_at g (new_number order b)).succs ≡ length (block_at f b).succs
  count-succs b less = ap length (moved b less).succs ∙ length-map (block_at f b).succs (new_number order)

  way-there : (l : Location) (w : Way) → IsIn f l → HasWay f l w → HasWay g (moved_to f order g l) w
  way-there l Onward is way = omega (arith, (moved l.block is.block).long, is.first, way)
  way-there l (ToSuccessor k) is way = (
    omega (arith, (moved l.block is.block).long, is.first, way.0),
    omega (arith, count-succs l.block is.block, way.1),
  )

  way-back : (l : Location) (w : Way) → IsIn f l → HasWay g (moved_to f order g l) w → HasWay f l w
  way-back l Onward is way = omega (arith, (moved l.block is.block).long, is.first, way)
  way-back l (ToSuccessor k) is way = (
    omega (arith, (moved l.block is.block).long, is.first, way.0),
    omega (arith, count-succs l.block is.block, way.1),
  )

  next-in : (l : Location) (w : Way) → IsIn f l → HasWay f l w → IsIn f (next_of f l w)
  next-in l Onward is way = record { block = is.block; first = omega (arith, is.first); end = way }
  next-in l (ToSuccessor k) is way =
      first-in (slice_index (block_at f l.block).succs k) (h.framed.successors.1 l.block is.block k 0 way.1)

  next-moved : (l : Location) (w : Way) → IsIn f l → HasWay f l w → next_of g (moved_to f order g l) w ≡ moved_to f order g (next_of f l w)
  next-moved l Onward is way =
      let n : ℕ = new_number order l.block in
      let e : (block_at g n).range.first + (l.inst - (block_at f l.block).range.first) + 1
      ≡ (block_at g n).range.first + (l.inst + 1 - (block_at f l.block).range.first) = omega (arith, is.first) in
      ap (λ (i : ℕ). record { block = n; inst = i }) e
  next-moved l (ToSuccessor k) is way =
      ap (first_of g) (target l.block k is.block way.1) ∙ first-moved (slice_index (block_at f l.block).succs k)

  -- a path ends in a block, and as a path of the other function at the same instruction of that block
  record EndsAlike (ws : List Way) : Type 0 where
    is : IsIn f (end_of f ws)
    same : end_of g ws ≡ moved_to f order g (end_of f ws)

  ends : (ws : List Way) → IsPath f ws → EndsAlike ws
  ends [] path = record {
    is = first-in f.entry h.framed.successors.0;
    same = ap (first_of g) h.entry ∙ first-moved f.entry;
  }
  ends (w ∷ ws) path =
      let e = ends ws path.0 in
      record {
        is = next-in (end_of f ws) w e.is path.1;
        same = ap (λ (l : Location). next_of g l w) e.same ∙ next-moved (end_of f ws) w e.is path.1;
      }

  path-there : (ws : List Way) (w : Way) → (IsPath f ws ↔ IsPath g ws) → IsPath f (w ∷ ws) → IsPath g (w ∷ ws)
  path-there ws w same path =
      let e = ends ws path.0 in
      (same.0 path.0, subst (λ l. HasWay g l w) (sym e.same) (way-there (end_of f ws) w e.is path.1))

  path-back : (ws : List Way) (w : Way) → (IsPath f ws ↔ IsPath g ws) → IsPath g (w ∷ ws) → IsPath f (w ∷ ws)
  path-back ws w same path =
      let before = same.1 path.0 in
      let e = ends ws before in
      (before, way-back (end_of f ws) w e.is (subst (λ l. HasWay g l w) e.same path.1))

  paths : (ws : List Way) → IsPath f ws ↔ IsPath g ws
  paths [] = (λ p. tt, λ p. tt)
  paths (w ∷ ws) = (path-there ws w (paths ws), path-back ws w (paths ws))

  insts : (ws : List Way) → IsPath f ws → last_inst g ws ≡ last_inst f ws
  insts ws path =
      let e = ends ws path in
      let l : Location = end_of f ws in
      let first : ℕ = (block_at f l.block).range.first in
      let back : first + (l.inst - first) ≡ l.inst = omega (arith, e.is.first) in
      ap (λ (m : Location). inst_at g m.inst) e.same
      ∙ (moved l.block e.is.block).insts (l.inst - first) (omega (arith, e.is.first, e.is.end)) ∙ ap (inst_at f) back

  edge-alike : (l : Location) (w : Way) (m n : Source) → IsIn f l → HasWay f l w → Alike m n →
      Alike (over_edge g (moved_to f order g l) w m) (over_edge f l w n)
  unfolding over_edge passed
  edge-alike l Onward m n is way a = a
  edge-alike l (ToSuccessor k) m n is way a =
      let b : ℕ = l.block in
      let t : ℕ = slice_index (block_at f b).succs k in
      let params = ap (λ (c : ℕ). (block_at g c).params) (target b k is.block way.1) ∙ (moved t (h.framed.successors.1 b is.block k 0 way.1)).params in
      rw (params, (moved b is.block).arguments k way.1) (passed-alike (block_at f t).params (arguments_at f b k) m n m n a a)

  writes : (ws : List Way) → IsPath f ws → Alike (source_before g ws) (source_before f ws)
  unfolding source_before
  writes [] path = record { alike = λ q. refl }
  writes (w ∷ ws) path =
      let e = ends ws path.0 in
      let defs : Alike (after_defs (write_at (length ws)) 0 (last_inst g ws).operands (source_before g ws))
      (after_defs (write_at (length ws)) 0 (last_inst f ws).operands (source_before f ws)) =
      rw (insts ws path.0) (after_defs-alike (length ws) 0 (last_inst f ws).operands _ _ (writes ws path.0)) in
      let after : Source = after_defs (write_at (length ws)) 0 (last_inst g ws).operands (source_before g ws) in
      subst (λ l. Alike (over_edge g l w after) (source_before f (w ∷ ws))) (sym e.same) (edge-alike (end_of f ws) w _ _ e.is path.1 defs)

  -- a function with its blocks in another order has the same paths
  pub same-paths : HasSamePaths f g
  same-paths = record { paths = paths; insts = insts; writes = λ ws path v. (writes ws path).alike v }
