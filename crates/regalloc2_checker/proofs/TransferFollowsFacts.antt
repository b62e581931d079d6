-- A walk over instructions makes the facts of them.
use Rattle.std.proofs.Common.{ℕ, ◌≡◌, ◌+◌, ◌-◌, ◌<◌, ◌≤◌, List, length, get_or, map, refl, arith, sym, ap, ◌∙◌}
use Rattle.std.specs.Prelude.{slice_index}
use Rattle.regalloc2_names.specs.declared.sets.PRegSet.{PRegSet}
use Rattle.regalloc2_names.specs.Register.{VirtualRegister}
use Rattle.regalloc2_names.specs.Operand.{OperandValue}
use Rattle.regalloc2_names.specs.Place.{Place}
use Rattle.regalloc2_function.specs.FunctionValue.{FunctionValue, block_at, inst_at}
use Rattle.regalloc2_function.specs.OutputValue.{OutputValue, MoveValue, allocs_of}
use Rattle.regalloc2_semantics.specs.Runs.{Location, arguments_at, moves_at}
use Rattle.regalloc2_function.specs.declared.listing.Edit.{Edit}
use Rattle.regalloc2_checker.specs.Listing.{listed_move, edits_in, listed_output, IsListing}
use Rattle.regalloc2_checker.specs.Showing.{Showing}
use Rattle.regalloc2_checker.specs.declared.listing.Listed.{Listed}
use Rattle.regalloc2_checker.specs.declared.listing.Listing.{Listing}
use Rattle.regalloc2_checker.specs.Facts.{Facts, facts_after, facts_after_moves, facts_after_early_defs, facts_after_defs, facts_after_clobbers}
use Rattle.regalloc2_checker.specs.Facts.{facts_over_edge}
use Rattle.regalloc2_checker.specs.Fixpoint.{facts_within}
use Rattle.regalloc2_checker.specs.Propagation.{over}
use Rattle.regalloc2_checker.specs.Renamed.{facts_renamed}
use Rattle.regalloc2_checker.specs.TableFacts.{AreNamed}
use Rattle.regalloc2_checker.proofs.Fixpoint.{within-suc}

-- what is read at an instruction: the moves before it, its operands and their places
pub record IsReadAt (f : FunctionValue) (o : OutputValue) (l : Location) (ms : List MoveValue) (ps : List Place) (os : List OperandValue) : Type 0 where
  pub moves : ms ≡ moves_at f o l
  pub places : ps ≡ allocs_of o l.inst
  pub operands : os ≡ (inst_at f l.inst).operands

-- an instruction, as it was run
pub after_run : (f : FunctionValue) (o : OutputValue) (l : Location) (F E L : Facts) (ms : List MoveValue) (ps : List Place) (os : List OperandValue)
    (clobbers : PRegSet) → IsReadAt f o l ms ps os → clobbers ≡ (inst_at f l.inst).clobbers →
    E ≡ facts_after_early_defs ps 0 os (facts_after_moves ms F) → L ≡ facts_after_clobbers clobbers (facts_after_defs ps 0 os E) → L ≡ facts_after f o l F
unfolding facts_after
after_run f o l F E L ms ps os clobbers r ec ee el = rw (el, ee, r.moves, r.places, r.operands, ec) refl

-- what is listed at an instruction
pub listed_moves : (f : FunctionValue) (o : OutputValue) (l : Listing) (b i : ℕ) (ms : List (ℕ × Edit)) → IsListing f o l →
    ((d : Listed) → ms ≡ edits_in l.edits.now (get_or l.listed.now i d)) →
    b < length f.blocks → (block_at f b).range.first ≤ i → i < (block_at f b).range.end → map listed_move ms ≡ moves_at f o (record { block = b; inst = i })
listed_moves f o l b i ms h e lb low high =
    let d : Listed = record { from = 0; end = 0 } in
    ap (λ (es : List (ℕ × Edit)). map listed_move es) (e d) ∙ h.moves.moves b i d lb low high

-- the places listed at an instruction are the places that the output has for its operands
pub listed_places : (f : FunctionValue) (o : OutputValue) (l : Listing) (i : ℕ) (ps : List Place) → IsListing f o l →
    ps ≡ allocs_of (listed_output l) i → ps ≡ allocs_of o i
listed_places f o l i ps h e = rw (← h.allocs, ← h.offsets) e

-- tables that list what another lists name the same
pub named_same : (f : FunctionValue) (o : OutputValue) (t u : Showing) → u.places ≡ t.places → u.vregs ≡ t.vregs → AreNamed f o t → AreNamed f o u
named_same f o t u ep ev h = record { places = rw ep h.places; vregs = rw ev h.vregs }

-- the facts before a block's first instruction
pub within_none : (f : FunctionValue) (o : OutputValue) (b n : ℕ) (F : Facts) → n ≡ 0 → F ≡ facts_within f o b F n
unfolding facts_within
within_none f o b n F e = ap (λ (k : ℕ). facts_within f o b F k) (sym e)

-- the facts after an instruction of a block are the facts within the block one instruction further
pub within_more : (f : FunctionValue) (o : OutputValue) (b i n : ℕ) (F G H : Facts) → n ≡ i → (block_at f b).range.first ≤ i →
    G ≡ facts_within f o b F (i - (block_at f b).range.first) → H ≡ facts_after f o (record { block = b; inst = n }) G →
    H ≡ facts_within f o b F (i + 1 - (block_at f b).range.first)
within_more f o b i n F G H en low e h =
    let w = within-suc f o b F (i + 1 - (block_at f b).range.first) (i - (block_at f b).range.first) i (omega arith) (omega arith) in
    h ∙ ap (λ (m : ℕ). facts_after f o (record { block = b; inst = m }) G) en ∙ ap (λ (X : Facts). facts_after f o (record { block = b; inst = i }) X) e ∙ sym w

-- an edge, as it was gone over
pub over_run : (f : FunctionValue) (b k : ℕ) (F G : Facts) (ps vs : List VirtualRegister) → ps ≡ (block_at f (slice_index (block_at f b).succs k)).params →
    vs ≡ arguments_at f b k → G ≡ facts_renamed ps vs F → G ≡ over f b k F
unfolding facts_over_edge
over_run f b k F G ps vs ep ev e = rw (e, ep, ev) refl
