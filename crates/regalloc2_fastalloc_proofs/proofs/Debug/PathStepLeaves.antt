-- What one step of a path preserves: v's last write, and the value of a place that the step doesn't write.
use Rattle.std.proofs.Common.{ℕ, ◌≡◌, List, ◌∷◌, length, sym, ap, ◌∙◌, ◌⊎◌, inl, inr}
use Rattle.std.specs.Prelude.{Option}
use Rattle.regalloc2_names.specs.declared.OperandPos.{OperandPos}
use Rattle.regalloc2_names.specs.declared.OperandPos.TheVariants.{Early, Late}
use Rattle.regalloc2_names.specs.Register.{VirtualRegister}
use Rattle.regalloc2_names.specs.Operand.{OperandValue}
use Rattle.regalloc2_names.specs.Place.{Place}
use Rattle.regalloc2_function.specs.FunctionValue.{FunctionValue, block_at, inst_at, op_at}
use Rattle.regalloc2_function.specs.OutputValue.{OutputValue, allocs_of, place_at}
use Rattle.regalloc2_semantics.specs.Runs.{Way, Onward, ToSuccessor, end_of, Stamp, read_of, arguments_at, source_before, source_after, over_edge}
use Rattle.regalloc2_semantics.specs.Runs.{after_moves, moves_at, cells_early, cells_late, cells_before}
use Rattle.regalloc2_semantics.specs.Laws.{ReadsAgree}
use Rattle.regalloc2_carry.specs.Carry.{Spares}
use Rattle.regalloc2_semantics.specs.Sound.{Undefined, target_at, IsAside}
use Rattle.regalloc2_carry.proofs.UnwrittenPlaces.{NoMoveTo, moves_kept}
use Rattle.regalloc2_carry.proofs.ParamsOnEdge.{passed-other}
use Rattle.regalloc2_semantics.proofs.AfterWrites.{after_defs-other}
use Rattle.regalloc2_carry.proofs.BothRuns.{early-other, late-spared}
use Rattle.regalloc2_fastalloc_proofs.specs.Debug.SlotHoldsValue.{ReadsInPlace, ShowsAt}
use Rattle.regalloc2_semantics.specs.Laws.{Cells}

-- a step that doesn't write v keeps v's last write
pub source_on : (f : FunctionValue) (ws : List Way) (w : Way) (v : VirtualRegister) → Undefined (inst_at f (end_of f ws).inst).operands v →
    IsAside f v (end_of f ws) w → source_before f (w ∷ ws) v ≡ source_before f ws v
unfolding source_before over_edge
source_on f ws Onward v h aside = after_defs-other (inst_at f (end_of f ws).inst).operands (length ws) 0 (source_before f ws) v h
source_on f ws (ToSuccessor k) v h aside =
    passed-other (block_at f (target_at f (end_of f ws).block k)).params (arguments_at f (end_of f ws).block k) (source_after f ws) (source_after f ws) v aside
    ∙ after_defs-other (inst_at f (end_of f ws).inst).operands (length ws) 0 (source_before f ws) v h

-- a place that an instruction doesn't write keeps what it held after the moves before it
pub cells_on : (f : FunctionValue) (out : OutputValue) (ws : List Way) (w : Way) (p : Place) →
    Spares (inst_at f (end_of f ws).inst).operands (allocs_of out (end_of f ws).inst) (inst_at f (end_of f ws).inst).clobbers p →
    cells_before f out (w ∷ ws) p ≡ after_moves (moves_at f out (end_of f ws)) (cells_before f out ws) p
unfolding cells_before
cells_on f out ws w p h =
    late-spared (length ws) (inst_at f (end_of f ws).inst).operands (allocs_of out (end_of f ws).inst) (inst_at f (end_of f ws).inst).clobbers
    (after_moves (moves_at f out (end_of f ws)) (cells_before f out ws)) p h

read_both : (q : OperandPos) (a b x : Option Stamp) → a ≡ x → b ≡ x → read_of q a b ≡ x
read_both Early a b x e h = e
read_both Late a b x e h = h

-- where an operand reads v in a place that its instruction doesn't write, the place holds v's last write
pub read_shows : (f : FunctionValue) (out : OutputValue) (ws : List Way) (v : VirtualRegister) (p : Place) (k : ℕ) → ReadsAgree f out ws →
    ReadsInPlace f out v p (end_of f ws).inst k → Undefined (inst_at f (end_of f ws).inst).operands v →
    Spares (inst_at f (end_of f ws).inst).operands (allocs_of out (end_of f ws).inst) (inst_at f (end_of f ws).inst).clobbers p → ShowsAt f out v p ws
read_shows f out ws v p k agree r undefined spares =
    let ops : List OperandValue = (inst_at f (end_of f ws).inst).operands in
    let places : List Place = allocs_of out (end_of f ws).inst in
    let o : OperandValue = op_at ops k in
    let c : Cells = after_moves (moves_at f out (end_of f ws)) (cells_before f out ws) in
    let early : Cells = cells_early f out (end_of f ws) (cells_before f out ws) in
    let late : Cells = cells_late f out (end_of f ws) (length ws) early in
    let e : early (place_at places k) ≡ c p = ap early r.place ∙ early-other ops places c p (λ j lt d l h. spares.no_definition j lt d h) in
    let l : late (place_at places k) ≡ c p = ap late r.place ∙ late-spared (length ws) ops places (inst_at f (end_of f ws).inst).clobbers c p spares in
    let b : source_before f ws o.vreg ≡ source_before f ws v = ap (source_before f ws) r.vreg in
    let a : source_after f ws o.vreg ≡ source_before f ws v = ap (source_after f ws) r.vreg
    ∙ after_defs-other ops (length ws) 0 (source_before f ws) v undefined in
    sym (read_both o.position (early (place_at places k)) (late (place_at places k)) (c p) e l)
    ∙ (agree k r.within r.reading).1
    ∙ read_both o.position (source_before f ws o.vreg) (source_after f ws o.vreg) (source_before f ws v) b a

-- a place that holds v's last write before the moves holds it after them, if no move writes the place, or the
-- instruction reads v there
pub shows_after : (f : FunctionValue) (out : OutputValue) (ws : List Way) (v : VirtualRegister) (p : Place) → ReadsAgree f out ws →
    Undefined (inst_at f (end_of f ws).inst).operands v →
    Spares (inst_at f (end_of f ws).inst).operands (allocs_of out (end_of f ws).inst) (inst_at f (end_of f ws).inst).clobbers p →
    cells_before f out ws p ≡ source_before f ws v → NoMoveTo p (moves_at f out (end_of f ws)) ⊎ ((k : ℕ) × ReadsInPlace f out v p (end_of f ws).inst k) →
    ShowsAt f out v p ws
shows_after f out ws v p agree undefined spares held (inl none) = moves_kept p (moves_at f out (end_of f ws)) (cells_before f out ws) none ∙ held
shows_after f out ws v p agree undefined spares held (inr (k, r)) = read_shows f out ws v p k agree r undefined spares
