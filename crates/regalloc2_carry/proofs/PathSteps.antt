-- One step of a path, in terms of what is left of its block's listing.
use Rattle.std.proofs.Common.{ℕ, suc, ◌≡◌, ◌+◌, true, false, List, length, refl}
use Rattle.std.specs.Prelude.{Option}
use Rattle.regalloc2_names.specs.declared.OperandPos.{OperandPos}
use Rattle.regalloc2_names.specs.declared.OperandPos.TheVariants.{Early, Late}
use Rattle.regalloc2_names.specs.Register.{VirtualRegister}
use Rattle.regalloc2_names.specs.Operand.{OperandValue, is_late}
use Rattle.regalloc2_names.specs.Place.{Place}
use Rattle.regalloc2_function.specs.FunctionValue.{FunctionValue, block_at, inst_at, op_at}
use Rattle.regalloc2_function.specs.OutputValue.{OutputValue, allocs_of}
use Rattle.regalloc2_semantics.specs.Runs.{Way, Location, end_of, last_inst, Stamp, after_defs, read_of, source_before, source_after, cells_early, cells_late, cells_before, moves_at, write_at}
use Rattle.regalloc2_semantics.specs.Laws.{UsesWritten, ReadsAgree, Cells, Source}
use Rattle.regalloc2_carry.specs.Listing.{Item, items_by, items_from}
use Rattle.regalloc2_carry.specs.Carry.{CarriesFrom, Finds}
use Rattle.regalloc2_carry.proofs.CarryRules.{after_their_moves}

-- what is left of a block's listing at a location, with `count` instructions
abbrev pub left_at : FunctionValue → OutputValue → Location → ℕ → List Item
left_at f out l count = items_from f out (block_at f l.block).range.first l.inst count

-- what one instruction, with its moves, gives for v
pub record Stepped (f : FunctionValue) (out : OutputValue) (l : Location) (v : VirtualRegister) (E : Place → Type 0) (left : ℕ) (s : Source) (c : Cells)
    (n : ℕ) : Type 0 where
  pub early : Finds v false (inst_at f l.inst).operands (allocs_of out l.inst) (s v) (cells_early f out l c)
  pub late : Finds v true (inst_at f l.inst).operands (allocs_of out l.inst) (after_defs (write_at n) 0 (inst_at f l.inst).operands s v)
      (cells_late f out l n (cells_early f out l c))
  pub rest : CarriesFrom v E (items_from f out (block_at f l.block).range.first (l.inst + 1) left) (after_defs (write_at n) 0 (inst_at f l.inst).operands s)
      (cells_late f out l n (cells_early f out l c)) (suc n)

-- where what is left of a block carries v, the next instruction's uses of v find its value, and the rest carries v from
-- there
pub stepped : (f : FunctionValue) (out : OutputValue) (l : Location) (v : VirtualRegister) (E : Place → Type 0) (left : ℕ) (s : Source) (c : Cells) (n : ℕ) →
    CarriesFrom v E (left_at f out l (suc left)) s c n → Stepped f out l v E left s c n
unfolding items_by CarriesFrom
stepped f out l v E left s c n g =
    let h = after_their_moves (moves_at f out l) v E _ s c n g in
    record { early = h.0; late = h.1; rest = h.2 }

-- reads at the two positions
read_same : (q : OperandPos) (a b x y : Option Stamp) → (is_late q ≡ false → a ≡ x) → (is_late q ≡ true → b ≡ y) → read_of q a b ≡ read_of q x y
read_same Early a b x y early late = early refl
read_same Late a b x y early late = late refl

-- where each use finds what its vreg has, and that is something, reads agree
pub reads_agree : (f : FunctionValue) (out : OutputValue) (ws : List Way) → UsesWritten f ws →
    ((v : VirtualRegister) → Finds v false (last_inst f ws).operands (allocs_of out (end_of f ws).inst) (source_before f ws v)
    (cells_early f out (end_of f ws) (cells_before f out ws))) →
    ((v : VirtualRegister) → Finds v true (last_inst f ws).operands (allocs_of out (end_of f ws).inst) (source_after f ws v)
    (cells_late f out (end_of f ws) (length ws) (cells_early f out (end_of f ws) (cells_before f out ws)))) →
    ReadsAgree f out ws
reads_agree f out ws written early late k lt reads =
    let o : OperandValue = op_at (last_inst f ws).operands k in
    (written k lt reads, read_same o.position _ _ _ _ (λ h. early o.vreg k lt reads h refl) (λ h. late o.vreg k lt reads h refl))
