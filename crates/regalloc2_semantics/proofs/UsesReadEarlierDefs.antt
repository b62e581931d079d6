-- In a well-formed function a use finds writes of earlier steps alone.
use Rattle.std.proofs.Common.{ℕ, ◌≡◌, ◌<◌, ◌≤◌, List, [], ◌∷◌, length, refl, arith, sym, ◌∙◌, inl, inr}
use Rattle.std.specs.Prelude.{Option, None, Some, IsSome}
use Rattle.regalloc2_names.specs.declared.OperandPos.{OperandPos}
use Rattle.regalloc2_names.specs.declared.OperandPos.TheVariants.{Early, Late}
use Rattle.regalloc2_names.specs.Operand.{OperandValue}
use Rattle.regalloc2_names.specs.Place.{before}
use Rattle.regalloc2_names.specs.Register.{VirtualRegister}
use Rattle.regalloc2_function.specs.FunctionValue.{FunctionValue, block_at, inst_at, no_operand, op_at}
use Rattle.regalloc2_semantics.specs.Runs.{Way, Onward, ToSuccessor, Location, end_of, last_inst, IsPath, Stamp, read_of, source_before, source_after}
use Rattle.regalloc2_semantics.specs.Runs.{source_read}
use Rattle.regalloc2_function.specs.WellFormed.{DefinedOnce, IsDefinedUpTo}
use Rattle.regalloc2_semantics.specs.Laws.{SourceIsEarlier, NumbersGiveReads, AgreeingReadsFindEarlier, ReadsAgreeWhereNumbersDo, WellFormedReadEarlier}
use Rattle.regalloc2_semantics.specs.Sound.{Undefined, HasSoundBlocks}
use Rattle.regalloc2_semantics.proofs.AfterWrites.{after_defs-other}
use Rattle.regalloc2_semantics.proofs.Given.{names_element, has_operands}
use Rattle.regalloc2_semantics.proofs.Soundness.{no_definition, no_second, well_formed_are_sound}

-- a path is at an instruction of a block
record Inside (f : FunctionValue) (l : Location) : Type 0 where
  block : l.block < length f.blocks
  first : (block_at f l.block).range.first ≤ l.inst
  end : l.inst < (block_at f l.block).range.end

inside : (f : FunctionValue) → HasSoundBlocks f → (ws : List Way) → IsPath f ws → Inside f (end_of f ws)
inside f ok [] p = record { block = ok.entry; first = omega arith; end = ok.nonempty f.entry ok.entry }
inside f ok (Onward ∷ ws) p = let h = inside f ok ws p.0 in let low = h.first in record { block = h.block; first = omega arith; end = p.1 }
inside f ok (ToSuccessor k ∷ ws) p = let t = ok.targets (end_of f ws).block k p.1.1 in record { block = t; first = omega arith; end = ok.nonempty _ t }

-- what is defined before an instruction is not defined by it
not_here : (f : FunctionValue) → DefinedOnce f → (i : ℕ) (v : VirtualRegister) → i < length f.insts → IsDefinedUpTo f v (before i) →
    Undefined (inst_at f i).operands v
not_here f once i v within (inl h) = no_definition f once h.0 i v (names_element v (block_at f h.0).params h.3)
not_here f once i v within (inr h) = no_second f once i h.0 v (λ e. absurd (let less = h.2 in omega (arith, less, e))) within
    (has_operands f h.0 h.1 h.3) h.1 no_operand h.3 h.4
    h.5

read_is : (q : OperandPos) (x y : Option Stamp) → y ≡ x → read_of q x y ≡ x
read_is Early x y e = refl
read_is Late x y e = e

the_write : (x : Option Stamp) → IsSome x → (s : Stamp) × (x ≡ Some s)
the_write None h = absurd cc
the_write (Some s) h = (s, refl)

-- in a well-formed function, a use that finds a write on a path finds the write of an earlier step
pub well_formed_read_earlier : SourceIsEarlier → WellFormedReadEarlier
well_formed_read_earlier earlier env f ok ws p written k lt reads =
    let o : OperandValue = op_at (last_inst f ws).operands k in
    let i : ℕ = (end_of f ws).inst in
    let at = inside f (well_formed_are_sound env f ok) ws p in
    let by : IsDefinedUpTo f o.vreg (before i) = (ok.uses_defined (end_of f ws).block at.block).0 i at.first at.end k lt reads in
    let gone : Undefined (inst_at f i).operands o.vreg = not_here f ok.defined_once i o.vreg (has_operands f i k lt) by in
    let same : source_after f ws o.vreg ≡ source_before f ws o.vreg = after_defs-other (last_inst f ws).operands (length ws) 0 (source_before f ws) o.vreg
    gone in
    let read : source_read f ws o ≡ source_before f ws o.vreg = read_is o.position (source_before f ws o.vreg) (source_after f ws o.vreg) same in
    let w = the_write (source_read f ws o) (written k lt reads) in
    (w.0, w.1, earlier f ws o.vreg w.0 (sym read ∙ w.1))

-- in a well-formed function, where reads agree on every path, each use reads the write of an earlier step
pub agreeing_reads_find_earlier : SourceIsEarlier → AgreeingReadsFindEarlier
agreeing_reads_find_earlier earlier env f out ok agree ws p = well_formed_read_earlier earlier env f ok ws p (λ k lt reads. (agree ws p k lt reads).0)

-- in a well-formed function whose uses all find a write, reads agree if both runs read the same numbers whatever the instructions compute
pub agrees_by_numbers : SourceIsEarlier → NumbersGiveReads → ReadsAgreeWhereNumbersDo
agrees_by_numbers earlier back env f out ok written same = back f out (λ ws p. well_formed_read_earlier earlier env f ok ws p (written ws p)) same
