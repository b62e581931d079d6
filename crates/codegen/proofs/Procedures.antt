-- The function of a procedure, instruction by instruction and block by block.
use Rattle.std.proofs.Common.{ℕ, zero, suc, ◌≡◌, ◌-◌, ◌<◌, ◌≤◌, true, List, [], ◌∷◌, length, map, refl, arith, leb-true}
use Rattle.std.specs.Prelude.{slice_index_or, slice_get, nat_lt}
use Rattle.std.specs.List.{list_all}
use Rattle.std.proofs.lemmas.List.{length-map}
use Rattle.std.proofs.lemmas.Bool.{and_parts}
use Rattle.regalloc2_names.specs.Register.{Register, has_register}
use Rattle.regalloc2_function.specs.FunctionValue.{InstValue, no_inst, no_block, block_at, inst_at}
use Rattle.codegen_operation.specs.Operands.{operands_of, is_lost_in, is_jump, is_return}
use Rattle.codegen_machine.specs.Successors.{wanted_by, operations_of, are_enough, has_successors, knows_registers}
use Rattle.codegen_machine.specs.Seen.{function_of_procedure, inst_of_line, block_of_part, operations}
use Rattle.codegen_operation.specs.declared.operation.Operation.{Operation}
use Rattle.codegen_operation.specs.declared.operation.Operation.TheVariants.{Jump as GoTo}
use Rattle.codegen_operation.specs.declared.line.Line.{Line}
use Rattle.codegen_machine.specs.declared.procedure.Part.{Part}
use Rattle.codegen_machine.specs.declared.procedure.Procedure.{Procedure}
use Rattle.codegen_emit.specs.Emitted.{operation_at}

-- an instruction is that of an operation
pub record IsInstOf (i : InstValue) (o : Operation) : Type 0 where
  pub operands : i.operands ≡ operands_of o
  pub clobbers : (r : Register) → has_register i.clobbers r ≡ is_lost_in o r
  pub branches : i.is_branch ≡ is_jump o
  pub returns : i.is_ret ≡ is_return o

each_inst : (lines : List Line) (i : ℕ) → i < length lines → IsInstOf (slice_index_or (map inst_of_line lines) i no_inst)
    (slice_index_or (operations_of lines) i GoTo)
each_inst [] i less = absurd (omega arith)
each_inst (l ∷ ls) zero less = record { operands = refl; clobbers = l.overwrites; branches = refl; returns = refl }
each_inst (l ∷ ls) (suc i) less = each_inst ls i (omega arith)

each_known : (n : ℕ) (lines : List Line) (i : ℕ) → list_all (knows_registers n) lines ≡ true → i < length lines →
    list_all (λ o. nat_lt o.vreg.number n) (operands_of (slice_index_or (operations_of lines) i GoTo)) ≡ true
each_known n [] i h less = absurd (omega arith)
each_known n (l ∷ ls) zero h less = (and_parts _ _ h).0
each_known n (l ∷ ls) (suc i) h less = each_known n ls i (and_parts _ _ h).1 (omega arith)

each_block : (os : List Operation) (parts : List Part) (b : ℕ) → list_all (has_successors os) parts ≡ true → b < length parts →
    are_enough (length (slice_index_or (map block_of_part parts) b no_block).succs)
    (slice_get os ((slice_index_or (map block_of_part parts) b no_block).range.end - 1)) ≡ true
each_block os [] b h less = absurd (omega arith)
each_block os (p ∷ ps) zero h less = (and_parts _ _ h).0
each_block os (p ∷ ps) (suc b) h less = each_block os ps b (and_parts _ _ h).1 (omega arith)

enough : (os : List Operation) (i count : ℕ) → i < length os → are_enough count (slice_get os i) ≡ true → wanted_by (slice_index_or os i GoTo) ≤ count
enough [] i count less h = absurd (omega arith)
enough (o ∷ os) zero count less h = leb-true _ _ h
enough (o ∷ os) (suc i) count less h = enough os i count (omega arith) h

-- each instruction of a procedure is its operation's
pub insts_are : (p : Procedure) (i : ℕ) → i < length (function_of_procedure p).insts → IsInstOf (inst_at (function_of_procedure p) i)
    (operation_at (operations p) i)
insts_are p i less = each_inst p.lines.items i (rw length-map at less)

-- an operation's virtual registers have numbers below the procedure's count
pub registers_known : (p : Procedure) (i : ℕ) → i < length (function_of_procedure p).insts →
    list_all (λ o. nat_lt o.vreg.number p.num_vregs) (operands_of (operation_at (operations p) i)) ≡ true
registers_known p i less = each_known p.num_vregs p.lines.items i p.known (rw length-map at less)

-- the blocks of a procedure have the successors that their last lines require
pub blocks_have : (p : Procedure) (b : ℕ) → b < length (function_of_procedure p).blocks → (block_at (function_of_procedure p) b).range.end - 1 < length
    (operations p).items →
    wanted_by (operation_at (operations p) ((block_at (function_of_procedure p) b).range.end - 1)) ≤ length (block_at (function_of_procedure p) b).succs
blocks_have p b less within =
    enough (operations p).items _ _ within (each_block (operations p).items p.parts.items b p.successors (rw length-map at less))
