-- The tables of the walk have an entry for each vreg that a well-formed function defines.
use Rattle.std.proofs.Common.{ℕ, ◌≡◌, ◌<◌, ◌∙◌, length, sym, ap, inl, inr, arith}
use Rattle.std.specs.Prelude.{slice_index_or}
use Rattle.std.proofs.lemmas.List.{get_or_default, get_or_past}
use Rattle.std.proofs.lemmas.Bool.{cases_lt}
use Rattle.regalloc2_names.specs.Register.{VirtualRegister, no_vreg}
use Rattle.regalloc2_names.specs.Operand.{OperandValue, is_def}
use Rattle.regalloc2_function.specs.FunctionValue.{FunctionValue, InstValue, block_at, inst_at, no_inst, no_operand, op_at}
use Rattle.regalloc2_function.specs.WellFormed.{DefinedOnce, IsDefinedUpTo}
use Rattle.regalloc2_function.specs.Inside.TableLength.{CoversDefinitions}
use Rattle.regalloc2_carry.proofs.SingleDef.{defined_small, taken_small}
use Rattle.regalloc2_fastalloc_proofs.specs.BlockSteps.{DefinesBelow}

-- an instruction with operands is one of the function's
within : (f : FunctionValue) (i k : ℕ) → k < length (inst_at f i).operands → i < length f.insts
within f i k less = elim (cases_lt i (length f.insts)) [
  | inl lt ↦ lt
  | inr past ↦ absurd (let none = ap (λ (x : InstValue). length x.operands) (get_or_past f.insts i no_inst past) in omega (arith, none, less))
]

-- where each number is defined once, what is defined has a number below the function's count
defined_small_by : (f : FunctionValue) → DefinedOnce f → (v : VirtualRegister) (point : ℕ) → IsDefinedUpTo f v point → v.number < f.num_vregs
defined_small_by f once v point (inl p) =
    let same : slice_index_or (block_at f p.0).params p.3.0 no_vreg ≡ v = get_or_default (block_at f p.0).params p.3.0 no_vreg v p.3.1 ∙ p.3.2 in
    taken_small f once v.number p.0 p.3.0 (record { block = p.1; param = p.3.1; number = ap (λ (w : VirtualRegister). w.number) same })
defined_small_by f once v point (inr o) =
    defined_small f once v.number o.0 o.1 (record {
      inst = within f o.0 o.1 o.3;
      operand = o.3;
      definition = o.4;
      number = ap (λ (w : VirtualRegister). w.number) o.5;
    })

-- a table that has room for the numbers below the count has room for all numbers that are defined
pub has_room : (f : FunctionValue) → DefinedOnce f → (n : ℕ) → CoversDefinitions f n → DefinesBelow f n
has_room f once n room v point defined = room v point defined (defined_small_by f once v point defined)
