-- A walk over a whole function.
use Rattle.std.proofs.Common.{List}
use Rattle.regalloc2_names.specs.Place.{Place}
use Rattle.regalloc2_function.specs.FunctionValue.{FunctionValue, IsLimited}
use Rattle.regalloc2_function.specs.Machine.{MachineValue}
use Rattle.regalloc2_function.specs.OutputValue.{OutputValue}
use Rattle.regalloc2_function.specs.WellFormed.{IsWellFormed}
use Rattle.regalloc2_fastalloc_proofs.specs.InstSteps.{StateValue}
use Rattle.regalloc2_fastalloc_proofs.specs.BlockSteps.{AllocsBlocks}
use Rattle.regalloc2_fastalloc_proofs.proofs.Moves.ScratchRegTaken.{Fit}
use Rattle.regalloc2_fastalloc_proofs.proofs.Walk.InstsCarry.{Blank}

-- A walk over all blocks of a well-formed function, from a fresh state and its list of places to the final state and
-- the output's list.
pub record WholeWalk : Type 0 where
  pub env : MachineValue
  pub f : FunctionValue
  pub limited : IsLimited f
  pub ok : IsWellFormed env f
  pub blank : List Place
  pub begin : StateValue
  pub last : StateValue
  pub out : OutputValue
  pub empty : Blank begin
  pub fit : Fit begin
  pub walks : AllocsBlocks f blank begin 0 out.allocs last

-- the record, built from its parts
abbrev pub whole_walk : (env : MachineValue) (f : FunctionValue) → IsLimited f → IsWellFormed env f → (blank : List Place) (begin last : StateValue)
    (out : OutputValue) → Blank begin → Fit begin → AllocsBlocks f blank begin 0 out.allocs last → WholeWalk
whole_walk env f limited ok blank begin last out empty fit walks = record {
  env = env;
  f = f;
  limited = limited;
  ok = ok;
  blank = blank;
  begin = begin;
  last = last;
  out = out;
  empty = empty;
  fit = fit;
  walks = walks;
}
