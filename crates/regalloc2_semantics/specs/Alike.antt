-- The two interpreters run alike.
use Rattle.std.specs.Prelude.{ℕ, ◌≡◌, List, Option, None, Some}
use Rattle.regalloc2_names.specs.Register.{VirtualRegister}
use Rattle.regalloc2_names.specs.Place.{Place}
use Rattle.regalloc2_function.specs.FunctionValue.{FunctionValue, inst_at}
use Rattle.regalloc2_function.specs.Machine.{MachineValue}
use Rattle.regalloc2_function.specs.OutputValue.{OutputValue, allocs_of, place_at}
use Rattle.regalloc2_function.specs.WellFormed.{IsWellFormed}
use Rattle.regalloc2_semantics.specs.Runs.{Way, IsPath}
use Rattle.regalloc2_semantics.specs.Laws.{UsesFindEarlier}
use Rattle.regalloc2_semantics.specs.Faithful.{IsFaithful}
use Rattle.regalloc2_semantics.specs.Interpreters.{History, InstMeaning, State, read_by, is_late_use, vreg_reads, vreg_written, source_run, place_reads}
use Rattle.regalloc2_semantics.specs.Interpreters.{place_written, place_run}

module _ (f : FunctionValue) (out : OutputValue) (meaning : InstMeaning) (noise : History → Place → ℕ) where
  -- Both runs are at the same instruction, have read the same numbers up to it, and read the same numbers there. A vreg that is read late, and its place, still
  -- hold the number read after the instruction's definitions.
  pub record AreAlike (c : State VirtualRegister) (d : State Place) : Type 0 where
    pub at : d.at ≡ c.at
    pub history : d.history ≡ c.history
    pub reads : place_reads f out meaning noise d ≡ vreg_reads f meaning c
    pub late : read_by is_late_use (λ k o. place_written f out meaning noise d (place_at (allocs_of out d.at.inst) k)) 0 (inst_at f d.at.inst).operands
        ≡ read_by is_late_use (λ k o. vreg_written f meaning c o.vreg) 0 (inst_at f c.at.inst).operands
    pub still : read_by is_late_use (λ k o. vreg_written f meaning c o.vreg) 0 (inst_at f c.at.inst).operands
        ≡ read_by is_late_use (λ k o. c.numbers o.vreg) 0 (inst_at f c.at.inst).operands

  -- the runs are alike, or both have ended
  abbrev pub HaveRunAlike : Option (State VirtualRegister) → Option (State Place) → Type 0
  HaveRunAlike None None = Unit {0}
  HaveRunAlike None (Some d) = ⊥
  HaveRunAlike (Some c) None = ⊥
  HaveRunAlike (Some c) (Some d) = AreAlike c d

-- whatever the instructions compute, whatever the noise and the initial numbers are, both runs are alike after any number of steps
abbrev pub RunAlike : FunctionValue → OutputValue → Type 0
RunAlike f out = (meaning : InstMeaning) (noise : History → Place → ℕ) (virtual : VirtualRegister → ℕ) (places : Place → ℕ) (n : ℕ) →
    HaveRunAlike f out meaning noise (source_run f meaning virtual n) (place_run f out meaning noise places n)

-- no use reads what its own instruction writes
abbrev pub ReadsEarlier : FunctionValue → Type 0
ReadsEarlier f = (ws : List Way) → IsPath f ws → UsesFindEarlier f ws

-- the runs of a faithful output are alike, if no use reads what its own instruction writes
abbrev pub FaithfulRunAlike : Type 0
FaithfulRunAlike = (f : FunctionValue) (env : MachineValue) (out : OutputValue) → ReadsEarlier f → IsFaithful f env out → RunAlike f out

-- the runs of a faithful output of a well-formed function are alike, without any other condition
abbrev pub WellFormedRunAlike : Type 0
WellFormedRunAlike = (f : FunctionValue) (env : MachineValue) (out : OutputValue) → IsWellFormed env f → IsFaithful f env out → RunAlike f out
