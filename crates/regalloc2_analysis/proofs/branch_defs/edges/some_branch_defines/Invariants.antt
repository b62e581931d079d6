use Rattle.std.proofs.Common.{ℕ, ◌≡◌, ◌<◌, length}
use Rattle.regalloc2_analysis.specs.BranchDefs.BranchDefs.{EndsInDefinitions}
use Rattle.regalloc2_analysis.proofs.branch_defs.edges.some_branch_defines.Given as goal

-- the blocks so far don't end in definitions
abbrev pub invariant-loop-b : goal.invariant-loop-b
invariant-loop-b g l = record {
  within : l.b-end ≡ length (g.F.Function.function l.f).blocks;
  so_far : (b : ℕ) → b < l.b → EndsInDefinitions (g.F.Function.function l.f) b → ⊥;
}
