use Rattle.std.proofs.Common.{◌<◌, ◌≤◌, ◌⊎◌, take}
use Rattle.std.specs.Prelude.{All}
use Rattle.regalloc2_function.specs.Inside.TableLength.{ReachedByParam}
use Rattle.regalloc2_function.proofs.table_length.above_params.Given as goal

-- the bound is above the parameters so far
abbrev pub invariant-loop-param : goal.invariant-loop-param
invariant-loop-param l = record {
  rises : l.bound ≤ l.above;
  above : All (λ v. v.number < l.above) (take l.param-index l.params);
  near : (l.above ≤ l.bound) ⊎ ReachedByParam l.params l.above;
}
