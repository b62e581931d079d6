use Rattle.std.proofs.Common.{◌≡◌, ◌∷◌, ◌++◌, length, take}
use Rattle.std.specs.List.{flat_map}
use Rattle.regalloc2.specs.Views.{output_of}
use Rattle.regalloc2_c.specs.Faults.{fault_words}
use Rattle.regalloc2_c.proofs.faults.push_faults.Given as goal

abbrev pub invariant-loop-k : goal.invariant-loop-k
invariant-loop-k g l = l.to.items ≡ l.fn.to.items ++ length l.errors ∷ flat_map (fault_words (g.F.Function.function l.judged.f.now) (output_of l.judged.output.now)) (take l.k l.errors)
