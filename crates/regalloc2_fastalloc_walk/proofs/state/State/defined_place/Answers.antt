use Rattle.std.proofs.Common.{refl, sym, ◌∙◌}
use Rattle.regalloc2_fastalloc_walk.specs.BranchStores.{held}
use Rattle.regalloc2_fastalloc_walk.proofs.state.State.defined_place.Goals as goal

pub returns-in-Some-clause-ok : goal.returns-in-Some-clause-ok
returns-in-Some-clause-ok g c = held c.in-Some.preg (sym c.fixed_definition.ensures ∙ c.in-Some.is) c.reg.ensures refl
