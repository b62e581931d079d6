use Rattle.std.proofs.Common.{refl}
use Rattle.regalloc2_serialize.proofs.table_function.table.SlotUnits.one.Goals as goal

pub new-requires-clause-power_of_two : goal.new-requires-clause-power_of_two
unfolding lib.Count.ones
new-requires-clause-power_of_two c = refl
