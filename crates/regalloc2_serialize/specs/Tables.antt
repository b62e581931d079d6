-- The function that a serializable function holds.
use Rattle.regalloc2_function.specs.FunctionValue.{FunctionValue}
use Rattle.regalloc2_serialize.specs.TableFunction.Table.{function_of_table}
use Rattle.regalloc2_serialize.specs.declared.tables.SerializableFunction.{SerializableFunction}

abbrev pub function_of_serializable : {A : Type 0} → SerializableFunction A → FunctionValue
function_of_serializable f = function_of_table f.function
