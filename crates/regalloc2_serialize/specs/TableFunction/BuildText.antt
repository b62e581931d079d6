-- The texts of a builder's errors.
use Rattle.std.specs.Prelude.{ℕ, codes, List, ◌++◌}
use Rattle.std.specs.Fmt.{decimal}
use Rattle.regalloc2_serialize.specs.declared.table_function.builder.BuildError.{BuildError}
use Rattle.regalloc2_serialize.specs.declared.table_function.builder.BuildError.TheVariants.{Memory, NoBlock, TooManyBlocks, TooManyInsts, TooManyVRegs}

-- for example `block3 isn't declared`
abbrev pub build_text : BuildError → List ℕ
build_text Memory = codes "out of memory"
build_text (NoBlock b) = codes "block" ++ decimal b ++ codes " isn't declared"
build_text TooManyBlocks = codes "there are 2^32 - 1 blocks or more"
build_text TooManyInsts = codes "there are 2^30 instructions or more"
build_text TooManyVRegs = codes "there are 2^30 virtual registers or more"
