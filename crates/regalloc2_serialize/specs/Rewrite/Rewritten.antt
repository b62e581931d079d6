-- The error of a rewrite for an error of the builder. The errors are this project's.
use Rattle.regalloc2_serialize.specs.declared.table_function.builder.BuildError.{BuildError}
use Rattle.regalloc2_serialize.specs.declared.table_function.builder.BuildError.TheVariants as built
use Rattle.regalloc2_serialize.specs.declared.rewrite.error.RewriteError.{RewriteError}
use Rattle.regalloc2_serialize.specs.declared.rewrite.error.RewriteError.TheVariants.{Memory, Unframed, TooManyBlocks, TooManyInsts}

abbrev pub rewrite_error : BuildError → RewriteError
rewrite_error built.Memory = Memory
rewrite_error (built.NoBlock b) = Unframed
rewrite_error built.TooManyBlocks = TooManyBlocks
rewrite_error built.TooManyInsts = TooManyInsts
rewrite_error built.TooManyVRegs = TooManyBlocks
