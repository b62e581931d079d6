-- The texts of the errors of a rewrite.
use Rattle.std.specs.Prelude.{ℕ, codes, List}
use Rattle.regalloc2_serialize.specs.declared.rewrite.error.RewriteError.{RewriteError}
use Rattle.regalloc2_serialize.specs.declared.rewrite.error.RewriteError.TheVariants.{Memory, Unframed, NoOrder, Labels, TooManyBlocks, TooManyInsts}

abbrev pub rewrite_text : RewriteError → List ℕ
rewrite_text Memory = codes "out of memory"
rewrite_text Unframed = codes "the function isn't structurally valid"
rewrite_text NoOrder = codes "the order doesn't list each block once"
rewrite_text Labels = codes "the function has labels"
rewrite_text TooManyBlocks = codes "there would be 2^32 - 1 blocks or more"
rewrite_text TooManyInsts = codes "there would be 2^30 instructions or more"
