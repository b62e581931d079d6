use Rattle.std.proofs.lemmas.Result.{err_from_is_err_and}
use Rattle.regalloc2_serialize.proofs.rewrite.edges.split_block.Goals as goal

pub split_edges-requires : goal.split_edges-requires
split_edges-requires g c = c.requires

pub copied_insts-requires : goal.copied_insts-requires
copied_insts-requires g c = record { framed = c.requires.counted.framed; block = c.requires.counted.block }

pub returns-in_err-succs-clause-err : goal.returns-in_err-succs-clause-err
returns-in_err-succs-clause-err g c =
    let p = err_from_is_err_and c.from_residual.result c.from_residual.ensures.1 in rw (p.1, p.2) c.in_err-succs.ensures.err

pub block_params-requires : goal.block_params-requires
block_params-requires g c = c.requires.counted.block

pub returns-clause-jumps : goal.returns-clause-jumps
returns-clause-jumps g c = c.in_ok-succs.ensures.jumps
