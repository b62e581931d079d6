use Rattle.regalloc2_parts.proofs.moves.scratch.MoveAndScratchResolver.compute.Goals as goal

pub returns : goal.returns
returns g c = record { computed = (c.compute_by_ref.new.self, c.compute_by_ref.ensures.computed) }
