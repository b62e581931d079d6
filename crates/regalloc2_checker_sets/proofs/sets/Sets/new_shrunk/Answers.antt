use Rattle.std.specs.Prelude.{false}
use Rattle.regalloc2_checker_sets.proofs.Noted.{change-now}
use Rattle.regalloc2_checker_sets.proofs.sets.Sets.new_shrunk.Goals as goal

pub note_shrunk-requires : goal.note_shrunk-requires
note_shrunk-requires g c =
    change-now false c.args.self.now c.shrunk.new.self c.args.set c.args.bits c.in_ok-number.number c.shrunk.ensures.more c.requires c.in_ok-number.ensures.found
