use Rattle.std.specs.Prelude.{true}
use Rattle.regalloc2_checker_sets.proofs.Noted.{change-now}
use Rattle.regalloc2_checker_sets.proofs.sets.Sets.new_grown.Goals as goal

pub note_grown-requires : goal.note_grown-requires
note_grown-requires g c =
    change-now true c.args.self.now c.added.new.self c.args.set c.args.bits c.in_ok-number.number c.added.ensures.more c.requires c.in_ok-number.ensures.found
