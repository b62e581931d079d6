use Rattle.regalloc2_checker_sets.proofs.Noted.{meet-now}
use Rattle.regalloc2_checker_sets.proofs.sets.Sets.new_common.Goals as goal

pub note_met-requires : goal.note_met-requires
note_met-requires g c =
    meet-now c.args.self.now c.walked_common.new.self c.args.set c.args.other c.in_ok-number.number c.walked_common.ensures.more c.requires.set
    c.requires.other c.in_ok-number.ensures.found c.in_ok-number.ensures.less
