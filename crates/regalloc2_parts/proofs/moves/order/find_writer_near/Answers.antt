use Rattle.std.proofs.Common.{◌≡◌, ◌<◌, arith, length, refl}
use Rattle.regalloc2_parts.specs.AtOnce.{ends_of}
use Rattle.regalloc2_parts.proofs.Lists.{length_ends}
use Rattle.regalloc2_parts.proofs.moves.order.find_writer_near.Goals as goal

pub is_writer-requires-clause-proper : goal.is_writer-requires-clause-proper
is_writer-requires-clause-proper g c = c.requires.proper

pub is_writer-requires-clause-real : goal.is_writer-requires-clause-real
is_writer-requires-clause-real g c = c.requires.real

pub find_writer-requires-clause-sorted : goal.find_writer-requires-clause-sorted
find_writer-requires-clause-sorted g c = c.requires.sorted

pub find_writer-requires-clause-proper : goal.find_writer-requires-clause-proper
find_writer-requires-clause-proper g c = c.requires.proper

pub find_writer-requires-clause-real : goal.find_writer-requires-clause-real
find_writer-requires-clause-real g c = c.requires.real

pub returns : goal.returns
returns g c = c.find_writer.ensures

pub returns-then-is_writer : goal.returns-then-is_writer
returns-then-is_writer g c =
    let is = c.if-is_writer.ensures.0 refl in
    let many : length (ends_of c.args.moves.now) ≡ length c.args.moves.now = length_ends c.args.moves.now in
    let low : c.args.guess < length (ends_of c.args.moves.now) = omega (arith, is.0, many) in
    record { within = omega (arith, low); writes = λ l. is.1; absent = λ n. absurd (n low) }
