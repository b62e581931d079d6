use Rattle.std.proofs.Common.{◌∙◌, arith}
use Rattle.regalloc2_checker.proofs.analyze.tables_of.Goals as goal

pub returns : goal.returns
returns g c =
    let t = c.in_ok-tables.ensures in
    record {
      named = record { places = rw t.places c.in_ok-places.ensures; vregs = rw t.vregs c.in_ok-vregs.ensures };
      count = t.count ∙ omega (arith, c.num_blocks.ensures.count);
      empty = t.tables;
    }
