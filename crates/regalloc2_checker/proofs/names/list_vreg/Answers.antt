use Rattle.std.proofs.Common.{inl, inr, sym}
use Rattle.regalloc2_checker.proofs.names.list_vreg.Goals as goal

pub returns : goal.returns
returns g c = record {
  more = λ n h. (c.in_ok-list.ensures n).1 (inl h);
  listed = (c.in_ok-list.ensures _).1 (inr (sym c.bits.ensures.bits));
}
