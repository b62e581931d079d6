use Rattle.std.proofs.Common.{length, arith, ap}
use Rattle.regalloc2_checker_sets.specs.SavedCopies.{Copies}
use Rattle.regalloc2_checker_sets.proofs.Bits.{read-is}
use Rattle.regalloc2_checker_sets.proofs.versions.Versions.get.Goals as goal

pub index-requires : goal.index-requires
index-requires g c = let v = ap (λ (x : Copies). length x.cells) c.self.view_is in omega (arith, v, c.requires, c.self.inside.cells.ok.0)

pub returns : goal.returns
returns g c = read-is c.self.inside.cells.items c.args.self.now.cells c.args.position c.index.result.now 0 (ap (λ (x : Copies). x.cells) c.self.view_is)
    c.requires c.index.ensures
