use Rattle.std.proofs.Common.{◌∙◌, ap, nat_eq}
use Rattle.std.specs.List.{position}
use Rattle.regalloc2_names.specs.PlaceBits.{bits_of_place}
use Rattle.regalloc2_checker.specs.Showing.{Showing}
use Rattle.regalloc2_checker.proofs.passing.PassingTables.place.Goals as goal

pub returns : goal.returns
returns g c = c.place.ensures ∙ ap (λ (o : Showing). position (λ n. nat_eq n (bits_of_place c.args.place)) o.places) c.self.view_is
