use Rattle.std.proofs.Common.{ℕ, List, nat_lt, ◌++◌, ap, ◌∙◌}
use Rattle.std.specs.Option.{option_map}
use Rattle.regalloc2_function.specs.Numbers.{times_listed}
use Rattle.regalloc2_checker_sets.specs.Homes.{HomePlaces, more_in, has_few, place_list}
use Rattle.regalloc2_checker_sets.proofs.HomeLaws.{few-listed}
use Rattle.regalloc2_checker_sets.proofs.homes.Home.few.Goals as goal

pub returns : goal.returns
returns g c i =
    let home : HomePlaces = record {
      low = c.self.inside.low;
      first = c.self.inside.first;
      second = c.self.inside.second;
      more = more_in (option_map (λ m. m.now) c.self.inside.more);
    } in
    ap (λ (ns : List ℕ). nat_lt 0 (times_listed (c.new.result ++ (place_list home.first ++ (place_list home.second ++ ns))) i))
    c.numbers_of.ensures
    ∙ few-listed home c.new.result c.new.ensures.members i ∙ ap (λ (h : HomePlaces). has_few h i) c.self.view_is
