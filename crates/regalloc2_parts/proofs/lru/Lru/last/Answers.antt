use Rattle.std.proofs.Common.{◌∙◌, reverse, rules, sym}
use Rattle.std.proofs.lemmas.Iterator.Adapters.{option_map_id}
use Rattle.std.proofs.lemmas.Iterator.Consumers.{YieldsList-from_first}
use Rattle.std.proofs.lemmas.Iterator.Search.{find_from_yields_List}
use Rattle.regalloc2_names.specs.Register.{Register, has_register}
use Rattle.regalloc2_parts.proofs.OldestFirst.{if_found, if_none, if_passes}
use Rattle.regalloc2_parts.proofs.lru.Lru.last.Goals as goal

pub returns-clause-oldest : goal.returns-clause-oldest
returns-clause-oldest g c =
    sym (option_map_id c.find.result)
    ∙ find_from_yields_List (has_register c.args.from) _ _ c.find.result c.find.ensures.ran
    (YieldsList-from_first (λ (x : Register). x) (λ (rest : _). rest) (reverse c.args.self.now) c.oldest_first.ensures.walk)
    (λ x b q k. search rules)

pub returns-clause-member : goal.returns-clause-member
returns-clause-member g c = if_found (has_register c.args.from) c.args.self.now c.find.result (returns-clause-oldest g c)

pub returns-clause-in_set : goal.returns-clause-in_set
returns-clause-in_set g c = if_passes (has_register c.args.from) c.args.self.now c.find.result (returns-clause-oldest g c)

pub returns-clause-none : goal.returns-clause-none
returns-clause-none g c = if_none (has_register c.args.from) c.args.self.now c.find.result (returns-clause-oldest g c)
