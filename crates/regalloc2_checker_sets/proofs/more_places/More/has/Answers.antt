use Rattle.std.proofs.Common.{List, ℕ, ap, sym, ◌∙◌}
use Rattle.std.specs.Prelude.{◌||◌}
use Rattle.regalloc2_function.specs.Numbers.{NumberSet, has_number}
use Rattle.regalloc2_checker_sets.specs.Homes.{is_one_of}
use Rattle.regalloc2_checker_sets.proofs.MoreLaws.{more-is}
use Rattle.regalloc2_checker_sets.proofs.more_places.More.has.Goals as goal

pub returns-then-is_listed : goal.returns-then-is_listed
returns-then-is_listed g c =
    let listed = ap (λ (ns : List ℕ). is_one_of ns c.args.place) (sym c.numbers.ensures) ∙ sym c.is_listed.ensures ∙ c.if-is_listed.true in
    sym (more-is c.args.self.now c.args.place ∙ ap (λ b. b || has_number c.args.self.now.others c.args.place) listed)

pub returns-in_default : goal.returns-in_default
returns-in_default g c =
    let listed = ap (λ (ns : List ℕ). is_one_of ns c.args.place) (sym c.numbers.ensures) ∙ sym c.is_listed.ensures ∙ c.if-is_listed.false in
    sym (more-is c.args.self.now c.args.place ∙ ap (λ b. b || has_number c.args.self.now.others c.args.place) listed
    ∙ c.in_default.ensures.none c.args.place)

pub returns : goal.returns
returns g c =
    let listed = ap (λ (ns : List ℕ). is_one_of ns c.args.place) (sym c.numbers.ensures) ∙ sym c.is_listed.ensures ∙ c.if-is_listed.false in
    c.get.ensures ∙ ap (λ (s : NumberSet). has_number s c.args.place) c.in-Some.ensures.some
    ∙ sym (more-is c.args.self.now c.args.place ∙ ap (λ b. b || has_number c.args.self.now.others c.args.place) listed)
