use Rattle.std.proofs.Common.{◌∙◌, ◌++◌, ◌∷◌, [], ap, arith, List}
use Rattle.std.proofs.lemmas.List.{nil_from_length}
use Rattle.regalloc2_checker.proofs.checker.single_error.Goals as goal

pub returns : goal.returns
returns g c =
    c.push_reserved.ensures.items
    ∙ ap (λ (xs : List _). xs ++ (c.args.error ∷ [])) (nil_from_length c.args.room.items (omega (arith, c.requires.empty, c.args.room.ok.0)))
