-- One value for each register class, as contracts see them.
use Rattle.std.specs.Prelude.{ℕ, List, [], ◌∷◌, Option, None, Some, codes}
use Rattle.std.specs.Fmt.{◌++?◌}

-- the text of the three values, if each has one
abbrev pub text_of_parts : {T : Type 0} → (T → Option (List ℕ)) → List T → Option (List ℕ)
text_of_parts text (int ∷ float ∷ vector ∷ []) =
    Some (codes "{ int: ") ++? text int ++? Some (codes ", float: ") ++? text float ++? Some (codes ", vector: ") ++? text vector ++? Some (codes " }")
text_of_parts text _ = None
