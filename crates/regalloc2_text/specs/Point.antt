-- The text of a program point.
use Rattle.std.specs.Prelude.{ℕ, codes, List, ◌++◌}
use Rattle.std.specs.Fmt.{decimal}
use Rattle.regalloc2_names.specs.Place.{inst_of_point, position_of_point}
use Rattle.regalloc2_names.specs.Text.{position_ending}

-- a program point, as inst3-pre
abbrev pub point_text : ℕ → List ℕ
point_text p = codes "inst" ++ decimal (inst_of_point p) ++ position_ending (position_of_point p)
