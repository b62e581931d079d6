-- How far the reading of a line has come.
use Rattle.std.specs.Prelude.{ℕ, ◌-◌, length}
use Rattle.regalloc2_text.specs.declared.cursor.cursor.Cursor.{Cursor}

-- how many tokens are still to be read
abbrev pub tokens_left : Cursor → ℕ
tokens_left c = length c.tokens.now - c.at
