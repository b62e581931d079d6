-- The texts of errors in reading and writing texts.
use Rattle.std.specs.Prelude.{ℕ, ◌+◌, codes, List, ◌++◌, Option, Some, None}
use Rattle.std.specs.Fmt.{decimal, debug_char}
use Rattle.std.specs.Option.{option_map}
use Rattle.regalloc2_text.specs.declared.cursor.error.Expected.{Expected}
use Rattle.regalloc2_text.specs.declared.cursor.error.Expected.TheVariants.{Words, Token, NumberUpTo, NextBlock, NextInst, NoSecond, LineBeginning}
use Rattle.regalloc2_text.specs.declared.writing.WriteError.{WriteError}
use Rattle.regalloc2_text.specs.declared.writing.WriteError.TheVariants.{Memory, Differs}

abbrev pub write_error_text : WriteError → List ℕ
write_error_text Memory = codes "out of memory"
write_error_text Differs = codes "the text reads back as another function or output"

-- what a text needs, as `]` or a number below 64
abbrev pub expected_text : Expected → List ℕ
expected_text (Words words) = words.now
expected_text (Token text) = codes "`" ++ text.now ++ codes "`"
expected_text (NumberUpTo n) = codes "a number below " ++ decimal (n + 1)
expected_text (NextBlock n) = codes "`block" ++ decimal n ++ codes "`, the next number"
expected_text (NextInst n) = codes "`inst" ++ decimal n ++ codes "`, the next number"
expected_text (NoSecond name) = codes "no second `" ++ name.now ++ codes "` line"
expected_text (LineBeginning None) = codes "the beginning of a line"
expected_text (LineBeginning (Some near)) = codes "the beginning of a line (`" ++ near.now ++ codes "`?)"
