-- The texts that the programs share.
use Rattle.std.specs.Prelude.{ℕ, codes, List, Option, Some, None}
use Rattle.regalloc2_tool.specs.declared.calls.call.CallError.{CallError}
use Rattle.regalloc2_tool.specs.declared.calls.call.CallError.TheVariants.{Memory, Differs, Write}

-- why a call has no complete result; the toolchain states no text of an error in writing
abbrev pub call_error_text : CallError → Option (List ℕ)
call_error_text Memory = Some (codes "out of memory")
call_error_text Differs = Some (codes "the text reads back as another function or output")
call_error_text (Write e) = None
