-- The texts that the program writes.
use Rattle.std.specs.Prelude.{ℕ, codes, List, ◌++◌}
use Rattle.std.specs.Fmt.{decimal}
use Rattle.regalloc2_names.specs.declared.RegAllocError.{RegAllocError}
use Rattle.regalloc2_text.specs.StoredFault.{fault_number}
use Rattle.regalloc2_text.specs.Refusal.{refusal_number}
use Rattle.regalloc2_tool.specs.declared.ra2.reading.InputError.{InputError}
use Rattle.regalloc2_tool.specs.declared.ra2.reading.InputError.TheVariants.{Unreadable, BadFunction, BadMachine, BadOutput, NotFramed}

-- why there is nothing to allocate or to check, with the number of an error
abbrev pub input_text : InputError → List ℕ
input_text Unreadable = codes "input unreadable"
input_text (BadFunction fault) = codes "bad function " ++ decimal (fault_number fault)
input_text BadMachine = codes "bad machine"
input_text (BadOutput fault) = codes "bad output " ++ decimal (fault_number fault)
input_text NotFramed = codes "not framed"

-- the line of an allocator's error, with its number
abbrev pub refusal_line : RegAllocError → List ℕ
refusal_line e = codes "refused " ++ decimal (refusal_number e) ++ codes "\n"

-- the line of an output without errors
abbrev pub checked_line : List ℕ
checked_line = codes "checked\n"
