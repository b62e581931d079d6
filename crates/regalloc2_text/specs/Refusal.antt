-- The numbers of the allocator's errors, as the programs print them, and the texts with these numbers.
use Rattle.std.specs.Prelude.{ℕ, codes, List, ◌++◌}
use Rattle.std.specs.Fmt.{decimal}
use Rattle.regalloc2_names.specs.declared.RegAllocError.{RegAllocError}
use Rattle.regalloc2_names.specs.ErrorKind.{kind_of, number_of_kind}
use Rattle.regalloc2_names.specs.Text.{refusal_text}

-- the number of an error's kind
abbrev pub refusal_number : RegAllocError → ℕ
refusal_number e = number_of_kind (kind_of e)

-- as refused 5: the entry has parameters
abbrev pub numbered_refusal_text : RegAllocError → List ℕ
numbered_refusal_text e = codes "refused " ++ decimal (refusal_number e) ++ codes ": " ++ refusal_text e
