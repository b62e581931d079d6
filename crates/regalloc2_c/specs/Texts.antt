-- What statuses and faults say, in English, by their numbers, and how a text is handed out.
use Rattle.std.specs.Prelude.{ℕ, ◌≡◌, ◌<◌, ◌≤◌, ◌-◌, nat_lt, if◌then◌else◌, codes, List, [], ◌∷◌, ◌++◌, length, slice_index_or, take, drop}
use Rattle.std.specs.Prelude.{Option, None, Some}
use Rattle.regalloc2_names.specs.declared.RegAllocErrorKind.{RegAllocErrorKind}
use Rattle.regalloc2_names.specs.ErrorKind.{kind_of_number}
use Rattle.regalloc2_names.specs.Text.{cause_text}

abbrev pub no_status : List ℕ
no_status = codes "no status"

-- the texts of the statuses below 20
abbrev pub failure_texts : List (List ℕ)
failure_texts = codes "the call succeeded"
    ∷ codes "the input lays out no function or no output"
    ∷ codes "the machine doesn't fit the function"
    ∷ codes "the result takes more words than there is room for"
    ∷ codes "the output has faults"
    ∷ codes "out of memory"
    ∷ codes "the function isn't structurally valid: blocks don't follow one another or don't end, or arguments aren't as many as parameters"
    ∷ codes "the output's numbers name none"
    ∷ codes "some path reads or passes a vreg before writing it"
    ∷ codes "a line of the text can't be read"
    ∷ no_status
    ∷ codes "bad function: lists by block or by class have different lengths"
    ∷ codes "bad function: a block, a range or a label is out of range"
    ∷ codes "bad function: a word names nothing"
    ∷ codes "bad function: a limit is passed"
    ∷ codes "bad function: out of memory"
    ∷ codes "bad function: a value has another shape" ∷ []

-- the cause of the allocator's errors with a number
abbrev pub text_of_refusal : ℕ → List ℕ
text_of_refusal number = cause_of (kind_of_number number)
  where
    cause_of : Option RegAllocErrorKind → List ℕ
    cause_of None = no_status
    cause_of (Some kind) = cause_text kind

-- from 20 on the causes of the allocator's errors, as regalloc2_names has them
abbrev pub text_of_status : ℕ → List ℕ
text_of_status status = if nat_lt status 20 then slice_index_or failure_texts status no_status else text_of_refusal (status - 20)

abbrev pub no_fault : List ℕ
no_fault = codes "no fault"

abbrev pub fault_texts : List (List ℕ)
fault_texts = no_fault
    ∷ codes "an operand has no place"
    ∷ codes "the place doesn't hold a value on every path"
    ∷ codes "the place holds values that conflict"
    ∷ codes "the place holds the values of other vregs"
    ∷ codes "a reuse names no operand"
    ∷ codes "the place is no register"
    ∷ codes "the place isn't the fixed register"
    ∷ codes "the place isn't that of the reused operand"
    ∷ codes "the place isn't on the stack"
    ∷ codes "a move goes from one stack place to another"
    ∷ codes "the register's number isn't below the limit"
    ∷ codes "the output isn't in order"
    ∷ codes "out of memory"
    ∷ codes "no register for the class, and no slot of the frame"
    ∷ codes "a move goes from a register to one of another class"
    ∷ codes "a slot isn't within the frame"
    ∷ codes "two slots share a unit" ∷ []

abbrev pub text_of_fault : ℕ → List ℕ
text_of_fault number = slice_index_or fault_texts number no_fault

-- a text is written with what was behind it left as it was, or, if there is less room, as much of it as there is room for; its length is returned
abbrev pub IsTold : List ℕ → List ℕ → List ℕ → ℕ → Type 0
IsTold text old now count = (count ≡ length text)
    × ((length text ≤ length old → now ≡ text ++ drop (length text) old) × (length old < length text → now ≡ take (length old) text))
