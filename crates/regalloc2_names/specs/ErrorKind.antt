-- The kinds of the allocator's errors and their public numbers, which this project adds to upstream's errors.
use Rattle.std.specs.Prelude.{ℕ, zero, suc, List, [], ◌∷◌, Option, None, slice_get}
use Rattle.regalloc2_names.specs.declared.RegAllocError.{RegAllocError}
use Rattle.regalloc2_names.specs.declared.RegAllocError.TheVariants as error
use Rattle.regalloc2_names.specs.declared.RegAllocErrorKind.{RegAllocErrorKind}
use Rattle.regalloc2_names.specs.declared.RegAllocErrorKind.TheVariants as kind

-- the reason that an error gives
abbrev pub kind_of : RegAllocError → RegAllocErrorKind
kind_of (error.CritEdge a b) = kind.CritEdge
kind_of (error.SSA v i) = kind.SSA
kind_of (error.BB b) = kind.BB
kind_of (error.Branch i) = kind.Branch
kind_of error.EntryLivein = kind.EntryLivein
kind_of (error.DisallowedBranchArg i) = kind.DisallowedBranchArg
kind_of error.TooManyLiveRegs = kind.TooManyLiveRegs
kind_of error.TooManyOperands = kind.TooManyOperands
kind_of (error.Unsupported i) = kind.Unsupported
kind_of error.TooManySpillSlots = kind.TooManySpillSlots
kind_of error.Memory = kind.Memory

-- the number of a kind, from 1 on
abbrev pub number_of_kind : RegAllocErrorKind → ℕ
number_of_kind kind.CritEdge = 1
number_of_kind kind.SSA = 2
number_of_kind kind.BB = 3
number_of_kind kind.Branch = 4
number_of_kind kind.EntryLivein = 5
number_of_kind kind.DisallowedBranchArg = 6
number_of_kind kind.TooManyLiveRegs = 7
number_of_kind kind.TooManyOperands = 8
number_of_kind kind.Unsupported = 9
number_of_kind kind.TooManySpillSlots = 10
number_of_kind kind.Memory = 11

-- all kinds, in the order of their numbers
abbrev pub error_kinds : List RegAllocErrorKind
error_kinds = kind.CritEdge ∷ kind.SSA ∷ kind.BB ∷ kind.Branch ∷ kind.EntryLivein ∷ kind.DisallowedBranchArg ∷ kind.TooManyLiveRegs ∷ kind.TooManyOperands
    ∷ kind.Unsupported ∷ kind.TooManySpillSlots ∷ kind.Memory ∷ []

-- the kind with a number, if any
abbrev pub kind_of_number : ℕ → Option RegAllocErrorKind
kind_of_number zero = None
kind_of_number (suc n) = slice_get error_kinds n
