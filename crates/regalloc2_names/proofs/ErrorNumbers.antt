-- The discriminants of error kinds are their numbers.
use Rattle.std.proofs.Common.{◌≡◌, ◌+◌, Some, refl}
use denote.Enum.Declared.{tag_of}
use Rattle.regalloc2_names.specs.ErrorKind.{kind_of_number}
use Rattle.regalloc2_names.specs.contracts.RegAllocErrorKind.{the_type}
use Rattle.regalloc2_names.specs.declared.RegAllocErrorKind.{RegAllocErrorKind}
use Rattle.regalloc2_names.specs.declared.RegAllocErrorKind.TheVariants as kind

-- the kind with the discriminant of a kind, counted from 1, is that kind
pub kind_of_discriminant : (k : RegAllocErrorKind) → kind_of_number (tag_of the_type k + 1) ≡ Some k
kind_of_discriminant kind.CritEdge = refl
kind_of_discriminant kind.SSA = refl
kind_of_discriminant kind.BB = refl
kind_of_discriminant kind.Branch = refl
kind_of_discriminant kind.EntryLivein = refl
kind_of_discriminant kind.DisallowedBranchArg = refl
kind_of_discriminant kind.TooManyLiveRegs = refl
kind_of_discriminant kind.TooManyOperands = refl
kind_of_discriminant kind.Unsupported = refl
kind_of_discriminant kind.TooManySpillSlots = refl
kind_of_discriminant kind.Memory = refl
