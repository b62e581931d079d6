-- 64-bit integers: the results of operators, and the conditions.
use Rattle.std.specs.Prelude.{ℕ, ◌+◌, ◌-◌, ◌*◌, ◌/◌, ◌%◌, ◌^◌, Bool, false, true, ◌&&◌, ◌||◌, not, nat_eq, nat_lt, nat_le, if◌then◌else◌, bit_and, bit_or, bit_xor}
use Rattle.std.specs.Prelude.{List, length, slice_index, set}
use Rattle.codegen_operation.specs.declared.operation.Operator.{Operator}
use Rattle.codegen_operation.specs.declared.operation.Operator.TheVariants.{Add, Sub, Mul, And, Or, Xor}
use Rattle.codegen_operation.specs.declared.operation.ShiftOperator.{ShiftOperator}
use Rattle.codegen_operation.specs.declared.operation.ShiftOperator.TheVariants.{Left, Right, SignedRight}
use Rattle.codegen_operation.specs.declared.operation.Width.{Width}
use Rattle.codegen_operation.specs.declared.operation.Width.TheVariants.{Full, Half}
use Rattle.codegen_operation.specs.declared.operation.Bytes.{Bytes}
use Rattle.codegen_operation.specs.declared.operation.Bytes.TheVariants.{One, Two, Four, Eight}
use Rattle.codegen_operation.specs.declared.operation.DivisionPart.{DivisionPart}
use Rattle.codegen_operation.specs.declared.operation.DivisionPart.TheVariants.{Quotient, Remainder}
use Rattle.codegen_operation.specs.declared.operation.Condition.{Condition}
use Rattle.codegen_operation.specs.declared.operation.Condition.TheVariants.{Equal, NotEqual, Less, LessOrEqual, Greater, GreaterOrEqual}
use Rattle.codegen_operation.specs.declared.operation.Condition.TheVariants.{SignedLess, SignedLessOrEqual, SignedGreater, SignedGreaterOrEqual}

-- the result of an operator, modulo 2^64
abbrev pub computed : Operator → ℕ → ℕ → ℕ
computed Add a b = (a + b) % 2 ^ 64
computed Sub a b = (a + (2 ^ 64 - b)) % 2 ^ 64
computed Mul a b = (a * b) % 2 ^ 64
computed And a b = bit_and a b
computed Or a b = bit_or a b
computed Xor a b = bit_xor a b

-- a number shifted by a count, modulo 64
abbrev pub shifted : ShiftOperator → ℕ → ℕ → ℕ
shifted Left a n = (a * 2 ^ (n % 64)) % 2 ^ 64
shifted Right a n = a / 2 ^ (n % 64)
shifted SignedRight a n = if nat_lt a (2 ^ 63) then a / 2 ^ (n % 64) else 2 ^ 64 - 1 - (2 ^ 64 - 1 - a) / 2 ^ (n % 64)

-- the bits of a number that an operation of a width reads
abbrev pub at_width : Width → ℕ → ℕ
at_width Full n = n
at_width Half n = n % 2 ^ 32

-- the bits of a number at a width, sign-extended to 64, which keeps the unsigned order and the signed order
abbrev pub widened : Width → ℕ → ℕ
widened Full n = n
widened Half n = if nat_lt (n % 2 ^ 32) (2 ^ 31) then n % 2 ^ 32 else n % 2 ^ 32 + (2 ^ 64 - 2 ^ 32)

-- the result of an operator, at a width
abbrev pub computed_at : Width → Operator → ℕ → ℕ → ℕ
computed_at w o a b = at_width w (computed o a b)

-- a shift by a count, modulo the width
abbrev pub shifted_at : Width → ShiftOperator → ℕ → ℕ → ℕ
shifted_at Full o a n = shifted o a n
shifted_at Half Left a n = shifted Left a (n % 32) % 2 ^ 32
shifted_at Half Right a n = shifted Right (a % 2 ^ 32) (n % 32)
shifted_at Half SignedRight a n = shifted SignedRight (widened Half a) (n % 32) % 2 ^ 32

-- a number's rank in the signed order: numbers from 2^63 on come first
abbrev pub signed_rank : ℕ → ℕ
signed_rank a = (a + 2 ^ 63) % 2 ^ 64

-- whether a number is negative in two's complement; and its absolute value
abbrev pub is_negative : ℕ → Bool
is_negative a = nat_le (2 ^ 63) a

abbrev pub magnitude : ℕ → ℕ
magnitude a = if is_negative a then 2 ^ 64 - a else a

-- the number with that absolute value, positive or negative
abbrev pub with_sign : Bool → ℕ → ℕ
with_sign negative n = if negative then (2 ^ 64 - n) % 2 ^ 64 else n

-- a quotient, rounded towards 0, or a remainder, which has the dividend's sign
abbrev pub divided : DivisionPart → Bool → ℕ → ℕ → ℕ
divided Quotient false a b = a / b
divided Remainder false a b = a % b
divided Quotient true a b = with_sign (if is_negative a then not (is_negative b) else is_negative b) (magnitude a / magnitude b)
divided Remainder true a b = with_sign (is_negative a) (magnitude a % magnitude b)

-- the quotient or remainder of a division, at a width
abbrev pub divided_at : Width → DivisionPart → Bool → ℕ → ℕ → ℕ
divided_at Full part signed a b = divided part signed a b
divided_at Half part false a b = divided part false (a % 2 ^ 32) (b % 2 ^ 32)
divided_at Half part true a b = divided part true (widened Half a) (widened Half b) % 2 ^ 32

-- the least signed number of a width, sign-extended
abbrev pub least : Width → ℕ
least Full = 2 ^ 63
least Half = 2 ^ 64 - 2 ^ 31

-- whether a division traps: if the divisor is 0, or if it is signed and divides the least number by -1
abbrev pub division_traps : Width → Bool → ℕ → ℕ → Bool
division_traps w signed a b = nat_eq (at_width w b) 0 || (signed && (nat_eq (widened w a) (least w) && nat_eq (widened w b) (2 ^ 64 - 1)))

-- the upper half of a number extended to twice its width: zeros, or copies of its highest bit
abbrev pub extended : Width → Bool → ℕ → ℕ
extended w signed a = if signed && is_negative (widened w a) then at_width w (2 ^ 64 - 1) else 0

-- whether a condition holds
abbrev pub condition_holds : Condition → ℕ → ℕ → Bool
condition_holds Equal a b = nat_eq a b
condition_holds NotEqual a b = not (nat_eq a b)
condition_holds Less a b = nat_lt a b
condition_holds LessOrEqual a b = nat_le a b
condition_holds Greater a b = nat_lt b a
condition_holds GreaterOrEqual a b = nat_le b a
condition_holds SignedLess a b = nat_lt (signed_rank a) (signed_rank b)
condition_holds SignedLessOrEqual a b = nat_le (signed_rank a) (signed_rank b)
condition_holds SignedGreater a b = nat_lt (signed_rank b) (signed_rank a)
condition_holds SignedGreaterOrEqual a b = nat_le (signed_rank b) (signed_rank a)

-- 1 if it holds, else 0
abbrev pub truth : Bool → ℕ
truth b = if b then 1 else 0

-- how many bytes an access reads or writes; and whether they all lie in a memory, from an address on
abbrev pub count_of : Bytes → ℕ
count_of One = 1
count_of Two = 2
count_of Four = 4
count_of Eight = 8

abbrev pub is_within : List ℕ → Bytes → ℕ → Bool
is_within memory bytes a = nat_le (a + count_of bytes) (length memory)

-- the number in one byte of a memory, in two, four or eight, the lowest first
abbrev pub pair_at : List ℕ → ℕ → ℕ
pair_at memory a = slice_index memory a + 2 ^ 8 * slice_index memory (a + 1)

abbrev pub four_at : List ℕ → ℕ → ℕ
four_at memory a = pair_at memory a + 2 ^ 16 * pair_at memory (a + 2)

abbrev pub number_at : Bytes → List ℕ → ℕ → ℕ
number_at One memory a = slice_index memory a
number_at Two memory a = pair_at memory a
number_at Four memory a = four_at memory a
number_at Eight memory a = four_at memory a + 2 ^ 32 * four_at memory (a + 4)

-- a memory with the lower bytes of a number at an address: with one, two, four or eight, the lowest first
abbrev pub with_byte : List ℕ → ℕ → ℕ → List ℕ
with_byte memory a n = set memory a (n % 2 ^ 8)

abbrev pub with_pair : List ℕ → ℕ → ℕ → List ℕ
with_pair memory a n = with_byte (with_byte memory a n) (a + 1) (n / 2 ^ 8)

abbrev pub with_four : List ℕ → ℕ → ℕ → List ℕ
with_four memory a n = with_pair (with_pair memory a n) (a + 2) (n / 2 ^ 16)

abbrev pub with_number : Bytes → List ℕ → ℕ → ℕ → List ℕ
with_number One memory a n = with_byte memory a n
with_number Two memory a n = with_pair memory a n
with_number Four memory a n = with_four memory a n
with_number Eight memory a n = with_four (with_four memory a n) (a + 4) (n / 2 ^ 32)

-- a table of numbers with one entry changed
abbrev pub put : (ℕ → ℕ) → ℕ → ℕ → ℕ → ℕ
put m k n q = if nat_eq k q then n else m q

-- the outcome of a run: it still runs, in some state; it has returned a number, and left a memory, byte by byte; it has trapped, and left one;
-- its stack has overflowed; or it is stuck
pub data RunOutcome (S : Type 0) : Type 0 where
  Running : S → RunOutcome S
  Returned : ℕ → List ℕ → RunOutcome S
  Trapped : List ℕ → RunOutcome S
  Overflowed : RunOutcome S
  Stuck : RunOutcome S

-- continues if it still runs
abbrev pub further : {S : Type 0} → RunOutcome S → (S → RunOutcome S) → RunOutcome S
further (Running s) go = go s
further (Returned n memory) go = Returned n memory
further (Trapped memory) go = Trapped memory
further Overflowed go = Overflowed
further Stuck go = Stuck
