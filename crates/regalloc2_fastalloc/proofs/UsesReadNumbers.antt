-- Where each use finds a write, each use reads a number.
use Rattle.std.proofs.Common.{ℕ, suc, ◌≡◌, ◌+◌, ◌<◌, Bool, true, false, cond, List, [], ◌∷◌, length, map, refl, arith, subst}
use Rattle.std.specs.Prelude.{All, Option, None, Some, IsSome, slice_index_or}
use Rattle.std.specs.Option.{option_map}
use Rattle.std.proofs.lemmas.List.Elements.{All-nil, All-cons, All-map}
use Rattle.regalloc2_names.specs.Operand.{OperandValue, is_reading}
use Rattle.regalloc2_function.specs.FunctionValue.{FunctionValue, op_at}
use Rattle.regalloc2_function.specs.Machine.{MachineValue}
use Rattle.regalloc2_function.specs.OutputValue.{OutputValue}
use Rattle.regalloc2_semantics.specs.Runs.{Way, IsPath, last_inst, Stamp, source_read}
use Rattle.regalloc2_semantics.specs.Faithful.{IsFaithful}
use Rattle.regalloc2_semantics.specs.Values.{Meaning, numbers, reads_from}
use Rattle.regalloc2_semantics.proofs.ValueLaws.{source_reads}

if_read : (b : Bool) (x : Option Stamp) (xs : List (Option Stamp)) → (b ≡ true → IsSome x) → All IsSome xs → All IsSome (cond b (x ∷ xs) xs)
if_read true x xs h rest = All-cons IsSome x xs (h refl) rest
if_read false x xs h rest = rest

-- what the reading uses of operands read
each_reads : (read : ℕ → OperandValue → Option Stamp) (n : ℕ) (os : List OperandValue)
    → ((k : ℕ) → k < length os → is_reading (op_at os k) ≡ true → IsSome (read (k + n) (op_at os k))) →
    All IsSome (reads_from read n os)
unfolding reads_from
each_reads read n [] h = All-nil IsSome
each_reads read n (o ∷ os) h =
    let e : 0 + n ≡ n = omega arith in
    if_read (is_reading o) (read n o) (reads_from read (n + 1) os) (λ yes. subst (λ m. IsSome (read m o)) e (h 0 (omega arith) yes))
    (each_reads read (n + 1) os (λ k less yes. let s : suc k + n ≡ k + (n + 1) = omega arith in
    subst (λ m. IsSome (read m (op_at os k))) s (h (suc k) (omega arith) yes)))

is_some_mapped : (g : Stamp → ℕ) (x : Option Stamp) → IsSome x → IsSome (option_map g x)
is_some_mapped g None h = h
is_some_mapped g (Some s) h = h

all_is_some_mapped : (g : Stamp → ℕ) (xs : List (Option Stamp)) → All IsSome xs → All IsSome (map (option_map g) xs)
all_is_some_mapped g xs h = All-map IsSome (option_map g) xs (λ k d less. is_some_mapped g (slice_index_or xs k d) (h k d less))

step_reads : (f : FunctionValue) (env : MachineValue) (out : OutputValue) → IsFaithful f env out → (ws : List Way) → IsPath f ws →
    All IsSome (source_reads f ws)
step_reads f env out h ws p = each_reads (λ k o. source_read f ws o) 0 (last_inst f ws).operands (λ k less yes. (h.reads ws p k less yes).0)

-- where an output is faithful, on every path each use of the function reads a number, whatever the instructions compute
pub reads_numbers : (f : FunctionValue) (env : MachineValue) (out : OutputValue) → IsFaithful f env out → (meaning : Meaning) (ws : List Way) → IsPath f ws →
    All (All IsSome) (numbers f meaning (λ vs k o. source_read f vs o) ws).history
unfolding numbers
reads_numbers f env out h meaning [] p = All-cons (All IsSome) (map (option_map (λ s. 0)) (source_reads f [])) []
    (all_is_some_mapped (λ s. 0) (source_reads f []) (step_reads f env out h [] p)) (All-nil (All IsSome))
reads_numbers f env out h meaning (w ∷ ws) p =
    All-cons (All IsSome) (map (option_map (numbers f meaning (λ vs k o. source_read f vs o) (w ∷ ws)).written) (source_reads f (w ∷ ws)))
    (numbers f meaning (λ vs k o. source_read f vs o) ws).history
    (all_is_some_mapped (numbers f meaning (λ vs k o. source_read f vs o) (w ∷ ws)).written (source_reads f (w ∷ ws)) (step_reads f env out h (w ∷ ws) p))
    (reads_numbers f env out h meaning ws p.0)
