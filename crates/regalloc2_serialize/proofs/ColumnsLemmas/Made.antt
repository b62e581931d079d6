-- The function that is made of columns.
use Rattle.std.proofs.Common.{◌≡◌, ◌∙◌, ℕ, zero, suc, ◌+◌, ◌-◌, ◌<◌, ◌≤◌, ◌∷◌, Bool, List, length, map, sym, subst, arith, refl}
use Rattle.std.specs.Prelude.{All, slice_index}
use Rattle.std.specs.List.{range_with_len}
use Rattle.std.proofs.lemmas.List.{length-map}
use Rattle.std.proofs.lemmas.List.FromFn.{length-map-range_with_len, get_or-range_with_len, length-range_with_len}
use Rattle.regalloc2_serialize.specs.Flat.Columns.Layout.{AreInColumns, header_of, widths, column}
use Rattle.regalloc2_serialize.proofs.ColumnsLemmas.Starts.{column-count}
use Rattle.regalloc2_names.specs.Register.{VirtualRegister}
use Rattle.regalloc2_names.specs.Operand.{OperandValue}
use Rattle.regalloc2_names.specs.declared.sets.PRegSet.{PRegSet}
use Rattle.regalloc2_function.specs.FunctionValue.{FunctionValue, SlotSizes, Label}
use Rattle.regalloc2_serialize.specs.Flat.Columns.Value.{Columns, column_blocks, column_insts, long_at, longs}
use Rattle.regalloc2_serialize.specs.Flat.Columns.Sound.{Covers}

-- columns are equal if each list is
pub same-columns : {a1 b1 : List ℕ} {a2 b2 : List PRegSet} {a3 b3 : List OperandValue} {a4 b4 : List ℕ} {a5 b5 : List ℕ} {a6 b6 : List ℕ} {a7 b7 : List ℕ} {a8 b8 : List ℕ} {a9 b9 : List ℕ} {a10 b10 : List VirtualRegister} {a11 b11 : List ℕ} {a12 b12 : List VirtualRegister} {a13 b13 : List ℕ} →
    a1 ≡ b1 → a2 ≡ b2 → a3 ≡ b3 → a4 ≡ b4 → a5 ≡ b5 → a6 ≡ b6 → a7 ≡ b7 → a8 ≡ b8 → a9 ≡ b9 → a10 ≡ b10 → a11 ≡ b11 → a12 ≡ b12 → a13 ≡ b13 →
    ◌≡◌ {A = Columns} (record { kinds = a1; sets = a2; operands = a3; operand_bounds = a4; inst_bounds = a5; preds = a6; pred_bounds = a7; succs = a8; succ_bounds = a9; params = a10; param_bounds = a11; arguments = a12; argument_bounds = a13 })
    (record { kinds = b1; sets = b2; operands = b3; operand_bounds = b4; inst_bounds = b5; preds = b6; pred_bounds = b7; succs = b8; succ_bounds = b9; params = b10; param_bounds = b11; arguments = b12; argument_bounds = b13 })
same-columns h1 h2 h3 h4 h5 h6 h7 h8 h9 h10 h11 h12 h13 = rw (h1, h2, h3, h4, h5, h6, h7, h8, h9, h10, h11, h12, h13) refl

-- functions are equal if their columns and the rest of them are
pub same-functions : {a b : Columns} {e e' : ℕ} {n n' : ℕ} {s s' : SlotSizes} {l l' : Bool} {ls ls' : List Label} {d d' : Bool} →
    a ≡ b → e ≡ e' → n ≡ n' → s ≡ s' → l ≡ l' → ls ≡ ls' → d ≡ d' →
    ◌≡◌ {A = FunctionValue} (record { blocks = column_blocks a; insts = column_insts a; entry = e; num_vregs = n; slot_sizes = s; named_by_last_slot = l; labels = ls; allows_multiple_defs = d })
    (record { blocks = column_blocks b; insts = column_insts b; entry = e'; num_vregs = n'; slot_sizes = s'; named_by_last_slot = l'; labels = ls'; allows_multiple_defs = d' })
same-functions h1 h2 h3 h4 h5 h6 h7 = rw (h1, h2, h3, h4, h5, h6, h7) refl

-- ends that cover a column cover it under other names
pub covers-same : (xs ends : List ℕ) (n m : ℕ) → Covers ends n → xs ≡ ends → m ≡ n → Covers xs m
covers-same xs ends n m c same count = subst (λ k. Covers xs k) (sym count) (subst (λ l. Covers l n) (sym same) c)

-- no bound is past the last one
bound-small : (bs : List ℕ) (n k d : ℕ) → ((j : ℕ) → j < n → slice_index bs j ≤ slice_index bs (j + 1)) → k + d ≡ n → slice_index bs k ≤ slice_index bs n
bound-small bs n k zero rises is = let same : k ≡ n = omega arith in rw same (omega arith)
bound-small bs n k (suc d) rises is =
    let rest : slice_index bs (k + 1) ≤ slice_index bs n = bound-small bs n (k + 1) d rises (omega arith) in
    omega (arith, rest, rises k (omega arith))

pub bounds-within : (ends : List ℕ) (n : ℕ) → Covers ends n → (k : ℕ) → k < length ends + 1 → slice_index (0 ∷ ends) k ≤ n
bounds-within ends n c k less =
    let d : ℕ = length ends - k in
    let small : slice_index (0 ∷ ends) k ≤ slice_index (0 ∷ ends) (length ends) = bound-small (0 ∷ ends) (length ends) k d c.rises (omega arith) in
    omega (arith, small, c.last)

-- numbers of two words are as many as they should be
pub longs-count : {X : Type 0} (f : ℕ → X) (words : List ℕ) (n : ℕ) → length (map f (longs words n)) ≡ n
longs-count f words n = length-map (longs words n) f ∙ length-map-range_with_len (long_at words) 0 n

-- the words of a column are as many as the header says
pub count-of : (words : List ℕ) (k : ℕ) → AreInColumns words → k < 19 → length (column words k) ≡ slice_index (widths (header_of words)) k
count-of words k laid less = column-count words (widths (header_of words)) k less laid.count

-- what holds of each number below another
pub all-below : (P : ℕ → Type 0) (n : ℕ) → ((k : ℕ) → k < n → P k) → All P (range_with_len 0 n)
all-below P n h k d less =
    let inside : k < n = omega (arith, less, length-range_with_len 0 n) in
    subst P (sym (get_or-range_with_len 0 n k d inside ∙ omega arith)) (h k inside)
