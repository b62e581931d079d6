-- A function without what a stored one drops is kept whole.
use Rattle.std.proofs.Common.{◌≡◌, ◌∙◌, Bool, true, false, List, [], ◌∷◌, length, map, get_or, sym, refl}
use Rattle.std.specs.Prelude.{◌&&◌, not, All}
use Rattle.std.specs.List.{range_with_len}
use Rattle.std.proofs.lemmas.List.{map-id}
use Rattle.std.proofs.lemmas.List.Elements.{All-head, All-tail}
use Rattle.regalloc2_names.specs.Register.{VirtualRegister}
use Rattle.regalloc2_function.specs.FunctionValue.{FunctionValue, BlockValue, InstValue}
use Rattle.regalloc2_serialize.specs.CopyOfFunction.{shown_block, shown_inst, shown_function, IsKeptWhole}
use Rattle.regalloc2_serialize.proofs.FilledLists.{all-numbers}

branch-kept : (b r : Bool) → (b ≡ true → r ≡ false) → (not r && b) ≡ b
branch-kept true true h = sym (h refl)
branch-kept true false h = refl
branch-kept false true h = refl
branch-kept false false h = refl

-- an instruction that isn't both a branch and a return is kept
pub inst-kept : (i : InstValue) → (i.is_branch ≡ true → i.is_ret ≡ false) → shown_inst i ≡ i
inst-kept i h = rw (branch-kept i.is_branch i.is_ret h) refl

insts-kept : (is : List InstValue) → All (λ i. i.is_branch ≡ true → i.is_ret ≡ false) is → map shown_inst is ≡ is
insts-kept [] h = refl
insts-kept (i ∷ is) h =
    let here : shown_inst i ≡ i = inst-kept i (All-head (λ i. i.is_branch ≡ true → i.is_ret ≡ false) i is h) in
    let rest : map shown_inst is ≡ is = insts-kept is (All-tail (λ i. i.is_branch ≡ true → i.is_ret ≡ false) i is h) in
    rw (here, rest) refl

lists-kept : (xs : List (List VirtualRegister)) → map (λ i. get_or xs i []) (range_with_len 0 (length xs)) ≡ xs
lists-kept xs = all-numbers (λ x. x) xs [] ∙ map-id xs

blocks-kept : (bs : List BlockValue) → All (λ b. length b.arguments ≡ length b.succs) bs → map shown_block bs ≡ bs
blocks-kept [] h = refl
blocks-kept (b ∷ bs) h =
    let long : length b.arguments ≡ length b.succs = All-head (λ b. length b.arguments ≡ length b.succs) b bs h in
    let here : map (λ i. get_or b.arguments i []) (range_with_len 0 (length b.succs)) ≡ b.arguments = rw (← long) (lists-kept b.arguments) in
    let rest : map shown_block bs ≡ bs = blocks-kept bs (All-tail (λ b. length b.arguments ≡ length b.succs) b bs h) in
    rw (here, rest) refl

-- a function in which no branch returns and each block has arguments for each successor is kept whole by its stored
-- form
pub kept-whole : (f : FunctionValue) → IsKeptWhole f → shown_function f ≡ f
kept-whole f h =
    let insts : map shown_inst f.insts ≡ f.insts = insts-kept f.insts h.0 in
    let blocks : map shown_block f.blocks ≡ f.blocks = blocks-kept f.blocks h.1 in
    rw (insts, blocks) refl
