-- The numbers that have to be blocks, block by block.
use Rattle.std.proofs.Common.{ℕ, ◌≡◌, ◌+◌, ◌-◌, ◌<◌, List, [], ◌∷◌, ◌++◌, length, get_or, sym, ap, ◌∙◌, subst, zero-add, arith}
use Rattle.std.specs.Prelude.{All, flat_map}
use Rattle.std.proofs.lemmas.List.Elements.{All-append, All-cons, All-contains, All-same, Contains-append_right}
use Rattle.regalloc2_index.specs.Range.{numbers_from}
use Rattle.regalloc2_function.specs.FunctionValue.{FunctionValue, block_at}
use Rattle.regalloc2_function.specs.Reasons.{IsFirstIn}
use Rattle.regalloc2_function.specs.WellFormed.{SuccessorsAreBlocks}
use Rattle.regalloc2_function.specs.Leaves.{succs_in}
use Rattle.regalloc2_function.specs.Listed.{AreBlocks, named_blocks}
use Rattle.regalloc2_function.proofs.ListMembers.{all_members, from_numbers, in_numbers}
use Rattle.regalloc2_function.proofs.ListsInParts.{first_of_part, numbers_more, numbers_split}

-- the entry is a block if all numbers are that have to be
pub entry_is_block : (succs : ℕ → List ℕ) (num entry : ℕ) → AreBlocks succs num entry → entry < num
entry_is_block succs num entry h = h 0 0 (omega arith)

-- the entry and the successors of a function are blocks of the function
pub function_blocks : (f : FunctionValue) → SuccessorsAreBlocks f → AreBlocks (succs_in f) (length f.blocks) f.entry
function_blocks f h = All-cons (λ s. s < length f.blocks) f.entry (flat_map (succs_in f) (numbers_from 0 (length f.blocks))) h.0
    (all_members (λ s. s < length f.blocks) (flat_map (succs_in f) (numbers_from 0 (length f.blocks))) (λ s m.
    let b = from_numbers (succs_in f) 0 (length f.blocks) s m in
    All-contains (λ s. s < length f.blocks) (block_at f b.0).succs s (h.1 b.0 (omega (arith, b.2))) b.3))

-- each successor is a block
pub succs_are_blocks : (succs : ℕ → List ℕ) (num entry b : ℕ) → AreBlocks succs num entry → b < num → All (λ s. s < num) (succs b)
succs_are_blocks succs num entry b h less = all_members (λ s. s < num) (succs b)
    (λ s m. All-contains (λ s. s < num) (named_blocks succs num entry) s h
    (Contains-append_right (entry ∷ []) (flat_map succs (numbers_from 0 num)) s (in_numbers succs 0 num b s (omega arith) (omega arith) m)))

-- a listed successor of a block is one
pub succ_in_range : (succs : ℕ → List ℕ) (num entry b k x : ℕ) (xs : List ℕ) → AreBlocks succs num entry → b < num → xs ≡ succs b → k < length xs →
    x ≡ get_or xs k x → x < num
succ_in_range succs num entry b k x xs h less is short read =
    subst (λ z. z < num) (sym read) (All-same (λ s. s < num) xs (succs b) is (succs_are_blocks succs num entry b h less) k x short)

-- the numbers of the first blocks
abbrev pub named_to : (ℕ → List ℕ) → ℕ → ℕ → List ℕ
named_to succs b entry = entry ∷ flat_map succs (numbers_from 0 b)

-- what holds of the entry and of the successors of blocks below b, and of b's own, holds of all up to b
pub named_more : (P : ℕ → Type 0) (succs : ℕ → List ℕ) (entry b : ℕ) (xs : List ℕ) → xs ≡ succs b → All P (named_to succs b entry) → All P xs →
    All P (named_to succs (b + 1) entry)
named_more P succs entry b xs is so_far here =
    let more : named_to succs (b + 1) entry ≡ named_to succs b entry ++ xs = ap (λ l. entry ∷ l)
    (numbers_more succs 0 b ∙ ap (λ n. flat_map succs (numbers_from 0 b) ++ succs n) (zero-add b)
    ∙ ap (λ l. flat_map succs (numbers_from 0 b) ++ l) (sym is)) in
    All-same P (named_to succs (b + 1) entry) (named_to succs b entry ++ xs) more (All-append P (named_to succs b entry) xs so_far here)

-- the first of b's successors to fail is the first of all named blocks to fail, if the entry and earlier blocks' successors pass
pub named_first : (P : ℕ → Type 0) (succs : ℕ → List ℕ) (entry num b x : ℕ) (xs : List ℕ) → b < num → xs ≡ succs b → All P (named_to succs b entry) →
    IsFirstIn P xs x → IsFirstIn P (named_blocks succs num entry) x
named_first P succs entry num b x xs less is so_far h =
    let split : named_blocks succs num entry ≡ (named_to succs b entry ++ xs) ++ flat_map succs (numbers_from (0 + b + 1) (num - b - 1)) =
    ap (λ l. entry ∷ l) (numbers_split succs 0 num b less ∙ ap (λ n. (flat_map succs (numbers_from 0 b) ++ succs n)
    ++ flat_map succs (numbers_from (0 + b + 1) (num - b - 1))) (zero-add b)
    ∙ ap (λ l. (flat_map succs (numbers_from 0 b) ++ l) ++ flat_map succs (numbers_from (0 + b + 1) (num - b - 1))) (sym is)) in
    first_of_part P (named_blocks succs num entry) (named_to succs b entry) xs (flat_map succs (numbers_from (0 + b + 1) (num - b - 1))) x split so_far h
