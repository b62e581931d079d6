-- Split edges keep the instructions, and add one for each new block.
use Rattle.std.proofs.Common.{◌≡◌, ◌∙◌, ℕ, zero, suc, inl, inr, ◌+◌, ◌-◌, ◌<◌, ◌≤◌, Bool, true, false, refl, sym, ap, arith, List, [], ◌∷◌, ◌++◌, length}
use Rattle.std.proofs.Common.{get_or, map}
use Rattle.std.specs.Prelude.{nat_lt}
use Rattle.std.specs.List.{range_with_len}
use Rattle.std.proofs.lemmas.List.{append-nil, get_or_append_left, length-append}
use Rattle.std.proofs.lemmas.List.Concat.{flat_map-append}
use Rattle.std.proofs.lemmas.List.FromFn.{get_or-map-range_with_len, length-map-range_with_len}
use Rattle.regalloc2_function.specs.FunctionValue.{FunctionValue, block_at, inst_at, no_inst, last_of, EachBlock}
use Rattle.regalloc2_function.specs.WellFormed.{BlocksFollow, IsFramed, EndsAt}
use Rattle.regalloc2_serialize.specs.CopyOfFunction.{shown_inst}
use Rattle.regalloc2_serialize.specs.TableFunction.Draft.{DraftValue}
use Rattle.regalloc2_serialize.specs.TableFunction.Built.{insts_of}
use Rattle.regalloc2_serialize.proofs.Whole.{inst-kept}
use Rattle.regalloc2_serialize.specs.Rewrite.SplitEdges.{Edge, edges_before, jump_on, kept_block, split_drafts}
use Rattle.regalloc2_serialize.proofs.RewriteLemmas.Numbers.{is-below, is-past}

range-join : {X : Type 0} (h : ℕ → X) (a m n : ℕ) → map h (range_with_len a m) ++ map h (range_with_len (a + m) n) ≡ map h (range_with_len a (m + n))
range-join h a zero n =
    let from : a + 0 ≡ a = omega arith in
    let many : n ≡ 0 + n = omega arith in
    ap (λ (i : ℕ). map h (range_with_len i n)) from ∙ ap (λ (i : ℕ). map h (range_with_len a i)) many
range-join h a (suc m) n =
    let from : a + suc m ≡ a + 1 + m = omega arith in
    let many : suc (m + n) ≡ suc m + n = omega arith in
    ap (λ (i : ℕ). h a ∷ (map h (range_with_len (a + 1) m) ++ map h (range_with_len i n))) from
    ∙ ap (λ xs. h a ∷ xs) (range-join h (a + 1) m n) ∙ ap (λ (i : ℕ). map h (range_with_len a i)) many

-- the instructions of a block and of the blocks behind it are the instructions from its first on
record Rest (f : FunctionValue) (a n : ℕ) : Type 0 where
  first : (block_at f a).range.first ≤ length f.insts
  insts : insts_of (map (kept_block f) (range_with_len a n))
      ≡ map (inst_at f) (range_with_len (block_at f a).range.first (length f.insts - (block_at f a).range.first))

rest-last : (f : FunctionValue) (a : ℕ) → BlocksFollow f → a + 1 ≡ length f.blocks → Rest f a 1
rest-last f a follow last =
    let here = follow a (omega (arith, last)) in
    let end : (block_at f a).range.end ≡ length f.insts = here.3 last in
    record {
      first = omega (arith, here.0, end);
      insts = append-nil (kept_block f a).insts
          ∙ ap (λ (e : ℕ). map (inst_at f) (range_with_len (block_at f a).range.first (e - (block_at f a).range.first))) end;
    }

rest-step : (f : FunctionValue) (a n : ℕ) → BlocksFollow f → a + 1 < length f.blocks → Rest f (a + 1) n → Rest f a (suc n)
rest-step f a n follow less rest =
    let first : ℕ = (block_at f a).range.first in
    let end : ℕ = (block_at f a).range.end in
    let total : ℕ = length f.insts in
    let here = follow a (omega (arith, less)) in
    let back : a + 1 - 1 ≡ a = omega arith in
    let joined : (block_at f (a + 1)).range.first ≡ end =
    (follow (a + 1) less).2 (omega arith) ∙ ap (λ (n : ℕ). (block_at f n).range.end) back in
    let from : end ≡ first + (end - first) = omega (arith, here.0) in
    let whole : end - first + (total - end) ≡ total - first = omega (arith, here.0, joined, rest.first) in
    record {
      first = omega (arith, here.0, joined, rest.first);
      insts = ap (λ xs. (kept_block f a).insts ++ xs) rest.insts
          ∙ ap (λ (i : ℕ). (kept_block f a).insts ++ map (inst_at f) (range_with_len i (total - i))) joined
          ∙ ap (λ (i : ℕ). (kept_block f a).insts ++ map (inst_at f) (range_with_len i (total - end))) from
          ∙ range-join (inst_at f) first (end - first) (total - end)
          ∙ ap (λ (i : ℕ). map (inst_at f) (range_with_len first i)) whole;
    }

rest-from : (f : FunctionValue) (a n : ℕ) → BlocksFollow f → a + suc n ≡ length f.blocks → Rest f a (suc n)
rest-from f a zero follow last =
    rest-last f a follow (omega (arith, last))
rest-from f a (suc n) follow last =
    rest-step f a (suc n) follow (omega (arith, last)) (rest-from f (a + 1) n follow (omega (arith, last)))

-- the kept blocks' instructions
pub insts-kept : (f : FunctionValue) → IsFramed f →
    insts_of (map (kept_block f) (range_with_len 0 (length f.blocks))) ≡ map (inst_at f) (range_with_len 0 (length f.insts))
insts-kept f framed =
    let some = framed.successors.0 in
    let many : suc (length f.blocks - 1) ≡ length f.blocks = omega (arith, some) in
    let begin : (block_at f 0).range.first ≡ 0 = (framed.follow 0 (omega (arith, some))).1 refl in
    let rest = rest-from f 0 (length f.blocks - 1) framed.follow (omega (arith, some)) in
    let less : length f.insts - 0 ≡ length f.insts = omega arith in
    ap (λ (n : ℕ). insts_of (map (kept_block f) (range_with_len 0 n))) (sym many) ∙ rest.insts
    ∙ ap (λ (i : ℕ). map (inst_at f) (range_with_len i (length f.insts - i))) begin ∙ ap (λ (n : ℕ). map (inst_at f) (range_with_len 0 n)) less

jumps-many : (f : FunctionValue) (es : List Edge) → length (insts_of (map (jump_on f) es)) ≡ length es
jumps-many f [] = refl
jumps-many f (e ∷ es) =
    length-append (jump_on f e).insts (insts_of (map (jump_on f) es)) ∙ omega (arith, jumps-many f es)

module _ (f : FunctionValue) (framed : IsFramed f) where
  abbrev jumps : List DraftValue
  jumps = map (jump_on f) (edges_before f (length f.blocks))

  abbrev kept : List DraftValue
  kept = map (kept_block f) (range_with_len 0 (length f.blocks))

  apart : insts_of (split_drafts f) ≡ insts_of kept ++ insts_of jumps
  apart = flat_map-append (λ (d : DraftValue). d.insts) kept jumps

  kept-many : length (insts_of kept) ≡ length f.insts
  kept-many = ap length (insts-kept f framed) ∙ length-map-range_with_len (inst_at f) 0 (length f.insts)

  -- there is one instruction more for each new block
  pub insts-many : length (insts_of (split_drafts f)) ≡ length f.insts + length (edges_before f (length f.blocks))
  insts-many = ap length apart ∙ length-append (insts_of kept) (insts_of jumps) ∙ omega (arith, kept-many, jumps-many f (edges_before f (length f.blocks)))

  -- the instructions are the first ones
  pub inst-same : (i : ℕ) → i < length f.insts → get_or (insts_of (split_drafts f)) i no_inst ≡ inst_at f i
  inst-same i less =
      let at : 0 + i ≡ i = omega arith in
      ap (λ xs. get_or xs i no_inst) apart ∙ get_or_append_left (insts_of kept) (insts_of jumps) no_inst i (omega (arith, kept-many, less))
      ∙ ap (λ xs. get_or xs i no_inst) (insts-kept f framed) ∙ get_or-map-range_with_len (inst_at f) 0 (length f.insts) i i no_inst less at

-- no instruction of a structurally valid function's block is both a branch and a return: a copy has all of it
pub inst-shown : (f : FunctionValue) → EachBlock f (EndsAt f) → (b : ℕ) → b < length f.blocks → (i : ℕ) → (block_at f b).range.first ≤ i → i < (block_at f b).range.end →
    shown_inst (inst_at f i) ≡ inst_at f i
inst-shown f ends b less i from upto = inst-kept (inst_at f i) (by (nat_lt i (last_of (block_at f b))) refl)
  where
    by : (c : Bool) → nat_lt i (last_of (block_at f b)) ≡ c → (inst_at f i).is_branch ≡ true → (inst_at f i).is_ret ≡ false
    by true e branch = ((ends b less).1 i from upto (is-below i (last_of (block_at f b)) e)).1
    by false e branch =
        let last : i ≡ last_of (block_at f b) = omega (arith, is-past i (last_of (block_at f b)) e, upto) in
        elim (ends b less).0 [
          | inl jump ↦ ap (λ (n : ℕ). (inst_at f n).is_ret) last ∙ jump.1
          | inr ret ↦ absurd (let none : (inst_at f i).is_branch ≡ false = ap (λ (n : ℕ). (inst_at f n).is_branch) last ∙ ret.0 in cc)
        ]

-- each block's instructions are the function's
pub ends-within : (f : FunctionValue) → BlocksFollow f → (b : ℕ) → b < length f.blocks → (block_at f b).range.end ≤ length f.insts
ends-within f follow b less = by (nat_lt (b + 1) (length f.blocks)) refl
  where
    by : (c : Bool) → nat_lt (b + 1) (length f.blocks) ≡ c → (block_at f b).range.end ≤ length f.insts
    by true e =
        let inside : b + 1 < length f.blocks = is-below (b + 1) (length f.blocks) e in
        let back : b + 1 - 1 ≡ b = omega arith in
        let joined : (block_at f (b + 1)).range.first ≡ (block_at f b).range.end =
        (follow (b + 1) inside).2 (omega arith) ∙ ap (λ (n : ℕ). (block_at f n).range.end) back in
        let rest = rest-from f (b + 1) (length f.blocks - (b + 2)) follow (omega (arith, inside)) in
        omega (arith, joined, rest.first)
    by false e =
        let past : length f.blocks ≤ b + 1 = is-past (b + 1) (length f.blocks) e in
        let last : b + 1 ≡ length f.blocks = omega (arith, past, less) in
        omega (arith, (follow b less).3 last)
