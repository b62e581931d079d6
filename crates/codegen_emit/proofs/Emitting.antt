-- Code that grows with each emitted item.
use Rattle.std.proofs.Common.{ℕ, suc, ◌≡◌, ◌+◌, ◌<◌, ◌≤◌, max, Bool, true, false, List, [], ◌∷◌, ◌++◌, length, refl, sym, ap, subst, ◌∙◌, arith}
use Rattle.std.proofs.Common.{append_assoc, append-nil, add-one, below_more, get_or, take}
use Rattle.std.specs.Prelude.{slice_index, All, map, nat_lt, if◌then◌else◌}
use Rattle.std.proofs.Math.Path.{fun_ext}
use Rattle.std.proofs.Math.ListN.{get_or-map}
use Rattle.std.proofs.lemmas.Bool.{ltb-true, ltb-false}
use Rattle.std.proofs.lemmas.List.{get_or_default, get_or_past, length-map, take_more}
use Rattle.std.proofs.lemmas.List.Recursion.{max_push}
use Rattle.std.proofs.lemmas.Grind.{common_steps}
use Rattle.regalloc2_function.specs.FunctionValue.{FunctionValue}
use Rattle.regalloc2_names.specs.Place.{Place}
use Rattle.regalloc2_function.specs.OutputValue.{OutputValue, place_at}
use Rattle.regalloc2_function.specs.Listing.{Listed, ListedInst, ListedMove, IsListedWithin}
use Rattle.codegen_machine.specs.Seen.{Operations}
use Rattle.codegen_machine.specs.Successors.{operations_of}
use Rattle.codegen_operation.specs.declared.line.Line.{Line}
use Rattle.codegen_operation.specs.declared.operation.Operation.{Operation}
use Rattle.codegen_machine.specs.declared.Instruction.{Instruction}
use Rattle.codegen_emit.specs.Emitted.{item_code, items_code, block_code, blocks_code, block_start, pass_code, passes_code, stack_arguments, outgoing_words}
use Rattle.codegen_emit.specs.Emitted.{block_label, emitted, resolved}

-- the numbers within a block are within the function
wider : (first end n : ℕ) (x : Listed) → end ≤ n → IsListedWithin first end x → IsListedWithin 0 n x
wider first end n (ListedInst i) le h = (omega arith, (let less = h.1 in omega arith))
wider first end n (ListedMove m) le h = tt

pub all_wider : (first end n : ℕ) (left : List Listed) → end ≤ n → All (IsListedWithin first end) left → All (IsListedWithin 0 n) left
all_wider first end n left le h = λ k d less. wider first end n _ le (h k d less)

-- the next item, and the items after it
pub next_within : (n : ℕ) (x : Listed) (left rest : List Listed) → All (IsListedWithin 0 n) left → left ≡ x ∷ rest →
    IsListedWithin 0 n x × All (IsListedWithin 0 n) rest
next_within n x left rest h is =
    let all : All (IsListedWithin 0 n) (x ∷ rest) = subst (λ (xs : List Listed). All (IsListedWithin 0 n) xs) is h in
    (all 0 x (omega arith), λ k d less. all (suc k) d (omega arith))

-- no argument is passed on the stack yet, and one more
pub no_pass : (code : List Instruction) (ps : List Place) → code ≡ code ++ passes_code 0 ps
unfolding passes_code
no_pass code ps = sym (append-nil code)

pub one_pass : (whole code more : List Instruction) (n : ℕ) (ps : List Place) → code ≡ whole ++ passes_code n ps →
    more ≡ code ++ pass_code n (place_at ps (n + 7)) → more ≡ whole ++ passes_code (n + 1) ps
unfolding passes_code
one_pass whole code more n ps h grown =
    rw add-one (grown ∙ ap (λ xs. xs ++ pass_code n (place_at ps (n + 7))) h ∙ append_assoc whole (passes_code n ps) (pass_code n (place_at ps (n + 7))))

-- the most words that operations need, and that operations with one more need
pub no_words : 0 ≡ outgoing_words []
unfolding outgoing_words
no_words = refl

words_more : (os : List Operation) (o : Operation) → outgoing_words (os ++ o ∷ []) ≡ max (outgoing_words os) (stack_arguments o)
unfolding outgoing_words
words_more os o = max_push outgoing_words stack_arguments refl (λ x xs. refl) os o

pub one_word : (lines : List Line) (n most made result : ℕ) (l : Line) → n < length lines → l ≡ get_or lines n l → most ≡ outgoing_words
    (take n (operations_of lines)) → made ≡ stack_arguments l.operation → result ≡ max made most → result ≡ outgoing_words (take (n + 1) (operations_of lines))
one_word lines n most made result l less here h this is =
    let os : List Operation = operations_of lines in
    let within : n < length os = omega (arith, less, length-map lines (λ (x : Line). x.operation)) in
    let same : get_or os n l.operation ≡ l.operation = get_or-map (λ (x : Line). x.operation) lines n l ∙ ap (λ (x : Line). x.operation) (sym here) in
    let before : outgoing_words (take (n + 1) os) ≡ max (outgoing_words (take n os)) (stack_arguments (get_or os n l.operation)) =
    ap outgoing_words (take_more os n l.operation within) ∙ words_more (take n os) (get_or os n l.operation) in
    let now : stack_arguments (get_or os n l.operation) ≡ stack_arguments l.operation = ap stack_arguments same in
    omega (arith, h, this, is, before, now)

-- the operation of a line, by the line's number
pub operation_here : (lines : List Line) (i : ℕ) (l : Line) (o : Operation) → i < length lines → l ≡ get_or lines i l → get_or (operations_of lines) i o ≡ l.operation
operation_here lines i l o less here =
    let within : i < length (operations_of lines) = omega (arith, less, length-map lines (λ (x : Line). x.operation)) in
    get_or_default (operations_of lines) i o l.operation within
    ∙ get_or-map (λ (x : Line). x.operation) lines i l ∙ ap (λ (x : Line). x.operation) (sym here)

module _ (operations : Operations) (out : OutputValue) where
  -- one item of a listing is emitted, and the others are left
  pub one_item : (succs : List ℕ) (next : ℕ) (whole code more : List Instruction) (x : Listed) (left rest : List Listed) →
      code ++ items_code operations out succs next left ≡ whole → left ≡ x ∷ rest → more ≡ code ++ item_code operations out succs next x →
      more ++ items_code operations out succs next rest ≡ whole
  unfolding items_code
  one_item succs next whole code more x left rest h is grown =
      rw grown (append_assoc code (item_code operations out succs next x) (items_code operations out succs next rest)
      ∙ ap (λ xs. code ++ items_code operations out succs next xs) (sym is) ∙ h)

  -- no item is left
  pub no_item : (succs : List ℕ) (next : ℕ) (whole code : List Instruction) (left : List Listed) → code ++ items_code operations out succs next left ≡ whole →
      left ≡ [] → code ≡ whole
  unfolding items_code
  no_item succs next whole code left h none = sym (append-nil code) ∙ ap (λ xs. code ++ items_code operations out succs next xs) (sym none) ∙ h

  -- no block is emitted
  pub no_block_yet : (f : FunctionValue) → [] ≡ blocks_code operations out f 0
  unfolding blocks_code
  no_block_yet f = refl

  -- one more block is emitted
  pub one_block : (f : FunctionValue) (b : ℕ) (code more : List Instruction) → code ≡ blocks_code operations out f b →
      more ≡ code ++ block_code operations out f b →
      more ≡ blocks_code operations out f (b + 1)
  unfolding blocks_code
  one_block f b code more h grown = rw add-one (grown ∙ ap (λ xs. xs ++ block_code operations out f b) h)

  -- the positions of the first instructions of the blocks emitted so far
  pub record AreStarts (f : FunctionValue) (starts : List ℕ) (b : ℕ) : Type 0 where
    pub long : length starts ≡ b
    pub starts_at : (k : ℕ) → k < b → slice_index starts k ≡ block_start operations out f k

  pub no_start : (f : FunctionValue) → AreStarts f [] 0
  no_start f = record { long = refl; starts_at = λ k less. absurd (omega arith) }

  -- the position of one more block's first instruction
  pub one_start : (f : FunctionValue) (b : ℕ) (starts more : List ℕ) (code : List Instruction) (start : ℕ) → AreStarts f starts b →
      code ≡ blocks_code operations out f b → start ≡ length code → more ≡ starts ++ start ∷ [] → AreStarts f more (b + 1)
  one_start f b starts more code start s is at grown = record {
    long = grind (arith, common_steps, s.long, grown);
    starts_at = λ k less. at_each k less;
  }
    where
      at_last : slice_index more b ≡ block_start operations out f b
      at_last = let here : start ≡ block_start operations out f b = at ∙ ap length is in let long = s.long in grind (arith, common_steps)

      before : (k : ℕ) → k < b → slice_index more k ≡ block_start operations out f k
      before k less = let same : slice_index more k ≡ slice_index starts k = (let long = s.long in grind (arith, common_steps)) in same ∙ s.starts_at k less

      at_each : (k : ℕ) → k < b + 1 → slice_index more k ≡ block_start operations out f k
      at_each = below_more _ b before at_last

  -- once all blocks are emitted, their first instructions are what jumps are resolved to
  labels_are : (f : FunctionValue) (starts : List ℕ) → AreStarts f starts (length f.blocks) → (λ b. slice_index starts b) ≡ block_label operations out f
  labels_are f starts s = fun_ext λ b. at b (nat_lt b (length f.blocks)) refl
    where
      at : (b : ℕ) (below : Bool) → nat_lt b (length f.blocks) ≡ below → slice_index starts b ≡ (if below then block_start operations out f b else 0)
      at b true is = s.starts_at b (ltb-true b (length f.blocks) is)
      at b false is = get_or_past starts b 0 (omega (arith, s.long, ltb-false b (length f.blocks) is))

  -- the instructions of all blocks, with jumps resolved
  pub all_resolved : (f : FunctionValue) (b : ℕ) (starts : List ℕ) (code made : List Instruction) → b ≡ length f.blocks → code ≡ blocks_code operations out f b →
      AreStarts f starts b → made ≡ map (resolved (λ b. slice_index starts b)) code → made ≡ (emitted operations f out).instructions
  all_resolved f b starts code made all is s resolves =
      let every : AreStarts f starts (length f.blocks) = subst (λ (n : ℕ). AreStarts f starts n) all s in
      rw (resolves, is, all, labels_are f starts every) refl
