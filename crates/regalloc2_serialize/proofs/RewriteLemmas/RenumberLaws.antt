-- A function whose blocks are laid out in another order is that function renumbered.
use Rattle.std.proofs.Common.{◌≡◌, ◌∙◌, ℕ, ◌+◌, ◌-◌, ◌<◌, ◌≤◌, Bool, true, false, List, [], length, get_or, map, refl, sym, ap, subst, arith}
use Rattle.std.specs.Prelude.{All, Contains, nat_lt, slice_index, slice_index_or}
use Rattle.std.proofs.lemmas.Bool.Decides.{nat_tests}
use Rattle.std.proofs.lemmas.List.{get_or_default, get_or_past, get_or-map, length-map}
use Rattle.std.proofs.lemmas.List.FromFn.{get_or-map-range_with_len, length-map-range_with_len}
use Rattle.regalloc2_function.specs.FunctionValue.{FunctionValue, InstValue, IsLimited, Label, block_at, inst_at, no_inst, last_of}
use Rattle.regalloc2_function.specs.WellFormed.{IsFramed, EndsBlock}
use Rattle.regalloc2_serialize.specs.TableFunction.Draft.{DraftValue, declared_with, draft_at}
use Rattle.regalloc2_serialize.specs.TableFunction.Built.{IsAstray, IsUnbuilt}
use Rattle.regalloc2_serialize.specs.Rewrite.Laid.{HasDrafts, IsFramedDraft, IsLaidLike}
use Rattle.regalloc2_serialize.specs.Rewrite.Renumbered.{ListsEachOnce, IsRenumberedBlock, IsRenumbered, IsUnrenumbered, new_number, renamed}
use Rattle.regalloc2_serialize.specs.Rewrite.Rewritten.{rewrite_error}
use Rattle.regalloc2_serialize.specs.declared.table_function.builder.BuildError.{BuildError}
use Rattle.regalloc2_serialize.specs.declared.table_function.builder.BuildError.TheVariants.{Memory, NoBlock, TooManyBlocks, TooManyInsts, TooManyVRegs}
use Rattle.regalloc2_serialize.proofs.RewriteLemmas.Lists.{map-alike}
use Rattle.regalloc2_serialize.proofs.RewriteLemmas.LaidLaws.{IsLaidAt, laid-at, count-laid, framed-laid}
use Rattle.regalloc2_serialize.proofs.RewriteLemmas.OrderCounts.{order-keeps-insts}
use Rattle.regalloc2_serialize.proofs.RewriteLemmas.PredCounts.{preds-agree}
use Rattle.regalloc2_serialize.proofs.RewriteLemmas.SamePaths.{HasMovedBlocks, number-at, same-paths}

-- how many instructions a block has
abbrev size : FunctionValue → ℕ → ℕ
size f b = (block_at f b).range.end - (block_at f b).range.first

long-renamed : (number : ℕ → ℕ) (f : FunctionValue) (b : ℕ) → length (renamed number f b).insts ≡ size f b
long-renamed number f b = length-map-range_with_len (inst_at f) (block_at f b).range.first (size f b)

inst-renamed : (number : ℕ → ℕ) (f : FunctionValue) (b j : ℕ) → j < size f b →
    slice_index_or (renamed number f b).insts j no_inst ≡ inst_at f ((block_at f b).range.first + j)
inst-renamed number f b j less =
    get_or-map-range_with_len (inst_at f) (block_at f b).range.first (size f b) j ((block_at f b).range.first + j) no_inst less refl

arguments-renamed : (number : ℕ → ℕ) (f : FunctionValue) (b k : ℕ) → k < length (block_at f b).succs →
    slice_index_or (renamed number f b).arguments k [] ≡ slice_index_or (block_at f b).arguments k []
arguments-renamed number f b k less =
    get_or-map-range_with_len (λ i. slice_index_or (block_at f b).arguments i []) 0 (length (block_at f b).succs) k k [] less (omega arith)

module _ (f : FunctionValue) (order : List ℕ) (framed : IsFramed f) (is : ListsEachOnce (length f.blocks) order) where
  abbrev all : List DraftValue
  all = map (renamed (new_number order) f) order

  long : length all ≡ length f.blocks
  long = length-map order (renamed (new_number order) f) ∙ is.long

  draft-of : (n : ℕ) → n < length order → draft_at all n ≡ renamed (new_number order) f (slice_index order n)
  draft-of n less = get_or-map (renamed (new_number order) f) order n 0 (declared_with []) less

  number-less : (b : ℕ) → b < length f.blocks → new_number order b < length order
  number-less b less = (number-at order b (is.each b less)).0

  draft-numbered : (b : ℕ) → b < length f.blocks → draft_at all (new_number order b) ≡ renamed (new_number order) f b
  draft-numbered b less =
      let at = number-at order b (is.each b less) in
      draft-of (new_number order b) at.0 ∙ ap (renamed (new_number order) f) at.1

  block-less : (n : ℕ) → n < length order → slice_index order n < length f.blocks
  block-less n less = is.within n 0 less

  framed-renamed : (b : ℕ) → b < length f.blocks → IsFramedDraft all (renamed (new_number order) f b)
  framed-renamed b less = record { nonempty = nonempty; last = last; others = others; counted = counted }
    where
      first : ℕ
      first = (block_at f b).range.first

      end : ℕ
      end = (block_at f b).range.end

      rises : first < end
      rises = (framed.follow b less).0

      d : DraftValue
      d = renamed (new_number order) f b

      many : length d.insts ≡ end - first
      many = long-renamed (new_number order) f b

      nonempty : 0 < length d.insts
      nonempty = omega (arith, many, rises)

      last : EndsBlock (slice_index_or d.insts (length d.insts - 1) no_inst) (length d.succs)
      last =
          let at : slice_index_or d.insts (length d.insts - 1) no_inst ≡ inst_at f (first + (length d.insts - 1)) =
          inst-renamed (new_number order) f b (length d.insts - 1) (omega (arith, many, rises)) in
          let same : first + (length d.insts - 1) ≡ last_of (block_at f b) = omega (arith, many, rises) in
          rw (at, same, length-map) (framed.end b less).0

      others : (j : ℕ) → j + 1 < length d.insts → let i : InstValue = slice_index_or d.insts j no_inst in (i.is_branch ≡ false) × (i.is_ret ≡ false)
      others j more =
          let at : slice_index_or d.insts j no_inst ≡ inst_at f (first + j) = inst-renamed (new_number order) f b j (omega (arith, many, more)) in
          rw at ((framed.end b less).1 (first + j) (omega arith) (omega (arith, many, more)) (omega (arith, many, more)))

      counted : (k : ℕ) → k < length d.succs → length (slice_index_or d.arguments k []) ≡ length (draft_at all (slice_index d.succs k)).params
      counted k within =
          let inside : k < length (block_at f b).succs = omega (arith, length-map (block_at f b).succs (new_number order), within) in
          let t : ℕ = slice_index (block_at f b).succs k in
          let target : slice_index d.succs k ≡ new_number order t = get_or-map (new_number order) (block_at f b).succs k 0 0 inside in
          let there = draft-numbered t (framed.successors.1 b less k 0 inside) in
          rw (arguments-renamed (new_number order) f b k inside, target, there) (framed.counted b less k inside)

  -- the order's blocks, laid out
  module _ (g : FunctionValue) (h : HasDrafts all g) where
    moved-at : (n : ℕ) → n < length f.blocks → IsRenumberedBlock f order (slice_index order n) g n
    moved-at n less =
        let b : ℕ = slice_index order n in
        let inside : n < length order = omega (arith, is.long, less) in
        let here : IsLaidAt all g n = laid-at all g h n (omega (arith, long, less)) in
        let same : draft_at all n ≡ renamed (new_number order) f b = draft-of n inside in
        let rises : (block_at f b).range.first < (block_at f b).range.end = (framed.follow b (block-less n inside)).0 in
        let many : length (draft_at all n).insts ≡ size f b = ap (λ (d : DraftValue). length d.insts) same ∙ long-renamed (new_number order) f b in
        record {
          params = here.params ∙ ap (λ (d : DraftValue). d.params) same;
          succs = here.succs ∙ ap (λ (d : DraftValue). d.succs) same;
          arguments = λ k within. ap (λ xs. slice_index_or xs k []) (here.arguments ∙ ap (λ (d : DraftValue). d.arguments) same)
              ∙ arguments-renamed (new_number order) f b k within;
          long = omega (arith, here.first, here.end, many, rises);
          insts = λ j within. ap (λ (i : ℕ). inst_at g (i + j)) here.first ∙ here.insts j (omega (arith, many, within))
              ∙ ap (λ (d : DraftValue). slice_index_or d.insts j no_inst) same ∙ inst-renamed (new_number order) f b j (omega (arith, within));
        }

    framed-at : (n : ℕ) → n < length all → IsFramedDraft all (draft_at all n)
    framed-at n less =
        let inside : n < length order = omega (arith, long, is.long, less) in
        rw (draft-of n inside) (framed-renamed (slice_index order n) (block-less n inside))

    moved-blocks : g.entry ≡ new_number order f.entry → HasMovedBlocks f order g
    moved-blocks entry = record { listed = is; framed = framed; blocks = moved-at; entry = entry }

renamed-same : (f : FunctionValue) (m n : ℕ → ℕ) (b : ℕ) → All (λ s. m s ≡ n s) (block_at f b).succs → renamed m f b ≡ renamed n f b
renamed-same f m n b same =
    let e : map m (block_at f b).succs ≡ map n (block_at f b).succs = map-alike m n (block_at f b).succs same in
    ap (λ (succs : List ℕ). record {
      params = (renamed n f b).params;
      insts = (renamed n f b).insts;
      succs = succs;
      arguments = (renamed n f b).arguments;
    }) e

-- blocks under the numbers of a table are the blocks under the numbers of the order
pub by-table : (f : FunctionValue) (order numbers : List ℕ) → IsFramed f → ListsEachOnce (length f.blocks) order →
    ((b : ℕ) → b < length f.blocks → slice_index numbers b ≡ new_number order b) →
    map (renamed (λ s. slice_index numbers s) f) order ≡ map (renamed (new_number order) f) order
by-table f order numbers framed is table =
    map-alike (renamed (λ s. slice_index numbers s) f) (renamed (new_number order) f) order (λ k d less.
    let b : ℕ = get_or order k d in
    let within : b < length f.blocks = is.within k d less in
    renamed-same f (λ s. slice_index numbers s) (new_number order) b (λ i e inside. table _ (framed.successors.1 b within i e inside)))

no-stray : (f : FunctionValue) (order : List ℕ) → IsFramed f → ListsEachOnce (length f.blocks) order → (s : ℕ) →
    IsAstray (map (λ d. d.succs) (map (renamed (new_number order) f) order)) s → ⊥
no-stray f order framed is s astray = by (nat_lt n (length order)) refl
  where
    n : ℕ
    n = astray.from

    succs : List ℕ
    succs = slice_index_or (map (λ d. d.succs) (map (renamed (new_number order) f) order)) n []

    many : length (map (λ d. d.succs) (map (renamed (new_number order) f) order)) ≡ length order
    many = length-map (map (renamed (new_number order) f) order) (λ d. d.succs) ∙ length-map order (renamed (new_number order) f)

    by : (c : Bool) → nat_lt n (length order) ≡ c → ⊥
    by false e =
        let past : length order ≤ n = grind (arith, nat_tests) in
        let none : succs ≡ [] = get_or_past (map (λ d. d.succs) (map (renamed (new_number order) f) order)) n [] (omega (arith, many, past)) in
        let has : Contains [] s = subst (λ (xs : List ℕ). Contains xs s) none astray.listed in
        omega (arith, has.1)
    by true e =
        let less : n < length order = grind (arith, nat_tests) in
        let b : ℕ = slice_index order n in
        let within : b < length f.blocks = is.within n 0 less in
        let here : succs ≡ map (new_number order) (block_at f b).succs =
        get_or-map (λ (d : DraftValue). d.succs) (map (renamed (new_number order) f) order) n (declared_with []) [] (omega (arith, less, length-map order (renamed (new_number order) f)))
        ∙ ap (λ (d : DraftValue). d.succs) (draft-of f order framed is n less) in
        let has : Contains (map (new_number order) (block_at f b).succs) s = subst (λ (xs : List ℕ). Contains xs s) here astray.listed in
        let k : ℕ = has.0 in
        let inside : k < length (block_at f b).succs = omega (arith, has.1, length-map (block_at f b).succs (new_number order)) in
        let t : ℕ = slice_index (block_at f b).succs k in
        let at : s ≡ new_number order t = sym has.2 ∙ get_or-map (new_number order) (block_at f b).succs k 0 s inside in
        omega (arith, at, number-less f order framed is t (framed.successors.1 b within k 0 inside), astray.absent, many)

-- what is laid out of blocks under the numbers of an order is the function renumbered
pub renumbered : (f : FunctionValue) (order : List ℕ) (g : FunctionValue) → IsFramed f → ListsEachOnce (length f.blocks) order →
    IsLaidLike f (new_number order f.entry) [] (map (renamed (new_number order) f) order) g → IsRenumbered f order g
renumbered f order g framed is laid =
    let h : HasDrafts (all f order framed is) g = laid.laid in
    let moved : HasMovedBlocks f order g = moved-blocks f order framed is g h laid.entry in
    record {
      framed = framed-laid (all f order framed is) g h (framed-at f order framed is g h)
          (omega (arith, long f order framed is, is.long, number-less f order framed is f.entry framed.successors.0, laid.entry));
      predecessors = preds-agree (all f order framed is) g h;
      count = count-laid (all f order framed is) g h ∙ long f order framed is;
      blocks = moved.blocks;
      entry = laid.entry;
      num_vregs = laid.num_vregs;
      slot_sizes = laid.slot_sizes;
      named_by_last_slot = laid.named_by_last_slot;
      labels = laid.labels;
      allows_multiple_defs = laid.allows_multiple_defs;
      same_paths = same-paths f order g moved;
    }

-- blocks under the numbers of an order, of a function within its limits, can only lack memory
pub unbuilt-renumbered : (f : FunctionValue) (order : List ℕ) (e : BuildError) → IsLimited f → IsFramed f → ListsEachOnce (length f.blocks) order →
    IsUnbuilt (map (renamed (new_number order) f) order) f.num_vregs e → IsUnrenumbered f order (rewrite_error e)
unbuilt-renumbered f order Memory limited framed is why = tt
unbuilt-renumbered f order (NoBlock s) limited framed is why = absurd (no-stray f order framed is s why)
unbuilt-renumbered f order TooManyBlocks limited framed is why =
    omega (arith, why, long f order framed is, limited.blocks)
unbuilt-renumbered f order TooManyInsts limited framed is why =
    omega (arith, why, order-keeps-insts (new_number order) f order framed.follow framed.successors.0 is, limited.insts)
unbuilt-renumbered f order TooManyVRegs limited framed is why = omega (arith, why, limited.vregs)

-- a function is renumbered if the numbers are taken from a table
module _ (f : FunctionValue) (order numbers : List ℕ) (drafts : List DraftValue) (framed : IsFramed f) (is : ListsEachOnce (length f.blocks) order)
    (table : (b : ℕ) → b < length f.blocks → slice_index numbers b ≡ new_number order b)
    (same : drafts ≡ map (renamed (λ s. slice_index numbers s) f) order) where
  by-order : drafts ≡ map (renamed (new_number order) f) order
  by-order = same ∙ by-table f order numbers framed is table

  pub renumbered-by-table : (entry : ℕ) (labels : List Label) (g : FunctionValue) → labels ≡ [] → length numbers ≡ length f.blocks →
      entry ≡ get_or numbers f.entry entry → IsLaidLike f entry labels drafts g → IsRenumbered f order g
  renumbered-by-table entry labels g none long at laid =
      let start : entry ≡ new_number order f.entry =
      at ∙ get_or_default numbers f.entry entry 0 (omega (arith, long, framed.successors.0)) ∙ table f.entry framed.successors.0 in
      renumbered f order g framed is (rw (start, none, by-order) at laid)

  pub unbuilt-by-table : (e : BuildError) → IsLimited f → IsUnbuilt drafts f.num_vregs e → IsUnrenumbered f order (rewrite_error e)
  unbuilt-by-table e limited why =
      unbuilt-renumbered f order e limited framed is (subst (λ ds. IsUnbuilt ds f.num_vregs e) by-order why)
